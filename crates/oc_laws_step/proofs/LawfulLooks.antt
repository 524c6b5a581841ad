-- Rule 12, look, keeps a node lawful, and its records and messages are lawful.
use Rattle.std.proofs.Common.{ℕ, ◌+◌, ◌-◌, ◌<◌, Bool, not, ◌&&◌, ◌||◌, ◌==◌, nat_lt, nat_le, if◌then◌else◌, Option, Some, None, List, [], ◌∷◌, map, filter, arith}
use Rattle.std.specs.List.{AllByRecursion}
use Rattle.std.proofs.lemmas.Bool.{cond_both}
use Rattle.oc_base.specs.declared.cert.Cert.{Cert}
use Rattle.oc_base.specs.declared.cert.Child.{Child}
use Rattle.oc_model.specs.declared.message.Body.TheVariants as bodies
use Rattle.oc_model.specs.declared.mode.Mode.{Mode}
use Rattle.oc_model.specs.declared.mode.Mode.TheVariants as modes
use Rattle.oc_model.specs.declared.place.Review.{Review}
use Rattle.oc_model.specs.declared.place.Review.TheVariants as reviews
use Rattle.oc_model.specs.declared.soft.Search.{Search}
use Rattle.oc_model.specs.declared.soft.Search.TheVariants as searches
use Rattle.oc_model.specs.declared.soft.Soft.{Soft}
use Rattle.oc_model.specs.declared.soft.TheConstants.{MAX_MOVES}
use Rattle.oc_model.specs.Adopting.{in_tree}
use Rattle.oc_model.specs.Asking.{ask_before, next_try}
use Rattle.oc_model.specs.Choice.{chosen, reviewed}
use Rattle.oc_base.specs.Lawful.{IsNode, IsNodeOrNone, IsRate, AreCerts, AreChildren}
use Rattle.oc_model.specs.Looking.{parent_of, rate_to_some, children, looked, Stand, candidate, candidates, goes_down, descends, grandparent, view, place_in, is_place, wishes, leaves_for, goes_where, weighs, reviews_place, prefers, keeps_line, sees_as, sees}
use Rattle.oc_model.specs.Node.{Control}
use Rattle.oc_model.specs.Numbers.{at, has}
use Rattle.oc_model.specs.Plan.{Plan, with_soft, searching, ignored, is_member, rate_to}
use Rattle.oc_model.specs.Table.{is_lease_of, leased_children}
use Rattle.oc_laws_step.specs.LawfulNode.{IsLawfulMode, IsLawfulControl, IsLawfulPlan}
use Rattle.oc_laws_step.specs.Sound.{IsTable}
use Rattle.oc_laws_step.proofs.Goes.{either}
use Rattle.oc_laws_step.proofs.LawfulAsks.{lawful_ignored, lawful_ask, lawful_ask_before, lawful_descend, lawful_next_try}
use Rattle.oc_laws_step.proofs.LawfulFolds.{lawful_send, lawful_soft, lawful_searching}
use Rattle.oc_laws_step.proofs.Ranges.{IfFound, IfReviewed, all_filter, all_map, all_at, reading_rate, chosen_one, reviewed_one}

-- a child with the rate that it told last
abbrev child_of : List ℕ → ℕ → Child
child_of rates x = record { id = x; rate = at rates x 0 }

-- the leased children ascend, as the table does, and so does any part of them
children_lawful : (nodes y : ℕ) (rates : List ℕ) (told : ℕ → Bool) (t : List Cert) → AllByRecursion IsRate rates → IsTable t → AreCerts nodes t
    → AreChildren nodes (map (child_of rates) (filter told (leased_children t y)))
children_lawful nodes y rates told [] fast up all = tt
children_lawful nodes y rates told (k ∷ ks) fast up all =
    cond_both (is_lease_of y k) (k ∷ filter (is_lease_of y) ks) (filter (is_lease_of y) ks) (λ rows. AreChildren nodes (map (child_of rates) (filter told (map (λ c. c.subject) rows))))
    (λ _. cond_both (told k.subject) (k.subject ∷ filter told (leased_children ks y)) (filter told (leased_children ks y)) (λ xs. AreChildren nodes (map (child_of rates) xs))
    (λ _. (
      all.0.subject,
      all_at IsRate rates (k.subject - 1) 0 (omega arith) fast,
      all_map (λ d. k.subject < d.id) (child_of rates) (filter told (leased_children ks y))
          (all_filter (λ x. k.subject < x) told (leased_children ks y)
          (all_map (λ x. k.subject < x) (λ c. c.subject) (filter (is_lease_of y) ks) (all_filter (λ c. k.subject < c.subject) (is_lease_of y) ks up.0))),
      children_lawful nodes y rates told ks fast up.1 all.1,
    ))
    (λ _. children_lawful nodes y rates told ks fast up.1 all.1))
    (λ _. children_lawful nodes y rates told ks fast up.1 all.1)

-- children that were told are nodes
told_nodes : (nodes : ℕ) (cs : List Child) → AreChildren nodes cs → AllByRecursion (λ c. IsNode nodes c.id) cs
told_nodes nodes [] all = tt
told_nodes nodes (c ∷ cs) all = (all.0, told_nodes nodes cs all.3)

-- the position of another node, as it told it, within the ranges
pub record IsLawfulStand (nodes : ℕ) (s : Stand) : Type 0 where
  pub parent : IsNodeOrNone nodes s.parent
  pub children : AreChildren nodes s.children

candidates_nodes : (nodes : ℕ) (n : Control) (cs : List Child) → AreChildren nodes cs → AllByRecursion (λ c. IsNode nodes c.id) (candidates n cs)
candidates_nodes nodes n cs all =
    all_map (λ c. IsNode nodes c.id) (candidate n) (filter (λ c. not (c.id == n.me)) cs) (all_filter (λ c. IsNode nodes c.id) (λ c. not (c.id == n.me)) cs (told_nodes nodes cs all))

grand_node : (nodes : ℕ) (n : Control) (p : ℕ) (g : Option ℕ) → IsNodeOrNone nodes g → IfFound (λ h. IsNode nodes (h.0)) (grandparent n p g)
grand_node nodes n p None to = tt
grand_node nodes n p (Some g) to = cond_both (g == n.me || (nat_le p n.chain && nat_le g n.chain)) None (Some (g, rate_to n g)) (IfFound (λ h. IsNode nodes (h.0))) (λ _. tt) (λ _. to)

module _ (nodes : ℕ) where
  parent_node : (m : Mode) (seq : ℕ) → IsLawfulMode nodes seq m → IsNodeOrNone nodes (parent_of m)
  parent_node (modes.Joined p) seq mode = mode.1
  parent_node modes.Idle seq mode = tt
  parent_node (modes.Asking p) seq mode = tt
  parent_node modes.Acting seq mode = tt

  parent_rate : (n : Control) (p : Option ℕ) → IsLawfulControl nodes n → IsRate (rate_to_some n p)
  parent_rate n None ok = omega arith
  parent_rate n (Some p) ok = reading_rate n.kept.measures p ok.kept.measures

  pub lawful_looked : (o : Plan) (p : ℕ) → IsNode nodes p → IsLawfulPlan nodes o → IsLawfulPlan nodes (looked o p)
  lawful_looked o p to ok =
      lawful_send nodes o p (bodies.LookIs (in_tree o.node.kept.mode) (parent_of o.node.kept.mode) (rate_to_some o.node (parent_of o.node.kept.mode)) (children o.node)) to (
        parent_node o.node.kept.mode o.node.kept.seq ok.node.kept.mode,
        parent_rate o.node (parent_of o.node.kept.mode) ok.node,
        children_lawful nodes o.node.me o.node.rates (λ x. not (has o.node.kept.ancestors x)) o.node.kept.table ok.node.rates ok.node.kept.sorted ok.node.kept.table,
      )
      ok

  lawful_goes_down : (k : Option ℕ) (o : Plan) (p : ℕ) → IfFound (IsNode nodes) k → IsNode nodes p → IsLawfulPlan nodes o → IsLawfulPlan nodes (goes_down k o p)
  lawful_goes_down None o p here to ok = lawful_ask nodes o p to ok
  lawful_goes_down (Some k) o p here to ok = lawful_descend nodes o k here ok

  lawful_descends : (o : Plan) (p : ℕ) (s : Stand) → IsNode nodes p → IsLawfulStand nodes s → IsLawfulPlan nodes o → IsLawfulPlan nodes (descends o p s)
  lawful_descends o p s to told ok =
      either s.in_tree (IsLawfulPlan nodes) (goes_down (chosen (rate_to o.node p) (candidates o.node s.children)) o p) (next_try (searching o None))
      (lawful_goes_down (chosen (rate_to o.node p) (candidates o.node s.children)) o p
      (chosen_one (IsNode nodes) (rate_to o.node p) (candidates o.node s.children) (candidates_nodes nodes o.node s.children told.children)) to ok)
      (lawful_next_try nodes (searching o None) (lawful_searching nodes o None tt ok))

  lawful_wishes : (o : Plan) (place : Option ℕ) (count : ℕ) → IsLawfulPlan nodes o → IsLawfulPlan nodes (wishes o place count)
  lawful_wishes o place count ok =
      lawful_soft nodes o (record o.node.soft { wish = place; waits = count }) (record { clock = ok.node.soft.clock; tries = ok.node.soft.tries; search = ok.node.soft.search }) ok

  lawful_leaves_for : (o : Plan) (p g : ℕ) → IsNode nodes g → IsLawfulPlan nodes o → IsLawfulPlan nodes (leaves_for o p g)
  lawful_leaves_for o p g to ok =
      let left : Soft = record o.node.soft { left = Some p; moves = o.node.soft.moves + 1 } in
      lawful_ask_before nodes (with_soft o left) g to (lawful_soft nodes o left (record { clock = ok.node.soft.clock; tries = ok.node.soft.tries; search = ok.node.soft.search }) ok)

  lawful_goes_where : (place : Option ℕ) (o : Plan) (p : ℕ) → IfFound (IsNode nodes) place → IsLawfulPlan nodes o → IsLawfulPlan nodes (goes_where place o p)
  lawful_goes_where None o p to ok = ok
  lawful_goes_where (Some g) o p to ok =
      either (nat_lt o.node.soft.waits (o.node.soft.patience + 2)) (IsLawfulPlan nodes) (wishes o (Some g) (o.node.soft.waits + 1)) (leaves_for o p g)
      (lawful_wishes o (Some g) (o.node.soft.waits + 1) ok) (lawful_leaves_for o p g to ok)

  lawful_weighs : (o : Plan) (p : ℕ) (place : Option ℕ) → IfFound (IsNode nodes) place → IsLawfulPlan nodes o → IsLawfulPlan nodes (weighs o p place)
  lawful_weighs o p place to ok =
      let soft : Soft = o.node.soft in
      let doubted : Plan = wishes o soft.wish (soft.waits - 1) in
      let wished : Plan = wishes o place soft.waits in
      either (nat_le MAX_MOVES soft.moves) (IsLawfulPlan nodes) (wishes o None 0)
      (if not (is_place place soft.wish) && nat_lt 0 soft.waits then doubted else goes_where place wished p)
      (lawful_wishes o None 0 ok)
      (either (not (is_place place soft.wish) && nat_lt 0 soft.waits) (IsLawfulPlan nodes) doubted (goes_where place wished p)
      (lawful_wishes o soft.wish (soft.waits - 1) ok) (lawful_goes_where place wished p to (lawful_wishes o place soft.waits ok)))

  place_found : (r : Review) → IfReviewed (IsNode nodes) r → IfFound (IsNode nodes) (place_in r)
  place_found reviews.Stay to = tt
  place_found (reviews.Up g) to = to
  place_found (reviews.Beneath k) to = to

  lawful_reviews : (o : Plan) (p : ℕ) (s : Stand) → IsLawfulStand nodes s → IsLawfulPlan nodes o → IsLawfulPlan nodes (reviews_place o p s)
  lawful_reviews o p s told ok =
      lawful_weighs (searching o None) p (place_in (reviewed (view o.node p s)))
      (place_found (reviewed (view o.node p s))
      (reviewed_one (IsNode nodes) (view o.node p s) (grand_node nodes o.node p s.parent told.parent) (candidates_nodes nodes o.node s.children told.children)))
      (lawful_searching nodes o None tt ok)

  lawful_keeps_line : (o : Plan) (p : ℕ) (s : Stand) → IsNode nodes p → IsLawfulPlan nodes o → IsLawfulPlan nodes (keeps_line o p s)
  lawful_keeps_line o p s to ok =
      either (is_member o.node && prefers o.node.kept.mode p && nat_lt p o.node.me && s.in_tree) (IsLawfulPlan nodes) (ask_before o p) (ignored o)
      (lawful_ask_before nodes o p to ok) (lawful_ignored nodes o ok)

  lawful_sees_as : (m : Mode) (search : Option Search) (o : Plan) (p : ℕ) (s : Stand) → IsNode nodes p → IsLawfulStand nodes s → IsLawfulPlan nodes o → IsLawfulPlan nodes (sees_as m search o p s)
  lawful_sees_as modes.Idle (Some (searches.Descend q)) o p s to told ok =
      either (q == p) (IsLawfulPlan nodes) (descends o p s) (keeps_line o p s) (lawful_descends o p s to told ok) (lawful_keeps_line o p s to ok)
  lawful_sees_as (modes.Joined q) (Some searches.Review) o p s to told ok =
      either (q == p) (IsLawfulPlan nodes) (reviews_place o p s) (keeps_line o p s) (lawful_reviews o p s told ok) (lawful_keeps_line o p s to ok)
  lawful_sees_as m search o p s to told ok = lawful_keeps_line o p s to ok

  pub lawful_sees : (o : Plan) (p : ℕ) (s : Stand) → IsNode nodes p → IsLawfulStand nodes s → IsLawfulPlan nodes o → IsLawfulPlan nodes (sees o p s)
  lawful_sees o p s to told ok = lawful_sees_as o.node.kept.mode o.node.soft.search o p s to told ok
