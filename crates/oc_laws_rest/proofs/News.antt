-- New networks: each node that was started is new.
use Rattle.std.proofs.Common.{◌≡◌, ℕ, ◌≤◌, Bool, true, false, nat_le, Some, None, List, [], ◌∷◌, ◌⊎◌, inl, inr, length, map, refl, ap, sym, subst, ◌∙◌, ⊎_elim, arith}
use Rattle.std.specs.List.{range_with_len}
use Rattle.std.proofs.lemmas.Bool.{cases_eq, cond_both, leb-true, leb-false, le-leb, and_parts, false_from_ne_true}
use Rattle.oc_model.specs.declared.event.Event.TheVariants.{Up}
use Rattle.oc_model.specs.Adopting.{birth}
use Rattle.oc_model.specs.Chains.{IsUp}
use Rattle.oc_model.specs.ClaimsTree.{seq_of}
use Rattle.oc_model.specs.Lawful.{IsHeader}
use Rattle.oc_model.specs.NextWorld.{put, next_world, world_after}
use Rattle.oc_model.specs.Node.{Header, new_node, restarted}
use Rattle.oc_model.specs.Plan.{is_member}
use Rattle.oc_model.specs.Table.{newest}
use Rattle.oc_model.specs.World.{World, Process, process, process_in, with_process, is_up, ids, new_world}
use Rattle.oc_model.specs.WorldBounds.{IsOneOf}
use Rattle.oc_model.proofs.GoesOn.{ids-always}
use Rattle.oc_model.proofs.Places.{ids-with_process}
use Rattle.oc_model.proofs.Processes.{process_in-me, process_in-with_other, up_in}
use Rattle.oc_laws_world.proofs.Present.{new_found, found_at}
use Rattle.oc_laws_rest.specs.Rounds.{Round, after_round, after_rounds, is_round, are_later_rounds, is_quiet}
use Rattle.oc_laws_rest.specs.Rest.{IsAtRest, begun, IsOnlyMember}
use Rattle.oc_laws_rest.proofs.Forms.{numbers_in}
use Rattle.oc_laws_rest.proofs.Moves.{Is}
use Rattle.oc_laws_rest.proofs.Rows.{IsLeaf}
use Rattle.oc_laws_rest.proofs.Star.{HasRow, Joins, RootIs}
use Rattle.oc_laws_rest.proofs.Ticks.{Begins, Ends, round_ends}
use Rattle.oc_laws_rest.proofs.Rested.{Rests, at_rest, asked}

-- a new node, up or down
abbrev new_process : Header → ℕ → Bool → Process
new_process h x b = record { node = new_node h x; up = b }

-- nothing has happened but starts
record IsFresh (h : Header) (w : World) : Type 0 where
  net : w.net ≡ []
  ids : ids w ≡ range_with_len 1 h.nodes
  each : (x : ℕ) → IsOneOf x (range_with_len 1 h.nodes) → (b : Bool) × (process w x ≡ new_process h x b)

fresh_new : (h : Header) → IsFresh h (new_world h)
fresh_new h = record { net = refl; ids = ids-always h []; each = λ x one. (false, new_found h (range_with_len 1 h.nodes) x one) }

fresh_started : (h : Header) (w : World) (y : ℕ) → IsFresh h w → IsFresh h (next_world w (Up y))
fresh_started h w y fresh = cond_both (process w y).up w (put w q) (IsFresh h) (λ _. fresh) (λ _. record {
  net = fresh.net;
  ids = ids-with_process w.processes q ∙ fresh.ids;
  each = λ x one. ⊎_elim (here x one) (λ apart. let was = fresh.each x one in (was.0, process_in-with_other w.processes q x (λ e. apart (sym (process_in-me w.processes y) ∙ e)) ∙ was.1)) (cases_eq y x);
}) where
  q : Process
  q = record { node = restarted (process w y).node; up = true }

  here : (x : ℕ) → IsOneOf x (range_with_len 1 h.nodes) → y ≡ x → (b : Bool) × (process_in (with_process w.processes (record { node = restarted (process w y).node; up = true })) x ≡ new_process h x b)
  here x one same =
      let p : Process = record { node = restarted (process w y).node; up = true } in
      let was = fresh.each x one in
      let found : process_in (with_process w.processes p) x ≡ p = found_at w.processes p x (process_in-me w.processes y ∙ same) (subst (IsOneOf x) (sym fresh.ids) one) in
      let new : p ≡ new_process h x true = ap (λ (z : ℕ). record { node = restarted (process w z).node; up = true }) same ∙ ap (λ (r : Process). record { node = restarted r.node; up = true }) was.1 in
      (true, found ∙ new)

fresh_after : (h : Header) (xs : List ℕ) (w : World) → IsFresh h w → IsFresh h (world_after w (map (λ x. Up x) xs))
fresh_after h [] w fresh = fresh
fresh_after h (x ∷ xs) w fresh = fresh_after h xs (next_world w (Up x)) (fresh_started h w x fresh)

-- the same of a root and of a child, whichever rounds are early

root_as : (h : Header) (up : ℕ → Bool) (m : ℕ) (within : m ≤ h.chain) (E F : Type 0) (w : World) → RootIs h up m within E w → RootIs h up m within F w
root_as h up m within E F w r = record {
  asks = r.asks;
  epoch = r.epoch;
  table = r.table;
  soft = r.soft;
  ends = r.ends;
  rates = r.rates;
  is = r.is;
  search = r.search;
  some = r.some;
  rows = r.rows;
  size = r.size;
}

joins_as : (h : Header) (up : ℕ → Bool) (m : ℕ) (within : m ≤ h.chain) (E F : Type 0) (w : World) (y : ℕ) → Joins h up m within E w y → Joins h up m within F w y
joins_as h up m within E F w y joins = record { going = joins.going; rank = joins.rank; review = joins.review; is = joins.is; row = joins.row }

module _ (h : Header) (header : IsHeader h) (xs : List ℕ) (m : ℕ) (only : IsOnlyMember (begun h xs) m) where
  abbrev lives : ℕ → Bool
  lives = is_up (begun h xs)

  fresh : IsFresh h (begun h xs)
  fresh = fresh_after h xs (new_world h) (fresh_new h)

  is_id : (x : ℕ) → IsUp (begun h xs) x → IsOneOf x (range_with_len 1 h.nodes)
  is_id x up = subst (IsOneOf x) fresh.ids (up_in (begun h xs).processes x up)

  -- who is up is a new node
  is_new : (x : ℕ) → IsUp (begun h xs) x → Is (begun h xs) x (new_node h x)
  is_new x up =
      let was = fresh.each x (is_id x up) in
      let alive : was.0 ≡ true = sym (ap (λ (p : Process). p.up) was.1) ∙ up in
      was.1 ∙ ap (new_process h x) alive

  within : m ≤ h.chain
  within = leb-true m h.chain (sym (ap (λ (p : Process). is_member p.node.control) (is_new m only.up)) ∙ only.member)

  some : 1 ≤ m
  some = (numbers_in 1 h.nodes m (is_id m only.up)).0

  short : m ≤ 16
  short = omega (arith, within, header.short)

  kinds : (y : ℕ) → lives y ≡ true → (y ≡ m) ⊎ IsLeaf h lives y
  kinds y up = by_test (nat_le y h.chain) refl where
    by_test : (b : Bool) → nat_le y h.chain ≡ b → (y ≡ m) ⊎ IsLeaf h lives y
    by_test true e = inl (only.only y up (ap (λ (p : Process). is_member p.node.control) (is_new y up) ∙ e))
    by_test false e = inr record { lives = up; past = leb-false y h.chain e; within = let id = numbers_in 1 h.nodes y (is_id y up) in omega (arith, id.1) }

  down : (p : ℕ) → p ≤ h.chain → (p ≡ m → ⊥) → lives p ≡ false
  down p member other = false_from_ne_true (lives p) (λ up. other (only.only p up (ap (λ (q : Process). is_member q.node.control) (is_new p up) ∙ le-leb p h.chain member)))

  -- The first round: a member past the first has to ask the earlier ones

  abbrev Late : Type 0
  Late = m ≡ 1 → ⊥

  begins : Begins h lives m within some short only.up kinds down Late (begun h xs)
  begins = record {
    ups = λ y. refl;
    root = inl (is_new m only.up, cases_eq m 1);
    leaves = λ y leaf. inl (inl (is_new y leaf.lives), λ row. none y row);
  } where
    none : (y : ℕ) → HasRow m (begun h xs) y → ⊥
    none y row =
        let found : None ≡ Some (birth y 1 m) = sym (ap (λ (p : Process). newest p.node.control.kept.table y) (is_new m only.up)) ∙ row in
        cc

  first_ends : (r : Round) (rs : List Round) → is_quiet (begun h xs) (r ∷ rs) ≡ true → Ends h lives m within some short only.up kinds down Late (after_round (begun h xs) r)
  first_ends r rs quiet =
      let both = and_parts (is_round 0 (begun h xs) r) (are_later_rounds (after_round (begun h xs) r) rs) quiet in
      let none_sent : length (begun h xs).net ≡ 0 = ap length fresh.net in
      round_ends h lives m within some short only.up kinds down Late 0 (begun h xs) r (omega (arith, none_sent)) begins both.0

  -- Later rounds

  begins_again : (v : World) → Ends h lives m within some short only.up kinds down Late v → Begins h lives m within some short only.up kinds down ⊥ v
  unfolding root_as
  begins_again v ends = record {
    ups = ends.ups;
    root = inr (root_as h lives m within Late ⊥ v ends.root, ends.renewed);
    leaves = λ y leaf. ⊎_elim (λ idles. inl (inr (idles.going, idles.is), idles.none)) (λ joins. inr (joins_as h lives m within Late ⊥ v y joins)) (ends.leaves y leaf);
  }

  begins_more : (v : World) → Ends h lives m within some short only.up kinds down ⊥ v → Begins h lives m within some short only.up kinds down ⊥ v
  begins_more v ends = record {
    ups = ends.ups;
    root = inr (ends.root, ends.renewed);
    leaves = λ y leaf. ⊎_elim (λ idles. absurd idles.early) (λ joins. inr joins) (ends.leaves y leaf);
  }

  ends_rest : (v : World) → Ends h lives m within some short only.up kinds down ⊥ v → Rests h lives m within ⊥ v
  ends_rest v ends = record { ups = ends.ups; root = ends.root; leaves = λ y leaf. ⊎_elim (λ idles. absurd idles.early) (λ joins. joins) (ends.leaves y leaf) }

  -- a round that begins without new nodes ends at rest, and so do those after it
  later_ends : (r : Round) (rs : List Round) (v : World) → Begins h lives m within some short only.up kinds down ⊥ v → are_later_rounds v (r ∷ rs) ≡ true
      → Ends h lives m within some short only.up kinds down ⊥ (after_rounds v (r ∷ rs))
  later_ends r rs v begins quiet =
      let both = and_parts (is_round (length v.net) v r) (are_later_rounds (after_round v r) rs) quiet in
      stays rs (after_round v r) (round_ends h lives m within some short only.up kinds down ⊥ (length v.net) v r (omega arith) begins both.0) both.1 where
        stays : (rs : List Round) (v : World) → Ends h lives m within some short only.up kinds down ⊥ v → are_later_rounds v rs ≡ true
            → Ends h lives m within some short only.up kinds down ⊥ (after_rounds v rs)
        stays [] v ends quiet = ends
        stays (r ∷ rs) v ends quiet =
            let both = and_parts (is_round (length v.net) v r) (are_later_rounds (after_round v r) rs) quiet in
            stays rs (after_round v r) (round_ends h lives m within some short only.up kinds down ⊥ (length v.net) v r (omega arith) (begins_more v ends) both.0) both.1

  second_ends : (q r : Round) (rs : List Round) → is_quiet (begun h xs) (q ∷ r ∷ rs) ≡ true → Ends h lives m within some short only.up kinds down ⊥ (after_rounds (begun h xs) (q ∷ r ∷ rs))
  second_ends q r rs quiet =
      let both = and_parts (is_round 0 (begun h xs) q) (are_later_rounds (after_round (begun h xs) q) (r ∷ rs)) quiet in
      later_ends r rs (after_round (begun h xs) q) (begins_again (after_round (begun h xs) q) (first_ends q (r ∷ rs) quiet)) both.1

  -- from the second round on the network is at rest
  second_rests : (q r : Round) (rs : List Round) → is_quiet (begun h xs) (q ∷ r ∷ rs) ≡ true → Rests h lives m within ⊥ (after_rounds (begun h xs) (q ∷ r ∷ rs))
  second_rests q r rs quiet = ends_rest (after_rounds (begun h xs) (q ∷ r ∷ rs)) (second_ends q r rs quiet)

  rests_at : (v : World) → Rests h lives m within ⊥ v → IsAtRest v m
  rests_at v rests = at_rest h lives m within kinds ⊥ v rests

  pub new_rests : (q r : Round) (rs : List Round) → is_quiet (begun h xs) (q ∷ r ∷ rs) ≡ true → IsAtRest (after_rounds (begun h xs) (q ∷ r ∷ rs)) m
  new_rests q r rs quiet = rests_at (after_rounds (begun h xs) (q ∷ r ∷ rs)) (second_rests q r rs quiet)

  pub same_up : (q r : Round) (rs : List Round) → is_quiet (begun h xs) (q ∷ r ∷ rs) ≡ true → (x : ℕ) → is_up (after_rounds (begun h xs) (q ∷ r ∷ rs)) x ≡ is_up (begun h xs) x
  same_up q r rs quiet x = (second_rests q r rs quiet).ups x

  -- each other node has asked once
  pub asks_once : (q r : Round) (rs : List Round) → is_quiet (begun h xs) (q ∷ r ∷ rs) ≡ true → (x : ℕ) → IsUp (begun h xs) x → (x ≡ m → ⊥) → seq_of (after_rounds (begun h xs) (q ∷ r ∷ rs)) x ≡ 1
  asks_once q r rs quiet x up other =
      let rests = second_rests q r rs quiet in
      asked h lives m within kinds ⊥ (after_rounds (begun h xs) (q ∷ r ∷ rs)) rests x (rests.ups x ∙ up) other

  -- The source alone: the first round is enough

  pub source_rests : m ≡ 1 → (q : Round) (rs : List Round) → is_quiet (begun h xs) (q ∷ rs) ≡ true → IsAtRest (after_rounds (begun h xs) (q ∷ rs)) m
  source_rests one q [] quiet =
      let ends = first_ends q [] quiet in
      rests_at (after_round (begun h xs) q) record {
        ups = ends.ups;
        root = root_as h lives m within Late ⊥ (after_round (begun h xs) q) ends.root;
        leaves = λ y leaf. ⊎_elim (λ idles. absurd (idles.early one)) (λ joins. joins_as h lives m within Late ⊥ (after_round (begun h xs) q) y joins) (ends.leaves y leaf);
      }
  source_rests one q (r ∷ rs) quiet = new_rests q r rs quiet
