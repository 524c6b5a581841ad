-- Redirections: only a chain node sends a client on, and only to a node past the chain that it lists.
use Rattle.std.proofs.Common.{◌≡◌, ℕ, ◌-◌, ◌<◌, ◌≤◌, Bool, true, false, ◌==◌, nat_lt, if◌then◌else◌, Option, Some, None, option_map, List, [], ◌∷◌, filter, map, inl, inr, refl, ◌∙◌, ap, ltb-true}
use Rattle.std.proofs.lemmas.Bool.{leb-true}
use Rattle.oc_base.specs.declared.cert.Cert.{Cert}
use Rattle.oc_base.specs.declared.group.Group.{Group}
use Rattle.oc_base.specs.Groups.{group_of, shelf_of, shelf}
use Rattle.oc_model.specs.declared.answer.Answer.{Answer}
use Rattle.oc_model.specs.declared.answer.Answer.TheVariants as words
use Rattle.oc_model.specs.declared.input.Input.{Input}
use Rattle.oc_model.specs.declared.input.Input.TheVariants as inputs
use Rattle.oc_model.specs.Node.{Control, Node}
use Rattle.oc_model.specs.Numbers.{at}
use Rattle.oc_model.specs.Plan.{begun, is_member}
use Rattle.oc_model.specs.Selected.{is_freer, freer_of, freest, or_all, servers, selected}
use Rattle.oc_model.specs.Serving.{redirects, client_of}
use Rattle.oc_model.specs.Step.{step}
use Rattle.oc_model.specs.Table.{IsListed, is_listed, listed_in}
use Rattle.oc_model.specs.WorldBounds.{IsOneOf}
use Rattle.oc_model.proofs.Members.{of_filter}
use Rattle.oc_model.proofs.Shelves.{line_of-shelf}
use Rattle.oc_model.proofs.Walks.{is_listed-exact}
use Rattle.oc_laws_world.specs.Redirects.{AsksForHeld}
use Rattle.oc_laws_world.proofs.NoRedirects.{IsNoRedirect, stays_unreachable, stays_relocate, stays_checks, stays_tick, stays_measured, stays_pulled, stays_published, stays_sealed_at, stays_received}

-- the freest of some nodes is one of them
freest_one : (counts xs : List ℕ) (k : ℕ) → freest counts xs ≡ Some k → IsOneOf k xs
freest_one counts [] k e = absurd cc
freest_one counts (x ∷ xs) k e = by_rest (freest counts xs) (freest_one counts xs) e where
  by_rest : (best : Option ℕ) → ((j : ℕ) → best ≡ Some j → IsOneOf j xs) → Some (freer_of counts x best) ≡ Some k → IsOneOf k (x ∷ xs)
  by_rest None rest f = inl cc
  by_rest (Some y) rest f = by_test (is_freer counts y x) f where
    by_test : (b : Bool) → Some (if b then y else x) ≡ Some k → IsOneOf k (x ∷ xs)
    by_test true g = inr (rest k g)
    by_test false g = inl cc

-- one of the nodes in an area, or of all nodes where that has none, is one of all
either_one : (test : ℕ → Bool) (xs : List ℕ) (k : ℕ) → IsOneOf k (or_all (filter test xs) xs) → IsOneOf k xs
either_one test xs k one = by_list (filter test xs) (λ h. (of_filter test xs k h).1) one where
  by_list : (ys : List ℕ) → (IsOneOf k ys → IsOneOf k xs) → IsOneOf k (or_all ys xs) → IsOneOf k xs
  by_list [] within h = h
  by_list (y ∷ ys) within h = within h

-- a selected node is listed and past the chain
record IsServer (n : Control) (k : ℕ) : Type 0 where
  listed : IsListed n.kept.table n.me k
  past : n.chain < k

selected_server : (n : Control) (area k : ℕ) → selected n.kept.table n.me n.chain n.areas n.counts area ≡ Some k → IsServer n k
selected_server n area k e =
    let t : List Cert = n.kept.table in
    let one : IsOneOf k (servers t n.me n.chain) = either_one (λ x. at n.areas x 0 == area) (servers t n.me n.chain) k (freest_one n.counts _ k e) in
    let past : (nat_lt n.chain k ≡ true) × IsOneOf k (listed_in t n.me) = of_filter (λ x. nat_lt n.chain x) (listed_in t n.me) k one in
    let row : (is_listed t n.me k ≡ true) × IsOneOf k (map (λ c. c.subject) t) = of_filter (is_listed t n.me) (map (λ c. c.subject) t) k past.1 in
    record { listed = (is_listed-exact t n.me k).0 row.0; past = ltb-true n.chain k past.0 }

-- a redirection is right
pub record IsRight (n : Node) (i : Input) (k : ℕ) : Type 0 where
  pub client : AsksForHeld n i
  pub chain : n.control.me ≤ n.control.chain
  pub listed : IsListed n.control.kept.table n.control.me k
  pub past : n.control.chain < k

-- an answer that sends no client on is no redirection
no_redirect : (a : Answer) (k : ℕ) → a ≡ words.Redirect k → IsNoRedirect a → ⊥
no_redirect a k e stays = rw e at stays

redirect_of : (n : Node) (area start : ℕ) (g : List ℕ) (k : ℕ) → (step n (inputs.Client area start g)).answer ≡ words.Redirect k → IsRight n (inputs.Client area start g) k
redirect_of n area start g k e = by_group (group_of g n.groups) refl (rw (line_of-shelf g n.groups) at e) where
  by_group : (found : Option Group) → group_of g n.groups ≡ found → (client_of (option_map shelf_of found) (begun n.control) area start).answer ≡ words.Redirect k → IsRight n (inputs.Client area start g) k
  by_group None is f = absurd cc
  by_group (Some held) is f = by_member (is_member n.control) refl f where
    by_server : (is_member n.control ≡ true) → (to : Option ℕ) → selected n.control.kept.table n.control.me n.control.chain n.control.areas n.control.counts area ≡ to
        → (redirects to (begun n.control) ((shelf_of held).held - start)).answer ≡ words.Redirect k → IsRight n (inputs.Client area start g) k
    by_server member None found h = absurd cc
    by_server member (Some j) found h =
        let same : j ≡ k = cc in
        let server : IsServer n.control k = selected_server n.control area k (found ∙ ap Some same) in
        record { client = (held, is); chain = leb-true n.control.me n.control.chain member; listed = server.listed; past = server.past }

    by_member : (b : Bool) → is_member n.control ≡ b
        → (redirects (if b then selected n.control.kept.table n.control.me n.control.chain n.control.areas n.control.counts area else None) (begun n.control) ((shelf_of held).held - start)).answer ≡ words.Redirect k
        → IsRight n (inputs.Client area start g) k
    by_member true member h = by_server member (selected n.control.kept.table n.control.me n.control.chain n.control.areas n.control.counts area) refl h
    by_member false member h = absurd cc

-- each redirection of each step is right
pub redirect_right : (n : Node) (i : Input) (k : ℕ) → (step n i).answer ≡ words.Redirect k → IsRight n i k
redirect_right n (inputs.Client area start g) k e = redirect_of n area start g k e
redirect_right n (inputs.Tick t) k e = absurd (no_redirect _ k e (stays_tick (begun n.control) (shelf n.groups) t tt))
redirect_right n inputs.CheckNow k e = absurd (no_redirect _ k e (stays_checks (begun n.control) tt))
redirect_right n (inputs.Relocate p) k e = absurd (no_redirect _ k e (stays_relocate (begun n.control) p tt))
redirect_right n (inputs.Unreachable p) k e = absurd (no_redirect _ k e (stays_unreachable (begun n.control) p tt))
redirect_right n (inputs.Pull p) k e = absurd (no_redirect _ k e (stays_pulled (begun n.control) (shelf n.groups) p tt))
redirect_right n (inputs.Measured p rate hops) k e = absurd (no_redirect _ k e (stays_measured (begun n.control) p rate hops tt))
redirect_right n (inputs.Publish g bytes) k e = absurd (no_redirect _ k e (stays_published (begun n.control) (shelf n.groups) g bytes tt))
redirect_right n (inputs.Seal g) k e = absurd (no_redirect _ k e (stays_sealed_at (begun n.control) (shelf n.groups) g tt))
redirect_right n (inputs.Delivered m) k e = absurd (no_redirect _ k e (stays_received (begun n.control) (shelf n.groups) m.from m.body tt))
