-- The effect of a tick on a node: it ends exactly the leases that are over, and sets the ends of leased children without one.
use Rattle.std.proofs.Common.{◌≡◌, ℕ, zero, suc, ◌+◌, ◌-◌, ◌<◌, max, Bool, true, false, if◌then◌else◌, Option, Some, None, List, [], ◌∷◌, ◌⊎◌, inl, inr, get_or, set, length, refl, ap, sym, subst, ◌∙◌, ⊎_elim, arith}
use Rattle.std.proofs.lemmas.Bool.{cases_eq, true≢false}
use Rattle.oc_base.specs.declared.cert.Cert.{Cert}
use Rattle.oc_base.specs.declared.shelf.Shelf.{Shelf}
use Rattle.oc_model.specs.Checking.{at_time, starts_leases, dies, ends_each, ends_leases, checks_if_due, tick}
use Rattle.oc_model.specs.Leases.{lease_time, renew, start_if, start_each, start_all, is_over, ended}
use Rattle.oc_model.specs.Node.{Control}
use Rattle.oc_model.specs.Numbers.{at}
use Rattle.oc_model.specs.Plan.{Plan, begun}
use Rattle.oc_model.specs.Table.{newest, put, is_news, merge, is_lease_of, leased_by, leased_children}
use Rattle.oc_model.specs.WorldBounds.{IsOneOf}
use Rattle.oc_model.proofs.Members.{of_filter}
use Rattle.oc_laws_step.proofs.Tables.{newest-subject, newest-put_other}
use Rattle.oc_laws_tree.proofs.LeaseTicks.{leased_among}
use Rattle.oc_laws_tree.proofs.LeaseRules.{OfPlan, stays_checks_if_due, stays_fetches_as}
use Rattle.oc_laws_tree.proofs.LeasesAhead.{leased_merge_other, leased_put_none, of_merges}

-- Lease ends

-- the item at a place after one was set: that item, or the old one
pub set_at : (ends : List (Option ℕ)) (i j : ℕ) (v : Option ℕ) → ((i ≡ j) × (j < length ends) × (get_or (set ends i v) j None ≡ v)) ⊎ (get_or (set ends i v) j None ≡ get_or ends j None)
set_at [] i j v = inr refl
set_at (x ∷ xs) zero zero v = inl (refl, omega arith, refl)
set_at (x ∷ xs) zero (suc j) v = inr refl
set_at (x ∷ xs) (suc i) zero v = inr refl
set_at (x ∷ xs) (suc i) (suc j) v = ⊎_elim (λ here. inl (omega (arith, here.0), omega (arith, here.1), here.2)) (λ other. inr other) (set_at xs i j v)

-- the set item is at its own place
pub set_here : (ends : List (Option ℕ)) (i : ℕ) (v : Option ℕ) → i < length ends → get_or (set ends i v) i None ≡ v
set_here [] i v within = absurd (omega arith)
set_here (x ∷ xs) zero v within = refl
set_here (x ∷ xs) (suc i) v within = set_here xs i v (omega arith)

pub set_length : (ends : List (Option ℕ)) (i : ℕ) (v : Option ℕ) → length (set ends i v) ≡ length ends
set_length [] i v = refl
set_length (x ∷ xs) zero v = refl
set_length (x ∷ xs) (suc i) v = ap suc (set_length xs i v)

-- a set end stays, and an end that is not set stays so or is set now
abbrev IsStarted : ℕ → Option ℕ → Option ℕ → Type 0
IsStarted now old new = (new ≡ old) ⊎ ((old ≡ None) × (new ≡ Some (now + lease_time)))

started_one : (x : ℕ) (ends : List (Option ℕ)) (now j : ℕ) → IsStarted now (get_or ends j None) (get_or (start_if (at ends x None) ends x now) j None)
started_one x ends now j = by_end (at ends x None) refl where
  by_end : (e : Option ℕ) → at ends x None ≡ e → IsStarted now (get_or ends j None) (get_or (start_if e ends x now) j None)
  by_end (Some t) e = inl refl
  by_end None e = ⊎_elim (λ here. inr (subst (λ (k : ℕ). get_or ends k None ≡ None) here.0 e, here.2)) (λ other. inl other) (set_at ends (x - 1) j (Some (now + lease_time)))

started_then : (now : ℕ) (old mid new : Option ℕ) → IsStarted now old mid → IsStarted now mid new → IsStarted now old new
started_then now old mid new (inl e) (inl f) = inl (f ∙ e)
started_then now old mid new (inl e) (inr f) = inr (sym e ∙ f.0, f.1)
started_then now old mid new (inr e) (inl f) = inr (e.0, f ∙ e.1)
started_then now old mid new (inr e) (inr f) = let clash : Some (now + lease_time) ≡ None = sym e.1 ∙ f.0 in absurd cc

started_each : (xs : List ℕ) (ends : List (Option ℕ)) (now j : ℕ) → IsStarted now (get_or ends j None) (get_or (start_each xs ends now) j None)
started_each [] ends now j = inl refl
started_each (x ∷ xs) ends now j =
    let one : List (Option ℕ) = start_if (at ends x None) ends x now in
    started_then now (get_or ends j None) (get_or one j None) (get_or (start_each xs one now) j None) (started_one x ends now j) (started_each xs one now j)

-- an end that was set is still set once started
started_set : (now : ℕ) (old new : Option ℕ) → IsStarted now old new → (old ≡ None → ⊥) → new ≡ None → ⊥
started_set now old new (inl e) some none = some (sym e ∙ none)
started_set now old new (inr e) some none = some e.0

-- each of these children has an end, if it has a place for one
all_started : (xs : List ℕ) (ends : List (Option ℕ)) (now z : ℕ) → IsOneOf z xs → z - 1 < length ends → at (start_each xs ends now) z None ≡ None → ⊥
all_started [] ends now z one within none = one
all_started (x ∷ xs) ends now z (inl same) within none =
    started_set now (at one_more z None) (at (start_each xs one_more now) z None) (started_each xs one_more now (z - 1)) (λ e. by_end (at ends x None) refl (subst (λ (y : ℕ). at one_more y None ≡ None) same e)) none where
      one_more : List (Option ℕ)
      one_more = start_if (at ends x None) ends x now

      by_end : (e : Option ℕ) → at ends x None ≡ e → at one_more x None ≡ None → ⊥
      by_end e f g = by_case e f (subst (λ (o : Option ℕ). at (start_if o ends x now) x None ≡ None) f g) where
        by_case : (e : Option ℕ) → at ends x None ≡ e → at (start_if e ends x now) x None ≡ None → ⊥
        by_case (Some t) f g = let clash : Some t ≡ None = sym f ∙ g in absurd cc
        by_case None f g =
            let here : at (renew ends x now) x None ≡ Some (now + lease_time) = set_here ends (x - 1) (Some (now + lease_time)) (subst (λ (y : ℕ). y - 1 < length ends) same within) in
            let clash : Some (now + lease_time) ≡ None = sym here ∙ g in
            absurd cc
all_started (x ∷ xs) ends now z (inr later) within none = all_started xs (start_if (at ends x None) ends x now) now z later (subst (λ (n : ℕ). z - 1 < n) (sym (by_end (at ends x None))) within) none where
  by_end : (e : Option ℕ) → length (start_if e ends x now) ≡ length ends
  by_end None = set_length ends (x - 1) (Some (now + lease_time))
  by_end (Some t) = refl

-- Rows

-- the merge of a death makes no lease
dead_only : (t : List Cert) (c : Cert) (y z s : ℕ) → c.dead ≡ true → leased_by (merge t c) y z ≡ Some s → leased_by t y z ≡ Some s
dead_only t c y z s dead leased = ⊎_elim (λ same. by_test same (is_news t c) leased) (λ apart. sym (leased_merge_other t c y z apart) ∙ leased) (cases_eq c.subject z) where
  by_test : c.subject ≡ z → (b : Bool) → leased_by (if b then put t c else t) y z ≡ Some s → leased_by t y z ≡ Some s
  by_test same true found =
      let loose : is_lease_of y c ≡ false = rw dead refl in
      let clash : None ≡ Some s = sym (leased_put_none t c y z same loose) ∙ found in
      absurd cc
  by_test same false found = found

-- the rows of the other children stay, and no lease is made
record HasEnded (xs : List ℕ) (y : ℕ) (t u : List Cert) : Type 0 where
  rows : (z : ℕ) → (IsOneOf z xs → ⊥) → newest u z ≡ newest t z
  only : (z s : ℕ) → leased_by u y z ≡ Some s → leased_by t y z ≡ Some s

dies_one : (o : Plan) (x y : ℕ) → HasEnded (x ∷ []) y o.node.kept.table (dies (newest o.node.kept.table x) o).node.kept.table
dies_one o x y = by_found (newest o.node.kept.table x) refl where
  by_found : (e : Option Cert) → newest o.node.kept.table x ≡ e → HasEnded (x ∷ []) y o.node.kept.table (dies e o).node.kept.table
  by_found None e = record { rows = λ z out. refl; only = λ z s h. h }
  by_found (Some k) e = of_merges (λ me t ends now. HasEnded (x ∷ []) y o.node.kept.table t) o (record k { dead = true }) record {
    rows = λ z out. merged (is_news o.node.kept.table (record k { dead = true })) z (λ same. out (inl (sym same ∙ newest-subject o.node.kept.table x k e)));
    only = λ z s. dead_only o.node.kept.table (record k { dead = true }) y z s refl;
  } where
    merged : (b : Bool) (z : ℕ) → (k.subject ≡ z → ⊥) → newest (if b then put o.node.kept.table (record k { dead = true }) else o.node.kept.table) z ≡ newest o.node.kept.table z
    merged true z apart = newest-put_other o.node.kept.table (record k { dead = true }) z apart
    merged false z apart = refl

ends_all : (xs : List ℕ) (o : Plan) (y : ℕ) → HasEnded xs y o.node.kept.table (ends_each xs o).node.kept.table
ends_all [] o y = record { rows = λ z out. refl; only = λ z s h. h }
ends_all (x ∷ xs) o y =
    let next : Plan = dies (newest o.node.kept.table x) o in
    let first : HasEnded (x ∷ []) y o.node.kept.table next.node.kept.table = dies_one o x y in
    let rest : HasEnded xs y next.node.kept.table (ends_each xs next).node.kept.table = ends_all xs next y in
    record {
      rows = λ z out. rest.rows z (λ later. out (inr later)) ∙ first.rows z (λ one. ⊎_elim (λ same. out (inl same)) (λ none. none) one);
      only = λ z s leased. first.only z s (rest.only z s leased);
    }

-- A tick

-- a node has ticked at this second
pub record HasTicked (n : Control) (now : ℕ) (m : Control) : Type 0 where
  pub clock : m.soft.clock ≡ now
  pub ends : (i : ℕ) → (get_or m.leases i None ≡ get_or n.leases i None) ⊎ ((get_or n.leases i None ≡ None) × (get_or m.leases i None ≡ Some (now + lease_time)))
  pub started : (z s : ℕ) → leased_by n.kept.table n.me z ≡ Some s → z - 1 < length n.leases → at m.leases z None ≡ None → ⊥
  pub rows : (z : ℕ) → is_over (at m.leases z None) now ≡ false → newest m.kept.table z ≡ newest n.kept.table z
  pub only : (z s : ℕ) → leased_by m.kept.table n.me z ≡ Some s → leased_by n.kept.table n.me z ≡ Some s

-- this table, these lease ends and this clock
abbrev IsWith : List Cert → List (Option ℕ) → ℕ → ℕ → List Cert → List (Option ℕ) → ℕ → Type 0
IsWith t ends now me u fs later = (u ≡ t) × (fs ≡ ends) × (later ≡ now)

lists_stay : (xs : List ℕ) (o : Plan) → ((ends_each xs o).node.leases ≡ o.node.leases) × ((ends_each xs o).node.soft.clock ≡ o.node.soft.clock)
lists_stay [] o = (refl, refl)
lists_stay (x ∷ xs) o =
    let next : Plan = dies (newest o.node.kept.table x) o in
    let rest = lists_stay xs next in
    let one = by_found (newest o.node.kept.table x) in
    (rest.0 ∙ one.0, rest.1 ∙ one.1) where
      by_found : (e : Option Cert) → ((dies e o).node.leases ≡ o.node.leases) × ((dies e o).node.soft.clock ≡ o.node.soft.clock)
      by_found None = (refl, refl)
      by_found (Some k) = of_merges (λ me t ends now. (ends ≡ o.node.leases) × (now ≡ o.node.soft.clock)) o (record k { dead = true }) (refl, refl)

pub has_ticked : (n : Control) (ls : List Shelf) (t : ℕ) → HasTicked n (max n.soft.clock t) (tick (begun n) ls t).node
has_ticked n ls t =
    let now : ℕ = max n.soft.clock t in
    let begun_at : Plan = starts_leases (at_time (begun n) t) in
    let started : List (Option ℕ) = start_all n.kept.table n.me n.leases now in
    let over : List ℕ = ended n.kept.table n.me started now in
    let o : Plan = ends_leases begun_at in
    let checked : Plan = checks_if_due o in
    let same : OfPlan (IsWith o.node.kept.table o.node.leases o.node.soft.clock) (tick (begun n) ls t) =
    stays_fetches_as (IsWith o.node.kept.table o.node.leases o.node.soft.clock) checked.node.kept.mode checked ls
    (stays_checks_if_due (IsWith o.node.kept.table o.node.leases o.node.soft.clock) o (refl, refl, refl)) in
    let stay = lists_stay over begun_at in
    let leases : (tick (begun n) ls t).node.leases ≡ started = same.1 ∙ stay.0 in
    let ends_here : HasEnded over n.me n.kept.table o.node.kept.table = ends_all over begun_at n.me in
    record {
      clock = same.2 ∙ stay.1;
      ends = λ i. subst (λ (fs : List (Option ℕ)). IsStarted now (get_or n.leases i None) (get_or fs i None)) (sym leases) (started_each (leased_children n.kept.table n.me) n.leases now i);
      started = λ z s leased within none.
          all_started (leased_children n.kept.table n.me) n.leases now z (leased_among n.kept.table n.me z s leased) within (ap (λ (fs : List (Option ℕ)). at fs z None) (sym leases) ∙ none);
      rows = λ z fresh. ap (λ (u : List Cert). newest u z) same.0 ∙ ends_here.rows z (λ one.
          let is = of_filter (λ x. is_over (at started x None) now) (leased_children n.kept.table n.me) z one in
          let not_over : is_over (at started z None) now ≡ false = ap (λ (fs : List (Option ℕ)). is_over (at fs z None) now) (sym leases) ∙ fresh in
          true≢false (sym is.0 ∙ not_over));
      only = λ z s leased. ends_here.only z s (ap (λ (u : List Cert). leased_by u n.me z) (sym same.0) ∙ leased);
    }
