-- The lease ends of a node's leased children lie ahead of its clock after a tick, since the leases that are over end.
use Rattle.std.proofs.Common.{◌≡◌, ℕ, ◌<◌, Bool, true, false, not, ◌&&◌, ◌==◌, nat_le, if◌then◌else◌, Option, Some, None, List, [], ◌∷◌, inl, inr, map, filter, refl, ap, sym, subst, ◌∙◌, ⊎_elim, eqb-true}
use Rattle.std.proofs.lemmas.Bool.{cases_eq, true≢false, leb-false}
use Rattle.oc_base.specs.declared.cert.Cert.{Cert}
use Rattle.oc_base.specs.declared.shelf.Shelf.{Shelf}
use Rattle.oc_model.specs.Certificates.{outranks}
use Rattle.oc_model.specs.Checking.{at_time, starts_leases, dies, ends_each, ends_leases, checks_if_due, tick}
use Rattle.oc_model.specs.Leases.{is_over, ended}
use Rattle.oc_model.specs.Numbers.{at}
use Rattle.oc_model.specs.Plan.{Plan}
use Rattle.oc_model.specs.Table.{newest, put, is_news, is_news_to, merge, is_lease_of, lease_number, leased_by, leased_children}
use Rattle.oc_model.specs.WorldBounds.{IsOneOf}
use Rattle.oc_model.proofs.Members.{in_filter}
use Rattle.oc_laws_step.proofs.CertOrder.{fact_outranks}
use Rattle.oc_laws_step.proofs.Tables.{newest-subject}
use Rattle.oc_laws_tree.proofs.LeaseRules.{OfPlan, stays_checks_if_due, stays_fetches_as}
use Rattle.oc_laws_tree.proofs.LeasesAhead.{AreAhead, AreAheadBut, leased_merge_other, leased_put_none, of_merges}

-- a child with a lease is one of the leased children
pub leased_among : (t : List Cert) (y z s : ℕ) → leased_by t y z ≡ Some s → IsOneOf z (leased_children t y)
leased_among [] y z s e = absurd cc
leased_among (k ∷ ks) y z s e = by_tests (k.subject == z) (is_lease_of y k) (λ later. leased_among ks y z s later) refl refl e where
  by_tests : (a b : Bool) → (leased_by ks y z ≡ Some s → IsOneOf z (leased_children ks y)) → (k.subject == z) ≡ a → is_lease_of y k ≡ b → lease_number y (if a then Some k else newest ks z) ≡ Some s
      → IsOneOf z (map (λ (c : Cert). c.subject) (if b then k ∷ filter (is_lease_of y) ks else filter (is_lease_of y) ks))
  by_tests true true rest here leased found = inl (sym (eqb-true k.subject z here))
  by_tests true false rest here loose found = let clash : None ≡ Some s = sym (ap (λ b. if b then Some k.seq else None) loose) ∙ found in absurd cc
  by_tests false true rest away leased found = inr (rest found)
  by_tests false false rest away loose found = rest found

-- the lease ends lie ahead except for the leases that have ended
ahead_but_ended : (me : ℕ) (t : List Cert) (ends : List (Option ℕ)) (clock : ℕ) → AreAheadBut (ended t me ends clock) me t ends clock
ahead_but_ended me t ends clock z out s end leased is_set = by_test (nat_le end clock) refl where
  by_test : (b : Bool) → nat_le end clock ≡ b → clock < end
  by_test true e =
      let over : is_over (at ends z None) clock ≡ true = ap (λ (o : Option ℕ). is_over o clock) is_set ∙ e in
      absurd (out (in_filter (λ x. is_over (at ends x None) clock) (leased_children t me) z over (leased_among t me z s leased)))
  by_test false e = leb-false end clock e

-- a child whose row has died has no lease
dead_unleased : (t : List Cert) (y x : ℕ) (k : Cert) → newest t x ≡ Some k → leased_by (merge t (record k { dead = true })) y x ≡ None
dead_unleased t y x k found = by_test (is_news t dead) refl where
  dead : Cert
  dead = record k { dead = true }

  -- a row that the death is no news to is dead
  old : (d : Bool) → k.dead ≡ d → is_news t dead ≡ false → leased_by t y x ≡ None
  old true e known = ap (lease_number y) found ∙ ap (λ d. if not d && k.parent == y then Some k.seq else None) e
  old false e known =
      let here : newest t k.subject ≡ Some k = subst (λ (z : ℕ). newest t z ≡ Some k) (sym (newest-subject t x k found)) found in
      let later : outranks dead k ≡ true = fact_outranks dead k (inr (inl (refl, refl, e))) in
      absurd (true≢false (sym later ∙ (sym (ap (λ (o : Option Cert). is_news_to o dead) here) ∙ known)))

  by_test : (b : Bool) → is_news t dead ≡ b → leased_by (if b then put t dead else t) y x ≡ None
  by_test true e = leased_put_none t dead y x (newest-subject t x k found) refl
  by_test false e = old k.dead refl e

-- after the death of one child the lease ends lie ahead except for the other children
dies_ahead : (e : Option Cert) (x : ℕ) (xs : List ℕ) (o : Plan) → newest o.node.kept.table x ≡ e → OfPlan (AreAheadBut (x ∷ xs)) o → OfPlan (AreAheadBut xs) (dies e o)
dies_ahead None x xs o found but = λ z out s end leased is_set. but z (apart z out s leased) s end leased is_set where
  apart : (z : ℕ) → (IsOneOf z xs → ⊥) → (s : ℕ) → leased_by o.node.kept.table o.node.me z ≡ Some s → IsOneOf z (x ∷ xs) → ⊥
  apart z out s leased (inl same) =
      let none : leased_by o.node.kept.table o.node.me z ≡ None = ap (lease_number o.node.me) (subst (λ (y : ℕ). newest o.node.kept.table y ≡ None) (sym same) found) in
      let clash : None ≡ Some s = sym none ∙ leased in
      cc
  apart z out s leased (inr later) = out later
dies_ahead (Some k) x xs o found but = of_merges (AreAheadBut xs) o dead each where
  dead : Cert
  dead = record k { dead = true }

  each : AreAheadBut xs o.node.me (merge o.node.kept.table dead) o.node.leases o.node.soft.clock
  each z out s end leased is_set = ⊎_elim here there (cases_eq x z) where
    here : x ≡ z → o.node.soft.clock < end
    here same =
        let none : leased_by (merge o.node.kept.table dead) o.node.me z ≡ None =
        subst (λ (y : ℕ). leased_by (merge o.node.kept.table dead) o.node.me y ≡ None) same (dead_unleased o.node.kept.table o.node.me x k found) in
        let clash : None ≡ Some s = sym none ∙ leased in
        absurd cc

    there : (x ≡ z → ⊥) → o.node.soft.clock < end
    there apart =
        but z (λ among. ⊎_elim (λ e. apart (sym e)) out among) s end
        (sym (leased_merge_other o.node.kept.table dead o.node.me z (λ e. apart (sym (newest-subject o.node.kept.table x k found) ∙ e))) ∙ leased) is_set

ends_each_ahead : (xs : List ℕ) (o : Plan) → OfPlan (AreAheadBut xs) o → OfPlan AreAhead (ends_each xs o)
ends_each_ahead [] o but = λ z. but z (λ none. none)
ends_each_ahead (x ∷ xs) o but = ends_each_ahead xs (dies (newest o.node.kept.table x) o) (dies_ahead (newest o.node.kept.table x) x xs o refl but)

-- lease ends lie ahead after a tick, whatever they were before
pub tick_ahead : (o : Plan) (ls : List Shelf) (t : ℕ) → OfPlan AreAhead (tick o ls t)
tick_ahead o ls t =
    let started : Plan = starts_leases (at_time o t) in
    let over : Plan = ends_leases started in
    let checked : Plan = checks_if_due over in
    stays_fetches_as AreAhead checked.node.kept.mode checked ls
    (stays_checks_if_due AreAhead over
    (ends_each_ahead (ended started.node.kept.table started.node.me started.node.leases started.node.soft.clock) started
    (ahead_but_ended started.node.me started.node.kept.table started.node.leases started.node.soft.clock)))
