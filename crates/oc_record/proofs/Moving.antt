-- The effect of each rule on the durable state.
use Rattle.std.proofs.Common.{◌≡◌, ℕ, zero, suc, ◌+◌, ◌-◌, ◌<◌, ◌≤◌, Bool, true, false, not, ◌&&◌, ◌||◌, ◌==◌, nat_lt, nat_le, if◌then◌else◌, Option, Some, None, List, [], ◌∷◌, length, get_or, set, filter, ◌⊎◌, inl, inr, refl, ap, sym, subst, ◌∙◌, arith, true≢false, eqb-true, eq-eqb, ltb-true}
use Rattle.std.proofs.lemmas.Bool.{and_parts}
use Rattle.oc_base.specs.declared.cert.Cert.{Cert}
use Rattle.oc_base.specs.declared.limits.TheConstants.{MAX_DEPTH}
use Rattle.oc_base.specs.declared.rank.Rank.{Rank}
use Rattle.oc_base.specs.declared.refusal.Refusal.{Refusal}
use Rattle.oc_base.specs.declared.refusal.Refusal.TheVariants as refusals
use Rattle.oc_base.specs.declared.shelf.Shelf.{Shelf}
use Rattle.oc_base.specs.Rank.{beneath_of}
use Rattle.oc_base.specs.Shelves.{line_of}
use Rattle.oc_model.specs.declared.answer.Answer.TheVariants as words
use Rattle.oc_model.specs.declared.message.Body.TheVariants as bodies
use Rattle.oc_model.specs.declared.mode.Mode.{Mode}
use Rattle.oc_model.specs.declared.mode.Mode.TheVariants as modes
use Rattle.oc_model.specs.declared.reading.Reading.{Reading}
use Rattle.oc_model.specs.declared.record.Record.TheVariants as records
use Rattle.oc_model.specs.declared.soft.Search.{Search}
use Rattle.oc_model.specs.declared.soft.Search.TheVariants.{Descend, Review}
use Rattle.oc_model.specs.declared.soft.Soft.{Soft}
use Rattle.oc_model.specs.declared.soft.TheConstants.{MAX_MOVES}
use Rattle.oc_model.specs.Adopting.{is_acting, raises, host, birth, has_lease, grants, sends_rejoin, adopts, answers_ask, asked_at, asked}
use Rattle.oc_model.specs.Adoption.{rank_or_last, precedes, precedes_any, is_better, adoption_refusal}
use Rattle.oc_model.specs.Asking.{lost, next_try, round, ask_before, is_asking, ancestors_by, joins, took_yes, refused, took_no, descend, not_seen, not_reached, unreachable, notes_parent, relocate}
use Rattle.oc_model.specs.ChangeLog.{ack, is_ahead}
use Rattle.oc_model.specs.Checking.{counts_clients, notes_time, reports, checks_as, sets_due, checks, merges, merges_all, at_time, starts_leases, dies, ends_each, ends_leases, looks_at_each, looks_round, is_due, forgets_refusal, goes_on, tick_checks_as, tick_checks, checks_in_time, has_news, reports_news_as, reports_news, checks_if_due, fetches_as, tick, acknowledges, life, checked_in, is_joined_to, takes_place, takes_rank, takes_rank_unless, same_ids, takes_ancestors, took_ack, is_peer, took_rejoin}
use Rattle.oc_model.specs.Choice.{below, chosen, reviewed}
use Rattle.oc_model.specs.Leases.{ended}
use Rattle.oc_model.specs.Measures.{reading_of, with_reading, same_reading}
use Rattle.oc_model.specs.Node.{Control, Durable, Log, no_reading}
use Rattle.oc_model.specs.Numbers.{number_end, raise, capped}
use Rattle.oc_model.specs.Plan.{Plan, begun, write, send, answers, with_soft, searching, ignored, is_member, rate_to}
use Rattle.oc_model.specs.Content.{published, sealed_at, fetched, took_chunk}
use Rattle.oc_model.specs.Looking.{Stand, candidates, goes_down, descends, view, place_in, is_place, wishes, leaves_for, goes_where, weighs, reviews_place, prefers, keeps_line, sees_as, sees}
use Rattle.oc_model.specs.Serving.{redirects, server_for, client_of, may_move, measured}
use Rattle.oc_model.specs.Step.{received, plan}
use Rattle.oc_model.specs.declared.input.Input.{Input}
use Rattle.oc_model.specs.declared.input.Input.TheVariants as inputs
use Rattle.oc_model.specs.declared.message.Body.{Body}
use Rattle.oc_laws_step.proofs.Contents.{Stays as Unmoved, stays_published, stays_sealed_at, stays_fetched, stays_took_chunk}
use Rattle.oc_model.specs.Table.{newest, is_news}
use Rattle.oc_record.specs.Quash.{LogTakes}
use Rattle.oc_laws_step.proofs.Goes.{either, either_by}
use Rattle.oc_record.proofs.Moves.{Left, Stays, Moved, still, left, joined, stays, tail_none, IsNewer, Fresh, same, newer, Keeps, fresh_entry, fresh_mode, fresh_moved, fresh_part, Begins, fresh, begins_along, begins_moved, begins_lost}
use Rattle.oc_record.proofs.MovesAsking.{moved_ask, moved_descend, moved_next_try, moved_round, moved_ask_before}
use Rattle.oc_laws_step.proofs.RankOrder.{fact_precedes, precedes_fact, precedes_irreflexive}

-- Numbers, ranks and lists that a record makes others

-- the next number is the one above
raise_next : (k e : ℕ) → raise k ≡ Some e → e ≡ k + 1
raise_next k e h = by_end (k == number_end) refl where
  by_end : (b : Bool) → k == number_end ≡ b → e ≡ k + 1
  by_end true is = let none : None ≡ Some e = rw is at h in absurd cc
  by_end false is = let some : Some (k + 1) ≡ Some e = rw is at h in cc

abbrev root_rank : ℕ → Rank
root_rank e = record { epoch = e; depth = 0 }

-- the rank with an epoch above one's own is another
raised_other : (own : Option Rank) (e : ℕ) → raise (rank_or_last own).epoch ≡ Some e → Some (root_rank e) ≡ own → ⊥
raised_other None e h is = absurd cc
raised_other (Some r) e h is =
    let same : root_rank e ≡ r = cc in
    let epoch : e ≡ r.epoch = ap (λ s. s.epoch) same in
    let next = raise_next r.epoch e h in
    omega arith

-- an epoch above that of an asker is another one, if the node's rank does not precede the asker's
over_other : (own : Option Rank) (r : Rank) (e : ℕ) → precedes (rank_or_last own) r ≡ false → raise r.epoch ≡ Some e → Some (root_rank e) ≡ own → ⊥
over_other None r e not_before h is = absurd cc
over_other (Some o) r e not_before h is =
    let same : root_rank e ≡ o = cc in
    let epoch : e ≡ o.epoch = ap (λ s. s.epoch) same in
    let next = raise_next r.epoch e h in
    let before : precedes o r ≡ true = fact_precedes o r (inl (omega arith)) in
    true≢false (sym before ∙ not_before)

-- a better rank is another
better_other : (own : Option Rank) (told : Rank) → is_better own told ≡ true → Some (beneath_of told) ≡ own → ⊥
better_other own told better is = by_own own (and_parts (nat_lt told.depth MAX_DEPTH) (precedes_any (beneath_of told) own) better).1 is where
  by_own : (own : Option Rank) → precedes_any (beneath_of told) own ≡ true → Some (beneath_of told) ≡ own → ⊥
  by_own None before is = absurd cc
  by_own (Some r) before is =
      let same : beneath_of told ≡ r = cc in
      precedes_irreflexive r (precedes_fact r r (subst (λ s. precedes s r ≡ true) same before))

same_ids-itself : (xs : List ℕ) → same_ids xs xs ≡ true
same_ids-itself [] = refl
same_ids-itself (x ∷ xs) = let here : x == x ≡ true = eq-eqb x x refl in rw here (same_ids-itself xs)

other_ids : (xs ys : List ℕ) → same_ids xs ys ≡ false → xs ≡ ys → ⊥
other_ids xs ys other is = true≢false (sym (same_ids-itself xs) ∙ subst (λ zs. same_ids xs zs ≡ false) (sym is) other)

same_reading-itself : (r : Reading) → same_reading r r ≡ true
same_reading-itself r = let rate : r.rate == r.rate ≡ true = eq-eqb r.rate r.rate refl in let hops : r.hops == r.hops ≡ true = eq-eqb r.hops r.hops refl in rw (rate, hops)

at_set : (ms : List Reading) (i : ℕ) (r d : Reading) → i < length ms → get_or (set ms i r) i d ≡ r
at_set [] i r d within = absurd (omega (arith, within))
at_set (m ∷ ms) zero r d within = refl
at_set (m ∷ ms) (suc i) r d within = at_set ms i r d (omega (arith, within))

-- another reading of a peer makes other readings
other_readings : (ms : List Reading) (p : ℕ) (r : Reading) → 1 ≤ p → p ≤ length ms → same_reading (reading_of ms p) r ≡ false → with_reading ms p r ≡ ms → ⊥
other_readings ms p r first last other is =
    let here : reading_of ms p ≡ r = sym (ap (λ (xs : List Reading). get_or xs (p - 1) no_reading) is) ∙ at_set ms (p - 1) r no_reading (omega (arith, first, last)) in
    true≢false (sym (same_reading-itself r) ∙ subst (λ s. same_reading s r ≡ false) here other)

module _ (Q : Type 0) (n : Control) (sound : Q → (p : ℕ) → n.kept.mode ≡ modes.Asking p → n.kept.seq ≡ 0 → ⊥) where
  abbrev M : Plan → Type 0
  M o = Moved Q n.kept o

  at_start : Fresh n.kept (begun n)
  at_start = same refl refl

  -- the same for equal records and durable parts
  along : (o q : Plan) → q.records ≡ o.records → q.node.kept ≡ o.node.kept → M o → M q
  along o q rs kept (still none is) = still (rs ∙ none) (kept ∙ is)
  along o q rs kept (left gone) = left (subst (Left n.kept) (sym kept) gone)
  along o q rs kept (joined p r was now) = joined p r was (ap (λ e. e.mode) kept ∙ now)
  along o q rs kept (stays taken here) = stays taken (subst (λ e. Stays Q n.kept e taken) (sym kept) here)

  fresh_along : (o q : Plan) → q.records ≡ o.records → q.node.kept ≡ o.node.kept → Fresh n.kept o → Fresh n.kept q
  fresh_along o q rs kept (same none is) = same (rs ∙ none) (kept ∙ is)
  fresh_along o q rs kept (newer taken keeps apart) = newer taken (subst (λ e. Keeps n.kept e taken) (sym kept) keeps) (subst (λ e. IsNewer n.kept.table e.table) (sym kept) apart)

  pub ignores : M (ignored (begun n))
  ignores = still refl refl

  not_acting : (m : Mode) → n.kept.mode ≡ m → (m ≡ modes.Acting → ⊥) → n.kept.mode ≡ modes.Acting → ⊥
  not_acting m is other acting = other (sym is ∙ acting)

  -- Answer an ask

  abbrev raised : ℕ → Plan
  raised e = write (begun n) (records.Epoch e)

  -- the rank is another, and perhaps an entry came
  stays_raised : (e : ℕ) → (Some (root_rank e) ≡ n.kept.rank → ⊥) → M (raised e)
  stays_raised e other = stays [] (record { seq = refl; mode = refl; table = refl; log = λ p is. inl (tail_none n.kept.log); changed = λ q back. other (ap (λ d. d.rank) back) })

  stays_entered : (e : ℕ) (c : Cert) → is_news n.kept.table c ≡ true → (Some (root_rank e) ≡ n.kept.rank → ⊥) → M (write (raised e) (records.Entry c))
  stays_entered e c news other =
      by_entry (fresh_entry n.kept (begun n) c news at_start) where
        by_entry : Fresh n.kept (write (begun n) (records.Entry c)) → M (write (raised e) (records.Entry c))
        by_entry (same none is) = absurd (cc none)
        by_entry (newer taken keeps apart) = stays taken (record { seq = keeps.seq; mode = keeps.mode; table = keeps.table; log = λ p is. inl (keeps.log p is); changed = λ q back. other (ap (λ d. d.rank) back) })

  moved_adopts : (o : Plan) (x seq : ℕ) → M o → (is_news o.node.kept.table (birth x seq o.node.me) ≡ true → M (write o (records.Entry (birth x seq o.node.me)))) → M (adopts o x seq)
  moved_adopts o x seq here born =
      either (has_lease o.node x seq) M (grants o x seq)
      (if is_news o.node.kept.table (birth x seq o.node.me) then grants (write o (records.Entry (birth x seq o.node.me))) x seq else sends_rejoin o x seq)
      (along o (grants o x seq) refl refl here)
      (either_by (is_news o.node.kept.table (birth x seq o.node.me)) M (grants (write o (records.Entry (birth x seq o.node.me))) x seq) (sends_rejoin o x seq)
      (λ e. along (write o (records.Entry (birth x seq o.node.me))) (grants (write o (records.Entry (birth x seq o.node.me))) x seq) refl refl (born e))
      (λ e. along o (sends_rejoin o x seq) refl refl here))

  moved_answers_ask : (why : Option Refusal) (o : Plan) (x seq : ℕ) → M o → (is_news o.node.kept.table (birth x seq o.node.me) ≡ true → M (write o (records.Entry (birth x seq o.node.me)))) → M (answers_ask why o x seq)
  moved_answers_ask None o x seq here born = moved_adopts o x seq here born
  moved_answers_ask (Some why) o x seq here born = along o (send o x (bodies.No seq why)) refl refl here

  -- the answer to an ask, after the epoch was raised if need be
  abbrev Answers : ℕ → ℕ → Option Rank → Plan → Type 0
  Answers x seq r o = M (asked_at o x seq r)

  answers_raised : (x seq : ℕ) (r : Option Rank) (e : ℕ) → (Some (root_rank e) ≡ n.kept.rank → ⊥) → Answers x seq r (raised e)
  answers_raised x seq r e other =
      moved_answers_ask (adoption_refusal (host (raised e).node x) x r) (raised e) x seq (stays_raised e other)
      (λ news. stays_entered e (birth x seq n.me) news other)

  answers_same : (x seq : ℕ) (r : Option Rank) → Answers x seq r (begun n)
  answers_same x seq r =
      moved_answers_ask (adoption_refusal (host n x) x r) (begun n) x seq (still refl refl)
      (λ news. fresh_moved Q n.kept (write (begun n) (records.Entry (birth x seq n.me))) (fresh_entry n.kept (begun n) (birth x seq n.me) news at_start))

  answers_to : (x seq : ℕ) (r : Option Rank) (e : Option ℕ) → ((k : ℕ) → e ≡ Some k → Some (root_rank k) ≡ n.kept.rank → ⊥) → Answers x seq r (raises (begun n) e)
  answers_to x seq r None other = answers_same x seq r
  answers_to x seq r (Some k) other = answers_raised x seq r k (other k refl)

  abbrev is_over : ℕ → Rank → Bool
  is_over x r = is_acting n.kept.mode && not (precedes (rank_or_last n.kept.rank) r) && not (x == n.me)

  not_true : (b : Bool) → not b ≡ true → b ≡ false
  not_true true h = absurd (cc h)
  not_true false h = refl

  pub moves_asked : (x seq : ℕ) (r : Option Rank) → M (asked (begun n) x seq r)
  moves_asked x seq r =
      either_by (is_over x (rank_or_last r)) (Answers x seq r) (raises (begun n) (raise (rank_or_last r).epoch)) (begun n)
      (λ e. answers_to x seq r (raise (rank_or_last r).epoch)
      (λ k is. over_other n.kept.rank (rank_or_last r) k
      (not_true (precedes (rank_or_last n.kept.rank) (rank_or_last r)) (and_parts (is_acting n.kept.mode) (not (precedes (rank_or_last n.kept.rank) (rank_or_last r))) (and_parts (is_acting n.kept.mode && not (precedes (rank_or_last n.kept.rank) (rank_or_last r))) (not (x == n.me)) e).0).1) is))
      (λ e. answers_same x seq r)

  -- Take a yes

  asking_is : (m : Mode) (p : ℕ) → is_asking m p ≡ true → m ≡ modes.Asking p
  asking_is (modes.Asking q) p h = ap modes.Asking (eqb-true q p h)
  asking_is (modes.Joined q) p h = absurd (cc h)
  asking_is modes.Idle p h = absurd (cc h)
  asking_is modes.Acting p h = absurd (cc h)

  moved_joins : (p : ℕ) (r : Rank) (xs : List ℕ) → n.kept.mode ≡ modes.Asking p → M (joins (begun n) p r xs)
  moved_joins p r xs asking = by_number (n.kept.seq == 0) refl where
    by_number : (b : Bool) → n.kept.seq == 0 ≡ b → M (joins (begun n) p r xs)
    by_number true e =
        stays [] (record {
          seq = rw e refl;
          mode = rw e refl;
          table = rw e refl;
          log = λ q is. absurd (cc (sym asking ∙ is));
          changed = λ q back. sound q p asking (eqb-true n.kept.seq 0 e);
        })
    by_number false e = joined p p asking (rw e refl)

  pub moves_took_yes : (p seq : ℕ) (r : Rank) (xs : List ℕ) → M (took_yes (begun n) p seq r xs)
  moves_took_yes p seq r xs =
      either_by (is_asking n.kept.mode p && seq == n.kept.seq && nat_lt r.depth MAX_DEPTH && precedes_any r n.kept.rank) M (joins (begun n) p r xs) (ignored (begun n))
      (λ e. moved_joins p r xs (asking_is n.kept.mode p
      (and_parts (is_asking n.kept.mode p) (seq == n.kept.seq) (and_parts (is_asking n.kept.mode p && seq == n.kept.seq) (nat_lt r.depth MAX_DEPTH) (and_parts _ (precedes_any r n.kept.rank) e).0).0).0))
      (λ e. ignores)

  -- Take a no

  begins_start : Begins n.kept (begun n)
  begins_start = fresh at_start

  moved_refused : (o : Plan) (why : Refusal) → (n.kept.mode ≡ modes.Acting → ⊥) → Begins n.kept o → M (refused o why)
  moved_refused o (refusals.Chain k) other b = either (is_member o.node || k == o.node.me) M (next_try o) (descend o k) (moved_next_try Q n.kept o other b) (moved_descend Q n.kept o k b)
  moved_refused o refusals.Own other b = moved_next_try Q n.kept o other b
  moved_refused o refusals.NotJoined other b = moved_next_try Q n.kept o other b
  moved_refused o refusals.Ancestor other b = moved_next_try Q n.kept o other b
  moved_refused o refusals.Depth other b = moved_next_try Q n.kept o other b
  moved_refused o refusals.Rank other b = moved_next_try Q n.kept o other b

  abbrev heard : Plan
  heard = with_soft (lost (begun n)) (record n.soft { silent = false; refused = true })

  begins_heard : Begins n.kept heard
  begins_heard = by_lost (begins_lost n.kept (begun n) begins_start) where
    by_lost : Begins n.kept (lost (begun n)) → Begins n.kept (with_soft (lost (begun n)) (record (begun n).node.soft { silent = false; refused = true }))
    by_lost b = begins_along n.kept (lost (begun n)) (with_soft (lost (begun n)) (record (begun n).node.soft { silent = false; refused = true })) refl refl b

  pub moves_took_no : (p seq : ℕ) (why : Refusal) → M (took_no (begun n) p seq why)
  moves_took_no p seq why =
      either_by (is_asking n.kept.mode p && seq == n.kept.seq) M (refused heard why) (ignored (begun n))
      (λ e. moved_refused heard why (not_acting (modes.Asking p) (asking_is n.kept.mode p (and_parts (is_asking n.kept.mode p) (seq == n.kept.seq) e).0) (λ a. absurd (cc a))) begins_heard)
      (λ e. ignores)

  -- Unreachable: a root is not on its way down, or the node is no root

  moved_not_seen : (s : Option Search) (p : ℕ) → ((q : ℕ) → s ≡ Some (Descend q) → n.kept.mode ≡ modes.Acting → ⊥) → M (not_seen s (begun n) p)
  moved_not_seen (Some (Descend q)) p other =
      either (q == p) M (next_try (searching (begun n) None)) (ignored (begun n))
      (moved_next_try Q n.kept (searching (begun n) None) (other q refl) (begins_along n.kept (begun n) (searching (begun n) None) refl refl begins_start)) ignores
  moved_not_seen (Some Review) p other = ignores
  moved_not_seen None p other = ignores

  moved_not_reached : (m : Mode) (p : ℕ) → n.kept.mode ≡ m → ((q : ℕ) → n.soft.search ≡ Some (Descend q) → n.kept.mode ≡ modes.Acting → ⊥) → M (not_reached m (begun n) p)
  moved_not_reached (modes.Joined q) p is other =
      either (q == p) M (round (lost (begun n)) (Some p)) (not_seen n.soft.search (begun n) p)
      (moved_round Q n.kept (lost (begun n)) (Some p) (not_acting (modes.Joined q) is (λ a. absurd (cc a))) (begins_lost n.kept (begun n) begins_start)) (moved_not_seen n.soft.search p other)
  moved_not_reached (modes.Asking q) p is other =
      either (q == p) M (next_try (lost (begun n))) (not_seen n.soft.search (begun n) p)
      (moved_next_try Q n.kept (lost (begun n)) (not_acting (modes.Asking q) is (λ a. absurd (cc a))) (begins_lost n.kept (begun n) begins_start)) (moved_not_seen n.soft.search p other)
  moved_not_reached modes.Idle p is other = moved_not_seen n.soft.search p other
  moved_not_reached modes.Acting p is other = moved_not_seen n.soft.search p other

  pub moves_unreachable : (p : ℕ) → ((q : ℕ) → n.soft.search ≡ Some (Descend q) → n.kept.mode ≡ modes.Acting → ⊥) → M (unreachable (begun n) p)
  moves_unreachable p other = moved_not_reached n.kept.mode p refl other

  pub moves_relocate : (p : ℕ) → M (relocate (begun n) p)
  moves_relocate p =
      either (p == n.me) M (answers (begun n) words.Own) (if n.me == 1 || (is_member n && nat_lt n.me p) then answers (begun n) words.Fixed else ask_before (notes_parent (begun n)) p)
      (still refl refl)
      (either (n.me == 1 || (is_member n && nat_lt n.me p)) M (answers (begun n) words.Fixed) (ask_before (notes_parent (begun n)) p)
      (still refl refl) (moved_ask_before Q n.kept (notes_parent (begun n)) p (begins_along n.kept (begun n) (notes_parent (begun n)) refl refl begins_start)))

  pub moves_took_rejoin : (p seq : ℕ) → M (took_rejoin (begun n) p seq)
  moves_took_rejoin p seq = either (is_peer n.kept.mode p && seq == n.kept.seq) M (ask_before (begun n) p) (ignored (begun n)) (moved_ask_before Q n.kept (begun n) p begins_start) ignores

  -- Check now, of a node that has merged certificates at most

  moved_counts : (o : Plan) → Fresh n.kept o → M (counts_clients o)
  moved_counts o f =
      either (not (o.node.soft.served == 0) && nat_lt o.node.kept.number number_end) M
      (with_soft (write o (records.Info (o.node.kept.number + 1) (capped (o.node.kept.clients + o.node.soft.served)))) (record o.node.soft { served = 0 })) o
      (along (write o (records.Info (o.node.kept.number + 1) (capped (o.node.kept.clients + o.node.soft.served))))
      (with_soft (write o (records.Info (o.node.kept.number + 1) (capped (o.node.kept.clients + o.node.soft.served)))) (record o.node.soft { served = 0 })) refl refl
      (fresh_part Q n.kept o (records.Info (o.node.kept.number + 1) (capped (o.node.kept.clients + o.node.soft.served))) refl refl refl refl
      (λ q back. let same : o.node.kept.number + 1 ≡ o.node.kept.number = ap (λ e. e.number) back in omega arith) f))
      (fresh_moved Q n.kept o f)

  moved_raises : (o : Plan) (e : Option ℕ) → ((k : ℕ) → e ≡ Some k → Some (root_rank k) ≡ o.node.kept.rank → ⊥) → Fresh n.kept o → M (raises o e)
  moved_raises o None other f = fresh_moved Q n.kept o f
  moved_raises o (Some k) other f = fresh_part Q n.kept o (records.Epoch k) refl refl refl refl (λ q back. other k refl (ap (λ e. e.rank) back)) f

  moved_reports : (o : Plan) (p : ℕ) → Fresh n.kept o → M (reports o p)
  moved_reports o p f = along (counts_clients (notes_time o)) (reports o p) refl refl (moved_counts (notes_time o) (fresh_along o (notes_time o) refl refl f))

  moved_checks_as : (m : Mode) (o : Plan) → o.node.kept.mode ≡ m → Fresh n.kept o → M (checks_as m o)
  moved_checks_as (modes.Joined p) o is f = moved_reports o p f
  moved_checks_as modes.Acting o is f = moved_raises o (raise (rank_or_last o.node.kept.rank).epoch) (λ k e. raised_other o.node.kept.rank k e) f
  moved_checks_as modes.Idle o is f = moved_round Q n.kept o None (not_acting modes.Idle (sym (fresh_mode n.kept o f) ∙ is) (λ a. absurd (cc a))) (fresh f)
  moved_checks_as (modes.Asking p) o is f = fresh_moved Q n.kept (send o p (bodies.Ask o.node.kept.seq o.node.kept.rank)) (fresh_along o (send o p (bodies.Ask o.node.kept.seq o.node.kept.rank)) refl refl f)

  moved_checks : (o : Plan) → Fresh n.kept o → M (checks o)
  moved_checks o f = moved_checks_as o.node.kept.mode (sets_due o) refl (fresh_along o (sets_due o) refl refl f)

  pub moves_checks : M (checks (begun n))
  moves_checks = moved_checks (begun n) at_start

  -- Tick

  fresh_merges : (o : Plan) (c : Cert) → Fresh n.kept o → Fresh n.kept (merges o c)
  fresh_merges o c f = either_by (is_news o.node.kept.table c) (Fresh n.kept) (write o (records.Entry c)) o (λ e. fresh_entry n.kept o c e f) (λ e. f)

  fresh_merges_all : (cs : List Cert) (o : Plan) → Fresh n.kept o → Fresh n.kept (merges_all cs o)
  fresh_merges_all [] o f = f
  fresh_merges_all (c ∷ cs) o f = fresh_merges_all cs (merges o c) (fresh_merges o c f)

  fresh_dies : (k : Option Cert) (o : Plan) → Fresh n.kept o → Fresh n.kept (dies k o)
  fresh_dies None o f = f
  fresh_dies (Some k) o f = fresh_merges o (record k { dead = true }) f

  fresh_ends_each : (xs : List ℕ) (o : Plan) → Fresh n.kept o → Fresh n.kept (ends_each xs o)
  fresh_ends_each [] o f = f
  fresh_ends_each (x ∷ xs) o f = fresh_ends_each xs (dies (newest o.node.kept.table x) o) (fresh_dies (newest o.node.kept.table x) o f)

  moved_looks_at_each : (xs : List ℕ) (o : Plan) → M o → M (looks_at_each xs o)
  moved_looks_at_each [] o here = here
  moved_looks_at_each (x ∷ xs) o here = moved_looks_at_each xs (send o x bodies.Look) (along o (send o x bodies.Look) refl refl here)

  moved_looks_round : (m : Mode) (o : Plan) → M o → M (looks_round m o)
  moved_looks_round (modes.Joined p) o here =
      either (is_member o.node) M (looks_at_each (filter (λ x. nat_lt p x) (below o.node.me)) o) (if o.node.soft.refused then o else send (searching o (Some Review)) p bodies.Look)
      (moved_looks_at_each (filter (λ x. nat_lt p x) (below o.node.me)) o here)
      (either o.node.soft.refused M o (send (searching o (Some Review)) p bodies.Look) here (along o (send (searching o (Some Review)) p bodies.Look) refl refl here))
  moved_looks_round modes.Acting o here = either (is_member o.node) M (looks_at_each (below o.node.me) o) o (moved_looks_at_each (below o.node.me) o here) here
  moved_looks_round modes.Idle o here = here
  moved_looks_round (modes.Asking p) o here = here

  fresh_forgets : (due : Option ℕ) (o : Plan) → Fresh n.kept o → Fresh n.kept (forgets_refusal due o)
  fresh_forgets None o f = f
  fresh_forgets (Some t) o f = fresh_along o (with_soft o (record o.node.soft { refused = false })) refl refl f

  moved_goes_on : (s : Option Search) (o : Plan) → o.node.kept.mode ≡ modes.Idle → Fresh n.kept o → M (goes_on s o)
  moved_goes_on (Some (Descend p)) o is f = fresh_moved Q n.kept (send o p bodies.Look) (fresh_along o (send o p bodies.Look) refl refl f)
  moved_goes_on (Some Review) o is f = moved_checks_as modes.Idle o is f
  moved_goes_on None o is f = moved_checks_as modes.Idle o is f

  moved_tick_checks_as : (m : Mode) (o : Plan) → o.node.kept.mode ≡ m → Fresh n.kept o → M (tick_checks_as m o)
  moved_tick_checks_as modes.Idle o is f = moved_goes_on o.node.soft.search o is f
  moved_tick_checks_as (modes.Joined p) o is f = moved_checks_as (modes.Joined p) o is f
  moved_tick_checks_as (modes.Asking p) o is f = moved_checks_as (modes.Asking p) o is f
  moved_tick_checks_as modes.Acting o is f = moved_checks_as modes.Acting o is f

  moved_tick_checks : (o : Plan) → Fresh n.kept o → M (tick_checks o)
  moved_tick_checks o f = moved_tick_checks_as o.node.kept.mode (sets_due o) refl (fresh_along o (sets_due o) refl refl f)

  moved_checks_in_time : (o : Plan) → Fresh n.kept o → M (checks_in_time o)
  moved_checks_in_time o f =
      let begins : Plan = forgets_refusal o.node.soft.due o in
      moved_looks_round o.node.kept.mode (tick_checks begins) (moved_tick_checks begins (fresh_forgets o.node.soft.due o f))

  moved_reports_news_as : (m : Mode) (o : Plan) → Fresh n.kept o → M (reports_news_as m o)
  moved_reports_news_as (modes.Joined p) o f = either (has_news o.node) M (reports o p) o (moved_reports o p f) (fresh_moved Q n.kept o f)
  moved_reports_news_as modes.Idle o f = fresh_moved Q n.kept o f
  moved_reports_news_as (modes.Asking p) o f = fresh_moved Q n.kept o f
  moved_reports_news_as modes.Acting o f = fresh_moved Q n.kept o f

  moved_checks_if_due : (o : Plan) → Fresh n.kept o → M (checks_if_due o)
  moved_checks_if_due o f =
      either (is_due o.node.soft.due o.node.soft.clock) M (checks_in_time o) (reports_news o) (moved_checks_in_time o f) (moved_reports_news_as o.node.kept.mode o f)

  moved_fetches_as : (m : Mode) (o : Plan) (shelf : List Shelf) → M o → M (fetches_as m o shelf)
  moved_fetches_as (modes.Joined p) o shelf here = along o (send o p (bodies.Fetch shelf)) refl refl here
  moved_fetches_as modes.Idle o shelf here = here
  moved_fetches_as (modes.Asking p) o shelf here = here
  moved_fetches_as modes.Acting o shelf here = here

  abbrev timed : ℕ → Plan
  timed t = starts_leases (at_time (begun n) t)

  pub moves_tick : (shelf : List Shelf) (t : ℕ) → M (tick (begun n) shelf t)
  moves_tick shelf t =
      let ends : Fresh n.kept (ends_leases (timed t)) = fresh_ends_each (ended n.kept.table n.me (timed t).node.leases (timed t).node.soft.clock) (timed t) (fresh_along (begun n) (timed t) refl refl at_start) in
      moved_fetches_as (checks_if_due (ends_leases (timed t))).node.kept.mode (checks_if_due (ends_leases (timed t))) shelf (moved_checks_if_due (ends_leases (timed t)) ends)

  -- Check-ins

  pub moves_checked_in : (x seq upto rate number clients : ℕ) (certs : List Cert) → M (checked_in (begun n) x seq upto rate number clients certs)
  moves_checked_in x seq upto rate number clients certs =
      let told = life x seq n.me number clients ∷ certs in
      either (has_lease n x seq) M (acknowledges (merges_all told (begun n)) x seq upto rate) (sends_rejoin (begun n) x seq)
      (along (merges_all told (begun n)) (acknowledges (merges_all told (begun n)) x seq upto rate) refl refl
      (fresh_moved Q n.kept (merges_all told (begun n)) (fresh_merges_all told (begun n) at_start)))
      (still refl refl)

  -- an acknowledgement makes the log, the rank and the ancestors others
  abbrev parts : Log → Option Rank → List ℕ → Durable
  parts l r xs = record n.kept { log = l; rank = r; ancestors = xs }

  record Acks (o : Plan) (r : Option Rank) (xs : List ℕ) : Type 0 where
    log : Log
    kept : o.node.kept ≡ parts log r xs
    taken : LogTakes n.kept.log [] log
    either_way : ((o.records ≡ []) × (log ≡ n.kept.log) × (r ≡ n.kept.rank) × (xs ≡ n.kept.ancestors)) ⊎ (log ≡ n.kept.log → r ≡ n.kept.rank → xs ≡ n.kept.ancestors → ⊥)

  acks_start : Acks (begun n) n.kept.rank n.kept.ancestors
  acks_start = record { log = n.kept.log; kept = refl; taken = inl (tail_none n.kept.log); either_way = inl (refl, refl, refl, refl) }

  ahead_other : (l : Log) (upto : ℕ) → is_ahead l upto ≡ true → ack l upto ≡ l → ⊥
  ahead_other l upto ahead is =
      let after : l.acked < upto = ltb-true l.acked upto (and_parts (nat_lt l.acked upto) (nat_le upto l.length) ahead).0 in
      let place : upto ≡ l.acked = sym (by_test ahead) ∙ ap (λ k. k.acked) is in
      omega arith where
        by_test : is_ahead l upto ≡ true → (ack l upto).acked ≡ upto
        by_test e = rw e

  acks_place : (upto : ℕ) → Acks (takes_place (begun n) upto) n.kept.rank n.kept.ancestors
  acks_place upto =
      either_by (is_ahead n.kept.log upto) (λ o. Acks o n.kept.rank n.kept.ancestors) (write (begun n) (records.Acked upto)) (begun n)
      (λ e. record { log = ack n.kept.log upto; kept = refl; taken = inr (refl, (upto, refl)); either_way = inr (λ same own all. ahead_other n.kept.log upto e same) })
      (λ e. acks_start)

  acks_rank : (o : Plan) (told : Rank) → Acks o n.kept.rank n.kept.ancestors → (r : Option Rank) × Acks (takes_rank o told) r n.kept.ancestors
  acks_rank o told h =
      either_by (is_better o.node.kept.rank told) (λ q. (r : Option Rank) × Acks q r n.kept.ancestors) (write o (records.Ranked (beneath_of told))) o
      (λ e. (
        Some (beneath_of told),
        record {
          log = h.log;
          kept = ap (λ (d : Durable). record d { rank = Some (beneath_of told) }) h.kept;
          taken = h.taken;
          either_way = inr (λ same own all. better_other n.kept.rank told (subst (λ (d : Durable). is_better d.rank told ≡ true) h.kept e) own);
        },
      ))
      (λ e. (n.kept.rank, h))

  acks_rank_unless : (wish : Option ℕ) (o : Plan) (told : Rank) → Acks o n.kept.rank n.kept.ancestors → (r : Option Rank) × Acks (takes_rank_unless wish o told) r n.kept.ancestors
  acks_rank_unless None o told h = acks_rank o told h
  acks_rank_unless (Some g) o told h = (n.kept.rank, h)

  acks_ancestors : (o : Plan) (r : Option Rank) (xs : List ℕ) → Acks o r n.kept.ancestors → (ys : List ℕ) × Acks (takes_ancestors o xs) r ys
  acks_ancestors o r xs h =
      either_by (same_ids xs o.node.kept.ancestors) (λ q. (ys : List ℕ) × Acks q r ys) o (write o (records.Ancestors xs))
      (λ e. (n.kept.ancestors, h))
      (λ e. (
        xs,
        record {
          log = h.log;
          kept = ap (λ (d : Durable). record d { ancestors = xs }) h.kept;
          taken = h.taken;
          either_way = inr (λ same own all. other_ids xs n.kept.ancestors (subst (λ (d : Durable). same_ids xs d.ancestors ≡ false) h.kept e) all);
        },
      ))

  acks_moved : (o : Plan) (r : Option Rank) (xs : List ℕ) → Acks o r xs → M o
  acks_moved o r xs h = by_way h.either_way where
    by_way : ((o.records ≡ []) × (h.log ≡ n.kept.log) × (r ≡ n.kept.rank) × (xs ≡ n.kept.ancestors)) ⊎ (h.log ≡ n.kept.log → r ≡ n.kept.rank → xs ≡ n.kept.ancestors → ⊥) → M o
    by_way (inl none) = still none.0 (h.kept ∙ (λ i. parts (none.1 i) (none.2 i) (none.3 i)))
    by_way (inr other) = stays [] (record {
      seq = ap (λ e. e.seq) h.kept;
      mode = ap (λ e. e.mode) h.kept;
      table = ap (λ e. e.table) h.kept;
      log = λ p is. subst (LogTakes n.kept.log []) (sym (ap (λ e. e.log) h.kept)) h.taken;
      changed = λ q back. let whole : parts h.log r xs ≡ n.kept = sym h.kept ∙ back in other (ap (λ e. e.log) whole) (ap (λ e. e.rank) whole) (ap (λ e. e.ancestors) whole);
    })

  pub moves_took_ack : (p seq upto : ℕ) (told : Rank) (xs : List ℕ) → M (took_ack (begun n) p seq upto told xs)
  moves_took_ack p seq upto told xs =
      let took : Plan = takes_rank_unless n.soft.wish (takes_place (begun n) upto) told in
      either (is_joined_to n.kept.mode p && seq == n.kept.seq) M (takes_ancestors took (ancestors_by p xs)) (ignored (begun n))
      (let ranked = acks_rank_unless n.soft.wish (takes_place (begun n) upto) told (acks_place upto) in
      let all = acks_ancestors took ranked.0 (ancestors_by p xs) ranked.1 in
      acks_moved (takes_ancestors took (ancestors_by p xs)) ranked.0 all.0 all.1)
      ignores

  -- Measured

  pub moves_measured : (p rate hops : ℕ) → (Q → (1 ≤ p) × (p ≤ length n.kept.measures)) → M (measured (begun n) p rate hops)
  moves_measured p rate hops within =
      let is_old : Bool = same_reading (reading_of n.kept.measures p) (record { rate = rate; hops = hops }) in
      let wrote : Plan = write (begun n) (records.Rate p rate hops) in
      either (p == n.me) M (answers (begun n) words.Own) (if is_old then begun n else may_move wrote)
      (still refl refl)
      (either_by is_old M (begun n) (may_move wrote) (λ e. still refl refl)
      (λ e. along wrote (may_move wrote) refl refl (fresh_part Q n.kept (begun n) (records.Rate p rate hops) refl refl refl refl
      (λ q back. let range = within q in other_readings n.kept.measures p (record { rate = rate; hops = hops }) range.0 range.1 e (ap (λ d. d.measures) back)) at_start)))

  -- Look

  moved_goes_down : (k : Option ℕ) (o : Plan) (p : ℕ) → Begins n.kept o → M (goes_down k o p)
  moved_goes_down None o p b = moved_ask Q n.kept o p b
  moved_goes_down (Some k) o p b = moved_descend Q n.kept o k b

  moved_descends : (p : ℕ) (s : Stand) → (n.kept.mode ≡ modes.Acting → ⊥) → M (descends (begun n) p s)
  moved_descends p s other =
      either s.in_tree M (goes_down (chosen (rate_to n p) (candidates n s.children)) (begun n) p) (next_try (searching (begun n) None))
      (moved_goes_down (chosen (rate_to n p) (candidates n s.children)) (begun n) p begins_start)
      (moved_next_try Q n.kept (searching (begun n) None) other (begins_along n.kept (begun n) (searching (begun n) None) refl refl begins_start))

  moved_wishes : (o : Plan) (place : Option ℕ) (count : ℕ) → Begins n.kept o → M (wishes o place count)
  moved_wishes o place count b = begins_moved Q n.kept (wishes o place count) (begins_along n.kept o (wishes o place count) refl refl b)

  moved_leaves_for : (o : Plan) (p g : ℕ) → Begins n.kept o → M (leaves_for o p g)
  moved_leaves_for o p g b =
      let left : Plan = with_soft o (record o.node.soft { left = Some p; moves = o.node.soft.moves + 1 }) in
      moved_ask_before Q n.kept left g (begins_along n.kept o left refl refl b)

  moved_goes_where : (place : Option ℕ) (o : Plan) (p : ℕ) → Begins n.kept o → M (goes_where place o p)
  moved_goes_where None o p b = begins_moved Q n.kept o b
  moved_goes_where (Some g) o p b =
      either (nat_lt o.node.soft.waits (o.node.soft.patience + 2)) M (wishes o (Some g) (o.node.soft.waits + 1)) (leaves_for o p g)
      (moved_wishes o (Some g) (o.node.soft.waits + 1) b) (moved_leaves_for o p g b)

  moved_weighs : (o : Plan) (p : ℕ) (place : Option ℕ) → Begins n.kept o → M (weighs o p place)
  moved_weighs o p place b =
      let soft : Soft = o.node.soft in
      let doubts : Bool = not (is_place place soft.wish) && nat_lt 0 soft.waits in
      let doubted : Plan = wishes o soft.wish (soft.waits - 1) in
      let wished : Plan = wishes o place soft.waits in
      either (nat_le MAX_MOVES soft.moves) M (wishes o None 0) (if doubts then doubted else goes_where place wished p) (moved_wishes o None 0 b)
      (either doubts M doubted (goes_where place wished p) (moved_wishes o soft.wish (soft.waits - 1) b) (moved_goes_where place wished p (begins_along n.kept o wished refl refl b)))

  moved_keeps_line : (p : ℕ) (s : Stand) → M (keeps_line (begun n) p s)
  moved_keeps_line p s =
      either (is_member n && prefers n.kept.mode p && nat_lt p n.me && s.in_tree) M (ask_before (begun n) p) (ignored (begun n)) (moved_ask_before Q n.kept (begun n) p begins_start) ignores

  moved_sees_as : (m : Mode) (search : Option Search) (p : ℕ) (s : Stand) → n.kept.mode ≡ m → M (sees_as m search (begun n) p s)
  moved_sees_as modes.Idle (Some (Descend q)) p s is =
      either (q == p) M (descends (begun n) p s) (keeps_line (begun n) p s) (moved_descends p s (not_acting modes.Idle is (λ a. absurd (cc a)))) (moved_keeps_line p s)
  moved_sees_as (modes.Joined q) (Some Review) p s is =
      either (q == p) M (reviews_place (begun n) p s) (keeps_line (begun n) p s)
      (moved_weighs (searching (begun n) None) p (place_in (reviewed (view n p s))) (begins_along n.kept (begun n) (searching (begun n) None) refl refl begins_start)) (moved_keeps_line p s)
  moved_sees_as m search p s is = moved_keeps_line p s

  pub moves_sees : (p : ℕ) (s : Stand) → M (sees (begun n) p s)
  moves_sees p s = moved_sees_as n.kept.mode n.soft.search p s refl

  -- Client and content

  moved_redirects : (k : Option ℕ) (count : ℕ) → M (redirects k (begun n) count)
  moved_redirects None count = still refl refl
  moved_redirects (Some k) count = still refl refl

  moved_client_of : (l : Option Shelf) (area start : ℕ) → M (client_of l (begun n) area start)
  moved_client_of None area start = still refl refl
  moved_client_of (Some l) area start = moved_redirects (server_for n area) _

  unmoved : (q : Plan) → Unmoved (begun n) q → M q
  unmoved q h = still h.records (ap (λ m. m.kept) h.node)

  moved_received : (shelf : List Shelf) (p : ℕ) (b : Body) → M (received (begun n) shelf p b)
  moved_received shelf p bodies.Look = still refl refl
  moved_received shelf p (bodies.LookIs is_in parent rate children) = moves_sees p (record { in_tree = is_in; parent = parent; rate = rate; children = children })
  moved_received shelf p (bodies.Ask seq rank) = moves_asked p seq rank
  moved_received shelf p (bodies.Yes seq rank ancestors) = moves_took_yes p seq rank ancestors
  moved_received shelf p (bodies.No seq why) = moves_took_no p seq why
  moved_received shelf p (bodies.CheckIn seq upto rate number clients certs) = moves_checked_in p seq upto rate number clients certs
  moved_received shelf p (bodies.CheckAck seq upto rank ancestors) = moves_took_ack p seq upto rank ancestors
  moved_received shelf p (bodies.Rejoin seq) = moves_took_rejoin p seq
  moved_received shelf p (bodies.Fetch have) = unmoved (fetched (begun n) shelf p have) (stays_fetched (begun n) shelf p have)
  moved_received shelf p (bodies.Chunk g start bytes last) = unmoved (took_chunk (begun n) shelf p g start bytes last) (stays_took_chunk (begun n) shelf p g start bytes last)

  -- each step; a root is on no descent, and a measured peer is a node
  pub moves : (shelf : List Shelf) (i : Input) → ((q : ℕ) → n.soft.search ≡ Some (Descend q) → n.kept.mode ≡ modes.Acting → ⊥)
      → ((p rate hops : ℕ) → i ≡ inputs.Measured p rate hops → Q → (1 ≤ p) × (p ≤ length n.kept.measures)) → M (plan n shelf i)
  moves shelf (inputs.Tick t) other within = moves_tick shelf t
  moves shelf inputs.CheckNow other within = moves_checks
  moves shelf (inputs.Relocate p) other within = moves_relocate p
  moves shelf (inputs.Unreachable p) other within = moves_unreachable p other
  moves shelf (inputs.Pull p) other within = either (p == n.me) M (answers (begun n) words.Own) (send (begun n) p (bodies.Fetch shelf)) (still refl refl) (still refl refl)
  moves shelf (inputs.Measured p rate hops) other within = moves_measured p rate hops (within p rate hops refl)
  moves shelf (inputs.Publish g bytes) other within = unmoved (published (begun n) shelf g bytes) (stays_published (begun n) shelf g bytes)
  moves shelf (inputs.Seal g) other within = unmoved (sealed_at (begun n) shelf g) (stays_sealed_at (begun n) shelf g)
  moves shelf (inputs.Client area start g) other within = moved_client_of (line_of g shelf) area start
  moves shelf (inputs.Delivered m) other within = moved_received shelf m.from m.body
