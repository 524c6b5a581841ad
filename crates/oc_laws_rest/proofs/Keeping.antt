-- A child past the chain that has measured no way stays joined to its parent while nobody calls it back: the effect of each input on that.
use Rattle.std.proofs.Common.{◌≡◌, ℕ, ◌+◌, ◌-◌, ◌*◌, min, Bool, true, false, not, ◌&&◌, ◌||◌, ◌==◌, nat_lt, nat_le, if◌then◌else◌, Option, Some, None, is_some, option_map, List, [], ◌∷◌, length, filter, map, refl, ap, sym, subst, ◌∙◌, arith, eqb-true}
use Rattle.std.specs.List.{AllByRecursion}
use Rattle.std.proofs.lemmas.Bool.{cond_both, and_parts, false_from_ne_true, ltb-true}
use Rattle.oc_base.specs.declared.cert.Cert.{Cert}
use Rattle.oc_base.specs.declared.cert.Child.{Child}
use Rattle.oc_base.specs.declared.group.Group.{Group}
use Rattle.oc_base.specs.declared.rank.Rank.{Rank}
use Rattle.oc_base.specs.declared.refusal.Refusal.{Refusal}
use Rattle.oc_base.specs.declared.shelf.Shelf.{Shelf}
use Rattle.oc_base.specs.declared.limits.TheConstants.{MAX_DEPTH, MAX_GROUPS, MAX_GROUP_BYTES}
use Rattle.oc_base.specs.Groups.{shelf}
use Rattle.oc_base.specs.Rank.{beneath_of}
use Rattle.oc_base.specs.Shelves.{line_of}
use Rattle.oc_model.specs.declared.answer.Answer.TheVariants as words
use Rattle.oc_model.specs.declared.input.Input.TheVariants.{Tick, Delivered}
use Rattle.oc_model.specs.declared.message.Body.{Body}
use Rattle.oc_model.specs.declared.message.Body.TheVariants as bodies
use Rattle.oc_model.specs.declared.message.Message.{Message}
use Rattle.oc_model.specs.declared.mode.Mode.{Mode}
use Rattle.oc_model.specs.declared.mode.Mode.TheVariants as modes
use Rattle.oc_model.specs.declared.place.Candidate.{Candidate}
use Rattle.oc_model.specs.declared.reading.Reading.{Reading}
use Rattle.oc_model.specs.declared.record.Record.TheVariants as records
use Rattle.oc_model.specs.declared.soft.Search.{Search}
use Rattle.oc_model.specs.declared.soft.Search.TheVariants as searches
use Rattle.oc_model.specs.declared.soft.TheConstants.{MAX_MOVES}
use Rattle.oc_model.specs.declared.want.Want.{Want}
use Rattle.oc_model.specs.Adopting.{is_acting, raises, raises_over, host, birth, has_lease, grants, sends_rejoin, adopts, answers_ask, asked}
use Rattle.oc_model.specs.Adoption.{precedes, precedes_any, rank_or_last, is_better, adoption_refusal}
use Rattle.oc_model.specs.Asking.{lost, ask_before, is_asking, ancestors_by, joins, took_yes, refused, took_no}
use Rattle.oc_model.specs.ChangeLog.{is_ahead}
use Rattle.oc_model.specs.Checking.{checks_in, notes_time, reports, sets_due, merges, merges_all, at_time, starts_leases, dies, ends_each, ends_leases, looks_at_each, looks_round, is_due, forgets_refusal, tick_checks_as, tick_checks, checks_in_time, has_news, reports_news_as, reports_news, checks_if_due, fetches_as, tick, acknowledges, life, checked_in, is_joined_to, takes_place, takes_rank_unless, same_ids, takes_ancestors, took_ack, is_peer, took_rejoin}
use Rattle.oc_model.specs.Choice.{below, is_suitable, nearest, chosen, reviewed_with, reviewed}
use Rattle.oc_model.specs.Content.{unless, keeps, answers_fetch, adds_seal, adds, grown_line, asks_on, keeps_chunk, chunk_to}
use Rattle.oc_model.specs.Leases.{renew, ended}
use Rattle.oc_model.specs.Looking.{Stand, candidate, candidates, grandparent, place_in, is_place, wishes, weighs, view, reviews_place, prefers, keeps_line, sees_as}
use Rattle.oc_model.specs.Measures.{reading_of}
use Rattle.oc_model.specs.Node.{Control, Node}
use Rattle.oc_model.specs.Numbers.{number_end, raise, capped, put_at}
use Rattle.oc_model.specs.Plan.{Plan, begun, write, send, answers, with_soft, with_leases, searching, ignored, is_member, rate_to}
use Rattle.oc_model.specs.Shelves.{line_at, with_line, limit, next_behind}
use Rattle.oc_model.specs.Step.{received, filled, bytes_wanted, step}
use Rattle.oc_model.specs.Table.{newest, is_news}
use Rattle.oc_model.proofs.Lists.{all_append}
use Rattle.oc_model.proofs.Rules.{either}
use Rattle.oc_laws_rest.specs.Rounds.{is_dial}
use Rattle.oc_laws_rest.proofs.Said.{filled_dials}

-- The place without measures

-- no way of these readings was measured
abbrev pub AreNone : List Reading → Type 0
AreNone ms = (p : ℕ) → (reading_of ms p).rate ≡ 0

none_suitable : (direct : ℕ) (cs : List Candidate) → AllByRecursion (λ c. c.mine ≡ 0) cs → filter (is_suitable direct) cs ≡ []
none_suitable direct [] h = refl
none_suitable direct (c ∷ cs) h = rw (h.0, none_suitable direct cs h.1) refl

unmeasured : (n : Control) (cs : List Child) → AreNone n.kept.measures → AllByRecursion (λ c. c.mine ≡ 0) (map (candidate n) cs)
unmeasured n [] none = tt
unmeasured n (c ∷ cs) none = (none c.id, unmeasured n cs none)

-- no child is chosen
pub nobody_chosen : (n : Control) (direct : ℕ) (cs : List Child) → AreNone n.kept.measures → chosen direct (candidates n cs) ≡ None
nobody_chosen n direct cs none =
    ap (λ (ks : List Candidate). option_map (λ (c : Candidate). c.id) (nearest ks)) (none_suitable direct (candidates n cs) (unmeasured n (filter (λ c. not (c.id == n.me)) cs) none))

abbrev HasNoRate : Option (ℕ × ℕ) → Type 0
HasNoRate None = Unit {0}
HasNoRate (Some g) = g.1 ≡ 0

-- a review speaks for the present place
stays_where : (n : Control) (p : ℕ) (st : Stand) → AreNone n.kept.measures → place_in (reviewed (view n p st)) ≡ None
stays_where n p st none = by_grand (view n p st).grand (above st.parent) where
  nobody : chosen (view n p st).direct (view n p st).siblings ≡ None
  nobody = nobody_chosen n (view n p st).direct st.children none

  above : (parent : Option ℕ) → HasNoRate (grandparent n p parent)
  above None = tt
  above (Some g) = either (g == n.me || (nat_le p n.chain && nat_le g n.chain)) HasNoRate None (Some (g, rate_to n g)) tt (none g)

  by_grand : (grand : Option (ℕ × ℕ)) → HasNoRate grand → place_in (reviewed_with grand (view n p st)) ≡ None
  by_grand None h = rw nobody refl
  by_grand (Some g) h =
      let low : nat_lt (10 * min (view n p st).direct (view n p st).up) (9 * g.1) ≡ false =
      false_from_ne_true (nat_lt (10 * min (view n p st).direct (view n p st).up) (9 * g.1)) (λ e. let less = ltb-true (10 * min (view n p st).direct (view n p st).up) (9 * g.1) e in omega (arith, less, h)) in
      rw (low, nobody) refl

-- any second, and any of the next check
abbrev pub IsAnyTime : ℕ → Option ℕ → Type 0
IsAnyTime clock due = Unit {0}

module _ (x p s : ℕ) (ms : List Reading) (none : AreNone ms) (E : ℕ → Option ℕ → Type 0) where
  -- x is past the chain, is joined to p by the number s, has these readings, and E holds of its clock and its next check
  abbrev pub IsJoinedBy : Control → Type 0
  IsJoinedBy n = (n.me ≡ x) × (is_member n ≡ false) × (n.kept.mode ≡ modes.Joined p) × (n.kept.seq ≡ s) × (n.kept.measures ≡ ms) × E n.soft.clock n.soft.due

  -- it dials p alone
  abbrev pub DialsThere : Message → Type 0
  DialsThere m = is_dial m.body ≡ true → m.to ≡ p

  abbrev Stays : Plan → Type 0
  Stays o = IsJoinedBy o.node × AllByRecursion DialsThere o.sends

  stays_send : (o : Plan) (q : ℕ) (b : Body) → (is_dial b ≡ true → q ≡ p) → Stays o → Stays (send o q b)
  stays_send o q b there h = (h.0, all_append DialsThere o.sends (record { from = o.node.me; to = q; body = b } ∷ []) h.1 (there, tt))

  joined : (o : Plan) → Stays o → o.node.kept.mode ≡ modes.Joined p
  joined o h = h.0.2

  outside : (o : Plan) → Stays o → is_member o.node ≡ false
  outside o h = h.0.1

  -- Asks and answers

  stays_raises : (o : Plan) (e : Option ℕ) → Stays o → Stays (raises o e)
  stays_raises o None h = h
  stays_raises o (Some e) h = h

  stays_adopts : (o : Plan) (y seq : ℕ) → Stays o → Stays (adopts o y seq)
  stays_adopts o y seq h =
      let born : Cert = birth y seq o.node.me in
      let entered : Plan = write o (records.Entry born) in
      either (has_lease o.node y seq) Stays (grants o y seq) (if is_news o.node.kept.table born then grants entered y seq else sends_rejoin o y seq) (stays_grants o h)
      (either (is_news o.node.kept.table born) Stays (grants entered y seq) (sends_rejoin o y seq) (stays_grants entered h) (stays_send o y (bodies.Rejoin seq) (λ e. absurd cc) h)) where
        stays_grants : (o : Plan) → Stays o → Stays (grants o y seq)
        stays_grants o h = stays_send (with_leases o (renew o.node.leases y o.node.soft.clock)) y (bodies.Yes seq (rank_or_last o.node.kept.rank) o.node.kept.ancestors) (λ e. absurd cc) h

  stays_answers_ask : (why : Option Refusal) (o : Plan) (y seq : ℕ) → Stays o → Stays (answers_ask why o y seq)
  stays_answers_ask None o y seq h = stays_adopts o y seq h
  stays_answers_ask (Some why) o y seq h = stays_send o y (bodies.No seq why) (λ e. absurd cc) h

  stays_asked : (o : Plan) (y seq : ℕ) (r : Option Rank) → Stays o → Stays (asked o y seq r)
  stays_asked o y seq r h =
      let raised : Plan = raises_over o y (rank_or_last r) in
      stays_answers_ask (adoption_refusal (host raised.node y) y r) raised y seq
      (either (is_acting o.node.kept.mode && not (precedes (rank_or_last o.node.kept.rank) (rank_or_last r)) && not (y == o.node.me)) Stays (raises o (raise (rank_or_last r).epoch)) o (stays_raises o (raise (rank_or_last r).epoch) h) h)

  stays_took_yes : (o : Plan) (q seq : ℕ) (r : Rank) (xs : List ℕ) → Stays o → Stays (took_yes o q seq r xs)
  stays_took_yes o q seq r xs h =
      subst (λ (m : Mode). Stays (if is_asking m q && seq == o.node.kept.seq && nat_lt r.depth MAX_DEPTH && precedes_any r o.node.kept.rank then joins o q r xs else ignored o)) (sym (joined o h)) h

  stays_took_no : (o : Plan) (q seq : ℕ) (why : Refusal) → Stays o → Stays (took_no o q seq why)
  stays_took_no o q seq why h =
      let heard : Plan = with_soft (lost o) (record o.node.soft { silent = false; refused = true }) in
      subst (λ (m : Mode). Stays (if is_asking m q && seq == o.node.kept.seq then refused heard why else ignored o)) (sym (joined o h)) h

  -- Check-ins

  stays_merges : (o : Plan) (c : Cert) → Stays o → Stays (merges o c)
  stays_merges o c h = either (is_news o.node.kept.table c) Stays (write o (records.Entry c)) o h h

  stays_merges_all : (cs : List Cert) (o : Plan) → Stays o → Stays (merges_all cs o)
  stays_merges_all [] o h = h
  stays_merges_all (c ∷ cs) o h = stays_merges_all cs (merges o c) (stays_merges o c h)

  stays_checked_in : (o : Plan) (y seq upto rate number clients : ℕ) (certs : List Cert) → Stays o → Stays (checked_in o y seq upto rate number clients certs)
  stays_checked_in o y seq upto rate number clients certs h =
      let merged : Plan = merges_all (life y seq o.node.me number clients ∷ certs) o in
      let renewed : Plan = record merged { node = record merged.node { leases = renew merged.node.leases y merged.node.soft.clock; rates = put_at merged.node.rates y rate } } in
      either (has_lease o.node y seq) Stays (acknowledges merged y seq upto rate) (sends_rejoin o y seq)
      (stays_send renewed y (bodies.CheckAck seq upto (rank_or_last merged.node.kept.rank) merged.node.kept.ancestors) (λ e. absurd cc) (stays_merges_all (life y seq o.node.me number clients ∷ certs) o h))
      (stays_send o y (bodies.Rejoin seq) (λ e. absurd cc) h)

  stays_took_ack : (o : Plan) (q seq upto : ℕ) (told : Rank) (xs : List ℕ) → Stays o → Stays (took_ack o q seq upto told xs)
  stays_took_ack o q seq upto told xs h =
      let placed : Plan = takes_place o upto in
      let ranked : Plan = takes_rank_unless o.node.soft.wish placed told in
      let above : List ℕ = ancestors_by q xs in
      either (is_joined_to o.node.kept.mode q && seq == o.node.kept.seq) Stays (takes_ancestors ranked above) (ignored o)
      (either (same_ids above ranked.node.kept.ancestors) Stays ranked (write ranked (records.Ancestors above)) (stays_ranked o.node.soft.wish) (stays_ranked o.node.soft.wish)) h where
        stays_placed : Stays (takes_place o upto)
        stays_placed = either (is_ahead o.node.kept.log upto) Stays (write o (records.Acked upto)) o h h

        stays_ranked : (wish : Option ℕ) → Stays (takes_rank_unless wish (takes_place o upto) told)
        stays_ranked (Some g) = stays_placed
        stays_ranked None =
            either (is_better (takes_place o upto).node.kept.rank told) Stays (write (takes_place o upto) (records.Ranked (beneath_of told))) (takes_place o upto) stays_placed stays_placed

  stays_took_rejoin : (o : Plan) (q seq : ℕ) → (q ≡ p → seq ≡ s → ⊥) → Stays o → Stays (took_rejoin o q seq)
  stays_took_rejoin o q seq other h =
      cond_both (is_peer o.node.kept.mode q && seq == o.node.kept.seq) (ask_before o q) (ignored o) Stays
      (λ e.
      let both = and_parts (is_peer o.node.kept.mode q) (seq == o.node.kept.seq) e in
      let there : (p == q) ≡ true = sym (ap (λ (m : Mode). is_peer m q) (joined o h)) ∙ both.0 in
      absurd (other (sym (eqb-true p q there)) (eqb-true seq o.node.kept.seq both.1 ∙ h.0.3)))
      (λ _. h)

  -- Looks

  stays_weighs : (o : Plan) (q : ℕ) (place : Option ℕ) → place ≡ None → Stays o → Stays (weighs o q place)
  stays_weighs o q place stay h = subst (λ (g : Option ℕ). Stays (weighs o q g)) (sym stay)
      (either (nat_le MAX_MOVES o.node.soft.moves) Stays (wishes o None 0)
      (if not (is_place None o.node.soft.wish) && nat_lt 0 o.node.soft.waits then wishes o o.node.soft.wish (o.node.soft.waits - 1) else wishes o None o.node.soft.waits) h
      (either (not (is_place None o.node.soft.wish) && nat_lt 0 o.node.soft.waits) Stays (wishes o o.node.soft.wish (o.node.soft.waits - 1)) (wishes o None o.node.soft.waits) h h))

  stays_reviews : (o : Plan) (q : ℕ) (st : Stand) → Stays o → Stays (reviews_place o q st)
  stays_reviews o q st h =
      stays_weighs (searching o None) q (place_in (reviewed (view o.node q st))) (stays_where o.node q st (subst AreNone (sym h.0.4) none)) h

  stays_keeps_line : (o : Plan) (q : ℕ) (st : Stand) → Stays o → Stays (keeps_line o q st)
  stays_keeps_line o q st h =
      subst (λ (b : Bool). Stays (if b && prefers o.node.kept.mode q && nat_lt q o.node.me && st.in_tree then ask_before o q else ignored o)) (sym (outside o h)) h

  stays_sees : (search : Option Search) (o : Plan) (q : ℕ) (st : Stand) → Stays o → Stays (sees_as (modes.Joined p) search o q st)
  stays_sees (Some searches.Review) o q st h = either (p == q) Stays (reviews_place o q st) (keeps_line o q st) (stays_reviews o q st h) (stays_keeps_line o q st h)
  stays_sees (Some (searches.Descend y)) o q st h = stays_keeps_line o q st h
  stays_sees None o q st h = stays_keeps_line o q st h

  -- Content

  stays_answers_fetch : (l : Option Shelf) (o : Plan) (q : ℕ) (have : List Shelf) → Stays o → Stays (answers_fetch o q have l)
  stays_answers_fetch None o q have h = h
  stays_answers_fetch (Some l) o q have h = (h.0, all_append DialsThere o.sends _ h.1 ((λ e. absurd cc), tt))

  stays_asks_on : (m : Mode) (q : ℕ) (ls : List Shelf) (o : Plan) → m ≡ modes.Joined p → Stays o → Stays (asks_on m q ls o)
  stays_asks_on m q ls o e h =
      subst (λ (n : Mode). Stays (asks_on n q ls o)) (sym e)
      (cond_both (p == q) (send o q (bodies.Fetch ls)) o Stays (λ there. stays_send o q (bodies.Fetch ls) (λ _. sym (eqb-true p q there)) h) (λ _. h))

  stays_limited : (ls : List Shelf) (g : List ℕ) (end : ℕ) (o q : Plan) → Stays o → Stays q → Stays (unless (limit ls g end) o q)
  stays_limited ls g end o q h i = by_tests (not (is_some (line_of g ls)) && nat_le MAX_GROUPS (length ls)) (nat_lt MAX_GROUP_BYTES end) where
    by_tests : (a b : Bool) → Stays (unless (if a then Some words.Groups else if b then Some words.TooLong else None) o q)
    by_tests true b = h
    by_tests false true = h
    by_tests false false = i

  stays_chunk_to : (o : Plan) (ls : List Shelf) (q : ℕ) (l : Shelf) (start end : ℕ) (last : Bool) → Stays o → Stays (chunk_to o ls q l start end last)
  stays_chunk_to o ls q l start end last h =
      let room : Plan = unless (limit ls l.group end) o (keeps_chunk o ls q l start end last) in
      let more : List Shelf = with_line (grown_line l end last) ls in
      let kept : Plan = keeps o start (adds_seal l end last) in
      either (nat_lt l.held start) Stays (answers o words.Gap) (if l.sealed && nat_lt l.held end then answers o words.Sealed else room) h
      (either (l.sealed && nat_lt l.held end) Stays (answers o words.Sealed) room h
      (stays_limited ls l.group end o (keeps_chunk o ls q l start end last) h
      (either (adds ls l end last) Stays (asks_on o.node.kept.mode q more kept) (ignored o) (stays_asks_on o.node.kept.mode q more kept (joined o h) h) h)))

  -- A message

  -- it is no call of p to ask anew by the number s
  abbrev pub IsNoRecall : ℕ → Body → Type 0
  IsNoRecall q (bodies.Rejoin seq) = q ≡ p → seq ≡ s → ⊥
  IsNoRecall q b = Unit {0}

  stays_received : (o : Plan) (ls : List Shelf) (q : ℕ) (b : Body) → IsNoRecall q b → Stays o → Stays (received o ls q b)
  stays_received o ls q bodies.Look other h = (h.0, all_append DialsThere o.sends _ h.1 ((λ e. absurd cc), tt))
  stays_received o ls q (bodies.LookIs is_in parent rate children) other h =
      let st : Stand = record { in_tree = is_in; parent = parent; rate = rate; children = children } in
      subst (λ (m : Mode). Stays (sees_as m o.node.soft.search o q st)) (sym (joined o h)) (stays_sees o.node.soft.search o q st h)
  stays_received o ls q (bodies.Ask seq rank) other h = stays_asked o q seq rank h
  stays_received o ls q (bodies.Yes seq rank ancestors) other h = stays_took_yes o q seq rank ancestors h
  stays_received o ls q (bodies.No seq why) other h = stays_took_no o q seq why h
  stays_received o ls q (bodies.CheckIn seq upto rate number clients certs) other h = stays_checked_in o q seq upto rate number clients certs h
  stays_received o ls q (bodies.CheckAck seq upto rank ancestors) other h = stays_took_ack o q seq upto rank ancestors h
  stays_received o ls q (bodies.Rejoin seq) other h = stays_took_rejoin o q seq other h
  stays_received o ls q (bodies.Fetch have) other h = stays_answers_fetch (next_behind o.node.chunk have ls) o q have h
  stays_received o ls q (bodies.Chunk g start bytes last) other h =
      either (o.node.me == 1) Stays (ignored o) (chunk_to o ls q (line_at g ls) start (start + length bytes) last) h (stays_chunk_to o ls q (line_at g ls) start (start + length bytes) last h)

  -- The step

  there_filled : (w : Option Want) (ks : List Group) (all : List Message) → AllByRecursion DialsThere all → AllByRecursion DialsThere (filled w ks all)
  there_filled None ks all h = h
  there_filled (Some w) ks [] h = tt
  there_filled (Some w) ks (m ∷ rest) h = ((λ e. h.0 (sym (filled_dials (bytes_wanted ks w) m.body) ∙ e)), there_filled (Some w) ks rest h.1)

  -- what a step leaves
  pub record HasStayed (n : Control) (sends : List Message) : Type 0 where
    pub member : IsJoinedBy n
    pub there : AllByRecursion DialsThere sends

  pub message_stays : (n : Node) (m : Message) → IsNoRecall m.from m.body → IsJoinedBy n.control → HasStayed (step n (Delivered m)).node.control (step n (Delivered m)).sends
  message_stays n m other h =
      let o : Plan = received (begun n.control) (shelf n.groups) m.from m.body in
      let done : Stays o = stays_received (begun n.control) (shelf n.groups) m.from m.body other (h, tt) in
      record { member = done.0; there = there_filled o.wants n.groups o.sends done.1 }

module _ (x p s : ℕ) (ms : List Reading) (none : AreNone ms) where
  abbrev StaysAny : Plan → Type 0
  StaysAny o = Stays x p s ms none IsAnyTime o

  -- A tick

  stays_reports : (o : Plan) → StaysAny o → StaysAny (reports o p)
  stays_reports o h =
      let noted : Plan = notes_time o in
      let counted : Plan = with_soft (write noted (records.Info (noted.node.kept.number + 1) (capped (noted.node.kept.clients + noted.node.soft.served)))) (record noted.node.soft { served = 0 }) in
      either (not (noted.node.soft.served == 0) && nat_lt noted.node.kept.number number_end) (λ (q : Plan). StaysAny (checks_in q p)) counted noted (stays_send x p s ms none IsAnyTime counted p _ (λ _. refl) h) (stays_send x p s ms none IsAnyTime noted p _ (λ _. refl) h)

  stays_forgets : (due : Option ℕ) (o : Plan) → StaysAny o → StaysAny (forgets_refusal due o)
  stays_forgets None o h = h
  stays_forgets (Some t) o h = h

  stays_tick_checks : (o : Plan) → StaysAny o → StaysAny (tick_checks o)
  stays_tick_checks o h = subst (λ (m : Mode). StaysAny (tick_checks_as m (sets_due o))) (sym (joined x p s ms none IsAnyTime o h)) (stays_reports (sets_due o) h)

  stays_looks : (o : Plan) → StaysAny o → StaysAny (looks_round (modes.Joined p) o)
  stays_looks o h =
      let nearer : List ℕ = filter (λ z. nat_lt p z) (below o.node.me) in
      let reviewing : Plan = send (searching o (Some searches.Review)) p bodies.Look in
      subst (λ (b : Bool). StaysAny (if b then looks_at_each nearer o else if o.node.soft.refused then o else reviewing)) (sym (outside x p s ms none IsAnyTime o h))
      (either o.node.soft.refused StaysAny o reviewing h (stays_send x p s ms none IsAnyTime (searching o (Some searches.Review)) p bodies.Look (λ _. refl) h))

  stays_checks_in_time : (o : Plan) → StaysAny o → StaysAny (checks_in_time o)
  stays_checks_in_time o h =
      let begins : Plan = forgets_refusal o.node.soft.due o in
      subst (λ (m : Mode). StaysAny (looks_round m (tick_checks begins))) (sym (joined x p s ms none IsAnyTime o h)) (stays_looks (tick_checks begins) (stays_tick_checks begins (stays_forgets o.node.soft.due o h)))

  stays_reports_news : (o : Plan) → StaysAny o → StaysAny (reports_news o)
  stays_reports_news o h = subst (λ (m : Mode). StaysAny (reports_news_as m o)) (sym (joined x p s ms none IsAnyTime o h)) (either (has_news o.node) StaysAny (reports o p) o (stays_reports o h) h)

  stays_dies : (e : Option Cert) (o : Plan) → StaysAny o → StaysAny (dies e o)
  stays_dies None o h = h
  stays_dies (Some c) o h = stays_merges x p s ms none IsAnyTime o (record c { dead = true }) h

  stays_ends_each : (ys : List ℕ) (o : Plan) → StaysAny o → StaysAny (ends_each ys o)
  stays_ends_each [] o h = h
  stays_ends_each (y ∷ ys) o h = stays_ends_each ys (dies (newest o.node.kept.table y) o) (stays_dies (newest o.node.kept.table y) o h)

  stays_tick : (o : Plan) (ls : List Shelf) (t : ℕ) → StaysAny o → StaysAny (tick o ls t)
  stays_tick o ls t h =
      let started : Plan = starts_leases (at_time o t) in
      let over : Plan = ends_leases started in
      let all : StaysAny over = stays_ends_each (ended started.node.kept.table started.node.me started.node.leases started.node.soft.clock) started h in
      let checked : Plan = checks_if_due over in
      let done : StaysAny checked = either (is_due over.node.soft.due over.node.soft.clock) StaysAny (checks_in_time over) (reports_news over) (stays_checks_in_time over all) (stays_reports_news over all) in
      subst (λ (m : Mode). StaysAny (fetches_as m checked ls)) (sym (joined x p s ms none IsAnyTime checked done)) (stays_send x p s ms none IsAnyTime checked p (bodies.Fetch ls) (λ _. refl) done)

  pub tick_stays : (n : Node) (t : ℕ) → IsJoinedBy x p s ms none IsAnyTime n.control → HasStayed x p s ms none IsAnyTime (step n (Tick t)).node.control (step n (Tick t)).sends
  tick_stays n t h =
      let o : Plan = tick (begun n.control) (shelf n.groups) t in
      let done : StaysAny o = stays_tick (begun n.control) (shelf n.groups) t (h, tt) in
      record { member = done.0; there = there_filled x p s ms none IsAnyTime o.wants n.groups o.sends done.1 }
