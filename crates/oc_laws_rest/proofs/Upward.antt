-- A chain member that nobody above it answers becomes the root: the effect of each input on that.
use Rattle.std.proofs.Common.{◌≡◌, ℕ, ◌+◌, ◌<◌, max, Bool, true, false, not, ◌&&◌, ◌==◌, nat_lt, nat_le, if◌then◌else◌, Option, Some, None, is_some, List, [], ◌∷◌, ◌⊎◌, inl, inr, length, filter, refl, ap, sym, subst, ◌∙◌, ⊎_elim, eqb-true, eq-eqb, ltb-true}
use Rattle.std.proofs.lemmas.Bool.{cond_both, and_parts}
use Rattle.oc_base.specs.declared.cert.Cert.{Cert}
use Rattle.oc_base.specs.declared.rank.Rank.{Rank}
use Rattle.oc_base.specs.declared.refusal.Refusal.{Refusal}
use Rattle.oc_base.specs.declared.shelf.Shelf.{Shelf}
use Rattle.oc_base.specs.declared.limits.TheConstants.{MAX_DEPTH, MAX_GROUPS, MAX_GROUP_BYTES}
use Rattle.oc_base.specs.Groups.{shelf}
use Rattle.oc_base.specs.Shelves.{line_of}
use Rattle.oc_model.specs.declared.answer.Answer.TheVariants as words
use Rattle.oc_model.specs.declared.input.Input.TheVariants.{Tick, Unreachable, Delivered}
use Rattle.oc_model.specs.declared.message.Body.{Body}
use Rattle.oc_model.specs.declared.message.Body.TheVariants as bodies
use Rattle.oc_model.specs.declared.message.Message.{Message}
use Rattle.oc_model.specs.declared.mode.Mode.{Mode}
use Rattle.oc_model.specs.declared.mode.Mode.TheVariants as modes
use Rattle.oc_model.specs.declared.record.Record.TheVariants as records
use Rattle.oc_model.specs.declared.soft.Search.{Search}
use Rattle.oc_model.specs.declared.soft.Search.TheVariants as searches
use Rattle.oc_model.specs.declared.soft.Soft.{Soft}
use Rattle.oc_model.specs.Adopting.{is_acting, raises, raises_over, host, birth, has_lease, grants, sends_rejoin, adopts, answers_ask, asked}
use Rattle.oc_model.specs.Adoption.{precedes, precedes_any, rank_or_last, adoption_refusal}
use Rattle.oc_model.specs.Asking.{lost_from, lost, send_ask, ask, act, descend, waits_awhile, try_first, next_try, set_tries, ask_before, is_asking, ancestors_by, joins, refused, not_seen, not_reached}
use Rattle.oc_model.specs.Checking.{sets_due, merges, merges_all, at_time, starts_leases, dies, ends_each, ends_leases, looks_at_each, looks_round, is_due, forgets_refusal, goes_on, tick_checks_as, tick_checks, checks_in_time, reports_news, checks_if_due, fetches_as, tick, acknowledges, life, checked_in, is_joined_to, takes_place, takes_rank_unless, takes_ancestors, is_peer}
use Rattle.oc_model.specs.Choice.{below}
use Rattle.oc_model.specs.Content.{unless, keeps, answers_fetch, adds_seal, adds, grown_line, asks_on, keeps_chunk, chunk_to}
use Rattle.oc_model.specs.Leases.{ended}
use Rattle.oc_model.specs.Looking.{Stand, prefers, keeps_line, sees_as}
use Rattle.oc_model.specs.Node.{Control, Node}
use Rattle.oc_model.specs.Numbers.{number_end, raise, is_empty}
use Rattle.oc_model.specs.Plan.{Plan, begun, write, send, answers, with_soft, searching, ignored, is_member}
use Rattle.oc_model.specs.Shelves.{line_at, with_line, limit, next_behind}
use Rattle.oc_model.specs.Step.{received, step}
use Rattle.oc_model.specs.Table.{newest, is_news}
use Rattle.oc_model.proofs.Rules.{either}

-- it acts as root, or asks and was refused by nobody
abbrev pub Rises : Mode → Bool → Type 0
Rises mode silent = (mode ≡ modes.Acting) ⊎ ((p : ℕ) × (mode ≡ modes.Asking p) × (silent ≡ true))

-- so it is, or no ask number is left
abbrev pub IsUpward : Control → Type 0
IsUpward n = (n.kept.seq ≡ number_end) ⊎ Rises n.kept.mode n.soft.silent

abbrev Up : Plan → Type 0
Up o = IsUpward o.node

-- Asks

lost_seq : (m : Mode) (o : Plan) → (lost_from m o).node.kept.seq ≡ o.node.kept.seq
lost_seq modes.Idle o = refl
lost_seq (modes.Asking p) o = refl
lost_seq (modes.Joined p) o = refl
lost_seq modes.Acting o = refl

lost_silent : (m : Mode) (o : Plan) → (lost_from m o).node.soft.silent ≡ o.node.soft.silent
lost_silent modes.Idle o = refl
lost_silent (modes.Asking p) o = refl
lost_silent (modes.Joined p) o = refl
lost_silent modes.Acting o = refl

lost_member : (m : Mode) (o : Plan) → is_member (lost_from m o).node ≡ is_member o.node
lost_member modes.Idle o = refl
lost_member (modes.Asking p) o = refl
lost_member (modes.Joined p) o = refl
lost_member modes.Acting o = refl

up_ask : (o : Plan) (p : ℕ) → o.node.soft.silent ≡ true → Up (ask o p)
up_ask o p silent =
    cond_both (o.node.kept.seq == number_end) (answers (lost o) words.Spent) (send_ask (searching (write o (records.Ask (o.node.kept.seq + 1) p)) None) p) Up
    (λ last. inl (lost_seq o.node.kept.mode o ∙ eqb-true o.node.kept.seq number_end last))
    (λ _. inr (inr (p, refl, silent)))

up_try_first : (ps : List ℕ) (o : Plan) → is_member o.node ≡ true → o.node.soft.silent ≡ true → Up (try_first ps o)
up_try_first [] o member silent =
    subst (λ (b : Bool). Up (if b then act o else waits_awhile o)) (sym (ap (λ (b : Bool). b && o.node.soft.silent) member ∙ silent)) (inr (inl refl))
up_try_first (p ∷ ps) o member silent =
    let next : Plan = with_soft o (record o.node.soft { tries = ps }) in
    subst (λ (b : Bool). Up (if not b && is_empty o.node.kept.ancestors then descend next p else ask next p)) (sym member) (up_ask next p silent)

up_next_try : (o : Plan) → is_member o.node ≡ true → o.node.soft.silent ≡ true → Up (next_try o)
up_next_try o member silent = either (o.node.me == 1) Up (act o) (try_first o.node.soft.tries o) (inr (inl refl)) (up_try_first o.node.soft.tries o member silent)

-- A failure that is told

module _ (o : Plan) (member : is_member o.node ≡ true) (still : o.node.soft.search ≡ None) where
  up_not_seen : (p : ℕ) → Rises o.node.kept.mode o.node.soft.silent → Up (not_seen o.node.soft.search o p)
  up_not_seen p rises = subst (λ (s : Option Search). Up (not_seen s o p)) (sym still) (inr rises)

  up_not_reached : (m : Mode) (p : ℕ) → o.node.kept.mode ≡ m → Rises o.node.kept.mode o.node.soft.silent → Up (not_reached m o p)
  up_not_reached modes.Idle p e rises = up_not_seen p rises
  up_not_reached modes.Acting p e rises = up_not_seen p rises
  up_not_reached (modes.Joined q) p e rises =
      ⊎_elim (λ acts. let clash : modes.Joined q ≡ modes.Acting = sym e ∙ acts in absurd cc) (λ asks. let clash : modes.Joined q ≡ modes.Asking asks.0 = sym e ∙ asks.1 in absurd cc) rises
  up_not_reached (modes.Asking q) p e rises =
      either (q == p) Up (next_try (lost o)) (not_seen o.node.soft.search o p)
      (up_next_try (lost o) (lost_member o.node.kept.mode o ∙ member) (lost_silent o.node.kept.mode o ∙ heard)) (up_not_seen p rises) where
        heard : o.node.soft.silent ≡ true
        heard = ⊎_elim (λ acts. let clash : modes.Asking q ≡ modes.Acting = sym e ∙ acts in absurd cc) (λ asks. asks.2) rises

-- A message of a node that is neither an earlier one nor the one that is asked

up_raises_over : (o : Plan) (y : ℕ) (r : Rank) → Up o → Up (raises_over o y r)
up_raises_over o y r h = either (is_acting o.node.kept.mode && not (precedes (rank_or_last o.node.kept.rank) r) && not (y == o.node.me)) Up (raises o (raise r.epoch)) o (by_epoch (raise r.epoch)) h where
  by_epoch : (e : Option ℕ) → Up (raises o e)
  by_epoch None = h
  by_epoch (Some e) = h

up_adopts : (o : Plan) (y seq : ℕ) → Up o → Up (adopts o y seq)
up_adopts o y seq h =
    let born : Cert = birth y seq o.node.me in
    either (has_lease o.node y seq) Up (grants o y seq) (if is_news o.node.kept.table born then grants (write o (records.Entry born)) y seq else sends_rejoin o y seq) h
    (either (is_news o.node.kept.table born) Up (grants (write o (records.Entry born)) y seq) (sends_rejoin o y seq) h h)

up_answers_ask : (why : Option Refusal) (o : Plan) (y seq : ℕ) → Up o → Up (answers_ask why o y seq)
up_answers_ask None o y seq h = up_adopts o y seq h
up_answers_ask (Some why) o y seq h = h

up_asked : (o : Plan) (y seq : ℕ) (r : Option Rank) → Up o → Up (asked o y seq r)
up_asked o y seq r h =
    let raised : Plan = raises_over o y (rank_or_last r) in
    up_answers_ask (adoption_refusal (host raised.node y) y r) raised y seq (up_raises_over o y (rank_or_last r) h)

up_merges_all : (cs : List Cert) (o : Plan) → Up o → Up (merges_all cs o)
up_merges_all [] o h = h
up_merges_all (c ∷ cs) o h = up_merges_all cs (merges o c) (either (is_news o.node.kept.table c) Up (write o (records.Entry c)) o h h)

up_checked_in : (o : Plan) (y seq upto rate number clients : ℕ) (certs : List Cert) → Up o → Up (checked_in o y seq upto rate number clients certs)
up_checked_in o y seq upto rate number clients certs h =
    let merged : Plan = merges_all (life y seq o.node.me number clients ∷ certs) o in
    either (has_lease o.node y seq) Up (acknowledges merged y seq upto rate) (sends_rejoin o y seq) (up_merges_all (life y seq o.node.me number clients ∷ certs) o h) h

up_answers_fetch : (l : Option Shelf) (o : Plan) (p : ℕ) (have : List Shelf) → Up o → Up (answers_fetch o p have l)
up_answers_fetch None o p have h = h
up_answers_fetch (Some l) o p have h = h

up_asks_on : (m : Mode) (p : ℕ) (ls : List Shelf) (o : Plan) → Up o → Up (asks_on m p ls o)
up_asks_on (modes.Joined q) p ls o h = either (q == p) Up (send o p (bodies.Fetch ls)) o h h
up_asks_on modes.Idle p ls o h = h
up_asks_on (modes.Asking q) p ls o h = h
up_asks_on modes.Acting p ls o h = h

up_limited : (ls : List Shelf) (g : List ℕ) (end : ℕ) (o q : Plan) → Up o → Up q → Up (unless (limit ls g end) o q)
up_limited ls g end o q h i = by_tests (not (is_some (line_of g ls)) && nat_le MAX_GROUPS (length ls)) (nat_lt MAX_GROUP_BYTES end) where
  by_tests : (a b : Bool) → Up (unless (if a then Some words.Groups else if b then Some words.TooLong else None) o q)
  by_tests true b = h
  by_tests false true = h
  by_tests false false = i

up_chunk_to : (o : Plan) (ls : List Shelf) (p : ℕ) (l : Shelf) (start end : ℕ) (last : Bool) → Up o → Up (chunk_to o ls p l start end last)
up_chunk_to o ls p l start end last h =
    let room : Plan = unless (limit ls l.group end) o (keeps_chunk o ls p l start end last) in
    let more : List Shelf = with_line (grown_line l end last) ls in
    let kept : Plan = keeps o start (adds_seal l end last) in
    either (nat_lt l.held start) Up (answers o words.Gap) (if l.sealed && nat_lt l.held end then answers o words.Sealed else room) h
    (either (l.sealed && nat_lt l.held end) Up (answers o words.Sealed) room h
    (up_limited ls l.group end o (keeps_chunk o ls p l start end last) h
    (either (adds ls l end last) Up (asks_on o.node.kept.mode p more kept) (ignored o) (up_asks_on o.node.kept.mode p more kept h) h)))

asking_peer : (m : Mode) (p : ℕ) → is_asking m p ≡ true → is_peer m p ≡ true
asking_peer (modes.Asking q) p e = e
asking_peer modes.Idle p e = absurd cc
asking_peer (modes.Joined q) p e = absurd cc
asking_peer modes.Acting p e = absurd cc

joined_peer : (m : Mode) (p : ℕ) → is_joined_to m p ≡ true → is_peer m p ≡ true
joined_peer (modes.Joined q) p e = e
joined_peer modes.Idle p e = absurd cc
joined_peer (modes.Asking q) p e = absurd cc
joined_peer modes.Acting p e = absurd cc

module _ (o : Plan) (p : ℕ) (rises : Rises o.node.kept.mode o.node.soft.silent) (other : is_peer o.node.kept.mode p ≡ true → ⊥) (later : p < o.node.me → ⊥) where
  up_keeps_line : (s : Stand) → Up (keeps_line o p s)
  up_keeps_line s =
      cond_both (is_member o.node && prefers o.node.kept.mode p && nat_lt p o.node.me && s.in_tree) (ask_before o p) (ignored o) Up
      (λ e.
      let three = and_parts (is_member o.node && prefers o.node.kept.mode p && nat_lt p o.node.me) s.in_tree e in
      let two = and_parts (is_member o.node && prefers o.node.kept.mode p) (nat_lt p o.node.me) three.0 in
      absurd (later (ltb-true p o.node.me two.1)))
      (λ _. inr rises)

  up_sees_as : (m : Mode) (search : Option Search) (s : Stand) → o.node.kept.mode ≡ m → Up (sees_as m search o p s)
  up_sees_as modes.Idle search s e = ⊎_elim (λ acts. let clash : modes.Idle ≡ modes.Acting = sym e ∙ acts in absurd cc) (λ asks. let clash : modes.Idle ≡ modes.Asking asks.0 = sym e ∙ asks.1 in absurd cc) rises
  up_sees_as (modes.Joined q) search s e =
      ⊎_elim (λ acts. let clash : modes.Joined q ≡ modes.Acting = sym e ∙ acts in absurd cc) (λ asks. let clash : modes.Joined q ≡ modes.Asking asks.0 = sym e ∙ asks.1 in absurd cc) rises
  up_sees_as (modes.Asking q) search s e = up_keeps_line s
  up_sees_as modes.Acting search s e = up_keeps_line s

  up_received : (ls : List Shelf) (b : Body) → Up (received o ls p b)
  up_received ls bodies.Look = inr rises
  up_received ls (bodies.LookIs is_in parent rate children) = up_sees_as o.node.kept.mode o.node.soft.search (record { in_tree = is_in; parent = parent; rate = rate; children = children }) refl
  up_received ls (bodies.Ask seq rank) = up_asked o p seq rank (inr rises)
  up_received ls (bodies.Yes seq r xs) =
      cond_both (is_asking o.node.kept.mode p && seq == o.node.kept.seq && nat_lt r.depth MAX_DEPTH && precedes_any r o.node.kept.rank) (joins o p r xs) (ignored o) Up
      (λ e.
      let before = and_parts (is_asking o.node.kept.mode p && seq == o.node.kept.seq && nat_lt r.depth MAX_DEPTH) (precedes_any r o.node.kept.rank) e in
      let shallow = and_parts (is_asking o.node.kept.mode p && seq == o.node.kept.seq) (nat_lt r.depth MAX_DEPTH) before.0 in
      let asks = and_parts (is_asking o.node.kept.mode p) (seq == o.node.kept.seq) shallow.0 in
      absurd (other (asking_peer o.node.kept.mode p asks.0)))
      (λ _. inr rises)
  up_received ls (bodies.No seq why) =
      cond_both (is_asking o.node.kept.mode p && seq == o.node.kept.seq) (refused (with_soft (lost o) (record o.node.soft { silent = false; refused = true })) why) (ignored o) Up
      (λ e. absurd (other (asking_peer o.node.kept.mode p (and_parts (is_asking o.node.kept.mode p) (seq == o.node.kept.seq) e).0)))
      (λ _. inr rises)
  up_received ls (bodies.CheckIn seq upto rate number clients certs) = up_checked_in o p seq upto rate number clients certs (inr rises)
  up_received ls (bodies.CheckAck seq upto told xs) =
      cond_both (is_joined_to o.node.kept.mode p && seq == o.node.kept.seq) (takes_ancestors (takes_rank_unless o.node.soft.wish (takes_place o upto) told) (ancestors_by p xs)) (ignored o) Up
      (λ e. absurd (other (joined_peer o.node.kept.mode p (and_parts (is_joined_to o.node.kept.mode p) (seq == o.node.kept.seq) e).0)))
      (λ _. inr rises)
  up_received ls (bodies.Rejoin seq) =
      cond_both (is_peer o.node.kept.mode p && seq == o.node.kept.seq) (ask_before o p) (ignored o) Up
      (λ e. absurd (other (and_parts (is_peer o.node.kept.mode p) (seq == o.node.kept.seq) e).0))
      (λ _. inr rises)
  up_received ls (bodies.Fetch have) = up_answers_fetch (next_behind o.node.chunk have ls) o p have (inr rises)
  up_received ls (bodies.Chunk g start bytes last) =
      either (o.node.me == 1) Up (ignored o) (chunk_to o ls p (line_at g ls) start (start + length bytes) last) (inr rises) (up_chunk_to o ls p (line_at g ls) start (start + length bytes) last (inr rises))

-- A tick of a member that neither asks nor is joined

up_looks_at_each : (ys : List ℕ) (o : Plan) → Up o → Up (looks_at_each ys o)
up_looks_at_each [] o h = h
up_looks_at_each (y ∷ ys) o h = up_looks_at_each ys (send o y bodies.Look) h

up_looks_round : (m : Mode) (o : Plan) → Up o → Up (looks_round m o)
up_looks_round (modes.Joined p) o h =
    let nearer : List ℕ = filter (λ z. nat_lt p z) (below o.node.me) in
    let reviewing : Plan = send (searching o (Some searches.Review)) p bodies.Look in
    either (is_member o.node) Up (looks_at_each nearer o) (if o.node.soft.refused then o else reviewing) (up_looks_at_each nearer o h) (either o.node.soft.refused Up o reviewing h h)
up_looks_round modes.Acting o h = either (is_member o.node) Up (looks_at_each (below o.node.me) o) o (up_looks_at_each (below o.node.me) o h) h
up_looks_round modes.Idle o h = h
up_looks_round (modes.Asking p) o h = h

up_fetches : (m : Mode) (o : Plan) (ls : List Shelf) → Up o → Up (fetches_as m o ls)
up_fetches (modes.Joined p) o ls h = h
up_fetches modes.Idle o ls h = h
up_fetches (modes.Asking p) o ls h = h
up_fetches modes.Acting o ls h = h

peer_itself : (p : ℕ) → (p == p) ≡ true
peer_itself p = eq-eqb p p refl

-- before its check it is a member that is idle or acts, and looks for no place
record Waiting (o : Plan) : Type 0 where
  member : is_member o.node ≡ true
  free : (p : ℕ) → is_peer o.node.kept.mode p ≡ true → ⊥
  still : o.node.soft.search ≡ None

up_tick_checks_as : (m : Mode) (o : Plan) → o.node.kept.mode ≡ m → Waiting o → Up (tick_checks_as m o)
up_tick_checks_as modes.Idle o e w = subst (λ (s : Option Search). Up (goes_on s o)) (sym w.still) (up_next_try (set_tries o None) w.member refl)
up_tick_checks_as (modes.Joined p) o e w = absurd (w.free p (ap (λ (m : Mode). is_peer m p) e ∙ peer_itself p))
up_tick_checks_as (modes.Asking p) o e w = absurd (w.free p (ap (λ (m : Mode). is_peer m p) e ∙ peer_itself p))
up_tick_checks_as modes.Acting o e w = by_epoch (raise (rank_or_last o.node.kept.rank).epoch) where
  by_epoch : (n : Option ℕ) → Up (raises o n)
  by_epoch None = inr (inl e)
  by_epoch (Some n) = inr (inl e)

waiting_forgets : (due : Option ℕ) (o : Plan) → Waiting o → Waiting (forgets_refusal due o)
waiting_forgets None o w = w
waiting_forgets (Some t) o w = record { member = w.member; free = w.free; still = w.still }

up_checks_in_time : (o : Plan) → Waiting o → Up (checks_in_time o)
up_checks_in_time o w =
    let begins : Plan = forgets_refusal o.node.soft.due o in
    let waiting : Waiting begins = waiting_forgets o.node.soft.due o w in
    up_looks_round o.node.kept.mode (tick_checks begins) (up_tick_checks_as begins.node.kept.mode (sets_due begins) refl (record { member = waiting.member; free = waiting.free; still = waiting.still }))

-- the leases that end leave that so
record Ending (s : Soft) (o : Plan) : Type 0 where
  waiting : Waiting o
  soft : o.node.soft ≡ s

ending_dies : (s : Soft) (e : Option Cert) (o : Plan) → Ending s o → Ending s (dies e o)
ending_dies s None o w = w
ending_dies s (Some c) o w =
    either (is_news o.node.kept.table (record c { dead = true })) (Ending s) (write o (records.Entry (record c { dead = true }))) o
    (record { waiting = record { member = w.waiting.member; free = w.waiting.free; still = w.waiting.still }; soft = w.soft }) w

ending_each : (s : Soft) (ys : List ℕ) (o : Plan) → Ending s o → Ending s (ends_each ys o)
ending_each s [] o w = w
ending_each s (y ∷ ys) o w = ending_each s ys (dies (newest o.node.kept.table y) o) (ending_dies s (newest o.node.kept.table y) o w)

up_tick : (o : Plan) (ls : List Shelf) (t : ℕ) → is_member o.node ≡ true → ((p : ℕ) → is_peer o.node.kept.mode p ≡ true → ⊥) → o.node.soft.search ≡ None → is_due o.node.soft.due (max o.node.soft.clock t) ≡ true
    → Up (tick o ls t)
up_tick o ls t member free still due =
    let started : Plan = starts_leases (at_time o t) in
    let over : Plan = ends_leases started in
    let before : Ending started.node.soft over = ending_each started.node.soft (ended started.node.kept.table started.node.me started.node.leases started.node.soft.clock) started (record { waiting = record { member = member; free = free; still = still }; soft = refl }) in
    let due_now : is_due over.node.soft.due over.node.soft.clock ≡ true = ap (λ (s : Soft). is_due s.due s.clock) before.soft ∙ due in
    let checked : Plan = checks_if_due over in
    up_fetches checked.node.kept.mode checked ls
    (subst (λ (b : Bool). Up (if b then checks_in_time over else reports_news over)) (sym due_now) (up_checks_in_time over before.waiting))

-- The step

pub rises_by_tick : (n : Node) (t : ℕ) → is_member n.control ≡ true → ((p : ℕ) → is_peer n.control.kept.mode p ≡ true → ⊥) → n.control.soft.search ≡ None
    → is_due n.control.soft.due (max n.control.soft.clock t) ≡ true → IsUpward (step n (Tick t)).node.control
rises_by_tick n t member free still due = up_tick (begun n.control) (shelf n.groups) t member free still due

pub rises_by_failure : (n : Node) (p : ℕ) → is_member n.control ≡ true → n.control.soft.search ≡ None → Rises n.control.kept.mode n.control.soft.silent → IsUpward (step n (Unreachable p)).node.control
rises_by_failure n p member still rises = up_not_reached (begun n.control) member still n.control.kept.mode p refl rises

pub rises_by_message : (n : Node) (m : Message) → Rises n.control.kept.mode n.control.soft.silent → (is_peer n.control.kept.mode m.from ≡ true → ⊥) → (m.from < n.control.me → ⊥)
    → IsUpward (step n (Delivered m)).node.control
rises_by_message n m rises other later = up_received (begun n.control) m.from rises other later (shelf n.groups) m.body
