-- A root that hears of no earlier member acts on, and its next check is set by its tick: the effect of each input on that.
use Rattle.std.proofs.Common.{◌≡◌, ℕ, ◌+◌, ◌-◌, ◌<◌, ◌%◌, max, Bool, true, false, not, ◌&&◌, ◌==◌, nat_lt, nat_le, if◌then◌else◌, Option, Some, None, is_some, List, [], ◌∷◌, length, refl, ap, sym, subst, ◌∙◌}
use Rattle.std.proofs.lemmas.Bool.{cond_both, and_parts, ltb-true}
use Rattle.oc_base.specs.declared.cert.Cert.{Cert}
use Rattle.oc_base.specs.declared.rank.Rank.{Rank}
use Rattle.oc_base.specs.declared.refusal.Refusal.{Refusal}
use Rattle.oc_base.specs.declared.shelf.Shelf.{Shelf}
use Rattle.oc_base.specs.declared.limits.TheConstants.{MAX_DEPTH, MAX_GROUPS, MAX_GROUP_BYTES}
use Rattle.oc_base.specs.Groups.{shelf}
use Rattle.oc_base.specs.Shelves.{line_of}
use Rattle.oc_model.specs.declared.answer.Answer.TheVariants as words
use Rattle.oc_model.specs.declared.input.Input.TheVariants.{Tick, Unreachable, Delivered}
use Rattle.oc_model.specs.declared.message.Body.{Body}
use Rattle.oc_model.specs.declared.message.Body.TheVariants as bodies
use Rattle.oc_model.specs.declared.message.Message.{Message}
use Rattle.oc_model.specs.declared.mode.Mode.{Mode}
use Rattle.oc_model.specs.declared.mode.Mode.TheVariants as modes
use Rattle.oc_model.specs.declared.record.Record.TheVariants as records
use Rattle.oc_model.specs.declared.soft.Search.{Search}
use Rattle.oc_model.specs.Adopting.{is_acting, raises, raises_over, host, birth, has_lease, grants, sends_rejoin, adopts, answers_ask, asked}
use Rattle.oc_model.specs.Adoption.{precedes, precedes_any, rank_or_last, adoption_refusal}
use Rattle.oc_model.specs.Asking.{lost, ask_before, is_asking, ancestors_by, joins, refused, not_seen, not_reached}
use Rattle.oc_model.specs.Checking.{sets_due, merges, merges_all, at_time, starts_leases, dies, ends_each, ends_leases, looks_at_each, looks_round, is_due, forgets_refusal, tick_checks_as, tick_checks, checks_in_time, reports_news, checks_if_due, fetches_as, acknowledges, life, checked_in, is_joined_to, takes_place, takes_rank_unless, takes_ancestors, is_peer}
use Rattle.oc_model.specs.Choice.{below}
use Rattle.oc_model.specs.Content.{unless, keeps, answers_fetch, adds_seal, adds, grown_line, asks_on, keeps_chunk, chunk_to}
use Rattle.oc_model.specs.Leases.{ended}
use Rattle.oc_model.specs.Looking.{Stand, prefers, keeps_line, sees_as}
use Rattle.oc_model.specs.Node.{Control, Node}
use Rattle.oc_model.specs.Numbers.{raise}
use Rattle.oc_model.specs.Plan.{Plan, begun, write, send, answers, with_soft, ignored, is_member}
use Rattle.oc_model.specs.Shelves.{line_at, with_line, limit, next_behind}
use Rattle.oc_model.specs.Step.{received, step}
use Rattle.oc_model.specs.Table.{newest, is_news}
use Rattle.oc_model.proofs.Rules.{either}

module _ (m c : ℕ) (d : Option ℕ) (s : ℕ) where
  -- m acts at this second of its clock, this is the second of its next check, and this its ask number
  abbrev pub Acts : Control → Type 0
  Acts n = (n.me ≡ m) × (n.kept.mode ≡ modes.Acting) × (n.soft.clock ≡ c) × (n.soft.due ≡ d) × (n.kept.seq ≡ s)

  abbrev Reigns : Plan → Type 0
  Reigns o = Acts o.node

  reigns_raises : (o : Plan) (e : Option ℕ) → Reigns o → Reigns (raises o e)
  reigns_raises o None h = h
  reigns_raises o (Some e) h = h

  reigns_adopts : (o : Plan) (y seq : ℕ) → Reigns o → Reigns (adopts o y seq)
  reigns_adopts o y seq h =
      let born : Cert = birth y seq o.node.me in
      let entered : Plan = write o (records.Entry born) in
      either (has_lease o.node y seq) Reigns (grants o y seq) (if is_news o.node.kept.table born then grants entered y seq else sends_rejoin o y seq) h
      (either (is_news o.node.kept.table born) Reigns (grants entered y seq) (sends_rejoin o y seq) h h)

  reigns_answers : (why : Option Refusal) (o : Plan) (y seq : ℕ) → Reigns o → Reigns (answers_ask why o y seq)
  reigns_answers None o y seq h = reigns_adopts o y seq h
  reigns_answers (Some why) o y seq h = h

  reigns_asked : (o : Plan) (y seq : ℕ) (r : Option Rank) → Reigns o → Reigns (asked o y seq r)
  reigns_asked o y seq r h =
      let raised : Plan = raises_over o y (rank_or_last r) in
      reigns_answers (adoption_refusal (host raised.node y) y r) raised y seq
      (either (is_acting o.node.kept.mode && not (precedes (rank_or_last o.node.kept.rank) (rank_or_last r)) && not (y == o.node.me)) Reigns (raises o (raise (rank_or_last r).epoch)) o (reigns_raises o (raise (rank_or_last r).epoch) h) h)

  reigns_merges_all : (cs : List Cert) (o : Plan) → Reigns o → Reigns (merges_all cs o)
  reigns_merges_all [] o h = h
  reigns_merges_all (k ∷ cs) o h = reigns_merges_all cs (merges o k) (either (is_news o.node.kept.table k) Reigns (write o (records.Entry k)) o h h)

  reigns_checked_in : (o : Plan) (y seq upto rate number clients : ℕ) (certs : List Cert) → Reigns o → Reigns (checked_in o y seq upto rate number clients certs)
  reigns_checked_in o y seq upto rate number clients certs h =
      let told : List Cert = life y seq o.node.me number clients ∷ certs in
      either (has_lease o.node y seq) Reigns (acknowledges (merges_all told o) y seq upto rate) (sends_rejoin o y seq) (reigns_merges_all told o h) h

  reigns_keeps_line : (o : Plan) (q : ℕ) (st : Stand) → (q < m → ⊥) → Reigns o → Reigns (keeps_line o q st)
  reigns_keeps_line o q st later h =
      cond_both (is_member o.node && prefers o.node.kept.mode q && nat_lt q o.node.me && st.in_tree) (ask_before o q) (ignored o) Reigns
      (λ e.
      let three = and_parts (is_member o.node && prefers o.node.kept.mode q && nat_lt q o.node.me) st.in_tree e in
      let two = and_parts (is_member o.node && prefers o.node.kept.mode q) (nat_lt q o.node.me) three.0 in
      absurd (later (subst (λ (y : ℕ). q < y) h.0 (ltb-true q o.node.me two.1))))
      (λ _. h)

  reigns_answers_fetch : (l : Option Shelf) (o : Plan) (q : ℕ) (have : List Shelf) → Reigns o → Reigns (answers_fetch o q have l)
  reigns_answers_fetch None o q have h = h
  reigns_answers_fetch (Some l) o q have h = h

  reigns_limited : (ls : List Shelf) (g : List ℕ) (end : ℕ) (o q : Plan) → Reigns o → Reigns q → Reigns (unless (limit ls g end) o q)
  reigns_limited ls g end o q h i = by_tests (not (is_some (line_of g ls)) && nat_le MAX_GROUPS (length ls)) (nat_lt MAX_GROUP_BYTES end) where
    by_tests : (a b : Bool) → Reigns (unless (if a then Some words.Groups else if b then Some words.TooLong else None) o q)
    by_tests true b = h
    by_tests false true = h
    by_tests false false = i

  reigns_chunk_to : (o : Plan) (ls : List Shelf) (q : ℕ) (l : Shelf) (start end : ℕ) (last : Bool) → Reigns o → Reigns (chunk_to o ls q l start end last)
  reigns_chunk_to o ls q l start end last h =
      let room : Plan = unless (limit ls l.group end) o (keeps_chunk o ls q l start end last) in
      let more : List Shelf = with_line (grown_line l end last) ls in
      let kept : Plan = keeps o start (adds_seal l end last) in
      either (nat_lt l.held start) Reigns (answers o words.Gap) (if l.sealed && nat_lt l.held end then answers o words.Sealed else room) h
      (either (l.sealed && nat_lt l.held end) Reigns (answers o words.Sealed) room h
      (reigns_limited ls l.group end o (keeps_chunk o ls q l start end last) h
      (either (adds ls l end last) Reigns (asks_on o.node.kept.mode q more kept) (ignored o) (subst (λ (k : Mode). Reigns (asks_on k q more kept)) (sym h.1) h) h)))

  reigns_received : (o : Plan) (ls : List Shelf) (q : ℕ) (b : Body) → (q < m → ⊥) → Reigns o → Reigns (received o ls q b)
  reigns_received o ls q bodies.Look later h = h
  reigns_received o ls q (bodies.LookIs is_in parent rate children) later h =
      let st : Stand = record { in_tree = is_in; parent = parent; rate = rate; children = children } in
      subst (λ (k : Mode). Reigns (sees_as k o.node.soft.search o q st)) (sym h.1) (reigns_keeps_line o q st later h)
  reigns_received o ls q (bodies.Ask seq rank) later h = reigns_asked o q seq rank h
  reigns_received o ls q (bodies.Yes seq r xs) later h =
      subst (λ (k : Mode). Reigns (if is_asking k q && seq == o.node.kept.seq && nat_lt r.depth MAX_DEPTH && precedes_any r o.node.kept.rank then joins o q r xs else ignored o)) (sym h.1) h
  reigns_received o ls q (bodies.No seq why) later h =
      subst (λ (k : Mode). Reigns (if is_asking k q && seq == o.node.kept.seq then refused (with_soft (lost o) (record o.node.soft { silent = false; refused = true })) why else ignored o)) (sym h.1) h
  reigns_received o ls q (bodies.CheckIn seq upto rate number clients certs) later h = reigns_checked_in o q seq upto rate number clients certs h
  reigns_received o ls q (bodies.CheckAck seq upto told xs) later h =
      subst (λ (k : Mode). Reigns (if is_joined_to k q && seq == o.node.kept.seq then takes_ancestors (takes_rank_unless o.node.soft.wish (takes_place o upto) told) (ancestors_by q xs) else ignored o)) (sym h.1) h
  reigns_received o ls q (bodies.Rejoin seq) later h = subst (λ (k : Mode). Reigns (if is_peer k q && seq == o.node.kept.seq then ask_before o q else ignored o)) (sym h.1) h
  reigns_received o ls q (bodies.Fetch have) later h = reigns_answers_fetch (next_behind o.node.chunk have ls) o q have h
  reigns_received o ls q (bodies.Chunk g start bytes last) later h =
      either (o.node.me == 1) Reigns (ignored o) (chunk_to o ls q (line_at g ls) start (start + length bytes) last) h (reigns_chunk_to o ls q (line_at g ls) start (start + length bytes) last h)

  pub message_reigns : (n : Node) (k : Message) → (k.from < m → ⊥) → Acts n.control → Acts (step n (Delivered k)).node.control
  message_reigns n k later h = reigns_received (begun n.control) (shelf n.groups) k.from k.body later h

  pub failure_reigns : (n : Node) (q : ℕ) → n.control.soft.search ≡ None → Acts n.control → Acts (step n (Unreachable q)).node.control
  failure_reigns n q still h =
      subst (λ (k : Mode). Reigns (not_reached k (begun n.control) q)) (sym h.1) (subst (λ (s : Option Search). Reigns (not_seen s (begun n.control) q)) (sym still) h)

  -- A tick, after its clock was set

  reigns_looks_at_each : (ys : List ℕ) (o : Plan) → Reigns o → Reigns (looks_at_each ys o)
  reigns_looks_at_each [] o h = h
  reigns_looks_at_each (y ∷ ys) o h = reigns_looks_at_each ys (send o y bodies.Look) h

  pub reigns_checked : (o : Plan) → Reigns o → Reigns (looks_round o.node.kept.mode (raises o (raise (rank_or_last o.node.kept.rank).epoch)))
  reigns_checked o h =
      let raised : Plan = raises o (raise (rank_or_last o.node.kept.rank).epoch) in
      let reigns : Reigns raised = reigns_raises o (raise (rank_or_last o.node.kept.rank).epoch) h in
      subst (λ (k : Mode). Reigns (looks_round k raised)) (sym h.1)
      (either (is_member raised.node) Reigns (looks_at_each (below raised.node.me) raised) raised (reigns_looks_at_each (below raised.node.me) raised reigns) reigns)

-- what a tick has before its check
abbrev Before : ℕ → ℕ → Option ℕ → ℕ → Plan → Type 0
Before m c due s o = (o.node.me ≡ m) × (o.node.kept.mode ≡ modes.Acting) × (o.node.soft.clock ≡ c) × (o.node.soft.due ≡ due) × (o.node.kept.seq ≡ s)

before_ends : (m c : ℕ) (due : Option ℕ) (s : ℕ) (ys : List ℕ) (o : Plan) → Before m c due s o → Before m c due s (ends_each ys o)
before_ends m c due s [] o h = h
before_ends m c due s (y ∷ ys) o h = before_ends m c due s ys (dies (newest o.node.kept.table y) o) (by_row (newest o.node.kept.table y)) where
  by_row : (e : Option Cert) → Before m c due s (dies e o)
  by_row None = h
  by_row (Some k) = either (is_news o.node.kept.table (record k { dead = true })) (Before m c due s) (write o (records.Entry (record k { dead = true }))) o h h

-- the same without the second of the check
abbrev Stands : ℕ → ℕ → ℕ → Plan → Type 0
Stands m c s o = (o.node.me ≡ m) × (o.node.kept.mode ≡ modes.Acting) × (o.node.soft.clock ≡ c) × (o.node.kept.seq ≡ s)

from_set : (m c s : ℕ) (o : Plan) → Stands m c s o → Acts m c (Some (c + 20 - m % 3)) s (looks_round o.node.kept.mode (tick_checks o)).node
from_set m c s o h =
    let set : Plan = sets_due o in
    subst (λ (k : Mode). Acts m c (Some (c + 20 - m % 3)) s (looks_round o.node.kept.mode (tick_checks_as k set)).node) (sym h.1)
    (reigns_checked m c (Some (c + 20 - m % 3)) s set (h.0, h.1, h.2, ap (λ (x : ℕ). Some (x + 20 - o.node.me % 3)) h.2 ∙ ap (λ (y : ℕ). Some (c + 20 - y % 3)) h.0, h.3))

after_forgets : (m c s : ℕ) (due : Option ℕ) (o : Plan) → Stands m c s o → Acts m c (Some (c + 20 - m % 3)) s (looks_round o.node.kept.mode (tick_checks (forgets_refusal due o))).node
after_forgets m c s None o h = from_set m c s o h
after_forgets m c s (Some e) o h = from_set m c s (with_soft o (record o.node.soft { refused = false })) h

in_time : (m c : ℕ) (due : Option ℕ) (s : ℕ) (o : Plan) → Before m c due s o → Acts m c (Some (c + 20 - m % 3)) s (checks_in_time o).node
in_time m c due s o h = after_forgets m c s o.node.soft.due o (h.0, h.1, h.2, h.4)

-- a tick at which the check is due sets the next one
pub tick_reigns : (m : ℕ) (n : Node) (t : ℕ) → n.control.me ≡ m → n.control.kept.mode ≡ modes.Acting → is_due n.control.soft.due (max n.control.soft.clock t) ≡ true
    → Acts m (max n.control.soft.clock t) (Some (max n.control.soft.clock t + 20 - m % 3)) n.control.kept.seq (step n (Tick t)).node.control
tick_reigns m n t me acting due =
    let now : ℕ = max n.control.soft.clock t in
    let s : ℕ = n.control.kept.seq in
    let after : Option ℕ = Some (now + 20 - m % 3) in
    let started : Plan = starts_leases (at_time (begun n.control) t) in
    let over : Plan = ends_leases started in
    let before : Before m now n.control.soft.due s over =
    before_ends m now n.control.soft.due s (ended started.node.kept.table started.node.me started.node.leases started.node.soft.clock) started (me, acting, refl, refl, refl) in
    let due_now : is_due over.node.soft.due over.node.soft.clock ≡ true = ap (λ (e : Option ℕ). is_due e over.node.soft.clock) before.3 ∙ (ap (is_due n.control.soft.due) before.2 ∙ due) in
    let checked : Plan = checks_if_due over in
    let done : Acts m now after s checked.node = subst (λ (b : Bool). Acts m now after s (if b then checks_in_time over else reports_news over).node) (sym due_now) (in_time m now n.control.soft.due s over before) in
    subst (λ (k : Mode). Acts m now after s (fetches_as k checked (shelf n.groups)).node) (sym done.1) done
