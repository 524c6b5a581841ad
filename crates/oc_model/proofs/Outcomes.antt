-- The node after a step: the same id, the same clock except for a tick, and groups within the limits.
use Rattle.std.proofs.Common.{◌≡◌, ℕ, ◌+◌, ◌-◌, ◌≤◌, max, Bool, true, false, not, ◌&&◌, ◌==◌, nat_lt, nat_le, if◌then◌else◌, Option, Some, None, is_some, option_map, List, [], length, drop, refl, ap, sym, subst, ◌∙◌, arith, ltb-false, length-append, length-drop}
use Rattle.std.proofs.lemmas.Bool.{cond_both, leb-false}
use Rattle.oc_base.specs.declared.shelf.Shelf.{Shelf}
use Rattle.oc_model.specs.declared.answer.Answer.{Answer}
use Rattle.oc_model.specs.declared.answer.Answer.TheVariants as answers
use Rattle.oc_base.specs.declared.group.Group.{Group}
use Rattle.oc_model.specs.declared.input.Input.{Input}
use Rattle.oc_model.specs.declared.input.Input.TheVariants.{Tick, CheckNow, Relocate, Unreachable, Pull, Measured, Publish, Seal, Client, Delivered}
use Rattle.oc_model.specs.declared.message.Body.{Body}
use Rattle.oc_model.specs.declared.message.Body.TheVariants as bodies
use Rattle.oc_model.specs.declared.mode.Mode.{Mode}
use Rattle.oc_model.specs.declared.mode.Mode.TheVariants as modes
use Rattle.oc_model.specs.Content.{unless, keeps, grows, publish_to, published, seal_line, sealed_at, count_from, sends_chunk, answers_fetch, fetched, adds_seal, adds, grown_line, asks_on, keeps_chunk, chunk_to, took_chunk}
use Rattle.oc_base.specs.Groups.{group_of, group_or_empty, or_empty, with_group, shelf_of, shelf}
use Rattle.oc_base.specs.declared.limits.TheConstants.{MAX_GROUPS, MAX_GROUP_BYTES}
use Rattle.oc_model.specs.Node.{Node}
use Rattle.oc_model.specs.Plan.{Plan, begun, send, ignored, answers as says}
use Rattle.oc_model.specs.Shelves.{line_at, with_line, limit, next_behind}
use Rattle.oc_base.specs.Shelves.{line_of}
use Rattle.oc_model.specs.Step.{piece_of, grown, kept_at, plan, step}
use Rattle.oc_model.specs.WorldBounds.{AreWithinLimits}
use Rattle.oc_model.proofs.Groups.{group_or_empty-name}
use Rattle.oc_model.proofs.Limits.{HasRoom, held_short, limits-with_group}
use Rattle.oc_model.proofs.Rules.{either, IsClosed, keeps_tick, keeps_checks, keeps_relocate, keeps_unreachable, keeps_pulled, keeps_measured, keeps_client, keeps_looked, keeps_sees, keeps_asked, keeps_took_yes, keeps_took_no, keeps_checked_in, keeps_took_ack, keeps_took_rejoin}
use Rattle.oc_model.proofs.Shelves.{line_of-shelf, line_at-shelf, length-shelf}

-- The control rules

-- a step under way that has this id and this clock and keeps no content
pub record IsCalm (x c : ℕ) (o : Plan) : Type 0 where
  pub me : o.node.me ≡ x
  pub clock : o.node.soft.clock ≡ c
  pub keeps : o.keeps ≡ None

calm_closed : (x c : ℕ) (ls : List Shelf) → IsClosed ls (IsCalm x c)
calm_closed x c ls = record {
  write = λ o r h. record { me = h.me; clock = h.clock; keeps = h.keeps };
  send = λ o p b plain h. record { me = h.me; clock = h.clock; keeps = h.keeps };
  answers = λ o a h. record { me = h.me; clock = h.clock; keeps = h.keeps };
  soft = λ o s e h. record { me = h.me; clock = e ∙ h.clock; keeps = h.keeps };
  lists = λ o leases rates counts h. record { me = h.me; clock = h.clock; keeps = h.keeps };
}

-- Rule 14, content

-- the rule changes groups only, and within the limits
record IsKept (n : Node) (i : Input) (o : Plan) : Type 0 where
  node : o.node ≡ n.control
  limits : AreWithinLimits n.groups → AreWithinLimits (kept_at o.keeps n.groups (piece_of i) o.seals)

-- a step that keeps no bytes does not change the groups
kept_none : (n : Node) (i : Input) (o : Plan) → o.node ≡ n.control → o.keeps ≡ None → IsKept n i o
kept_none n i o node none = record { node = node; limits = λ in_limits. subst AreWithinLimits (sym (ap (λ k. kept_at k n.groups (piece_of i) o.seals) none)) in_limits }

-- a name that is not refused for the number of groups has room
has_room : (ks : List Group) (g : List ℕ) → (not (is_some (line_of g (shelf ks))) && nat_le MAX_GROUPS (length (shelf ks))) ≡ false → HasRoom ks g
has_room ks g e none =
    let absent : line_of g (shelf ks) ≡ None = line_of-shelf g ks ∙ ap (option_map shelf_of) none in
    let few : nat_le MAX_GROUPS (length (shelf ks)) ≡ false = rw absent at e in
    omega (arith, leb-false MAX_GROUPS (length (shelf ks)) few, length-shelf ks)

-- a property of both refusals, and of the rest where neither limit is exceeded, holds of the result
within : (P : Plan → Type 0) (o : Plan) (ks : List Group) (g : List ℕ) (end : ℕ) (rest : Plan) → P (says o answers.Groups) → P (says o answers.TooLong)
    → (HasRoom ks g → end ≤ MAX_GROUP_BYTES → P rest) → P (unless (limit (shelf ks) g end) o rest)
within P o ks g end rest groups long fits = by_tests (not (is_some (line_of g (shelf ks))) && nat_le MAX_GROUPS (length (shelf ks))) (nat_lt MAX_GROUP_BYTES end) refl refl where
  by_tests : (a b : Bool) → (not (is_some (line_of g (shelf ks))) && nat_le MAX_GROUPS (length (shelf ks))) ≡ a → nat_lt MAX_GROUP_BYTES end ≡ b
      → P (unless (if a then Some answers.Groups else if b then Some answers.TooLong else None) o rest)
  by_tests true b e f = groups
  by_tests false true e f = long
  by_tests false false e f = fits (has_room ks g e) (ltb-false MAX_GROUP_BYTES end f)

-- the kept part of a piece exceeds no limit
kept_within : (g : List ℕ) (ks : List Group) (at : ℕ) (bytes : List ℕ) (closes : Bool) → HasRoom ks (group_or_empty g ks).name → length (grown (group_or_empty g ks) at bytes closes).bytes ≤ MAX_GROUP_BYTES
    → AreWithinLimits ks → AreWithinLimits (with_group (grown (group_or_empty g ks) at bytes closes) ks)
kept_within g ks at bytes closes room short in_limits = limits-with_group (grown (group_or_empty g ks) at bytes closes) ks room short in_limits

-- a publish
publish_kept : (n : Node) (g bytes : List ℕ) → IsKept n (Publish g bytes) (published (begun n.control) (shelf n.groups) g bytes)
publish_kept n g bytes =
    either (n.control.me == 1) P (publish_to o ls (line_at g ls) (length bytes)) (says o answers.NotSource)
    (subst (λ l. P (publish_to o ls l (length bytes))) (sym (line_at-shelf g n.groups)) to_group)
    (kept_none n i (says o answers.NotSource) refl refl) where
      i : Input
      i = Publish g bytes

      o : Plan
      o = begun n.control

      ls : List Shelf
      ls = shelf n.groups

      P : Plan → Type 0
      P = IsKept n i

      k : Group
      k = group_or_empty g n.groups

      kept : Plan
      kept = if grows ls k.name (length bytes) then keeps o (length k.bytes) false else o

      to_group : P (publish_to o ls (shelf_of k) (length bytes))
      to_group =
          either k.sealed P (says o answers.Sealed) (unless (limit ls k.name (length k.bytes + length bytes)) o kept)
          (kept_none n i (says o answers.Sealed) refl refl)
          (within P o n.groups k.name (length k.bytes + length bytes) kept (kept_none n i (says o answers.Groups) refl refl) (kept_none n i (says o answers.TooLong) refl refl)
          (λ room few. either (grows ls k.name (length bytes)) P (keeps o (length k.bytes) false) o
          (record {
            node = refl;
            limits = kept_within g n.groups (length k.bytes) bytes false room (omega (arith, few, length-append k.bytes (drop (length k.bytes - length k.bytes) bytes), length-drop (length k.bytes - length k.bytes) bytes));
          })
          (kept_none n i o refl refl)))

-- a seal
seal_kept : (n : Node) (g : List ℕ) → IsKept n (Seal g) (sealed_at (begun n.control) (shelf n.groups) g)
seal_kept n g =
    either (n.control.me == 1) P (seal_line o (line_of g ls)) (says o answers.NotSource)
    (subst (λ l. P (seal_line o l)) (sym (line_of-shelf g n.groups)) (by_found (group_of g n.groups) refl))
    (kept_none n (Seal g) (says o answers.NotSource) refl refl) where
      o : Plan
      o = begun n.control

      ls : List Shelf
      ls = shelf n.groups

      P : Plan → Type 0
      P = IsKept n (Seal g)

      by_found : (found : Option Group) → group_of g n.groups ≡ found → P (seal_line o (option_map shelf_of found))
      by_found None e = kept_none n (Seal g) (says o answers.NoGroup) refl refl
      by_found (Some k) e =
          let is : group_or_empty g n.groups ≡ k = ap (or_empty g) e in
          let room : HasRoom n.groups (group_or_empty g n.groups).name = λ none. absurd (cc (sym (ap (λ z. group_of z n.groups) (group_or_empty-name g n.groups)) ∙ none, e)) in
          let same : length (group_or_empty g n.groups).bytes ≡ length k.bytes = ap (λ (j : Group). length j.bytes) is in
          either k.sealed P (ignored o) (keeps o (length k.bytes) true) (kept_none n (Seal g) (ignored o) refl refl)
          (record {
            node = refl;
            limits = λ in_limits.
                kept_within g n.groups (length k.bytes) [] true room
                (omega (arith, held_short g n.groups in_limits.2, length-append (group_or_empty g n.groups).bytes (drop (length (group_or_empty g n.groups).bytes - length k.bytes) []), length-drop {A = ℕ} (length (group_or_empty g n.groups).bytes - length k.bytes) []))
                in_limits;
          })

-- a message to x from p
abbrev comes : ℕ → ℕ → Body → Input
comes x p b = Delivered (record { from = p; to = x; body = b })

-- a fetch
fetch_kept : (n : Node) (x p : ℕ) (have : List Shelf) → IsKept n (comes x p (bodies.Fetch have)) (fetched (begun n.control) (shelf n.groups) p have)
fetch_kept n x p have = by_found (next_behind n.control.chunk have (shelf n.groups)) where
  by_found : (found : Option Shelf) → IsKept n (comes x p (bodies.Fetch have)) (answers_fetch (begun n.control) p have found)
  by_found None = kept_none n (comes x p (bodies.Fetch have)) (begun n.control) refl refl
  by_found (Some l) =
      kept_none n (comes x p (bodies.Fetch have)) (sends_chunk (begun n.control) p l (line_at l.group have).held (count_from n.control.chunk l (line_at l.group have).held)) refl refl

-- a chunk
chunk_kept : (n : Node) (x p : ℕ) (g : List ℕ) (start : ℕ) (bytes : List ℕ) (last : Bool)
    → IsKept n (comes x p (bodies.Chunk g start bytes last)) (took_chunk (begun n.control) (shelf n.groups) p g start bytes last)
chunk_kept n x p g start bytes last =
    either (n.control.me == 1) P (ignored o) (chunk_to o ls p (line_at g ls) start end last)
    (refused answers.Ignored)
    (subst (λ l. P (chunk_to o ls p l start end last)) (sym (line_at-shelf g n.groups)) to_group) where
      i : Input
      i = comes x p (bodies.Chunk g start bytes last)

      o : Plan
      o = begun n.control

      ls : List Shelf
      ls = shelf n.groups

      end : ℕ
      end = start + length bytes

      k : Group
      k = group_or_empty g n.groups

      P : Plan → Type 0
      P = IsKept n i

      refused : (a : Answer) → P (says o a)
      refused a = kept_none n i (says o a) refl refl

      kept : Plan
      kept = keeps o start (adds_seal (shelf_of k) end last)

      names : List Shelf
      names = with_line (grown_line (shelf_of k) end last) ls

      -- a fetch that goes out changes no node
      asks : (m : Mode) → P kept → P (asks_on m p names kept)
      asks (modes.Joined q) h = either (q == p) P (send kept p (bodies.Fetch names)) kept (record { node = h.node; limits = h.limits }) h
      asks modes.Idle h = h
      asks (modes.Asking q) h = h
      asks modes.Acting h = h

      adding : start ≤ length k.bytes → HasRoom n.groups k.name → end ≤ MAX_GROUP_BYTES → P kept
      adding no_gap room few = record {
        node = refl;
        limits = λ in_limits.
            kept_within g n.groups start bytes (adds_seal (shelf_of k) end last) room
            (omega (arith, few, no_gap, held_short g n.groups in_limits.2, length-append k.bytes (drop (length k.bytes - start) bytes), length-drop (length k.bytes - start) bytes))
            in_limits;
      }

      taken_in : Plan
      taken_in = keeps_chunk o ls p (shelf_of k) start end last

      to_group : P (chunk_to o ls p (shelf_of k) start end last)
      to_group =
          cond_both (nat_lt (length k.bytes) start) (says o answers.Gap) (if k.sealed && nat_lt (length k.bytes) end then says o answers.Sealed else unless (limit ls k.name end) o taken_in) P
          (λ _. refused answers.Gap)
          (λ e. either (k.sealed && nat_lt (length k.bytes) end) P (says o answers.Sealed) (unless (limit ls k.name end) o taken_in) (refused answers.Sealed)
          (within P o n.groups k.name end taken_in (refused answers.Groups) (refused answers.TooLong)
          (λ room few. either (adds ls (shelf_of k) end last) P (asks_on n.control.kept.mode p names kept) (ignored o)
          (asks n.control.kept.mode (adding (ltb-false (length k.bytes) start e) room few)) (refused answers.Ignored))))

-- Every input

-- the clock after an input
abbrev pub clock_by : Input → ℕ → ℕ
clock_by (Tick t) c = max c t
clock_by i c = c

-- the node after a step
pub record Leaves (n : Node) (i : Input) : Type 0 where
  pub me : (step n i).node.control.me ≡ n.control.me
  pub clock : (step n i).node.control.soft.clock ≡ clock_by i n.control.soft.clock
  pub limits : AreWithinLimits n.groups → AreWithinLimits (step n i).node.groups

of_calm : (n : Node) (i : Input) → IsCalm n.control.me (clock_by i n.control.soft.clock) (plan n.control (shelf n.groups) i) → Leaves n i
of_calm n i calm = record {
  me = calm.me;
  clock = calm.clock;
  limits = λ in_limits. subst AreWithinLimits (sym (ap (λ k. kept_at k n.groups (piece_of i) (plan n.control (shelf n.groups) i).seals) calm.keeps)) in_limits;
}

of_kept : (n : Node) (i : Input) → clock_by i n.control.soft.clock ≡ n.control.soft.clock → IsKept n i (plan n.control (shelf n.groups) i) → Leaves n i
of_kept n i still kept = record { me = ap (λ c. c.me) kept.node; clock = ap (λ c. c.soft.clock) kept.node ∙ sym still; limits = kept.limits }

-- a step of this node under way
abbrev Calm : Node → Plan → Type 0
Calm n o = IsCalm n.control.me n.control.soft.clock o

calm_kept : (n : Node) → IsClosed (shelf n.groups) (Calm n)
calm_kept n = calm_closed n.control.me n.control.soft.clock (shelf n.groups)

calm_start : (n : Node) → Calm n (begun n.control)
calm_start n = record { me = refl; clock = refl; keeps = refl }

received_leaves : (n : Node) (x p : ℕ) (b : Body) → Leaves n (comes x p b)
received_leaves n x p bodies.Look = of_calm n (comes x p bodies.Look) (keeps_looked (shelf n.groups) (Calm n) (calm_kept n) (begun n.control) p (calm_start n))
received_leaves n x p (bodies.LookIs is_in parent rate children) =
    of_calm n (comes x p (bodies.LookIs is_in parent rate children))
    (keeps_sees (shelf n.groups) (Calm n) (calm_kept n) (begun n.control) p (record { in_tree = is_in; parent = parent; rate = rate; children = children }) (calm_start n))
received_leaves n x p (bodies.Ask seq rank) = of_calm n (comes x p (bodies.Ask seq rank)) (keeps_asked (shelf n.groups) (Calm n) (calm_kept n) (begun n.control) p seq rank (calm_start n))
received_leaves n x p (bodies.Yes seq rank ancestors) =
    of_calm n (comes x p (bodies.Yes seq rank ancestors)) (keeps_took_yes (shelf n.groups) (Calm n) (calm_kept n) (begun n.control) p seq rank ancestors (calm_start n))
received_leaves n x p (bodies.No seq why) = of_calm n (comes x p (bodies.No seq why)) (keeps_took_no (shelf n.groups) (Calm n) (calm_kept n) (begun n.control) p seq why (calm_start n))
received_leaves n x p (bodies.CheckIn seq upto rate number clients certs) =
    of_calm n (comes x p (bodies.CheckIn seq upto rate number clients certs))
    (keeps_checked_in (shelf n.groups) (Calm n) (calm_kept n) (begun n.control) p seq upto rate number clients certs (calm_start n))
received_leaves n x p (bodies.CheckAck seq upto rank ancestors) =
    of_calm n (comes x p (bodies.CheckAck seq upto rank ancestors)) (keeps_took_ack (shelf n.groups) (Calm n) (calm_kept n) (begun n.control) p seq upto rank ancestors (calm_start n))
received_leaves n x p (bodies.Rejoin seq) = of_calm n (comes x p (bodies.Rejoin seq)) (keeps_took_rejoin (shelf n.groups) (Calm n) (calm_kept n) (begun n.control) p seq (calm_start n))
received_leaves n x p (bodies.Fetch have) = of_kept n (comes x p (bodies.Fetch have)) refl (fetch_kept n x p have)
received_leaves n x p (bodies.Chunk g start bytes last) = of_kept n (comes x p (bodies.Chunk g start bytes last)) refl (chunk_kept n x p g start bytes last)

-- every step leaves the id, the clock except for a tick, and the groups within the limits
pub step_leaves : (n : Node) (i : Input) → Leaves n i
step_leaves n (Tick t) =
    of_calm n (Tick t)
    (keeps_tick (shelf n.groups) (IsCalm n.control.me (max n.control.soft.clock t)) (calm_closed n.control.me (max n.control.soft.clock t) (shelf n.groups)) (begun n.control) t
    (record { me = refl; clock = refl; keeps = refl }))
step_leaves n CheckNow = of_calm n CheckNow (keeps_checks (shelf n.groups) (Calm n) (calm_kept n) (begun n.control) (calm_start n))
step_leaves n (Relocate p) = of_calm n (Relocate p) (keeps_relocate (shelf n.groups) (Calm n) (calm_kept n) (begun n.control) p (calm_start n))
step_leaves n (Unreachable p) = of_calm n (Unreachable p) (keeps_unreachable (shelf n.groups) (Calm n) (calm_kept n) (begun n.control) p (calm_start n))
step_leaves n (Pull p) = of_calm n (Pull p) (keeps_pulled (shelf n.groups) (Calm n) (calm_kept n) (begun n.control) p (calm_start n))
step_leaves n (Measured p rate hops) = of_calm n (Measured p rate hops) (keeps_measured (shelf n.groups) (Calm n) (calm_kept n) (begun n.control) p rate hops (calm_start n))
step_leaves n (Publish g bytes) = of_kept n (Publish g bytes) refl (publish_kept n g bytes)
step_leaves n (Seal g) = of_kept n (Seal g) refl (seal_kept n g)
step_leaves n (Client area start g) = of_calm n (Client area start g) (keeps_client (shelf n.groups) (Calm n) (calm_kept n) (begun n.control) area start g (calm_start n))
step_leaves n (Delivered m) = received_leaves n m.to m.from m.body
