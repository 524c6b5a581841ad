-- The lease ends of a node's leased children lie ahead of its clock after each step: a tick ends the leases that are over, and
-- an ask or a check-in begins the lease of its sender anew.
use Rattle.std.proofs.Common.{◌≡◌, ℕ, if◌then◌else◌, Option, Some, None, List, [], ◌∷◌, ◌⊎◌, inl, inr, refl, ap, sym, ⊎_elim}
use Rattle.oc_base.specs.declared.cert.Cert.{Cert}
use Rattle.oc_base.specs.declared.rank.Rank.{Rank}
use Rattle.oc_base.specs.declared.refusal.Refusal.{Refusal}
use Rattle.oc_base.specs.declared.shelf.Shelf.{Shelf}
use Rattle.oc_model.specs.declared.input.Input.{Input}
use Rattle.oc_model.specs.declared.input.Input.TheVariants.{Tick, CheckNow, Relocate, Unreachable, Pull, Measured, Publish, Seal, Client, Delivered}
use Rattle.oc_model.specs.declared.message.Body.{Body}
use Rattle.oc_model.specs.declared.message.Body.TheVariants as bodies
use Rattle.oc_model.specs.declared.record.Record.TheVariants as records
use Rattle.oc_model.specs.Adopting.{raises_over, host, birth, has_lease, grants, sends_rejoin, adopts, answers_ask, asked}
use Rattle.oc_model.specs.Adoption.{rank_or_last, adoption_refusal}
use Rattle.oc_model.specs.Checking.{merges, merges_all, acknowledges, life, checked_in}
use Rattle.oc_base.specs.Groups.{shelf}
use Rattle.oc_model.specs.Node.{Control, Node}
use Rattle.oc_model.specs.Numbers.{IsAmong}
use Rattle.oc_model.specs.Plan.{Plan, begun, write}
use Rattle.oc_model.specs.Step.{received, step}
use Rattle.oc_model.specs.Table.{is_news, merge}
use Rattle.oc_model.proofs.Rules.{either}
use Rattle.oc_laws_step.proofs.Tables.{merge_keeps}
use Rattle.oc_laws_tree.proofs.Known.{Knows}
use Rattle.oc_laws_tree.proofs.LeaseRules.{OfPlan, stays_took_yes, stays_took_no, stays_unreachable, stays_relocate, stays_raises_over, stays_checks, stays_took_ack, stays_took_rejoin, stays_sees, stays_client, stays_measured, stays_published, stays_sealed_at, stays_pulled, stays_fetched, stays_took_chunk}
use Rattle.oc_laws_tree.proofs.LeasesAhead.{AreAhead, AreAheadBut, IsAhead, renew_ahead, merged_ahead, of_merges}
use Rattle.oc_laws_tree.proofs.LeaseTicks.{tick_ahead}

-- Check-ins

-- certificates about x, or that y knows where they name y, and lease ends that lie ahead except for that of x
abbrev TakesCerts : ℕ → List Cert → ℕ → List Cert → List (Option ℕ) → ℕ → Type 0
TakesCerts x cs y t ends clock = ((c : Cert) → IsAmong c cs → (x ≡ c.subject) ⊎ (c.parent ≡ y → Knows t c)) × AreAheadBut (x ∷ []) y t ends clock

all_merged_ahead : (x : ℕ) (cs : List Cert) (o : Plan) → OfPlan (TakesCerts x cs) o → OfPlan (AreAheadBut (x ∷ [])) (merges_all cs o)
all_merged_ahead x [] o h = h.1
all_merged_ahead x (c ∷ cs) o h =
    all_merged_ahead x cs (merges o c) (of_merges (TakesCerts x cs) o c (
      λ d among. ⊎_elim (λ same. inl same) (λ known. inr (λ own. merge_keeps o.node.kept.table c d (known own))) (h.0 d (inr among)),
      merged_ahead o.node.kept.table c o.node.me (x ∷ []) o.node.leases o.node.soft.clock (⊎_elim (λ same. inl (inl (sym same))) (λ known. inr known) (h.0 c (inl refl))) h.1,
    ))

checked_in_ahead : (o : Plan) (x seq upto rate number clients : ℕ) (certs : List Cert) → ((c : Cert) → IsAmong c certs → c.parent ≡ o.node.me → Knows o.node.kept.table c)
    → OfPlan AreAhead o → OfPlan AreAhead (checked_in o x seq upto rate number clients certs)
checked_in_ahead o x seq upto rate number clients certs known h =
    let told : List Cert = life x seq o.node.me number clients ∷ certs in
    let merged : Plan = merges_all told o in
    either (has_lease o.node x seq) (OfPlan AreAhead) (acknowledges merged x seq upto rate) (sends_rejoin o x seq)
    (renew_ahead x merged.node.me merged.node.kept.table merged.node.leases merged.node.soft.clock (all_merged_ahead x told o (each, λ z out. h z))) h where
      each : (c : Cert) → IsAmong c (life x seq o.node.me number clients ∷ certs) → (x ≡ c.subject) ⊎ (c.parent ≡ o.node.me → Knows o.node.kept.table c)
      each c (inl e) = inl (ap (λ (k : Cert). k.subject) e)
      each c (inr among) = inr (known c among)

-- Asks

adopts_ahead : (o : Plan) (x seq : ℕ) → OfPlan AreAhead o → OfPlan AreAhead (adopts o x seq)
adopts_ahead o x seq h =
    let born : Cert = birth x seq o.node.me in
    let entered : Plan = write o (records.Entry born) in
    either (has_lease o.node x seq) (OfPlan AreAhead) (grants o x seq) (if is_news o.node.kept.table born then grants entered x seq else sends_rejoin o x seq)
    (renew_ahead x o.node.me o.node.kept.table o.node.leases o.node.soft.clock (λ z out. h z))
    (either (is_news o.node.kept.table born) (OfPlan AreAhead) (grants entered x seq) (sends_rejoin o x seq)
    (renew_ahead x o.node.me (merge o.node.kept.table born) o.node.leases o.node.soft.clock
    (merged_ahead o.node.kept.table born o.node.me (x ∷ []) o.node.leases o.node.soft.clock (inl (inl refl)) (λ z out. h z)))
    h)

answers_ask_ahead : (why : Option Refusal) (o : Plan) (x seq : ℕ) → OfPlan AreAhead o → OfPlan AreAhead (answers_ask why o x seq)
answers_ask_ahead None o x seq h = adopts_ahead o x seq h
answers_ask_ahead (Some why) o x seq h = h

asked_ahead : (o : Plan) (x seq : ℕ) (r : Option Rank) → OfPlan AreAhead o → OfPlan AreAhead (asked o x seq r)
asked_ahead o x seq r h =
    let raised : Plan = raises_over o x (rank_or_last r) in
    answers_ask_ahead (adoption_refusal (host raised.node x) x r) raised x seq (stays_raises_over AreAhead o x (rank_or_last r) h)

-- Steps

-- a message that tells a node nothing new of the facts whose parent is the node
abbrev pub HasKnownCerts : Control → Body → Type 0
HasKnownCerts n (bodies.CheckIn seq upto rate number clients certs) = (c : Cert) → IsAmong c certs → c.parent ≡ n.me → Knows n.kept.table c
HasKnownCerts n body = Unit {0}

abbrev pub OwnCertsAreKnown : Control → Input → Type 0
OwnCertsAreKnown n (Delivered m) = HasKnownCerts n m.body
OwnCertsAreKnown n i = Unit {0}

received_ahead : (n : Control) (ls : List Shelf) (p : ℕ) (b : Body) → HasKnownCerts n b → IsAhead n → OfPlan AreAhead (received (begun n) ls p b)
received_ahead n ls p bodies.Look known h = h
received_ahead n ls p (bodies.LookIs is_in parent rate children) known h = stays_sees AreAhead (begun n) p (record { in_tree = is_in; parent = parent; rate = rate; children = children }) h
received_ahead n ls p (bodies.Ask seq rank) known h = asked_ahead (begun n) p seq rank h
received_ahead n ls p (bodies.Yes seq rank ancestors) known h = stays_took_yes AreAhead (begun n) p seq rank ancestors h
received_ahead n ls p (bodies.No seq why) known h = stays_took_no AreAhead (begun n) p seq why h
received_ahead n ls p (bodies.CheckIn seq upto rate number clients certs) known h = checked_in_ahead (begun n) p seq upto rate number clients certs known h
received_ahead n ls p (bodies.CheckAck seq upto rank ancestors) known h = stays_took_ack AreAhead (begun n) p seq upto rank ancestors h
received_ahead n ls p (bodies.Rejoin seq) known h = stays_took_rejoin AreAhead (begun n) p seq h
received_ahead n ls p (bodies.Fetch have) known h = stays_fetched AreAhead (begun n) ls p have h
received_ahead n ls p (bodies.Chunk g start bytes last) known h = stays_took_chunk AreAhead (begun n) ls p g start bytes last h

-- each step leaves the lease ends ahead of the clock
pub step_ahead : (n : Node) (i : Input) → OwnCertsAreKnown n.control i → IsAhead n.control → IsAhead (step n i).node.control
step_ahead n (Tick t) known h = tick_ahead (begun n.control) (shelf n.groups) t
step_ahead n CheckNow known h = stays_checks AreAhead (begun n.control) h
step_ahead n (Relocate p) known h = stays_relocate AreAhead (begun n.control) p h
step_ahead n (Unreachable p) known h = stays_unreachable AreAhead (begun n.control) p h
step_ahead n (Pull p) known h = stays_pulled AreAhead (begun n.control) (shelf n.groups) p h
step_ahead n (Measured p rate hops) known h = stays_measured AreAhead (begun n.control) p rate hops h
step_ahead n (Publish g bytes) known h = stays_published AreAhead (begun n.control) (shelf n.groups) g bytes h
step_ahead n (Seal g) known h = stays_sealed_at AreAhead (begun n.control) (shelf n.groups) g h
step_ahead n (Client area start g) known h = stays_client AreAhead (begun n.control) (shelf n.groups) area start g h
step_ahead n (Delivered m) known h = received_ahead n.control (shelf n.groups) m.from m.body known h
