-- A root refuses no node past the chain when no member is its child, and tells that it is in the tree: the effect of each input on that.
use Rattle.std.proofs.Common.{◌≡◌, ℕ, ◌+◌, ◌<◌, false, not, ◌&&◌, ◌==◌, nat_le, if◌then◌else◌, Option, Some, None, List, [], ◌∷◌, ◌++◌, ◌⊎◌, inl, inr, refl, ap, ap₂, sym, subst, ◌∙◌, ⊎_elim, arith, ne_eqb}
use Rattle.std.specs.List.{AllByRecursion}
use Rattle.std.specs.Option.{option_or}
use Rattle.std.proofs.lemmas.Bool.{true≢false}
use Rattle.oc_base.specs.declared.cert.Cert.{Cert}
use Rattle.oc_base.specs.declared.rank.Rank.{Rank}
use Rattle.oc_base.specs.declared.refusal.Refusal.{Refusal}
use Rattle.oc_base.specs.declared.refusal.Refusal.TheVariants as refusals
use Rattle.oc_base.specs.declared.limits.TheConstants.{MAX_DEPTH}
use Rattle.oc_base.specs.Groups.{shelf}
use Rattle.oc_model.specs.declared.input.Input.TheVariants.{Tick, Unreachable, Delivered}
use Rattle.oc_model.specs.declared.message.Body.{Body}
use Rattle.oc_model.specs.declared.message.Body.TheVariants as bodies
use Rattle.oc_model.specs.declared.message.Message.{Message}
use Rattle.oc_model.specs.declared.mode.Mode.TheVariants as modes
use Rattle.oc_model.specs.declared.record.Record.TheVariants as records
use Rattle.oc_model.specs.Adopting.{in_tree, is_acting, raises, host, birth, has_lease, grants, sends_rejoin, adopts, answers_ask}
use Rattle.oc_model.specs.Adoption.{rank_or_last, precedes, chain_child, chain_refusal, rank_refusal, adoption_refusal}
use Rattle.oc_model.specs.Checking.{merges, merges_all, acknowledges, life, checked_in}
use Rattle.oc_model.specs.Heal.{epoch_in}
use Rattle.oc_model.specs.Node.{Control, Node}
use Rattle.oc_model.specs.Numbers.{number_end, has}
use Rattle.oc_model.specs.Plan.{Plan, begun, write}
use Rattle.oc_model.specs.Step.{step}
use Rattle.oc_model.specs.Table.{is_news}
use Rattle.oc_model.proofs.Lists.{all_append, all_weaker}
use Rattle.oc_model.proofs.Rules.{either, keeps_asked, keeps_checked_in}
use Rattle.oc_laws_tree.proofs.Asks.{raised_host, HasRisenOver, root_raised}
use Rattle.oc_laws_tree.proofs.CheckIns.{dry, dry_sends}
use Rattle.oc_laws_tree.proofs.Core.{Core}
use Rattle.oc_laws_tree.proofs.Line.{IsTop}
use Rattle.oc_laws_rest.proofs.Unasked.{IsStart, AreStarts, IsUnasked, message_starts, failure_starts, tick_starts}

-- what is known where the root may refuse
module _ (x : ℕ) (Free : Type 0) where
  -- it is no refusal, and no word that the sender is out of the tree
  abbrev pub IsWelcome : Body → Type 0
  IsWelcome (bodies.No seq why) = Free
  IsWelcome (bodies.LookIs is_in parent rate children) = is_in ≡ false → Free
  IsWelcome b = Unit {0}

  -- to x
  abbrev pub Welcomes : Message → Type 0
  Welcomes s = s.to ≡ x → IsWelcome s.body

  start_welcome : (b : Body) → IsStart b → IsWelcome b
  start_welcome (bodies.No seq why) is = absurd is
  start_welcome (bodies.LookIs is_in parent rate children) is = absurd is
  start_welcome b is = tt

  starts_welcome : (ms : List Message) → AreStarts ms → AllByRecursion Welcomes ms
  starts_welcome ms all = all_weaker (λ (s : Message). IsStart s.body) Welcomes (λ s is to. start_welcome s.body is) ms all

  abbrev All : Plan → Type 0
  All o = AllByRecursion Welcomes o.sends

  welcome_send : (o : Plan) (y : ℕ) (b : Body) → (y ≡ x → IsWelcome b) → All o → AllByRecursion Welcomes (o.sends ++ record { from = o.node.me; to = y; body = b } ∷ [])
  welcome_send o y b is h = all_append Welcomes o.sends (record { from = o.node.me; to = y; body = b } ∷ []) h (is, tt)

  -- Check-ins

  welcome_merges : (cs : List Cert) (o : Plan) → All o → All (merges_all cs o)
  welcome_merges [] o h = h
  welcome_merges (c ∷ cs) o h = welcome_merges cs (merges o c) (either (is_news o.node.kept.table c) All (write o (records.Entry c)) o h h)

  welcome_checked_in : (o : Plan) (y seq upto rate number clients : ℕ) (certs : List Cert) → All o → All (checked_in o y seq upto rate number clients certs)
  welcome_checked_in o y seq upto rate number clients certs h =
      let told : List Cert = life y seq o.node.me number clients ∷ certs in
      let merged : Plan = merges_all told o in
      either (has_lease o.node y seq) All (acknowledges merged y seq upto rate) (sends_rejoin o y seq)
      (welcome_send merged y (bodies.CheckAck seq upto (rank_or_last merged.node.kept.rank) merged.node.kept.ancestors) (λ _. tt) (welcome_merges told o h))
      (welcome_send o y (bodies.Rejoin seq) (λ _. tt) h)

  -- Asks

  welcome_adopts : (o : Plan) (y seq : ℕ) → All o → All (adopts o y seq)
  welcome_adopts o y seq h =
      let born : Cert = birth y seq o.node.me in
      let entered : Plan = write o (records.Entry born) in
      let yes : Body = bodies.Yes seq (rank_or_last o.node.kept.rank) o.node.kept.ancestors in
      either (has_lease o.node y seq) All (grants o y seq) (if is_news o.node.kept.table born then grants entered y seq else sends_rejoin o y seq) (welcome_send o y yes (λ _. tt) h)
      (either (is_news o.node.kept.table born) All (grants entered y seq) (sends_rejoin o y seq) (welcome_send entered y yes (λ _. tt) h) (welcome_send o y (bodies.Rejoin seq) (λ _. tt) h))

  welcome_answers : (why : Option Refusal) (o : Plan) (y seq : ℕ) → (y ≡ x → Free ⊎ (why ≡ None)) → All o → All (answers_ask why o y seq)
  welcome_answers None o y seq may h = welcome_adopts o y seq h
  welcome_answers (Some why) o y seq may h = welcome_send o y (bodies.No seq why) (λ e. ⊎_elim (λ free. free) (λ none. absurd cc) (may e)) h

  raised_sends : (n : Control) (y : ℕ) (r : Option Rank) → (raised_host n y r).sends ≡ []
  raised_sends n y r = by_raise _ where
    by_raise : (e : Option ℕ) → (if is_acting n.kept.mode && not (precedes (rank_or_last n.kept.rank) (rank_or_last r)) && not (y == n.me) then raises (begun n) e else begun n).sends ≡ []
    by_raise e = either (is_acting n.kept.mode && not (precedes (rank_or_last n.kept.rank) (rank_or_last r)) && not (y == n.me)) (λ (q : Plan). q.sends ≡ []) (raises (begun n) e) (begun n) (by_epoch e) refl where
      by_epoch : (f : Option ℕ) → (raises (begun n) f).sends ≡ []
      by_epoch None = refl
      by_epoch (Some f) = refl

  -- the root takes x in, whatever its rank
  abbrev pub TakesIn : Control → Type 0
  TakesIn n = (r : Option Rank) → epoch_in r < number_end → adoption_refusal (host (raised_host n x r).node x) x r ≡ None

  -- a message: where it is an ask of x, its epoch is not the last one
  abbrev pub MayAsk : ℕ → Body → Type 0
  MayAsk p (bodies.Ask seq r) = p ≡ x → epoch_in r < number_end
  MayAsk p b = Unit {0}

  pub message_welcomes : (n : Node) (s : Message) → n.control.kept.mode ≡ modes.Acting → Free ⊎ TakesIn n.control → MayAsk s.from s.body → AllByRecursion Welcomes (step n (Delivered s)).sends
  message_welcomes n s acts takes may = by_body s.body refl may where
    by_as : (b : Body) → s.body ≡ b → AllByRecursion Welcomes (step n (Delivered (record { from = s.from; to = s.to; body = b }))).sends → AllByRecursion Welcomes (step n (Delivered s)).sends
    by_as b e all = subst (λ (c : Body). AllByRecursion Welcomes (step n (Delivered (record { from = s.from; to = s.to; body = c }))).sends) (sym e) all

    other : (b : Body) → s.body ≡ b → IsUnasked b → AllByRecursion Welcomes (step n (Delivered s)).sends
    other b e is = starts_welcome (step n (Delivered s)).sends (message_starts n s (subst IsUnasked (sym e) is))

    by_body : (b : Body) → s.body ≡ b → MayAsk s.from b → AllByRecursion Welcomes (step n (Delivered s)).sends
    by_body bodies.Look e m = by_as bodies.Look e ((λ to off. absurd (true≢false (sym (ap in_tree acts) ∙ off))), tt)
    by_body (bodies.Ask seq r) e m = by_as (bodies.Ask seq r) e
        (subst (AllByRecursion Welcomes)
        (sym (dry_sends n (Delivered (record { from = s.from; to = s.to; body = bodies.Ask seq r })) (keeps_asked (shelf n.groups) (λ o. o.wants ≡ None) (dry (shelf n.groups)) (begun n.control) s.from seq r refl)))
        (welcome_answers (adoption_refusal (host (raised_host n.control s.from r).node s.from) s.from r) (raised_host n.control s.from r) s.from seq
        (λ here. ⊎_elim (λ free. inl free)
        (λ takes_in. inr (subst (λ (y : ℕ). adoption_refusal (host (raised_host n.control y r).node y) y r ≡ None) (sym here) (takes_in r (m here)))) takes)
        (subst (AllByRecursion Welcomes) (sym (raised_sends n.control s.from r)) tt)))
    by_body (bodies.CheckIn seq upto rate number clients certs) e m = by_as (bodies.CheckIn seq upto rate number clients certs) e
        (subst (AllByRecursion Welcomes)
        (sym (dry_sends n (Delivered (record { from = s.from; to = s.to; body = bodies.CheckIn seq upto rate number clients certs }))
        (keeps_checked_in (shelf n.groups) (λ o. o.wants ≡ None) (dry (shelf n.groups)) (begun n.control) s.from seq upto rate number clients certs refl)))
        (welcome_checked_in (begun n.control) s.from seq upto rate number clients certs tt))
    by_body (bodies.LookIs is_in parent rate children) e m = other (bodies.LookIs is_in parent rate children) e tt
    by_body (bodies.Yes seq rank ancestors) e m = other (bodies.Yes seq rank ancestors) e tt
    by_body (bodies.No seq why) e m = other (bodies.No seq why) e tt
    by_body (bodies.CheckAck seq upto rank ancestors) e m = other (bodies.CheckAck seq upto rank ancestors) e tt
    by_body (bodies.Rejoin seq) e m = other (bodies.Rejoin seq) e tt
    by_body (bodies.Fetch have) e m = other (bodies.Fetch have) e tt
    by_body (bodies.Chunk g start bytes last) e m = other (bodies.Chunk g start bytes last) e tt

  pub failure_welcomes : (n : Node) (q : ℕ) → AllByRecursion Welcomes (step n (Unreachable q)).sends
  failure_welcomes n q = starts_welcome (step n (Unreachable q)).sends (failure_starts n q)

  pub tick_welcomes : (n : Node) (t : ℕ) → AllByRecursion Welcomes (step n (Tick t)).sends
  tick_welcomes n t = starts_welcome (step n (Tick t)).sends (tick_starts n t)

-- The root

-- a node that acts as root, of which no member is a child, takes x in
pub takes_in : (n : Control) (x : ℕ) → n.kept.mode ≡ modes.Acting → n.kept.ancestors ≡ [] → IsTop n.kept.rank → (x ≡ n.me → ⊥) → chain_child n.kept.table n.me n.chain x ≡ None
    → (r : Option Rank) → epoch_in r < number_end → adoption_refusal (host (raised_host n x r).node x) x r ≡ None
takes_in n x acts none top other free r room = refusal where
  last_epoch : (q : Option Rank) → (rank_or_last q).epoch ≡ epoch_in q
  last_epoch None = refl
  last_epoch (Some q) = refl

  o : Plan
  o = raised_host n x r

  risen : HasRisenOver n r (epoch_in n.kept.rank + (rank_or_last r).epoch + 1) (raised_host n x r)
  risen = root_raised n x r (epoch_in n.kept.rank + (rank_or_last r).epoch + 1) (ap is_acting acts) top other (omega (arith, room, last_epoch r)) (omega arith) (omega arith)

  me : (raised_host n x r).node.me ≡ n.me
  me = ap (λ (k : Core). k.me) risen.raised.core

  chain : (raised_host n x r).node.chain ≡ n.chain
  chain = ap (λ (k : Core). k.chain) risen.raised.core

  mode : (raised_host n x r).node.kept.mode ≡ modes.Acting
  mode = ap (λ (k : Core). k.mode) risen.raised.core ∙ acts

  ancestors : (raised_host n x r).node.kept.ancestors ≡ []
  ancestors = ap (λ (k : Core). k.ancestors) risen.raised.core ∙ none

  shallow : nat_le MAX_DEPTH (rank_or_last (raised_host n x r).node.kept.rank).depth ≡ false
  shallow = ap (λ (q : Option Rank). nat_le MAX_DEPTH (rank_or_last q).depth) risen.top.1 ∙ ap (nat_le MAX_DEPTH) risen.top.2

  no_child : chain_child (raised_host n x r).node.kept.table (raised_host n x r).node.me (raised_host n x r).node.chain x ≡ None
  no_child = ap (λ (t : List Cert). chain_child t (raised_host n x r).node.me (raised_host n x r).node.chain x) risen.raised.rest.table ∙ (ap₂ (λ (y c : ℕ). chain_child n.kept.table y c x) me chain ∙ free)

  refusal : adoption_refusal (host (raised_host n x r).node x) x r ≡ None
  refusal =
      let k : Control = (raised_host n x r).node in
      let own : Rank = rank_or_last k.kept.rank in
      let line : Option Refusal = option_or (chain_refusal (host k x) x (chain_child k.kept.table k.me k.chain x)) (rank_refusal own r) in
      ap (λ b. if b then Some refusals.Own else if not (in_tree k.kept.mode) then Some refusals.NotJoined else if has k.kept.ancestors x then Some refusals.Ancestor else if nat_le MAX_DEPTH own.depth then Some refusals.Depth else line) (ne_eqb x k.me (λ e. other (e ∙ me)))
      ∙ (ap (λ b. if not b then Some refusals.NotJoined else if has k.kept.ancestors x then Some refusals.Ancestor else if nat_le MAX_DEPTH own.depth then Some refusals.Depth else line) (ap in_tree mode)
      ∙ (ap (λ b. if b then Some refusals.Ancestor else if nat_le MAX_DEPTH own.depth then Some refusals.Depth else line) (ap (λ (xs : List ℕ). has xs x) ancestors)
      ∙ (ap (λ b. if b then Some refusals.Depth else line) shallow
      ∙ (ap (λ c. option_or (chain_refusal (host k x) x c) (rank_refusal own r)) no_child ∙ ap (λ b. if b then None else Some refusals.Rank) risen.above))))
