-- A lawful input leaves a lawful node lawful, and its records and messages are lawful.
use Rattle.std.proofs.Common.{◌≡◌, ℕ, zero, suc, replicate, ◌≤◌, Bool, Option, Some, None, List, [], ◌∷◌, length, drop, ◌⊎◌, inl, inr, ⊎_elim, refl, ap, sym, subst, arith, length-take}
use Rattle.std.specs.List.{AllByRecursion}
use Rattle.oc_base.specs.declared.shelf.Shelf.{Shelf}
use Rattle.oc_base.specs.Names.{IsGroupName}
use Rattle.oc_base.specs.declared.group.Group.{Group}
use Rattle.oc_model.specs.declared.input.Input.{Input}
use Rattle.oc_model.specs.declared.input.Input.TheVariants as inputs
use Rattle.oc_model.specs.declared.message.Body.{Body}
use Rattle.oc_model.specs.declared.message.Body.TheVariants as bodies
use Rattle.oc_model.specs.declared.message.Message.{Message}
use Rattle.oc_model.specs.declared.record.Record.{Record}
use Rattle.oc_model.specs.declared.want.Want.{Want}
use Rattle.oc_model.specs.Content.{answers_fetch}
use Rattle.oc_base.specs.Groups.{group_or_empty, shelf}
use Rattle.oc_base.specs.declared.limits.TheConstants.{MAX_CHUNK_BYTES, MAX_LOG_LENGTH}
use Rattle.oc_model.specs.Lawful.{IsBody, IsMessage, IsRecord, IsInput, IsHeader}
use Rattle.oc_base.specs.Lawful.{IsNode, IsRate}
use Rattle.oc_base.specs.Shelves.{IsShelf}
use Rattle.oc_model.specs.Node.{Control, Durable, Node, Header, new_durable, new_node, started_with, restarted}
use Rattle.oc_model.specs.Records.{fold_one, folded}
use Rattle.oc_model.specs.Plan.{Plan, begun}
use Rattle.oc_model.specs.Shelves.{next_behind}
use Rattle.oc_model.specs.Step.{received, plan, Piece, piece_in, piece_of, grown, kept_at, bytes_wanted, fill_body, fill, filled, step}
use Rattle.oc_model.proofs.Groups.{group_or_empty-name}
use Rattle.oc_model.proofs.Limits.{all-with_group}
use Rattle.oc_model.proofs.Lists.{all_weaker}
use Rattle.oc_model.proofs.Outcomes.{step_leaves}
use Rattle.oc_laws_step.specs.Frames.{HasFewCerts, IsFew, IsSmall, FitsFrame}
use Rattle.oc_laws_step.specs.LawfulNode.{IsLawfulDurable, IsLawfulWant, IsLawfulControl, IsLawfulNode, IsLawfulPlan, IsLawfulOutcome}
use Rattle.oc_laws_step.proofs.Adopts.{goes_asked}
use Rattle.oc_laws_step.proofs.Asks.{goes_took_yes, goes_took_no, goes_unreachable, goes_relocate}
use Rattle.oc_laws_step.proofs.Checks.{goes_checks, goes_tick, goes_checked_in, goes_took_ack, goes_took_rejoin}
use Rattle.oc_laws_step.proofs.LawfulAdopts.{lawful_asked}
use Rattle.oc_laws_step.proofs.LawfulAsks.{lawful_took_yes, lawful_took_no, lawful_unreachable, lawful_relocate}
use Rattle.oc_laws_step.proofs.LawfulChecks.{lawful_checks, lawful_tick, lawful_checked_in, lawful_took_ack, lawful_took_rejoin}
use Rattle.oc_laws_step.proofs.LawfulContents.{lawful_published, lawful_sealed_at, lawful_pulled, lawful_fetched, lawful_took_chunk}
use Rattle.oc_laws_step.proofs.LawfulFolds.{lawful_begun, lawful_new_durable, lawful_fold_one}
use Rattle.oc_laws_step.proofs.LawfulLooks.{lawful_looked, lawful_sees}
use Rattle.oc_laws_step.proofs.LawfulServes.{lawful_client, lawful_measured}
use Rattle.oc_laws_step.proofs.Lines.{AreNamed, groups_named, shelf_limits, limits_shelf}
use Rattle.oc_laws_step.proofs.Looks.{goes_looked, goes_sees}
use Rattle.oc_laws_step.proofs.Ranges.{all_map, rows_few}
use Rattle.oc_laws_step.proofs.Serves.{goes_client, goes_measured}
use Rattle.oc_laws_step.proofs.Soundness.{fits}
use Rattle.oc_laws_step.proofs.Steps.{goes_pulled}

-- The control step

lawful_received : (nodes : ℕ) (o : Plan) (lines : List Shelf) (p : ℕ) (b : Body) → IsNode nodes p → IsBody nodes b → IsShelf lines → IsLawfulPlan nodes o → IsLawfulPlan nodes (received o lines p b)
lawful_received nodes o lines p bodies.Look from body ls ok = lawful_looked nodes o p from ok
lawful_received nodes o lines p (bodies.LookIs is_in parent rate children) from body ls ok =
    lawful_sees nodes o p (record { in_tree = is_in; parent = parent; rate = rate; children = children }) from (record { parent = body.0; children = body.2 }) ok
lawful_received nodes o lines p (bodies.Ask seq rank) from body ls ok = lawful_asked nodes o p seq rank from body.0 body.1 ok
lawful_received nodes o lines p (bodies.Yes seq rank ancestors) from body ls ok = lawful_took_yes nodes o p seq rank ancestors from body.1 body.2.0 ok
lawful_received nodes o lines p (bodies.No seq why) from body ls ok = lawful_took_no nodes o p seq why body.1 ok
lawful_received nodes o lines p (bodies.CheckIn seq upto rate number clients certs) from body ls ok = lawful_checked_in nodes o p seq upto rate number clients certs from body.0 body.1 body.2 body.3 body.4 body.5 ok
lawful_received nodes o lines p (bodies.CheckAck seq upto rank ancestors) from body ls ok = lawful_took_ack nodes o p seq upto rank ancestors from body.2 body.3.0 ok
lawful_received nodes o lines p (bodies.Rejoin seq) from body ls ok = lawful_took_rejoin nodes o p seq from ok
lawful_received nodes o lines p (bodies.Fetch have) from body ls ok = lawful_fetched nodes o lines p have from ls body ok
lawful_received nodes o lines p (bodies.Chunk g start bytes last) from body ls ok = lawful_took_chunk nodes o lines p g start bytes last from ls body.0 ok

pub lawful_planned : (nodes : ℕ) (n : Control) (lines : List Shelf) (i : Input) → IsInput nodes n.me i → IsShelf lines → n.kept.log.length ≤ MAX_LOG_LENGTH → IsLawfulControl nodes n → IsLawfulPlan nodes (plan n lines i)
lawful_planned nodes n lines (inputs.Tick t) fair ls short ok = lawful_tick nodes (begun n) lines t fair ls (lawful_begun nodes n short ok)
lawful_planned nodes n lines inputs.CheckNow fair ls short ok = lawful_checks nodes (begun n) (lawful_begun nodes n short ok)
lawful_planned nodes n lines (inputs.Relocate p) fair ls short ok = lawful_relocate nodes (begun n) p fair (lawful_begun nodes n short ok)
lawful_planned nodes n lines (inputs.Unreachable p) fair ls short ok = lawful_unreachable nodes (begun n) p (lawful_begun nodes n short ok)
lawful_planned nodes n lines (inputs.Pull p) fair ls short ok = lawful_pulled nodes (begun n) lines p fair ls (lawful_begun nodes n short ok)
lawful_planned nodes n lines (inputs.Measured p rate hops) fair ls short ok = lawful_measured nodes (begun n) p rate hops fair.0 fair.1 fair.2 (lawful_begun nodes n short ok)
lawful_planned nodes n lines (inputs.Publish g bytes) fair ls short ok = lawful_published nodes (begun n) lines g bytes (lawful_begun nodes n short ok)
lawful_planned nodes n lines (inputs.Seal g) fair ls short ok = lawful_sealed_at nodes (begun n) lines g (lawful_begun nodes n short ok)
lawful_planned nodes n lines (inputs.Client area start g) fair ls short ok = lawful_client nodes (begun n) lines area start g (lawful_begun nodes n short ok)
lawful_planned nodes n lines (inputs.Delivered m) fair ls short ok = lawful_received nodes (begun n) lines m.from m.body fair.0.from fair.0.body ls (lawful_begun nodes n short ok)

-- Content

-- an input that brings content names its group
abbrev KeepsOrNames : Control → List Shelf → Input → Type 0
KeepsOrNames n lines i = ((plan n lines i).keeps ≡ None) ⊎ IsGroupName (piece_of i).group

fetch_keeps : (n : Control) (p : ℕ) (have : List Shelf) (l : Option Shelf) → (answers_fetch (begun n) p have l).keeps ≡ None
fetch_keeps n p have None = refl
fetch_keeps n p have (Some l) = refl

names_received : (nodes : ℕ) (n : Control) (lines : List Shelf) (m : Message) (b : Body) → IsBody nodes b → ((received (begun n) lines m.from b).keeps ≡ None) ⊎ IsGroupName (piece_in b).group
names_received nodes n lines m bodies.Look body = inl (goes_looked (begun n) m.from).by.keeps
names_received nodes n lines m (bodies.LookIs is_in parent rate children) body = inl (goes_sees (begun n) m.from (record { in_tree = is_in; parent = parent; rate = rate; children = children })).by.keeps
names_received nodes n lines m (bodies.Ask seq rank) body = inl (goes_asked (begun n) m.from seq rank).by.keeps
names_received nodes n lines m (bodies.Yes seq rank ancestors) body = inl (goes_took_yes (begun n) m.from seq rank ancestors).by.keeps
names_received nodes n lines m (bodies.No seq why) body = inl (goes_took_no (begun n) m.from seq why).by.keeps
names_received nodes n lines m (bodies.CheckIn seq upto rate number clients certs) body = inl (goes_checked_in (begun n) m.from seq upto rate number clients certs).by.keeps
names_received nodes n lines m (bodies.CheckAck seq upto rank ancestors) body = inl (goes_took_ack (begun n) m.from seq upto rank ancestors).by.keeps
names_received nodes n lines m (bodies.Rejoin seq) body = inl (goes_took_rejoin (begun n) m.from seq).by.keeps
names_received nodes n lines m (bodies.Fetch have) body = inl (fetch_keeps n m.from have (next_behind n.chunk have lines))
names_received nodes n lines m (bodies.Chunk g start bytes last) body = inr body.0

keeps_or_names : (nodes : ℕ) (n : Control) (lines : List Shelf) (i : Input) → IsInput nodes n.me i → KeepsOrNames n lines i
keeps_or_names nodes n lines (inputs.Tick t) fair = inl (goes_tick (begun n) lines t).by.keeps
keeps_or_names nodes n lines inputs.CheckNow fair = inl (goes_checks (begun n)).by.keeps
keeps_or_names nodes n lines (inputs.Relocate p) fair = inl (goes_relocate (begun n) p).by.keeps
keeps_or_names nodes n lines (inputs.Unreachable p) fair = inl (goes_unreachable (begun n) p).by.keeps
keeps_or_names nodes n lines (inputs.Pull p) fair = inl (goes_pulled (begun n) lines p).by.keeps
keeps_or_names nodes n lines (inputs.Measured p rate hops) fair = inl (goes_measured (begun n) p rate hops).by.keeps
keeps_or_names nodes n lines (inputs.Publish g bytes) fair = inr fair.0
keeps_or_names nodes n lines (inputs.Seal g) fair = inr fair
keeps_or_names nodes n lines (inputs.Client area start g) fair = inl (goes_client (begun n) lines area start g).by.keeps
keeps_or_names nodes n lines (inputs.Delivered m) fair = names_received nodes n lines m m.body fair.0.body

-- groups keep lawful names
named_at : (at : Option ℕ) (ks : List Group) (p : Piece) (closes : Bool) → IsGroupName p.group → AreNamed ks → AreNamed (kept_at at ks p closes)
named_at None ks p closes name named = named
named_at (Some at) ks p closes name named =
    all-with_group (λ k. IsGroupName k.name) (grown (group_or_empty p.group ks) at p.bytes closes) ks (subst IsGroupName (sym (group_or_empty-name p.group ks)) name) named

named_after : (nodes : ℕ) (n : Node) (i : Input) → IsInput nodes n.control.me i → AreNamed n.groups → AreNamed (step n i).node.groups
named_after nodes n i fair named = ⊎_elim
    (λ none. subst AreNamed (sym (ap (λ at. kept_at at n.groups (piece_of i) (plan n.control (shelf n.groups) i).seals) none)) named)
    (λ name. named_at (plan n.control (shelf n.groups) i).keeps n.groups (piece_of i) (plan n.control (shelf n.groups) i).seals name named)
    (keeps_or_names nodes n.control (shelf n.groups) i fair)

-- Messages with their bytes

body_filled : (nodes : ℕ) (bytes : List ℕ) (b : Body) → length bytes ≤ MAX_CHUNK_BYTES → IsBody nodes b → IsBody nodes (fill_body bytes b)
body_filled nodes bytes (bodies.Chunk g start none last) few here = (here.0, here.1, few)
body_filled nodes bytes bodies.Look few here = here
body_filled nodes bytes (bodies.LookIs is_in parent rate children) few here = here
body_filled nodes bytes (bodies.Ask seq rank) few here = here
body_filled nodes bytes (bodies.Yes seq rank ancestors) few here = here
body_filled nodes bytes (bodies.No seq why) few here = here
body_filled nodes bytes (bodies.CheckIn seq upto rate number clients certs) few here = here
body_filled nodes bytes (bodies.CheckAck seq upto rank ancestors) few here = here
body_filled nodes bytes (bodies.Rejoin seq) few here = here
body_filled nodes bytes (bodies.Fetch have) few here = here

sends_filled : (nodes : ℕ) (w : Option Want) (ks : List Group) (ms : List Message) → IsLawfulWant w → AllByRecursion (IsMessage nodes) ms → AllByRecursion (IsMessage nodes) (filled w ks ms)
sends_filled nodes None ks ms few all = all
sends_filled nodes (Some w) ks ms few all =
    all_map (IsMessage nodes) (fill (bytes_wanted ks w)) ms
    (all_weaker (IsMessage nodes) (λ m. IsMessage nodes (fill (bytes_wanted ks w) m))
    (λ m h. record { from = h.from; to = h.to; body = body_filled nodes (bytes_wanted ks w) m.body (omega (arith, few, length-take w.count (drop w.start (group_or_empty w.group ks).bytes))) h.body }) ms all)

-- Frames

-- a lawful node's table has no more rows than there are nodes
small_lawful : (nodes : ℕ) (n : Control) → IsLawfulControl nodes n → IsSmall n
small_lawful nodes n ok = record { nodes = omega (arith, ok.among, ok.few); table = omega (arith, ok.among, rows_few nodes n.kept.table ok.kept.sorted ok.kept.table) }

few_body : (nodes : ℕ) (b : Body) → IsBody nodes b → HasFewCerts b
few_body nodes (bodies.CheckIn seq upto rate number clients certs) here = here.6
few_body nodes b here = tt

few_lawful : (nodes me : ℕ) (i : Input) → IsInput nodes me i → IsFew i
few_lawful nodes me (inputs.Delivered m) fair = few_body nodes m.body fair.0.body
few_lawful nodes me i fair = tt

-- the records of a lawful input fit a frame
pub lawful_fits : (nodes : ℕ) (n : Node) (i : Input) → IsInput nodes n.control.me i → IsLawfulNode nodes n → FitsFrame (step n i).records
lawful_fits nodes n i fair ok = fits n i (small_lawful nodes n.control ok.control) (few_lawful nodes n.control.me i fair)

-- The step

pub lawful_stepped : (nodes : ℕ) (n : Node) (i : Input) → IsInput nodes n.control.me i → n.control.kept.log.length ≤ MAX_LOG_LENGTH → IsLawfulNode nodes n → IsLawfulOutcome nodes (step n i)
lawful_stepped nodes n i fair short ok =
    let planned = lawful_planned nodes n.control (shelf n.groups) i fair ok.shelf short ok.control in
    let few = (lawful_fits nodes n i fair ok).records in
    record {
      node = record {
        control = planned.node;
        shelf = limits_shelf (step n i).node.groups ((step_leaves n i).limits (shelf_limits n.groups ok.shelf)) (named_after nodes n i fair (groups_named n.groups ok.shelf.0));
      };
      records = planned.records few;
      sends = sends_filled nodes (plan n.control (shelf n.groups) i).wants n.groups (plan n.control (shelf n.groups) i).sends planned.wants (planned.sends few);
    }

-- The beginning of a step

all_replicate : {X : Type 0} (P : X → Type 0) (n : ℕ) (x : X) → P x → AllByRecursion P (replicate n x)
all_replicate P zero x here = tt
all_replicate P (suc n) x here = (here, all_replicate P n x here)

pub lawful_started : (h : Header) (x : ℕ) (d : Durable) → IsHeader h → IsNode h.nodes x → IsLawfulDurable h.nodes d → IsLawfulControl h.nodes (started_with h x d)
lawful_started h x d header me ok = record {
  few = header.few;
  among = refl;
  me = me;
  chain = header.within;
  chunk = header.fits;
  kept = ok;
  soft = record { clock = omega arith; tries = tt; search = tt };
  rates = all_replicate IsRate h.nodes 0 (omega arith);
}

pub lawful_new : (h : Header) (x : ℕ) → IsHeader h → IsNode h.nodes x → IsLawfulNode h.nodes (new_node h x)
lawful_new h x header me = record { control = lawful_started h x (new_durable h.nodes) header me (lawful_new_durable h.nodes h.nodes); shelf = (tt, omega arith) }

pub lawful_restarted : (nodes : ℕ) (n : Node) → IsLawfulNode nodes n → IsLawfulNode nodes (restarted n)
lawful_restarted nodes n ok = record {
  control = record {
    few = ok.control.few;
    among = ok.control.among;
    me = ok.control.me;
    chain = ok.control.chain;
    chunk = ok.control.chunk;
    kept = ok.control.kept;
    soft = record { clock = omega arith; tries = tt; search = tt };
    rates = all_replicate IsRate n.control.nodes 0 (omega arith);
  };
  shelf = ok.shelf;
}

-- any lawful records, as those of a file, lead to a lawful state
pub lawful_folded : (nodes : ℕ) (d : Durable) (rs : List Record) → AllByRecursion (IsRecord nodes) rs → IsLawfulDurable nodes d → IsLawfulDurable nodes (folded d rs)
lawful_folded nodes d [] all ok = ok
lawful_folded nodes d (r ∷ rs) all ok = lawful_folded nodes (fold_one d r) rs all.1 (lawful_fold_one nodes d r all.0 ok)
