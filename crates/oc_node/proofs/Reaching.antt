-- A node as inputs and starts leave it.
use Rattle.std.proofs.Common.{◌≡◌, ℕ, Bool, ◌+◌, ◌<◌, ◌≤◌, Option, None, ◌⊎◌, List, [], ◌∷◌, length, replicate, refl, ap, sym, subst, ◌∙◌, arith}
use Rattle.std.specs.List.{AllByRecursion}
use Rattle.std.proofs.lemmas.List.{length-replicate}
use Rattle.oc_base.specs.Lawful.{IsNode}
use Rattle.oc_base.specs.Shelves.{IsShelf}
use Rattle.oc_base.specs.declared.limits.TheConstants.{MAX_AREA, MAX_LOG_LENGTH, MAX_FRAME_RECORDS}
use Rattle.oc_base.specs.declared.shelf.Shelf.{Shelf}
use Rattle.oc_model.specs.declared.input.Input.{Input}
use Rattle.oc_model.specs.declared.record.Record.{Record}
use Rattle.oc_model.specs.Lawful.{IsHeader, IsInput, AreRecords}
use Rattle.oc_base.specs.declared.group.Group.{Group}
use Rattle.oc_base.specs.Groups.{shelf}
use Rattle.oc_model.specs.Node.{Header, Control, Durable, Node, new_control, new_durable}
use Rattle.oc_model.specs.Plan.{Plan}
use Rattle.oc_model.specs.Records.{folded}
use Rattle.oc_model.specs.Step.{plan}
use Rattle.oc_laws_step.specs.Frames.{FitsFrame}
use Rattle.oc_laws_step.specs.LawfulNode.{IsLawfulControl, IsLawfulNode}
use Rattle.oc_laws_step.specs.Sound.{IsSound}
use Rattle.oc_laws_step.proofs.LawfulSteps.{lawful_fits, lawful_new, lawful_planned}
use Rattle.oc_laws_step.proofs.Soundness.{sound_new, sound_planned}
use Rattle.oc_laws_step.proofs.Steps.{writes}
use Rattle.oc_node.specs.Areas.{with_areas}
use Rattle.oc_state.specs.DurableView.{IsKept, brought_by}
use Rattle.oc_state.proofs.Folding.{brought_most}
use Rattle.oc_step.specs.Applying.{CanApply, HaveRoom}
use Rattle.oc_state.specs.declared.volatile.Volatile.{Volatile}
use Rattle.oc_step.specs.NodeView.{NodeView, IsReached, control_of}
use Rattle.oc_step.specs.Planned.{PlanView, control_after, planned}
use Rattle.oc_state.specs.ListUpdates.{IsListUpdate}
use Rattle.oc_state.specs.Volatile.{soft_of, new_volatile}

-- a new node
pub reached_new : (h : Header) (x : ℕ) → IsHeader h → IsNode h.nodes x → IsReached (new_control h x)
reached_new h x header me = record { header = header; me = me; sound = sound_new h x; lawful = (lawful_new h x header me).control }

-- the same for the parts of a new node
pub reached_made : (me nodes chain chunk : ℕ) (areas : List ℕ) (kept : Durable) (v : Volatile) (tries : List ℕ) (leases : List (Option ℕ)) (rates counts : List ℕ) → IsHeader (record { nodes = nodes; chain = chain; chunk = chunk; areas = areas }) → IsNode nodes me → kept ≡ new_durable nodes → v ≡ new_volatile → tries ≡ [] → leases ≡ replicate nodes None → rates ≡ replicate nodes 0 → counts ≡ replicate nodes 0 → IsReached (control_of me nodes chain chunk areas kept (soft_of v tries) leases rates counts)
reached_made me nodes chain chunk areas kept v tries leases rates counts header here k s t l r c =
    let made : IsReached (control_of me nodes chain chunk areas (new_durable nodes) (soft_of new_volatile []) (replicate nodes None) (replicate nodes 0) (replicate nodes 0)) = reached_new (record { nodes = nodes; chain = chain; chunk = chunk; areas = areas }) me header here in
    rw (k, s, t, l, r, c) made

-- the durable state of a reached node is within its ranges
pub reached_kept : (n : Control) → IsReached n → IsKept n.nodes n.kept
reached_kept n reached = record { few = reached.header.few; sound = reached.sound.kept; lawful = reached.lawful.kept }

-- a reached node with another durable state within its ranges
pub reached_with : (n : Control) (d : Durable) → IsReached n → IsKept n.nodes d → IsReached (record n { kept = d })
reached_with n d reached kept = record {
  header = reached.header;
  me = reached.me;
  sound = record { kept = kept.sound; leases = reached.sound.leases; rates = reached.sound.rates; counts = reached.sound.counts };
  lawful = record { few = reached.lawful.few; among = reached.lawful.among; me = reached.lawful.me; chain = reached.lawful.chain; chunk = reached.lawful.chunk; kept = kept.lawful; soft = reached.lawful.soft; rates = reached.lawful.rates };
}

-- a reached node with other areas within their range, as many as there are nodes
pub reached_areas : (areas : List ℕ) (n : Control) → IsReached n → length areas ≡ n.nodes → AllByRecursion (λ a. a ≤ MAX_AREA) areas → IsReached (with_areas areas n)
reached_areas areas n reached many bytes = record {
  header = record {
    some = reached.header.some;
    few = reached.header.few;
    chain = reached.header.chain;
    short = reached.header.short;
    within = reached.header.within;
    chunk = reached.header.chunk;
    fits = reached.header.fits;
    areas = many;
    bytes = bytes;
  };
  me = reached.me;
  sound = record { kept = reached.sound.kept; leases = reached.sound.leases; rates = reached.sound.rates; counts = reached.sound.counts };
  lawful = record {
    few = reached.lawful.few;
    among = reached.lawful.among;
    me = reached.lawful.me;
    chain = reached.lawful.chain;
    chunk = reached.lawful.chunk;
    kept = reached.lawful.kept;
    soft = reached.lawful.soft;
    rates = reached.lawful.rates;
  };
}

-- the node after a step
pub reached_step : (n : Control) (lines : List Shelf) (i : Input) (p : PlanView) → IsReached n → IsShelf lines → IsInput n.nodes n.me i → n.kept.log.length ≤ MAX_LOG_LENGTH → planned n p ≡ plan n lines i → IsReached (control_after n p)
reached_step n lines i p reached shelf fair short made =
    let same : control_after n p ≡ (plan n lines i).node = ap (λ (o : Plan). o.node) made in
    record {
      header = reached.header;
      me = reached.me;
      sound = subst (λ (m : Control). IsSound m) (sym same) (sound_planned n lines i reached.sound);
      lawful = subst (λ (m : Control). IsLawfulControl n.nodes m) (sym same) (lawful_planned n.nodes n lines i fair shelf short reached.lawful).node;
    }

-- the records of a step are lawful
pub records_lawful : (n : Control) (lines : List Shelf) (i : Input) (p : PlanView) → IsReached n → IsShelf lines → IsInput n.nodes n.me i → n.kept.log.length ≤ MAX_LOG_LENGTH → length p.records ≤ MAX_FRAME_RECORDS → planned n p ≡ plan n lines i → AreRecords n.nodes p.records
records_lawful n lines i p reached shelf fair short few made =
    let same : p.records ≡ (plan n lines i).records = ap (λ (o : Plan). o.records) made in
    subst (λ (rs : List Record). AreRecords n.nodes rs) (sym same) ((lawful_planned n.nodes n lines i fair shelf short reached.lawful).records (subst (λ (rs : List Record). length rs ≤ MAX_FRAME_RECORDS) same few))

-- A node with groups of these lengths, of which the laws of a step speak

abbrev groups_of : List Shelf → List Group
groups_of [] = []
groups_of (l ∷ ls) = record { name = l.group; bytes = replicate l.held 0; sealed = l.sealed } ∷ groups_of ls

abbrev line : List ℕ → ℕ → Bool → Shelf
line g held sealed = record { group = g; held = held; sealed = sealed }

shelf_again : (ls : List Shelf) → shelf (groups_of ls) ≡ ls
shelf_again [] = refl
shelf_again (l ∷ ls) = ap (λ (n : ℕ). line l.group n l.sealed ∷ shelf (groups_of ls)) (length-replicate l.held 0) ∙ ap (λ (ks : List Shelf). l ∷ ks) (shelf_again ls)

abbrev node_of : Control → List Shelf → Node
node_of n ls = record { control = n; groups = groups_of ls }

-- the records fit a frame, since those of a step do
pub frame_fits : (n : Control) (lines : List Shelf) (i : Input) (p : PlanView) → IsReached n → IsShelf lines → IsInput n.nodes n.me i → planned n p ≡ plan n lines i → FitsFrame p.records
frame_fits n lines i p reached fair input made =
    let lawful : IsLawfulNode n.nodes (node_of n lines) = record { control = reached.lawful; shelf = subst (λ (ls : List Shelf). IsShelf ls) (sym (shelf_again lines)) fair } in
    let fits : FitsFrame (plan n (shelf (groups_of lines)) i).records = lawful_fits n.nodes (node_of n lines) i input lawful in
    let same : p.records ≡ (plan n lines i).records = ap (λ (o : Plan). o.records) made in
    subst (λ (rs : List Record). FitsFrame rs) (ap (λ (ls : List Shelf). (plan n ls i).records) (shelf_again lines) ∙ sym same) fits

-- the plan writes records or keeps content, never both, as the step does
pub one_file : (n : Control) (lines : List Shelf) (i : Input) (p : PlanView) → planned n p ≡ plan n lines i → (p.keeps ≡ None) ⊎ (p.records ≡ [])
one_file n lines i p made = subst (λ (o : Plan). (o.keeps ≡ None) ⊎ (o.records ≡ [])) (sym made) (writes n lines i).one

-- the durable parts after the plan are those that its records give
pub plan_folds : (n : Control) (lines : List Shelf) (i : Input) (p : PlanView) → planned n p ≡ plan n lines i → (plan n lines i).node.kept ≡ folded n.kept p.records
plan_folds n lines i p made = sym (ap (λ (o : Plan). o.node.kept) made)

-- a plan of a step can be applied, where there is room for its table and all its records
pub plan_applies : (v w : NodeView) (lines : List Shelf) (i : Input) (p : PlanView) → IsReached v.control → IsShelf lines → IsInput v.control.nodes v.control.me i → planned v.control p ≡ plan v.control lines i → AllByRecursion (IsListUpdate v.control.nodes) p.updates → FitsFrame p.records → v.control.kept.log.length ≤ MAX_LOG_LENGTH → w.control ≡ v.control → length w.control.kept.log.waiting + (length w.control.kept.table + brought_by p.records) ≤ w.room → (0 < length p.updates → HaveRoom v.control.nodes w.lists) → CanApply w p
plan_applies v w lines i p reached fair input made updates fits short same room lists = rw same (record {
  reached = reached_step v.control lines i p reached fair input short made;
  records = records_lawful v.control lines i p reached fair input short fits.records made;
  updates = updates;
  room = (
    record {
      waiting = omega (arith, rw same at room);
      rows = omega (arith, rw same at room);
      places = omega (arith, short, fits.records, brought_most p.records);
      based = omega (arith, fits.records, brought_most p.records);
    },
    lists,
  );
})
