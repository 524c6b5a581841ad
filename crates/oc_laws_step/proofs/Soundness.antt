-- A new node is sound and stays sound; its records fit a frame.
use Rattle.std.proofs.Common.{◌≡◌, ℕ, ◌+◌, ◌*◌, ◌≤◌, None, List, [], ◌∷◌, length, refl, sym, ◌∙◌, arith}
use Rattle.std.specs.List.{AllByRecursion}
use Rattle.std.proofs.lemmas.List.{length-replicate}
use Rattle.oc_base.specs.declared.shelf.Shelf.{Shelf}
use Rattle.oc_model.specs.declared.input.Input.{Input}
use Rattle.oc_model.specs.declared.input.Input.TheVariants as inputs
use Rattle.oc_model.specs.declared.message.Body.{Body}
use Rattle.oc_model.specs.declared.message.Body.TheVariants as bodies
use Rattle.oc_model.specs.declared.record.Record.{Record}
use Rattle.oc_model.specs.declared.record.Record.TheVariants as records
use Rattle.oc_base.specs.Groups.{shelf}
use Rattle.oc_model.specs.Node.{Header, Node, Control, Durable, new_durable, new_node, started_with, restarted, no_reading}
use Rattle.oc_model.specs.Step.{plan, step}
use Rattle.oc_laws_step.specs.Frames.{HasFewCerts, IsFew, IsSmall, FitsFrame}
use Rattle.oc_laws_step.specs.Sizes.{total, size_of}
use Rattle.oc_laws_step.specs.Sound.{IsSound, IsSoundDurable, IsSoundRecord}
use Rattle.oc_laws_step.proofs.Folds.{sound_folded}
use Rattle.oc_laws_step.proofs.Goes.{as_entry, as_other}
use Rattle.oc_laws_step.proofs.Steps.{writes, most_entries, most_entries_of}

-- Soundness

-- a new node's durable state
sound_new_durable : (nodes : ℕ) → IsSoundDurable nodes (new_durable nodes)
sound_new_durable nodes = record { table = tt; mode = refl; own = λ e. refl; ancestors = omega arith; measures = length-replicate nodes no_reading }

-- a node that starts with a sound state is sound
pub sound_started : (h : Header) (x : ℕ) (d : Durable) → IsSoundDurable h.nodes d → IsSound (started_with h x d)
sound_started h x d sound = record { kept = sound; leases = length-replicate h.nodes None; rates = length-replicate h.nodes 0; counts = length-replicate h.nodes 0 }

pub sound_new : (h : Header) (x : ℕ) → IsSound (new_node h x).control
sound_new h x = sound_started h x (new_durable h.nodes) (sound_new_durable h.nodes)

pub sound_restarted : (n : Node) → IsSound n.control → IsSound (restarted n).control
sound_restarted n sound = sound_started (record { nodes = n.control.nodes; chain = n.control.chain; chunk = n.control.chunk; areas = n.control.areas }) n.control.me n.control.kept sound.kept

-- each step leaves a sound node sound
pub sound_planned : (n : Control) (lines : List Shelf) (i : Input) → IsSound n → IsSound (plan n lines i).node
sound_planned n lines i sound =
    let w = writes n lines i in
    let kept : IsSoundDurable n.nodes (plan n lines i).node.kept = rw w.kept (sound_folded n.nodes n.kept (plan n lines i).records w.sound sound.kept) in
    record {
      kept = rw w.same.nodes kept;
      leases = w.same.leases ∙ (sound.leases ∙ sym w.same.nodes);
      rates = w.same.rates ∙ (sound.rates ∙ sym w.same.nodes);
      counts = w.same.counts ∙ (sound.counts ∙ sym w.same.nodes);
    }

-- Frames

length-parts : (rs : List Record) → length rs ≡ total as_entry rs + total as_other rs
length-parts [] = omega arith
length-parts (r ∷ rs) = let rest = length-parts rs in let one : as_entry r + as_other r ≡ 1 = each r in omega (arith, rest, one) where
  each : (r : Record) → as_entry r + as_other r ≡ 1
  each (records.Entry c) = refl
  each r = refl

-- a record that a rule writes has 34 bytes as an entry, and else no more than a list of ancestors
small : (r : Record) → IsSoundRecord r → size_of r ≤ 34 * as_entry r + 4003 * as_other r
small (records.Ancestors xs) ok = omega (arith, ok)
small (records.Ask s p) ok = omega arith
small (records.Joined p r) ok = omega arith
small records.Lost ok = omega arith
small records.Acting ok = omega arith
small (records.Ranked r) ok = omega arith
small (records.OldEntry x s p dead) ok = omega arith
small (records.Acked upto) ok = omega arith
small (records.Rate p rate hops) ok = omega arith
small (records.Epoch e) ok = omega arith
small (records.Base n) ok = omega arith
small (records.Snapshot g) ok = omega arith
small (records.Entry c) ok = omega arith
small (records.Info n c) ok = omega arith

small_all : (rs : List Record) → AllByRecursion IsSoundRecord rs → total size_of rs ≤ 34 * total as_entry rs + 4003 * total as_other rs
small_all [] ok = omega arith
small_all (r ∷ rs) ok = omega (arith, small r ok.0, small_all rs ok.1)

-- a step writes no more entries than there may be nodes
few_received : (b : Body) → HasFewCerts b → most_entries_of b ≤ 1024
few_received (bodies.Ask seq rank) few = omega arith
few_received (bodies.CheckIn seq upto rate number clients certs) few = omega (arith, few)
few_received b few = omega arith

few_entries : (n : Control) (i : Input) → IsSmall n → IsFew i → most_entries n i ≤ 1024
few_entries n (inputs.Tick t) small few = omega (arith, small.nodes, small.table)
few_entries n (inputs.Delivered m) small few = few_received m.body few
few_entries n i small few = omega arith

-- the records of a step fit a frame
pub fits : (n : Node) (i : Input) → IsSmall n.control → IsFew i → FitsFrame (step n i).records
fits n i small few =
    let w = writes n.control (shelf n.groups) i in
    let most = few_entries n.control i small few in
    record {
      records = omega (arith, length-parts (step n i).records, w.few, w.rest, most);
      bytes = omega (arith, small_all (step n i).records w.sound, w.few, w.rest, most);
    }
