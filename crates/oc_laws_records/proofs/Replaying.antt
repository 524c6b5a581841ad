-- A replay of the merge of runs.
use Rattle.std.proofs.Common.{◌≡◌, ℕ, Bool, Ok, List, map, ap, sym, subst, ◌∙◌}
use Rattle.oc_base.specs.Lawful.{IsNode}
use Rattle.oc_laws_world.specs.Merges.{Line, IsMerge, IsScheduleOf, after_entries, entries_of, own_fold}
use Rattle.oc_laws_world.specs.MergedLaws.{AllHold}
use Rattle.oc_laws_world.specs.Taking as takings
use Rattle.oc_merge.proofs.Own.{entries_own}
use Rattle.oc_merge.specs.declared.merge_end.MergeEnd.TheVariants.{Whole}
use Rattle.oc_merge.specs.declared.told.Told.{Told}
use Rattle.oc_merge.specs.Merging.{IsMergeOf}
use Rattle.oc_merge.specs.Reading.{records_of}
use Rattle.oc_merge.specs.Recorded.{entry_of, line_of, own_there, own_told, picked, recorded, records_there}
use Rattle.oc_merge.specs.Told.{Records}
use Rattle.oc_model.specs.declared.event.Event.{Event}
use Rattle.oc_model.specs.NextWorld.{world_after}
use Rattle.oc_model.specs.Node.{Header, Node, new_node}
use Rattle.oc_model.specs.World.{new_world, node}
use Rattle.oc_schedule.specs.Script.{Script}
use Rattle.oc_laws_records.specs.Lawful.{AreRuns}
use Rattle.oc_laws_records.specs.Read.{AreRead}
use Rattle.oc_laws_records.specs.Replayed.{AreReplayed, entries_there}
use Rattle.oc_laws_records.specs.Runs.{Run, runs_text, told_by}
use Rattle.oc_laws_records.proofs.There.{AreReadBack, picked_map, runs_entries, there_own}

-- the entries of x in these records are those of its runs, without those that are left out
entries_left : (digest : Node → List ℕ) (h : Header) (runs : List Run) (r : Records) (x : ℕ) → AreRuns h runs → AreReadBack h.nodes → r.header ≡ h → own_told x r.lines ≡ told_by x runs
    → entries_of x (map (line_of r.header.nodes) (records_there digest r).lines) ≡ entries_there digest h x runs
entries_left digest h runs r x are back header own =
    let flags : Header → List Told → List Bool = λ k ts. own_there digest k.nodes x (new_node k x) ts in
    entries_own r.header.nodes x (records_there digest r).lines
    ∙ (ap (map (entry_of r.header.nodes)) (there_own digest r x)
    ∙ (picked_map (entry_of r.header.nodes) (flags r.header (own_told x r.lines)) (own_told x r.lines)
    ∙ (ap (λ (k : Header). picked (flags k (own_told x r.lines)) (map (entry_of k.nodes) (own_told x r.lines))) header
    ∙ (ap (λ (ts : List Told). picked (flags h ts) (map (entry_of h.nodes) ts)) own
    ∙ ap (picked (flags h (told_by x runs))) (runs_entries h x runs back are.each)))))

-- the laws of merges, as their functions say them
pub record Laws : Type 0 where
  pub ordered : (r : takings.Records) (taken : List Line) → takings.IsInOrder r taken → takings.IsTaking r taken
  pub merge : (r : takings.Records) (taken : List Line) → takings.IsTaking r taken → IsMerge r.header taken
  pub folds : (h : Header) (ls : List Line) (es : List Event) → IsMerge h ls → IsScheduleOf (new_world h) ls es → (x : ℕ) → IsNode h.nodes x → node (world_after (new_world h) es) x ≡ own_fold h ls x
  pub hold : (h : Header) (ls : List Line) (es : List Event) → IsMerge h ls → IsScheduleOf (new_world h) ls es → AllHold (new_world h) es

-- the replay for records of this header
replayed_as : Laws → (digest : Node → List ℕ) (h : Header) (runs : List Run) (r : Records) (s : Script) → AreRuns h runs → AreReadBack h.nodes → r.header ≡ h → ((x : ℕ) → own_told x r.lines ≡ told_by x runs)
    → IsMergeOf digest (records_there digest r) s Whole → AreReplayed digest h runs s
replayed_as laws digest h runs r s are back header own m =
    let in_merge : IsMerge r.header m.taken = laws.merge (recorded digest (records_there digest r)) m.taken (laws.ordered (recorded digest (records_there digest r)) m.taken m.in_order) in
    let of_h : (k : Header) → r.header ≡ k → IsMerge k m.taken × IsScheduleOf (new_world k) m.taken s.events = λ k e.
    (subst (λ (j : Header). IsMerge j m.taken) e in_merge, subst (λ (j : Header). IsScheduleOf (new_world j) m.taken s.events) e m.schedule) in
    let both = of_h h header in
    record {
      header = m.header ∙ header;
      nodes = λ x is. laws.folds h m.taken s.events both.0 both.1 x is
          ∙ ap (after_entries (new_node h x)) (m.ends x (subst (λ (k : Header). IsNode k.nodes x) (sym header) is) ∙ entries_left digest h runs r x are back header (own x));
      hold = laws.hold h m.taken s.events both.0 both.1;
    }

pub replayed : Laws → (digest : Node → List ℕ) (h : Header) (runs : List Run) (r : Records) (s : Script) → AreRuns h runs → AreReadBack h.nodes → AreRead h runs → records_of (runs_text runs) ≡ Ok r
    → IsMergeOf digest (records_there digest r) s Whole → AreReplayed digest h runs s
replayed laws digest h runs r s are back read is m =
    let same : read.records ≡ r = cc (sym read.read ∙ is) in
    replayed_as laws digest h runs r s are back (ap (λ (q : Records). q.header) (sym same) ∙ read.header) (λ x. ap (λ (q : Records). own_told x q.lines) (sym same) ∙ read.own x) m
