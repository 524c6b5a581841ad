-- A worked example: two runs of two nodes, of which the first was killed within a line.
use Rattle.std.specs.Prelude.{◌≡◌, ℕ, Some, List, [], ◌∷◌, ◌++◌, map, codes}
use Rattle.oc_base.specs.Groups.{shelf}
use Rattle.oc_laws_world.specs.Merges.{Starts, Takes}
use Rattle.oc_merge.specs.declared.told.Told.TheVariants.{Started, Came, Took}
use Rattle.oc_model.specs.declared.input.Input.TheVariants.{Delivered, Publish, Tick}
use Rattle.oc_model.specs.declared.message.Body.TheVariants.{Look}
use Rattle.oc_model.specs.declared.message.Message.{Message}
use Rattle.oc_model.specs.Node.{Header, Node, new_node}
use Rattle.oc_replay.specs.Digests.{digest_text}
use Rattle.oc_deeds.specs.Deeds.{note_line}
use Rattle.oc_deeds.specs.Recorded.{Taken, Noted, record_text}
use Rattle.oc_laws_records.specs.Replayed.{entries_there}
use Rattle.oc_laws_records.specs.Runs.{Run, told_by}

abbrev two : Header
two = record { nodes = 2; chain = 1; chunk = 4096; areas = 0 ∷ 0 ∷ [] }

abbrev look : Message
look = record { from = 2; to = 1; body = Look }

-- node 1 ticks, notes something, publishes and is asked, and is killed when it has written the front of one more line
abbrev first : Run
first = record {
  node = new_node two 1;
  lines = Taken (Tick 5) ∷ Noted (note_line (codes "late")) ∷ Taken (Publish (codes "/a") (codes "hi")) ∷ Taken (Delivered look) ∷ [];
  cut = codes "tick 1 1";
}

-- node 2 ticks
abbrev second : Run
second = record { node = new_node two 2; lines = Taken (Tick 7) ∷ []; cut = [] }

abbrev both : List Run
both = first ∷ second ∷ []

-- the lengths of all groups serve as the digest of the files
abbrev lengths : Node → List ℕ
lengths n = map (λ l. l.held) (shelf n.groups)

pub record RunsCompute : Type 0 where
  pub text : record_text 1 first.lines ++ first.cut ≡ codes "tick 1 5\n! late\npublish 1 /a 6869\nrecv 1 000000020000000101\ntick 1 1"
  pub told_1 : told_by 1 both ≡ Started (Some (digest_text first.node.control.kept [])) ∷ Took (Tick 5) ∷ Took (Publish (codes "/a") (codes "hi")) ∷ Came (0 ∷ 0 ∷ 0 ∷ 2 ∷ 0 ∷ 0 ∷ 0 ∷ 1 ∷ 1 ∷ []) ∷ []
  pub told_2 : told_by 2 both ≡ Started (Some (digest_text second.node.control.kept [])) ∷ Took (Tick 7) ∷ []
  pub entries_1 : entries_there lengths two 1 both ≡ Starts ∷ Takes (Tick 5) ∷ Takes (Publish (codes "/a") (codes "hi")) ∷ Takes (Delivered look) ∷ []
