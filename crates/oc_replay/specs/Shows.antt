use Rattle.std.specs.Prelude.{ℕ, Bool, true, false, List, ◌++◌, codes, decimal}
use Rattle.oc_base.specs.declared.cert.Line.{Line}
use Rattle.oc_model.specs.declared.mode.Mode.{Mode}
use Rattle.oc_model.specs.declared.mode.Mode.TheVariants.{Idle, Asking, Joined, Acting}
use Rattle.oc_model.specs.declared.status.NodeStatus.{NodeStatus}
use Rattle.oc_replay.specs.Bodies.{cert_text, list_text, rank_or_dash}

-- The state of a node, as a report shows it.

abbrev pub state_text : Bool → List ℕ
state_text true = codes "up"
state_text false = codes "down"

abbrev pub mode_text : Mode → List ℕ
mode_text Idle = codes "idle"
mode_text (Asking p) = codes "asking " ++ decimal p
mode_text (Joined p) = codes "joined " ++ decimal p
mode_text Acting = codes "acting"

-- `x<p`
abbrev pub listed_text : Line → List ℕ
listed_text line = decimal line.node ++ codes "<" ++ decimal line.parent

-- `  node N STATE MODE seq S rank RANK log A/L`
abbrev pub node_line : ℕ → NodeStatus → List ℕ
node_line x s =
    codes "  node " ++ decimal x ++ codes " " ++ state_text s.up ++ codes " " ++ mode_text s.mode
    ++ codes " seq " ++ decimal s.seq ++ codes " rank " ++ rank_or_dash s.rank
    ++ codes " log " ++ decimal s.acked ++ codes "/" ++ decimal s.length ++ codes "\n"

-- `  WORD [..]`, a list of items with these texts
abbrev pub list_line : {A : Type 0} → List ℕ → (A → List ℕ) → List A → List ℕ
list_line word text xs = codes "  " ++ word ++ codes " " ++ list_text text xs ++ codes "\n"

-- the block of `show`: the node's state, its ancestors, its table, and the listing of its table beneath itself
abbrev pub show_text : ℕ → NodeStatus → List ℕ
show_text x s =
    node_line x s
    ++ list_line (codes "ancestors") decimal s.ancestors
    ++ list_line (codes "table") cert_text s.table
    ++ list_line (codes "listed") listed_text s.listed
