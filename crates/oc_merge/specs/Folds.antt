use Rattle.std.specs.Prelude.{◌≡◌, ℕ, ◌-◌, Bool, true, ◌==◌, false, if◌then◌else◌, Option, Some, None, option_map, List, length, map, take, drop, get_or}
use Rattle.oc_base.specs.Lawful.{IsNode}
use Rattle.oc_model.specs.declared.input.Input.{Input}
use Rattle.oc_model.specs.declared.input.Input.TheVariants.{Delivered}
use Rattle.oc_model.specs.Node.{Node, new_node, restarted}
use Rattle.oc_model.specs.Step.{step}
use Rattle.oc_merge.specs.declared.told.Told.{Told}
use Rattle.oc_merge.specs.declared.told.Told.TheVariants.{Started, Came, Took}
use Rattle.oc_merge.specs.Recorded.{is_missed, message_of, own_there, own_told}
use Rattle.oc_merge.specs.Told.{Records}

-- Each node after its own lines, up to an index among all lines.

-- the node after a line, none where nothing more is found, and whether the line is there
pub record AfterLine : Type 0 where
  pub node : Option Node
  pub there : Bool

abbrev pub nothing_more : AfterLine
nothing_more = record { node = None; there = true }

-- after an input that was missed, as the start that comes next finds the node, or taken
abbrev pub after_either : Bool → Node → Node → AfterLine
after_either true before after = record { node = Some (restarted before); there = false }
after_either false before after = record { node = Some after; there = true }

abbrev pub after_input : (Node → List ℕ) → Node → Input → Option (List ℕ) → AfterLine
after_input digest n i found = after_either (is_missed digest n i found) n (step n i).node

-- after a line of x, where the first start after it finds these files
abbrev pub after_line : (Node → List ℕ) → ℕ → ℕ → Node → Told → Option (List ℕ) → AfterLine
after_line digest nodes x n (Started files) found = record { node = Some (restarted n); there = true }
after_line digest nodes x n (Came bytes) found =
    if (message_of nodes bytes).to == x then after_input digest n (Delivered (message_of nodes bytes)) found else nothing_more
after_line digest nodes x n (Took i) found = after_input digest n i found

-- the same, where nothing may be found any more
abbrev pub after_any : (Node → List ℕ) → ℕ → ℕ → Option Node → Told → Option (List ℕ) → AfterLine
after_any digest nodes x None t found = nothing_more
after_any digest nodes x (Some n) t found = after_line digest nodes x n t found

-- whether each of these lines of x is there, from the node on
abbrev pub there_from : (Node → List ℕ) → ℕ → ℕ → Option Node → List Told → List Bool
there_from digest nodes x None ts = map (λ t. true) ts
there_from digest nodes x (Some n) ts = own_there digest nodes x n ts

-- the node is node x of this network
abbrev pub IsOfNetwork : ℕ → ℕ → Option Node → Type 0
IsOfNetwork nodes x None = Unit {0}
IsOfNetwork nodes x (Some n) = (n.control.nodes ≡ nodes) × (n.control.me ≡ x)

-- the nodes, so far folded, tell of their lines from this place on whether each is there
pub record AreFoldsAt {A : Type 0} (node : A → Node) (digest : Node → List ℕ) (r : Records) (place : ℕ) (folds : List (Option A)) : Type 0 where
  pub all : length folds ≡ r.header.nodes
  pub own : (x : ℕ) → IsNode r.header.nodes x → IsOfNetwork r.header.nodes x (option_map node (get_or folds (x - 1) None))
  pub each : (x : ℕ) → IsNode r.header.nodes x
      → drop (length (own_told x (take place r.lines))) (own_there digest r.header.nodes x (new_node r.header x) (own_told x r.lines))
      ≡ there_from digest r.header.nodes x (option_map node (get_or folds (x - 1) None)) (own_told x (drop place r.lines))
