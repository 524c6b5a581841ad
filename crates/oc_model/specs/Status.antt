use Rattle.std.specs.Prelude.{ℕ, Bool, Option, Some, None, List, map}
use Rattle.std.specs.List.{filter_map}
use Rattle.oc_base.specs.declared.cert.Cert.{Cert}
use Rattle.oc_base.specs.declared.cert.Line.{Line}
use Rattle.oc_model.specs.Node.{Control}
use Rattle.oc_model.specs.Table.{table_line}
use Rattle.oc_model.specs.World.{World, node, is_up}
use Rattle.oc_model.specs.declared.status.NodeStatus.{NodeStatus}

-- The state of a node, as reports show it.

-- the line of x under this parent
abbrev pub line_beneath : ℕ → Option ℕ → Option Line
line_beneath x None = None
line_beneath x (Some y) = Some (record { node = x; parent = y })

-- the lines of all nodes listed beneath r, ascending
abbrev pub listing : List Cert → ℕ → List Line
listing t r = filter_map (λ x. line_beneath x (table_line t r x)) (map (λ k. k.subject) t)

-- the status of a node, with the nodes that its own table lists
abbrev pub status_of : Control → Bool → NodeStatus
status_of n up = record {
  up = up;
  mode = n.kept.mode;
  seq = n.kept.seq;
  rank = n.kept.rank;
  acked = n.kept.log.acked;
  length = n.kept.log.length;
  ancestors = n.kept.ancestors;
  table = n.kept.table;
  listed = listing n.kept.table n.me;
}

-- the status of the node of this id
abbrev pub status_in : World → ℕ → NodeStatus
status_in w x = status_of (node w x).control (is_up w x)
