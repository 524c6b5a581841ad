use Rattle.std.specs.Prelude.{◌≡◌, ℕ}
use Rattle.oc_model.specs.Chains.{IsRoot, true_line}
use Rattle.oc_model.specs.ClaimsTree.{table_of}
use Rattle.oc_model.specs.Ready.{IsSettled}
use Rattle.oc_model.specs.Table.{table_line}
use Rattle.oc_model.specs.World.{World}

-- the table of each root has the first link of each node's true chain, and no line of a node without one, as of a node that is down
abbrev pub ListsExactly : World → Type 0
ListsExactly w = (r x : ℕ) → IsRoot w r → table_line (table_of w r) r x ≡ true_line w r x

-- in a settled world the table of every root is exact
abbrev pub SettledListsExactly : World → Type 0
SettledListsExactly w = IsSettled w → ListsExactly w
