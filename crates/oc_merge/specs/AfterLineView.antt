use Rattle.std.specs.Prelude.{option_map}
use Rattle.oc_model.specs.Node.{Node}
use Rattle.oc_merge.specs.declared.after_line.AfterLine as declared
use Rattle.oc_merge.specs.Folds.{AfterLine}

-- A node after a line, as the model's.
abbrev pub view_of : {A : Type 0} → (A → Node) → declared.AfterLine A → AfterLine
view_of node b = record { node = option_map node b.node; there = b.there }
