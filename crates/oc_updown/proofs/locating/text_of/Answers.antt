-- The name of a group is a text.
use Rattle.std.proofs.Common.{ℕ, List, subst, sym}
use Rattle.std.specs.Prelude.{IsUtf8}
use Rattle.oc_updown.proofs.Names.{IsUtf8-name}
use Rattle.oc_updown.proofs.locating.text_of.Goals as goal

pub unreachable-requires : goal.unreachable-requires
unreachable-requires c = c.in-Err.ensures.cases.0 (subst (λ (x : List ℕ). IsUtf8 x) (sym c.bytes.ensures) (IsUtf8-name c.args.group.now c.requires))
