-- The parts that these rules do not change.
use Rattle.std.proofs.Common.{◌≡◌, ℕ, Option, Some, None, refl}
use Rattle.oc_base.specs.declared.rank.Rank.{Rank}
use Rattle.oc_model.specs.declared.mode.Mode.{Mode}
use Rattle.oc_model.specs.declared.mode.Mode.TheVariants as modes
use Rattle.oc_model.specs.Adopting.{raises, raises_over}
use Rattle.oc_model.specs.Asking.{lost_from, lost}
use Rattle.oc_model.specs.Plan.{Plan}
use Rattle.oc_laws_step.proofs.Goes.{either}

-- losing a parent does not change the part that a start clears
lost_soft_from : (m : Mode) (o : Plan) → (lost_from m o).node.soft ≡ o.node.soft
lost_soft_from modes.Idle o = refl
lost_soft_from (modes.Asking p) o = refl
lost_soft_from (modes.Joined p) o = refl
lost_soft_from modes.Acting o = refl

pub lost_soft : (o : Plan) → (lost o).node.soft ≡ o.node.soft
lost_soft o = lost_soft_from o.node.kept.mode o

-- a raise leaves the table
raises_table : (e : Option ℕ) (o : Plan) → (raises o e).node.kept.table ≡ o.node.kept.table
raises_table None o = refl
raises_table (Some e) o = refl

pub raised_table : (o : Plan) (x : ℕ) (r : Rank) → (raises_over o x r).node.kept.table ≡ o.node.kept.table
raised_table o x r = either _ (λ q. q.node.kept.table ≡ o.node.kept.table) _ o (raises_table _ o) refl
