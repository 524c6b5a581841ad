use Rattle.std.proofs.Common.{◌≡◌, IfOk, subst}
use Rattle.oc_base.specs.Groups.{shelf}
use Rattle.oc_model.specs.Node.{Node}
use Rattle.oc_replay.specs.Digests.{digest_text}
use Rattle.oc_world.proofs.process.Process.digest.Goals as goal

pub returns-then-is_up : goal.returns-then-is_up
returns-then-is_up c =
    subst (λ (n : Node). IfOk c.digest_of.result (λ digits. digits.items ≡ digest_text n.control.kept (shelf n.groups))) c.kept.ensures.node c.digest_of.ensures

pub returns : goal.returns
returns c =
    subst (λ (n : Node). IfOk c.digest_recovered.result (λ digits. digits.items ≡ digest_text n.control.kept (shelf n.groups))) c.in_ok-load.ensures.node c.digest_recovered.ensures
