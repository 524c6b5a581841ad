use Rattle.std.proofs.Common.{◌≡◌, IfOk, List, subst}
use Rattle.oc_base.specs.declared.cert.Child.{Child}
use Rattle.oc_model.specs.Looking.{children}
use Rattle.oc_step.specs.Told.{but}
use Rattle.oc_step.proofs.ToldChildren.{told_is}
use Rattle.oc_step.proofs.before.Before.children.Goals as goal

pub returns : goal.returns
returns c =
    let told : but c.ancestors.result.now c.deref.result.now ≡ children c.args.self.now = rw (c.ancestors.ensures, c.deref.ensures.value, c.in_ok-all.ensures) (told_is c.args.self.now) in
    subst (λ (l : List Child). IfOk c.leave_out.result (λ made. made.items ≡ l)) told c.leave_out.ensures
