use Rattle.std.proofs.Common.{refl, sym, ◌∙◌}
use Rattle.oc_base.specs.Names.{name_fault}
use Rattle.test_tools.proofs.Named.{named}
use Rattle.test_tools.proofs.groups.group_in.Goals as goal

pub returns-in-Ok : goal.returns-in-Ok
returns-in-Ok c = named c.as_bytes.result.now c.in-Ok.group (name_fault c.as_bytes.result.now) refl (sym c.parse.ensures ∙ c.in-Ok.is)
