use Rattle.std.proofs.Common.{[], ◌++◌, ap, sym}
use Rattle.std.specs.Prelude.{option_map}
use Rattle.oc_commands.specs.Lines.{line_of}
use Rattle.oc_commands.proofs.telling.line_of.Goals as goal

pub returns-in-Misused : goal.returns-in-Misused
returns-in-Misused c = (c.usage.result.now ++ [], sym (ap (λ end. line_of end (option_map (λ name. name.now) c.args.file) (c.usage.result.now ++ [])) c.in-Misused.is))
