-- what was heard and what the rest says are what all says
use Rattle.std.proofs.Common.{◌≡◌, length}
use Rattle.oc_select.specs.Scanning.{heard_all}
use Rattle.oc_select.specs.Tags.{members}
use Rattle.oc_select.specs.declared.scanning.Heard.TheVariants.{Nothing}
use Rattle.oc_select.proofs.scanning.naming.Given as goal

abbrev pub invariant-values : goal.invariant-values
invariant-values l = heard_all l.how l.tag l.said (members l.rest) ≡ heard_all l.how l.tag Nothing (members l.values)

abbrev pub decreases-values : goal.decreases-values
decreases-values l = length l.rest
