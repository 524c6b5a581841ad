-- what was heard and what the rest says are what all says
use Rattle.std.proofs.Common.{◌≡◌, length}
use Rattle.oc_select.specs.Scanning.{heard_all}
use Rattle.oc_select.specs.Tags.{members_in}
use Rattle.oc_select.proofs.scanning.after_value.Given as goal

abbrev pub invariant-parts : goal.invariant-parts
invariant-parts l = heard_all l.how l.tag l.said (members_in l.rest) ≡ heard_all l.how l.tag l.fn.before (members_in l.value)

abbrev pub decreases-parts : goal.decreases-parts
decreases-parts l = length l.rest
