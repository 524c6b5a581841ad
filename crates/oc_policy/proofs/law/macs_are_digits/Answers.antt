use Rattle.oc_policy.proofs.Digits.{AreLowerDigits-mac_digits, length-mac_digits}
use Rattle.oc_policy.proofs.law.macs_are_digits.Goals as goal

pub returns-clause-count : goal.returns-clause-count
returns-clause-count c = length-mac_digits

pub returns-clause-digits : goal.returns-clause-digits
returns-clause-digits c = AreLowerDigits-mac_digits
