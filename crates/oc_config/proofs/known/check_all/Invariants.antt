use Rattle.std.proofs.Common.{◌≡◌, drop}
use Rattle.oc_config.specs.Known.{all_known}
use Rattle.oc_config.specs.Values.{sections_of}
use Rattle.oc_config.proofs.known.check_all.Given as goal

-- the tables that are left give the result that all of them give
abbrev pub invariant-loop-section : goal.invariant-loop-section
invariant-loop-section l = all_known (sections_of (drop l.section-index l.sections)) ≡ all_known (sections_of l.sections)
