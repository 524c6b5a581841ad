-- The numbers of the statuses.
use Rattle.std.specs.Prelude.{ℕ}
use Rattle.oc_words.specs.declared.status.Status.{Status}
use Rattle.oc_words.specs.declared.status.Status.TheVariants.{Done, Failed, Usage, BadText, Memory, Limit, NotGot}

-- the exit status of the process
abbrev pub number_of : Status → ℕ
number_of Done = 0
number_of Failed = 1
number_of Usage = 2
number_of BadText = 3
number_of Memory = 4
number_of Limit = 5
number_of NotGot = 6
