-- The median of the rates that were measured.
use Rattle.std.specs.Prelude.{◌≡◌, ℕ, Option, None, Some}
use Rattle.oc_probe.specs.Rates.{IsMedian, rate_of, rates_of, with_rate}
use Rattle.oc_probe.specs.declared.probing.Probing.{Probing}
use Rattle.oc_deeds.specs.declared.came.Came.{Came}
use Rattle.oc_deeds.specs.declared.came.Came.TheVariants as comes

-- the median of the rates of a peer with this one, where they are measured
abbrev pub IsMedianOf : Option Probing → ℕ → ℕ → ℕ → Type 0
IsMedianOf None peer rate median = Unit {0}
IsMedianOf (Some probing) peer rate median = IsMedian (with_rate (rates_of probing.gauge peer) rate) median

-- the median is that of the rates of the peer that was probed, with the rate between the two readings
abbrev pub IsMeasured : Option Probing → Came → ℕ → ℕ → Type 0
IsMeasured probing (comes.Probed peer since None) now median = IsMedianOf probing peer (rate_of since now) median
IsMeasured probing came now median = Unit {0}

-- the median of the rates of a peer with this one, if they are measured at all
abbrev pub IsMedianIn : Option Probing → ℕ → ℕ → Option ℕ → Type 0
IsMedianIn None peer rate median = median ≡ None
IsMedianIn (Some probing) peer rate None = ⊥
IsMedianIn (Some probing) peer rate (Some median) = IsMedian (with_rate (rates_of probing.gauge peer) rate) median
