-- Whether a turn served something.
use Rattle.std.specs.Prelude.{ℕ, Bool, true, false, Option, None, Some}
use Rattle.oc_deeds.specs.declared.came.Came.{Came}
use Rattle.oc_deeds.specs.declared.came.Came.TheVariants as comes

-- whether this news is something
abbrev pub is_something : Came → Bool
is_something comes.Nothing = false
is_something came = true

-- whether something was served
abbrev pub is_served : Option ℕ → Came → Bool
is_served (Some place) came = true
is_served None came = is_something came
