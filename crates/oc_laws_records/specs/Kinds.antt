-- The kinds of inputs that a running node takes, and the notes it makes.
use Rattle.std.specs.Prelude.{◌≤◌, List}
use Rattle.std.specs.List.{AllByRecursion}
use Rattle.oc_base.specs.declared.limits.TheConstants.{MAX_TIME}
use Rattle.oc_model.specs.declared.input.Input.{Input}
use Rattle.oc_model.specs.declared.input.Input.TheVariants.{CheckNow, Pull, Relocate, Tick}
use Rattle.oc_deeds.specs.Deeds.{Accepts, Deed, Notes, Takes}
use Rattle.oc_laws_records.specs.Lawful.{IsOneLine}

-- an input of a kind that records have, and no tick later than they may have
abbrev pub IsOfRecord : Input → Type 0
IsOfRecord (Tick now) = now ≤ MAX_TIME
IsOfRecord CheckNow = ⊥
IsOfRecord (Relocate peer) = ⊥
IsOfRecord (Pull peer) = ⊥
IsOfRecord i = Unit {0}

-- a deed that takes an input of these kinds, or none, and notes no more than a line
abbrev pub IsPlain : Deed → Type 0
IsPlain (Takes i) = IsOfRecord i
IsPlain (Accepts i) = IsOfRecord i
IsPlain (Notes why) = IsOneLine why
IsPlain d = Unit {0}

abbrev pub ArePlain : List Deed → Type 0
ArePlain deeds = AllByRecursion IsPlain deeds
