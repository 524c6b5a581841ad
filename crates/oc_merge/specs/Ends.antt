use Rattle.std.specs.Prelude.{◌≡◌, ℕ, ◌<◌, ◌≤◌, Bool, true, false, Some, List, length, slice_get, get_or}
use Rattle.oc_merge.specs.declared.heads.Head.{Head}
use Rattle.oc_merge.specs.declared.merge_end.MergeEnd.{MergeEnd}
use Rattle.oc_merge.specs.declared.merge_end.MergeEnd.TheVariants.{Whole, State, Unsent}
use Rattle.oc_merge.specs.declared.told.Told.{Told}
use Rattle.oc_merge.specs.declared.told.ToldLine.{ToldLine}
use Rattle.oc_merge.specs.Heads.{no_head}
use Rattle.oc_merge.specs.Merging.{is_start}

-- The first line at the heads.

-- the kind that is looked for: starts, or any line
abbrev pub is_of : Bool → Told → Bool
is_of true told = is_start told
is_of false told = true

-- among the heads before `upto`, none is at a line of this kind before this index
abbrev pub NoneStandsBefore : List ToldLine → List Head → Bool → ℕ → ℕ → Type 0
NoneStandsBefore lines heads starts upto place = (i : ℕ) (l : ToldLine) → i < upto → (get_or heads i no_head).place < place
    → slice_get lines (get_or heads i no_head).place ≡ Some l → is_of starts l.told ≡ false

-- a line of the kind is at this place, at a head
pub record StandsAt (lines : List ToldLine) (heads : List Head) (starts : Bool) (place : ℕ) : Type 0 where
  pub index : ℕ
  pub within : index < length heads
  pub of_head : (get_or heads index no_head).place ≡ place
  pub told : ToldLine
  pub there : slice_get lines place ≡ Some told
  pub of_kind : is_of starts told.told ≡ true

-- the place of the first line of the kind that is at a head, so far as the heads before `upto` tell, or after all lines
pub record IsFirstAtHeads (lines : List ToldLine) (heads : List Head) (starts : Bool) (upto place : ℕ) : Type 0 where
  pub few : place ≤ length lines
  pub stands : place < length lines → StandsAt lines heads starts place
  pub none_before : NoneStandsBefore lines heads starts upto place

-- the line is the first of its kind at a head
pub record StandsFirst (lines : List ToldLine) (heads : List Head) (starts : Bool) (number : ℕ) : Type 0 where
  pub place : ℕ
  pub stands : StandsAt lines heads starts place
  pub has_number : stands.told.number ≡ number
  pub none_before : NoneStandsBefore lines heads starts (length heads) place

abbrev pub EndsAt : List ToldLine → List Head → MergeEnd → Type 0
EndsAt lines heads Whole = NoneStandsBefore lines heads false (length heads) (length lines)
EndsAt lines heads (State number) = StandsFirst lines heads true number
EndsAt lines heads (Unsent number) = NoneStandsBefore lines heads true (length heads) (length lines) × StandsFirst lines heads false number
