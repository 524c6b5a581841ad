use Rattle.std.specs.Prelude.{◌≡◌, ℕ, ◌<◌, Bool, true, false, Option, Some, None, List, [], ◌∷◌, length, map, slice_get, take}
use Rattle.oc_base.specs.Lawful.{IsNode}
use Rattle.oc_model.specs.declared.event.Act.TheVariants.{Deliver}
use Rattle.oc_model.specs.declared.event.Event.{Event}
use Rattle.oc_model.specs.declared.event.Event.TheVariants.{Do}
use Rattle.oc_model.specs.declared.message.Message.{Message}
use Rattle.oc_model.specs.NextWorld.{next_world}
use Rattle.oc_model.specs.Node.{Node}
use Rattle.oc_model.specs.World.{World, message_at, new_world}
use Rattle.oc_laws_world.specs.Merges.{Line, entries_of, IsScheduleOf}
use Rattle.oc_laws_world.specs.Taking.{IsFull, IsInOrder}
use Rattle.oc_schedule.specs.Script.{Script}
use Rattle.oc_merge.specs.declared.merge_end.MergeEnd.{MergeEnd}
use Rattle.oc_merge.specs.declared.merge_end.MergeEnd.TheVariants.{Whole, State, Unsent}
use Rattle.oc_merge.specs.declared.told.Told.{Told}
use Rattle.oc_merge.specs.declared.told.Told.TheVariants.{Started}
use Rattle.oc_merge.specs.declared.told.ToldLine.{ToldLine}
use Rattle.oc_merge.specs.Recorded.{own_told, line_of, recorded}
use Rattle.oc_merge.specs.Told.{Records}

-- The definition of a merge of records.

-- Numbers of messages

-- no message of a smaller number is equal
abbrev pub IsFirstOf : List Message → ℕ → Type 0
IsFirstOf net k = (j : ℕ) → j < k → message_at net j ≡ message_at net k → ⊥

abbrev pub DeliversFirst : World → Event → Type 0
DeliversFirst w (Do (Deliver k)) = IsFirstOf w.net k
DeliversFirst w e = Unit {0}

-- each message is delivered by its least number
abbrev pub DeliverFirst : World → List Event → Type 0
DeliverFirst w [] = Unit {0}
DeliverFirst w (e ∷ es) = DeliversFirst w e × DeliverFirst (next_world w e) es

-- the least number that a message has, if it was sent
abbrev pub IsNumberOf : List Message → Message → Option ℕ → Type 0
IsNumberOf net m None = (k : ℕ) → message_at net k ≡ Some m → ⊥
IsNumberOf net m (Some k) = (message_at net k ≡ Some m) × IsFirstOf net k

-- Lines that are left

-- the line at this place is next in the record of its node, after those that were taken
abbrev pub IsNextAt : Records → List Line → ℕ → ToldLine → Type 0
IsNextAt r taken place l = (slice_get r.lines place ≡ Some l) × (length (own_told l.node (take place r.lines)) ≡ length (entries_of l.node taken))

abbrev pub is_start : Told → Bool
is_start (Started files) = true
is_start told = false

-- the first line of this kind that is next and was not taken has this number
pub record IsFirstStanding (r : Records) (taken : List Line) (is : Told → Bool) (number : ℕ) : Type 0 where
  pub place : ℕ
  pub told : ToldLine
  pub next : IsNextAt r taken place told
  pub of_kind : is told.told ≡ true
  pub has_number : told.number ≡ number
  pub none_before : (earlier : ℕ) (k : ToldLine) → earlier < place → IsNextAt r taken earlier k → is k.told ≡ false

abbrev pub NoneStands : Records → List Line → (Told → Bool) → Type 0
NoneStands r taken is = (place : ℕ) (l : ToldLine) → IsNextAt r taken place l → is l.told ≡ false

-- The whole

-- every line was taken; or the first start that is left; or, where no start is, the first line that is
abbrev pub EndsAs : Records → List Line → MergeEnd → Type 0
EndsAs r taken Whole = (x : ℕ) → IsNode r.header.nodes x → entries_of x taken ≡ entries_of x (map (line_of r.header.nodes) r.lines)
EndsAs r taken (State number) = IsFirstStanding r taken is_start number
EndsAs r taken (Unsent number) = NoneStands r taken is_start × IsFirstStanding r taken (λ told. true) number

-- a schedule of the lines that were taken: each time the first of the input that could be, until none could
pub record IsMergeOf (digest : Node → List ℕ) (r : Records) (s : Script) (end : MergeEnd) : Type 0 where
  pub taken : List Line
  pub in_order : IsInOrder (recorded digest r) taken
  pub full : IsFull (recorded digest r) taken
  pub header : s.header ≡ r.header
  pub schedule : IsScheduleOf (new_world r.header) taken s.events
  pub least : DeliverFirst (new_world r.header) s.events
  pub ends : EndsAs r taken end
