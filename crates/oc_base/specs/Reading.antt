-- The values of bytes that are read as fields of a binary format, with the first fault from the left.
use Rattle.std.specs.Prelude.{◌≡◌, ℕ, zero, suc, ◌+◌, ◌-◌, ◌^◌, Bool, ◌||◌, ◌==◌, nat_lt, if◌then◌else◌, Result, Ok, Err, List, [], ◌∷◌, length, take, drop}
use Rattle.std.specs.Int.{Width, w8, w16, w32, w64}
use Rattle.oc_base.specs.declared.cert.Cert.{Cert}
use Rattle.oc_base.specs.declared.field.Short.{Short}
use Rattle.oc_base.specs.declared.field_fault.FieldFault.{FieldFault}
use Rattle.oc_base.specs.declared.field_fault.FieldFault.TheVariants as faults
use Rattle.oc_base.specs.declared.limits.TheConstants.{MAX_ANCESTORS, MAX_DEPTH, MAX_RATE}
use Rattle.oc_base.specs.declared.rank.Rank.{Rank}
use Rattle.oc_base.specs.Fields.{number_at}
use Rattle.oc_base.specs.Steps.{◌>>=◌}

-- the value, or `Short` as the fault of a field that is cut off
abbrev pub or_short : {A : Type 0} → Result A Short → Result A FieldFault
or_short (Ok x) = Ok x
or_short (Err short) = Err faults.Short

-- a read of a field at an index: a value and the next index, or a fault
abbrev pub Reading : Type 0 → Type 0
Reading A = Result (A × ℕ) FieldFault

-- Fields

-- a number of this width from the least to the most
unfoldable pub within_at : Width → ℕ → ℕ → List ℕ → ℕ → Reading ℕ
within_at w least most bytes at = do
  number ← or_short (number_at w bytes at)
  if nat_lt number.0 least || nat_lt most number.0 then Err faults.Value else Ok number

-- any byte
abbrev pub byte_at : List ℕ → ℕ → Reading ℕ
byte_at bytes at = or_short (number_at w8 bytes at)

-- any number of eight bytes
abbrev pub long_at : List ℕ → ℕ → Reading ℕ
long_at bytes at = or_short (number_at w64 bytes at)

-- a number of eight bytes that is not 0
abbrev pub count_at : List ℕ → ℕ → Reading ℕ
count_at bytes at = within_at w64 1 (2 ^ 64 - 1) bytes at

-- the id of a node, in a network of this many nodes
abbrev pub id_at : ℕ → List ℕ → ℕ → Reading ℕ
id_at nodes bytes at = within_at w32 1 nodes bytes at

-- a rate in bytes per second
abbrev pub rate_at : List ℕ → ℕ → Reading ℕ
rate_at bytes at = within_at w64 0 MAX_RATE bytes at

-- a byte that is 0 or 1
unfoldable pub flag_at : List ℕ → ℕ → Reading Bool
flag_at bytes at = do
  byte ← within_at w8 0 1 bytes at
  Ok (byte.0 == 1, byte.1)

-- this number of bytes
unfoldable pub text_at : List ℕ → ℕ → ℕ → Reading (List ℕ)
text_at bytes count at = if nat_lt (length bytes) (at + count) then Err faults.Short else Ok (take count (drop at bytes), at + count)

-- Fields one after another, and the value that is made of them

-- one field
abbrev pub one_field : {A Y : Type 0} → (ℕ → Reading A) → (A → Y) → ℕ → Reading Y
one_field first make at = do
  a ← first at
  Ok (make a.0, a.1)

-- two fields
abbrev pub two_fields : {A B Y : Type 0} → (ℕ → Reading A) → (ℕ → Reading B) → (A → B → Y) → ℕ → Reading Y
two_fields first second make at = do
  a ← first at
  b ← second a.1
  Ok (make a.0 b.0, b.1)

-- three fields
abbrev pub three_fields : {A B C Y : Type 0} → (ℕ → Reading A) → (ℕ → Reading B) → (ℕ → Reading C) → (A → B → C → Y) → ℕ → Reading Y
three_fields first second third make at = do
  a ← first at
  b ← second a.1
  c ← third b.1
  Ok (make a.0 b.0 c.0, c.1)

-- four fields
abbrev pub four_fields : {A B C D Y : Type 0} → (ℕ → Reading A) → (ℕ → Reading B) → (ℕ → Reading C) → (ℕ → Reading D) → (A → B → C → D → Y) → ℕ → Reading Y
four_fields first second third fourth make at = do
  a ← first at
  b ← second a.1
  c ← third b.1
  d ← fourth c.1
  Ok (make a.0 b.0 c.0 d.0, d.1)

-- six fields
abbrev pub six_fields : {A B C D E G Y : Type 0} → (ℕ → Reading A) → (ℕ → Reading B) → (ℕ → Reading C) → (ℕ → Reading D) → (ℕ → Reading E) → (ℕ → Reading G) → (A → B → C → D → E → G → Y) → ℕ → Reading Y
six_fields first second third fourth fifth sixth make at = do
  a ← first at
  b ← second a.1
  c ← third b.1
  d ← fourth c.1
  e ← fifth d.1
  g ← sixth e.1
  Ok (make a.0 b.0 c.0 d.0 e.0 g.0, g.1)

-- an epoch and a depth
unfoldable pub rank_at : List ℕ → ℕ → Reading Rank
rank_at bytes at = two_fields (long_at bytes) (within_at w32 0 MAX_DEPTH bytes) (λ epoch depth. record { epoch = epoch; depth = depth }) at

-- a certificate
unfoldable pub cert_at : ℕ → List ℕ → ℕ → Reading Cert
cert_at nodes bytes at =
    six_fields (id_at nodes bytes) (count_at bytes) (id_at nodes bytes) (flag_at bytes) (long_at bytes) (long_at bytes)
    (λ subject seq parent dead number clients. record { subject = subject; seq = seq; parent = parent; dead = dead; number = number; clients = clients })
    at

-- Lists

-- this number of items, one after another; the range of an item may depend on a part of the item before it, its state
unfoldable pub items_at : {A S : Type 0} → (S → ℕ → Reading A) → (A → S) → S → ℕ → ℕ → Reading (List A)
items_at read kept before zero at = Ok ([], at)
items_at read kept before (suc count) at = do
  first ← read before at
  rest ← items_at read kept (kept first.0) count first.1
  Ok (first.0 ∷ rest.0, rest.1)

-- this number of items that do not depend on each other
abbrev pub each_at : {A : Type 0} → (ℕ → Reading A) → ℕ → ℕ → Reading (List A)
each_at read count at = items_at (λ (before : Unit {0}). read) (λ item. tt) tt count at

-- a list with its length in front
abbrev pub list_at : {A : Type 0} → (ℕ → Reading ℕ) → (ℕ → ℕ → Reading (List A)) → ℕ → Reading (List A)
list_at size items at = do
  count ← size at
  items count.0 count.1

-- ancestors
unfoldable pub ancestors_at : ℕ → List ℕ → ℕ → Reading (List ℕ)
ancestors_at nodes bytes at = list_at (within_at w16 0 MAX_ANCESTORS bytes) (each_at (id_at nodes bytes)) at

-- a call answers the same as this read, except that memory may run out
abbrev pub Gives : {A : Type 0} → Reading A → Reading A → Type 0
Gives (Err faults.Memory) read = Unit {0}
Gives answer read = read ≡ answer
