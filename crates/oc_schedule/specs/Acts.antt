-- Act lines: the values that the fields of each kind give, the words of each line, and the bytes that an act publishes.
use Rattle.std.specs.Prelude.{ℕ, if◌then◌else◌, Result, Ok, Err, List, [], ◌∷◌, length, codes, decimal}
use Rattle.std.specs.Str.{bytes_eq}
use Rattle.hex.specs.Hex.{IsBytes}
use Rattle.oc_base.specs.Steps.{◌>>=◌}
use Rattle.oc_base.specs.Words.{one, two, three, four, number_in, node_in}
use Rattle.oc_base.specs.declared.limits.TheConstants.{MAX_RATE, MAX_START, MAX_TIME}
use Rattle.oc_base.specs.declared.why.Why.{Why}
use Rattle.oc_base.specs.declared.why.Why.TheVariants as causes
use Rattle.oc_model.specs.declared.event.Act.{Act}
use Rattle.oc_model.specs.declared.event.Act.TheVariants.{At, Deliver}
use Rattle.oc_model.specs.declared.input.Input.{Input}
use Rattle.oc_model.specs.declared.input.Input.TheVariants.{Tick, CheckNow, Relocate, Unreachable, Pull, Measured, Publish, Seal, Client, Delivered}
use Rattle.oc_model.specs.Numbers.{number_end}
use Rattle.oc_schedule.specs.Fields.{group_in, bytes_in, bytes_text}

-- the greatest number of 8 bits
abbrev pub most_byte : ℕ
most_byte = 255

-- the node and the second of `tick N T`
abbrev pub ticked_in : ℕ → List (List ℕ) → Result (ℕ × ℕ) Why
ticked_in nodes fields = do
  (n, t) ← two fields
  node ← node_in nodes n
  now ← number_in 0 MAX_TIME t
  Ok (node, now)

-- `tick N T`
abbrev pub tick_in : ℕ → List (List ℕ) → Result Act Why
tick_in nodes fields = do
  (node, now) ← ticked_in nodes fields
  Ok (At node (Tick now))

-- `check N`
abbrev pub check_in : ℕ → List (List ℕ) → Result Act Why
check_in nodes fields = do
  n ← one fields
  node ← node_in nodes n
  Ok (At node CheckNow)

-- `N P`, the fields of three kinds of lines
abbrev pub pair_in : ℕ → List (List ℕ) → Result (ℕ × ℕ) Why
pair_in nodes fields = do
  (n, p) ← two fields
  node ← node_in nodes n
  peer ← node_in nodes p
  Ok (node, peer)

-- `move N P`
abbrev pub move_in : ℕ → List (List ℕ) → Result Act Why
move_in nodes fields = do
  (node, peer) ← pair_in nodes fields
  Ok (At node (Relocate peer))

-- `fail N P`
abbrev pub fail_in : ℕ → List (List ℕ) → Result Act Why
fail_in nodes fields = do
  (node, peer) ← pair_in nodes fields
  Ok (At node (Unreachable peer))

-- `pull N P`
abbrev pub pull_in : ℕ → List (List ℕ) → Result Act Why
pull_in nodes fields = do
  (node, peer) ← pair_in nodes fields
  Ok (At node (Pull peer))

-- `measure N P R H`
abbrev pub measure_in : ℕ → List (List ℕ) → Result Act Why
measure_in nodes fields = do
  (n, p, r, h) ← four fields
  node ← node_in nodes n
  peer ← node_in nodes p
  rate ← number_in 0 MAX_RATE r
  hops ← number_in 0 most_byte h
  Ok (At node (Measured peer rate hops))

-- `publish N G X`
abbrev pub publish_in : ℕ → List (List ℕ) → Result Act Why
publish_in nodes fields = do
  (n, g, x) ← three fields
  node ← node_in nodes n
  group ← group_in g
  bytes ← bytes_in x
  Ok (At node (Publish group bytes))

-- `seal N G`
abbrev pub seal_in : ℕ → List (List ℕ) → Result Act Why
seal_in nodes fields = do
  (n, g) ← two fields
  node ← node_in nodes n
  group ← group_in g
  Ok (At node (Seal group))

-- `client N A S G`
abbrev pub client_in : ℕ → List (List ℕ) → Result Act Why
client_in nodes fields = do
  (n, a, s, g) ← four fields
  node ← node_in nodes n
  area ← number_in 0 most_byte a
  start ← number_in 0 MAX_START s
  group ← group_in g
  Ok (At node (Client area start group))

-- the number of `deliver K`
abbrev pub delivered_in : List (List ℕ) → Result ℕ Why
delivered_in fields = do
  k ← one fields
  number_in 1 number_end k

-- `deliver K`
abbrev pub deliver_in : List (List ℕ) → Result Act Why
deliver_in fields = do
  number ← delivered_in fields
  Ok (Deliver number)

-- an act line, by its word; ticks and deliveries come first, since long schedules have mostly these
abbrev pub act_in : ℕ → List ℕ → List (List ℕ) → Result Act Why
act_in nodes word fields =
    if bytes_eq word (codes "tick") then tick_in nodes fields
    else if bytes_eq word (codes "deliver") then deliver_in fields
    else if bytes_eq word (codes "check") then check_in nodes fields
    else if bytes_eq word (codes "move") then move_in nodes fields
    else if bytes_eq word (codes "fail") then fail_in nodes fields
    else if bytes_eq word (codes "pull") then pull_in nodes fields
    else if bytes_eq word (codes "measure") then measure_in nodes fields
    else if bytes_eq word (codes "publish") then publish_in nodes fields
    else if bytes_eq word (codes "seal") then seal_in nodes fields
    else if bytes_eq word (codes "client") then client_in nodes fields
    else Err causes.Word

-- the word of an input's line
abbrev pub input_word : Input → List ℕ
input_word (Tick now) = codes "tick"
input_word CheckNow = codes "check"
input_word (Relocate peer) = codes "move"
input_word (Unreachable peer) = codes "fail"
input_word (Pull peer) = codes "pull"
input_word (Measured peer rate hops) = codes "measure"
input_word (Publish group bytes) = codes "publish"
input_word (Seal group) = codes "seal"
input_word (Client area start group) = codes "client"
input_word (Delivered message) = codes "recv"

-- the fields of an input's line after the node
abbrev pub input_fields : Input → List (List ℕ)
input_fields (Tick now) = decimal now ∷ []
input_fields CheckNow = []
input_fields (Relocate peer) = decimal peer ∷ []
input_fields (Unreachable peer) = decimal peer ∷ []
input_fields (Pull peer) = decimal peer ∷ []
input_fields (Measured peer rate hops) = decimal peer ∷ decimal rate ∷ decimal hops ∷ []
input_fields (Publish group bytes) = group ∷ bytes_text bytes ∷ []
input_fields (Seal group) = group ∷ []
input_fields (Client area start group) = decimal area ∷ decimal start ∷ group ∷ []
input_fields (Delivered message) = []

-- the word of an act line
abbrev pub act_word : Act → List ℕ
act_word (At node input) = input_word input
act_word (Deliver number) = codes "deliver"

-- the fields of an act line
abbrev pub act_fields : Act → List (List ℕ)
act_fields (At node input) = decimal node ∷ input_fields input
act_fields (Deliver number) = decimal number ∷ []

-- the words of an act line
abbrev pub act_words : Act → List (List ℕ)
act_words act = act_word act ∷ act_fields act

-- the bytes that an act publishes
abbrev pub bytes_of_act : Act → ℕ
bytes_of_act (At node (Publish group bytes)) = length bytes
bytes_of_act act = 0

-- an act publishes bytes
abbrev pub PublishesBytes : Act → Type 0
PublishesBytes (At node (Publish group bytes)) = IsBytes bytes
PublishesBytes act = Unit {0}
