-- Slots of which more are written have the same values.
use Rattle.std.proofs.Common.{◌≡◌, ℕ, ◌+◌, ◌-◌, ◌<◌, ◌≤◌, List, [], ◌++◌, length, replicate, set, get_or, refl, ap, sym, ◌∙◌, arith}
use Rattle.std.proofs.lemmas.List.{append_assoc, get_or-append_right, get_or-replicate, get_or_append_left, get_or_past, length-append, length-replicate, length-set, replicate-append-replicate, set-append_left}
use Rattle.oc_base.specs.SlotsView.{filled_up}

-- the blank value may be written in two parts
blank_parts : {X : Type 0} (a b c : ℕ) (blank : X) → a + b ≡ c → replicate a blank ++ replicate b blank ≡ replicate c blank
blank_parts a b c blank e = replicate-append-replicate a b blank ∙ ap (λ n. replicate n blank) e

-- where the blank value is written further, the values are the same
pub written_further : {X : Type 0} (count more : ℕ) (blank : X) (xs : List X) → length xs + more ≤ count → filled_up count blank (xs ++ replicate more blank) ≡ filled_up count blank xs
written_further count more blank xs within =
    let long : length (xs ++ replicate more blank) ≡ length xs + more = length-append xs (replicate more blank) ∙ ap (λ n. length xs + n) (length-replicate more blank) in
    let parts : more + (count - length (xs ++ replicate more blank)) ≡ count - length xs = rw long (omega (arith, within)) in
    append_assoc xs (replicate more blank) (replicate (count - length (xs ++ replicate more blank)) blank)
    ∙ ap (λ ys. xs ++ ys) (blank_parts more (count - length (xs ++ replicate more blank)) (count - length xs) blank parts)

-- a value that is put among those that are written is put among all
pub put_within : {X : Type 0} (count slot : ℕ) (blank value : X) (xs : List X) → slot < length xs → filled_up count blank (set xs slot value) ≡ set (filled_up count blank xs) slot value
put_within count slot blank value xs within =
    let same : length (set xs slot value) ≡ length xs = length-set xs slot value in
    rw same (sym (set-append_left xs (replicate (count - length xs) blank) slot value within))

-- and so is one after them, once the blank value is written up to it
pub put_written : {X : Type 0} (count slot : ℕ) (blank value : X) (xs : List X) → length xs ≤ count → slot < count → filled_up count blank (set (xs ++ replicate (slot + 1 - length xs) blank) slot value) ≡ set (filled_up count blank xs) slot value
put_written count slot blank value xs few within =
    let more : ℕ = slot + 1 - length xs in
    let long : length (xs ++ replicate more blank) ≡ length xs + more = length-append xs (replicate more blank) ∙ ap (λ n. length xs + n) (length-replicate more blank) in
    put_within count slot blank value (xs ++ replicate more blank) (rw long (omega arith))
    ∙ ap (λ ys. set ys slot value) (written_further count more blank xs (omega (arith, few, within)))

-- there are as many values as slots
pub filled_length : {X : Type 0} (count : ℕ) (blank : X) (xs : List X) → length xs ≤ count → length (filled_up count blank xs) ≡ count
filled_length count blank xs few =
    length-append xs (replicate (count - length xs) blank) ∙ ap (λ n. length xs + n) (length-replicate (count - length xs) blank) ∙ omega (arith, few)

-- where nothing is written, each slot has the blank value
pub none_written : {X : Type 0} (count : ℕ) (blank : X) (xs : List X) → xs ≡ [] → filled_up count blank xs ≡ replicate count blank
none_written count blank xs none =
    let whole : count - 0 ≡ count = omega arith in
    ap (filled_up count blank) none ∙ ap (λ n. replicate n blank) whole

-- a slot among the written ones has the value that was put there
pub value_written : {X : Type 0} (count slot : ℕ) (blank other : X) (xs : List X) → slot < length xs → get_or (filled_up count blank xs) slot other ≡ get_or xs slot other
value_written count slot blank other xs within = get_or_append_left xs (replicate (count - length xs) blank) other slot within

-- a slot after those has the blank value
pub value_blank : {X : Type 0} (count slot : ℕ) (blank other : X) (xs : List X) → length xs ≤ slot → slot < count → get_or (filled_up count blank xs) slot other ≡ blank
value_blank count slot blank other xs after within =
    get_or-append_right xs (replicate (count - length xs) blank) (length xs) slot other refl after
    ∙ get_or-replicate (count - length xs) (slot - length xs) blank other (omega (arith, after, within))

-- no value is past the last slot
pub value_past : {X : Type 0} (count slot : ℕ) (blank other : X) (xs : List X) → length xs ≤ count → count ≤ slot → get_or (filled_up count blank xs) slot other ≡ other
value_past count slot blank other xs few past = get_or_past (filled_up count blank xs) slot other (rw (filled_length count blank xs few) past)
