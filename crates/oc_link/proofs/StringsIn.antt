-- Byte strings in one buffer.
use Rattle.std.proofs.Common.{◌≡◌, ℕ, ◌+◌, ◌-◌, ◌<◌, ◌≤◌, Some, None, List, [], ◌∷◌, ◌++◌, length, take, drop, get_or, refl, sym, ap, ◌∙◌, arith, zero, suc}
use Rattle.std.proofs.lemmas.Option.{slice_get_past}
use Rattle.std.specs.List.{slice_get}
use Rattle.std.proofs.lemmas.List.{drop-append-le, drop-take, take_all, take-append-le, take_rest}
use Rattle.oc_link.specs.ByteStrings.{ByteStringsView, strings_in, grown, AreStarts}

-- a further offset, at the end
pub AreStarts-push : (n : ℕ) (starts : List ℕ) → AreStarts n starts → AreStarts n (starts ++ n ∷ [])
AreStarts-push n [] h = omega arith
AreStarts-push n (a ∷ []) h = (h, omega arith)
AreStarts-push n (a ∷ b ∷ starts) h = (h.0, AreStarts-push n (b ∷ starts) h.1)

-- the same offsets in a longer buffer
pub AreStarts-more : (n m : ℕ) (starts : List ℕ) → n ≤ m → AreStarts n starts → AreStarts m starts
AreStarts-more n m [] more h = tt
AreStarts-more n m (a ∷ []) more h = omega (arith, more, h)
AreStarts-more n m (a ∷ b ∷ starts) more h = (h.0, AreStarts-more n m (b ∷ starts) more h.1)

-- the first offset is within the buffer
first_within : (n b : ℕ) (starts : List ℕ) → AreStarts n (b ∷ starts) → b ≤ n
first_within n b [] h = h
first_within n b (c ∷ starts) h = omega (arith, h.0, first_within n c starts h.1)

-- the offsets of the later strings
pub AreStarts-drop : (n k : ℕ) (starts : List ℕ) → AreStarts n starts → AreStarts n (drop k starts)
AreStarts-drop n zero starts h = h
AreStarts-drop n (suc k) [] h = tt
AreStarts-drop n (suc k) (a ∷ []) h = AreStarts-drop n k [] tt
AreStarts-drop n (suc k) (a ∷ b ∷ starts) h = AreStarts-drop n k (b ∷ starts) h.1

-- nothing is left after all bytes
drop_all : (xs : List ℕ) → drop (length xs) xs ≡ []
drop_all [] = refl
drop_all (x ∷ xs) = drop_all xs

-- a further string, which is empty
pub strings_in-push : (bytes starts : List ℕ) → AreStarts (length bytes) starts → strings_in bytes (starts ++ length bytes ∷ []) ≡ strings_in bytes starts ++ [] ∷ []
strings_in-push bytes [] h = ap (λ (x : List ℕ). x ∷ []) (drop_all bytes)
strings_in-push bytes (a ∷ []) h = rw (take_all (length bytes) bytes (omega arith), drop_all bytes) refl
strings_in-push bytes (a ∷ b ∷ starts) h = ap (λ (strings : List (List ℕ)). drop a (take b bytes) ∷ strings) (strings_in-push bytes (b ∷ starts) h.1)

-- the growth of the last of several strings leaves the first one
grown-cons : (string : List ℕ) (strings : List (List ℕ)) (more : List ℕ) → 0 < length strings → grown (string ∷ strings) more ≡ string ∷ grown strings more
grown-cons string [] more some = absurd (omega (arith, some))
grown-cons string (next ∷ strings) more some = refl

-- the numbers of strings and of offsets are equal
pub length-strings_in : (bytes starts : List ℕ) → length (strings_in bytes starts) ≡ length starts
length-strings_in bytes [] = refl
length-strings_in bytes (a ∷ []) = refl
length-strings_in bytes (a ∷ b ∷ starts) = ap (λ (n : ℕ). suc n) (length-strings_in bytes (b ∷ starts))

-- the last string grows with the buffer
pub strings_in-append : (bytes more starts : List ℕ) → AreStarts (length bytes) starts → strings_in (bytes ++ more) starts ≡ grown (strings_in bytes starts) more
strings_in-append bytes more [] h = refl
strings_in-append bytes more (a ∷ []) h = ap (λ (x : List ℕ). x ∷ []) (drop-append-le a bytes more h)
strings_in-append bytes more (a ∷ b ∷ starts) h =
    let front : take b (bytes ++ more) ≡ take b bytes = take-append-le b bytes more (first_within (length bytes) b starts h.1) in
    let some : 0 < length (strings_in bytes (b ∷ starts)) = rw (length-strings_in bytes (b ∷ starts)) (omega arith) in
    ap (λ (x : List ℕ). drop a x ∷ strings_in (bytes ++ more) (b ∷ starts)) front
    ∙ ap (λ (strings : List (List ℕ)). drop a (take b bytes) ∷ strings) (strings_in-append bytes more (b ∷ starts) h.1)
    ∙ sym (grown-cons (drop a (take b bytes)) (strings_in bytes (b ∷ starts)) more some)

-- a buffer without offsets has no string
nothing_at : (bytes : List ℕ) (k : ℕ) → slice_get (strings_in bytes (drop k [])) 0 ≡ None
nothing_at bytes zero = refl
nothing_at bytes (suc k) = refl

-- the string at a place
pub strings_in-at : (bytes starts : List ℕ) (k : ℕ) → slice_get (strings_in bytes (drop k starts)) 0 ≡ slice_get (strings_in bytes starts) k
strings_in-at bytes starts zero = refl
strings_in-at bytes [] (suc k) = refl
strings_in-at bytes (a ∷ []) (suc k) = nothing_at bytes k
strings_in-at bytes (a ∷ b ∷ starts) (suc k) = strings_in-at bytes (b ∷ starts) k

-- no string is past the last
pub strings_in-past : (bytes starts : List ℕ) (k : ℕ) → length starts ≤ k → slice_get (strings_in bytes starts) k ≡ None
strings_in-past bytes starts k past = slice_get_past (strings_in bytes starts) k (rw (length-strings_in bytes starts) past)

-- the first of several strings
pub strings_in-first : (bytes starts : List ℕ) → 2 ≤ length starts → slice_get (strings_in bytes starts) 0 ≡ Some (drop (get_or starts 0 0) (take (get_or starts 1 0) bytes))
strings_in-first bytes [] long = absurd (omega (arith, long))
strings_in-first bytes (a ∷ []) long = absurd (omega (arith, long))
strings_in-first bytes (a ∷ b ∷ starts) long = refl

-- the begin and the end of the first string
pub first_ordered : (n : ℕ) (starts : List ℕ) → 2 ≤ length starts → AreStarts n starts → (get_or starts 0 0 ≤ get_or starts 1 0) × (get_or starts 1 0 ≤ n)
first_ordered n [] long h = absurd (omega (arith, long))
first_ordered n (a ∷ []) long h = absurd (omega (arith, long))
first_ordered n (a ∷ b ∷ starts) long h = (h.0, first_within n b starts h.1)

-- a part, cut from either end first
pub part : (a b : ℕ) (xs : List ℕ) → a ≤ b → drop a (take b xs) ≡ take (b - a) (drop a xs)
part a b xs h = ap (λ (n : ℕ). drop a (take n xs)) (sum a b h) ∙ drop-take a (b - a) xs
  where
    sum : (a b : ℕ) → a ≤ b → b ≡ a + (b - a)
    sum a b h = omega arith

-- the view, by its parts
abbrev view_at : List ℕ → List ℕ → ℕ → ℕ → ByteStringsView
view_at bytes starts room string_room = record { strings = strings_in bytes starts; room = room; string_room = string_room }

-- the view after another string begins
pub begun : (bytes starts next : List ℕ) (room string_room : ℕ) (old : ByteStringsView) → AreStarts (length bytes) starts → next ≡ starts ++ length bytes ∷ [] → view_at bytes starts room string_room ≡ old → view_at bytes next room (string_room - 1) ≡ record old { strings = old.strings ++ [] ∷ []; string_room = old.string_room - 1 }
begun bytes starts next room string_room old h is view =
    let same : strings_in bytes next ≡ strings_in bytes starts ++ [] ∷ [] = ap (strings_in bytes) is ∙ strings_in-push bytes starts h in
    ap (λ (strings : List (List ℕ)). record { strings = strings; room = room; string_room = string_room - 1 }) same
    ∙ ap (λ (v : ByteStringsView). record v { strings = v.strings ++ [] ∷ []; string_room = v.string_room - 1 }) view

-- the view after the last string grew
pub extended : (bytes next more starts : List ℕ) (room string_room : ℕ) (old : ByteStringsView) → AreStarts (length bytes) starts → next ≡ bytes ++ more → view_at bytes starts room string_room ≡ old → view_at next starts (room - length more) string_room ≡ record old { strings = grown old.strings more; room = old.room - length more }
extended bytes next more starts room string_room old h is view =
    let same : strings_in next starts ≡ grown (strings_in bytes starts) more = ap (λ (b : List ℕ). strings_in b starts) is ∙ strings_in-append bytes more starts h in
    ap (λ (strings : List (List ℕ)). record { strings = strings; room = room - length more; string_room = string_room }) same
    ∙ ap (λ (v : ByteStringsView). record v { strings = grown v.strings more; room = v.room - length more }) view

-- the offsets from one on
pub starts_at : (b bytes s starts : List ℕ) (k : ℕ) → b ≡ bytes → s ≡ starts → AreStarts (length bytes) starts → AreStarts (length b) (take (length s - k) (drop k s))
starts_at b bytes s starts k b_is s_is h =
    rw (b_is, s_is, take_rest starts k) (AreStarts-drop (length bytes) k starts h)

-- a string by its start
pub strings_at : (b bytes s starts : List ℕ) (k : ℕ) → b ≡ bytes → s ≡ starts → slice_get (strings_in b (take (length s - k) (drop k s))) 0 ≡ slice_get (strings_in bytes starts) k
strings_at b bytes s starts k b_is s_is = rw (b_is, s_is, take_rest starts k) (strings_in-at bytes starts k)
