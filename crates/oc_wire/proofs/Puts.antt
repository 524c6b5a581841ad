-- Items that are put one after the other.
use Rattle.std.proofs.Common.{◌≡◌, ℕ, ◌+◌, ◌<◌, List, [], ◌∷◌, ◌++◌, length, get_or, take, Result, Ok, Err, OnOk, sym, ap, ◌∙◌, append_assoc, add-one}
use Rattle.std.specs.List.{flat_map}
use Rattle.oc_base.proofs.Puts.{more}
use Rattle.std.proofs.Math.Seq.{take-suc}
use Rattle.std.proofs.lemmas.Grind.{flat_map-append}
use Rattle.std.proofs.lemmas.List.{append-nil}
use Rattle.std.proofs.lemmas.List.Concat.{flat_map-cons}

-- the text of one item
one_text : {A : Type 0} (text : A → List ℕ) (x : A) → flat_map text (x ∷ []) ≡ text x
one_text text x = flat_map-cons text x [] ∙ append-nil (text x)

-- the texts up to the next item
texts_more : {A : Type 0} (text : A → List ℕ) (xs : List A) (i : ℕ) (x : A) → i < length xs → x ≡ get_or xs i x → flat_map text (take (i + 1) xs) ≡ flat_map text (take i xs) ++ text x
texts_more {A = A} text xs i x lt is =
    let items : take (i + 1) xs ≡ take i xs ++ (x ∷ []) = rw add-one (take-suc xs i x lt ∙ ap (λ (y : A). take i xs ++ (y ∷ [])) (sym is)) in
    ap (flat_map text) items ∙ flat_map-append text (take i xs) (x ∷ []) ∙ ap (λ (y : List ℕ). flat_map text (take i xs) ++ y) (one_text text x)

-- an item is put after those before it, in the round of a loop
pub item_more : {A : Type 0} (text : A → List ℕ) (xs : List A) (i : ℕ) (x : A) (start front before after : List ℕ) → i < length xs → x ≡ get_or xs i x
    → before ≡ start ++ (front ++ flat_map text (take i xs)) → after ≡ before ++ text x → after ≡ start ++ (front ++ flat_map text (take (i + 1) xs))
item_more text xs i x start front before after lt is so_far put =
    let whole : (start ++ (front ++ flat_map text (take i xs))) ++ text x ≡ start ++ (front ++ (flat_map text (take i xs) ++ text x)) = simp append_assoc in
    put ∙ ap (λ (y : List ℕ). y ++ text x) so_far ∙ whole ∙ ap (λ (y : List ℕ). start ++ (front ++ y)) (sym (texts_more text xs i x lt is))

-- the last text is put after the others, where that goes well
pub more_if_ok : {T E : Type 0} (out text last before after : List ℕ) (done : Result T E) → before ≡ out ++ text → OnOk done (after ≡ before ++ last) → OnOk done (after ≡ out ++ (text ++ last))
more_if_ok out text last before after (Ok x) e f = more out text last before after e f
more_if_ok out text last before after (Err x) e f = tt
