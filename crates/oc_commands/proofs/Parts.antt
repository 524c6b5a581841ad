-- Parts of a text, taken one after another.
use Rattle.std.proofs.Common.{◌≡◌, ℕ, suc, ◌+◌, ◌<◌, List, [], ◌∷◌, ◌++◌, length, take, drop, get_or, refl, sym, ap, ◌∙◌, arith, append_assoc}
use Rattle.std.specs.Borrow.{Bor}
use Rattle.std.proofs.lemmas.List.{take-append-le, take-append-drop, get_or_default}
use Rattle.std.proofs.Math.Seq.{drop-cons, take-append-add}
use Rattle.std.specs.Prelude.{Result, Ok, Err, OnErr}
use Rattle.oc_http.specs.Parts.{joined}

-- parts after parts
joined-append : (xs ys : List (Bor (List ℕ))) → joined (xs ++ ys) ≡ joined xs ++ joined ys
joined-append [] ys = refl
joined-append (x ∷ xs) ys = ap (λ (l : List ℕ). x.now ++ l) (joined-append xs ys) ∙ sym (append_assoc x.now (joined xs) (joined ys))

-- the parts so far and a prefix of the next are a prefix of all
pub joined_front : (parts : List (Bor (List ℕ))) (i n : ℕ) (d : Bor (List ℕ)) → i < length parts → n < length (get_or parts i d).now →
    joined (take i parts) ++ take n (get_or parts i d).now ≡ take (length (joined (take i parts)) + n) (joined parts)
joined_front parts i n d inside few =
    let part : List ℕ = (get_or parts i d).now in
    let rest : joined (drop i parts) ≡ part ++ joined (drop (suc i) parts) = ap joined (drop-cons parts i (get_or parts i d) inside ∙ ap (λ (p : Bor (List ℕ)). p ∷ drop (suc i) parts) (get_or_default parts i (get_or parts i d) d inside)) in
    let whole : joined parts ≡ joined (take i parts) ++ (part ++ joined (drop (suc i) parts)) = ap joined (sym (take-append-drop i parts)) ∙ (joined-append (take i parts) (drop i parts) ∙ ap (λ (l : List ℕ). joined (take i parts) ++ l) rest) in
    ap (λ (l : List ℕ). joined (take i parts) ++ l) (sym (take-append-le n part (joined (drop (suc i) parts)) (omega (arith, few))))
    ∙ (sym (take-append-add (joined (take i parts)) (part ++ joined (drop (suc i) parts)) n) ∙ ap (take (length (joined (take i parts)) + n)) (sym whole))

-- a property that holds, if a call failed
pub on_err : {A E : Type 0} (r : Result A E) (P : Type 0) → P → OnErr r P
on_err (Ok v) P holds = tt
on_err (Err e) P holds = holds
