-- A list that is filled piece by piece.
use Rattle.std.proofs.Common.{◌≡◌, ℕ, ◌+◌, ◌≤◌, List, ◌++◌, length, take, drop, ap, ◌∙◌}
use Rattle.std.proofs.lemmas.List.{append_assoc, length-take-le, take-append-le, take-take, take_at, drop_at}
use Rattle.std.proofs.Math.Seq.{take-add}

-- more than a prefix's length is the prefix, and some bytes after it
take_past : (m n : ℕ) (a b : List ℕ) → length a ≡ m → take (m + n) (a ++ b) ≡ a ++ take n b
take_past m n a b long =
    take-add m n (a ++ b)
    ∙ ap (λ (x : List ℕ). x ++ take n (drop m (a ++ b))) (take_at a b m long)
    ∙ ap (λ (x : List ℕ). a ++ take n x) (drop_at a b m long)

-- the bytes filled before, and the front of the piece that was filled now
pub filled : (done n count : ℕ) (xs buf post tail : List ℕ) → done ≤ length xs → n ≤ length buf → done + n ≤ count → take (done + n) (take count ((take done xs ++ (buf ++ post)) ++ tail)) ≡ take done xs ++ take n buf
filled done n count xs buf post tail old new room =
    let all = (take done xs ++ (buf ++ post)) ++ tail in
    take-take (done + n) count all room
    ∙ ap (λ (x : List ℕ). take (done + n) x) (append_assoc (take done xs) (buf ++ post) tail)
    ∙ take_past done n (take done xs) ((buf ++ post) ++ tail) (length-take-le done xs old)
    ∙ ap (λ (x : List ℕ). take done xs ++ x) (ap (λ (x : List ℕ). take n x) (append_assoc buf post tail) ∙ take-append-le n buf (post ++ tail) new)
