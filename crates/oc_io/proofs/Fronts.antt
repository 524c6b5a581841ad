-- Prefixes of lists, and the rests after them.
use Rattle.std.proofs.Common.{ℕ, ◌≡◌, ◌≤◌, ◌+◌, ◌-◌, List, ◌++◌, length, take, drop, sym, subst, ap, ◌∙◌, arith}
use Rattle.std.proofs.lemmas.List.{length-drop, length-take-le, take-append-le, take-append-drop, drop-drop}
use Rattle.std.proofs.Math.Seq.{take-add, take-length}

-- the bytes of a slice from an index to the end
pub rest-is : (done : ℕ) (bytes : List ℕ) → take (length bytes - done) (drop done bytes) ≡ drop done bytes
rest-is done bytes =
    let rest = drop done bytes in
    subst (λ k. take k rest ≡ rest) (length-drop done bytes) (take-length rest)

-- the length of those bytes
pub length-rest : (done : ℕ) (bytes : List ℕ) → length (take (length bytes - done) (drop done bytes)) ≡ length bytes - done
length-rest done bytes = ap length (rest-is done bytes) ∙ length-drop done bytes

-- a prefix, and a prefix of the bytes that follow it
pub next-front : (done n : ℕ) (bytes : List ℕ) → take done bytes ++ take n (take (length bytes - done) (drop done bytes)) ≡ take (done + n) bytes
next-front done n bytes = rw (rest-is done bytes) (sym (take-add done n bytes))

-- a prefix of the bytes that follow ends within them
pub next-within : (done n : ℕ) (bytes : List ℕ) → done ≤ length bytes → n ≤ length (take (length bytes - done) (drop done bytes)) → done + n ≤ length bytes
next-within done n bytes within fits =
    omega (arith, length-rest done bytes)

-- a prefix that was copied over the front of a buffer is the buffer's front
pub front_of-copied : (n : ℕ) (xs behind : List ℕ) → n ≤ length xs → take n (take n xs ++ behind) ≡ take n xs
front_of-copied n xs behind fits =
    let long : n ≤ length (take n xs) = omega (arith, length-take-le n xs fits) in
    take-append-le n (take n xs) behind long ∙ subst (λ k. take k (take n xs) ≡ take n xs) (length-take-le n xs fits) (take-length (take n xs))

-- the remaining bytes are the copied ones, and the rest after them
pub left-copied : (at n : ℕ) (bytes copied behind : List ℕ) → n ≤ length bytes - at → copied ≡ take n (take (length bytes - at) (drop at bytes)) → drop at bytes ≡ take n (copied ++ behind) ++ drop (at + n) bytes
left-copied at n bytes copied behind fits e =
    let left = drop at bytes in
    let is_front : copied ≡ take n left = e ∙ ap (take n) (rest-is at bytes) in
    let long : n ≤ length left = omega (arith, length-drop at bytes) in
    rw (is_front, front_of-copied n left behind long, ← drop-drop n at bytes) (sym (take-append-drop n left))
