use Rattle.std.proofs.Common.{ℕ, suc, ◌≡◌, ◌<◌, List, [], ◌∷◌, length, get_or, drop, refl, sym, arith}
use Rattle.std.specs.Int.{w32, to_be_bytes, from_be_bytes}
use Rattle.std.proofs.lemmas.Nat.{be_bytes_4}
use Rattle.oc_journal.proofs.loading.len_in.Goals as goal

-- four bytes after a first one
behind : (head : List ℕ) (len : ℕ) → length head ≡ 5 → ((i : ℕ) → get_or head i 0 < 256) → len ≡ from_be_bytes w32 (get_or head 1 0 ∷ get_or head 2 0 ∷ get_or head 3 0 ∷ get_or head 4 0 ∷ []) → drop 1 head ≡ to_be_bytes w32 len
behind [] len long fits is = absurd (omega arith)
behind (a ∷ []) len long fits is = absurd (omega arith)
behind (a ∷ b ∷ []) len long fits is = absurd (omega arith)
behind (a ∷ b ∷ c ∷ []) len long fits is = absurd (omega arith)
behind (a ∷ b ∷ c ∷ d ∷ []) len long fits is = absurd (omega arith)
behind (a ∷ b ∷ c ∷ d ∷ e ∷ []) len long fits is =
    sym (be_bytes_4 (b ∷ c ∷ d ∷ e ∷ []) len refl (λ i. fits (suc i)) is)
behind (a ∷ b ∷ c ∷ d ∷ e ∷ f ∷ rest) len long fits is = absurd (omega arith)

pub returns : goal.returns
returns c = behind c.args.head.now c.from_be_bytes.result c.told-head c.fits-head c.from_be_bytes.ensures
