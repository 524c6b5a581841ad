-- Parts of a text, put one after the other.
use Rattle.std.proofs.Common.{◌≡◌, ◌∙◌, ℕ, List, ◌++◌, ap, append_assoc}

-- four parts are put as one
pub four_parts : (a b c d e w x y z : List ℕ) → b ≡ a ++ w → c ≡ b ++ x → d ≡ c ++ y → e ≡ d ++ z → e ≡ a ++ (w ++ x ++ y ++ z)
four_parts a b c d e w x y z first second third fourth =
    fourth
    ∙ ap (λ l. l ++ z) (third ∙ ap (λ l. l ++ y) (second ∙ ap (λ l. l ++ x) first ∙ append_assoc a w x) ∙ append_assoc a (w ++ x) y)
    ∙ append_assoc a (w ++ x ++ y) z
