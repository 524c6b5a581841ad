-- Tokens: the text that shows one, and the rules that ask for no more than others.
use Rattle.std.proofs.Common.{◌≡◌, ℕ, true, false, Option, Some, None, List, codes, refl, sym, ap, ◌∙◌}
use Rattle.std.specs.Str.{bytes_eq}
use Rattle.std.proofs.lemmas.List.{append_cancel_left}
use Rattle.std.proofs.lemmas.Slice.Eq.{bytes_eq-Decides}
use Rattle.oc_policy.specs.Covering.{part_covers}
use Rattle.oc_policy.specs.Tokens.{bearer, is_shown}

-- each token can be shown
shown : (token : List ℕ) → is_shown (Some token) (Some (bearer token)) ≡ true
shown token = (bytes_eq-Decides (bearer token) (bearer token)).1 refl

-- a request shows any demand
pub a_value : (o : Option (List ℕ)) → (s : Option (List ℕ)) × (is_shown o s ≡ true)
a_value None = (None, refl)
a_value (Some token) = (Some (bearer token), shown token)

-- the text that shows one token does not show another
same_token : (token other : List ℕ) → is_shown (Some token) (Some (bearer other)) ≡ true → other ≡ token
same_token token other h = append_cancel_left (codes "Bearer ") other token ((bytes_eq-Decides (bearer other) (bearer token)).0 h)

-- a request that shows the second demand shows the first
pub token_through : (part other value : Option (List ℕ)) → part_covers bytes_eq part other ≡ true → is_shown other value ≡ true → is_shown part value ≡ true
token_through None other value h m = refl
token_through (Some p) None value h m = absurd cc
token_through (Some p) (Some q) None h m = absurd cc
token_through (Some p) (Some q) (Some v) h m =
    let same = (bytes_eq-Decides p q).0 h in
    (bytes_eq-Decides v (bearer p)).1 ((bytes_eq-Decides v (bearer q)).0 m ∙ ap bearer (sym same))

-- a part covers another where each request that shows the other shows it
pub token_from_all : (part other : Option (List ℕ)) → ((s : Option (List ℕ)) → is_shown other s ≡ true → is_shown part s ≡ true) → part_covers bytes_eq part other ≡ true
token_from_all None None all = refl
token_from_all None (Some q) all = refl
token_from_all (Some p) None all = let none : false ≡ true = all None refl in absurd cc
token_from_all (Some p) (Some q) all = (bytes_eq-Decides p q).1 (sym (same_token p q (all (Some (bearer q)) (shown q))))
