-- The Location of a group is read as its name.
use Rattle.std.proofs.Common.{◌≡◌, ℕ, ◌<◌, true, ◌&&◌, ◌==◌, Option, Some, List, [], ◌∷◌, ◌++◌, codes, sym, subst, append_assoc, arith}
use Rattle.std.specs.Prelude.{nat_lt, not}
use Rattle.std.specs.List.{list_all}
use Rattle.std.proofs.lemmas.Bool.{and_parts, eqb-true}
use Rattle.std.proofs.lemmas.Bool.Decides.{nat_tests}
use Rattle.std.proofs.lemmas.List.Elements.{All-cons, All-nil}
use Rattle.oc_base.specs.Names.{IsGroupName, is_path}
use Rattle.oc_http.specs.Escapes.{AreBytes, decoded, path_text}
use Rattle.oc_http.specs.Targets.{path_of}
use Rattle.oc_http.specs.Writing.{query_text}
use Rattle.oc_routes.specs.PlainNames.{is_plain}
use Rattle.oc_routes.specs.Shown.{follow_text, location_of, start_text}
use Rattle.oc_routes.specs.declared.manner.Manner.{Manner}
use Rattle.oc_routes.proofs.PlainNames.{name_is_path, name_is_plain}

plain_small : (b : ℕ) → is_plain b ≡ true → (0 < b) × (b < 256)
plain_small b plain =
    let outer = and_parts (nat_lt 32 b && nat_lt b 127 && not (b == 34)) (not (b == 92)) plain in
    let middle = and_parts (nat_lt 32 b && nat_lt b 127) (not (b == 34)) outer.0 in
    let inner = and_parts (nat_lt 32 b) (nat_lt b 127) middle.0 in
    let above : nat_lt 32 b ≡ true = inner.0 in
    let below : nat_lt b 127 ≡ true = inner.1 in
    (grind (arith, nat_tests), grind (arith, nat_tests))

all_small : (bytes : List ℕ) → list_all is_plain bytes ≡ true → AreBytes bytes
all_small [] plain = All-nil (λ b. (0 < b) × (b < 256))
all_small (b ∷ bytes) plain =
    let parts = and_parts (is_plain b) (list_all is_plain bytes) plain in
    All-cons (λ b. (0 < b) × (b < 256)) b bytes (plain_small b parts.0) (all_small bytes parts.1)

-- a name begins with a slash
slash_first : (b : ℕ) (rest : List ℕ) → IsGroupName (b ∷ rest) → b ≡ 47
slash_first b rest name = eqb-true b 47 ((and_parts (b == 47) _ (name_is_path (b ∷ rest) name)).0)

no_path : is_path [] ≡ true → ⊥
no_path is = cc is

in_groups : (front path mark start told more : List ℕ) → front ++ path ++ mark ++ start ++ told ++ more ≡ front ++ (path ++ (mark ++ (start ++ told ++ more)))
in_groups front path mark start told more = simp append_assoc

-- the target of a Location of a group, whose path is decoded to the group
pub located : ((rest : List ℕ) (query : Option (List ℕ)) → AreBytes (47 ∷ rest) → decoded (path_of (path_text (47 ∷ rest) ++ query_text query)) ≡ Some (47 ∷ rest))
    → (address group told : List ℕ) (start : ℕ) (manner : Manner) → IsGroupName group
    → (target : List ℕ) × (location_of address group start told manner ≡ codes "http://" ++ address ++ target) × (decoded (path_of target) ≡ Some group)
located read address [] told start manner name = absurd (no_path (name_is_path [] name))
located read address (b ∷ rest) told start manner name =
    let query : List ℕ = start_text start ++ told ++ follow_text manner in
    let slash : b ≡ 47 = slash_first b rest name in
    let bytes : AreBytes (b ∷ rest) = all_small (b ∷ rest) (name_is_plain (b ∷ rest) name) in (
      path_text (b ∷ rest) ++ query_text (Some query),
      in_groups (codes "http://" ++ address) (path_text (b ∷ rest)) (codes "?") (start_text start) told (follow_text manner),
      subst (λ (x : ℕ). AreBytes (x ∷ rest) → decoded (path_of (path_text (x ∷ rest) ++ query_text (Some query))) ≡ Some (x ∷ rest)) (sym slash) (read rest (Some query)) bytes,
    )
