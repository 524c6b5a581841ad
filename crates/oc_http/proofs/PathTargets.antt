-- The path of a target that was written from a path.
use Rattle.std.proofs.Common.{◌≡◌, ℕ, ◌+◌, not, ◌==◌, false, List, [], ◌∷◌, ◌++◌, length, take, Some, refl, ap, ◌∙◌, subst, arith, append-nil}
use Rattle.std.specs.Prelude.{All, Bool, Option, None, if◌then◌else◌}
use Rattle.std.specs.List.{AllByRecursion, prefix_len}
use Rattle.std.proofs.Math.Seq.{take-append-add}
use Rattle.std.proofs.lemmas.Bool.Decides.{nat_tests}
use Rattle.std.proofs.lemmas.List.Elements.{recursion_from_All}
use Rattle.percent_encoding.proofs.PercentLemmas.{All-percent_encode, IsEscapeByte}
use Rattle.oc_http.specs.Escapes.{AreBytes, decoded, is_plain, path_text}
use Rattle.oc_http.specs.Targets.{path_of}
use Rattle.oc_http.specs.Writing.{query_text}
use Rattle.oc_http.specs.declared.escapes.TheConstants.{ESCAPED}
use Rattle.oc_http.proofs.PathTexts.{escaped, read_again, written}

-- a byte that does not begin a query
abbrev IsInPath : ℕ → Type 0
IsInPath b = (b == 63) ≡ false

plain_in_path : (b : ℕ) → not (is_plain b) ≡ false → IsInPath b
plain_in_path b plain = grind (arith, nat_tests)

escape_in_path : (b : ℕ) → IsEscapeByte b → IsInPath b
escape_in_path b escape = grind (arith, nat_tests)

-- the text of a path begins no query
in_path : (path : List ℕ) → AllByRecursion IsInPath (path_text path)
in_path path =
    recursion_from_All IsInPath (path_text path)
    (subst (λ (text : List ℕ). All IsInPath text) (written path)
    (All-percent_encode IsInPath ESCAPED path (λ b kept. plain_in_path b (subst (λ (t : Bool). t ≡ false) (escaped b) kept)) escape_in_path))

-- the number of bytes before a query
abbrev before_query : List ℕ → ℕ
before_query bytes = prefix_len (λ b. not (b == 63)) bytes

path_first : (path more : List ℕ) → AllByRecursion IsInPath path → before_query (path ++ more) ≡ length path + before_query more
path_first [] more all = omega arith
path_first (b ∷ path) more all =
    let next = path_first path more all.1 in
    ap (λ (t : Bool). if not t then 1 + before_query (path ++ more) else 0) all.0 ∙ omega (arith, next)

query_first : (query : Option (List ℕ)) → before_query (query_text query) ≡ 0
query_first None = refl
query_first (Some query) = refl

-- the path of a target that begins with a slash ends where its query begins
path_is : (rest : List ℕ) (query : Option (List ℕ)) → path_of (path_text (47 ∷ rest) ++ query_text query) ≡ path_text (47 ∷ rest)
path_is rest query =
    let text = path_text (47 ∷ rest) in
    let count : before_query (text ++ query_text query) ≡ length text + 0 = path_first text (query_text query) (in_path (47 ∷ rest)) ∙ ap (λ (n : ℕ). length text + n) (query_first query) in
    ap (λ (n : ℕ). take n (text ++ query_text query)) count ∙ (take-append-add text (query_text query) 0 ∙ append-nil text)

-- the text is read as the path that was written
pub target_read_again : (rest : List ℕ) (query : Option (List ℕ)) → AreBytes (47 ∷ rest) → decoded (path_of (path_text (47 ∷ rest) ++ query_text query)) ≡ Some (47 ∷ rest)
target_read_again rest query small = ap decoded (path_is rest query) ∙ read_again (47 ∷ rest) small
