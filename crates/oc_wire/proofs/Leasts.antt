-- The least lengths of the fields of the kinds, and the lengths of the fields after the refusals' codes.
use Rattle.std.proofs.Common.{◌≡◌, ℕ, ◌+◌, ◌^◌, ◌≤◌, ◌++◌, Bool, true, false, ◌&&◌, ◌==◌, cond, Option, Some, None, List, [], ◌∷◌, length, replicate, refl, sym, ap, subst, ◌∙◌, arith}
use Rattle.std.specs.List.{AllByRecursion}
use Rattle.std.proofs.lemmas.Bool.{and_parts, eqb-true, le-leb, leb-true}
use Rattle.std.proofs.lemmas.List.{length-append, length-replicate}
use Rattle.oc_base.specs.declared.code_row.CodeRow.{CodeRow}
use Rattle.oc_base.specs.declared.rank.Rank.{Rank}
use Rattle.oc_base.specs.declared.refusal.Refusal.{Refusal}
use Rattle.oc_base.specs.declared.refusal.Refusal.TheVariants as refusals
use Rattle.oc_base.specs.Spelling.{eight, flag}
use Rattle.oc_model.specs.Lawful.{IsBody}
use Rattle.oc_model.specs.declared.message.Body.{Body}
use Rattle.oc_model.specs.declared.message.Body.TheVariants.{Look, LookIs, Ask, Yes, No, CheckIn, CheckAck, Rejoin, Fetch, Chunk}
use Rattle.oc_wire.specs.Rows.{HasLeast, HasLength}
use Rattle.oc_wire.specs.Spelling.{parent_bytes, rank_or_none_bytes, why_code, why_fields, name_bytes, is_large, length_bytes, chunk_code, code_of, fields_bytes}
use Rattle.oc_wire.proofs.NameReads.{name_size}

-- the least length of the fields of a code
abbrev least_of : ℕ → ℕ
least_of code =
    cond (code == 2) 15 (cond (code == 3) 9 (cond (code == 4) 22 (cond (code == 5) 9 (cond (code == 7) 30
    (cond (code == 8) 8 (cond (code == 11) 41 (cond (code == 12) 1 (cond (code == 13) 14 (cond (code == 14) 65552 0)))))))))

parent_size : (parent : Option ℕ) → length (parent_bytes parent) ≡ 4
parent_size None = refl
parent_size (Some id) = refl

rank_size : (rank : Option Rank) → 1 ≤ length (rank_or_none_bytes rank)
rank_size None = omega arith
rank_size (Some rank) = omega arith

-- the length of a chunk's fields
chunk_size : (group piece : List ℕ) (start : ℕ) (last large : Bool) → length (name_bytes group ++ eight start ++ flag last ++ (length_bytes large (length piece) ++ piece)) ≡ length group + 10 + (length (length_bytes large (length piece)) + length piece)
chunk_size group piece start last large =
    let front = name_bytes group ++ eight start in
    let middle = front ++ flag last in
    let size = length_bytes large (length piece) in
    omega (arith, length-append middle (size ++ piece), length-append front (flag last), length-append (name_bytes group) (eight start), length-append size piece)

-- no lawful body has shorter fields
no_shorter_at : (nodes : ℕ) (b : Body) → IsBody nodes b → least_of (code_of b) ≤ length (fields_bytes b)
no_shorter_at nodes Look h = omega arith
no_shorter_at nodes (LookIs in_tree None rate children) h = omega arith
no_shorter_at nodes (LookIs in_tree (Some id) rate children) h = omega arith
no_shorter_at nodes (Ask seq rank) h = omega (arith, rank_size rank)
no_shorter_at nodes (Yes seq rank ancestors) h = omega arith
no_shorter_at nodes (No seq why) h = omega arith
no_shorter_at nodes (CheckIn seq upto rate number clients certs) h = omega arith
no_shorter_at nodes (CheckAck seq upto rank ancestors) h = omega arith
no_shorter_at nodes (Rejoin seq) h = omega arith
no_shorter_at nodes (Fetch have) h = omega arith
no_shorter_at nodes (Chunk group start piece last) h = by_size (is_large piece) refl where
  by_size : (large : Bool) → is_large piece ≡ large → least_of (chunk_code large) ≤ length (name_bytes group ++ eight start ++ flag last ++ (length_bytes large (length piece) ++ piece))
  by_size true is = omega (arith, chunk_size group piece start last true, (name_size group h.0).0, leb-true (2 ^ 16) (length piece) is)
  by_size false is = omega (arith, chunk_size group piece start last false, (name_size group h.0).0)

-- whether a body has the code of this row, and fields of its least length, which is that of the kind
abbrev is_shortest : CodeRow → Body → Bool
is_shortest row b = code_of b == row.code && (length (fields_bytes b) == row.least && least_of row.code == row.least)

abbrev pub are_shortest : List CodeRow → List Body → Bool
are_shortest [] bs = true
are_shortest (row ∷ rows) [] = false
are_shortest (row ∷ rows) (b ∷ bs) = is_shortest row b && are_shortest rows bs

-- a row with such a body has the least length of its kind
has_least : (row : CodeRow) (b : Body) → IsBody 1 b → is_shortest row b ≡ true → HasLeast row
has_least row b lawful is_so =
    let both = and_parts (code_of b == row.code) (length (fields_bytes b) == row.least && least_of row.code == row.least) is_so in
    let lengths = and_parts (length (fields_bytes b) == row.least) (least_of row.code == row.least) both.1 in
    let same : least_of row.code ≡ row.least = eqb-true (least_of row.code) row.least lengths.1 in
    record {
      no_shorter = λ nodes s h is. subst (λ (n : ℕ). n ≤ length (fields_bytes s)) (ap least_of is ∙ same) (no_shorter_at nodes s h);
      shortest = b;
      lawful = lawful;
      kind = eqb-true (code_of b) row.code both.0;
      exact = eqb-true (length (fields_bytes b)) row.least lengths.0;
    }

pub have_leasts : (rows : List CodeRow) (bs : List Body) → AllByRecursion (IsBody 1) bs → are_shortest rows bs ≡ true → AllByRecursion HasLeast rows
have_leasts [] bs lawful are_so = tt
have_leasts (row ∷ rows) [] lawful are_so = absurd cc
have_leasts (row ∷ rows) (b ∷ bs) lawful are_so =
    let both = and_parts (is_shortest row b) (are_shortest rows bs) are_so in (has_least row b lawful.0 both.0, have_leasts rows bs lawful.1 both.1)

-- a shortest body of each kind
abbrev pub shortest : List Body
shortest =
    Look ∷ LookIs false None 0 [] ∷ Ask 1 None ∷ Yes 1 rank [] ∷ No 1 refusals.Own ∷ CheckIn 1 0 0 0 0 [] ∷ CheckAck 1 0 rank [] ∷ Rejoin 1 ∷ Fetch []
    ∷ Chunk (47 ∷ 97 ∷ []) 0 [] false ∷ [] where
      rank : Rank
      rank = record { epoch = 0; depth = 0 }

-- each of them is lawful for one node
pub are_lawful : AllByRecursion (IsBody 1) shortest
are_lawful = search arith

-- a chunk of the fewest bytes with the last code
large_of : (piece : List ℕ) → length piece ≡ 2 ^ 16 → HasLeast (record { code = 14; least = 65552 })
large_of piece size =
    let large : is_large piece ≡ true = le-leb (2 ^ 16) (length piece) (omega (arith, size)) in
    record {
      no_shorter = λ nodes s h is. subst (λ (n : ℕ). n ≤ length (fields_bytes s)) (ap least_of is) (no_shorter_at nodes s h);
      shortest = Chunk (47 ∷ 97 ∷ []) 0 piece false;
      lawful = (refl, omega arith, omega (arith, size));
      kind = ap chunk_code large;
      exact = subst (λ (b : Bool). length (name_bytes (47 ∷ 97 ∷ []) ++ eight 0 ++ flag false ++ (length_bytes b (length piece) ++ piece)) ≡ 65552) (sym large) (omega (arith, chunk_size (47 ∷ 97 ∷ []) piece 0 false true, size));
    }

pub large_least : HasLeast (record { code = 14; least = 65552 })
large_least = let zero : ℕ = 0 in large_of (replicate (2 ^ 16) zero) (length-replicate (2 ^ 16) zero)

-- the length of the fields after the code of a refusal
abbrev length_of : ℕ → ℕ
length_of code = cond (code == 5) 4 0

length_at : (why : Refusal) → length (why_fields why) ≡ length_of (why_code why)
length_at refusals.Own = refl
length_at refusals.NotJoined = refl
length_at refusals.Ancestor = refl
length_at refusals.Depth = refl
length_at (refusals.Chain k) = refl
length_at refusals.Rank = refl

has_length : (row : CodeRow) (why : Refusal) → (why_code why == row.code && length_of row.code == row.least) ≡ true → HasLength row
has_length row why is_so =
    let both = and_parts (why_code why == row.code) (length_of row.code == row.least) is_so in
    record {
      exact = λ other is. length_at other ∙ ap length_of is ∙ eqb-true (length_of row.code) row.least both.1;
      some = why;
      kind = eqb-true (why_code why) row.code both.0;
    }

abbrev pub are_of : List CodeRow → List Refusal → Bool
are_of [] whys = true
are_of (row ∷ rows) [] = false
are_of (row ∷ rows) (why ∷ whys) = (why_code why == row.code && length_of row.code == row.least) && are_of rows whys

pub have_lengths : (rows : List CodeRow) (whys : List Refusal) → are_of rows whys ≡ true → AllByRecursion HasLength rows
have_lengths [] whys are_so = tt
have_lengths (row ∷ rows) [] are_so = absurd cc
have_lengths (row ∷ rows) (why ∷ whys) are_so =
    let both = and_parts (why_code why == row.code && length_of row.code == row.least) (are_of rows whys) are_so in (has_length row why both.0, have_lengths rows whys both.1)

-- each refusal
abbrev pub refusals_all : List Refusal
refusals_all = refusals.Own ∷ refusals.NotJoined ∷ refusals.Ancestor ∷ refusals.Depth ∷ refusals.Chain 1 ∷ refusals.Rank ∷ []
