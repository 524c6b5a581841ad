-- The least lengths of the fields of the kinds.
use Rattle.std.proofs.Common.{◌≡◌, ℕ, ◌-◌, ◌≤◌, Bool, true, false, ◌&&◌, ◌==◌, List, [], ◌∷◌, length, get_or, ap, subst, ◌∙◌, arith, eqb-true}
use Rattle.std.specs.List.{AllByRecursion}
use Rattle.std.proofs.lemmas.Bool.{and_parts}
use Rattle.oc_base.specs.declared.code_row.CodeRow.{CodeRow}
use Rattle.oc_base.specs.declared.rank.Rank.{Rank}
use Rattle.oc_model.specs.declared.record.Record.{Record}
use Rattle.oc_model.specs.declared.record.Record.TheVariants.{Ask, Joined, Lost, Acting, Ranked, OldEntry, Acked, Ancestors, Rate, Epoch, Base, Snapshot, Entry, Info}
use Rattle.oc_record.specs.Spelling.{code_of, fields_bytes}
use Rattle.oc_record.specs.Rows.{HasLeast}

-- the least lengths of the codes 1 to 14
abbrev pub leasts : List ℕ
leasts = 12 ∷ 16 ∷ 0 ∷ 0 ∷ 12 ∷ 17 ∷ 8 ∷ 2 ∷ 13 ∷ 8 ∷ 8 ∷ 8 ∷ 33 ∷ 16 ∷ []

abbrev pub least_of : ℕ → ℕ
least_of code = get_or leasts (code - 1) 0

-- no record has shorter fields
no_shorter_at : (r : Record) → least_of (code_of r) ≤ length (fields_bytes r)
no_shorter_at (Ask seq peer) = omega arith
no_shorter_at (Joined peer rank) = omega arith
no_shorter_at Lost = omega arith
no_shorter_at Acting = omega arith
no_shorter_at (Ranked rank) = omega arith
no_shorter_at (OldEntry subject seq parent dead) = omega arith
no_shorter_at (Acked upto) = omega arith
no_shorter_at (Ancestors ids) = omega arith
no_shorter_at (Rate peer rate hops) = omega arith
no_shorter_at (Epoch epoch) = omega arith
no_shorter_at (Base acked) = omega arith
no_shorter_at (Snapshot generation) = omega arith
no_shorter_at (Entry cert) = omega arith
no_shorter_at (Info number clients) = omega arith

-- whether a record has the code of this row, and fields of its least length, which is that of the kind
abbrev is_shortest : CodeRow → Record → Bool
is_shortest row r = code_of r == row.code && (length (fields_bytes r) == row.least && least_of row.code == row.least)

abbrev pub are_shortest : List CodeRow → List Record → Bool
are_shortest [] rs = true
are_shortest (row ∷ rows) [] = false
are_shortest (row ∷ rows) (r ∷ rs) = is_shortest row r && are_shortest rows rs

-- a row with such a record has the least length of its kind
has_least : (row : CodeRow) (r : Record) → is_shortest row r ≡ true → HasLeast row
has_least row r is_so =
    let both = and_parts (code_of r == row.code) (length (fields_bytes r) == row.least && least_of row.code == row.least) is_so in
    let lengths = and_parts (length (fields_bytes r) == row.least) (least_of row.code == row.least) both.1 in
    let same : least_of row.code ≡ row.least = eqb-true (least_of row.code) row.least lengths.1 in
    record {
      no_shorter = λ s is. subst (λ (n : ℕ). n ≤ length (fields_bytes s)) (ap least_of is ∙ same) (no_shorter_at s);
      shortest = r;
      kind = eqb-true (code_of r) row.code both.0;
      exact = eqb-true (length (fields_bytes r)) row.least lengths.0;
    }

pub have_leasts : (rows : List CodeRow) (rs : List Record) → are_shortest rows rs ≡ true → AllByRecursion HasLeast rows
have_leasts [] rs are_so = tt
have_leasts (row ∷ rows) [] are_so = absurd cc
have_leasts (row ∷ rows) (r ∷ rs) are_so =
    let both = and_parts (is_shortest row r) (are_shortest rows rs) are_so in (has_least row r both.0, have_leasts rows rs both.1)

-- a shortest record of each kind
abbrev pub shortest : List Record
shortest =
    Ask 1 1 ∷ Joined 1 rank ∷ Lost ∷ Acting ∷ Ranked rank ∷ OldEntry 1 1 1 false ∷ Acked 0 ∷ Ancestors [] ∷ Rate 1 0 0 ∷ Epoch 0 ∷ Base 0
    ∷ Snapshot 1 ∷ Entry (record { subject = 1; seq = 1; parent = 1; dead = false; number = 0; clients = 0 }) ∷ Info 1 0 ∷ [] where
      rank : Rank
      rank = record { epoch = 0; depth = 0 }
