-- Certificates of rows, put into a log one after another.
use Rattle.std.proofs.Common.{◌≡◌, ℕ, ◌+◌, ◌<◌, ◌≤◌, Option, Some, None, List, [], ◌∷◌, ◌++◌, length, drop, get_or, ap, sym, ◌∙◌, arith, length-append}
use Rattle.std.proofs.lemmas.List.{drop-drop}
use Rattle.oc_base.specs.declared.cert.Cert.{Cert}
use Rattle.oc_updown.specs.TableView.{entries_of}
use Rattle.oc_updown.proofs.Lines.{rows_at}

-- the first row gives its certificate, and the rest the others
pub entries_cons : (row : Option Cert) (rows : List (Option Cert)) → length (entries_of (row ∷ rows)) ≡ length (entries_of (row ∷ [])) + length (entries_of rows)
entries_cons None rows = omega arith
entries_cons (Some k) rows = omega arith

-- room for all rows is room for the row that comes next
pub room_for_row : (certs before : List Cert) (rows : List (Option Cert)) (i : ℕ) (row : Option Cert) (room : ℕ) → i < length rows → row ≡ get_or rows i row → certs ++ entries_of (drop i rows) ≡ before ++ entries_of rows → length before + length (entries_of rows) ≤ room → length certs + length (entries_of (row ∷ [])) ≤ room
room_for_row certs before rows i row room within e so fits =
    let here : length (entries_of (drop i rows)) ≡ length (entries_of (row ∷ [])) + length (entries_of (drop (i + 1) rows)) = ap (λ (rs : List (Option Cert)). length (entries_of rs)) (rows_at rows i row within e) ∙ entries_cons row (drop (i + 1) rows) in
    let all : length certs + length (entries_of (drop i rows)) ≡ length before + length (entries_of rows) = sym (length-append certs (entries_of (drop i rows))) ∙ (ap length so ∙ length-append before (entries_of rows)) in
    omega arith

-- one more item is dropped
pub drop_more : (i : ℕ) (cs new : List Cert) → new ≡ drop 1 (drop i cs) → new ≡ drop (i + 1) cs
drop_more i cs new e = e ∙ drop-drop 1 i cs
