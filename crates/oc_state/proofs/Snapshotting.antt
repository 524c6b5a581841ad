-- The records of a snapshot, one part after another.
use Rattle.std.proofs.Common.{◌≡◌, ℕ, zero, suc, ◌+◌, ◌-◌, ◌<◌, Bool, true, false, Option, Some, None, Result, Ok, Err, IfOk, List, [], ◌∷◌, ◌++◌, length, drop, get_or, refl, ap, sym, ◌∙◌, append_assoc, arith}
use Rattle.oc_base.specs.declared.cert.Cert.{Cert}
use Rattle.oc_model.specs.declared.reading.Reading.{Reading}
use Rattle.oc_model.specs.declared.record.Record.{Record}
use Rattle.oc_model.specs.declared.record.Record.TheVariants as records
use Rattle.oc_model.specs.Measures.{reading_of, same_reading}
use Rattle.oc_model.specs.Node.{Durable, no_reading}
use Rattle.oc_model.specs.Records.{folded}
use Rattle.oc_model.specs.Snapshot.{snapshot, entries, rates_from}
use Rattle.oc_laws_step.specs.Sound.{IsSoundDurable}
use Rattle.oc_updown.specs.TableView.{entries_of}
use Rattle.oc_state.specs.Snapshots.{rate_record}
use Rattle.oc_state.proofs.Lists.{drop_at}

-- Rows

rows_cons : (row : Option Cert) (rows : List (Option Cert)) → entries (entries_of (row ∷ rows)) ≡ entries (entries_of (row ∷ [])) ++ entries (entries_of rows)
rows_cons None rows = refl
rows_cons (Some c) rows = refl

pub rows_go_on : (rows : List (Option Cert)) (i : ℕ) (row : Option Cert) (before after whole : List Record) → i < length rows → row ≡ get_or rows i row → after ≡ before ++ entries (entries_of (row ∷ [])) → before ++ entries (entries_of (drop i rows)) ≡ whole → after ++ entries (entries_of (drop (i + 1) rows)) ≡ whole
rows_go_on rows i row before after whole within e put so =
    let rest = entries (entries_of (drop (i + 1) rows)) in
    let here : entries (entries_of (drop i rows)) ≡ entries (entries_of (row ∷ [])) ++ rest = ap (λ (rs : List (Option Cert)). entries (entries_of rs)) (drop_at rows i row within e) ∙ rows_cons row (drop (i + 1) rows) in
    ap (λ (rs : List Record). rs ++ rest) put ∙ append_assoc before (entries (entries_of (row ∷ []))) rest ∙ sym (ap (λ (rs : List Record). before ++ rs) here) ∙ so

-- Certificates that wait

pub entries_go_on : (cs : List Cert) (i : ℕ) (c : Cert) (before after whole : List Record) → i < length cs → c ≡ get_or cs i c → after ≡ before ++ records.Entry c ∷ [] → before ++ entries (drop i cs) ≡ whole → after ++ entries (drop (i + 1) cs) ≡ whole
entries_go_on cs i c before after whole within e put so =
    let rest = entries (drop (i + 1) cs) in
    let here : entries (drop i cs) ≡ records.Entry c ∷ rest = ap entries (drop_at cs i c within e) in
    ap (λ (rs : List Record). rs ++ rest) put ∙ append_assoc before (records.Entry c ∷ []) rest ∙ sym (ap (λ (rs : List Record). before ++ rs) here) ∙ so

-- Readings

rates_cons : (x : ℕ) (r : Reading) (rs : List Reading) → rates_from x (r ∷ rs) ≡ rate_record x r ++ rates_from (x + 1) rs
rates_cons x r rs = by_test (same_reading r no_reading) refl where
  by_test : (b : Bool) → same_reading r no_reading ≡ b → rates_from x (r ∷ rs) ≡ rate_record x r ++ rates_from (x + 1) rs
  by_test true e = rw e
  by_test false e = rw e

readings_at : (ms : List Reading) (i : ℕ) → i < length ms → drop i ms ≡ get_or ms i no_reading ∷ drop (i + 1) ms
readings_at [] i within = absurd (omega arith)
readings_at (m ∷ ms) zero within = refl
readings_at (m ∷ ms) (suc i) within = let more : suc i + 1 ≡ suc (i + 1) = omega arith in rw more (readings_at ms i (omega arith))

pub rates_go_on : (ms : List Reading) (i : ℕ) (before after whole : List Record) → i < length ms → after ≡ before ++ rate_record (i + 1) (reading_of ms (i + 1)) → before ++ rates_from (i + 1) (drop i ms) ≡ whole → after ++ rates_from (i + 1 + 1) (drop (i + 1) ms) ≡ whole
rates_go_on ms i before after whole within put so =
    let rest = rates_from (i + 1 + 1) (drop (i + 1) ms) in
    let index : (i + 1) - 1 ≡ i = omega arith in
    let own : reading_of ms (i + 1) ≡ get_or ms i no_reading = ap (λ (n : ℕ). get_or ms n no_reading) index in
    let here : rates_from (i + 1) (drop i ms) ≡ rate_record (i + 1) (reading_of ms (i + 1)) ++ rest =
    ap (rates_from (i + 1)) (readings_at ms i within) ∙ rates_cons (i + 1) (get_or ms i no_reading) (drop (i + 1) ms) ∙ ap (λ (r : Reading). rate_record (i + 1) r ++ rest) (sym own) in
    ap (λ (rs : List Record). rs ++ rest) put ∙ append_assoc before (rate_record (i + 1) (reading_of ms (i + 1))) rest ∙ sym (ap (λ (rs : List Record). before ++ rs) here) ∙ so

-- The state of a snapshot

-- a conclusion about the value of a result, if there is one
pub if_ok_then : {A E : Type 0} (r : Result A E) (P Q : A → Type 0) → ((a : A) → P a → Q a) → IfOk r P → IfOk r Q
if_ok_then (Ok a) P Q f here = f a here
if_ok_then (Err e) P Q f here = tt

-- a list that is the snapshot gives the state, since the snapshot does
pub stands_by : ((nodes generation : ℕ) (state any : Durable) → IsSoundDurable nodes state → length any.measures ≡ nodes → folded any (snapshot generation state) ≡ state) → (nodes generation : ℕ) (state : Durable) (list : List Record) → IsSoundDurable nodes state → list ≡ snapshot generation state → (any : Durable) → length any.measures ≡ nodes → folded any list ≡ state
stands_by law nodes generation state list sound e = λ any among. ap (λ (rs : List Record). folded any rs) e ∙ law nodes generation state any sound among
