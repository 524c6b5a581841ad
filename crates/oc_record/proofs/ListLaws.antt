-- A list of lawful records and its spelling are one.
use Rattle.std.proofs.Common.{◌≡◌, ℕ, zero, suc, ◌+◌, ◌-◌, ◌^◌, ◌<◌, ◌≤◌, Bool, true, false, cond, ltb, List, [], ◌∷◌, ◌++◌, length, drop, Ok, refl, sym, ap, subst, ◌∙◌, arith}
use Rattle.std.proofs.lemmas.Bool.{lt-ltb, le-ltb, ltb-true, ltb-false}
use Rattle.std.proofs.lemmas.List.{drop-drop, drop_at, length-append, length-drop, nil_from_length}
use Rattle.std.proofs.lemmas.List.Concat.{flat_map-cons}
use Rattle.oc_base.specs.Steps.{◌>>=◌}
use Rattle.oc_base.proofs.TextsAt.{IsBytes, Takes, bind_ok}
use Rattle.oc_model.specs.Lawful.{IsRecord, AreRecords}
use Rattle.oc_model.specs.declared.record.Record.{Record}
use Rattle.oc_model.specs.declared.record.Record.TheVariants.{Ask, Joined, Lost, Acting, Ranked, OldEntry, Acked, Ancestors, Rate, Epoch, Base, Snapshot, Entry, Info}
use Rattle.oc_record.specs.Spelling.{record_bytes, records_bytes, HasSpelling, HaveSpellings}
use Rattle.oc_record.specs.Reading.{record_at, records_at, decoded}
use Rattle.oc_record.proofs.RecordReads.{given_is, record_takes, record_again}

-- the bytes from the text on are the text and the rest after it
behind : (bytes : List ℕ) (at : ℕ) (text : List ℕ) (next : ℕ) → Takes bytes at text next → drop at bytes ≡ text ++ drop next bytes
behind bytes at text next t =
    let rest : drop next bytes ≡ t.there.0 = ap (λ (k : ℕ). drop k bytes) t.moved ∙ sym (drop-drop (length text) at bytes) ∙ ap (drop (length text)) t.there.1 ∙ drop_at text t.there.0 (length text) refl in
    t.there.1 ∙ ap (λ (x : List ℕ). text ++ x) (sym rest)

-- no bytes are left past the end
pub none_left : (bytes : List ℕ) (at : ℕ) → length bytes ≤ at → drop at bytes ≡ []
none_left bytes at le = nil_from_length (drop at bytes) (omega (arith, le, length-drop at bytes))

-- records that are read to the end are there to the end, and are lawful
pub records_take : (nodes most : ℕ) (bytes : List ℕ) (at : ℕ) (records : List Record) → IsBytes bytes → length bytes - at ≤ most → records_at nodes most bytes at ≡ Ok records → (drop at bytes ≡ records_bytes records) × AreRecords nodes records
unfolding records_at
records_take nodes zero bytes at records fits fuel e =
    let none : List Record = [] in
    subst (λ (rs : List Record). (drop at bytes ≡ records_bytes rs) × AreRecords nodes rs) (given_is none records e) (none_left bytes at (omega (arith, fuel)), tt)
records_take nodes (suc most) bytes at records fits fuel e = by_test (λ next rest less read. records_take nodes most bytes next rest fits less read) (ltb at (length bytes)) refl e
  where
    by_test : ((next : ℕ) (rest : List Record) → length bytes - next ≤ most → records_at nodes most bytes next ≡ Ok rest → (drop next bytes ≡ records_bytes rest) × AreRecords nodes rest) → (b : Bool) → ltb at (length bytes) ≡ b → cond b (record_at nodes bytes at >>= λ first. records_at nodes most bytes first.1 >>= λ rest. Ok (first.0 ∷ rest)) (Ok []) ≡ Ok records → (drop at bytes ≡ records_bytes records) × AreRecords nodes records
    by_test later true is e =
        let lt : at < length bytes = ltb-true at (length bytes) is in
        let a = bind_ok (record_at nodes bytes at) (λ first. records_at nodes most bytes first.1 >>= λ rest. Ok (first.0 ∷ rest)) records e in
        let b = bind_ok (records_at nodes most bytes a.0.1) (λ rest. Ok (a.0.0 ∷ rest)) records a.2 in
        let t = record_takes nodes bytes at a.0 fits a.1 in
        let ih = later a.0.1 b.0 (omega (arith, fuel, lt, t.0.moved)) b.1 in
        let whole : drop at bytes ≡ record_bytes a.0.0 ++ records_bytes b.0 = behind bytes at (record_bytes a.0.0) a.0.1 t.0 ∙ ap (λ (x : List ℕ). record_bytes a.0.0 ++ x) ih.0 in
        subst (λ (rs : List Record). (drop at bytes ≡ records_bytes rs) × AreRecords nodes rs) (given_is (a.0.0 ∷ b.0) records b.2) (whole ∙ sym (flat_map-cons record_bytes a.0.0 b.0), (t.1, ih.1))
    by_test later false is e =
        let none : List Record = [] in
        subst (λ (rs : List Record). (drop at bytes ≡ records_bytes rs) × AreRecords nodes rs) (given_is none records e) (none_left bytes at (ltb-false at (length bytes) is), tt)

-- lawful records that are there to the end are read
pub records_again : (nodes most : ℕ) (bytes : List ℕ) (at : ℕ) (records : List Record) → nodes < 2 ^ 32 → length bytes - at ≤ most → AreRecords nodes records → drop at bytes ≡ records_bytes records → records_at nodes most bytes at ≡ Ok records
unfolding records_at
records_again nodes zero bytes at [] few fuel h e = refl
records_again nodes (suc most) bytes at [] few fuel h e = rw (le-ltb at (length bytes) (omega (arith, length-drop at bytes, ap (λ (x : List ℕ). length x) e))) refl
records_again nodes zero bytes at (r ∷ rs) few fuel h e =
    let cut = e ∙ flat_map-cons record_bytes r rs in
    absurd (omega (arith, fuel, length-drop at bytes, ap (λ (x : List ℕ). length x) cut, length-append (record_bytes r) (records_bytes rs)))
records_again nodes (suc most) bytes at (r ∷ rs) few fuel h e =
    let cut : drop at bytes ≡ record_bytes r ++ records_bytes rs = e ∙ flat_map-cons record_bytes r rs in
    let next = at + length (record_bytes r) in
    let t : Takes bytes at (record_bytes r) next = record { there = (records_bytes rs, cut); moved = refl } in
    let long : at < length bytes = omega (arith, length-drop at bytes, ap (λ (x : List ℕ). length x) cut, length-append (record_bytes r) (records_bytes rs)) in
    let rest : drop next bytes ≡ records_bytes rs = sym (drop-drop (length (record_bytes r)) at bytes) ∙ ap (drop (length (record_bytes r))) cut ∙ drop_at (record_bytes r) (records_bytes rs) (length (record_bytes r)) refl in
    rw (lt-ltb at (length bytes) long, record_again nodes bytes at r next few h.0 t, records_again nodes most bytes next rs few (omega (arith, fuel)) h.1 rest) refl

-- records that are decoded have these bytes as their spelling
pub is_spelled : (nodes : ℕ) (bytes : List ℕ) (records : List Record) → IsBytes bytes → decoded nodes bytes ≡ Ok records → AreRecords nodes records × (bytes ≡ records_bytes records)
is_spelled nodes bytes records fits e = let t = records_take nodes (length bytes) bytes 0 records fits (omega arith) e in (t.1, t.0)

-- bytes that are a spelling are decoded
pub is_decoded : (nodes : ℕ) (bytes : List ℕ) (records : List Record) → nodes < 2 ^ 32 → AreRecords nodes records → bytes ≡ records_bytes records → decoded nodes bytes ≡ Ok records
is_decoded nodes bytes records few h e = records_again nodes (length bytes) bytes 0 records few (omega arith) h e

-- no two lists have one spelling
pub one_spelling : (nodes : ℕ) (a b : List Record) → nodes < 2 ^ 32 → AreRecords nodes a → AreRecords nodes b → records_bytes a ≡ records_bytes b → a ≡ b
one_spelling nodes a b few ha hb e =
    given_is a b (sym (is_decoded nodes (records_bytes b) a few ha (sym e)) ∙ is_decoded nodes (records_bytes b) b few hb refl)

-- a lawful record has a spelling
has_spelling : (nodes : ℕ) (r : Record) → IsRecord nodes r → HasSpelling r
has_spelling nodes (Ask seq peer) h = tt
has_spelling nodes (Joined peer rank) h = tt
has_spelling nodes Lost h = tt
has_spelling nodes Acting h = tt
has_spelling nodes (Ranked rank) h = tt
has_spelling nodes (OldEntry subject seq parent dead) h = tt
has_spelling nodes (Acked upto) h = tt
has_spelling nodes (Ancestors ids) h = omega (arith, h.1)
has_spelling nodes (Rate peer rate hops) h = tt
has_spelling nodes (Epoch epoch) h = tt
has_spelling nodes (Base acked) h = tt
has_spelling nodes (Snapshot generation) h = tt
has_spelling nodes (Entry cert) h = tt
has_spelling nodes (Info number clients) h = tt

-- all records of a list have a spelling
pub have_spellings : (nodes : ℕ) (records : List Record) → AreRecords nodes records → HaveSpellings records
have_spellings nodes [] h = tt
have_spellings nodes (r ∷ rs) h = (has_spelling nodes r h.0, have_spellings nodes rs h.1)
