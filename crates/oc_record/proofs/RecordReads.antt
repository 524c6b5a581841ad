-- A record is read exactly where its text is there.
use Rattle.std.proofs.Common.{◌≡◌, ℕ, ◌+◌, ◌^◌, ◌<◌, ◌==◌, true, List, [], ◌∷◌, Result, Ok, Err, refl, sym, ap, subst, arith}
use Rattle.std.proofs.lemmas.Bool.{eqb-true}
use Rattle.oc_base.specs.Reading.{Reading, byte_at}
use Rattle.oc_base.proofs.TextsAt.{IsBytes, Takes, takes_both, takes_first, takes_second, takes_nothing, bind_ok, tested}
use Rattle.oc_base.proofs.FieldReads.{reads_byte}
use Rattle.oc_model.specs.Lawful.{IsRecord}
use Rattle.oc_model.specs.declared.record.Record.{Record}
use Rattle.oc_model.specs.declared.record.Record.TheVariants.{Ask, Joined, Lost, Acting, Ranked, OldEntry, Acked, Ancestors, Rate, Epoch, Base, Snapshot, Entry, Info}
use Rattle.oc_record.specs.declared.fault.RecordFault.{RecordFault}
use Rattle.oc_record.specs.Faults.{of_field}
use Rattle.oc_record.specs.Spelling.{code_of, fields_bytes, record_bytes}
use Rattle.oc_record.specs.Reading.{ask_at, joined_at, ranked_at, old_entry_at, acked_at, ancestors_record_at, rate_record_at, epoch_at, base_at, snapshot_at, entry_at, info_at, fields_at, record_at}
use Rattle.oc_record.proofs.KindReads.{IsTaken, Taken, ask, joined, ranked, old_entry, acked, ancestors, rate, epoch, base, snapshot, entry, info}

-- the value of a read without a fault
abbrev pub given : {A : Type 0} → A → Result A RecordFault
given x = Ok x

pub given_is : {A : Type 0} (x y : A) → given x ≡ given y → x ≡ y
given_is x y e = cc

-- a record with nothing after its code
abbrev plain_at : Record → ℕ → Result (Record × ℕ) RecordFault
plain_at r at = Ok (r, at)

-- a field that was read
field_given : {A : Type 0} (read : Reading A) (x : A) (next : ℕ) → of_field read ≡ Ok (x, next) → read ≡ Ok (x, next)
field_given (Ok y) x next e = cc
field_given (Err fault) x next e = absurd cc

-- a record of a kind with this code
by_code : (nodes code k : ℕ) (bytes : List ℕ) (read : ℕ → Reading Record) (at : ℕ) (r : Record) (next : ℕ) → Taken nodes k bytes read → IsBytes bytes → (code == k) ≡ true → of_field (read at) ≡ Ok (r, next) → IsTaken nodes code bytes at r next
by_code nodes code k bytes read at r next taken fits is e = subst (λ (n : ℕ). IsTaken nodes n bytes at r next) (sym (eqb-true code k is)) (taken fits at r next (field_given (read at) r next e))

plain_taken : (nodes code : ℕ) (bytes : List ℕ) (at : ℕ) (plain r : Record) (next : ℕ) → (code == code_of plain) ≡ true → IsRecord nodes plain → fields_bytes plain ≡ [] → plain_at plain at ≡ Ok (r, next) → IsTaken nodes code bytes at r next
plain_taken nodes code bytes at plain r next is lawful empty e =
    let made : Record × ℕ = (plain, at) in
    subst (λ (y : Record × ℕ). IsTaken nodes code bytes at y.0 y.1) (given_is made (r, next) e) (record { lawful = lawful; kind = sym (eqb-true code (code_of plain) is); text = subst (λ (x : List ℕ). Takes bytes at x at) (sym empty) (takes_nothing bytes at) })

-- the record read for a code has that code, and its bytes are there
fields_takes : (nodes code : ℕ) (bytes : List ℕ) → IsBytes bytes → (at : ℕ) (r : Record) (next : ℕ) → fields_at code nodes bytes at ≡ Ok (r, next) → IsTaken nodes code bytes at r next
unfolding fields_at
fields_takes nodes code bytes fits at r next e =
    let Q = IsTaken nodes code bytes at r next in
    tested (code == 1) _ _ (r, next) Q e (λ is e. by_code nodes code 1 bytes (ask_at nodes bytes) at r next (ask nodes bytes).0 fits is e) (λ e.
    tested (code == 2) _ _ (r, next) Q e (λ is e. by_code nodes code 2 bytes (joined_at nodes bytes) at r next (joined nodes bytes).0 fits is e) (λ e.
    tested (code == 3) _ _ (r, next) Q e (λ is e. plain_taken nodes code bytes at Lost r next is tt refl e) (λ e.
    tested (code == 4) _ _ (r, next) Q e (λ is e. plain_taken nodes code bytes at Acting r next is tt refl e) (λ e.
    tested (code == 5) _ _ (r, next) Q e (λ is e. by_code nodes code 5 bytes (ranked_at bytes) at r next (ranked nodes bytes).0 fits is e) (λ e.
    tested (code == 6) _ _ (r, next) Q e (λ is e. by_code nodes code 6 bytes (old_entry_at nodes bytes) at r next (old_entry nodes bytes).0 fits is e) (λ e.
    tested (code == 7) _ _ (r, next) Q e (λ is e. by_code nodes code 7 bytes (acked_at bytes) at r next (acked nodes bytes).0 fits is e) (λ e.
    tested (code == 8) _ _ (r, next) Q e (λ is e. by_code nodes code 8 bytes (ancestors_record_at nodes bytes) at r next (ancestors nodes bytes).0 fits is e) (λ e.
    tested (code == 9) _ _ (r, next) Q e (λ is e. by_code nodes code 9 bytes (rate_record_at nodes bytes) at r next (rate nodes bytes).0 fits is e) (λ e.
    tested (code == 10) _ _ (r, next) Q e (λ is e. by_code nodes code 10 bytes (epoch_at bytes) at r next (epoch nodes bytes).0 fits is e) (λ e.
    tested (code == 11) _ _ (r, next) Q e (λ is e. by_code nodes code 11 bytes (base_at bytes) at r next (base nodes bytes).0 fits is e) (λ e.
    tested (code == 12) _ _ (r, next) Q e (λ is e. by_code nodes code 12 bytes (snapshot_at bytes) at r next (snapshot nodes bytes).0 fits is e) (λ e.
    tested (code == 13) _ _ (r, next) Q e (λ is e. by_code nodes code 13 bytes (entry_at nodes bytes) at r next (entry nodes bytes).0 fits is e) (λ e.
    tested (code == 14) _ _ (r, next) Q e (λ is e. by_code nodes code 14 bytes (info_at bytes) at r next (info nodes bytes).0 fits is e) (λ e. absurd cc))))))))))))))

-- fields whose text is there are read
fields_again : (nodes : ℕ) (bytes : List ℕ) → nodes < 2 ^ 32 → (at : ℕ) (r : Record) (next : ℕ) → IsRecord nodes r → Takes bytes at (fields_bytes r) next → fields_at (code_of r) nodes bytes at ≡ Ok (r, next)
unfolding fields_at
fields_again nodes bytes few at (Ask seq peer) next h t = ap of_field ((ask nodes bytes).1 seq peer few at next h t)
fields_again nodes bytes few at (Joined peer rank) next h t = ap of_field ((joined nodes bytes).1 peer rank few at next h t)
fields_again nodes bytes few at Lost next h t = ap (plain_at Lost) (omega (arith, t.moved))
fields_again nodes bytes few at Acting next h t = ap (plain_at Acting) (omega (arith, t.moved))
fields_again nodes bytes few at (Ranked rank) next h t = ap of_field ((ranked nodes bytes).1 rank few at next h t)
fields_again nodes bytes few at (OldEntry subject seq parent dead) next h t = ap of_field ((old_entry nodes bytes).1 subject seq parent dead few at next h t)
fields_again nodes bytes few at (Acked upto) next h t = ap of_field ((acked nodes bytes).1 upto few at next h t)
fields_again nodes bytes few at (Ancestors ids) next h t = ap of_field ((ancestors nodes bytes).1 ids few at next h t)
fields_again nodes bytes few at (Rate peer speed hops) next h t = ap of_field ((rate nodes bytes).1 peer speed hops few at next h t)
fields_again nodes bytes few at (Epoch number) next h t = ap of_field ((epoch nodes bytes).1 number few at next h t)
fields_again nodes bytes few at (Base count) next h t = ap of_field ((base nodes bytes).1 count few at next h t)
fields_again nodes bytes few at (Snapshot generation) next h t = ap of_field ((snapshot nodes bytes).1 generation few at next h t)
fields_again nodes bytes few at (Entry cert) next h t = ap of_field ((entry nodes bytes).1 cert few at next h t)
fields_again nodes bytes few at (Info number clients) next h t = ap of_field ((info nodes bytes).1 number clients few at next h t)

-- a record that is read is lawful, and its text is there
pub record_takes : (nodes : ℕ) (bytes : List ℕ) (at : ℕ) (made : Record × ℕ) → IsBytes bytes → record_at nodes bytes at ≡ Ok made → Takes bytes at (record_bytes made.0) made.1 × IsRecord nodes made.0
unfolding record_at
record_takes nodes bytes at made fits e =
    let a = bind_ok (of_field (byte_at bytes at)) (λ code. fields_at code.0 nodes bytes code.1) made e in
    let s = (reads_byte nodes bytes).takes fits at a.0.0 a.0.1 (field_given (byte_at bytes at) a.0.0 a.0.1 a.1) in
    let t = fields_takes nodes a.0.0 bytes fits a.0.1 made.0 made.1 a.2 in
    let code = subst (λ (n : ℕ). Takes bytes at (n ∷ []) a.0.1) (sym t.kind) s.1 in
    (takes_both bytes at (code_of made.0 ∷ []) a.0.1 (fields_bytes made.0) made.1 code t.text, t.lawful)

-- a code is a byte
code_fits : (r : Record) → code_of r < 256
code_fits (Ask seq peer) = omega arith
code_fits (Joined peer rank) = omega arith
code_fits Lost = omega arith
code_fits Acting = omega arith
code_fits (Ranked rank) = omega arith
code_fits (OldEntry subject seq parent dead) = omega arith
code_fits (Acked upto) = omega arith
code_fits (Ancestors ids) = omega arith
code_fits (Rate peer rate hops) = omega arith
code_fits (Epoch epoch) = omega arith
code_fits (Base acked) = omega arith
code_fits (Snapshot generation) = omega arith
code_fits (Entry cert) = omega arith
code_fits (Info number clients) = omega arith

-- a lawful record whose text is there is read
pub record_again : (nodes : ℕ) (bytes : List ℕ) (at : ℕ) (r : Record) (next : ℕ) → nodes < 2 ^ 32 → IsRecord nodes r → Takes bytes at (record_bytes r) next → record_at nodes bytes at ≡ Ok (r, next)
unfolding record_at
record_again nodes bytes at r next few h t =
    let first = (reads_byte nodes bytes).again few at (code_of r) (at + 1) (code_fits r) (takes_first bytes at (code_of r ∷ []) (fields_bytes r) next t) in
    let second = fields_again nodes bytes few (at + 1) r next h (takes_second bytes at (code_of r ∷ []) (fields_bytes r) next t) in
    rw (first, second) refl
