-- The body of a code is read exactly where its text is there.
use Rattle.std.proofs.Common.{◌≡◌, ℕ, ◌^◌, ◌<◌, ◌==◌, Bool, true, false, List, Result, Ok, Err, refl, sym, ap, subst, arith}
use Rattle.std.proofs.lemmas.Bool.{eqb-true}
use Rattle.oc_base.specs.Reading.{Reading}
use Rattle.oc_base.proofs.TextsAt.{IsBytes, Takes, takes_nothing, tested}
use Rattle.oc_model.specs.Lawful.{IsBody}
use Rattle.oc_model.specs.declared.message.Body.{Body}
use Rattle.oc_model.specs.declared.message.Body.TheVariants.{Look, LookIs, Ask, Yes, No, CheckIn, CheckAck, Rejoin, Fetch, Chunk}
use Rattle.oc_wire.specs.declared.fault.WireFault.{WireFault}
use Rattle.oc_wire.specs.MessageFaults.{of_field}
use Rattle.oc_wire.specs.Spelling.{is_large, chunk_code, code_of, fields_bytes, HasSpelling}
use Rattle.oc_wire.specs.FieldReading.{look_is_at, ask_at, yes_at, no_at, check_in_at, check_ack_at, rejoin_at, fetch_at, chunk_at}
use Rattle.oc_wire.specs.MessageReading.{body_at}
use Rattle.oc_wire.proofs.KindReads.{IsTaken, Taken, look_is, ask, yes, no, check_in, check_ack, rejoin, fetch, chunk}

-- a value that was read without a fault
abbrev pub given : {A : Type 0} → A → Result A WireFault
given x = Ok x

pub given_is : {A : Type 0} (x y : A) → given x ≡ given y → x ≡ y
given_is x y e = cc

-- a body with nothing after its code
abbrev plain_at : Body → ℕ → Result (Body × ℕ) WireFault
plain_at b at = Ok (b, at)

-- a field that was read
pub field_given : {A : Type 0} (read : Reading A) (x : A) (next : ℕ) → of_field read ≡ Ok (x, next) → read ≡ Ok (x, next)
field_given (Ok y) x next e = cc
field_given (Err fault) x next e = absurd cc

-- a body of the kind with this code
by_code : (nodes code k : ℕ) (bytes : List ℕ) (read : ℕ → Reading Body) (at : ℕ) (b : Body) (next : ℕ) → Taken nodes k bytes read → IsBytes bytes → (code == k) ≡ true → of_field (read at) ≡ Ok (b, next) → IsTaken nodes code bytes at b next
by_code nodes code k bytes read at b next taken fits is e = subst (λ (n : ℕ). IsTaken nodes n bytes at b next) (sym (eqb-true code k is)) (taken fits at b next (field_given (read at) b next e))

look_taken : (nodes code : ℕ) (bytes : List ℕ) (at : ℕ) (b : Body) (next : ℕ) → (code == 1) ≡ true → plain_at Look at ≡ Ok (b, next) → IsTaken nodes code bytes at b next
look_taken nodes code bytes at b next is e =
    let made : Body × ℕ = (Look, at) in
    subst (λ (y : Body × ℕ). IsTaken nodes code bytes at y.0 y.1) (given_is made (b, next) e) (record { lawful = tt; fits = tt; kind = sym (eqb-true code 1 is); text = takes_nothing bytes at })

-- the body that is read for a code has that code, and its text is there
pub body_takes : (nodes code : ℕ) (bytes : List ℕ) → IsBytes bytes → (at : ℕ) (b : Body) (next : ℕ) → body_at code nodes bytes at ≡ Ok (b, next) → IsTaken nodes code bytes at b next
unfolding body_at
body_takes nodes code bytes fits at b next e =
    let Q = IsTaken nodes code bytes at b next in
    tested (code == 1) _ _ (b, next) Q e (λ is e. look_taken nodes code bytes at b next is e) (λ e.
    tested (code == 2) _ _ (b, next) Q e (λ is e. by_code nodes code 2 bytes (look_is_at nodes bytes) at b next (look_is nodes bytes).0 fits is e) (λ e.
    tested (code == 3) _ _ (b, next) Q e (λ is e. by_code nodes code 3 bytes (ask_at bytes) at b next (ask nodes bytes).0 fits is e) (λ e.
    tested (code == 4) _ _ (b, next) Q e (λ is e. by_code nodes code 4 bytes (yes_at nodes bytes) at b next (yes nodes bytes).0 fits is e) (λ e.
    tested (code == 5) _ _ (b, next) Q e (λ is e. by_code nodes code 5 bytes (no_at nodes bytes) at b next (no nodes bytes).0 fits is e) (λ e.
    tested (code == 11) _ _ (b, next) Q e (λ is e. by_code nodes code 11 bytes (check_in_at nodes bytes) at b next (check_in nodes bytes).0 fits is e) (λ e.
    tested (code == 7) _ _ (b, next) Q e (λ is e. by_code nodes code 7 bytes (check_ack_at nodes bytes) at b next (check_ack nodes bytes).0 fits is e) (λ e.
    tested (code == 8) _ _ (b, next) Q e (λ is e. by_code nodes code 8 bytes (rejoin_at bytes) at b next (rejoin nodes bytes).0 fits is e) (λ e.
    tested (code == 12) _ _ (b, next) Q e (λ is e. by_code nodes code 12 bytes (fetch_at bytes) at b next (fetch nodes bytes).0 fits is e) (λ e.
    tested (code == 13) _ _ (b, next) Q e (λ is e. by_code nodes code 13 bytes (chunk_at false bytes) at b next (chunk false nodes bytes).0 fits is e) (λ e.
    tested (code == 14) _ _ (b, next) Q e (λ is e. by_code nodes code 14 bytes (chunk_at true bytes) at b next (chunk true nodes bytes).0 fits is e) (λ e. absurd cc)))))))))))

-- a body whose text is there is read
pub body_again : (nodes : ℕ) (bytes : List ℕ) → nodes < 2 ^ 32 → (at : ℕ) (b : Body) (next : ℕ) → IsBody nodes b → HasSpelling b → Takes bytes at (fields_bytes b) next → body_at (code_of b) nodes bytes at ≡ Ok (b, next)
unfolding body_at
body_again nodes bytes few at Look next h s t = ap (plain_at Look) (omega (arith, t.moved))
body_again nodes bytes few at (LookIs in_tree parent rate children) next h s t = ap of_field ((look_is nodes bytes).1 in_tree parent rate children few at next h s t)
body_again nodes bytes few at (Ask seq rank) next h s t = ap of_field ((ask nodes bytes).1 seq rank few at next h s t)
body_again nodes bytes few at (Yes seq rank ancestors) next h s t = ap of_field ((yes nodes bytes).1 seq rank ancestors few at next h s t)
body_again nodes bytes few at (No seq why) next h s t = ap of_field ((no nodes bytes).1 seq why few at next h s t)
body_again nodes bytes few at (CheckIn seq upto rate number clients certs) next h s t = ap of_field ((check_in nodes bytes).1 seq upto rate number clients certs few at next h s t)
body_again nodes bytes few at (CheckAck seq upto rank ancestors) next h s t = ap of_field ((check_ack nodes bytes).1 seq upto rank ancestors few at next h s t)
body_again nodes bytes few at (Rejoin seq) next h s t = ap of_field ((rejoin nodes bytes).1 seq few at next h s t)
body_again nodes bytes few at (Fetch have) next h s t = ap of_field ((fetch nodes bytes).1 have few at next h s t)
body_again nodes bytes few at (Chunk group start piece last) next h s t = by_size (is_large piece) refl where
  by_size : (large : Bool) → is_large piece ≡ large → body_at (chunk_code (is_large piece)) nodes bytes at ≡ Ok (Chunk group start piece last, next)
  by_size true is = rw is (ap of_field ((chunk true nodes bytes).1 group start piece last is few at next h s t))
  by_size false is = rw is (ap of_field ((chunk false nodes bytes).1 group start piece last is few at next h s t))
