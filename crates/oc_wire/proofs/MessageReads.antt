-- A message is read exactly where the bytes are its spelling.
use Rattle.std.proofs.Common.{◌≡◌, ℕ, ◌^◌, ◌<◌, ◌≤◌, ◌&&◌, ◌==◌, Bool, true, false, cond, nat_le, List, [], ◌∷◌, ◌++◌, length, Result, Ok, Err, IfOk, refl, sym, ap, subst, ◌∙◌, arith}
use Rattle.std.specs.Int.{w32}
use Rattle.std.proofs.lemmas.Bool.{and_parts, eqb-true, eq-eqb, leb-true, le-leb}
use Rattle.std.proofs.lemmas.List.{append-nil, length-append, nil_from_length}
use Rattle.oc_base.specs.declared.limits.TheConstants.{MAX_NODES}
use Rattle.oc_base.specs.Fields.{number_at}
use Rattle.oc_base.specs.Lawful.{IsNode}
use Rattle.oc_base.specs.Spelling.{four}
use Rattle.oc_base.specs.Steps.{◌>>=◌}
use Rattle.oc_base.specs.Reading.{or_short, byte_at}
use Rattle.oc_base.proofs.TextsAt.{IsBytes, Takes, takes_both, takes_first, takes_second, bind_ok, tested, wide32, number_takes, number_again}
use Rattle.oc_base.proofs.FieldReads.{reads_byte}
use Rattle.oc_model.specs.Lawful.{IsBody, IsMessage}
use Rattle.oc_model.specs.declared.message.Body.{Body}
use Rattle.oc_model.specs.declared.message.Body.TheVariants.{Look, LookIs, Ask, Yes, No, CheckIn, CheckAck, Rejoin, Fetch, Chunk}
use Rattle.oc_model.specs.declared.message.Message.{Message}
use Rattle.oc_wire.specs.declared.fault.WireFault.{WireFault}
use Rattle.oc_wire.specs.declared.fault.WireFault.TheVariants as faults
use Rattle.oc_wire.specs.MessageFaults.{of_field}
use Rattle.oc_wire.specs.Messages.{Spells}
use Rattle.oc_wire.specs.MessageReading.{body_at, is_node, closed, decoded, Gives}
use Rattle.oc_wire.specs.Spelling.{is_large, chunk_code, code_of, fields_bytes, spelling, HasSpelling}
use Rattle.oc_wire.proofs.Ascending.{few_children}
use Rattle.oc_wire.proofs.KindReads.{IsTaken}
use Rattle.oc_wire.proofs.BodyReads.{given, given_is, field_given, body_takes, body_again}

-- a text that ends with the bytes is all of them
all_of : (bytes text : List ℕ) (next : ℕ) → Takes bytes 0 text next → next ≡ length bytes → bytes ≡ text
all_of bytes text next t end =
    let rest = t.there.0 in
    let none : rest ≡ [] = nil_from_length rest (omega (arith, t.moved, end, ap (λ (x : List ℕ). length x) t.there.1, length-append text rest)) in
    t.there.1 ∙ ap (λ (x : List ℕ). text ++ x) none ∙ append-nil text

-- a spelling that is all of the bytes is there
is_there : (bytes text : List ℕ) → bytes ≡ text → Takes bytes 0 text (length bytes)
is_there bytes text e = record { there = ([], e ∙ sym (append-nil text)); moved = omega (arith, ap (λ (x : List ℕ). length x) e) }

-- a number of four bytes
number_taken : (bytes : List ℕ) → IsBytes bytes → (at n next : ℕ) → of_field (or_short (number_at w32 bytes at)) ≡ Ok (n, next) → Takes bytes at (four n) next
number_taken bytes fits at n next e = (number_takes w32 (2 ^ 32) wide32 bytes at n next fits (field_given (or_short (number_at w32 bytes at)) n next e)).0

-- the id of a node
node_is : (nodes id : ℕ) → is_node nodes id ≡ true → IsNode nodes id
node_is nodes id e = let both = and_parts (nat_le 1 id) (nat_le id nodes) e in (leb-true 1 id both.0, leb-true id nodes both.1)

is_node_is : (nodes id : ℕ) → IsNode nodes id → is_node nodes id ≡ true
is_node_is nodes id h = rw (le-leb 1 id h.0, le-leb id nodes h.1) refl

-- the end of a message that was read
end_is : (nodes code from to : ℕ) (bytes : List ℕ) (at : ℕ) (body : Body × ℕ) (m : Message) → IsNode nodes from → IsNode nodes to → Takes bytes 0 (four from ++ four to ++ code ∷ []) at → IsTaken nodes code bytes at body.0 body.1 → closed from to (length bytes) body ≡ Ok m
    → Spells nodes bytes m
end_is nodes code from to bytes at body m from-is to-is front b e =
    let made : Message = record { from = from; to = to; body = body.0 } in
    tested (body.1 == length bytes) (given made) (Err faults.Trailing) m (Spells nodes bytes m) e
    (λ is e.
    let coded = subst (λ (k : ℕ). Takes bytes 0 (four from ++ four to ++ k ∷ []) at) (sym b.kind) front in
    let whole = takes_both bytes 0 (four from ++ four to ++ code_of body.0 ∷ []) at (fields_bytes body.0) body.1 coded b.text in
    subst (Spells nodes bytes) (given_is made m e) (record {
      lawful = record { from = from-is; to = to-is; body = b.lawful };
      fits = b.fits;
      exact = all_of bytes (spelling made) body.1 whole (eqb-true body.1 (length bytes) is);
    })) (λ e. absurd cc)

-- the fields of a message after its front
body_is : (nodes from to code at : ℕ) (bytes : List ℕ) (m : Message) → IsBytes bytes → Takes bytes 0 (four from ++ four to ++ code ∷ []) at
    → cond (is_node nodes from && is_node nodes to) (body_at code nodes bytes at >>= λ body. closed from to (length bytes) body) (Err faults.Stranger) ≡ Ok m → Spells nodes bytes m
body_is nodes from to code at bytes m fits front e =
    tested (is_node nodes from && is_node nodes to) (body_at code nodes bytes at >>= λ body. closed from to (length bytes) body) (Err faults.Stranger) m (Spells nodes bytes m) e
    (λ is e.
    let both = and_parts (is_node nodes from) (is_node nodes to) is in
    let b = bind_ok (body_at code nodes bytes at) (λ body. closed from to (length bytes) body) m e in
    end_is nodes code from to bytes at b.0 m (node_is nodes from both.0) (node_is nodes to both.1) front (body_takes nodes code bytes fits at b.0.0 b.0.1 b.1) b.2) (λ e. absurd cc)

-- a message that is read is spelled by the bytes
pub is_spelled : (nodes : ℕ) (bytes : List ℕ) (m : Message) → IsBytes bytes → decoded nodes bytes ≡ Ok m → Spells nodes bytes m
unfolding decoded
is_spelled nodes bytes m fits e =
    let last : ℕ → ℕ → ℕ × ℕ → Result Message WireFault = λ from to code. cond (is_node nodes from && is_node nodes to) (body_at code.0 nodes bytes code.1 >>= λ body. closed from to (length bytes) body) (Err faults.Stranger) in
    let a = bind_ok (of_field (or_short (number_at w32 bytes 0))) (λ from. of_field (or_short (number_at w32 bytes from.1)) >>= λ to. of_field (byte_at bytes to.1) >>= λ code. last from.0 to.0 code) m e in
    let b = bind_ok (of_field (or_short (number_at w32 bytes a.0.1))) (λ to. of_field (byte_at bytes to.1) >>= λ code. last a.0.0 to.0 code) m a.2 in
    let c = bind_ok (of_field (byte_at bytes b.0.1)) (λ code. last a.0.0 b.0.0 code) m b.2 in
    let from = number_taken bytes fits 0 a.0.0 a.0.1 a.1 in
    let to = number_taken bytes fits a.0.1 b.0.0 b.0.1 b.1 in
    let code = ((reads_byte nodes bytes).takes fits b.0.1 c.0.0 c.0.1 (field_given (byte_at bytes b.0.1) c.0.0 c.0.1 c.1)).1 in
    let nodes-taken = takes_both bytes 0 (four a.0.0) a.0.1 (four b.0.0) b.0.1 from to in
    body_is nodes a.0.0 b.0.0 c.0.0 c.0.1 bytes m fits (takes_both bytes 0 (four a.0.0 ++ four b.0.0) b.0.1 (c.0.0 ∷ []) c.0.1 nodes-taken code) c.2

-- a code is a byte
code_fits : (b : Body) → code_of b < 256
code_fits Look = omega arith
code_fits (LookIs in_tree parent rate children) = omega arith
code_fits (Ask seq rank) = omega arith
code_fits (Yes seq rank ancestors) = omega arith
code_fits (No seq why) = omega arith
code_fits (CheckIn seq upto rate number clients certs) = omega arith
code_fits (CheckAck seq upto rank ancestors) = omega arith
code_fits (Rejoin seq) = omega arith
code_fits (Fetch have) = omega arith
code_fits (Chunk group start piece last) = by_size (is_large piece) where
  by_size : (large : Bool) → chunk_code large < 256
  by_size true = omega arith
  by_size false = omega arith

-- a message that the bytes spell is read
pub is_read : (nodes : ℕ) (bytes : List ℕ) (m : Message) → nodes < 2 ^ 32 → Spells nodes bytes m → decoded nodes bytes ≡ Ok m
unfolding decoded
is_read nodes bytes m few h =
    let all = is_there bytes (spelling m) h.exact in
    let front = takes_first bytes 0 (four m.from ++ four m.to ++ code_of m.body ∷ []) (fields_bytes m.body) (length bytes) all in
    let fields = takes_second bytes 0 (four m.from ++ four m.to ++ code_of m.body ∷ []) (fields_bytes m.body) (length bytes) all in
    let both = takes_first bytes 0 (four m.from ++ four m.to) (code_of m.body ∷ []) 9 front in
    let from = number_again w32 (2 ^ 32) wide32 bytes 0 m.from 4 (omega (arith, few, h.lawful.from.1)) (takes_first bytes 0 (four m.from) (four m.to) 8 both) in
    let to = number_again w32 (2 ^ 32) wide32 bytes 4 m.to 8 (omega (arith, few, h.lawful.to.1)) (takes_second bytes 0 (four m.from) (four m.to) 8 both) in
    let code = (reads_byte nodes bytes).again few 8 (code_of m.body) 9 (code_fits m.body) (takes_second bytes 0 (four m.from ++ four m.to) (code_of m.body ∷ []) 9 front) in
    let body = body_again nodes bytes few 9 m.body (length bytes) h.lawful.body h.fits fields in
    rw (from, to, code, is_node_is nodes m.from h.lawful.from, is_node_is nodes m.to h.lawful.to, body, eq-eqb (length bytes) (length bytes) refl) refl

-- no two messages have one spelling
pub one_spelling : (nodes : ℕ) (bytes : List ℕ) (a b : Message) → nodes < 2 ^ 32 → Spells nodes bytes a → Spells nodes bytes b → a ≡ b
one_spelling nodes bytes a b few ha hb = given_is a b (sym (is_read nodes bytes a few ha) ∙ is_read nodes bytes b few hb)

-- a lawful body has a spelling
has_spelling : (nodes : ℕ) (b : Body) → nodes ≤ MAX_NODES → IsBody nodes b → HasSpelling b
has_spelling nodes Look few h = tt
has_spelling nodes (LookIs in_tree parent rate children) few h = omega (arith, few, few_children nodes children h.2)
has_spelling nodes (Ask seq rank) few h = tt
has_spelling nodes (Yes seq rank ancestors) few h = omega (arith, h.2.1)
has_spelling nodes (No seq why) few h = tt
has_spelling nodes (CheckIn seq upto rate number clients certs) few h = omega (arith, h.6)
has_spelling nodes (CheckAck seq upto rank ancestors) few h = omega (arith, h.3.1)
has_spelling nodes (Rejoin seq) few h = tt
has_spelling nodes (Fetch have) few h = omega (arith, h.1)
has_spelling nodes (Chunk group start piece last) few h = omega (arith, h.2)

-- a lawful message has a spelling
pub is_its_spelling : (nodes : ℕ) (m : Message) → nodes ≤ MAX_NODES → IsMessage nodes m → Spells nodes (spelling m) m
is_its_spelling nodes m few h = record { lawful = h; fits = has_spelling nodes m.body few h.body; exact = refl }

-- an answer that is a message is a spelled one
pub is_found : (nodes : ℕ) (bytes : List ℕ) (answer : Result Message WireFault) → IsBytes bytes → Gives answer (decoded nodes bytes) → IfOk answer (λ m. Spells nodes bytes m)
is_found nodes bytes (Ok m) fits given = is_spelled nodes bytes m fits given
is_found nodes bytes (Err fault) fits given = tt
