-- Names are read exactly where their texts are there.
use Rattle.std.proofs.Common.{◌≡◌, ℕ, ◌≤◌, Bool, true, false, cond, ltb, Option, Some, None, List, [], ◌∷◌, length, Ok, Err, refl, ap, subst, arith}
use Rattle.std.specs.Int.{w8}
use Rattle.std.proofs.lemmas.Bool.{ltb-false}
use Rattle.oc_base.specs.declared.field_fault.FieldFault.TheVariants as fields
use Rattle.oc_base.specs.declared.group_name.NameFault.{NameFault}
use Rattle.oc_base.specs.declared.limits.TheConstants.{MAX_NAME_BYTES, MIN_NAME_BYTES}
use Rattle.oc_base.specs.Names.{name_fault, name_or, parsed_name, IsGroupName}
use Rattle.oc_base.specs.Reading.{within_at, text_at, list_at}
use Rattle.oc_base.proofs.TextsAt.{Takes, bind_ok, tested, ok_is}
use Rattle.oc_base.proofs.FieldReads.{Reads, reads_byte_within, reads_text}
use Rattle.oc_base.proofs.ListReads.{reads_list}
use Rattle.oc_wire.specs.Spelling.{name_bytes}
use Rattle.oc_wire.specs.FieldReading.{if_name, name_at, is_after, next_name_at}

-- a text that is taken as a name is one
named_is : (text : List ℕ) (at : ℕ) (name : List ℕ) (next : ℕ) → if_name (parsed_name text) at ≡ Ok (name, next) → IsGroupName text × (text ≡ name) × (at ≡ next)
named_is text at name next e = by_fault (name_fault text) refl e
  where
    by_fault : (f : Option NameFault) → name_fault text ≡ f → if_name (name_or text f) at ≡ Ok (name, next) → IsGroupName text × (text ≡ name) × (at ≡ next)
    by_fault None is e =
        let made : List ℕ × ℕ = (text, at) in
        let same = ok_is made (name, next) e in
        (is, ap (λ (y : List ℕ × ℕ). y.0) same, ap (λ (y : List ℕ × ℕ). y.1) same)
    by_fault (Some fault) is e = absurd cc

-- a name has 2 to 200 bytes
pub name_size : (name : List ℕ) → IsGroupName name → (2 ≤ length name) × (length name ≤ 200)
name_size name is = by_test (ltb (length name) 2) (ltb 200 (length name)) refl refl is
  where
    by_test : (a b : Bool) → ltb (length name) 2 ≡ a → ltb 200 (length name) ≡ b → IsGroupName name → (2 ≤ length name) × (length name ≤ 200)
    by_test false false short long is = (ltb-false _ _ short, ltb-false _ _ long)
    by_test true b short long is = absurd (cc (rw short at is))
    by_test false true short long is = absurd (cc (rw (short, long) at is))

-- a name after its length
pub reads_name : (nodes : ℕ) (bytes : List ℕ) → Reads nodes bytes (name_at bytes) name_bytes IsGroupName
unfolding name_at
reads_name nodes bytes =
    let size = reads_byte_within MIN_NAME_BYTES MAX_NAME_BYTES nodes bytes (omega arith) in
    let r = reads_list nodes bytes (within_at w8 MIN_NAME_BYTES MAX_NAME_BYTES bytes) (λ n. n ∷ []) (λ n. (MIN_NAME_BYTES ≤ n) × (n ≤ MAX_NAME_BYTES)) (text_at bytes) (λ text. text) (λ text. Unit {0}) (λ n. omega arith) size (reads_text nodes bytes) in
    record {
      takes = λ fits at name next e.
          let a = bind_ok (list_at (within_at w8 MIN_NAME_BYTES MAX_NAME_BYTES bytes) (text_at bytes) at) (λ text. if_name (parsed_name text.0) text.1) (name, next) e in
          let n = named_is a.0.0 a.0.1 name next a.2 in
          let t = r.takes fits at a.0.0 a.0.1 a.1 in
          subst (λ (y : List ℕ). IsGroupName y × Takes bytes at (name_bytes y) next) n.1 (n.0, subst (λ (k : ℕ). Takes bytes at (name_bytes a.0.0) k) n.2 t.1);
      again = λ few at name next h t.
          let sizes = name_size name h in
          let one = r.again few at name next ((sizes.0, sizes.1), tt) t in
          rw (one, h) refl;
    }

-- a name after a lesser one
pub reads_next_name : (before : Option (List ℕ)) (nodes : ℕ) (bytes : List ℕ) → Reads nodes bytes (next_name_at before bytes) name_bytes (λ name. IsGroupName name × (is_after before name ≡ true))
unfolding next_name_at
reads_next_name before nodes bytes =
    let r = reads_name nodes bytes in
    record {
      takes = λ fits at name next e.
          let a = bind_ok (name_at bytes at) (λ name. cond (is_after before name.0) (Ok name) (Err fields.Value)) (name, next) e in
          let t = r.takes fits at a.0.0 a.0.1 a.1 in
          let Q = (IsGroupName name × (is_after before name ≡ true)) × Takes bytes at (name_bytes name) next in
          tested (is_after before a.0.0) (Ok a.0) (Err fields.Value) (name, next) Q a.2
          (λ is e. subst (λ (y : List ℕ × ℕ). (IsGroupName y.0 × (is_after before y.0 ≡ true)) × Takes bytes at (name_bytes y.0) y.1) (ok_is a.0 (name, next) e) ((t.0, is), t.1)) (λ e. absurd cc);
      again = λ few at name next h t. rw (r.again few at name next h.0 t, h.1) refl;
    }
