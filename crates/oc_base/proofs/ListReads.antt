-- Lists are read exactly where their lengths and the texts of their items are there.
use Rattle.std.proofs.Common.{◌≡◌, ℕ, zero, suc, ◌+◌, ◌^◌, ◌<◌, ◌≤◌, List, [], ◌∷◌, ◌++◌, length, Ok, refl, sym, ap, subst, arith}
use Rattle.std.specs.List.{flat_map, AllByRecursion}
use Rattle.std.specs.Int.{w16}
use Rattle.std.proofs.lemmas.List.{length-append, length-drop}
use Rattle.std.proofs.lemmas.List.Concat.{flat_map-cons}
use Rattle.oc_base.specs.declared.limits.TheConstants.{MAX_ANCESTORS}
use Rattle.oc_base.specs.Lawful.{IsNode, AreAncestors}
use Rattle.oc_base.specs.Spelling.{two, four, ids_bytes}
use Rattle.oc_base.specs.Steps.{◌>>=◌}
use Rattle.oc_base.specs.Reading.{Reading, within_at, id_at, items_at, each_at, list_at, ancestors_at}
use Rattle.oc_base.proofs.TextsAt.{IsBytes, Takes, takes_both, takes_first, takes_second, takes_nothing, bind_ok, ok_is, wide16}
use Rattle.oc_base.proofs.FieldReads.{Reads, ReadsCounted, reads_within, reads_id}

-- each item is in the range that the one before it leaves
abbrev pub Follow : {A S : Type 0} → (S → A → Type 0) → (A → S) → S → List A → Type 0
Follow P kept before [] = Unit {0}
Follow P kept before (x ∷ xs) = P before x × Follow P kept (kept x) xs

-- items that are read follow one another, and their texts are there
pub items_take : {A S : Type 0} (nodes : ℕ) (bytes : List ℕ) (read : S → ℕ → Reading A) (text : A → List ℕ) (P : S → A → Type 0) (kept : A → S) → ((before : S) → Reads nodes bytes (read before) text (P before))
    → IsBytes bytes → (count : ℕ) (before : S) (at : ℕ) (xs : List A) (next : ℕ) → items_at read kept before count at ≡ Ok (xs, next) → (length xs ≡ count) × Follow P kept before xs × Takes bytes at (flat_map text xs) next
unfolding items_at
items_take {A = A} nodes bytes read text P kept reads fits zero before at xs next e =
    let none : List A × ℕ = ([], at) in
    subst (λ (y : List A × ℕ). (length y.0 ≡ 0) × Follow P kept before y.0 × Takes bytes at (flat_map text y.0) y.1) (ok_is none (xs, next) e) (refl, tt, takes_nothing bytes at)
items_take {A = A} nodes bytes read text P kept reads fits (suc count) before at xs next e =
    let a = bind_ok (read before at) (λ first. items_at read kept (kept first.0) count first.1 >>= λ rest. Ok (first.0 ∷ rest.0, rest.1)) (xs, next) e in
    let b = bind_ok (items_at read kept (kept a.0.0) count a.0.1) (λ rest. Ok (a.0.0 ∷ rest.0, rest.1)) (xs, next) a.2 in
    let t = (reads before).takes fits at a.0.0 a.0.1 a.1 in
    let ih = items_take nodes bytes read text P kept reads fits count (kept a.0.0) a.0.1 b.0.0 b.0.1 b.1 in
    let made : List A × ℕ = (a.0.0 ∷ b.0.0, b.0.1) in
    let whole = takes_both bytes at (text a.0.0) a.0.1 (flat_map text b.0.0) b.0.1 t.1 ih.2 in
    subst (λ (y : List A × ℕ). (length y.0 ≡ suc count) × Follow P kept before y.0 × Takes bytes at (flat_map text y.0) y.1) (ok_is made (xs, next) b.2)
    (ap suc ih.0, (t.0, ih.1), subst (λ (x : List ℕ). Takes bytes at x b.0.1) (sym (flat_map-cons text a.0.0 b.0.0)) whole)

-- items that follow one another, and whose texts are there, are read
pub items_again : {A S : Type 0} (nodes : ℕ) (bytes : List ℕ) (read : S → ℕ → Reading A) (text : A → List ℕ) (P : S → A → Type 0) (kept : A → S) → ((before : S) → Reads nodes bytes (read before) text (P before))
    → nodes < 2 ^ 32 → (xs : List A) (before : S) (at next : ℕ) → Follow P kept before xs → Takes bytes at (flat_map text xs) next → items_at read kept before (length xs) at ≡ Ok (xs, next)
unfolding items_at
items_again nodes bytes read text P kept reads few [] before at next h t = ap (λ (k : ℕ). Ok ([], k)) (omega (arith, t.moved))
items_again nodes bytes read text P kept reads few (x ∷ xs) before at next h t =
    let u = subst (λ (y : List ℕ). Takes bytes at y next) (flat_map-cons text x xs) t in
    let first = (reads before).again few at x (at + length (text x)) h.0 (takes_first bytes at (text x) (flat_map text xs) next u) in
    let rest = items_again nodes bytes read text P kept reads few xs (kept x) (at + length (text x)) next h.1 (takes_second bytes at (text x) (flat_map text xs) next u) in
    rw (first, rest) refl

-- items of which each may depend on the one before it
pub reads_items : {A S : Type 0} (nodes : ℕ) (bytes : List ℕ) (read : S → ℕ → Reading A) (text : A → List ℕ) (P : S → A → Type 0) (kept : A → S) → ((before : S) → Reads nodes bytes (read before) text (P before))
    → (before : S) → ReadsCounted nodes bytes (items_at read kept before) (flat_map text) (Follow P kept before)
reads_items nodes bytes read text P kept reads before = record {
  takes = λ fits count at xs next e. items_take nodes bytes read text P kept reads fits count before at xs next e;
  again = λ few at xs next within h t. items_again nodes bytes read text P kept reads few xs before at next h t;
}

-- items that don't depend on one another
abbrev pub OfUnit : {A : Type 0} → (A → Type 0) → Unit {0} → A → Type 0
OfUnit P before x = P x

-- items that don't depend on one another are each lawful
all_of_follow : {A : Type 0} (P : A → Type 0) (xs : List A) → Follow (OfUnit P) (λ item. tt) tt xs → AllByRecursion P xs
all_of_follow P [] h = tt
all_of_follow P (x ∷ xs) h = (h.0, all_of_follow P xs h.1)

-- and lawful ones follow one another
follow_of_all : {A : Type 0} (P : A → Type 0) (xs : List A) → AllByRecursion P xs → Follow (OfUnit P) (λ item. tt) tt xs
follow_of_all P [] h = tt
follow_of_all P (x ∷ xs) h = (h.0, follow_of_all P xs h.1)

-- reading such items gives exactly the lawful ones that are there
pub reads_each : {A : Type 0} (nodes : ℕ) (bytes : List ℕ) (read : ℕ → Reading A) (text : A → List ℕ) (P : A → Type 0) → Reads nodes bytes read text P → ReadsCounted nodes bytes (each_at read) (flat_map text) (AllByRecursion P)
reads_each nodes bytes read text P reads =
    let r = reads_items nodes bytes (λ before. read) text (OfUnit P) (λ item. tt) (λ before. reads) tt in
    record {
      takes = λ fits count at xs next e. let t = r.takes fits count at xs next e in (t.0, all_of_follow P xs t.1, t.2);
      again = λ few at xs next within h t. r.again few at xs next within (follow_of_all P xs h) t;
    }

-- the end of a text is no further than the end of the bytes
pub ends_within : (bytes : List ℕ) (at : ℕ) (text : List ℕ) (next : ℕ) → 0 < length text → Takes bytes at text next → next ≤ length bytes
ends_within bytes at text next some t = omega (arith, some, t.moved, length-drop at bytes, ap (λ (x : List ℕ). length x) t.there.1, length-append text t.there.0)

-- a list after its length
pub reads_list : {A : Type 0} (nodes : ℕ) (bytes : List ℕ) (size : ℕ → Reading ℕ) (digits : ℕ → List ℕ) (Q : ℕ → Type 0) (items : ℕ → ℕ → Reading (List A)) (text : List A → List ℕ) (P : List A → Type 0)
    → ((n : ℕ) → 0 < length (digits n)) → Reads nodes bytes size digits Q → ReadsCounted nodes bytes items text P → Reads nodes bytes (list_at size items) (λ xs. digits (length xs) ++ text xs) (λ xs. Q (length xs) × P xs)
reads_list {A = A} nodes bytes size digits Q items text P some r s = record {
  takes = λ fits at xs next e.
      let a = bind_ok (size at) (λ count. items count.0 count.1) (xs, next) e in
      let t = r.takes fits at a.0.0 a.0.1 a.1 in
      let u = s.takes fits a.0.0 a.0.1 xs next a.2 in
      let front = subst (λ (n : ℕ). Q n × Takes bytes at (digits n) a.0.1) (sym u.0) t in
      ((front.0, u.1), takes_both bytes at (digits (length xs)) a.0.1 (text xs) next front.1 u.2);
  again = λ few at xs next h t.
      let front = takes_first bytes at (digits (length xs)) (text xs) next t in
      let mid = at + length (digits (length xs)) in
      let one = r.again few at (length xs) mid h.0 front in
      let two = s.again few mid xs next (ends_within bytes at (digits (length xs)) mid (some (length xs)) front) h.1 (takes_second bytes at (digits (length xs)) (text xs) next t) in
      rw one two;
}

-- ancestors
pub reads_ancestors : (nodes : ℕ) (bytes : List ℕ) → Reads nodes bytes (ancestors_at nodes bytes) ids_bytes (AreAncestors nodes)
unfolding ancestors_at
reads_ancestors nodes bytes =
    let size = reads_within w16 (2 ^ 16) wide16 0 MAX_ANCESTORS nodes bytes (λ few. omega arith) in
    let ids = reads_each nodes bytes (id_at nodes bytes) four (IsNode nodes) (reads_id nodes bytes) in
    let all = reads_list nodes bytes (within_at w16 0 MAX_ANCESTORS bytes) two (λ n. (0 ≤ n) × (n ≤ MAX_ANCESTORS)) (each_at (id_at nodes bytes)) (flat_map four) (AllByRecursion (IsNode nodes)) (λ n. omega arith) size ids in
    record {
      takes = λ fits at ids next e. let t = all.takes fits at ids next e in ((t.0.1, t.0.0.1), t.1);
      again = λ few at ids next h t. all.again few at ids next ((omega arith, h.1), h.0) t;
    }
