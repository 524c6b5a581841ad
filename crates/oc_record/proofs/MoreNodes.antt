-- What is read in a network is read in one of more nodes.
use Rattle.std.proofs.Common.{◌≡◌, ℕ, zero, suc, ◌≤◌, Bool, true, false, cond, ltb, ◌||◌, ◌==◌, List, [], ◌∷◌, length, Result, Ok, Err, refl, ap, arith}
use Rattle.std.proofs.lemmas.Bool.{ltb-false, le-ltb, or_parts}
use Rattle.std.specs.Int.{Width, w16, w32}
use Rattle.oc_base.proofs.TextsAt.{done, guard_ok}
use Rattle.oc_base.specs.declared.cert.Cert.{Cert}
use Rattle.oc_base.specs.declared.field_fault.FieldFault.TheVariants as faults
use Rattle.oc_base.specs.Lawful.{IsNode, IsCert, AreNodes}
use Rattle.std.specs.List.{AllByRecursion}
use Rattle.oc_model.specs.Lawful.{IsRecord, AreRecords}
use Rattle.oc_model.specs.declared.record.Record.TheVariants as records
use Rattle.oc_base.specs.declared.limits.TheConstants.{MAX_ANCESTORS}
use Rattle.oc_base.specs.Fields.{number_at}
use Rattle.oc_base.specs.Reading.{Reading, or_short, within_at, id_at, count_at, long_at, flag_at, byte_at, rate_at, rank_at, cert_at, ancestors_at, items_at, one_field, two_fields, three_fields, four_fields, six_fields}
use Rattle.oc_base.specs.Steps.{◌>>=◌}
use Rattle.oc_model.specs.declared.record.Record.{Record}
use Rattle.oc_record.specs.declared.fault.RecordFault.{RecordFault}
use Rattle.oc_record.specs.Faults.{of_field}
use Rattle.oc_record.specs.Reading.{ask_at, joined_at, old_entry_at, ancestors_record_at, rate_record_at, entry_at, fields_at, record_at, records_at, decoded}

-- the second read gives what the first one gives, where that is no fault
abbrev pub GivesToo : {A F : Type 0} → Result A F → Result A F → Type 0
GivesToo {A} {F} r s = (x : A) → r ≡ Ok x → s ≡ Ok x

itself : {A F : Type 0} (r : Result A F) → GivesToo r r
itself r x e = e

-- steps one after another
then_too : {A B F : Type 0} (r s : Result A F) (f g : A → Result B F) → GivesToo r s → ((x : A) → GivesToo (f x) (g x)) → GivesToo (r >>= f) (s >>= g)
then_too (Ok x) s f g first second y e = let is : s ≡ Ok x = first x refl in rw is (second x y e)
then_too (Err fault) s f g first second y e = absurd cc

-- one of two reads
either_too : {A F : Type 0} (b : Bool) (r s t u : Result A F) (x : A) → cond b r s ≡ Ok x → (r ≡ Ok x → t ≡ Ok x) → (s ≡ Ok x → u ≡ Ok x) → cond b t u ≡ Ok x
either_too true r s t u x e first second = first e
either_too false r s t u x e first second = second e

-- the fields of a record
field_too : {A : Type 0} (r s : Reading A) → GivesToo r s → GivesToo (of_field r) (of_field s)
field_too (Ok x) s h y e = let is : s ≡ Ok x = h x refl in rw is e
field_too (Err fault) s h y e = absurd cc

-- Fields

abbrev ReadToo : {A : Type 0} → (ℕ → Reading A) → (ℕ → Reading A) → Type 0
ReadToo f g = (at : ℕ) → GivesToo (f at) (g at)

always : {A : Type 0} (f : ℕ → Reading A) → ReadToo f f
always f at x e = e

one_too : {A Y : Type 0} (f g : ℕ → Reading A) (make : A → Y) → ReadToo f g → ReadToo (one_field f make) (one_field g make)
one_too f g make first at = then_too (f at) (g at) _ _ (first at) (λ a. itself _)

two_too : {A B Y : Type 0} (f g : ℕ → Reading A) (p q : ℕ → Reading B) (make : A → B → Y) → ReadToo f g → ReadToo p q → ReadToo (two_fields f p make) (two_fields g q make)
two_too f g p q make first second at = then_too (f at) (g at) _ _ (first at) (λ a. then_too (p a.1) (q a.1) _ _ (second a.1) (λ b. itself _))

module _ (n m : ℕ) (more : n ≤ m) (bytes : List ℕ) where
  in_range : (least : ℕ) (number : ℕ × ℕ) → GivesToo (cond (ltb number.0 least || ltb n number.0) (Err faults.Value) (done number)) (cond (ltb number.0 least || ltb m number.0) (Err faults.Value) (done number))
  in_range least number x e =
      let g = guard_ok (ltb number.0 least || ltb n number.0) faults.Value number x e in
      let within = or_parts (ltb number.0 least) (ltb n number.0) g.0 in
      let few : number.0 ≤ n = ltb-false n number.0 within.1 in
      rw (within.0, le-ltb m number.0 (omega (arith, more, few))) (ap done g.1)

  id_too : ReadToo (id_at n bytes) (id_at m bytes)
  unfolding within_at
  id_too at = then_too (or_short (number_at w32 bytes at)) (or_short (number_at w32 bytes at)) _ _ (itself _) (in_range 1)

  each_too : (count at : ℕ) → GivesToo (items_at (λ (before : Unit {0}). id_at n bytes) (λ item. tt) tt count at) (items_at (λ (before : Unit {0}). id_at m bytes) (λ item. tt) tt count at)
  unfolding items_at
  each_too zero at = itself _
  each_too (suc count) at = then_too (id_at n bytes at) (id_at m bytes at) _ _ (id_too at) (λ first. then_too _ _ _ _ (each_too count first.1) (λ rest. itself _))

  ancestors_too : ReadToo (ancestors_at n bytes) (ancestors_at m bytes)
  unfolding ancestors_at
  ancestors_too at = then_too (within_at w16 0 MAX_ANCESTORS bytes at) (within_at w16 0 MAX_ANCESTORS bytes at) _ _ (itself _) (λ count. each_too count.0 count.1)

  cert_too : ReadToo (cert_at n bytes) (cert_at m bytes)
  unfolding cert_at
  cert_too at =
      then_too (id_at n bytes at) (id_at m bytes at) _ _ (id_too at) (λ subject.
      then_too (count_at bytes subject.1) (count_at bytes subject.1) _ _ (itself _) (λ seq.
      then_too (id_at n bytes seq.1) (id_at m bytes seq.1) _ _ (id_too seq.1) (λ parent. itself _)))

  -- Records

  ask_too : ReadToo (ask_at n bytes) (ask_at m bytes)
  unfolding ask_at
  ask_too = two_too (count_at bytes) (count_at bytes) (id_at n bytes) (id_at m bytes) _ (always _) id_too

  joined_too : ReadToo (joined_at n bytes) (joined_at m bytes)
  unfolding joined_at
  joined_too = two_too (id_at n bytes) (id_at m bytes) (rank_at bytes) (rank_at bytes) _ id_too (always _)

  old_entry_too : ReadToo (old_entry_at n bytes) (old_entry_at m bytes)
  unfolding old_entry_at
  old_entry_too at =
      then_too (id_at n bytes at) (id_at m bytes at) _ _ (id_too at) (λ subject.
      then_too (count_at bytes subject.1) (count_at bytes subject.1) _ _ (itself _) (λ seq.
      then_too (id_at n bytes seq.1) (id_at m bytes seq.1) _ _ (id_too seq.1) (λ parent. itself _)))

  ancestors_record_too : ReadToo (ancestors_record_at n bytes) (ancestors_record_at m bytes)
  unfolding ancestors_record_at
  ancestors_record_too = one_too (ancestors_at n bytes) (ancestors_at m bytes) _ ancestors_too

  rate_record_too : ReadToo (rate_record_at n bytes) (rate_record_at m bytes)
  unfolding rate_record_at
  rate_record_too at = then_too (id_at n bytes at) (id_at m bytes at) _ _ (id_too at) (λ peer. itself _)

  entry_too : ReadToo (entry_at n bytes) (entry_at m bytes)
  unfolding entry_at
  entry_too = one_too (cert_at n bytes) (cert_at m bytes) _ cert_too

  fields_too : (code at : ℕ) → GivesToo (fields_at code n bytes at) (fields_at code m bytes at)
  unfolding fields_at
  fields_too code at x e =
      either_too (code == 1) _ _ _ _ x e (field_too (ask_at n bytes at) (ask_at m bytes at) (ask_too at) x) (λ e.
      either_too (code == 2) _ _ _ _ x e (field_too (joined_at n bytes at) (joined_at m bytes at) (joined_too at) x) (λ e.
      either_too (code == 3) _ _ _ _ x e (λ e. e) (λ e.
      either_too (code == 4) _ _ _ _ x e (λ e. e) (λ e.
      either_too (code == 5) _ _ _ _ x e (λ e. e) (λ e.
      either_too (code == 6) _ _ _ _ x e (field_too (old_entry_at n bytes at) (old_entry_at m bytes at) (old_entry_too at) x) (λ e.
      either_too (code == 7) _ _ _ _ x e (λ e. e) (λ e.
      either_too (code == 8) _ _ _ _ x e (field_too (ancestors_record_at n bytes at) (ancestors_record_at m bytes at) (ancestors_record_too at) x) (λ e.
      either_too (code == 9) _ _ _ _ x e (field_too (rate_record_at n bytes at) (rate_record_at m bytes at) (rate_record_too at) x) (λ e.
      either_too (code == 10) _ _ _ _ x e (λ e. e) (λ e.
      either_too (code == 11) _ _ _ _ x e (λ e. e) (λ e.
      either_too (code == 12) _ _ _ _ x e (λ e. e) (λ e.
      either_too (code == 13) _ _ _ _ x e (field_too (entry_at n bytes at) (entry_at m bytes at) (entry_too at) x) (λ e. e)))))))))))))

  record_too : (at : ℕ) → GivesToo (record_at n bytes at) (record_at m bytes at)
  unfolding record_at
  record_too at = then_too (of_field (byte_at bytes at)) (of_field (byte_at bytes at)) _ _ (itself _) (λ code. fields_too code.0 code.1)

  records_too : (most at : ℕ) → GivesToo (records_at n most bytes at) (records_at m most bytes at)
  unfolding records_at
  records_too zero at x e = e
  records_too (suc most) at x e =
      either_too (ltb at (length bytes)) _ _ _ _ x e
      (then_too (record_at n bytes at) (record_at m bytes at) _ _ (record_too at) (λ first. then_too (records_at n most bytes first.1) (records_at m most bytes first.1) _ _ (records_too most first.1) (λ rest. itself _)) x)
      (λ e. e)

-- the records of bytes that are read among n nodes are those that are read among more
pub decoded_too : (n m : ℕ) → n ≤ m → (bytes : List ℕ) → GivesToo (decoded n bytes) (decoded m bytes)
decoded_too n m more bytes = records_too n m more bytes (length bytes) 0

-- Lawful records

module _ (n m : ℕ) (more : n ≤ m) where
  node_too : (x : ℕ) → IsNode n x → IsNode m x
  node_too x is = (is.0, omega (arith, more, is.1))

  nodes_too : (xs : List ℕ) → AreNodes n xs → AreNodes m xs
  nodes_too [] are = tt
  nodes_too (x ∷ xs) are = (node_too x are.0, nodes_too xs are.1)

  lawful_too : (r : Record) → IsRecord n r → IsRecord m r
  lawful_too (records.Ask seq peer) is = (is.0, node_too peer is.1)
  lawful_too (records.Joined peer rank) is = (node_too peer is.0, is.1)
  lawful_too records.Lost is = tt
  lawful_too records.Acting is = tt
  lawful_too (records.Ranked rank) is = is
  lawful_too (records.OldEntry subject seq parent dead) is = (node_too subject is.0, is.1, node_too parent is.2)
  lawful_too (records.Acked upto) is = is
  lawful_too (records.Ancestors ids) is = (nodes_too ids is.0, is.1)
  lawful_too (records.Rate peer rate hops) is = (node_too peer is.0, is.1, is.2)
  lawful_too (records.Epoch epoch) is = is
  lawful_too (records.Base acked) is = is
  lawful_too (records.Snapshot generation) is = is
  lawful_too (records.Entry cert) is = record { subject = node_too cert.subject is.subject; seq = is.seq; parent = node_too cert.parent is.parent; number = is.number; clients = is.clients }
  lawful_too (records.Info number clients) is = is

  pub all_lawful_too : (list : List Record) → AreRecords n list → AreRecords m list
  all_lawful_too [] are = tt
  all_lawful_too (r ∷ list) are = (lawful_too r are.0, all_lawful_too list are.1)
