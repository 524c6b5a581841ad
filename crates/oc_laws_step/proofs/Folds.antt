-- The records that rules write keep the durable state sound.
use Rattle.std.proofs.Common.{◌≡◌, ℕ, zero, suc, ◌+◌, ◌-◌, ◌<◌, ◌≤◌, Bool, true, false, ◌==◌, nat_lt, nat_le, if◌then◌else◌, Some, List, [], ◌∷◌, ◌++◌, length, drop, refl, ◌∙◌, arith, eq-eqb, ne_eqb, length-append, length-drop, length-set, ltb-true, leb-true}
use Rattle.std.specs.List.{AllByRecursion}
use Rattle.std.proofs.lemmas.Bool.{cond_both, eqb-false, and_parts, false_from_ne_true}
use Rattle.oc_base.specs.declared.cert.Cert.{Cert}
use Rattle.oc_base.specs.declared.rank.Rank.{Rank}
use Rattle.oc_model.specs.declared.mode.Mode.{Mode}
use Rattle.oc_model.specs.declared.mode.Mode.TheVariants as modes
use Rattle.oc_model.specs.declared.record.Record.{Record}
use Rattle.oc_model.specs.declared.record.Record.TheVariants as records
use Rattle.oc_model.specs.Certificates.{outranks}
use Rattle.oc_model.specs.ChangeLog.{begun_with, ack, is_ahead}
use Rattle.oc_model.specs.Node.{Durable, Log, empty_log}
use Rattle.oc_model.specs.Records.{fold_one, folded, noted}
use Rattle.oc_model.specs.Table.{newest, is_news, merge}
use Rattle.oc_model.proofs.Lists.{all_both, all_weaker, all_append}
use Rattle.oc_laws_step.specs.Sound.{IsTable, IsSoundAs, IsSoundDurable, IsSoundRecord}
use Rattle.oc_laws_step.proofs.CertOrder.{outranks_fact, outranks_irreflexive}
use Rattle.oc_laws_step.proofs.Tables.{merge_takes, merge_keeps, table_merge}

-- no row of a table is news to it
rows_from : (all ks : List Cert) → AllByRecursion (λ k. newest all k.subject ≡ Some k) ks → AllByRecursion (λ k. is_news all k ≡ false) ks
rows_from all ks found = all_weaker (λ k. newest all k.subject ≡ Some k) (λ k. is_news all k ≡ false) (λ k e. rw e (false_from_ne_true (outranks k k) (λ h. outranks_irreflexive k (outranks_fact k k h)))) ks found

-- each row of a table is found
pub rows_found : (t : List Cert) → IsTable t → AllByRecursion (λ k. newest t k.subject ≡ Some k) t
rows_found [] is = tt
rows_found (j ∷ js) is = (rw (eq-eqb j.subject j.subject refl) refl, all_both (λ k. j.subject < k.subject) (λ k. newest js k.subject ≡ Some k) (λ k. newest (j ∷ js) k.subject ≡ Some k) behind js is.0 (rows_found js is.1)) where
  behind : (k : Cert) → j.subject < k.subject → newest js k.subject ≡ Some k → newest (j ∷ js) k.subject ≡ Some k
  behind k less found = rw (ne_eqb j.subject k.subject (λ e. omega (arith, less, e))) found

pub rows_known : (t : List Cert) → IsTable t → AllByRecursion (λ k. is_news t k ≡ false) t
rows_known t up = rows_from t t (rows_found t up)

-- a property of each item holds of each that is left
pub all_drop : {X : Type 0} (P : X → Type 0) (n : ℕ) (xs : List X) → AllByRecursion P xs → AllByRecursion P (drop n xs)
all_drop P zero xs all = all
all_drop P (suc n) [] all = tt
all_drop P (suc n) (x ∷ xs) all = all_drop P n xs all.1

-- a certificate that comes in keeps the mode's part
sound_entered : (m : Mode) (nodes : ℕ) (d : Durable) (c : Cert) → d.mode ≡ m → IsSoundDurable nodes d → IsSoundAs m d → IsSoundAs m (record d { table = merge d.table c; log = noted m d.log c })
sound_entered (modes.Joined p) nodes d c is sound here = (
  here.0,
  here.1,
  (let more : length (d.log.waiting ++ c ∷ []) ≡ length d.log.waiting + length (c ∷ []) = length-append d.log.waiting (c ∷ []) in omega (arith, here.2)),
  all_append (λ w. is_news (merge d.table c) w ≡ false) d.log.waiting (c ∷ []) (all_weaker (λ w. is_news d.table w ≡ false) (λ w. is_news (merge d.table c) w ≡ false) (λ w e. merge_keeps d.table c w e) d.log.waiting here.3) (merge_takes d.table c, tt),
)
sound_entered (modes.Asking p) nodes d c is sound here = here
sound_entered modes.Idle nodes d c is sound here = here
sound_entered modes.Acting nodes d c is sound here = here

-- nothing can be acknowledged of an empty log
ack_empty : (l : Log) (upto : ℕ) → l ≡ empty_log → ack l upto ≡ empty_log
ack_empty l upto is = rw is (by_test (is_ahead empty_log upto) refl) where
  by_test : (b : Bool) → is_ahead empty_log upto ≡ b → (if b then record { length = 0; acked = upto; waiting = drop (upto - 0) [] } else empty_log) ≡ empty_log
  by_test true e = let parts = and_parts (nat_lt 0 upto) (nat_le upto 0) e in absurd (let past : 0 < upto = ltb-true 0 upto parts.0 in let within : upto ≤ 0 = leb-true upto 0 parts.1 in omega arith)
  by_test false e = refl

-- an acknowledged log
sound_acked : (m : Mode) (d : Durable) (upto : ℕ) → IsSoundAs m d → IsSoundAs m (record d { log = ack d.log upto })
sound_acked (modes.Joined p) d upto here = by_test (is_ahead d.log upto) refl where
  by_test : (b : Bool) → is_ahead d.log upto ≡ b → IsSoundAs (modes.Joined p) (record d { log = if b then record { length = d.log.length; acked = upto; waiting = drop (upto - d.log.acked) d.log.waiting } else d.log })
  by_test true e =
      let parts = and_parts (nat_lt d.log.acked upto) (nat_le upto d.log.length) e in
      let past : d.log.acked < upto = ltb-true d.log.acked upto parts.0 in
      let within : upto ≤ d.log.length = leb-true upto d.log.length parts.1 in
      (here.0, here.1, omega (arith, here.2, length-drop (upto - d.log.acked) d.log.waiting), all_drop (λ w. is_news d.table w ≡ false) (upto - d.log.acked) d.log.waiting here.3)
  by_test false e = here
sound_acked (modes.Asking p) d upto here = (here.0, ack_empty d.log upto here.1)
sound_acked modes.Idle d upto here = ack_empty d.log upto here
sound_acked modes.Acting d upto here = ack_empty d.log upto here

-- a change of nothing that the mode's part speaks of
pub sound_aside : (m : Mode) (d e : Durable) → e.seq ≡ d.seq → e.rank ≡ d.rank → e.table ≡ d.table → e.log ≡ d.log → IsSoundAs m d → IsSoundAs m e
sound_aside (modes.Joined p) d e seq rank table log here = rw (seq, rank, table, log) here
sound_aside (modes.Asking p) d e seq rank table log here = rw (seq, log) here
sound_aside modes.Idle d e seq rank table log here = rw log here
sound_aside modes.Acting d e seq rank table log here = rw log here

-- some rank in the place of the rank
sound_ranked : (m : Mode) (d : Durable) (r : Rank) → IsSoundAs m d → IsSoundAs m (record d { rank = Some r })
sound_ranked (modes.Joined p) d r here = (here.0, (r, refl), here.2, here.3)
sound_ranked (modes.Asking p) d r here = here
sound_ranked modes.Idle d r here = here
sound_ranked modes.Acting d r here = here

abbrev joined_state : Durable → ℕ → Rank → Durable
joined_state d p r = record d { mode = modes.Joined p; rank = Some r; log = begun_with d.table }

sound_joined : (nodes : ℕ) (d : Durable) (p : ℕ) (r : Rank) → IsSoundDurable nodes d → IsSoundDurable nodes (fold_one d (records.Joined p r))
sound_joined nodes d p r sound =
    cond_both (d.seq == 0) d (joined_state d p r) (IsSoundDurable nodes)
    (λ _. sound)
    (λ e. record {
      table = sound.table;
      mode = (eqb-false d.seq 0 e, (r, refl), omega arith, rows_known d.table sound.table);
      own = sound.own;
      ancestors = sound.ancestors;
      measures = sound.measures;
    })

-- each record that a rule writes keeps the durable state sound
pub sound_fold_one : (nodes : ℕ) (d : Durable) (r : Record) → IsSoundRecord r → IsSoundDurable nodes d → IsSoundDurable nodes (fold_one d r)
sound_fold_one nodes d (records.Ask s p) ok sound = record { table = sound.table; mode = (ok, refl); own = sound.own; ancestors = sound.ancestors; measures = sound.measures }
sound_fold_one nodes d (records.Joined p r) ok sound = sound_joined nodes d p r sound
sound_fold_one nodes d records.Lost ok sound = record { table = sound.table; mode = refl; own = sound.own; ancestors = sound.ancestors; measures = sound.measures }
sound_fold_one nodes d records.Acting ok sound = record { table = sound.table; mode = refl; own = sound.own; ancestors = omega arith; measures = sound.measures }
sound_fold_one nodes d (records.Ranked r) ok sound = record { table = sound.table; mode = sound_ranked d.mode d r sound.mode; own = sound.own; ancestors = sound.ancestors; measures = sound.measures }
sound_fold_one nodes d (records.OldEntry x s p dead) ok sound = absurd ok
sound_fold_one nodes d (records.Acked upto) ok sound = record { table = sound.table; mode = sound_acked d.mode d upto sound.mode; own = sound.own; ancestors = sound.ancestors; measures = sound.measures }
sound_fold_one nodes d (records.Ancestors xs) ok sound = record { table = sound.table; mode = sound_aside d.mode d (record d { ancestors = xs }) refl refl refl refl sound.mode; own = sound.own; ancestors = ok; measures = sound.measures }
sound_fold_one nodes d (records.Rate p rate hops) ok sound = record {
  table = sound.table;
  mode = sound_aside d.mode d (fold_one d (records.Rate p rate hops)) refl refl refl refl sound.mode;
  own = sound.own;
  ancestors = sound.ancestors;
  measures = length-set d.measures _ _ ∙ sound.measures;
}
sound_fold_one nodes d (records.Epoch e) ok sound = record { table = sound.table; mode = sound_ranked d.mode d (record { epoch = e; depth = 0 }) sound.mode; own = sound.own; ancestors = sound.ancestors; measures = sound.measures }
sound_fold_one nodes d (records.Base n) ok sound = absurd ok
sound_fold_one nodes d (records.Snapshot g) ok sound = absurd ok
sound_fold_one nodes d (records.Entry c) ok sound = record {
  table = table_merge d.table c sound.table;
  mode = sound_entered d.mode nodes d c refl sound sound.mode;
  own = sound.own;
  ancestors = sound.ancestors;
  measures = sound.measures;
}
sound_fold_one nodes d (records.Info number clients) ok sound = record {
  table = sound.table;
  mode = sound_aside d.mode d (record d { number = number; clients = clients }) refl refl refl refl sound.mode;
  own = λ e. absurd (ok e);
  ancestors = sound.ancestors;
  measures = sound.measures;
}

-- many records keep the durable state sound
pub sound_folded : (nodes : ℕ) (d : Durable) (rs : List Record) → AllByRecursion IsSoundRecord rs → IsSoundDurable nodes d → IsSoundDurable nodes (folded d rs)
sound_folded nodes d [] ok sound = sound
sound_folded nodes d (r ∷ rs) ok sound = sound_folded nodes (fold_one d r) rs ok.1 (sound_fold_one nodes d r ok.0 sound)
