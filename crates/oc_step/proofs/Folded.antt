-- The effect of records on one part of a node agrees with folding them.
use Rattle.std.proofs.Common.{◌≡◌, ℕ, Bool, true, false, ◌||◌, ◌==◌, if◌then◌else◌, Option, Some, List, [], ◌∷◌, ◌++◌, refl, sym, ◌∙◌, ap, eqb-true, append_assoc, append-nil, true≢false}
use Rattle.std.proofs.lemmas.Bool.{eqb-false}
use Rattle.std.specs.List.{list_any}
use Rattle.oc_base.specs.declared.cert.Cert.{Cert}
use Rattle.oc_model.specs.declared.record.Record.{Record}
use Rattle.oc_model.specs.declared.record.Record.TheVariants as records
use Rattle.oc_model.specs.declared.mode.Mode.{Mode}
use Rattle.oc_model.specs.declared.mode.Mode.TheVariants as modes
use Rattle.oc_model.specs.ChangeLog.{waits}
use Rattle.oc_model.specs.Node.{Durable, Log}
use Rattle.oc_model.specs.Records.{fold_one, folded, is_joined, noted}
use Rattle.oc_model.specs.Table.{newest, is_news, is_news_to, merge}
use Rattle.oc_laws_step.proofs.Tables.{newest-put_same, newest-put_other, newest-subject}
use Rattle.oc_step.specs.Since.{ancestors_by, ancestors_over, entry_with, entry_by, entry_over, AreTold, certs_of, certs_in}
use Rattle.oc_step.proofs.NextCerts.{waits-append, any_waits}

-- a choice of two states with these ancestors
either_ancestors : (b : Bool) (d e : Durable) (xs : List ℕ) → d.ancestors ≡ xs → e.ancestors ≡ xs → (if b then d else e).ancestors ≡ xs
either_ancestors true d e xs p q = p
either_ancestors false d e xs p q = q

-- one record
ancestors_folded_one : (d : Durable) (r : Record) → (fold_one d r).ancestors ≡ ancestors_by d.ancestors r
ancestors_folded_one d (records.Ask s p) = refl
ancestors_folded_one d (records.Joined p r) = either_ancestors (d.seq == 0) _ _ d.ancestors refl refl
ancestors_folded_one d records.Lost = refl
ancestors_folded_one d records.Acting = refl
ancestors_folded_one d (records.Ranked r) = refl
ancestors_folded_one d (records.OldEntry x s p dead) = refl
ancestors_folded_one d (records.Acked upto) = refl
ancestors_folded_one d (records.Ancestors xs) = refl
ancestors_folded_one d (records.Rate p rate hops) = refl
ancestors_folded_one d (records.Epoch e) = refl
ancestors_folded_one d (records.Base n) = either_ancestors (is_joined d.mode) _ _ d.ancestors refl refl
ancestors_folded_one d (records.Snapshot g) = refl
ancestors_folded_one d (records.Entry c) = refl
ancestors_folded_one d (records.Info number clients) = refl

-- the same for many records
pub ancestors_folded : (d : Durable) (rs : List Record) → (folded d rs).ancestors ≡ ancestors_over d.ancestors rs
ancestors_folded d [] = refl
ancestors_folded d (r ∷ rs) = ancestors_folded (fold_one d r) rs ∙ ap (λ (xs : List ℕ). ancestors_over xs rs) (ancestors_folded_one d r)

-- Entries

-- a certificate that comes into a table
newest_merged : (t : List Cert) (c : Cert) (x : ℕ) → newest (merge t c) x ≡ entry_with x (newest t x) c
newest_merged t c x = by_tests (c.subject == x) refl (is_news t c) refl where
  by_tests : (a : Bool) → (c.subject == x) ≡ a → (b : Bool) → is_news t c ≡ b → newest (merge t c) x ≡ entry_with x (newest t x) c
  by_tests true e b n =
      let own : c.subject ≡ x = eqb-true c.subject x e in
      let here : is_news_to (newest t x) c ≡ b = ap (λ (y : ℕ). is_news_to (newest t y) c) (sym own) ∙ n in
      by_news b n here where
        by_news : (b : Bool) → is_news t c ≡ b → is_news_to (newest t x) c ≡ b → newest (merge t c) x ≡ entry_with x (newest t x) c
        by_news true n here = rw (n, e, here) (newest-put_same t c x (eqb-true c.subject x e))
        by_news false n here = rw (n, e, here)
  by_tests false e true n = rw (n, e) (newest-put_other t c x (eqb-false c.subject x e))
  by_tests false e false n = rw (n, e)

-- a choice of two states with this entry
either_entry : (b : Bool) (d e : Durable) (x : ℕ) (was : Option Cert) → newest d.table x ≡ was → newest e.table x ≡ was → newest (if b then d else e).table x ≡ was
either_entry true d e x was p q = p
either_entry false d e x was p q = q

-- one record
entry_folded_one : (d : Durable) (r : Record) (x : ℕ) → newest (fold_one d r).table x ≡ entry_by x (newest d.table x) r
entry_folded_one d (records.Ask s p) x = refl
entry_folded_one d (records.Joined p r) x = either_entry (d.seq == 0) _ _ x (newest d.table x) refl refl
entry_folded_one d records.Lost x = refl
entry_folded_one d records.Acting x = refl
entry_folded_one d (records.Ranked r) x = refl
entry_folded_one d (records.OldEntry y s p dead) x = newest_merged d.table (record { subject = y; seq = s; parent = p; dead = dead; number = 0; clients = 0 }) x
entry_folded_one d (records.Acked upto) x = refl
entry_folded_one d (records.Ancestors xs) x = refl
entry_folded_one d (records.Rate p rate hops) x = refl
entry_folded_one d (records.Epoch e) x = refl
entry_folded_one d (records.Base n) x = either_entry (is_joined d.mode) _ _ x (newest d.table x) refl refl
entry_folded_one d (records.Snapshot g) x = refl
entry_folded_one d (records.Entry c) x = newest_merged d.table c x
entry_folded_one d (records.Info number clients) x = refl

-- the same for many records
pub entry_folded : (d : Durable) (rs : List Record) (x : ℕ) → newest (folded d rs).table x ≡ entry_over x (newest d.table x) rs
entry_folded d [] x = refl
entry_folded d (r ∷ rs) x = entry_folded (fold_one d r) rs x ∙ ap (λ (was : Option Cert). entry_over x was rs) (entry_folded_one d r x)

-- an entry is of its node
pub entry_subject : (t : List Cert) (x : ℕ) (k : Cert) → newest t x ≡ Some k → k.subject ≡ x
entry_subject t x k e = newest-subject t x k e

-- Records that tell a fact

-- records that tell a fact leave the measures
pub measures_told : (d : Durable) (rs : List Record) → AreTold rs → (folded d rs).measures ≡ d.measures
measures_told d [] told = refl
measures_told d (records.Entry c ∷ rs) told = measures_told (fold_one d (records.Entry c)) rs told.1
measures_told d (records.Info number clients ∷ rs) told = measures_told (fold_one d (records.Info number clients)) rs told.1
measures_told d (r ∷ rs) told = absurd (told.0)

-- records that tell a fact leave the mode
pub mode_told : (d : Durable) (rs : List Record) → AreTold rs → (folded d rs).mode ≡ d.mode
mode_told d [] told = refl
mode_told d (records.Entry c ∷ rs) told = mode_told (fold_one d (records.Entry c)) rs told.1
mode_told d (records.Info number clients ∷ rs) told = mode_told (fold_one d (records.Info number clients)) rs told.1
mode_told d (r ∷ rs) told = absurd (told.0)

-- the certificates of the records wait, at a joined node
noted_waiting : (m : Mode) (l : Log) (c : Cert) → is_joined m ≡ true → (noted m l c).waiting ≡ l.waiting ++ c ∷ []
noted_waiting modes.Idle l c joined = absurd (true≢false (sym joined))
noted_waiting (modes.Asking p) l c joined = absurd (true≢false (sym joined))
noted_waiting (modes.Joined p) l c joined = refl
noted_waiting modes.Acting l c joined = absurd (true≢false (sym joined))

noted_acked : (m : Mode) (l : Log) (c : Cert) → (noted m l c).acked ≡ l.acked
noted_acked modes.Idle l c = refl
noted_acked (modes.Asking p) l c = refl
noted_acked (modes.Joined p) l c = refl
noted_acked modes.Acting l c = refl

pub waiting_told : (d : Durable) (rs : List Record) → AreTold rs → is_joined d.mode ≡ true → (folded d rs).log.waiting ≡ d.log.waiting ++ certs_in rs
waiting_told d [] told joined = sym (append-nil d.log.waiting)
waiting_told d (records.Entry c ∷ rs) told joined =
    waiting_told (fold_one d (records.Entry c)) rs told.1 joined
    ∙ ap (λ (cs : List Cert). cs ++ certs_in rs) (noted_waiting d.mode d.log c joined)
    ∙ append_assoc d.log.waiting (c ∷ []) (certs_in rs)
waiting_told d (records.Info number clients ∷ rs) told joined = waiting_told (fold_one d (records.Info number clients)) rs told.1 joined
waiting_told d (r ∷ rs) told joined = absurd (told.0)

pub acked_told : (d : Durable) (rs : List Record) → AreTold rs → (folded d rs).log.acked ≡ d.log.acked
acked_told d [] told = refl
acked_told d (records.Entry c ∷ rs) told = acked_told (fold_one d (records.Entry c)) rs told.1 ∙ noted_acked d.mode d.log c
acked_told d (records.Info number clients ∷ rs) told = acked_told (fold_one d (records.Info number clients)) rs told.1
acked_told d (r ∷ rs) told = absurd (told.0)

-- some wait where some did, or where one of the records has a certificate
waits_told : (d : Durable) (rs : List Record) → AreTold rs → is_joined (folded d rs).mode ≡ true → waits (folded d rs).log.waiting ≡ (waits d.log.waiting || list_any (λ r. waits (certs_of r)) rs)
waits_told d rs told joined =
    ap waits (waiting_told d rs told (sym (ap is_joined (mode_told d rs told)) ∙ joined))
    ∙ waits-append d.log.waiting (certs_in rs)
    ∙ ap (λ (b : Bool). waits d.log.waiting || b) (sym (any_waits rs))

pub waits_still : (d : Durable) (rs : List Record) (first : Bool) → AreTold rs → is_joined (folded d rs).mode ≡ true → first ≡ waits d.log.waiting → first ≡ true → first ≡ waits (folded d rs).log.waiting
waits_still d rs first told joined is some =
    some ∙ sym (waits_told d rs told joined ∙ ap (λ (b : Bool). b || list_any (λ r. waits (certs_of r)) rs) (sym is ∙ some))

pub waits_now : (d : Durable) (rs : List Record) (first rest : Bool) → AreTold rs → is_joined (folded d rs).mode ≡ true → first ≡ waits d.log.waiting → first ≡ false → rest ≡ list_any (λ r. waits (certs_of r)) rs → rest ≡ waits (folded d rs).log.waiting
waits_now d rs first rest told joined is none more =
    more ∙ sym (waits_told d rs told joined ∙ ap (λ (b : Bool). b || list_any (λ r. waits (certs_of r)) rs) (sym is ∙ none))
