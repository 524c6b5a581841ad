-- The effect of a step on the durable state: none, or another mode or ask number, or the same mode and number with another part.
use Rattle.std.proofs.Common.{◌≡◌, ℕ, ◌+◌, ◌<◌, true, false, List, [], ◌∷◌, ◌++◌, length, ◌⊎◌, inl, inr, refl, ap, sym, subst, ◌∙◌, arith, append_assoc, append-nil, length-append, true≢false}
use Rattle.oc_base.specs.declared.cert.Cert.{Cert}
use Rattle.oc_model.specs.declared.mode.Mode.{Mode}
use Rattle.oc_model.specs.declared.mode.Mode.TheVariants as modes
use Rattle.oc_model.specs.declared.record.Record.{Record}
use Rattle.oc_model.specs.declared.record.Record.TheVariants as records
use Rattle.oc_model.specs.Asking.{lost_from, lost}
use Rattle.oc_model.specs.ChangeLog.{note}
use Rattle.oc_model.specs.Node.{Durable, Log}
use Rattle.oc_model.specs.Plan.{Plan, write}
use Rattle.oc_model.specs.Records.{fold_one, entered, noted}
use Rattle.oc_model.specs.Table.{is_news, merge}
use Rattle.oc_record.specs.Quash.{AreTaken, with_tail, LogTakes}
use Rattle.oc_laws_step.proofs.Tables.{merge_takes, merge_keeps}

-- The change of the durable state

-- the ask number or the mode is another: neither a parent nor an ask is left that was there before
abbrev pub Left : Durable → Durable → Type 0
Left d e = (d.seq < e.seq) ⊎ ((e.seq ≡ d.seq) × ((e.mode ≡ modes.Idle) ⊎ (e.mode ≡ modes.Acting)) × (e.mode ≡ d.mode → ⊥))

-- the ask number and the mode are the same, these certificates were taken, and if Q holds some part
-- is another
pub record Stays (Q : Type 0) (d e : Durable) (taken : List Cert) : Type 0 where
  pub seq : e.seq ≡ d.seq
  pub mode : e.mode ≡ d.mode
  pub table : AreTaken d.table taken e.table
  pub log : (p : ℕ) → d.mode ≡ modes.Joined p → LogTakes d.log taken e.log
  pub changed : Q → e ≡ d → ⊥

-- the change by a step
pub data Moved (Q : Type 0) (d : Durable) (o : Plan) : Type 0 where
  still : o.records ≡ [] → o.node.kept ≡ d → Moved Q d o
  left : Left d o.node.kept → Moved Q d o
  joined : (p q : ℕ) → d.mode ≡ modes.Asking p → o.node.kept.mode ≡ modes.Joined q → Moved Q d o
  stays : (taken : List Cert) → Stays Q d o.node.kept taken → Moved Q d o

-- Certificates

-- one more certificate that is news
taken_more : (t u : List Cert) (cs : List Cert) (c : Cert) → AreTaken t cs u → is_news u c ≡ true → AreTaken t (cs ++ c ∷ []) (merge u c)
taken_more t u [] c same news = (subst (λ v. is_news v c ≡ true) same news, ap (λ v. merge v c) same)
taken_more t u (b ∷ cs) c all news = (all.0, taken_more (merge t b) u cs c all.1 news)

tail_more : (l : Log) (cs : List Cert) (c : Cert) → note (with_tail l cs) c ≡ with_tail l (cs ++ c ∷ [])
tail_more l cs c =
    let long : l.length + length cs + 1 ≡ l.length + length (cs ++ c ∷ []) = omega (arith, length-append cs (c ∷ [])) in
    (λ i. record { length = long i; acked = l.acked; waiting = append_assoc l.waiting cs (c ∷ []) i })

pub tail_none : (l : Log) → l ≡ with_tail l []
tail_none l =
    let long : l.length ≡ l.length + 0 = omega arith in
    (λ i. record { length = long i; acked = l.acked; waiting = sym (append-nil l.waiting) i })

-- a certificate that was news of one table and is none of the other
abbrev pub IsNewer : List Cert → List Cert → Type 0
IsNewer t u = (c : Cert) × (is_news t c ≡ true) × (is_news u c ≡ false)

pub newer_other : (t u : List Cert) → IsNewer t u → u ≡ t → ⊥
newer_other t u newer same = true≢false (sym newer.1 ∙ (ap (λ v. is_news v newer.0) (sym same) ∙ newer.2))

pub newer_takes : (t : List Cert) (c : Cert) → is_news t c ≡ true → IsNewer t (merge t c)
newer_takes t c news = (c, news, merge_takes t c)

newer_more : (t u : List Cert) (c : Cert) → IsNewer t u → IsNewer t (merge u c)
newer_more t u c newer = (newer.0, newer.1, merge_keeps u c newer.0 newer.2)

-- A step under way that has merged certificates at most

-- the ask number and the mode are the same, and these certificates were taken
pub record Keeps (d e : Durable) (taken : List Cert) : Type 0 where
  pub seq : e.seq ≡ d.seq
  pub mode : e.mode ≡ d.mode
  pub table : AreTaken d.table taken e.table
  pub log : (p : ℕ) → d.mode ≡ modes.Joined p → e.log ≡ with_tail d.log taken

-- nothing was written, or entries alone
pub data Fresh (d : Durable) (o : Plan) : Type 0 where
  same : o.records ≡ [] → o.node.kept ≡ d → Fresh d o
  newer : (taken : List Cert) → Keeps d o.node.kept taken → IsNewer d.table o.node.kept.table → Fresh d o

keeps_itself : (d e : Durable) → e ≡ d → Keeps d e []
keeps_itself d e is = record {
  seq = ap (λ f. f.seq) is;
  mode = ap (λ f. f.mode) is;
  table = ap (λ f. f.table) is;
  log = λ p joined. ap (λ f. f.log) is ∙ tail_none d.log;
}

-- the log takes a certificate while the node is joined
noted_joined : (m : Mode) (p : ℕ) (l : Log) (c : Cert) → m ≡ modes.Joined p → noted m l c ≡ note l c
noted_joined m p l c is = rw is

keeps_entry : (d e : Durable) (taken : List Cert) (c : Cert) → is_news e.table c ≡ true → Keeps d e taken → Keeps d (entered e c) (taken ++ c ∷ [])
keeps_entry d e taken c news keeps = record {
  seq = keeps.seq;
  mode = keeps.mode;
  table = taken_more d.table e.table taken c keeps.table news;
  log = λ p joined. noted_joined e.mode p e.log c (keeps.mode ∙ joined) ∙ (ap (λ l. note l c) (keeps.log p joined) ∙ tail_more d.log taken c);
}

pub fresh_entry : (d : Durable) (o : Plan) (c : Cert) → is_news o.node.kept.table c ≡ true → Fresh d o → Fresh d (write o (records.Entry c))
fresh_entry d o c news (same none is) =
    newer ([] ++ c ∷ []) (keeps_entry d o.node.kept [] c news (keeps_itself d o.node.kept is))
    (let before : is_news d.table c ≡ true = subst (λ e. is_news e.table c ≡ true) is news in
    subst (λ t. IsNewer d.table (merge t c)) (sym (ap (λ e. e.table) is)) (newer_takes d.table c before))
fresh_entry d o c news (newer taken keeps apart) = newer (taken ++ c ∷ []) (keeps_entry d o.node.kept taken c news keeps) (newer_more d.table o.node.kept.table c apart)

pub fresh_seq : (d : Durable) (o : Plan) → Fresh d o → o.node.kept.seq ≡ d.seq
fresh_seq d o (same none is) = ap (λ e. e.seq) is
fresh_seq d o (newer taken keeps apart) = keeps.seq

pub fresh_mode : (d : Durable) (o : Plan) → Fresh d o → o.node.kept.mode ≡ d.mode
fresh_mode d o (same none is) = ap (λ e. e.mode) is
fresh_mode d o (newer taken keeps apart) = keeps.mode

pub fresh_moved : (Q : Type 0) (d : Durable) (o : Plan) → Fresh d o → Moved Q d o
fresh_moved Q d o (same none is) = still none is
fresh_moved Q d o (newer taken keeps apart) =
    stays taken (record { seq = keeps.seq; mode = keeps.mode; table = keeps.table; log = λ p joined. inl (keeps.log p joined); changed = λ q is. newer_other d.table o.node.kept.table apart (ap (λ e. e.table) is) })

-- one record more that leaves number, mode, table and log alone, and makes some part another
pub fresh_part : (Q : Type 0) (d : Durable) (o : Plan) (r : Record) → (fold_one o.node.kept r).seq ≡ o.node.kept.seq → (fold_one o.node.kept r).mode ≡ o.node.kept.mode → (fold_one o.node.kept r).table ≡ o.node.kept.table
    → (fold_one o.node.kept r).log ≡ o.node.kept.log → (Q → fold_one o.node.kept r ≡ o.node.kept → ⊥) → Fresh d o → Moved Q d (write o r)
fresh_part Q d o r seq mode table log other (same none is) =
    let keeps : Keeps d o.node.kept [] = keeps_itself d o.node.kept is in
    stays [] (record {
      seq = seq ∙ keeps.seq;
      mode = mode ∙ keeps.mode;
      table = table ∙ keeps.table;
      log = λ p joined. inl (log ∙ keeps.log p joined);
      changed = λ q back. other q (back ∙ sym is);
    })
fresh_part Q d o r seq mode table log other (newer taken keeps apart) =
    stays taken (record {
      seq = seq ∙ keeps.seq;
      mode = mode ∙ keeps.mode;
      table = subst (AreTaken d.table taken) (sym table) keeps.table;
      log = λ p joined. inl (log ∙ keeps.log p joined);
      changed = λ q back. newer_other d.table o.node.kept.table apart (sym table ∙ ap (λ e. e.table) back);
    })

-- The ways in which a node gets a parent

-- a fresh step, or one that gave up the parent or the ask
pub data Begins (d : Durable) (o : Plan) : Type 0 where
  fresh : Fresh d o → Begins d o
  fallen : o.node.kept.seq ≡ d.seq → o.node.kept.mode ≡ modes.Idle → (d.mode ≡ modes.Idle → ⊥) → Begins d o

pub begins_seq : (d : Durable) (o : Plan) → Begins d o → o.node.kept.seq ≡ d.seq
begins_seq d o (fresh f) = fresh_seq d o f
begins_seq d o (fallen seq idle apart) = seq

pub begins_moved : (Q : Type 0) (d : Durable) (o : Plan) → Begins d o → Moved Q d o
begins_moved Q d o (fresh f) = fresh_moved Q d o f
begins_moved Q d o (fallen seq idle apart) = left (inr (seq, inl idle, λ e. apart (sym e ∙ idle)))

-- the same for a step under way with the same records and durable parts
pub begins_along : (d : Durable) (o q : Plan) → q.records ≡ o.records → q.node.kept ≡ o.node.kept → Begins d o → Begins d q
begins_along d o q rs kept (fresh (same none is)) = fresh (same (rs ∙ none) (kept ∙ is))
begins_along d o q rs kept (fresh (newer taken keeps apart)) = fresh (newer taken (subst (λ e. Keeps d e taken) (sym kept) keeps) (subst (λ e. IsNewer d.table e.table) (sym kept) apart))
begins_along d o q rs kept (fallen seq idle apart) = fallen (ap (λ e. e.seq) kept ∙ seq) (ap (λ e. e.mode) kept ∙ idle) apart

-- a parent that is given up was there
lost_fallen : (d : Durable) (o : Plan) (m : Mode) → o.node.kept.mode ≡ m → (m ≡ modes.Idle → ⊥) → Begins d o → Begins d (write o records.Lost)
lost_fallen d o m is there (fresh f) = fallen (fresh_seq d o f) refl (λ e. there (sym is ∙ (fresh_mode d o f ∙ e)))
lost_fallen d o m is there (fallen seq idle apart) = absurd (there (sym is ∙ idle))

begins_lost_from : (d : Durable) (o : Plan) (m : Mode) → o.node.kept.mode ≡ m → Begins d o → Begins d (lost_from m o)
begins_lost_from d o modes.Idle is b = b
begins_lost_from d o (modes.Asking p) is b = lost_fallen d o (modes.Asking p) is (λ e. absurd (cc e)) b
begins_lost_from d o (modes.Joined p) is b = lost_fallen d o (modes.Joined p) is (λ e. absurd (cc e)) b
begins_lost_from d o modes.Acting is b = lost_fallen d o modes.Acting is (λ e. absurd (cc e)) b

pub begins_lost : (d : Durable) (o : Plan) → Begins d o → Begins d (lost o)
begins_lost d o b = begins_lost_from d o o.node.kept.mode refl b
