-- The core of a node: its place in the tree and its own count. One check makes at most one small change to the core.
use Rattle.std.proofs.Common.{◌≡◌, ℕ, ◌+◌, ◌≤◌, Bool, true, false, not, ◌&&◌, ◌==◌, nat_lt, if◌then◌else◌, Option, Some, None, List, [], ◌∷◌, filter, unwrap_or, refl, sym, subst, ◌∙◌, arith}
use Rattle.oc_base.specs.declared.cert.Cert.{Cert}
use Rattle.oc_base.specs.declared.rank.Rank.{Rank}
use Rattle.oc_base.specs.declared.shelf.Shelf.{Shelf}
use Rattle.oc_model.specs.declared.answer.Answer.TheVariants as words
use Rattle.oc_model.specs.declared.message.Body.TheVariants as bodies
use Rattle.oc_model.specs.declared.mode.Mode.{Mode}
use Rattle.oc_model.specs.declared.mode.Mode.TheVariants as modes
use Rattle.oc_model.specs.declared.record.Record.TheVariants as records
use Rattle.oc_model.specs.declared.soft.Search.{Search}
use Rattle.oc_model.specs.declared.soft.Search.TheVariants as searches
use Rattle.oc_model.specs.Adopting.{raises}
use Rattle.oc_model.specs.Adoption.{rank_or_last}
use Rattle.oc_model.specs.Asking.{lost_from, lost, send_ask, ask, next_epoch, act, descend, try_at, waits_awhile, try_first, set_tries, round}
use Rattle.oc_model.specs.Checking.{counts_clients, notes_time, reports, checks_as, sets_due, checks, merges, merges_all, at_time, starts_leases, dies, ends_each, ends_leases, looks_at_each, looks_round, is_due, forgets_refusal, goes_on, tick_checks_as, tick_checks, checks_in_time, has_news, reports_news_as, reports_news, checks_if_due, fetches_as, tick}
use Rattle.oc_model.specs.Choice.{below}
use Rattle.oc_model.specs.Heal.{epoch_in}
use Rattle.oc_model.specs.Leases.{ended}
use Rattle.oc_model.specs.Node.{Control}
use Rattle.oc_model.specs.Numbers.{number_end, raise, capped, is_empty}
use Rattle.oc_model.specs.Plan.{Plan, write, send, answers, with_soft, searching, is_member}
use Rattle.oc_model.specs.Table.{newest, is_news}
use Rattle.oc_model.proofs.Rules.{either}

pub record Core : Type 0 where
  pub me : ℕ
  pub chain : ℕ
  pub seq : ℕ
  pub mode : Mode
  pub rank : Option Rank
  pub number : ℕ
  pub clients : ℕ
  pub ancestors : List ℕ
  pub served : ℕ
  pub wish : Option ℕ

abbrev pub core_of : Control → Core
core_of n = record {
  me = n.me;
  chain = n.chain;
  seq = n.kept.seq;
  mode = n.kept.mode;
  rank = n.kept.rank;
  number = n.kept.number;
  clients = n.kept.clients;
  ancestors = n.kept.ancestors;
  served = n.soft.served;
  wish = n.soft.wish;
}

-- whether clients were served that the own count lacks and may still count
abbrev pub has_uncounted : Core → Bool
has_uncounted k = not (k.served == 0) && nat_lt k.number number_end

abbrev pub IsCounted : Core → Type 0
IsCounted k = has_uncounted k ≡ false

abbrev pub with_count : Core → Core
with_count k = record k { number = k.number + 1; clients = capped (k.clients + k.served); served = 0 }

-- the core with all clients in the own count
abbrev pub counted : Core → Core
counted k = if has_uncounted k then with_count k else k

pub is_counted : (k : Core) → IsCounted (counted k)
is_counted k = by_test (has_uncounted k) refl where
  by_test : (b : Bool) → has_uncounted k ≡ b → IsCounted (if b then with_count k else k)
  by_test true e = refl
  by_test false e = e

-- a core with no client left to count stays the same
pub counted_once : (k : Core) → IsCounted k → counted k ≡ k
counted_once k e = rw e refl

abbrev pub raised : Core → ℕ → Core
raised k e = record k { rank = Some (record { epoch = e; depth = 0 }) }

abbrev pub asking : Core → ℕ → Core
asking k p = record k { seq = k.seq + 1; mode = modes.Asking p }

abbrev pub acting : Core → Core
acting k = record k { mode = modes.Acting; ancestors = []; rank = Some (record { epoch = next_epoch (rank_or_last k.rank); depth = 0 }) }

-- the possible cores after a check: the same one, or one of these
pub record IsCheckClosed (P : Core → Type 0) (k : Core) : Type 0 where
  pub still : P k
  pub counts : (p : ℕ) → k.mode ≡ modes.Joined p → has_uncounted k ≡ true → P (with_count k)
  pub raises : (e : ℕ) → k.mode ≡ modes.Acting → raise (rank_or_last k.rank).epoch ≡ Some e → P (raised k e)
  pub asks : (p : ℕ) → k.mode ≡ modes.Idle → P (asking k p)
  pub acts : k.mode ≡ modes.Idle → P (acting k)

-- an idle node has no parent to lose
lost_idle : (o : Plan) → o.node.kept.mode ≡ modes.Idle → lost o ≡ o
lost_idle o idle = subst (λ m. lost_from m o ≡ o) (sym idle) refl

module _ (P : Core → Type 0) where
  -- a property of the core of a step under way
  abbrev OfCore : Plan → Type 0
  OfCore o = P (core_of o.node)

  core_ask : (o : Plan) (p : ℕ) → o.node.kept.mode ≡ modes.Idle → IsCheckClosed P (core_of o.node) → OfCore (ask o p)
  core_ask o p idle k = either (o.node.kept.seq == number_end) OfCore (answers (lost o) words.Spent) (send_ask (searching (write o (records.Ask (o.node.kept.seq + 1) p)) None) p) (subst (λ q. OfCore (answers q words.Spent)) (sym (lost_idle o idle)) k.still) (k.asks p idle)

  core_try_at : (o : Plan) (p : ℕ) → o.node.kept.mode ≡ modes.Idle → IsCheckClosed P (core_of o.node) → OfCore (try_at o p)
  core_try_at o p idle k = either (not (is_member o.node) && is_empty o.node.kept.ancestors) OfCore (descend o p) (ask o p) k.still (core_ask o p idle k)

  core_try_first : (ps : List ℕ) (o : Plan) → o.node.kept.mode ≡ modes.Idle → IsCheckClosed P (core_of o.node) → OfCore (try_first ps o)
  core_try_first [] o idle k = either (is_member o.node && o.node.soft.silent) OfCore (act o) (waits_awhile o) (k.acts idle) k.still
  core_try_first (p ∷ ps) o idle k = core_try_at (with_soft o (record o.node.soft { tries = ps })) p idle k

  core_round : (o : Plan) (without : Option ℕ) → o.node.kept.mode ≡ modes.Idle → IsCheckClosed P (core_of o.node) → OfCore (round o without)
  core_round o without idle k =
      let tried : Plan = set_tries o without in
      either (o.node.me == 1) OfCore (act tried) (try_first tried.node.soft.tries tried) (k.acts idle) (core_try_first tried.node.soft.tries tried idle k)

  core_raises : (o : Plan) → o.node.kept.mode ≡ modes.Acting → IsCheckClosed P (core_of o.node) → OfCore (raises o (raise (rank_or_last o.node.kept.rank).epoch))
  core_raises o acts k = by_raise (raise (rank_or_last o.node.kept.rank).epoch) refl where
    by_raise : (e : Option ℕ) → raise (rank_or_last o.node.kept.rank).epoch ≡ e → OfCore (raises o e)
    by_raise None f = k.still
    by_raise (Some e) f = k.raises e acts f

  core_counts : (o : Plan) (p : ℕ) → o.node.kept.mode ≡ modes.Joined p → IsCheckClosed P (core_of o.node) → OfCore (counts_clients o)
  core_counts o p joins k = by_test (has_uncounted (core_of o.node)) refl where
    by_test : (b : Bool) → has_uncounted (core_of o.node) ≡ b
        → OfCore (if b then with_soft (write o (records.Info (o.node.kept.number + 1) (capped (o.node.kept.clients + o.node.soft.served)))) (record o.node.soft { served = 0 }) else o)
    by_test true e = k.counts p joins e
    by_test false e = k.still

  core_checks_as : (m : Mode) (o : Plan) → o.node.kept.mode ≡ m → IsCheckClosed P (core_of o.node) → OfCore (checks_as m o)
  core_checks_as modes.Idle o is k = core_round o None is k
  core_checks_as (modes.Asking p) o is k = k.still
  core_checks_as (modes.Joined p) o is k = core_counts (notes_time o) p is k
  core_checks_as modes.Acting o is k = core_raises o is k

  -- a check
  pub core_checks : (o : Plan) → IsCheckClosed P (core_of o.node) → OfCore (checks o)
  core_checks o k = core_checks_as o.node.kept.mode (sets_due o) refl k

  core_goes_on : (s : Option Search) (o : Plan) → o.node.kept.mode ≡ modes.Idle → IsCheckClosed P (core_of o.node) → OfCore (goes_on s o)
  core_goes_on (Some (searches.Descend p)) o is k = k.still
  core_goes_on (Some searches.Review) o is k = core_round o None is k
  core_goes_on None o is k = core_round o None is k

  core_tick_checks_as : (m : Mode) (o : Plan) → o.node.kept.mode ≡ m → IsCheckClosed P (core_of o.node) → OfCore (tick_checks_as m o)
  core_tick_checks_as modes.Idle o is k = core_goes_on o.node.soft.search o is k
  core_tick_checks_as (modes.Asking p) o is k = core_checks_as (modes.Asking p) o is k
  core_tick_checks_as (modes.Joined p) o is k = core_checks_as (modes.Joined p) o is k
  core_tick_checks_as modes.Acting o is k = core_checks_as modes.Acting o is k

  -- the check of a tick
  core_tick_checks : (o : Plan) → IsCheckClosed P (core_of o.node) → OfCore (tick_checks o)
  core_tick_checks o k = core_tick_checks_as o.node.kept.mode (sets_due o) refl k

  core_looks_at_each : (xs : List ℕ) (o : Plan) → OfCore o → OfCore (looks_at_each xs o)
  core_looks_at_each [] o h = h
  core_looks_at_each (x ∷ xs) o h = core_looks_at_each xs (send o x bodies.Look) h

  core_looks_round : (m : Mode) (o : Plan) → OfCore o → OfCore (looks_round m o)
  core_looks_round (modes.Joined p) o h =
      let nearer : List ℕ = filter (λ x. nat_lt p x) (below o.node.me) in
      either (is_member o.node) OfCore (looks_at_each nearer o) (if o.node.soft.refused then o else send (searching o (Some searches.Review)) p bodies.Look) (core_looks_at_each nearer o h)
      (either o.node.soft.refused OfCore o (send (searching o (Some searches.Review)) p bodies.Look) h h)
  core_looks_round modes.Acting o h = either (is_member o.node) OfCore (looks_at_each (below o.node.me) o) o (core_looks_at_each (below o.node.me) o h) h
  core_looks_round modes.Idle o h = h
  core_looks_round (modes.Asking p) o h = h

  core_forgets_refusal : (due : Option ℕ) (o : Plan) → core_of (forgets_refusal due o).node ≡ core_of o.node
  core_forgets_refusal None o = refl
  core_forgets_refusal (Some t) o = refl

  core_checks_in_time : (o : Plan) → IsCheckClosed P (core_of o.node) → OfCore (checks_in_time o)
  core_checks_in_time o k =
      let begins : Plan = forgets_refusal o.node.soft.due o in
      core_looks_round o.node.kept.mode (tick_checks begins) (core_tick_checks begins (subst (IsCheckClosed P) (sym (core_forgets_refusal o.node.soft.due o)) k))

  core_reports_news_as : (m : Mode) (o : Plan) → o.node.kept.mode ≡ m → IsCheckClosed P (core_of o.node) → OfCore (reports_news_as m o)
  core_reports_news_as modes.Idle o is k = k.still
  core_reports_news_as (modes.Asking p) o is k = k.still
  core_reports_news_as (modes.Joined p) o is k = either (has_news o.node) OfCore (reports o p) o (core_counts (notes_time o) p is k) k.still
  core_reports_news_as modes.Acting o is k = k.still

  core_checks_if_due : (o : Plan) → IsCheckClosed P (core_of o.node) → OfCore (checks_if_due o)
  core_checks_if_due o k = either (is_due o.node.soft.due o.node.soft.clock) OfCore (checks_in_time o) (reports_news o) (core_checks_in_time o k) (core_reports_news_as o.node.kept.mode o refl k)

  core_fetches_as : (m : Mode) (o : Plan) (ls : List Shelf) → OfCore o → OfCore (fetches_as m o ls)
  core_fetches_as (modes.Joined p) o ls h = h
  core_fetches_as modes.Idle o ls h = h
  core_fetches_as (modes.Asking p) o ls h = h
  core_fetches_as modes.Acting o ls h = h

  core_merges : (o : Plan) (c : Cert) → OfCore o → OfCore (merges o c)
  core_merges o c h = either (is_news o.node.kept.table c) OfCore (write o (records.Entry c)) o h h

  -- merging leaves the core unchanged
  pub core_merges_all : (cs : List Cert) (o : Plan) → OfCore o → OfCore (merges_all cs o)
  core_merges_all [] o h = h
  core_merges_all (c ∷ cs) o h = core_merges_all cs (merges o c) (core_merges o c h)

  core_ends_each : (xs : List ℕ) (o : Plan) → OfCore o → OfCore (ends_each xs o)
  core_ends_each [] o h = h
  core_ends_each (x ∷ xs) o h = core_ends_each xs (dies (newest o.node.kept.table x) o) (by_found (newest o.node.kept.table x)) where
    by_found : (e : Option Cert) → OfCore (dies e o)
    by_found None = h
    by_found (Some c) = core_merges o (record c { dead = true }) h

module _ (P : Core → Type 0) where
  -- a tick
  pub core_tick : (o : Plan) (ls : List Shelf) (t : ℕ) → IsCheckClosed P (core_of o.node) → P (core_of (tick o ls t).node)
  core_tick o ls t k =
      let started : Plan = starts_leases (at_time o t) in
      let over : Plan = ends_leases started in
      let checked : Plan = checks_if_due over in
      core_fetches_as P checked.node.kept.mode checked ls
      (core_checks_if_due P over (core_ends_each (IsCheckClosed P) (ended started.node.kept.table started.node.me started.node.leases started.node.soft.clock) started k))

-- The place after a check

-- the epoch of a rank, or 0 without a rank
pub epoch_or_last : (r : Option Rank) → (rank_or_last r).epoch ≡ epoch_in r
epoch_or_last None = refl
epoch_or_last (Some r) = refl

raise_one : (e f : ℕ) → raise e ≡ Some f → f ≡ e + 1
raise_one e f h = by_test (e == number_end) h where
  by_test : (b : Bool) → (if b then None else Some (e + 1)) ≡ Some f → f ≡ e + 1
  by_test true h = absurd cc
  by_test false h = cc

pub next_epoch_most : (r : Rank) → next_epoch r ≤ r.epoch + 1
next_epoch_most r = by_test (r.epoch == number_end) where
  by_test : (b : Bool) → unwrap_or (if b then None else Some (r.epoch + 1)) r.epoch ≤ r.epoch + 1
  by_test true = omega arith
  by_test false = omega arith

-- the core k after the core j, by a tick or a check: parents and roots stay
pub record HasChecked (j k : Core) : Type 0 where
  pub me : k.me ≡ j.me
  pub chain : k.chain ≡ j.chain
  pub joined : (p : ℕ) → j.mode ≡ modes.Joined p → (k.mode ≡ modes.Joined p) × (k.seq ≡ j.seq) × (k.rank ≡ j.rank) × (k.ancestors ≡ j.ancestors)
  pub back : (p : ℕ) → k.mode ≡ modes.Joined p → j.mode ≡ modes.Joined p
  pub acts : j.mode ≡ modes.Acting → k.mode ≡ modes.Acting
  pub counts : IsCounted j → (k.number ≡ j.number) × (k.clients ≡ j.clients) × IsCounted k
  pub seq : k.seq ≤ j.seq + 1
  pub epoch : epoch_in k.rank ≤ epoch_in j.rank + 1

has_checked : (j : Core) → IsCheckClosed (HasChecked j) j
has_checked j = record {
  still = record {
    me = refl;
    chain = refl;
    joined = λ p e. (e, refl, refl, refl);
    back = λ p e. e;
    acts = λ e. e;
    counts = λ e. (refl, refl, e);
    seq = omega arith;
    epoch = omega arith;
  };
  counts = λ p joins more. record {
    me = refl;
    chain = refl;
    joined = λ q e. (e, refl, refl, refl);
    back = λ q e. e;
    acts = λ e. e;
    counts = λ e. let clash : true ≡ false = sym more ∙ e in absurd cc;
    seq = omega arith;
    epoch = omega arith;
  };
  raises = λ e acts more. record {
    me = refl;
    chain = refl;
    joined = λ q joins. let clash : modes.Acting ≡ modes.Joined q = sym acts ∙ joins in absurd cc;
    back = λ q f. f;
    acts = λ f. f;
    counts = λ f. (refl, refl, f);
    seq = omega arith;
    epoch = omega (arith, raise_one (rank_or_last j.rank).epoch e more, epoch_or_last j.rank);
  };
  asks = λ p idle. record {
    me = refl;
    chain = refl;
    joined = λ q joins. let clash : modes.Idle ≡ modes.Joined q = sym idle ∙ joins in absurd cc;
    back = λ q f. absurd cc;
    acts = λ f. let clash : modes.Idle ≡ modes.Acting = sym idle ∙ f in absurd cc;
    counts = λ f. (refl, refl, f);
    seq = omega arith;
    epoch = omega arith;
  };
  acts = λ idle. record {
    me = refl;
    chain = refl;
    joined = λ q joins. let clash : modes.Idle ≡ modes.Joined q = sym idle ∙ joins in absurd cc;
    back = λ q f. absurd cc;
    acts = λ f. refl;
    counts = λ f. (refl, refl, f);
    seq = omega arith;
    epoch = omega (arith, next_epoch_most (rank_or_last j.rank), epoch_or_last j.rank);
  };
}

pub checks_core : (o : Plan) → HasChecked (core_of o.node) (core_of (checks o).node)
checks_core o = core_checks (HasChecked (core_of o.node)) o (has_checked (core_of o.node))

pub tick_core : (o : Plan) (ls : List Shelf) (t : ℕ) → HasChecked (core_of o.node) (core_of (tick o ls t).node)
tick_core o ls t = core_tick (HasChecked (core_of o.node)) o ls t (has_checked (core_of o.node))
