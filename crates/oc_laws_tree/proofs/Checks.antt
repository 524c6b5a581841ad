-- The effect of a check of a joined node, of its check-in and of the acknowledgement, each on the node that takes it.
use Rattle.std.proofs.Common.{◌≡◌, ℕ, ◌+◌, Bool, true, false, ◌&&◌, ◌==◌, if◌then◌else◌, Option, Some, None, List, [], ◌∷◌, ◌++◌, refl, ap, ap₂, sym, subst, ◌∙◌, eqb-true, eq-eqb}
use Rattle.std.proofs.lemmas.Bool.{and_parts}
use Rattle.oc_base.specs.declared.cert.Cert.{Cert}
use Rattle.oc_base.specs.declared.rank.Rank.{Rank}
use Rattle.oc_base.specs.Rank.{beneath_of}
use Rattle.oc_model.specs.declared.message.Body.{Body}
use Rattle.oc_model.specs.declared.message.Body.TheVariants.{CheckIn, CheckAck}
use Rattle.oc_model.specs.declared.message.Message.{Message}
use Rattle.oc_model.specs.declared.mode.Mode.{Mode}
use Rattle.oc_model.specs.declared.mode.Mode.TheVariants.{Joined}
use Rattle.oc_model.specs.declared.record.Record.TheVariants as records
use Rattle.oc_model.specs.Adopting.{has_lease, sends_rejoin}
use Rattle.oc_model.specs.Adoption.{rank_or_last, is_better, take_rank}
use Rattle.oc_model.specs.Asking.{ancestors_by}
use Rattle.oc_model.specs.ChangeLog.{next_certs, place_after, ack, is_ahead}
use Rattle.oc_model.specs.Checking.{checks_in, checks_as, next_check, checks, merges, merges_all, acknowledges, life, checked_in, is_joined_to, takes_place, takes_rank, takes_rank_unless, same_ids, takes_ancestors, took_ack}
use Rattle.oc_model.specs.Leases.{renew}
use Rattle.oc_model.specs.Node.{Control}
use Rattle.oc_model.specs.Numbers.{capped}
use Rattle.oc_model.specs.Plan.{Plan, begun, write, with_soft}
use Rattle.oc_model.specs.Table.{is_news, put, merge_all}
use Rattle.oc_laws_tree.proofs.Core.{Core, core_of, has_uncounted, with_count, counted}

-- a message
abbrev pub from_to : ℕ → ℕ → Body → Message
from_to x y b = record { from = x; to = y; body = b }

-- The check

-- the other parts of a node: its table, its lease ends and its clock
pub record HasSameRest (n m : Control) : Type 0 where
  pub table : m.kept.table ≡ n.kept.table
  pub leases : m.leases ≡ n.leases
  pub clock : m.soft.clock ≡ n.soft.clock

-- a node joined to p has checked: its own count may rise, and it has sent a check-in
pub record SendsCheckIn (n : Control) (p : ℕ) (o : Plan) : Type 0 where
  pub core : core_of o.node ≡ counted (core_of n)
  pub rest : HasSameRest n o.node
  pub log : o.node.kept.log ≡ n.kept.log
  pub rate : ℕ
  pub sends : o.sends ≡ from_to n.me p (CheckIn n.kept.seq (place_after n.kept.log) rate o.node.kept.number o.node.kept.clients (next_certs n.kept.log)) ∷ []

pub check_sends : (n : Control) (p : ℕ) → n.kept.mode ≡ Joined p → SendsCheckIn n p (checks (begun n))
check_sends n p joins =
    let o : Plan = with_soft (begun n) (record n.soft { due = Some (next_check n) }) in
    subst (λ (m : Mode). SendsCheckIn n p (checks_as m o)) (sym joins) (by_test (has_uncounted (core_of n)) refl) where
      by_test : (b : Bool) → has_uncounted (core_of n) ≡ b → let o : Plan = with_soft (begun n) (record n.soft { due = Some (next_check n); checked = Some n.soft.clock }) in
          SendsCheckIn n p (checks_in (if b then with_soft (write o (records.Info (n.kept.number + 1) (capped (n.kept.clients + n.soft.served)))) (record o.node.soft { served = 0 }) else o) p)
      by_test true e = record { core = ap (λ b. if b then with_count (core_of n) else core_of n) (sym e); rest = record { table = refl; leases = refl; clock = refl }; log = refl; rate = _; sends = refl }
      by_test false e = record { core = ap (λ b. if b then with_count (core_of n) else core_of n) (sym e); rest = record { table = refl; leases = refl; clock = refl }; log = refl; rate = _; sends = refl }

-- The check-in

-- certificates were merged: all is as before except the table and the log
pub record HasMerged (cs : List Cert) (o q : Plan) : Type 0 where
  pub core : core_of q.node ≡ core_of o.node
  pub table : q.node.kept.table ≡ merge_all o.node.kept.table cs
  pub leases : q.node.leases ≡ o.node.leases
  pub clock : q.node.soft.clock ≡ o.node.soft.clock
  pub sends : q.sends ≡ o.sends

merged_one : (c : Cert) (o : Plan) → HasMerged (c ∷ []) o (merges o c)
merged_one c o = by_test (is_news o.node.kept.table c) refl where
  by_test : (b : Bool) → is_news o.node.kept.table c ≡ b → HasMerged (c ∷ []) o (if b then write o (records.Entry c) else o)
  by_test true e = record { core = refl; table = refl; leases = refl; clock = refl; sends = refl }
  by_test false e = record { core = refl; table = ap (λ b. if b then put o.node.kept.table c else o.node.kept.table) (sym e); leases = refl; clock = refl; sends = refl }

pub all_merged : (cs : List Cert) (o : Plan) → HasMerged cs o (merges_all cs o)
all_merged [] o = record { core = refl; table = refl; leases = refl; clock = refl; sends = refl }
all_merged (c ∷ cs) o =
    let first : HasMerged (c ∷ []) o (merges o c) = merged_one c o in
    let rest : HasMerged cs (merges o c) (merges_all cs (merges o c)) = all_merged cs (merges o c) in
    record {
      core = rest.core ∙ first.core;
      table = rest.table ∙ ap (λ t. merge_all t cs) first.table;
      leases = rest.leases ∙ first.leases;
      clock = rest.clock ∙ first.clock;
      sends = rest.sends ∙ first.sends;
    }

-- a child whose lease is held has checked in: its certificates are merged, its lease begins anew, and it gets an
-- acknowledgement
pub record TakesCheckIn (n : Control) (x seq upto number clients : ℕ) (certs : List Cert) (o : Plan) : Type 0 where
  pub core : core_of o.node ≡ core_of n
  pub table : o.node.kept.table ≡ merge_all n.kept.table (life x seq n.me number clients ∷ certs)
  pub leases : o.node.leases ≡ renew n.leases x n.soft.clock
  pub clock : o.node.soft.clock ≡ n.soft.clock
  pub sends : o.sends ≡ from_to n.me x (CheckAck seq upto (rank_or_last n.kept.rank) n.kept.ancestors) ∷ []

pub check_in_taken : (n : Control) (x seq upto rate number clients : ℕ) (certs : List Cert) → has_lease n x seq ≡ true → TakesCheckIn n x seq upto number clients certs (checked_in (begun n) x seq upto rate number clients certs)
check_in_taken n x seq upto rate number clients certs leased =
    let told : List Cert = life x seq n.me number clients ∷ certs in
    let q : Plan = merges_all told (begun n) in
    let merged : HasMerged told (begun n) q = all_merged told (begun n) in
    subst (λ (b : Bool). TakesCheckIn n x seq upto number clients certs (if b then acknowledges q x seq upto rate else sends_rejoin (begun n) x seq)) (sym leased) record {
      core = merged.core;
      table = merged.table;
      leases = ap₂ (λ (ends : List (Option ℕ)) (now : ℕ). renew ends x now) merged.leases merged.clock;
      clock = merged.clock;
      sends =
          let me : q.node.me ≡ n.me = ap (λ (k : Core). k.me) merged.core in
          let rank : q.node.kept.rank ≡ n.kept.rank = ap (λ (k : Core). k.rank) merged.core in
          let ancestors : q.node.kept.ancestors ≡ n.kept.ancestors = ap (λ (k : Core). k.ancestors) merged.core in
          let said : from_to q.node.me x (CheckAck seq upto (rank_or_last q.node.kept.rank) q.node.kept.ancestors) ≡ from_to n.me x (CheckAck seq upto (rank_or_last n.kept.rank) n.kept.ancestors) = cc in
          ap₂ (λ (ms : List Message) (m : Message). ms ++ m ∷ []) merged.sends said;
    }

-- a check-in without a held lease is answered by a rejoin
pub check_in_refused : (n : Control) (x seq upto rate number clients : ℕ) (certs : List Cert) → has_lease n x seq ≡ false → checked_in (begun n) x seq upto rate number clients certs ≡ sends_rejoin (begun n) x seq
check_in_refused n x seq upto rate number clients certs none = rw none refl

-- The acknowledgement

-- a node that wishes for another place keeps its rank
abbrev pub rank_unless : Option ℕ → Option Rank → Rank → Option Rank
rank_unless None own told = take_rank own told
rank_unless (Some g) own told = own

-- the node has taken the acknowledgement: its place in the log, its ancestors, and the rank beneath its parent's if that is
-- better and the node has no wish
pub record TakesAck (n : Control) (p upto : ℕ) (told : Rank) (xs : List ℕ) (o : Plan) : Type 0 where
  pub core : core_of o.node ≡ record (core_of n) { rank = rank_unless n.soft.wish n.kept.rank told; ancestors = ancestors_by p xs }
  pub rest : HasSameRest n o.node
  pub log : o.node.kept.log ≡ ack n.kept.log upto

place_taken : (o : Plan) (upto : ℕ) → (core_of (takes_place o upto).node ≡ core_of o.node) × HasSameRest o.node (takes_place o upto).node × ((takes_place o upto).node.kept.log ≡ ack o.node.kept.log upto)
place_taken o upto = by_test (is_ahead o.node.kept.log upto) refl where
  by_test : (b : Bool) → is_ahead o.node.kept.log upto ≡ b → let q : Plan = if b then write o (records.Acked upto) else o in
      (core_of q.node ≡ core_of o.node) × HasSameRest o.node q.node × (q.node.kept.log ≡ ack o.node.kept.log upto)
  by_test true e = (refl, record { table = refl; leases = refl; clock = refl }, refl)
  by_test false e = (refl, record { table = refl; leases = refl; clock = refl }, rw e refl)

rank_taken : (o : Plan) (told : Rank) → (core_of (takes_rank o told).node ≡ record (core_of o.node) { rank = take_rank o.node.kept.rank told }) × HasSameRest o.node (takes_rank o told).node × ((takes_rank o told).node.kept.log ≡ o.node.kept.log)
rank_taken o told = by_test (is_better o.node.kept.rank told) where
  by_test : (b : Bool) → let q : Plan = if b then write o (records.Ranked (beneath_of told)) else o in
      (core_of q.node ≡ record (core_of o.node) { rank = if b then Some (beneath_of told) else o.node.kept.rank }) × HasSameRest o.node q.node × (q.node.kept.log ≡ o.node.kept.log)
  by_test true = (refl, record { table = refl; leases = refl; clock = refl }, refl)
  by_test false = (refl, record { table = refl; leases = refl; clock = refl }, refl)

rank_taken_unless : (wish : Option ℕ) (o : Plan) (told : Rank)
    → (core_of (takes_rank_unless wish o told).node ≡ record (core_of o.node) { rank = rank_unless wish o.node.kept.rank told }) × HasSameRest o.node (takes_rank_unless wish o told).node
    × ((takes_rank_unless wish o told).node.kept.log ≡ o.node.kept.log)
rank_taken_unless None o told = rank_taken o told
rank_taken_unless (Some g) o told = (refl, record { table = refl; leases = refl; clock = refl }, refl)

-- lists of ids that pass the test of sameness are equal
ids_same : (xs ys : List ℕ) → same_ids xs ys ≡ true → xs ≡ ys
ids_same [] [] e = refl
ids_same [] (y ∷ ys) e = absurd cc
ids_same (x ∷ xs) [] e = absurd cc
ids_same (x ∷ xs) (y ∷ ys) e = let both = and_parts (x == y) (same_ids xs ys) e in ap₂ (λ (z : ℕ) (zs : List ℕ). z ∷ zs) (eqb-true x y both.0) (ids_same xs ys both.1)

ancestors_taken : (o : Plan) (xs : List ℕ) → (core_of (takes_ancestors o xs).node ≡ record (core_of o.node) { ancestors = xs }) × HasSameRest o.node (takes_ancestors o xs).node × ((takes_ancestors o xs).node.kept.log ≡ o.node.kept.log)
ancestors_taken o xs = by_test (same_ids xs o.node.kept.ancestors) refl where
  by_test : (b : Bool) → same_ids xs o.node.kept.ancestors ≡ b → let q : Plan = if b then o else write o (records.Ancestors xs) in
      (core_of q.node ≡ record (core_of o.node) { ancestors = xs }) × HasSameRest o.node q.node × (q.node.kept.log ≡ o.node.kept.log)
  by_test true e = (ap (λ (ys : List ℕ). record (core_of o.node) { ancestors = ys }) (sym (ids_same xs o.node.kept.ancestors e)), record { table = refl; leases = refl; clock = refl }, refl)
  by_test false e = (refl, record { table = refl; leases = refl; clock = refl }, refl)

pub ack_taken : (n : Control) (p upto : ℕ) (told : Rank) (xs : List ℕ) → n.kept.mode ≡ Joined p → TakesAck n p upto told xs (took_ack (begun n) p n.kept.seq upto told xs)
ack_taken n p upto told xs joins =
    let placed : Plan = takes_place (begun n) upto in
    let ranked : Plan = takes_rank_unless n.soft.wish placed told in
    let first = place_taken (begun n) upto in
    let second = rank_taken_unless n.soft.wish placed told in
    let third = ancestors_taken ranked (ancestors_by p xs) in
    let here : (is_joined_to n.kept.mode p && n.kept.seq == n.kept.seq) ≡ true = rw (joins, eq-eqb p p refl, eq-eqb n.kept.seq n.kept.seq refl) refl in
    rw here record {
      core = third.0 ∙ (ap (λ (k : Core). record k { ancestors = ancestors_by p xs }) second.0
          ∙ ap (λ (k : Core). record k { rank = rank_unless n.soft.wish k.rank told; ancestors = ancestors_by p xs }) first.0);
      rest = record { table = third.1.table ∙ (second.1.table ∙ first.1.table); leases = third.1.leases ∙ (second.1.leases ∙ first.1.leases); clock = third.1.clock ∙ (second.1.clock ∙ first.1.clock) };
      log = third.2 ∙ (second.2 ∙ first.2);
    }
