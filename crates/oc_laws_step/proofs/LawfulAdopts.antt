-- Rule 7, answer an ask, keeps a node lawful, and its records and messages are lawful.
use Rattle.std.proofs.Common.{ℕ, arith, not, ◌&&◌, ◌==◌, nat_le, if◌then◌else◌, Option, Some, None}
use Rattle.oc_base.specs.declared.rank.Rank.{Rank}
use Rattle.oc_base.specs.declared.refusal.Refusal.{Refusal}
use Rattle.oc_model.specs.declared.message.Body.TheVariants as bodies
use Rattle.oc_model.specs.declared.record.Record.TheVariants as records
use Rattle.oc_model.specs.Adopting.{is_acting, raises, raises_over, host, birth, has_lease, grants, sends_rejoin, adopts, answers_ask, asked_at, asked}
use Rattle.oc_model.specs.Adoption.{rank_or_last, precedes, adoption_refusal}
use Rattle.oc_base.specs.Lawful.{IsNode, IsLong, IsCount, IsRank, IsRankOrNone, IsRefusal}
use Rattle.oc_model.specs.Leases.{renew}
use Rattle.oc_model.specs.Numbers.{raise}
use Rattle.oc_model.specs.Plan.{Plan, write, with_leases}
use Rattle.oc_model.specs.Table.{is_news, leased_children}
use Rattle.oc_laws_step.specs.LawfulNode.{IsLawfulPlan}
use Rattle.oc_laws_step.proofs.Goes.{either}
use Rattle.oc_laws_step.proofs.LawfulFolds.{lawful_write, lawful_send, lawful_lists}
use Rattle.oc_laws_step.proofs.Ranges.{IfFound, raise_lawful, all_find, children_nodes, rank_lawful, refusal_lawful}

module _ (nodes : ℕ) where
  pub lawful_raises : (o : Plan) (e : Option ℕ) → IfFound IsLong e → IsLawfulPlan nodes o → IsLawfulPlan nodes (raises o e)
  lawful_raises o None here ok = ok
  lawful_raises o (Some e) here ok = lawful_write nodes o (records.Epoch e) here ok

  lawful_raises_over : (o : Plan) (x : ℕ) (r : Rank) → IsRank r → IsLawfulPlan nodes o → IsLawfulPlan nodes (raises_over o x r)
  lawful_raises_over o x r told ok =
      either (is_acting o.node.kept.mode && not (precedes (rank_or_last o.node.kept.rank) r) && not (x == o.node.me)) (IsLawfulPlan nodes) (raises o (raise r.epoch)) o
      (lawful_raises o (raise r.epoch) (raise_lawful r.epoch told.0) ok) ok

  lawful_grants : (o : Plan) (x seq : ℕ) → IsNode nodes x → IsCount seq → IsLawfulPlan nodes o → IsLawfulPlan nodes (grants o x seq)
  lawful_grants o x seq from counted ok =
      lawful_send nodes (with_leases o (renew o.node.leases x o.node.soft.clock)) x (bodies.Yes seq (rank_or_last o.node.kept.rank) o.node.kept.ancestors) from
      (counted, rank_lawful o.node.kept.rank ok.node.kept.rank, ok.node.kept.ancestors)
      (lawful_lists nodes o (renew o.node.leases x o.node.soft.clock) o.node.rates o.node.counts ok.node.rates ok)

  pub lawful_rejoin : (o : Plan) (x seq : ℕ) → IsNode nodes x → IsCount seq → IsLawfulPlan nodes o → IsLawfulPlan nodes (sends_rejoin o x seq)
  lawful_rejoin o x seq from counted ok = lawful_send nodes o x (bodies.Rejoin seq) from counted ok

  abbrev born : Plan → ℕ → ℕ → Plan
  born o x seq = write o (records.Entry (birth x seq o.node.me))

  lawful_born : (o : Plan) (x seq : ℕ) → IsNode nodes x → IsCount seq → IsLawfulPlan nodes o → IsLawfulPlan nodes (born o x seq)
  lawful_born o x seq from counted ok = lawful_write nodes o (records.Entry (birth x seq o.node.me)) (record { subject = from; seq = counted; parent = ok.node.me; number = omega arith; clients = omega arith }) ok

  lawful_adopts : (o : Plan) (x seq : ℕ) → IsNode nodes x → IsCount seq → IsLawfulPlan nodes o → IsLawfulPlan nodes (adopts o x seq)
  lawful_adopts o x seq from counted ok =
      either (has_lease o.node x seq) (IsLawfulPlan nodes) (grants o x seq)
      (if is_news o.node.kept.table (birth x seq o.node.me) then grants (born o x seq) x seq else sends_rejoin o x seq)
      (lawful_grants o x seq from counted ok)
      (either (is_news o.node.kept.table (birth x seq o.node.me)) (IsLawfulPlan nodes) (grants (born o x seq) x seq) (sends_rejoin o x seq)
      (lawful_grants (born o x seq) x seq from counted (lawful_born o x seq from counted ok)) (lawful_rejoin o x seq from counted ok))

  lawful_answers_ask : (why : Option Refusal) (o : Plan) (x seq : ℕ) → IfFound (IsRefusal nodes) why → IsNode nodes x → IsCount seq → IsLawfulPlan nodes o → IsLawfulPlan nodes (answers_ask why o x seq)
  lawful_answers_ask None o x seq fair from counted ok = lawful_adopts o x seq from counted ok
  lawful_answers_ask (Some why) o x seq fair from counted ok = lawful_send nodes o x (bodies.No seq why) from (counted, fair) ok

  lawful_asked_at : (o : Plan) (x seq : ℕ) (r : Option Rank) → IsNode nodes x → IsCount seq → IsLawfulPlan nodes o → IsLawfulPlan nodes (asked_at o x seq r)
  lawful_asked_at o x seq r from counted ok =
      lawful_answers_ask (adoption_refusal (host o.node x) x r) o x seq
      (refusal_lawful nodes (host o.node x) x r
      (all_find (IsNode nodes) (λ k. nat_le k o.node.chain && not (k == x)) (leased_children o.node.kept.table o.node.me) (children_nodes nodes o.node.kept.table o.node.me ok.node.kept.table)))
      from counted ok

  pub lawful_asked : (o : Plan) (x seq : ℕ) (r : Option Rank) → IsNode nodes x → IsCount seq → IsRankOrNone r → IsLawfulPlan nodes o → IsLawfulPlan nodes (asked o x seq r)
  lawful_asked o x seq r from counted told ok =
      lawful_asked_at (raises_over o x (rank_or_last r)) x seq r from counted (lawful_raises_over o x (rank_or_last r) (rank_lawful r told) ok)
