-- Rule 7, answer an ask, writes at most an epoch and an entry.
use Rattle.std.proofs.Common.{ℕ, not, ◌&&◌, ◌==◌, if◌then◌else◌, Option, Some, None, refl, length-set}
use Rattle.oc_base.specs.declared.rank.Rank.{Rank}
use Rattle.oc_base.specs.declared.refusal.Refusal.{Refusal}
use Rattle.oc_model.specs.declared.message.Body.TheVariants as bodies
use Rattle.oc_model.specs.declared.record.Record.TheVariants as records
use Rattle.oc_model.specs.Adopting.{is_acting, raises, raises_over, host, birth, has_lease, grants, sends_rejoin, adopts, answers_ask, asked}
use Rattle.oc_model.specs.Adoption.{rank_or_last, precedes, adoption_refusal}
use Rattle.oc_model.specs.Leases.{renew}
use Rattle.oc_model.specs.Numbers.{raise}
use Rattle.oc_model.specs.Plan.{Plan, write, send, with_leases}
use Rattle.oc_model.specs.Table.{is_news}
use Rattle.oc_laws_step.proofs.Goes.{Goes, either, goes_itself, goes_still, goes_then, goes_write, goes_send, then_send, then_still, goes_free}

pub goes_raises : (o : Plan) (e : Option ℕ) → Goes 0 1 o (raises o e)
goes_raises o None = goes_free 0 1 o o (goes_itself o)
goes_raises o (Some e) = goes_write o (records.Epoch e) tt

goes_raises_over : (o : Plan) (x : ℕ) (r : Rank) → Goes 0 1 o (raises_over o x r)
goes_raises_over o x r =
    either (is_acting o.node.kept.mode && not (precedes (rank_or_last o.node.kept.rank) r) && not (x == o.node.me)) (Goes 0 1 o) (raises o (raise r.epoch)) o
    (goes_raises o (raise r.epoch)) (goes_free 0 1 o o (goes_itself o))

-- a lease that begins anew is no record
pub goes_renew : (o : Plan) (x : ℕ) → Goes 0 0 o (with_leases o (renew o.node.leases x o.node.soft.clock))
goes_renew o x =
    goes_still o (with_leases o (renew o.node.leases x o.node.soft.clock)) refl refl
    (record { me = refl; nodes = refl; chain = refl; chunk = refl; areas = refl; leases = length-set o.node.leases _ _; rates = refl; counts = refl })
    refl refl

goes_grants : (o : Plan) (x seq : ℕ) → Goes 0 0 o (grants o x seq)
goes_grants o x seq =
    then_send 0 0 o (with_leases o (renew o.node.leases x o.node.soft.clock)) x (bodies.Yes seq (rank_or_last o.node.kept.rank) o.node.kept.ancestors) (goes_renew o x)

pub goes_rejoin : (e k : ℕ) (o : Plan) (x seq : ℕ) → Goes e k o (sends_rejoin o x seq)
goes_rejoin e k o x seq = goes_free e k o (sends_rejoin o x seq) (goes_send o x (bodies.Rejoin seq))

goes_adopts : (o : Plan) (x seq : ℕ) → Goes 1 0 o (adopts o x seq)
goes_adopts o x seq =
    either (has_lease o.node x seq) (Goes 1 0 o) (grants o x seq)
    (if is_news o.node.kept.table (birth x seq o.node.me) then grants (write o (records.Entry (birth x seq o.node.me))) x seq else sends_rejoin o x seq)
    (goes_free 1 0 o (grants o x seq) (goes_grants o x seq))
    (either (is_news o.node.kept.table (birth x seq o.node.me)) (Goes 1 0 o) (grants (write o (records.Entry (birth x seq o.node.me))) x seq) (sends_rejoin o x seq)
    (then_still 1 0 o (write o (records.Entry (birth x seq o.node.me))) (grants (write o (records.Entry (birth x seq o.node.me))) x seq)
    (goes_write o (records.Entry (birth x seq o.node.me)) tt) (goes_grants (write o (records.Entry (birth x seq o.node.me))) x seq))
    (goes_rejoin 1 0 o x seq))

goes_answers_ask : (why : Option Refusal) (o : Plan) (x seq : ℕ) → Goes 1 0 o (answers_ask why o x seq)
goes_answers_ask None o x seq = goes_adopts o x seq
goes_answers_ask (Some why) o x seq = goes_free 1 0 o (send o x (bodies.No seq why)) (goes_send o x (bodies.No seq why))

pub goes_asked : (o : Plan) (x seq : ℕ) (r : Option Rank) → Goes 1 1 o (asked o x seq r)
goes_asked o x seq r =
    goes_then 0 1 1 0 o (raises_over o x (rank_or_last r)) (asked o x seq r) (goes_raises_over o x (rank_or_last r))
    (goes_answers_ask (adoption_refusal (host (raises_over o x (rank_or_last r)).node x) x r) (raises_over o x (rank_or_last r)) x seq)
