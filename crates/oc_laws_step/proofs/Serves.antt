-- Rule 15, client, writes no record, and rule 16, measured, at most one.
use Rattle.std.proofs.Common.{ℕ, ◌+◌, ◌-◌, ◌==◌, if◌then◌else◌, Option, Some, None, List, refl, length-set}
use Rattle.oc_base.specs.declared.shelf.Shelf.{Shelf}
use Rattle.oc_model.specs.declared.answer.Answer.TheVariants as words
use Rattle.oc_model.specs.declared.record.Record.TheVariants as records
use Rattle.oc_model.specs.Measures.{reading_of, same_reading}
use Rattle.oc_model.specs.Numbers.{capped}
use Rattle.oc_model.specs.Plan.{Plan, write, answers, with_soft}
use Rattle.oc_model.specs.Serving.{serves, redirects, server_for, client_of, client, may_move, measured}
use Rattle.oc_base.specs.Shelves.{line_of}
use Rattle.oc_laws_step.proofs.Goes.{Goes, either, goes_itself, goes_still, goes_write, goes_soft, then_answers, then_soft, goes_free, goes_says}

goes_serves : (o : Plan) (count : ℕ) → Goes 0 0 o (serves o count)
goes_serves o count =
    then_answers 0 0 o (with_soft o (record o.node.soft { served = capped (o.node.soft.served + 1) })) (words.Serve count)
    (goes_soft o (record o.node.soft { served = capped (o.node.soft.served + 1) }))

goes_redirects : (k : Option ℕ) (o : Plan) (count : ℕ) → Goes 0 0 o (redirects k o count)
goes_redirects None o count = goes_serves o count
goes_redirects (Some k) o count =
    goes_still o (redirects (Some k) o count) refl refl
    (record { me = refl; nodes = refl; chain = refl; chunk = refl; areas = refl; leases = refl; rates = refl; counts = length-set o.node.counts _ _ })
    refl refl

goes_client_of : (l : Option Shelf) (o : Plan) (area start : ℕ) → Goes 0 0 o (client_of l o area start)
goes_client_of None o area start = goes_says 0 0 o words.NoGroup
goes_client_of (Some l) o area start = goes_redirects (server_for o.node area) o (l.held - start)

pub goes_client : (o : Plan) (shelf : List Shelf) (area start : ℕ) (g : List ℕ) → Goes 0 0 o (client o shelf area start g)
goes_client o shelf area start g = goes_client_of (line_of g shelf) o area start

pub goes_measured : (o : Plan) (p rate hops : ℕ) → Goes 0 1 o (measured o p rate hops)
goes_measured o p rate hops =
    let wrote : Plan = write o (records.Rate p rate hops) in
    either (p == o.node.me) (Goes 0 1 o) (answers o words.Own)
    (if same_reading (reading_of o.node.kept.measures p) (record { rate = rate; hops = hops }) then o else may_move wrote)
    (goes_says 0 1 o words.Own)
    (either (same_reading (reading_of o.node.kept.measures p) (record { rate = rate; hops = hops })) (Goes 0 1 o) o (may_move wrote)
    (goes_free 0 1 o o (goes_itself o)) (then_soft 0 1 o wrote (record o.node.soft { moves = 0 }) (goes_write o (records.Rate p rate hops) tt)))
