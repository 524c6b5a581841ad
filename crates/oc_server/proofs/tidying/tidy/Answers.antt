use Rattle.oc_server.proofs.Looking.{looks_then, stops_behind}
use Rattle.oc_deeds.proofs.Results.{done_then, err_then}
use Rattle.oc_server.proofs.tidying.tidy.Goals as goal

pub returns-clause-looks : goal.returns-clause-looks
returns-clause-looks g c =
    done_then c.read_ahead.result (λ looks. looks_then g.D.Disk.view c.args.kept.now c.turn_over.new.kept c.read_ahead.new.kept c.in_ok-turn_over.ensures.looks looks) c.read_ahead.ensures.looks

pub returns-clause-stops : goal.returns-clause-stops
returns-clause-stops g c =
    err_then c.read_ahead.result (λ end stops. stops_behind g.D.Disk.view end c.args.kept.now c.turn_over.new.kept c.read_ahead.new.kept c.in_ok-turn_over.ensures.looks stops) c.read_ahead.ensures.stops
