use Rattle.std.proofs.Common.{sym, ap, ◌∙◌}
use Rattle.std.proofs.lemmas.Result.{err_from_is_err_and}
use Rattle.oc_routes.specs.declared.verdict.Verdict.{Verdict}
use Rattle.oc_deeds.specs.Asks.{obeys, takes_on}
use Rattle.oc_deeds.specs.Deeds.{BreaksOff, Permits, Refuses}
use Rattle.oc_deeds.specs.Hurries.{verdict_hurries}
use Rattle.oc_deeds.proofs.Results.{done_then, err_then, ok_then}
use Rattle.oc_deeds.specs.Parts.{one}
use Rattle.oc_deeds.proofs.obeying.obeys.Goals as goal

pub returns-in-Wait-clause-did : goal.returns-in-Wait-clause-did
returns-in-Wait-clause-did g c =
    let s = c.args.doer.now in
    c.parts_go_on.ensures.nothing_done (obeys c.args.connection c.args.count c.args.verdict c.args.now) s c.requires.serving (λ honest. ap (λ (v : Verdict). obeys c.args.connection c.args.count v c.args.now (g.W.Doer.setting s) (g.W.Doer.running s)) c.in-Wait.is)

pub returns-in-Wait-clause-hurries : goal.returns-in-Wait-clause-hurries
returns-in-Wait-clause-hurries g c = λ honest. sym (ap (λ (v : Verdict). verdict_hurries v (g.W.Doer.running c.args.doer.now).node) c.in-Wait.is)

pub returns-in-Leave-clause-did : goal.returns-in-Leave-clause-did
returns-in-Leave-clause-did g c =
    let s = c.args.doer.now in
    c.parts_go_on.ensures.as_same (one (BreaksOff c.args.connection)) (obeys c.args.connection c.args.count c.args.verdict c.args.now) s c.breaks_off.new.self (λ honest. ap (λ (v : Verdict). obeys c.args.connection c.args.count v c.args.now (g.W.Doer.setting s) (g.W.Doer.running s)) c.in-Leave.is) c.breaks_off.ensures

pub returns-in-Leave-clause-hurries : goal.returns-in-Leave-clause-hurries
returns-in-Leave-clause-hurries g c = λ honest. sym (ap (λ (v : Verdict). verdict_hurries v (g.W.Doer.running c.args.doer.now).node) c.in-Leave.is)

pub returns-in-Permit-clause-did : goal.returns-in-Permit-clause-did
returns-in-Permit-clause-did g c =
    let s = c.args.doer.now in
    c.parts_go_on.ensures.as_same (one (Permits c.args.connection)) (obeys c.args.connection c.args.count c.args.verdict c.args.now) s c.permits.new.self (λ honest. ap (λ (v : Verdict). obeys c.args.connection c.args.count v c.args.now (g.W.Doer.setting s) (g.W.Doer.running s)) c.in-Permit.is) c.permits.ensures

pub returns-in-Permit-clause-hurries : goal.returns-in-Permit-clause-hurries
returns-in-Permit-clause-hurries g c = λ honest. sym (ap (λ (v : Verdict). verdict_hurries v (g.W.Doer.running c.args.doer.now).node) c.in-Permit.is)

pub returns-in_ok-refuses-in-Refuse-clause-did : goal.returns-in_ok-refuses-in-Refuse-clause-did
returns-in_ok-refuses-in-Refuse-clause-did g c =
    let s = c.args.doer.now in
    c.parts_go_on.ensures.as_same (one (Refuses c.args.connection c.args.count c.in-Refuse.refusal)) (obeys c.args.connection c.args.count c.args.verdict c.args.now) s c.refuses.new.self (λ honest. ap (λ (v : Verdict). obeys c.args.connection c.args.count v c.args.now (g.W.Doer.setting s) (g.W.Doer.running s)) c.in-Refuse.is) c.in_ok-refuses-in-Refuse.ensures.did

pub returns-in_ok-refuses-in-Refuse-clause-hurries : goal.returns-in_ok-refuses-in-Refuse-clause-hurries
returns-in_ok-refuses-in-Refuse-clause-hurries g c = λ honest. sym (ap (λ (v : Verdict). verdict_hurries v (g.W.Doer.running c.args.doer.now).node) c.in-Refuse.is)

pub returns-in_err-refuses-in-Refuse-clause-breaks : goal.returns-in_err-refuses-in-Refuse-clause-breaks
returns-in_err-refuses-in-Refuse-clause-breaks g c =
    let p = err_from_is_err_and c.from_residual.result c.from_residual.ensures.1 in
    let s = c.args.doer.now in
    rw (p.1, p.2) (c.parts_stop.ensures.as_same c.in_err-refuses-in-Refuse.field-0.0 (one (Refuses c.args.connection c.args.count c.in-Refuse.refusal)) (obeys c.args.connection c.args.count c.args.verdict c.args.now) s c.refuses.new.self (λ honest. ap (λ (v : Verdict). obeys c.args.connection c.args.count v c.args.now (g.W.Doer.setting s) (g.W.Doer.running s)) c.in-Refuse.is) c.in_err-refuses-in-Refuse.ensures.breaks)

pub returns-in-Ask-clause-did : goal.returns-in-Ask-clause-did
returns-in-Ask-clause-did g c =
    let s = c.args.doer.now in
    done_then c.takes_on.result (λ does. c.parts_go_on.ensures.as_same (takes_on c.args.connection c.in-Ask.request c.args.now) (obeys c.args.connection c.args.count c.args.verdict c.args.now) s c.takes_on.new.doer (λ honest. ap (λ (v : Verdict). obeys c.args.connection c.args.count v c.args.now (g.W.Doer.setting s) (g.W.Doer.running s)) c.in-Ask.is) does) c.takes_on.ensures.did

pub returns-in-Ask-clause-hurries : goal.returns-in-Ask-clause-hurries
returns-in-Ask-clause-hurries g c =
    ok_then c.takes_on.result (λ b is honest. is honest ∙ sym (ap (λ (v : Verdict). verdict_hurries v (g.W.Doer.running c.args.doer.now).node) c.in-Ask.is)) c.takes_on.ensures.hurries

pub returns-in-Ask-clause-breaks : goal.returns-in-Ask-clause-breaks
returns-in-Ask-clause-breaks g c =
    let s = c.args.doer.now in
    err_then c.takes_on.result (λ end stops. c.parts_stop.ensures.as_same end (takes_on c.args.connection c.in-Ask.request c.args.now) (obeys c.args.connection c.args.count c.args.verdict c.args.now) s c.takes_on.new.doer (λ honest. ap (λ (v : Verdict). obeys c.args.connection c.args.count v c.args.now (g.W.Doer.setting s) (g.W.Doer.running s)) c.in-Ask.is) stops) c.takes_on.ensures.breaks
