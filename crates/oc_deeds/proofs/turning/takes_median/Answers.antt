use Rattle.std.proofs.Common.{ℕ, Option, ap, sym, subst, ◌∙◌}
use Rattle.oc_deeds.specs.Measured.{IsMedianIn}
use Rattle.oc_deeds.specs.Turns.{takes_measure, takes_median}
use Rattle.oc_deeds.proofs.Probings.{is_gauged, median_of, median_part, no_median, no_median_part}
use Rattle.oc_deeds.proofs.Results.{done_then, err_then}
use Rattle.oc_deeds.proofs.turning.takes_median.Goals as goal

pub measured-requires : goal.measured-requires
measured-requires g c =
    let s = c.args.doer.now in
    is_gauged (g.W.Doer.running s).node.control.nodes c.args.probing.now c.args.peer c.requires.probing c.requires.peer

pub returns-in-Some-clause-did : goal.returns-in-Some-clause-did
returns-in-Some-clause-did g c =
    let s = c.args.doer.now in
    let m = c.in-Some.median in
    let is = subst (λ (o : Option ℕ). IsMedianIn c.args.probing.now c.args.peer c.args.rate o) c.in-Some.is c.measured.ensures.median in
    done_then c.takes_measure.result (λ does. (
      m,
      median_of c.args.probing.now c.args.peer c.args.rate m is,
      c.parts_go_on.ensures.as_same (takes_measure c.args.peer c.min.result) (takes_median c.args.probing.now c.args.peer m) s c.takes_measure.new.doer
          (λ honest. median_part c.args.probing.now c.args.peer c.args.rate m (g.W.Doer.setting s) (g.W.Doer.running s) is ∙ ap (λ (n : ℕ). takes_measure c.args.peer n (g.W.Doer.setting s) (g.W.Doer.running s)) (sym c.min.ensures)) does,
    )) c.takes_measure.ensures.did

pub returns-in-Some-clause-breaks : goal.returns-in-Some-clause-breaks
returns-in-Some-clause-breaks g c =
    let s = c.args.doer.now in
    let m = c.in-Some.median in
    let is = subst (λ (o : Option ℕ). IsMedianIn c.args.probing.now c.args.peer c.args.rate o) c.in-Some.is c.measured.ensures.median in
    err_then c.takes_measure.result (λ end stops. (
      m,
      median_of c.args.probing.now c.args.peer c.args.rate m is,
      c.parts_stop.ensures.as_same end (takes_measure c.args.peer c.min.result) (takes_median c.args.probing.now c.args.peer m) s c.takes_measure.new.doer
          (λ honest. median_part c.args.probing.now c.args.peer c.args.rate m (g.W.Doer.setting s) (g.W.Doer.running s) is ∙ ap (λ (n : ℕ). takes_measure c.args.peer n (g.W.Doer.setting s) (g.W.Doer.running s)) (sym c.min.ensures)) stops,
    )) c.takes_measure.ensures.breaks

pub returns-in-None-clause-did : goal.returns-in-None-clause-did
returns-in-None-clause-did g c =
    let s = c.args.doer.now in
    let is = subst (λ (o : Option ℕ). IsMedianIn c.args.probing.now c.args.peer c.args.rate o) c.in-None.is c.measured.ensures.median in (
      0,
      no_median c.args.probing.now c.args.peer c.args.rate is,
      c.parts_go_on.ensures.nothing_done (takes_median c.args.probing.now c.args.peer 0) s c.requires.serving (λ honest. no_median_part c.args.probing.now c.args.peer c.args.rate (g.W.Doer.setting s) (g.W.Doer.running s) is),
    )
