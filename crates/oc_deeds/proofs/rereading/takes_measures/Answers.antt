use Rattle.std.proofs.Common.{ℕ, suc, drop, refl, sym, subst, arith}
use Rattle.std.proofs.lemmas.Result.{err_from_is_err_and}
use Rattle.std.specs.Prelude.{All}
use Rattle.oc_updown.specs.MeasureLines.{IsMeasure}
use Rattle.oc_deeds.specs.Parts.{in_turn, nothing}
use Rattle.oc_deeds.specs.Rereading.{measured_by, takes_measures}
use Rattle.oc_deeds.specs.Telling.{takes_ahead}
use Rattle.oc_deeds.proofs.MeasuresTaken.{all_taken, none_taken, one_taken, rest_is}
use Rattle.oc_deeds.proofs.rereading.takes_measures.Goals as goal

pub measures-init : goal.measures-init
measures-init g c =
    let s = c.args.doer.now in
    record {
      serving = c.requires.serving;
      lawful = c.requires.lawful;
      far = (nothing, c.parts_go_on.ensures.nothing_done nothing s c.requires.serving (λ honest. refl), λ honest. none_taken c.args.measures.now nothing (g.W.Doer.setting s) (g.W.Doer.running s) refl);
    }

pub takes_measure-requires-clause-serving : goal.takes_measure-requires-clause-serving
takes_measure-requires-clause-serving g c = c.measures.invariant.serving

pub measures-preserved : goal.measures-preserved
measures-preserved g c =
    let s = c.args.doer.now in
    let l = c.measures in
    let new = c.takes_measure.new.doer in
    let m = c.index-measures-place.result in
    let far = l.invariant.far in
    let did = c.in_ok-takes_measure.ensures.did in
    record {
      serving = c.parts_go_on.ensures.stays_serving (takes_ahead (measured_by m)) l.doer new did l.invariant.serving;
      lawful = subst (λ (n : ℕ). All (IsMeasure n) c.args.measures.now) (sym (c.parts_go_on.ensures.same_nodes (takes_ahead (measured_by m)) l.doer new did)) l.invariant.lawful;
      far = (
        in_turn far.0 (takes_ahead (measured_by m)),
        c.parts_go_on.ensures.follows far.0 (takes_ahead (measured_by m)) (takes_ahead (measured_by m)) s l.doer new far.1 (λ honest. refl) did,
        λ honest. one_taken c.args.measures.now l.place m far.0 (g.W.Doer.setting s) (g.W.Doer.running s) c.measures-test.true c.index-measures-place.is (far.2 honest),
      );
    }

pub returns-in_err-takes_measure-clause-breaks : goal.returns-in_err-takes_measure-clause-breaks
returns-in_err-takes_measure-clause-breaks g c =
    let p = err_from_is_err_and c.from_residual.result c.from_residual.ensures.1 in
    let s = c.args.doer.now in
    let l = c.measures in
    let new = c.takes_measure.new.doer in
    let m = c.index-measures-place.result in
    let far = l.invariant.far in
    let all = c.args.measures.now in
    let rest = takes_measures (drop (suc l.place) all) in
    rw (p.1, p.2) (c.parts_stop.ensures.as_same _ (in_turn far.0 (takes_measures (drop l.place all))) (takes_measures all) s new (λ honest. sym (far.2 honest))
    (c.parts_stop.ensures.follows _ far.0 (takes_measures (drop l.place all)) (in_turn (takes_ahead (measured_by m)) rest) s l.doer new far.1
    (λ honest. sym (rest_is all l.place m (g.W.Doer.setting l.doer) (g.W.Doer.running l.doer) c.measures-test.true c.index-measures-place.is))
    (c.parts_stop.ensures.in_first _ (takes_ahead (measured_by m)) rest l.doer new c.in_err-takes_measure.ensures.breaks)))

pub returns-clause-did : goal.returns-clause-did
returns-clause-did g c =
    let s = c.args.doer.now in
    let l = c.measures in
    let far = l.invariant.far in
    c.parts_go_on.ensures.as_same far.0 (takes_measures c.args.measures.now) s l.doer
    (λ honest. sym (all_taken c.args.measures.now l.place far.0 (g.W.Doer.setting s) (g.W.Doer.running s) (omega arith) (far.2 honest)))
    far.1
