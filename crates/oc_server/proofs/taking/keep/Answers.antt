use Rattle.std.proofs.Common.{◌≡◌, ℕ, Err, ap, rules, subst, sym, ◌∙◌}
use Rattle.oc_keep.specs.KeptView.{node_of}
use Rattle.oc_keep.specs.declared.errors.KeepError.{KeepError}
use Rattle.oc_node.specs.OutcomeView.{OutcomeView}
use Rattle.oc_deeds.specs.Sending.{AreSendable}
use Rattle.oc_server.proofs.Takes.{keep_stops, step_sendable}
use Rattle.oc_server.proofs.taking.keep.Goals as goal

pub returns-in-Ok-clause-kept : goal.returns-in-Ok-clause-kept
returns-in-Ok-clause-kept g c =
    let t = c.in-Ok.ensures.took in
    let n = node_of c.args.kept.now in
    let same : c.nodes-nodes.result ≡ c.args.kept.now.node.control.nodes = search rules in
    record {
      is_open = t.is_open;
      same = c.take.ensures.same.node;
      goes_on = c.take.ensures.same.goes_on;
      within = record { lawful = c.requires.input; bytes = c.brings_bytes.ensures };
      fits = t.fits;
      control = t.control.control;
      outcome_is = λ honest.
          let lawful = c.recovers.ensures.lawful honest in
          let outcome = c.lawful_nodes_stay_lawful.ensures.step c.args.kept.now.node.control.nodes n c.args.input c.requires.input c.recovers.ensures.short lawful in
          let can = step_sendable c.args.kept.now.node.control.nodes n c.args.input (λ m is. (c.spellings_are_read.ensures.spelled c.args.kept.now.node.control.nodes m lawful.control.few is).fits) outcome in
          let told = t.outcome_is honest in
          c.sendable.ensures.whole (subst (λ (nodes : ℕ). AreSendable nodes c.in-Ok.outcome.sends) (sym same) (subst (λ (o : OutcomeView). AreSendable c.args.kept.now.node.control.nodes o.sends) (sym told) can)) ∙ told;
      sendable = subst (λ (nodes : ℕ). AreSendable nodes c.sendable.result.sends) same c.sendable.ensures.sendable;
      node = t.node;
      survives = t.survives;
      generation = c.take.ensures.same.generation;
      any_moment = c.take.ensures.any_moment c.requires.open;
    }

pub returns-in-Err-clause-stops : goal.returns-in-Err-clause-stops
returns-in-Err-clause-stops g c =
    let t = c.in-Err.ensures in
    rw c.end_of.ensures
    (keep_stops g.D.Disk.view (λ x h. g.met.D.Disk.consistent x h) c.args.kept.now c.take.new.self c.args.input c.in-Err.error c.requires.open c.take.ensures.same
    (λ e. t.closed.0 (ap (λ (x : KeepError). Err x) e)) t.refused (c.take.ensures.any_moment c.requires.open) c.recovers-in-Err.ensures.survives)
