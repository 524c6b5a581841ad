use Rattle.std.proofs.Common.{◌≡◌, ℕ, IfSome, List, length, Result, ap, ap₂, refl, sym, subst, ◌∙◌, arith}
use Rattle.std.specs.Prelude.{All}
use Rattle.std.specs.Option.{option_map}
use Rattle.oc_config.specs.Settings.{Settings}
use Rattle.oc_model.specs.Node.{Control}
use Rattle.oc_updown.specs.MeasureLines.{IsMeasure}
use Rattle.oc_updown.specs.declared.measure_lines.Measure.{Measure}
use Rattle.oc_deeds.specs.Areas.{areas_among}
use Rattle.oc_deeds.specs.Deeds.{Rereads}
use Rattle.oc_deeds.specs.Lawful.{IsMadeFor}
use Rattle.oc_deeds.specs.Parts.{in_turn, one}
use Rattle.oc_deeds.specs.Rereading.{fresh, is_fresh, rotated_to, settles, takes_measures}
use Rattle.oc_deeds.proofs.MeasuresTaken.{all_some}
use Rattle.oc_deeds.proofs.MoreNodes.{measures_too}
use Rattle.oc_deeds.proofs.Results.{done_then, err_then}
use Rattle.oc_deeds.proofs.rereading.changes.Goals as goal

pub reroute-requires : goal.reroute-requires
reroute-requires g c = record { config = c.requires.config.nodes.1 }

pub areas_for-requires : goal.areas_for-requires
areas_for-requires g c =
    let nodes : c.nodes.result ≡ (g.W.Doer.running c.args.doer.now).node.control.nodes = c.nodes.ensures.nodes ∙ ap (λ (n : Control). n.nodes) c.node-2.ensures in
    omega (arith, c.requires.nodes, c.requires.config.places.areas, nodes)

pub rereads-requires-clause-areas : goal.rereads-requires-clause-areas
rereads-requires-clause-areas g c =
    let nodes : c.nodes.result ≡ (g.W.Doer.running c.args.doer.now).node.control.nodes = c.nodes.ensures.nodes ∙ ap (λ (n : Control). n.nodes) c.node-2.ensures in
    c.in_ok-areas.ensures.same ∙ ap (λ (n : ℕ). areas_among n c.args.config.areas) nodes

pub rereads-requires-clause-recorded : goal.rereads-requires-clause-recorded
rereads-requires-clause-recorded g c = λ recorded. rereads-requires-clause-areas g c ∙ c.requires.areas recorded

pub takes_measures-requires-clause-serving : goal.takes_measures-requires-clause-serving
takes_measures-requires-clause-serving g c = c.parts_go_on.ensures.stays_serving (one (Rereads c.args.config)) c.args.doer.now c.rereads.new.self c.rereads.ensures c.requires.serving

pub takes_measures-requires-clause-lawful : goal.takes_measures-requires-clause-lawful
takes_measures-requires-clause-lawful g c =
    let s = c.args.doer.now in
    let b = c.rereads.new.self in
    let running = g.W.Doer.running s in
    let setting = g.W.Doer.setting s in
    let config = c.args.config in
    let me : c.id-me.result ≡ setting.me = c.id-me.ensures ∙ ap (λ (n : Control). n.me) c.node.ensures ∙ sym (c.is_lawful.ensures.same_me s) in
    let all = c.deref.result.now in
    let are : all ≡ fresh setting.me running.config config =
    c.deref.ensures.value ∙ c.in_ok-fresh.ensures ∙ ap₂ (λ (x : ℕ) (old : Settings). fresh x old config) me c.config.ensures in
    let nodes = (g.W.Doer.running b).node.control.nodes in
    subst (λ (ms : List Measure). All (IsMeasure nodes) ms) (sym are)
    (subst (λ (n : ℕ). All (IsMeasure n) (fresh setting.me running.config config)) (sym (c.parts_go_on.ensures.same_nodes (one (Rereads config)) s b c.rereads.ensures))
    (all_some (IsMeasure running.node.control.nodes) (is_fresh setting.me running.config.measures) config.measures
    (measures_too (length config.addresses) running.node.control.nodes c.requires.nodes config.measures c.requires.config.measures)))

pub returns-clause-did : goal.returns-clause-did
returns-clause-did g c =
    let s = c.args.doer.now in
    let b = c.rereads.new.self in
    let running = g.W.Doer.running s in
    let setting = g.W.Doer.setting s in
    let config = c.args.config in
    let me : c.id-me.result ≡ setting.me = c.id-me.ensures ∙ ap (λ (n : Control). n.me) c.node.ensures ∙ sym (c.is_lawful.ensures.same_me s) in
    let all = c.deref.result.now in
    let are : all ≡ fresh setting.me running.config config =
    c.deref.ensures.value ∙ c.in_ok-fresh.ensures ∙ ap₂ (λ (x : ℕ) (old : Settings). fresh x old config) me c.config.ensures in
    let q = takes_measures (fresh setting.me running.config config) in
    done_then c.takes_measures.result (λ does. c.parts_go_on.ensures.as_same (in_turn (one (Rereads config)) q) (settles (Result.Ok config) running.config) s c.takes_measures.new.doer (λ honest. refl)
    (c.parts_go_on.ensures.follows (one (Rereads config)) q (takes_measures all) s b c.takes_measures.new.doer c.rereads.ensures
    (λ honest. ap (λ (ms : List Measure). takes_measures ms (g.W.Doer.setting b) (g.W.Doer.running b)) are) does)) c.takes_measures.ensures.did

pub returns-clause-probing : goal.returns-clause-probing
returns-clause-probing g c =
    let s = c.args.doer.now in
    let b = c.rereads.new.self in
    let running = g.W.Doer.running s in
    let setting = g.W.Doer.setting s in
    let config = c.args.config in
    let me : c.id-me.result ≡ setting.me = c.id-me.ensures ∙ ap (λ (n : Control). n.me) c.node.ensures ∙ sym (c.is_lawful.ensures.same_me s) in
    let all = c.deref.result.now in
    let are : all ≡ fresh setting.me running.config config =
    c.deref.ensures.value ∙ c.in_ok-fresh.ensures ∙ ap₂ (λ (x : ℕ) (old : Settings). fresh x old config) me c.config.ensures in
    done_then c.takes_measures.result (λ does. c.in_ok-reroute.ensures.rerouted ∙ ap (λ (x : ℕ). option_map (rotated_to x config) c.args.probing.now) me) c.takes_measures.ensures.did

pub returns-clause-made : goal.returns-clause-made
returns-clause-made g c =
    done_then c.takes_measures.result (λ does. c.in_ok-reroute.ensures.made (g.W.Doer.running c.args.doer.now).node.control.nodes c.requires.nodes c.requires.probing) c.takes_measures.ensures.did

pub returns-clause-breaks : goal.returns-clause-breaks
returns-clause-breaks g c =
    let s = c.args.doer.now in
    let b = c.rereads.new.self in
    let running = g.W.Doer.running s in
    let setting = g.W.Doer.setting s in
    let config = c.args.config in
    let me : c.id-me.result ≡ setting.me = c.id-me.ensures ∙ ap (λ (n : Control). n.me) c.node.ensures ∙ sym (c.is_lawful.ensures.same_me s) in
    let all = c.deref.result.now in
    let are : all ≡ fresh setting.me running.config config =
    c.deref.ensures.value ∙ c.in_ok-fresh.ensures ∙ ap₂ (λ (x : ℕ) (old : Settings). fresh x old config) me c.config.ensures in
    let q = takes_measures (fresh setting.me running.config config) in
    err_then c.takes_measures.result (λ end stops. c.parts_stop.ensures.as_same end (in_turn (one (Rereads config)) q) (settles (Result.Ok config) running.config) s c.takes_measures.new.doer (λ honest. refl)
    (c.parts_stop.ensures.follows end (one (Rereads config)) q (takes_measures all) s b c.takes_measures.new.doer c.rereads.ensures
    (λ honest. ap (λ (ms : List Measure). takes_measures ms (g.W.Doer.setting b) (g.W.Doer.running b)) are) stops)) c.takes_measures.ensures.breaks
