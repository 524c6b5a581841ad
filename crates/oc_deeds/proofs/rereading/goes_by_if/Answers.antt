use Rattle.std.proofs.Common.{◌≡◌, ◌≤◌, ℕ, Bool, Result, length, ap, ap₂, sym, subst, ◌∙◌}
use Rattle.oc_config.specs.Settings.{Settings}
use Rattle.oc_config.specs.declared.change.Running.{Running as Changing}
use Rattle.oc_model.specs.Node.{Control}
use Rattle.oc_deeds.specs.Deeds.{Keeps}
use Rattle.oc_deeds.specs.Parts.{one}
use Rattle.oc_deeds.specs.Areas.{areas_among}
use Rattle.oc_deeds.specs.Records.{is_record}
use Rattle.oc_deeds.specs.Rereading.{changing, fitting, fitting_for, goes_by, rerouted, settles}
use Rattle.oc_deeds.proofs.Areas.{running_of, still_placed}
use Rattle.oc_deeds.specs.declared.reread.Reread.TheVariants as rereads
use Rattle.oc_deeds.specs.declared.unfit.Unfit.{Unfit}
use Rattle.oc_deeds.proofs.Results.{done_then, err_then}
use Rattle.oc_deeds.proofs.rereading.goes_by_if.Goals as goal

pub changes-requires-clause-nodes : goal.changes-requires-clause-nodes
changes-requires-clause-nodes g c =
    let s = c.args.doer.now in
    let running = g.W.Doer.running s in
    let log = c.is_record-recorded.ensures ∙ ap is_record c.log.ensures in
    still_placed c.id-me.result c.is_record-recorded.result running.node.control.nodes c.config.result.now c.in-Ok.config c.in-Ok.ensures.stays
    (subst (λ (x : Settings). length x.addresses ≤ running.node.control.nodes) (sym c.config.ensures) (c.is_lawful.ensures.places s c.requires.serving))
    (λ unrecorded. c.is_lawful.ensures.roomy s c.requires.serving (sym log ∙ unrecorded)) c.in-Ok.ensures.lawful.nodes.1

pub changes-requires-clause-areas : goal.changes-requires-clause-areas
changes-requires-clause-areas g c = λ recorded.
    let s = c.args.doer.now in
    let running = g.W.Doer.running s in
    let log = c.is_record-recorded.ensures ∙ ap is_record c.log.ensures in
    let same = (c.in-Ok.ensures.stays.recorded (log ∙ recorded)).1 in
    ap (areas_among running.node.control.nodes) (sym same ∙ ap (λ (x : Settings). x.areas) c.config.ensures) ∙ sym (c.is_lawful.ensures.areas s c.requires.serving)

pub returns-in-Ok-clause-did : goal.returns-in-Ok-clause-did
returns-in-Ok-clause-did g c =
    let s = c.args.doer.now in
    let running = g.W.Doer.running s in
    let setting = g.W.Doer.setting s in
    let me : c.id-me.result ≡ setting.me = c.id-me.ensures ∙ ap (λ (n : Control). n.me) c.node.ensures ∙ sym (c.is_lawful.ensures.same_me s) in
    let runs : running_of c.id-me.result c.is_record-recorded.result ≡ changing setting = ap₂ running_of me (c.is_record-recorded.ensures ∙ ap is_record c.log.ensures) in
    let fits : fitting setting running.config c.args.config ≡ c.fitting.result =
    sym (c.fitting.ensures.fitting ∙ ap₂ (λ (x : Changing) (old : Settings). fitting_for x old c.args.config) runs c.config.ensures) in
    done_then c.changes.result (λ does. c.parts_go_on.ensures.as_same (settles (Result.Ok c.in-Ok.config) running.config) (goes_by (rereads.Config c.args.config)) s c.changes.new.doer
    (λ honest. ap (λ (o : Result Settings Unfit). settles o running.config setting running) (fits ∙ c.in-Ok.is)) does) c.changes.ensures.did

pub returns-in-Ok-clause-probing : goal.returns-in-Ok-clause-probing
returns-in-Ok-clause-probing g c =
    let s = c.args.doer.now in
    let running = g.W.Doer.running s in
    let setting = g.W.Doer.setting s in
    let me : c.id-me.result ≡ setting.me = c.id-me.ensures ∙ ap (λ (n : Control). n.me) c.node.ensures ∙ sym (c.is_lawful.ensures.same_me s) in
    let runs : running_of c.id-me.result c.is_record-recorded.result ≡ changing setting = ap₂ running_of me (c.is_record-recorded.ensures ∙ ap is_record c.log.ensures) in
    let fits : fitting setting running.config c.args.config ≡ c.fitting.result =
    sym (c.fitting.ensures.fitting ∙ ap₂ (λ (x : Changing) (old : Settings). fitting_for x old c.args.config) runs c.config.ensures) in
    done_then c.changes.result (λ is. is ∙ sym (ap (λ (o : Result Settings Unfit). rerouted setting.me o c.args.probing.now) (fits ∙ c.in-Ok.is))) c.changes.ensures.probing

pub returns-in-Ok-clause-breaks : goal.returns-in-Ok-clause-breaks
returns-in-Ok-clause-breaks g c =
    let s = c.args.doer.now in
    let running = g.W.Doer.running s in
    let setting = g.W.Doer.setting s in
    let me : c.id-me.result ≡ setting.me = c.id-me.ensures ∙ ap (λ (n : Control). n.me) c.node.ensures ∙ sym (c.is_lawful.ensures.same_me s) in
    let runs : running_of c.id-me.result c.is_record-recorded.result ≡ changing setting = ap₂ running_of me (c.is_record-recorded.ensures ∙ ap is_record c.log.ensures) in
    let fits : fitting setting running.config c.args.config ≡ c.fitting.result =
    sym (c.fitting.ensures.fitting ∙ ap₂ (λ (x : Changing) (old : Settings). fitting_for x old c.args.config) runs c.config.ensures) in
    err_then c.changes.result (λ end stops. c.parts_stop.ensures.as_same end (settles (Result.Ok c.in-Ok.config) running.config) (goes_by (rereads.Config c.args.config)) s c.changes.new.doer
    (λ honest. ap (λ (o : Result Settings Unfit). settles o running.config setting running) (fits ∙ c.in-Ok.is)) stops) c.changes.ensures.breaks

pub returns-in-Err-clause-did : goal.returns-in-Err-clause-did
returns-in-Err-clause-did g c =
    let s = c.args.doer.now in
    let running = g.W.Doer.running s in
    let setting = g.W.Doer.setting s in
    let me : c.id-me.result ≡ setting.me = c.id-me.ensures ∙ ap (λ (n : Control). n.me) c.node.ensures ∙ sym (c.is_lawful.ensures.same_me s) in
    let runs : running_of c.id-me.result c.is_record-recorded.result ≡ changing setting = ap₂ running_of me (c.is_record-recorded.ensures ∙ ap is_record c.log.ensures) in
    let fits : fitting setting running.config c.args.config ≡ c.fitting.result =
    sym (c.fitting.ensures.fitting ∙ ap₂ (λ (x : Changing) (old : Settings). fitting_for x old c.args.config) runs c.config.ensures) in
    done_then c.keeps.result (λ does. c.parts_go_on.ensures.as_same (one (Keeps c.in-Err.why)) (goes_by (rereads.Config c.args.config)) s c.keeps.new.self
    (λ honest. ap (λ (o : Result Settings Unfit). settles o running.config setting running) (fits ∙ c.in-Err.is)) does) c.keeps.ensures.did

pub returns-in-Err-clause-probing : goal.returns-in-Err-clause-probing
returns-in-Err-clause-probing g c =
    let s = c.args.doer.now in
    let running = g.W.Doer.running s in
    let setting = g.W.Doer.setting s in
    let me : c.id-me.result ≡ setting.me = c.id-me.ensures ∙ ap (λ (n : Control). n.me) c.node.ensures ∙ sym (c.is_lawful.ensures.same_me s) in
    let runs : running_of c.id-me.result c.is_record-recorded.result ≡ changing setting = ap₂ running_of me (c.is_record-recorded.ensures ∙ ap is_record c.log.ensures) in
    let fits : fitting setting running.config c.args.config ≡ c.fitting.result =
    sym (c.fitting.ensures.fitting ∙ ap₂ (λ (x : Changing) (old : Settings). fitting_for x old c.args.config) runs c.config.ensures) in
    done_then c.keeps.result (λ does. sym (ap (λ (o : Result Settings Unfit). rerouted setting.me o c.args.probing.now) (fits ∙ c.in-Err.is))) c.keeps.ensures.did

pub returns-in-Err-clause-made : goal.returns-in-Err-clause-made
returns-in-Err-clause-made g c = done_then c.keeps.result (λ does. c.requires.probing) c.keeps.ensures.did

pub returns-in-Err-clause-breaks : goal.returns-in-Err-clause-breaks
returns-in-Err-clause-breaks g c =
    let s = c.args.doer.now in
    let running = g.W.Doer.running s in
    let setting = g.W.Doer.setting s in
    let me : c.id-me.result ≡ setting.me = c.id-me.ensures ∙ ap (λ (n : Control). n.me) c.node.ensures ∙ sym (c.is_lawful.ensures.same_me s) in
    let runs : running_of c.id-me.result c.is_record-recorded.result ≡ changing setting = ap₂ running_of me (c.is_record-recorded.ensures ∙ ap is_record c.log.ensures) in
    let fits : fitting setting running.config c.args.config ≡ c.fitting.result =
    sym (c.fitting.ensures.fitting ∙ ap₂ (λ (x : Changing) (old : Settings). fitting_for x old c.args.config) runs c.config.ensures) in
    err_then c.keeps.result (λ end stops. c.parts_stop.ensures.as_same end (one (Keeps c.in-Err.why)) (goes_by (rereads.Config c.args.config)) s c.keeps.new.self
    (λ honest. ap (λ (o : Result Settings Unfit). settles o running.config setting running) (fits ∙ c.in-Err.is)) stops) c.keeps.ensures.breaks
