use Rattle.std.proofs.Common.{ap, sym, subst, ◌∙◌}
use Rattle.oc_deeds.specs.Deeds.{Keeps}
use Rattle.oc_deeds.specs.Parts.{one}
use Rattle.oc_deeds.specs.Rereading.{IsLawfulReread, goes_by, probing_by}
use Rattle.oc_deeds.specs.declared.reread.Reread.{Reread}
use Rattle.oc_deeds.specs.declared.reread.Reread.TheVariants as rereads
use Rattle.oc_deeds.proofs.Results.{done_then, err_then}
use Rattle.oc_deeds.proofs.rereading.goes_by.Goals as goal

pub goes_by_if-requires-clause-config : goal.goes_by_if-requires-clause-config
goes_by_if-requires-clause-config g c = subst (λ (r : Reread). IsLawfulReread r) c.in-Config.is c.requires.reread

pub returns-in-Nothing-clause-did : goal.returns-in-Nothing-clause-did
returns-in-Nothing-clause-did g c =
    let s = c.args.doer.now in
    c.parts_go_on.ensures.nothing_done (goes_by c.args.reread) s c.requires.serving (λ honest. ap (λ (r : Reread). goes_by r (g.W.Doer.setting s) (g.W.Doer.running s)) c.in-Nothing.is)

pub returns-in-Nothing-clause-probing : goal.returns-in-Nothing-clause-probing
returns-in-Nothing-clause-probing g c =
    let s = c.args.doer.now in
    sym (ap (λ (r : Reread). probing_by (g.W.Doer.setting s) (g.W.Doer.running s).config r c.args.probing.now) c.in-Nothing.is)

pub returns-in-Unfit-clause-did : goal.returns-in-Unfit-clause-did
returns-in-Unfit-clause-did g c =
    let s = c.args.doer.now in
    done_then c.keeps.result (λ does. c.parts_go_on.ensures.as_same (one (Keeps c.in-Unfit.why)) (goes_by c.args.reread) s c.keeps.new.self (λ honest. ap (λ (r : Reread). goes_by r (g.W.Doer.setting s) (g.W.Doer.running s)) c.in-Unfit.is) does) c.keeps.ensures.did

pub returns-in-Unfit-clause-probing : goal.returns-in-Unfit-clause-probing
returns-in-Unfit-clause-probing g c =
    let s = c.args.doer.now in
    done_then c.keeps.result (λ does. sym (ap (λ (r : Reread). probing_by (g.W.Doer.setting s) (g.W.Doer.running s).config r c.args.probing.now) c.in-Unfit.is)) c.keeps.ensures.did

pub returns-in-Unfit-clause-made : goal.returns-in-Unfit-clause-made
returns-in-Unfit-clause-made g c = done_then c.keeps.result (λ does. c.requires.probing) c.keeps.ensures.did

pub returns-in-Unfit-clause-breaks : goal.returns-in-Unfit-clause-breaks
returns-in-Unfit-clause-breaks g c =
    let s = c.args.doer.now in
    err_then c.keeps.result (λ end stops. c.parts_stop.ensures.as_same end (one (Keeps c.in-Unfit.why)) (goes_by c.args.reread) s c.keeps.new.self (λ honest. ap (λ (r : Reread). goes_by r (g.W.Doer.setting s) (g.W.Doer.running s)) c.in-Unfit.is) stops) c.keeps.ensures.breaks

pub returns-in-Config-clause-did : goal.returns-in-Config-clause-did
returns-in-Config-clause-did g c =
    let s = c.args.doer.now in
    done_then c.goes_by_if.result (λ does. c.parts_go_on.ensures.as_same (goes_by (rereads.Config c.in-Config.config)) (goes_by c.args.reread) s c.goes_by_if.new.doer (λ honest. ap (λ (r : Reread). goes_by r (g.W.Doer.setting s) (g.W.Doer.running s)) c.in-Config.is) does) c.goes_by_if.ensures.did

pub returns-in-Config-clause-probing : goal.returns-in-Config-clause-probing
returns-in-Config-clause-probing g c =
    let s = c.args.doer.now in
    done_then c.goes_by_if.result (λ is. is ∙ sym (ap (λ (r : Reread). probing_by (g.W.Doer.setting s) (g.W.Doer.running s).config r c.args.probing.now) c.in-Config.is)) c.goes_by_if.ensures.probing

pub returns-in-Config-clause-breaks : goal.returns-in-Config-clause-breaks
returns-in-Config-clause-breaks g c =
    let s = c.args.doer.now in
    err_then c.goes_by_if.result (λ end stops. c.parts_stop.ensures.as_same end (goes_by (rereads.Config c.in-Config.config)) (goes_by c.args.reread) s c.goes_by_if.new.doer (λ honest. ap (λ (r : Reread). goes_by r (g.W.Doer.setting s) (g.W.Doer.running s)) c.in-Config.is) stops) c.goes_by_if.ensures.breaks
