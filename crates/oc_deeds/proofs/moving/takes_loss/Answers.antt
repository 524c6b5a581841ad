use Rattle.std.proofs.Common.{◌&&◌, Bool, List, [], ◌∷◌, sym, ap, ◌∙◌}
use Rattle.oc_link.specs.Failures.{is_failure}
use Rattle.oc_deeds.specs.Deeds.{Drops}
use Rattle.oc_deeds.specs.Rooms.{takes_loss, is_told}
use Rattle.oc_deeds.specs.Works.{work_on}
use Rattle.oc_deeds.specs.declared.work.Work.{Work}
use Rattle.oc_deeds.proofs.Results.{done_then, err_then}
use Rattle.oc_deeds.specs.Parts.{one}
use Rattle.oc_deeds.proofs.moving.takes_loss.Goals as goal

pub returns-clause-did : goal.returns-clause-did
returns-clause-did g c =
    let x = c.args.connection in
    let loss = c.args.loss in
    let s = c.args.doer.now in
    let told = c.tells.result in
    done_then c.drops.result (λ did. c.parts_go_on.ensures.as_same (one (Drops x told)) (takes_loss x loss) s c.drops.new.self (λ honest. ap (λ (b : Bool). Drops x b ∷ []) (sym (c.tells.ensures ∙ ap (λ (b : Bool). is_failure loss && b) (c.is_told-was_told.ensures ∙ ap (λ (ws : List Work). is_told (work_on x ws)) c.works.ensures)))) did) c.drops.ensures.did

pub returns-clause-breaks : goal.returns-clause-breaks
returns-clause-breaks g c =
    let x = c.args.connection in
    let loss = c.args.loss in
    let s = c.args.doer.now in
    let told = c.tells.result in
    err_then c.drops.result (λ end breaks. c.parts_stop.ensures.as_same end (one (Drops x told)) (takes_loss x loss) s c.drops.new.self (λ honest. ap (λ (b : Bool). Drops x b ∷ []) (sym (c.tells.ensures ∙ ap (λ (b : Bool). is_failure loss && b) (c.is_told-was_told.ensures ∙ ap (λ (ws : List Work). is_told (work_on x ws)) c.works.ensures)))) breaks) c.drops.ensures.breaks
