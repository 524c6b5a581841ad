use Rattle.std.proofs.Common.{◌∷◌, [], List, ℕ, ap, sym, ◌∙◌}
use Rattle.std.proofs.lemmas.Result.{err_from_is_err_and}
use Rattle.oc_deeds.specs.Deeds.{Notes}
use Rattle.oc_deeds.specs.Turns.{notes_fault}
use Rattle.oc_deeds.proofs.Results.{done_then, err_then}
use Rattle.oc_deeds.specs.Parts.{one}
use Rattle.oc_deeds.proofs.taking_up.notes_fault.Goals as goal

pub returns-clause-did : goal.returns-clause-did
returns-clause-did g c =
    done_then c.notes.result (λ did. c.parts_go_on.ensures.as_same (one (Notes c.deref.result.now)) (notes_fault c.args.peer c.args.fault) c.args.doer.now c.notes.new.self (λ honest. ap (λ (t : List ℕ). Notes t ∷ []) (sym (c.deref.ensures.value ∙ c.in_ok-why.ensures))) did) c.notes.ensures.did

pub returns-clause-breaks : goal.returns-clause-breaks
returns-clause-breaks g c =
    err_then c.notes.result (λ end breaks. c.parts_stop.ensures.as_same end (one (Notes c.deref.result.now)) (notes_fault c.args.peer c.args.fault) c.args.doer.now c.notes.new.self (λ honest. ap (λ (t : List ℕ). Notes t ∷ []) (sym (c.deref.ensures.value ∙ c.in_ok-why.ensures))) breaks) c.notes.ensures.breaks

pub returns-in_err-why-clause-breaks : goal.returns-in_err-why-clause-breaks
returns-in_err-why-clause-breaks g c =
    let p = err_from_is_err_and c.from_residual.result c.from_residual.ensures.1 in
    rw (p.1, p.2) (c.may_end.ensures (notes_fault c.args.peer c.args.fault))
