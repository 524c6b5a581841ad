use Rattle.std.proofs.Common.{◌≡◌, ◌<◌, ℕ, ◌+◌, ◌-◌, suc, List, None, Some, length, refl, sym, ap, subst, ◌∙◌, arith, rules}
use Rattle.std.proofs.lemmas.Result.{err_from_is_err_and}
use Rattle.oc_model.specs.declared.message.Message.{Message}
use Rattle.oc_deeds.specs.Choices.{free_number, next_to_dial}
use Rattle.oc_deeds.specs.Parts.{in_turn, nothing}
use Rattle.oc_deeds.specs.Sends.{dials_as, sends}
use Rattle.oc_deeds.specs.declared.choosing.TheConstants.{MAX_DIALS}
use Rattle.oc_deeds.specs.declared.dials.Dialling.{Dialling}
use Rattle.oc_deeds.proofs.Outgoing.{AreWhole, part_one, sends_part, whole_all, whole_last}
use Rattle.oc_deeds.proofs.sending.sends.Goals as goal

pub messages-init : goal.messages-init
messages-init g c = record {
  serving = c.requires;
  far = (nothing, c.parts_go_on.ensures.nothing_done nothing c.args.doer.now c.requires (λ honest. refl), λ honest. refl);
}

pub messages-preserved : goal.messages-preserved
messages-preserved g c =
    let s = c.args.doer.now in
    let m = c.messages in
    let new = c.dials.new.self in
    let place = c.in-Some.index in
    let number = c.free_number-number.result in
    let far = m.invariant.far in
    let b = g.W.Doer.running m.doer in
    let may : next_to_dial b.outbox b.dials ≡ Some place =
    sym (c.next_to_dial.ensures.index ∙ ap (λ (ms : List Message). next_to_dial ms c.dials_made.result.now) c.outbox.ensures ∙ ap (λ (ds : List Dialling). next_to_dial b.outbox ds) c.dials_made.ensures) ∙ c.in-Some.is in
    let free : number ≡ free_number b.dials = search rules in
    let within : place < length b.outbox = search rules in
    let left : MAX_DIALS - m.done ≡ suc (MAX_DIALS - (m.done + 1)) = omega arith in
    record {
      serving = c.parts_go_on.ensures.stays_serving (dials_as place number) m.doer new c.in_ok-dials-in-Some.ensures.did m.invariant.serving;
      far = (
        in_turn far.0 (dials_as place number),
        c.parts_go_on.ensures.follows far.0 (dials_as place number) (dials_as place number) s m.doer new far.1 (λ honest. refl) c.in_ok-dials-in-Some.ensures.did,
        λ honest. part_one (MAX_DIALS - m.done) (MAX_DIALS - (m.done + 1)) place number far.0 (g.W.Doer.setting s) (g.W.Doer.running s) b left (c.parts_go_on.ensures.leaves far.0 s m.doer far.1 honest) free may within (far.2 honest),
      );
    }

pub returns-in-None-clause-did : goal.returns-in-None-clause-did
returns-in-None-clause-did g c =
    let s = c.args.doer.now in
    let m = c.messages in
    let far = m.invariant.far in
    let b = g.W.Doer.running m.doer in
    let none : next_to_dial b.outbox b.dials ≡ None =
    sym (c.next_to_dial.ensures.index ∙ ap (λ (ms : List Message). next_to_dial ms c.dials_made.result.now) c.outbox.ensures ∙ ap (λ (ds : List Dialling). next_to_dial b.outbox ds) c.dials_made.ensures) ∙ c.in-None.is in
    c.parts_go_on.ensures.as_same far.0 (sends MAX_DIALS) s m.doer
    (λ honest. sym (whole_last (MAX_DIALS - m.done) (far.0 (g.W.Doer.setting s) (g.W.Doer.running s)) (g.W.Doer.setting s) (g.W.Doer.running s) b (c.parts_go_on.ensures.leaves far.0 s m.doer far.1 honest) none (far.2 honest)))
    far.1

pub returns-in_err-dials-in-Some-clause-breaks : goal.returns-in_err-dials-in-Some-clause-breaks
returns-in_err-dials-in-Some-clause-breaks g c =
    let p = err_from_is_err_and c.from_residual.result c.from_residual.ensures.1 in
    let s = c.args.doer.now in
    let m = c.messages in
    let new = c.dials.new.self in
    let place = c.in-Some.index in
    let number = c.free_number-number.result in
    let far = m.invariant.far in
    let b = g.W.Doer.running m.doer in
    let may : next_to_dial b.outbox b.dials ≡ Some place =
    sym (c.next_to_dial.ensures.index ∙ ap (λ (ms : List Message). next_to_dial ms c.dials_made.result.now) c.outbox.ensures ∙ ap (λ (ds : List Dialling). next_to_dial b.outbox ds) c.dials_made.ensures) ∙ c.in-Some.is in
    let free : number ≡ free_number b.dials = search rules in
    let within : place < length b.outbox = search rules in
    let left : MAX_DIALS - m.done ≡ suc (MAX_DIALS - (m.done + 1)) = omega arith in
    let rest = sends (MAX_DIALS - (m.done + 1)) in
    rw (p.1, p.2) (c.parts_stop.ensures.as_same _ (in_turn far.0 (sends (MAX_DIALS - m.done))) (sends MAX_DIALS) s new (λ honest. sym (far.2 honest))
    (c.parts_stop.ensures.follows _ far.0 (sends (MAX_DIALS - m.done)) (in_turn (dials_as place number) rest) s m.doer new far.1
    (λ honest. sym (sends_part (MAX_DIALS - m.done) (MAX_DIALS - (m.done + 1)) place number (g.W.Doer.setting m.doer) b left free may within))
    (c.parts_stop.ensures.in_first _ (dials_as place number) rest m.doer new c.in_err-dials-in-Some.ensures.breaks)))

pub returns-clause-did : goal.returns-clause-did
returns-clause-did g c =
    let s = c.args.doer.now in
    let m = c.messages in
    let far = m.invariant.far in
    let none : MAX_DIALS - m.done ≡ 0 = omega arith in
    c.parts_go_on.ensures.as_same far.0 (sends MAX_DIALS) s m.doer
    (λ honest. sym (whole_all (far.0 (g.W.Doer.setting s) (g.W.Doer.running s)) (g.W.Doer.setting s) (g.W.Doer.running s) (subst (λ (n : ℕ). AreWhole n (far.0 (g.W.Doer.setting s) (g.W.Doer.running s)) (g.W.Doer.setting s) (g.W.Doer.running s)) none (far.2 honest))))
    far.1
