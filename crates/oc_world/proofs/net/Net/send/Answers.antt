use Rattle.std.proofs.Common.{◌≡◌, false, List, [], ◌∷◌, ◌++◌, map, sym, ap, subst, ◌∙◌, arith}
use Rattle.std.specs.List.{AllByRecursion}
use Rattle.oc_model.specs.declared.message.Message.{Message}
use Rattle.oc_world.specs.declared.letter.Letter.{Letter}
use Rattle.oc_world.specs.Net.{IsLetter, IsSpelled, NetView, brought, ends_with_ack, message_in}
use Rattle.oc_world.proofs.NetLists.{all_more, ends_more, kept_letters, kept_messages, sent_more}
use Rattle.oc_world.proofs.Sites.{on_err}
use Rattle.oc_world.proofs.net.Net.send.Goals as goal

-- the letters are unchanged, for all bytes put into the pools
pub invariant_of-self-in_err-letter : goal.invariant_of-self-in_err-letter
invariant_of-self-in_err-letter c =
    let s = c.self.inside in
    let new = c.of.new.pools in
    let keeps = c.of.ensures.keeps in
    let all = c.self.invariant.2 in (
      c.self.invariant.0,
      c.self.invariant.1,
      kept_letters s.nodes s.pools new keeps s.letters.items all,
      c.self.invariant.3 ∙ ap (ends_with_ack false) (sym (kept_messages s.nodes s.pools new keeps s.letters.items all)),
    )

pub returns-in_err-letter-clause-err : goal.returns-in_err-letter-clause-err
returns-in_err-letter-clause-err c =
    let s = c.self.inside in
    on_err c.from_residual-in_err-letter.result _
    (kept_messages s.nodes s.pools c.of.new.pools c.of.ensures.keeps s.letters.items c.self.invariant.2 ∙ ap (λ (v : NetView). v.messages) c.self.view_is)

pub invariant_of-self-in_err-push : goal.invariant_of-self-in_err-push
invariant_of-self-in_err-push c =
    let s = c.self.inside in
    let new = c.of.new.pools in
    let keeps = c.of.ensures.keeps in
    let all = c.self.invariant.2 in
    let same : c.push.new.self.items ≡ s.letters.items = c.in_err-push.ensures.items in (
      c.self.invariant.0,
      omega (arith, c.in_err-push.ensures.len, c.self.invariant.1),
      subst (AllByRecursion (IsLetter s.nodes new)) (sym same) (kept_letters s.nodes s.pools new keeps s.letters.items all),
      c.self.invariant.3 ∙ (ap (ends_with_ack false) (sym (kept_messages s.nodes s.pools new keeps s.letters.items all))
          ∙ ap (λ (ls : List Letter). ends_with_ack false (map (brought s.nodes new) ls)) (sym same)),
    )

pub returns-in_err-push-clause-err : goal.returns-in_err-push-clause-err
returns-in_err-push-clause-err c =
    let s = c.self.inside in
    let new = c.of.new.pools in
    on_err c.from_residual-in_err-push.result _
    (ap (λ (ls : List Letter). map (brought s.nodes new) ls) c.in_err-push.ensures.items
    ∙ (kept_messages s.nodes s.pools new c.of.ensures.keeps s.letters.items c.self.invariant.2 ∙ ap (λ (v : NetView). v.messages) c.self.view_is))

-- one letter more
pub invariant_of-self-2 : goal.invariant_of-self-2
invariant_of-self-2 c =
    let s = c.self.inside in
    let new = c.of.new.pools in
    let letter = c.in_ok-letter.letter in
    let more : c.push.new.self.items ≡ s.letters.items ++ letter ∷ [] = c.in_ok-push.ensures.items in
    let is : IsLetter s.nodes new letter = record { placed = c.in_ok-letter.ensures.placed; spelled = subst (IsSpelled s.nodes) (sym (c.in_ok-letter.ensures.whole ∙ c.deref.ensures.value)) c.in_ok-spell.ensures.spelled } in
    let brings : brought s.nodes new letter ≡ c.args.message.now = ap (message_in s.nodes) (c.in_ok-letter.ensures.whole ∙ c.deref.ensures.value) ∙ c.in_ok-spell.ensures.message in (
      c.self.invariant.0,
      omega (arith, c.in_ok-push.ensures.len, c.if-len-ge-MOST_SENT.false, c.len.ensures),
      subst (AllByRecursion (IsLetter s.nodes new)) (sym more) (all_more (IsLetter s.nodes new) s.letters.items letter (kept_letters s.nodes s.pools new c.of.ensures.keeps s.letters.items c.self.invariant.2) is),
      c.is_ack_body-self-inside.ensures ∙ (ends_more s.nodes new s.letters.items letter c.args.message.now.body (ap (λ (m : Message). m.body) brings)
          ∙ ap (λ (ls : List Letter). ends_with_ack false (map (brought s.nodes new) ls)) (sym more)),
    )

pub returns-clause-ok : goal.returns-clause-ok
returns-clause-ok c =
    let s = c.self.inside in
    let new = c.of.new.pools in
    let letter = c.in_ok-letter.letter in
    let m = c.args.message.now in
    let brings : brought s.nodes new letter ≡ m = ap (message_in s.nodes) (c.in_ok-letter.ensures.whole ∙ c.deref.ensures.value) ∙ c.in_ok-spell.ensures.message in
    ap (λ (ls : List Letter). map (brought s.nodes new) ls) c.in_ok-push.ensures.items
    ∙ (sent_more s.nodes s.pools new c.of.ensures.keeps s.letters.items letter m c.self.invariant.2 brings ∙ ap (λ (v : NetView). v.messages ++ m ∷ []) c.self.view_is)
