use Rattle.std.proofs.Common.{◌≡◌, List, ℕ, ◌++◌, sym, subst, ap, ◌∙◌}
use Rattle.oc_wire.specs.Spelling.{spelling}
use Rattle.oc_world.specs.Net.{IsSpelled, message_in}
use Rattle.oc_world.proofs.ReadBack.{read_back, spelled}
use Rattle.oc_world.proofs.texts.spell.Goals as goal

pub put_message-requires : goal.put_message-requires
put_message-requires c = (c.spellings_are_read.ensures.spelled c.args.nodes c.args.message.now c.requires.few c.requires.lawful).fits

pub returns-clause-spelled : goal.returns-clause-spelled
returns-clause-spelled c =
    let m = c.args.message.now in
    let whole : c.put_message.new.out.items ≡ spelling m = c.in_ok-put_message.ensures ∙ ap (λ (l : List ℕ). l ++ spelling m) c.clear.ensures.items in
    subst (IsSpelled c.args.nodes) (sym whole) (spelled c.args.nodes m c.requires.few c.requires.lawful)

pub returns-clause-message : goal.returns-clause-message
returns-clause-message c =
    let m = c.args.message.now in
    let whole : c.put_message.new.out.items ≡ spelling m = c.in_ok-put_message.ensures ∙ ap (λ (l : List ℕ). l ++ spelling m) c.clear.ensures.items in
    ap (message_in c.args.nodes) whole ∙ read_back c.args.nodes m c.requires.few c.requires.lawful
