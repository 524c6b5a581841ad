use Rattle.std.proofs.Common.{◌≡◌, ◌∙◌, ℕ, List, length, refl, sym, ap, subst, arith, rules}
use Rattle.oc_model.specs.Lawful.{IsEvent}
use Rattle.oc_model.specs.NextWorld.{word_of}
use Rattle.oc_model.specs.World.{ids}
use Rattle.oc_model.proofs.GoesOn.{ids-next_world}
use Rattle.oc_replay.proofs.Runs.{event_told}
use Rattle.oc_replay.proofs.reporting.report_event.Goals as goal

-- the messages in the stage's answer are those added to its world
pub put_told-requires-clause-all : goal.put_told-requires-clause-all
put_told-requires-clause-all g c = search rules

-- the event has changed no id
pub put_block-requires : goal.put_block-requires
put_block-requires g c =
    let stage = g.T.Stage in
    let event = c.args.event.now in
    let same : ids (stage.world c.play_one.new.stage) ≡ ids (stage.world c.args.stage.now) =
    ap ids c.in_ok-said.ensures.world ∙ ids-next_world (stage.world c.args.stage.now) event in
    subst (λ (xs : List ℕ). IsEvent (length xs) event) (sym same) c.requires.event

-- the line, the messages and the block, one after the other
pub returns-clause-text : goal.returns-clause-text
returns-clause-text g c =
    let stage = g.T.Stage in
    let old = stage.world c.args.stage.now in
    let said = c.in_ok-said.said in
    event_told c.args.out.now.items c.play_one.new.out.items c.put_told.new.out.items c.put_block.new.out.items c.args.number (word_of old c.args.event.now) (word_of old c.args.event.now) said.first old (stage.world c.play_one.new.stage) c.args.event.now
    refl c.in_ok-said.ensures.said.first c.in_ok-said.ensures.line c.in_ok-put_told.ensures c.in_ok-put_block.ensures

-- the stage is at the world after the event
pub returns-clause-world : goal.returns-clause-world
returns-clause-world g c = c.in_ok-said.ensures.world

pub returns-clause-sent : goal.returns-clause-sent
returns-clause-sent g c = omega (arith, c.in_ok-said.ensures.said.first, c.in_ok-said.ensures.said.count)
