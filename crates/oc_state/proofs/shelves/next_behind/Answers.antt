use Rattle.std.proofs.Common.{sym, ◌∙◌}
use Rattle.oc_state.proofs.ShelfLines.{turn_first, turn_second}
use Rattle.oc_state.proofs.shelves.next_behind.Goals as goal

pub returns-in-Some : goal.returns-in-Some
returns-in-Some c =
    turn_first c.args.chunk c.args.have.now c.args.shelf.now c.turn-place.result c.in-Some.line c.turn-place.ensures.turn (sym c.in-Some.is ∙ c.first_behind.ensures)

pub returns-in-None : goal.returns-in-None
returns-in-None c =
    c.first_behind-in-None.ensures
    ∙ turn_second c.args.chunk c.args.have.now c.args.shelf.now c.turn-place.result c.turn-place.ensures.turn (sym c.in-None.is ∙ c.first_behind.ensures)
