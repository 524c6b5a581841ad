use Rattle.oc_state.proofs.ShelfLines.{found_within, free_within}
use Rattle.oc_state.proofs.shelves.with_line.Goals as goal

pub replace_line-requires : goal.replace_line-requires
replace_line-requires c = found_within c.args.line.now c.args.shelf.now c.in-Found.index c.in-Found.ensures

pub insert_line-requires : goal.insert_line-requires
insert_line-requires c = free_within c.args.line.now c.args.shelf.now c.in-Free.index c.in-Free.ensures
