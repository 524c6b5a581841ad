-- The nodes so far are noted, and the others are as they were.
use Rattle.std.proofs.Common.{◌≡◌, ◌++◌, drop, take}
use Rattle.oc_routes.specs.Tallies.{is_news_in, noted_from}
use Rattle.oc_routes.proofs.tally.note_news.Given as goal

abbrev pub invariant-loop-slot : goal.invariant-loop-slot
invariant-loop-slot l = l.heard ≡ noted_from (is_news_in l.before l.table.entries) l.second 1 (take l.slot l.fn.heard) ++ drop l.slot l.fn.heard
