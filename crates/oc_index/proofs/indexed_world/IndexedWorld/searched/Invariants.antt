-- No message that was looked at is this one.
use Rattle.oc_index.specs.Index.{IsNoneBefore}
use Rattle.oc_index.proofs.indexed_world.IndexedWorld.searched.Given as goal

abbrev pub invariant-loop-number : goal.invariant-loop-number
invariant-loop-number l = IsNoneBefore l.self.world.world.net l.message l.number
