use Rattle.std.proofs.Common.{◌≡◌, ◌+◌, ◌++◌, take, drop, subst, arith}
use Rattle.oc_io.specs.Tally.{Passes}
use Rattle.oc_io.proofs.Fronts.{left-copied, length-rest}
use Rattle.oc_io.proofs.mem_source.MemSourceSource.read.Goals as goal

-- the bytes left before are those copied into the buffer, and those left now
pub returns-clause-gives : goal.returns-clause-gives
returns-clause-gives c =
    let at = c.self.inside.at in
    let n = c.min-count.result in
    let copied = c.copy_from_slice.new.self in
    let behind = drop n c.args.buf.now in
    let held = left-copied at n c.deref.result.now copied behind (omega (arith, length-rest at c.deref.result.now)) c.copy_from_slice.ensures.after in
    let left = subst (λ bytes. drop at bytes ≡ take n (copied ++ behind) ++ drop (at + n) bytes) c.deref.ensures.value held in
    record {
      front = subst (λ view. view.left ≡ take n (copied ++ behind) ++ drop (at + n) c.self.inside.bytes.items) c.self.view_is left;
      calls = subst (λ view. Passes view.calls c.call.new.self) c.self.view_is c.in_ok-call.ensures.passes;
    }
