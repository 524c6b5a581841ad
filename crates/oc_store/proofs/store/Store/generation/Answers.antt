use Rattle.oc_store.proofs.Turns.{kept_recovers}
use Rattle.oc_store.proofs.store.Store.generation.Goals as goal

pub returns-clause-kept : goal.returns-clause-kept
returns-clause-kept g c =
    let s = c.self.inside in
    let i = c.self.invariant in
    rw (← c.self.view_is) (λ is_open honest.
    kept_recovers g.D.Disk.view s.side s.current.disk s.other.disk s.current.frames s.other.frames (i.kept_current is_open honest.0) (i.kept_other is_open honest.1) (i.ordered is_open honest.0 honest.1))
