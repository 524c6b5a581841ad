use Rattle.std.proofs.Common.{◌≡◌, [], ◌∷◌, ◌<◌, refl, subst, arith, rules, unwrap_or}
use Rattle.oc_journal.specs.JournalView.{HasFrames}
use Rattle.oc_store.specs.ControlFiles.{generation_in, generation_of}
use Rattle.oc_store.specs.Sides.{opposite}
use Rattle.oc_store.proofs.Turns.{kept_recovers, current_other, failed_moments, turn_moments}
use Rattle.oc_store.proofs.store.Store.turn_over.Goals as goal

pub returns-in_default-clause-any_moment : goal.returns-in_default-clause-any_moment
returns-in_default-clause-any_moment g c =
    let s = c.self.inside in
    let i = c.self.invariant in
    let number : s.generation ≡ c.args.self.now.generation = rw (← c.self.view_is) refl in
    rw (← c.self.view_is, c.in_default.ensures.stays) (λ is_open honest.
    let above : unwrap_or (generation_of s.current.frames) 0 < generation_in c.args.snapshot.now = omega (arith, number, i.numbered is_open honest.0, c.requires.above) in
    failed_moments g.D.Disk.view s.side s.current.disk s.other.disk c.turn_over.new.other.disk s.current.frames s.other.frames c.args.snapshot.now (g.met.D.Disk.consistent s.current.disk honest.0) (i.kept_current is_open honest.0) (i.ordered is_open honest.0 honest.1) above (c.in_default.ensures.safely_err.any_moment honest.1))

pub returns-clause-turns : goal.returns-clause-turns
returns-clause-turns g c =
    let s = c.self.inside in
    let i = c.self.invariant in
    let number : s.generation ≡ c.args.self.now.generation = rw (← c.self.view_is) refl in
    rw (← c.self.view_is, c.in-Ok.ensures.turned, c.opposite-self-inside.ensures) (record {
      frames = search rules;
      kept = λ honest.
          let above : unwrap_or (generation_of s.current.frames) 0 < generation_in c.args.snapshot.now = omega (arith, number, i.numbered c.if-self.false honest.0, c.requires.above) in
          let kept = subst (HasFrames (g.D.Disk.view c.turn_over.new.current.disk)) (c.in-Ok.ensures.replaces.frames honest.1) (c.in-Ok.ensures.replaces.kept honest.1) in
          kept_recovers g.D.Disk.view (opposite s.side) c.turn_over.new.current.disk s.current.disk (c.args.snapshot.now ∷ []) s.current.frames kept (i.kept_current c.if-self.false honest.0) (current_other s.side s.current.frames c.args.snapshot.now above);
      end = search rules;
      spare = search rules;
      later = λ honest. (c.in-Ok.ensures.safely.any_moment honest).later;
      takes = search rules;
      no_fault = search rules;
      other = search rules;
      side = search rules;
      generation = search rules;
      was_open = search rules;
      unclosed = search rules;
    })

pub returns-clause-any_moment : goal.returns-clause-any_moment
returns-clause-any_moment g c =
    let s = c.self.inside in
    let i = c.self.invariant in
    let number : s.generation ≡ c.args.self.now.generation = rw (← c.self.view_is) refl in
    rw (← c.self.view_is, c.in-Ok.ensures.turned, c.opposite-self-inside.ensures) (λ is_open honest.
    let above : unwrap_or (generation_of s.current.frames) 0 < generation_in c.args.snapshot.now = omega (arith, number, i.numbered is_open honest.0, c.requires.above) in
    turn_moments g.D.Disk.view s.side s.current.disk s.other.disk c.turn_over.new.current.disk s.current.frames s.other.frames c.args.snapshot.now (g.met.D.Disk.consistent s.current.disk honest.0) (i.kept_current is_open honest.0) (i.ordered is_open honest.0 honest.1) above (c.in-Ok.ensures.safely.any_moment honest.1))
