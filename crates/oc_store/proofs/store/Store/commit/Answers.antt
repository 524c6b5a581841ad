use Rattle.std.proofs.Common.{ℕ, List, [], ◌∷◌, ◌++◌, ap, subst, ◌∙◌, rules, unwrap_or}
use Rattle.oc_journal.specs.JournalView.{HasFrames}
use Rattle.oc_store.specs.ControlFiles.{generation_of}
use Rattle.oc_store.proofs.Turns.{kept_recovers, commit_moments, current_more}
use Rattle.oc_store.proofs.store.Store.commit.Goals as goal

pub returns-in-Ok-clause-commits : goal.returns-in-Ok-clause-commits
returns-in-Ok-clause-commits g c =
    let s = c.self.inside in
    let i = c.self.invariant in
    rw (← c.self.view_is) (record {
      appends = search rules;
      kept = λ honest.
          let kept = subst (HasFrames (g.D.Disk.view c.append.new.self.disk)) (c.in-Ok.ensures.appends.frames honest.0) (c.in-Ok.ensures.appends.kept honest.0) in
          kept_recovers g.D.Disk.view s.side c.append.new.self.disk s.other.disk (s.current.frames ++ c.args.frame.now ∷ []) s.other.frames kept (i.kept_other c.if-self.false honest.1) (current_more s.side s.current.frames s.other.frames c.args.frame.now (i.ordered c.if-self.false honest.0 honest.1));
      generation = search rules;
      generation_first = search rules;
      generation_none = λ honest none. i.numbered c.if-self.false honest ∙ ap (λ (bodies : List (List ℕ)). unwrap_or (generation_of bodies) 0) none;
      was_open = search rules;
      unclosed = search rules;
    })

pub returns-in-Ok-clause-safely : goal.returns-in-Ok-clause-safely
returns-in-Ok-clause-safely g c =
    let s = c.self.inside in
    let i = c.self.invariant in
    rw (← c.self.view_is) (record {
      any_moment = λ is_open honest. commit_moments g.D.Disk.view s.side s.current.disk c.append.new.self.disk s.other.disk s.current.frames s.other.frames c.args.frame.now (g.met.D.Disk.consistent s.other.disk honest.1) (i.kept_other is_open honest.1) (i.ordered is_open honest.0 honest.1) (c.append.ensures.safely.any_moment (i.open_current is_open) honest.0);
      later = λ is_open honest. (c.append.ensures.safely.any_moment (i.open_current is_open) honest).later;
      takes = search rules;
      other = search rules;
      side = search rules;
    })

pub returns-in-Err-Disk-clause-safely : goal.returns-in-Err-Disk-clause-safely
returns-in-Err-Disk-clause-safely g c =
    let s = c.self.inside in
    let i = c.self.invariant in
    rw (← c.self.view_is) (record {
      any_moment = λ is_open honest. commit_moments g.D.Disk.view s.side s.current.disk c.append.new.self.disk s.other.disk s.current.frames s.other.frames c.args.frame.now (g.met.D.Disk.consistent s.other.disk honest.1) (i.kept_other is_open honest.1) (i.ordered is_open honest.0 honest.1) (c.append.ensures.safely.any_moment (i.open_current is_open) honest.0);
      later = λ is_open honest. (c.append.ensures.safely.any_moment (i.open_current is_open) honest).later;
      takes = search rules;
      other = search rules;
      side = search rules;
    })

pub returns-in-Err-Full-clause-safely : goal.returns-in-Err-Full-clause-safely
returns-in-Err-Full-clause-safely g c =
    let s = c.self.inside in
    let i = c.self.invariant in
    rw (← c.self.view_is) (record {
      any_moment = λ is_open honest. commit_moments g.D.Disk.view s.side s.current.disk c.append.new.self.disk s.other.disk s.current.frames s.other.frames c.args.frame.now (g.met.D.Disk.consistent s.other.disk honest.1) (i.kept_other is_open honest.1) (i.ordered is_open honest.0 honest.1) (c.append.ensures.safely.any_moment (i.open_current is_open) honest.0);
      later = λ is_open honest. (c.append.ensures.safely.any_moment (i.open_current is_open) honest).later;
      takes = search rules;
      other = search rules;
      side = search rules;
    })
