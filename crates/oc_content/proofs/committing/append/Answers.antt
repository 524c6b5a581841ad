use Rattle.std.proofs.Common.{◌≡◌, ◌++◌, ◌∷◌, [], ℕ, List, IsTrue, ap, subst, ◌∙◌, rules}
use Rattle.std.specs.Result.{OnErr}
use Rattle.oc_journal.specs.Promises.{Appends}
use Rattle.oc_content.specs.ContentFile.{content_of, groups_in}
use Rattle.oc_content.proofs.Views.{IsIndexed-sized, IsIndexed-put, IsIndexed-same, content_put, others_stay}
use Rattle.oc_content.proofs.Causes.{frames_kept}
use Rattle.oc_content.proofs.committing.append.Goals as goal

pub put-requires-clause-sized : goal.put-requires-clause-sized
put-requires-clause-sized g c = IsIndexed-sized g.D.Disk.view c.args.journal.now c.args.index.now c.requires.indexed

pub returns-in_err-append-clause-indexed : goal.returns-in_err-append-clause-indexed
returns-in_err-append-clause-indexed g c =
    let j = c.args.journal.now in
    IsIndexed-same g.D.Disk.view j c.append.new.self c.args.index.now c.requires.indexed c.append.ensures.safely.takes.goes_on.honest
    (subst (λ r. OnErr r (IsTrue (g.D.Disk.view j.disk).honest → c.append.new.self.frames ≡ j.frames)) c.in_err-append.was (frames_kept g.D.Disk.view c.frame.result.now j c.append.new.self c.append.result c.append.ensures.unchanged c.append.ensures.disk))

pub returns-clause-indexed : goal.returns-clause-indexed
returns-clause-indexed g c =
    let j = c.args.journal.now in
    IsIndexed-put g.D.Disk.view j c.append.new.self c.args.index.now c.put.new.self c.args.piece.body c.args.piece.entry c.count-number.result c.requires.indexed c.count-number.ensures.count c.append.ensures.safely.takes.goes_on.honest (λ h. c.in_ok-append.ensures.appends.frames h ∙ ap (λ (b : List ℕ). j.frames ++ b ∷ []) c.frame.ensures.body) c.put.ensures.added

pub returns-clause-commits : goal.returns-clause-commits
returns-clause-commits g c =
    let view = g.D.Disk.view in
    let j = c.args.journal.now in
    let p = c.args.piece in
    let content = λ (honest : IsTrue (view j.disk).honest).
    ap content_of (c.in_ok-append.ensures.appends.frames honest ∙ ap (λ (b : List ℕ). j.frames ++ b ∷ []) c.frame.ensures.body) ∙ content_put view j c.args.index.now c.put.new.self p.body p.entry c.count-number.result c.requires.indexed c.count-number.ensures.count c.put.ensures.added honest in
    record {
      held_is = search rules;
      content = content;
      others = λ honest. others_stay c.append.new.self.frames (groups_in j.frames) p.entry (content honest);
      appends = subst (λ (b : List ℕ). Appends view b j c.append.new.self) c.frame.ensures.body c.in_ok-append.ensures.appends;
      rooms = search rules;
      memory = search rules;
    }

pub put-requires-clause-place : goal.put-requires-clause-place
put-requires-clause-place g c = c.requires.ready.place

pub put-requires-clause-fits : goal.put-requires-clause-fits
put-requires-clause-fits g c = c.requires.ready.fits c.requires.adds_some

pub put-requires-clause-room : goal.put-requires-clause-room
put-requires-clause-room g c = c.requires.ready.room

pub put-requires-clause-groups : goal.put-requires-clause-groups
put-requires-clause-groups g c = c.requires.ready.groups

pub append-requires : goal.append-requires
append-requires g c = c.requires.ready.spare
