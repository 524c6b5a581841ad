use Rattle.std.proofs.Common.{ℕ, ◌-◌, List, length, sym, ap, subst, ◌∙◌}
use Rattle.std.proofs.lemmas.List.{length-drop}
use Rattle.oc_base.specs.declared.shelf.Shelf.{Shelf}
use Rattle.oc_content.specs.ContentFile.{with_entry}
use Rattle.oc_content.specs.Headings.{entry_at}
use Rattle.oc_base.specs.Shelves.{LooksUpLine}
use Rattle.oc_content.specs.Indexes.{IsWithin, lines_with, paths_with, span_of}
use Rattle.oc_content.proofs.Adding.{IsIndexOf-add, place_within, count_short, taken-refused, IsSized-reserved}
use Rattle.oc_content.proofs.index.Index.take.Goals as goal

pub returns-then-not-fits : goal.returns-then-not-fits
returns-then-not-fits c = λ bodies groups honest is number.
    let h = c.in-Some.heading in
    let body = c.args.body.now in
    taken-refused bodies groups c.args.self.now honest h body (length body - h.skip) is (sym (length-drop h.skip body)) c.in-Some.ensures.entry (sym c.if-not-fits.ensures)

pub reserve-requires-clause-within : goal.reserve-requires-clause-within
reserve-requires-clause-within c =
    let h = c.in-Some.heading in
    let ss = c.args.self.now.shelves.items in
    let at = subst (λ (l : List Shelf). LooksUpLine l h.group c.look_up-place.result) c.deref.ensures.value c.look_up-place.ensures in
    subst (λ (n : ℕ). IsWithin c.look_up-place.result n) (sym c.requires.rows) (place_within ss h.group c.look_up-place.result h.start (length c.args.body.now - h.skip) h.seals at (sym c.if-not-fits.ensures))

pub add-requires-clause-within : goal.add-requires-clause-within
add-requires-clause-within c =
    let h = c.in-Some.heading in
    let ss = c.args.self.now.shelves.items in
    let at = subst (λ (l : List Shelf). LooksUpLine l h.group c.look_up-place.result) c.deref.ensures.value c.look_up-place.ensures in
    subst (λ (n : ℕ). IsWithin c.look_up-place.result n) (sym (ap length c.in_ok-track.ensures.keeps.lines)) (place_within ss h.group c.look_up-place.result h.start (length c.args.body.now - h.skip) h.seals at (sym c.if-not-fits.ensures))

pub add-requires-clause-sized : goal.add-requires-clause-sized
add-requires-clause-sized c = IsSized-reserved c.args.self.now c.reserve.new.self c.requires c.reserve.ensures.keeps

pub add-requires-clause-few : goal.add-requires-clause-few
add-requires-clause-few c =
    let h = c.in-Some.heading in
    let ss = c.args.self.now.shelves.items in
    count_short _ (length ss) h.start (length c.args.body.now - h.skip) h.seals (sym c.if-not-fits.ensures)

pub returns : goal.returns
returns c = λ bodies groups honest is number.
    let h = c.in-Some.heading in
    let body = c.args.body.now in
    let count = length body - h.skip in
    let place = c.look_up-place.result in
    let at = subst (λ (l : List Shelf). LooksUpLine l h.group place) c.deref.ensures.value c.look_up-place.ensures in (
      with_entry (entry_at h body) groups,
      IsIndexOf-add bodies groups c.args.self.now c.add.new.self honest h body count c.args.frame place is at (sym c.if-not-fits.ensures) (sym (length-drop h.skip body)) c.in-Some.ensures.entry number (c.add.ensures.lines ∙ ap (λ (ss : List Shelf). lines_with place h count ss) c.in_ok-track.ensures.keeps.lines) (c.add.ensures.paths ∙ ap (paths_with place (span_of h count c.args.frame)) c.in_ok-track.ensures.keeps.tracks.paths),
    )
