use Rattle.std.proofs.Common.{◌≡◌, ◌==◌, ◌-◌, ◌∙◌, false, Some, set, sym}
use Rattle.std.proofs.Math.ListN.{length-set}
use Rattle.std.proofs.lemmas.Bool.{not-true}
use Rattle.oc_model.specs.Table.{parent_in}
use Rattle.oc_updown.specs.Listing.{AreKnown}
use Rattle.oc_updown.specs.TableView.{entries_of}
use Rattle.oc_updown.proofs.Climbs.{beneath_above, known_more}
use Rattle.oc_updown.proofs.listing.note_way.Goals as goal

pub returns-in_default : goal.returns-in_default
returns-in_default c = rw c.index.ensures.index (known_more (entries_of c.args.rows.now.items) c.args.root c.loop.place c.loop.known c.args.listed c.loop.invariant.3 c.loop.invariant.0.0 c.loop.invariant.1)

pub returns-in_default-2 : goal.returns-in_default-2
returns-in_default-2 c = rw c.index.ensures.index (known_more (entries_of c.args.rows.now.items) c.args.root c.loop.place c.loop.known c.args.listed c.loop.invariant.3 c.loop.invariant.0.0 c.loop.invariant.1)

pub loop-preserved : goal.loop-preserved
loop-preserved c =
    let up : parent_in (entries_of c.args.rows.now.items) c.loop.place ≡ Some c.in-Some.parent = sym c.in-Some.ensures.parent in
    let other : c.in-Some.parent == c.args.root ≡ false = not-true (c.in-Some.parent == c.args.root) (sym c.if-ne.ensures) in
    let more : AreKnown (entries_of c.args.rows.now.items) c.args.root (set c.loop.known (c.loop.place - 1) (Some c.args.listed)) = known_more (entries_of c.args.rows.now.items) c.args.root c.loop.place c.loop.known c.args.listed c.loop.invariant.3 c.loop.invariant.0.0 c.loop.invariant.1 in (
      c.in-Some.ensures.fits,
      sym (beneath_above (entries_of c.args.rows.now.items) c.args.root c.loop.place c.in-Some.parent up other) ∙ c.loop.invariant.1,
      length-set c.loop.known c.index.result (Some c.args.listed) ∙ c.loop.invariant.2,
      rw c.index.ensures.index more,
    )
