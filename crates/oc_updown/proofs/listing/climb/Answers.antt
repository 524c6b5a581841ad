use Rattle.std.proofs.Common.{◌≡◌, ◌==◌, ◌-◌, ◌<◌, false, Some, length, sym, subst, eqb-true}
use Rattle.oc_model.specs.Table.{parent_in}
use Rattle.oc_updown.specs.TableView.{entries_of}
use Rattle.oc_updown.proofs.Entries.{fewer_entries}
use Rattle.oc_updown.proofs.Climbs.{climb_begins, climb_goes_on, climb_known, climb_round}
use Rattle.oc_updown.proofs.listing.climb.Goals as goal

pub loop-init : goal.loop-init
loop-init c = (c.requires.node, climb_begins (entries_of c.args.rows.now.items) c.args.root (length c.args.rows.now.items) c.args.node c.at-post.result.node (fewer_entries c.args.rows.now.items) c.at-post.ensures)

pub returns-in-Some : goal.returns-in-Some
returns-in-Some c = climb_known (entries_of c.args.rows.now.items) c.args.root (length c.args.rows.now.items - c.loop.counter) c.args.node c.loop.place c.loop.post.node c.args.known.now c.in-Some.listed c.loop.invariant.1 c.requires.known c.loop.invariant.0.0 c.in-Some.ensures

pub returns-in-Some-2 : goal.returns-in-Some-2
returns-in-Some-2 c =
    let up : parent_in (entries_of c.args.rows.now.items) c.loop.place ≡ Some c.in-Some-parent_of.parent = sym c.in-Some-parent_of.ensures.parent in
    let other : c.in-Some-parent_of.parent == c.args.root ≡ false = cc in
    climb_round (entries_of c.args.rows.now.items) c.args.root (length c.args.rows.now.items - c.loop.counter) c.args.node c.loop.place c.loop.post.node c.in-Some-parent_of.parent c.loop.invariant.1 up other (eqb-true c.in-Some-parent_of.parent c.loop.post.node (sym c.if-eq-2.ensures))

pub loop-preserved : goal.loop-preserved
loop-preserved c =
    let up : parent_in (entries_of c.args.rows.now.items) c.loop.place ≡ Some c.in-Some-parent_of.parent = sym c.in-Some-parent_of.ensures.parent in
    let other : c.in-Some-parent_of.parent == c.args.root ≡ false = cc in
    (c.in-Some-parent_of.ensures.fits, climb_goes_on (entries_of c.args.rows.now.items) c.args.root (length c.args.rows.now.items) c.loop.counter c.args.node c.loop.place c.loop.post.node c.in-Some-parent_of.parent c.after-post.result.node c.loop.invariant.1 (subst (λ n. c.loop.counter < n) c.len-end.ensures c.loop-test.true) up other c.after-post.ensures)
