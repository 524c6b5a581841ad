use Rattle.std.proofs.Common.{◌≡◌, ◌+◌, ◌∙◌, None, sym, arith}
use Rattle.oc_calm.specs.Tree.{parent_of}
use Rattle.oc_calm.proofs.ChainLengths.{length_short}
use Rattle.oc_calm.proofs.FoundLengths.{nothing, none_noted, note_goes_on, note_keeps, note_linked}
use Rattle.oc_calm.proofs.lengths.note_way.Goals as goal

pub returns-then-way-eq0-clause-found : goal.returns-then-way-eq0-clause-found
returns-then-way-eq0-clause-found g c =
    none_noted (g.C.Cluster.world c.args.cluster.now) c.args.way.steps c.args.node c.args.way.length c.args.lengths.now c.requires.top c.if-way-eq0.true c.requires.found

pub returns-in_default-clause-found : goal.returns-in_default-clause-found
returns-in_default-clause-found g c =
    let w = g.C.Cluster.world c.args.cluster.now in
    let none : parent_of w c.up.place ≡ None = sym c.parent_of.ensures.parent ∙ nothing c.parent_of.result c.in_default.not-Some in
    absurd (note_linked w c.up.left c.up.place c.args.way.length none c.up-test.true c.up.invariant.left.ends)

pub overflow_add-lengths : goal.overflow_add-lengths
overflow_add-lengths g c =
    omega (arith, c.requires.top.length, length_short (g.C.Cluster.world c.args.cluster.now) c.requires.top.top, c.requires.found.places, c.requires.few, c.up.invariant.fewer, c.requires.steps)

pub up-preserved : goal.up-preserved
up-preserved g c =
    let w = g.C.Cluster.world c.args.cluster.now in
    record {
      node = c.in-Some.ensures.node;
      left = rw c.index.ensures.index (note_goes_on w c.up.left c.up.place c.in-Some.parent c.args.way.length c.up.lengths c.up.invariant.node (sym c.in-Some.ensures.parent) c.up-test.true c.up.invariant.left);
      known = note_keeps w c.up.left c.up.place c.args.way.length (c.args.way.length + c.up.left) c.index.result c.args.lengths.now c.up.lengths c.up.invariant.node c.up.invariant.left c.index.ensures.index c.up.invariant.known;
      fewer = omega (arith, c.up.invariant.fewer);
    }
