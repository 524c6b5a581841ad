use Rattle.std.proofs.Common.{◌≡◌, ◌∙◌, sym, None, arith}
use Rattle.oc_model.specs.Numbers.{at}
use Rattle.oc_calm.proofs.FoundLengths.{nothing, climb_starts, climb_ends, climb_step, noted_less, stop_found, stop_top, stop_known, known_here}
use Rattle.oc_calm.proofs.lengths.climb.Goals as goal

pub up-init : goal.up-init
up-init g c = climb_starts (g.C.Cluster.world c.args.cluster.now) c.args.node c.args.lengths.now c.requires.node c.requires.few c.requires.found

pub returns-in-Some-clause-top : goal.returns-in-Some-clause-top
returns-in-Some-clause-top g c =
    climb_ends (g.C.Cluster.world c.args.cluster.now) c.up.steps c.args.node c.up.place c.in-Some.length c.up.lengths c.up.invariant.node c.up.invariant.way c.up.invariant.found (sym c.in-Some.ensures)

pub up-smaller : goal.up-smaller
up-smaller g c =
    let new : at c.up.lengths c.up.place None ≡ None = sym c.found_of.ensures ∙ nothing c.found_of.result c.in_default.not-Some in
    omega (arith, noted_less (g.C.Cluster.world c.args.cluster.now) c.args.node c.args.lengths.now c.up.steps c.up.place c.length_alone-length.result c.index.result c.up.lengths c.up.invariant new c.index.ensures.index)

pub up-preserved : goal.up-preserved
up-preserved g c =
    let new : at c.up.lengths c.up.place None ≡ None = sym c.found_of.ensures ∙ nothing c.found_of.result c.in_default.not-Some in
    climb_step (g.C.Cluster.world c.args.cluster.now) c.args.node c.args.lengths.now c.up.steps c.up.place c.in-Some-parent_of.parent c.length_alone-length.result c.index.result c.up.lengths c.up.invariant new
    (sym c.in-Some-parent_of.ensures.parent) c.in-Some-parent_of.ensures.node c.index.ensures.index c.length_alone-length.ensures

pub returns-in-None-clause-top : goal.returns-in-None-clause-top
returns-in-None-clause-top g c =
    stop_top (g.C.Cluster.world c.args.cluster.now) c.args.node c.args.lengths.now c.up.steps c.up.place c.length_alone-length.result c.up.lengths c.up.invariant (sym c.in-None.ensures.parent) c.length_alone-length.ensures

pub returns-in-None-clause-found : goal.returns-in-None-clause-found
returns-in-None-clause-found g c =
    stop_found (g.C.Cluster.world c.args.cluster.now) c.args.node c.args.lengths.now c.up.steps c.up.place c.length_alone-length.result c.index.result c.up.lengths c.up.invariant (sym c.in-None.ensures.parent) c.index.ensures.index c.length_alone-length.ensures

pub returns-in-None-clause-known : goal.returns-in-None-clause-known
returns-in-None-clause-known g c =
    (stop_known (g.C.Cluster.world c.args.cluster.now) c.args.node c.args.lengths.now c.up.steps c.up.place c.length_alone-length.result c.index.result c.up.lengths c.up.invariant c.index.ensures.index).0

pub returns-in-None-clause-here : goal.returns-in-None-clause-here
returns-in-None-clause-here g c =
    (stop_known (g.C.Cluster.world c.args.cluster.now) c.args.node c.args.lengths.now c.up.steps c.up.place c.length_alone-length.result c.index.result c.up.lengths c.up.invariant c.index.ensures.index).1

pub returns-in-Some-clause-here : goal.returns-in-Some-clause-here
returns-in-Some-clause-here g c =
    known_here (g.C.Cluster.world c.args.cluster.now) c.args.node c.args.lengths.now c.up.steps c.up.place c.in-Some.length c.up.lengths c.up.invariant (sym c.in-Some.ensures)
