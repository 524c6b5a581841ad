use Rattle.std.proofs.Common.{rules, ◌≡◌, ◌-◌, ◌<◌, Some, length, get_or, slice_get, replicate, arith}
use Rattle.std.proofs.lemmas.Option.{slice_get-get_or}
use Rattle.oc_merge.specs.Records.{IsLine}
use Rattle.oc_merge.proofs.Chosen.{all_at}
use Rattle.oc_merge.proofs.NextPlaces.{places_none, places_step}
use Rattle.oc_merge.proofs.places.find_places.Goals as goal

pub lines-init : goal.lines-init
lines-init c =
    let first : c.in_ok-first.first.items ≡ replicate c.args.nodes (length c.args.lines.now) = search rules in
    let next : length c.in_ok-next.next.items ≡ length c.args.lines.now = search rules in
    record { within = omega arith; places = places_none c.args.nodes c.args.lines.now c.in_ok-first.first.items c.in_ok-next.next.items first next }

pub index-at-requires : goal.index-at-requires
index-at-requires c =
    let l = get_or c.args.lines.now (c.lines.place - 1) c.index-lines-place.result in
    let there : slice_get c.args.lines.now (c.lines.place - 1) ≡ Some l = slice_get-get_or c.args.lines.now (c.lines.place - 1) c.index-lines-place.result (omega (arith, c.lines.invariant.within, c.lines-test.true)) in
    (all_at (IsLine c.args.nodes) c.args.lines.now (c.lines.place - 1) l c.requires there).0.0

pub index-requires : goal.index-requires
index-requires c =
    let l = get_or c.args.lines.now (c.lines.place - 1) c.index-lines-place.result in
    let there : slice_get c.args.lines.now (c.lines.place - 1) ≡ Some l = slice_get-get_or c.args.lines.now (c.lines.place - 1) c.index-lines-place.result (omega (arith, c.lines.invariant.within, c.lines-test.true)) in
    let is = all_at (IsLine c.args.nodes) c.args.lines.now (c.lines.place - 1) l c.requires there in
    let below : c.index-at.result < length c.lines.first.items = omega (arith, c.index-at.ensures.next, is.0.1, c.lines.invariant.places.all_nodes) in
    search rules

pub index_mut-requires : goal.index_mut-requires
index_mut-requires c =
    let below : c.lines.place - 1 < length c.lines.next.items = omega (arith, c.lines.invariant.within, c.lines-test.true, c.lines.invariant.places.all_lines) in
    search rules

pub index_mut-requires-in-lines : goal.index_mut-requires-in-lines
index_mut-requires-in-lines c =
    let l = get_or c.args.lines.now (c.lines.place - 1) c.index-lines-place.result in
    let there : slice_get c.args.lines.now (c.lines.place - 1) ≡ Some l = slice_get-get_or c.args.lines.now (c.lines.place - 1) c.index-lines-place.result (omega (arith, c.lines.invariant.within, c.lines-test.true)) in
    let is = all_at (IsLine c.args.nodes) c.args.lines.now (c.lines.place - 1) l c.requires there in
    let below : c.index-at.result < length c.lines.first.items = omega (arith, c.index-at.ensures.next, is.0.1, c.lines.invariant.places.all_nodes) in
    search rules

pub lines-preserved : goal.lines-preserved
lines-preserved c =
    let l = get_or c.args.lines.now (c.lines.place - 1) c.index-lines-place.result in
    let there : slice_get c.args.lines.now (c.lines.place - 1) ≡ Some l = slice_get-get_or c.args.lines.now (c.lines.place - 1) c.index-lines-place.result (omega (arith, c.lines.invariant.within, c.lines-test.true)) in
    let is = all_at (IsLine c.args.nodes) c.args.lines.now (c.lines.place - 1) l c.requires there in
    record {
      within = omega (arith, c.lines.invariant.within);
      places = places_step c.args.nodes c.args.lines.now c.lines.place l c.lines.first.items c.lines.next.items c.index-at.result c.index.result.now c.lines.invariant.places c.lines-test.true there is.0 c.index-at.ensures.index c.index.ensures;
    }
