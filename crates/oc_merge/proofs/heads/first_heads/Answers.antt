use Rattle.std.proofs.Common.{rules, ◌≡◌, ◌+◌, ◌<◌, false, [], ◌∷◌, ◌++◌, List, length, drop, refl, ap, sym, subst, ◌∙◌, arith}
use Rattle.oc_base.specs.Lawful.{IsNode}
use Rattle.oc_model.specs.World.{World, ids, is_up}
use Rattle.oc_merge.specs.declared.heads.Head.{Head}
use Rattle.oc_merge.specs.Heads.{before_own}
use Rattle.oc_merge.proofs.Starting.{HaveFirst, down_new, first_more, first_read, ids_new, own_first_place}
use Rattle.oc_merge.proofs.heads.first_heads.Goals as goal

pub way_at-requires-clause-count : goal.way_at-requires-clause-count
way_at-requires-clause-count g c = ap (λ (v : World). length (ids v)) c.requires.new ∙ ids_new c.args.records.now.header

pub way_at-requires-clause-own : goal.way_at-requires-clause-own
way_at-requires-clause-own g c = λ l there.
    let r = c.args.records.now in
    let less : c.loop-before.before < r.header.nodes = omega (arith, c.loop-before-test.true, c.nodes-count.ensures) in
    let place : c.index-place.result.now ≡ 0 + before_own (c.loop-before.before + 1) (drop 0 r.lines) =
    first_read r.header.nodes r.lines c.args.places.now.first.items c.args.places.now.next.items c.loop-before.before c.index-place.result.now c.requires.places less c.index-place.ensures in
    own_first_place (c.loop-before.before + 1) r.lines c.index-place.result.now l place there

pub way_at-requires-clause-started : goal.way_at-requires-clause-started
way_at-requires-clause-started g c =
    let less : c.loop-before.before < c.args.records.now.header.nodes = omega (arith, c.loop-before-test.true, c.nodes-count.ensures) in
    let is : IsNode c.args.records.now.header.nodes (c.loop-before.before + 1) = (omega arith, omega (arith, less)) in
    sym (ap (λ (v : World). is_up v (c.loop-before.before + 1)) c.requires.new ∙ down_new c.args.records.now.header (c.loop-before.before + 1) is)

pub loop-before-preserved : goal.loop-before-preserved
loop-before-preserved g c =
    let r = c.args.records.now in
    let w = g.N.Nodes.world c.args.nodes.now in
    let h : Head = record { place = c.index-place.result.now; started = false; way = c.in_ok-way.way } in
    let less : c.loop-before.before < r.header.nodes = omega (arith, c.loop-before-test.true, c.nodes-count.ensures) in
    let place : c.index-place.result.now ≡ 0 + before_own (c.loop-before.before + 1) (drop 0 r.lines) =
    first_read r.header.nodes r.lines c.args.places.now.first.items c.args.places.now.next.items c.loop-before.before c.index-place.result.now c.requires.places less c.index-place.ensures in
    let more : c.push.new.self.items ≡ c.loop-before.heads.items ++ h ∷ [] = search rules in
    subst (λ (hs : List Head). HaveFirst g.N.Nodes.digest r w (c.loop-before.before + 1) hs) (sym more)
    (first_more g.N.Nodes.digest r w c.loop-before.before c.loop-before.heads.items h c.loop-before.invariant place refl c.in_ok-way.ensures)
