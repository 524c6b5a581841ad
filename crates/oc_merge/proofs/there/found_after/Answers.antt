use Rattle.std.proofs.Common.{rules, ◌≡◌, Some, None, get_or, slice_get, refl, ap, ◌∙◌, arith}
use Rattle.std.proofs.lemmas.Option.{slice_get-get_or}
use Rattle.oc_merge.specs.declared.told.Told.TheVariants.{Started}
use Rattle.oc_merge.specs.Recorded.{found_after}
use Rattle.oc_merge.proofs.Going.{node_at_head}
use Rattle.oc_merge.proofs.LinesThere.{next_later, next_none, next_own, next_start, next_within}
use Rattle.oc_merge.proofs.there.found_after.Goals as goal

pub starts-init : goal.starts-init
starts-init c = λ k there. (
  next_within c.args.lines.now c.args.next.now c.requires.next c.args.place k there k.node refl,
  next_none c.args.lines.now c.args.next.now c.requires.next c.args.place k there k.node refl,
  ap found_after (next_own c.args.lines.now c.args.next.now c.requires.next c.args.place k there k.node refl),
)

pub starts-smaller : goal.starts-smaller
starts-smaller c =
    let l = get_or c.args.lines.now c.starts.behind c.index-lines-behind.result in
    let there : slice_get c.args.lines.now c.starts.behind ≡ Some l = slice_get-get_or c.args.lines.now c.starts.behind c.index-lines-behind.result c.starts-test.true in
    omega (arith, next_later c.args.lines.now c.args.next.now c.requires.next c.starts.behind l there l.node refl, c.starts-test.true)

pub starts-preserved : goal.starts-preserved
starts-preserved c = λ k there.
    let l = get_or c.args.lines.now c.starts.behind c.index-lines-behind.result in
    let at : slice_get c.args.lines.now c.starts.behind ≡ Some l = slice_get-get_or c.args.lines.now c.starts.behind c.index-lines-behind.result c.starts-test.true in
    let told : l.told ≡ Started None = search rules in
    let before = c.starts.invariant k there in
    let own : l.node ≡ k.node = node_at_head k.node c.args.lines.now c.starts.behind l before.1 at in (
      next_within c.args.lines.now c.args.next.now c.requires.next c.starts.behind l at k.node own,
      next_none c.args.lines.now c.args.next.now c.requires.next c.starts.behind l at k.node own,
      ap found_after (next_own c.args.lines.now c.args.next.now c.requires.next c.starts.behind l at k.node own)
          ∙ (next_start c.args.lines.now c.starts.behind l k.node at own told ∙ before.2),
    )
