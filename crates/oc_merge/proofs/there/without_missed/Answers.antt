use Rattle.std.proofs.Common.{◌≡◌, List, length, ap, sym, subst, ◌∙◌, arith}
use Rattle.std.specs.List.{AllByRecursion}
use Rattle.oc_model.specs.Lawful.{IsHeader}
use Rattle.oc_merge.specs.declared.told.ToldLine.{ToldLine}
use Rattle.oc_merge.specs.Recorded.{picked}
use Rattle.oc_merge.specs.Records.{IsLine}
use Rattle.oc_merge.specs.Told.{Records}
use Rattle.oc_merge.proofs.LinesThere.{are_there_length, picked_all, picked_few}
use Rattle.oc_merge.proofs.there.without_missed.Goals as goal

pub picked-requires : goal.picked-requires
picked-requires g c =
    omega (arith, ap length (c.deref.ensures.value ∙ c.in_ok-there.ensures), are_there_length g.A.Alone.digest c.args.records 0 c.args.records.lines, ap (λ (q : Records). length q.lines) c.records.view_is)

pub returns-clause-lawful : goal.returns-clause-lawful
returns-clause-lawful g c =
    let bs = c.deref.result.now in
    let ls = c.records.inside.lines.items in
    let all : AllByRecursion (IsLine c.records.inside.header.nodes) ls = subst (λ (q : Records). AllByRecursion (IsLine q.header.nodes) q.lines) (sym c.records.view_is) c.requires.lines in
    let left : c.in_ok-picked.field-0.items ≡ picked bs ls = c.in_ok-picked.ensures in
    record {
      header = subst (λ (q : Records). IsHeader q.header) (sym c.records.view_is) c.requires.header;
      lines = subst (λ (ks : List ToldLine). AllByRecursion (IsLine c.records.inside.header.nodes) ks) (sym left) (picked_all (IsLine c.records.inside.header.nodes) bs ls all);
      few = omega (arith, picked_few bs ls, ap length left, ap (λ (q : Records). length q.lines) c.records.view_is, c.requires.few);
    }
