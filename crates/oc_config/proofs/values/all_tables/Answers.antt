use Rattle.std.proofs.Common.{◌≡◌, ◌+◌, ◌++◌, ◌∷◌, [], ap, sym, drop, ◌∙◌, arith}
use Rattle.std.specs.Prelude.{ok_or}
use Rattle.std.proofs.lemmas.Result.{err_from_is_err_and}
use Rattle.toml.specs.View.{items_view, table_view}
use Rattle.oc_config.specs.Values.{all_tables, section_in, section_of, sections_of}
use Rattle.oc_config.specs.Keys.{place_in}
use Rattle.oc_config.proofs.Faults.{no_tables}
use Rattle.oc_config.proofs.Tables.{all_found, front_more, front_none, no_table, table_next, with_front}
use Rattle.oc_config.proofs.values.all_tables.Goals as goal

pub loop-value-init : goal.loop-value-init
loop-value-init c =
    let all = all_tables c.args.kind 1 (items_view c.args.values.now) in record {
      all = ap (λ refs. with_front (sections_of refs) all) c.new-tables.ensures.items ∙ front_none all;
      count = c.new-tables.ensures.len;
    }

pub loop-value-preserved : goal.loop-value-preserved
loop-value-preserved c =
    let m = c.loop-value in
    let vs = c.args.values.now in
    let number = m.value-index + 1 in
    let rest = all_tables c.args.kind (number + 1) (items_view (drop (m.value-index + 1) vs)) in
    let same : section_of (record { place = c.place-place.result; table = c.in-Some.table }) ≡ section_in c.args.kind number (table_view c.in-Some.table.now) =
    ap (λ p. record { place = p; members = table_view c.in-Some.table.now }) (c.place-place.ensures ∙ ap (λ n. place_in c.args.kind (n + 1)) (c.len.ensures ∙ m.invariant.count)) in record {
      all =
          ap (λ refs. with_front (sections_of refs) rest) c.in_ok-push-in-Some.ensures.items
          ∙ ap (λ front. with_front front rest) (front_more m.tables.items (record { place = c.place-place.result; table = c.in-Some.table }))
          ∙ ap (λ last. with_front (sections_of m.tables.items ++ last ∷ []) rest) same
          ∙ table_next c.args.kind number (sections_of m.tables.items) vs m.value-index c.value-item.result (table_view c.in-Some.table.now) c.loop-value-test.true c.value-item.is (sym c.in-Some.ensures)
          ∙ m.invariant.all;
      count = omega (arith, c.in_ok-push-in-Some.ensures.len, m.invariant.count);
    }

pub returns-in_err-push-in-Some-clause-said : goal.returns-in_err-push-in-Some-clause-said
returns-in_err-push-in-Some-clause-said c =
    let p = err_from_is_err_and c.from_residual.result c.from_residual.ensures.1 in
    rw (p.1, p.2) tt

pub returns-in-None-clause-said : goal.returns-in-None-clause-said
returns-in-None-clause-said c =
    let m = c.loop-value in
    let vs = c.args.values.now in
    no_tables (all_tables c.args.kind 1 (items_view vs)) c.args.fault
    (sym m.invariant.all ∙ ap (with_front (sections_of m.tables.items)) (no_table c.args.kind (m.value-index + 1) vs m.value-index c.value-item.result c.loop-value-test.true c.value-item.is (sym c.in-None.ensures)))

pub returns : goal.returns
returns c =
    let m = c.loop-value in record {
      said = ap (λ found. ok_or found c.args.fault) (sym m.invariant.all ∙ all_found c.args.kind (m.value-index + 1) (sections_of m.tables.items) c.args.values.now m.value-index c.loop-value-test.false);
      count = omega (arith, m.invariant.count, c.loop-value-test.false, m.auto.value-index-end);
    }
