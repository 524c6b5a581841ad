use Rattle.std.proofs.Common.{◌≡◌, ◌<◌, ◌≤◌, ◌+◌, ◌-◌, ℕ, Option, List, ◌∷◌, ap, refl, sym, subst, ◌∙◌, arith}
use Rattle.std.specs.Prelude.{filter, IfSome}
use Rattle.std.specs.List.{range_with_len}
use Rattle.oc_base.specs.declared.cert.Cert.{Cert}
use Rattle.oc_updown.specs.TableView.{entries_of}
use Rattle.oc_model.specs.Table.{is_listed}
use Rattle.oc_model.specs.Selected.{servers}
use Rattle.oc_updown.specs.Better.{is_better, best_of, with_rest}
use Rattle.oc_updown.proofs.FreestServer.{freest_best}
use Rattle.oc_updown.proofs.RedirectRows.{servers_used}
use Rattle.oc_updown.proofs.Steps.{state, after_better, after_failed, after_worse, next_node, no_node, rest_none, behind_more}
use Rattle.oc_updown.proofs.selecting.select.Goals as goal
use Rattle.oc_updown.proofs.selecting.select.Goals.{then-beats+then-is_listed, else-beats, else-beats-via-then-beats+else-is_listed, else-beats-via-else-beats}

pub loop-before-init : goal.loop-before-init
loop-before-init c = record { best = refl; behind = tt }

pub loop-before-preserved : goal.loop-before-preserved
loop-before-preserved c =
    let listed = is_listed c.args.table.now.entries c.args.me in
    let areas = c.args.areas.now in
    let counts = c.args.counts.now.items in
    let area = c.args.area in
    let n = c.used-nodes.result in
    let i = c.loop-before.before in
    let best = c.loop-before.best in
    let new = c.if-beats.best in
    let node = i + 1 in
    let rest = range_with_len (node + 1) (n - node) in
    let step : state areas counts area listed new rest ≡ state areas counts area listed best (node ∷ rest) =
    elim c.if-beats.branch [
      | then-beats+then-is_listed w ↦ after_better areas counts area listed best new node rest (sym c.beats.ensures ∙ w.if-beats.true) (sym w.is_listed.ensures.walk ∙ w.if-is_listed.true) w.best-is
      | else-beats w ↦ elim w.else-beats.branch [
        | else-beats-via-then-beats+else-is_listed v ↦ after_failed areas counts area listed best new node rest (sym v.is_listed.ensures.walk ∙ v.if-is_listed.false) w.best-is
        | else-beats-via-else-beats v ↦ after_worse areas counts area listed best new node rest (sym c.beats.ensures ∙ v.if-beats.false) w.best-is
      ]
    ] in
    record {
      best = step ∙ ap (λ (xs : List ℕ). state areas counts area listed best xs) (sym (next_node n i c.loop-before-test.true)) ∙ c.loop-before.invariant.best;
      behind = elim c.if-beats.branch [
        | then-beats+then-is_listed w ↦ subst (λ (o : Option ℕ). IfSome o (λ b. (1 ≤ b) × (b < i + 1 + 1))) (sym w.best-is) (omega arith, omega arith)
        | else-beats w ↦ subst (λ (o : Option ℕ). IfSome o (λ b. (1 ≤ b) × (b < i + 1 + 1))) (sym w.best-is) (behind_more best i c.loop-before.invariant.behind)
      ];
    }

pub returns : goal.returns
returns c =
    let t = c.args.table.now.entries in
    let me = c.args.me in
    let chain = c.args.chain in
    let areas = c.args.areas.now in
    let counts = c.args.counts.now.items in
    let area = c.args.area in
    let better = is_better areas counts area in
    let rows = c.rows.result.now.items in
    let n = c.used-nodes.result in
    let i = c.loop-before.before in
    let best = c.loop-before.best in
    let all : servers t me chain ≡ filter (is_listed t me) (range_with_len (chain + 1) (n - chain)) =
    subst (λ (t : List Cert). servers t me chain ≡ filter (is_listed t me) (range_with_len (chain + 1) (n - chain))) c.rows.ensures.entries
    (servers_used rows me chain n _ _ c.rows.ensures.rows.0 c.used-nodes.ensures.within c.used-nodes.ensures.rest c.rows.ensures.rows.1) in
    sym (rest_none better best)
    ∙ ap (λ (xs : List ℕ). with_rest better best (best_of better (filter (is_listed t me) xs))) (sym (no_node n i c.loop-before-test.false))
    ∙ c.loop-before.invariant.best
    ∙ ap (λ (xs : List ℕ). best_of better xs) (sym all)
    ∙ sym (freest_best areas counts area (servers t me chain))
