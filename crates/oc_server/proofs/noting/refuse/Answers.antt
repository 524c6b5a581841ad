use Rattle.std.proofs.Common.{rules, ◌≡◌, Some, Bool, Option, List, ℕ, sym, subst}
use Rattle.std.specs.Prelude.{is_some, option_map, unwrap_or}
use Rattle.oc_link.specs.Told.{AddsAll}
use Rattle.oc_deeds.specs.Deeds.{refuses}
use Rattle.oc_server.proofs.noting.refuse.Goals as goal

pub returns-in-Some-clause-calls : goal.returns-in-Some-clause-calls
returns-in-Some-clause-calls g c =
    let old = g.L.Link.story c.args.link.now in
    let new = g.L.Link.story c.refuse_by.new.link in
    let count : c.unwrap_or.result ≡ unwrap_or c.args.kept c.args.came = search rules in
    let keeps : c.is_some.result ≡ is_some c.args.kept = search rules in
    let reply : option_map (λ text. text.items) c.args.reply ≡ Some c.deref.result.now = search rules in
    subst (λ (t : Option (List ℕ)). AddsAll (refuses c.args.connection (unwrap_or c.args.kept c.args.came) (is_some c.args.kept) t) old new) (sym reply)
    (subst (λ (n : ℕ). AddsAll (refuses c.args.connection n (is_some c.args.kept) (Some c.deref.result.now)) old new) count
    (subst (λ (b : Bool). AddsAll (refuses c.args.connection c.unwrap_or.result b (Some c.deref.result.now)) old new) keeps c.refuse_by.ensures.calls))
