use Rattle.std.proofs.Common.{◌≡◌, ◌≤◌, List, ◌++◌, ◌∙◌, [], length, ap, arith}
use Rattle.oc_base.specs.declared.cert.Cert.{Cert}
use Rattle.oc_model.specs.Node.{Log}
use Rattle.oc_updown.specs.TableView.{entries_of}
use Rattle.oc_updown.proofs.Entries.{fewer_entries}
use Rattle.oc_updown.specs.ChangeLogView.{ChangeLogView}
use Rattle.oc_updown.proofs.change_log.ChangeLog.begin.Goals as goal

pub invariant_of-self : goal.invariant_of-self
invariant_of-self c =
    let acked : c.self.inside.acked ≡ 0 = ap (λ (v : ChangeLogView). v.log.acked) c.self.view_is ∙ ap (λ (l : Log). l.acked) c.clear.ensures.log in
    let none : c.self.inside.waiting.certs ≡ [] = ap (λ (v : ChangeLogView). v.log.waiting) c.self.view_is ∙ ap (λ (l : Log). l.waiting) c.clear.ensures.log in
    let all : c.push_rows.new.self.certs ≡ [] ++ entries_of c.rows.result.now.items = c.push_rows.ensures.certs ∙ ap (λ (ks : List Cert). ks ++ entries_of c.rows.result.now.items) none in
    let fewer : length (entries_of c.rows.result.now.items) ≤ length c.rows.result.now.items = fewer_entries c.rows.result.now.items in
    omega (arith, ap length all)
