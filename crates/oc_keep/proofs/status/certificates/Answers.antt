use Rattle.std.proofs.Common.{◌∙◌, ◌++◌, ap}
use Rattle.oc_updown.specs.TableView.{entries_of}
use Rattle.oc_keep.proofs.status.certificates.Goals as goal

pub returns : goal.returns
returns c = c.of.ensures ∙ c.in_ok-push_entries.ensures ∙ ap (λ before. before ++ entries_of c.rows.result.now.items) c.new-entries.ensures.items ∙ c.rows.ensures.entries
