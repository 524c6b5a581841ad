use Rattle.std.proofs.Common.{◌++◌, codes, List, ℕ, ap₂, append_assoc, ◌∙◌}
use Rattle.std.specs.Prelude.{decimal}
use Rattle.oc_base.specs.declared.limits.TheConstants.{MAX_SCHEDULE_BYTES}
use Rattle.oc_config.specs.Keys.{key_text}
use Rattle.oc_deeds.proofs.Results.{done_then}
use Rattle.oc_deeds.proofs.unfit.put_unfit.Goals as goal

pub returns-in_ok-put-in-Restart : goal.returns-in_ok-put-in-Restart
returns-in_ok-put-in-Restart c = rw c.in-Restart.is
    (done_then c.put-in-Restart-2.result
    (λ is. is ∙ ap₂ (λ (xs ys : List ℕ). xs ++ ys) c.in_ok-put-in-Restart.ensures.ok (c.as_bytes-in-Restart.ensures.value ∙ c.word-in-Restart.ensures)
    ∙ append_assoc c.args.out.now.items (codes "config: restart ") (key_text c.in-Restart.key))
    c.put-in-Restart-2.ensures.ok)

pub returns-in-Long : goal.returns-in-Long
returns-in-Long c = rw c.in-Long.is
    (done_then c.put_with_number.result (λ is. is ∙ append_assoc c.args.out.now.items (codes "limit bytes ") (decimal MAX_SCHEDULE_BYTES)) c.put_with_number.ensures.ok)
