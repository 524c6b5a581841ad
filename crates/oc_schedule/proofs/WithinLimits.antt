-- Scripts that pass no limit.
use Rattle.std.proofs.Common.{◌≡◌, ℕ, ◌≤◌, false, cond, nat_lt, Ok, Err, List, [], ap, ◌∙◌, subst, arith}
use Rattle.std.proofs.lemmas.Bool.{le-ltb}
use Rattle.oc_base.specs.declared.limits.TheConstants.{MAX_SCHEDULE_SETTLES}
use Rattle.oc_schedule.proofs.Steps.{steps}
use Rattle.oc_schedule.specs.declared.fault.ScheduleFault.TheVariants.{Limit}
use Rattle.oc_schedule.specs.declared.fault.What.TheVariants as limits
use Rattle.oc_schedule.specs.declared.scale.Scale.{Scale}
use Rattle.oc_schedule.specs.Limits.{most_of}
use Rattle.oc_schedule.specs.Lines.{header_in}
use Rattle.oc_schedule.specs.Reading.{at_line}
use Rattle.oc_schedule.specs.Schedule.{first_script, limited, within_limits}
use Rattle.oc_schedule.specs.Script.{Script, published_in, settles_in}

-- a script with few published bytes and few settles is within the limits
pub limits_back : (scale : Scale) (s : Script) → published_in s.events ≤ most_of scale limits.Published → settles_in s.events ≤ MAX_SCHEDULE_SETTLES → within_limits scale s ≡ Ok s
limits_back scale s published settles =
    let few : nat_lt (most_of scale limits.Published) (published_in s.events) ≡ false = le-ltb _ _ published in
    let rare : nat_lt MAX_SCHEDULE_SETTLES (settles_in s.events) ≡ false = le-ltb _ _ settles in
    ap (λ b. cond b (Err (Limit limits.Published)) (cond (nat_lt MAX_SCHEDULE_SETTLES (settles_in s.events)) (Err (Limit limits.Settles)) (Ok s))) few
    ∙ ap (λ b. cond b (Err (Limit limits.Settles)) (Ok s)) rare

-- a header is within the limits
pub header_limited : (scale : Scale) (i : ℕ) (ws : List (List ℕ)) (s : Script) → first_script ws ≡ Ok s → limited scale (at_line i (first_script ws)) ≡ Ok s
header_limited scale i ws s is =
    steps (header_in ws) _ _ is λ header is_header end.
    let same : record { header = header; events = [] } ≡ s = cc end in
    ap (λ r. limited scale (at_line i r)) is
    ∙ subst (λ (t : Script). within_limits scale t ≡ Ok t) same (limits_back scale (record { header = header; events = [] }) (omega arith) (omega arith))
