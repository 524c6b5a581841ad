use Rattle.std.proofs.Common.{◌≡◌, ℕ, ◌+◌, ◌≤◌, List, Option, length, ap, ◌∙◌, arith}
use Rattle.oc_base.specs.Groups.{bytes_of}
use Rattle.oc_content.specs.ContentFile.{groups_in}
use Rattle.oc_model.specs.declared.want.Want.{Want}
use Rattle.oc_model.specs.Step.{bytes_wanted}
use Rattle.oc_node.specs.Planned.{filled_with}
use Rattle.oc_keep.specs.Writing.{fetched}
use Rattle.oc_keep.proofs.Steps.{fetched_whole, filled_sent, held_there, lines_are, none_sent}
use Rattle.oc_keep.proofs.readying.fetch.Goals as goal

pub returns-in-Ok-clause-fetched : goal.returns-in-Ok-clause-fetched
returns-in-Ok-clause-fetched g c =
    let w = c.in-Some.want in
    let plan = c.args.plan.now in
    let frames = c.args.content.now.journal.frames in
    let ks = groups_in frames in
    let bytes = c.in-Ok.bytes.items in
    let long : length bytes ≡ w.count = c.in-Ok.ensures.long in
    record {
      sends = filled_sent plan.wants w plan c.fill.new.self bytes c.in-Some.ensures long c.fill.ensures.fills;
      groups = λ honest.
          let held = rw (← c.in-Some.ensures, lines_are frames c.args.content.now.shelves (c.requires.shelved honest)) at c.requires.held in
          let there = held_there w.group ks held.line held.there in
          let within : w.start + w.count ≤ length (bytes_of w.group ks) = omega (arith, there, held.within) in
          let whole : bytes ≡ bytes_wanted ks w = fetched_whole bytes (bytes_of w.group ks) w.count w.start long within (c.in-Ok.ensures.bytes honest) in
          c.fill.ensures.fills ∙ ap (λ (bs : List ℕ). filled_with bs plan) whole ∙ ap (λ (o : Option Want). fetched ks o plan) c.in-Some.ensures;
    }

pub returns-in_default-clause-fetched : goal.returns-in_default-clause-fetched
returns-in_default-clause-fetched g c = none_sent g.D.Disk.view c.args.content.now c.args.plan.now c.in_default.ensures
