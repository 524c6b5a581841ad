use Rattle.std.proofs.Common.{ap, arith, ◌∙◌}
use Rattle.oc_laws_world.specs.Merges.{after_entries}
use Rattle.oc_model.specs.Node.{new_node}
use Rattle.oc_wire.specs.Spelling.{spelling}
use Rattle.oc_laws_records.proofs.Stories.{story_entries}
use Rattle.oc_laws_records.proofs.records.recorded_stories_are_replayed.Goals as goal

pub returns : goal.returns
returns c = λ digest h runs r s x deeds are is merged node story.
    (c.recorded_runs_are_replayed.ensures digest h runs r s are is merged).nodes x node
    ∙ (ap (after_entries (new_node h x)) (story_entries digest h x runs deeds are
    (λ m lawful. c.spellings_are_read.ensures.read h.nodes (spelling m) m (omega (arith, are.header.few)) (c.spellings_are_read.ensures.spelled h.nodes m are.header.few lawful)) story)
    ∙ c.missed_inputs_are_found.ensures.folds digest (new_node h x) deeds story.story)
