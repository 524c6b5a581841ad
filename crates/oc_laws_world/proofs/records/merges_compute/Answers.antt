use Rattle.std.proofs.Common.{List, [], ◌∷◌, codes, inl, refl, arith}
use Rattle.oc_base.specs.Lawful.{IsNode}
use Rattle.oc_model.specs.declared.event.Act.TheVariants.{At, Deliver}
use Rattle.oc_model.specs.declared.event.Event.{Event}
use Rattle.oc_model.specs.declared.event.Event.TheVariants.{Up, Crash, Do}
use Rattle.oc_model.specs.declared.input.Input.TheVariants.{Pull, Publish}
use Rattle.oc_laws_world.proofs.records.merges_compute.Goals as goal

node_1 : IsNode 2 1
node_1 = (omega arith, omega arith)

node_2 : IsNode 2 2
node_2 = (omega arith, omega arith)

pub returns-clause-merge : goal.returns-clause-merge
returns-clause-merge c = (node_2, tt, (node_2, (refl, tt), (node_1, tt, (node_1, (refl, tt), (node_1, (refl, (refl, (2, node_2, inl refl))), (node_2, (refl, (refl, (1, node_1, inl refl))), (node_2, tt, tt)))))))

pub returns-clause-entries : goal.returns-clause-entries
returns-clause-entries c = refl

-- the events of the records' last line, of the last two lines, and so on
abbrev last_1 : List Event
last_1 = Crash 2 ∷ Up 2 ∷ []

abbrev last_2 : List Event
last_2 = Do (Deliver 2) ∷ last_1

abbrev last_3 : List Event
last_3 = Do (Deliver 1) ∷ last_2

abbrev last_4 : List Event
last_4 = Do (At 1 (Publish (codes "/a") (codes "hello"))) ∷ last_3

abbrev last_5 : List Event
last_5 = Up 1 ∷ last_4

abbrev last_6 : List Event
last_6 = Do (At 2 (Pull 1)) ∷ last_5

pub returns-clause-scheduled : goal.returns-clause-scheduled
returns-clause-scheduled c = (
  Up 2 ∷ [],
  last_6,
  refl,
  refl,
  (
    Do (At 2 (Pull 1)) ∷ [],
    last_5,
    refl,
    refl,
    (
      Up 1 ∷ [],
      last_4,
      refl,
      refl,
      (
        Do (At 1 (Publish (codes "/a") (codes "hello"))) ∷ [],
        last_3,
        refl,
        refl,
        (
          Do (Deliver 1) ∷ [],
          last_2,
          refl,
          (1, refl, refl),
          (
            Do (Deliver 2) ∷ [],
            last_1,
            refl,
            (2, refl, refl),
            (last_1, [], refl, refl, refl),
          ),
        ),
      ),
    ),
  ),
)

pub returns-clause-held : goal.returns-clause-held
returns-clause-held c = refl

pub returns-clause-missed : goal.returns-clause-missed
returns-clause-missed c = refl

pub returns-clause-taken : goal.returns-clause-taken
returns-clause-taken c = refl
