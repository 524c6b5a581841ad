use Rattle.std.specs.Prelude.{◌≡◌, ℕ, Ok, Err, List, [], ◌∷◌, ◌++◌, codes}
use Rattle.oc_base.specs.declared.why.Why.{Why}
use Rattle.oc_base.specs.declared.why.Why.TheVariants as causes
use Rattle.oc_model.specs.declared.event.Act.TheVariants.{At, Deliver}
use Rattle.oc_model.specs.declared.event.Event.{Event}
use Rattle.oc_model.specs.declared.event.Event.TheVariants.{Up, Do, Held}
use Rattle.oc_model.specs.declared.input.Input.TheVariants.{Pull, Publish, Seal}
use Rattle.oc_schedule.specs.declared.fault.ScheduleFault.TheVariants.{Line}
use Rattle.oc_schedule.specs.declared.scale.Scale.TheVariants.{Usual}
use Rattle.oc_schedule.specs.Schedule.{schedule_of}

-- Worked examples: the schedules that texts give.

abbrev two_nodes : List ℕ
two_nodes = codes "overcast 1 nodes 2 chain 1\n"

-- the text is a schedule of two nodes in area 0 with these events
abbrev says : List ℕ → List Event → Type 0
says text events = schedule_of Usual text ≡ Ok (record { header = record { nodes = 2; chain = 1; chunk = 4096; areas = 0 ∷ 0 ∷ [] }; events = events })

abbrev refuses : List ℕ → ℕ → Why → Type 0
refuses text line why = schedule_of Usual text ≡ Err (Line line why)

abbrev hello : Event
hello = Do (At 1 (Publish (codes "/a") (codes "hello")))

pub record AreRead : Type 0 where
  pub empty_schedule : says two_nodes []
  pub first_path : says (two_nodes ++ codes "up 1\nup 2\npublish 1 /a 68656c6c6f\npull 2 1\ndeliver 1\ndeliver 2\nheld 2\n")
      (Up 1 ∷ Up 2 ∷ hello ∷ Do (At 2 (Pull 1)) ∷ Do (Deliver 1) ∷ Do (Deliver 2) ∷ Held 2 ∷ [])
  pub repeated_delivery : says (two_nodes ++ codes "up 1\nup 2\npublish 1 /a 68656c6c6f\npull 2 1\ndeliver 1\ndeliver 2\ndeliver 2\nheld 2\n")
      (Up 1 ∷ Up 2 ∷ hello ∷ Do (At 2 (Pull 1)) ∷ Do (Deliver 1) ∷ Do (Deliver 2) ∷ Do (Deliver 2) ∷ Held 2 ∷ [])
  pub publish_elsewhere : says (two_nodes ++ codes "up 1\nup 2\npublish 1 /a -\npublish 2 /a 61\nheld 1\n")
      (Up 1 ∷ Up 2 ∷ Do (At 1 (Publish (codes "/a") [])) ∷ Do (At 2 (Publish (codes "/a") (codes "a"))) ∷ Held 1 ∷ [])
  pub sealed_group : says (two_nodes ++ codes "up 1\nup 2\npublish 1 /a 6869\nseal 1 /a\npublish 1 /a 21\npull 2 1\ndeliver 1\ndeliver 2\nheld 2\npull 2 1\ndeliver 3\n")
      (Up 1 ∷ Up 2 ∷ Do (At 1 (Publish (codes "/a") (codes "hi"))) ∷ Do (At 1 (Seal (codes "/a"))) ∷ Do (At 1 (Publish (codes "/a") (codes "!")))
      ∷ Do (At 2 (Pull 1)) ∷ Do (Deliver 1) ∷ Do (Deliver 2) ∷ Held 2 ∷ Do (At 2 (Pull 1)) ∷ Do (Deliver 3) ∷ [])
  pub skipped_lines : says (codes "\n  # a comment\n" ++ two_nodes ++ codes "# another\n\nup 1") (Up 1 ∷ [])
  pub spaces_and_returns : says (codes "  overcast 1  nodes 2 chain 1 \r\nup 1\r\n") (Up 1 ∷ [])
  pub areas : schedule_of Usual (two_nodes ++ codes "area 2 7\narea 1 9\narea 2 255\n")
      ≡ Ok (record { header = record { nodes = 2; chain = 1; chunk = 4096; areas = 9 ∷ 255 ∷ [] }; events = [] })
  pub chunk : schedule_of Usual (codes "overcast 1 nodes 1 chain 1 chunk 524288\n")
      ≡ Ok (record { header = record { nodes = 1; chain = 1; chunk = 524288; areas = 0 ∷ [] }; events = [] })
  pub empty : refuses [] 1 causes.Header
  pub no_header : refuses (codes "# nothing\n\n") 3 causes.Header
  pub chain_too_long : refuses (codes "overcast 1 nodes 2 chain 3\n") 1 causes.Header
  pub chunk_too_great : refuses (codes "overcast 1 nodes 2 chain 1 chunk 524289\n") 1 causes.Header
  pub chunk_without_number : refuses (codes "overcast 1 nodes 2 chain 1 chunk\n") 1 causes.Header
  pub lone_return : refuses (two_nodes ++ codes "up 1\r") 2 causes.Number
  pub late_area : refuses (two_nodes ++ codes "up 1\narea 1 9\n") 3 causes.Word
  pub message_nought : refuses (two_nodes ++ codes "deliver 0\n") 2 causes.Range
  pub leading_zero : refuses (two_nodes ++ codes "deliver 01\n") 2 causes.Number
  pub too_many_words : refuses (two_nodes ++ codes "up x y\n") 2 causes.Count
  pub first_field_first : refuses (two_nodes ++ codes "publish 3 a 0\n") 2 causes.Range
  pub no_group : refuses (two_nodes ++ codes "publish 1 a 0\n") 2 causes.Group
  pub odd_digits : refuses (two_nodes ++ codes "publish 1 /a 0\n") 2 causes.Hex
