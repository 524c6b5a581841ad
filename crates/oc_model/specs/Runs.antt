use Rattle.std.specs.Prelude.{ℕ, Option, Some, None, List, [], ◌∷◌, ◌++◌, length}
use Rattle.oc_model.specs.declared.event.Act.{Act}
use Rattle.oc_model.specs.declared.event.Act.TheVariants.{Deliver}
use Rattle.oc_model.specs.declared.message.Body.{Body}
use Rattle.oc_model.specs.declared.message.Message.{Message}
use Rattle.oc_model.specs.World.{World, message_at, after_act}

-- Acts one after another, each chosen in the world that the earlier ones left.

-- the world after these acts
abbrev pub after_acts : World → List Act → World
after_acts w [] = w
after_acts w (a ∷ rest) = after_acts (after_act w a) rest

-- the acts from a world on, and the world after them
pub record Run : Type 0 where
  pub acts : List Act
  pub world : World

-- the run without an act
abbrev pub rests : World → Run
rests w = record { acts = []; world = w }

-- the run of one act
abbrev pub does : Act → World → Run
does a w = record { acts = a ∷ []; world = after_act w a }

abbrev pub followed_by : Run → Run → Run
followed_by r s = record { acts = r.acts ++ s.acts; world = s.world }

-- the run, and then the one that this function gives for the world after it
abbrev pub and_then : Run → (World → Run) → Run
and_then r f = followed_by r (f r.world)

-- the runs for these ids, one after another
abbrev pub for_each : List ℕ → (ℕ → World → Run) → World → Run
for_each [] f w = rests w
for_each (x ∷ xs) f w = and_then (f x w) (for_each xs f)

abbrev pub body_in : Option Message → Option Body
body_in None = None
body_in (Some m) = Some m.body

-- the body of the message that was sent last
abbrev pub last_body : World → Option Body
last_body w = body_in (message_at w.net (length w.net))

-- delivers the message that was sent last
abbrev pub delivers_last : World → Run
delivers_last w = does (Deliver (length w.net)) w
