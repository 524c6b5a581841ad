-- The bytes that spell a message.
use Rattle.std.specs.Prelude.{◌≡◌, ℕ, List}
use Rattle.oc_model.specs.Lawful.{IsMessage}
use Rattle.oc_model.specs.declared.message.Message.{Message}
use Rattle.oc_wire.specs.Spelling.{spelling, HasSpelling}

-- bytes that spell this message, which is lawful between `nodes` nodes
pub record Spells (nodes : ℕ) (bytes : List ℕ) (m : Message) : Type 0 where
  pub lawful : IsMessage nodes m
  pub fits : HasSpelling m.body
  pub exact : bytes ≡ spelling m
