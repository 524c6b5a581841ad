-- An outcome, as a contract sees it.
use Rattle.std.specs.Prelude.{List}
use Rattle.oc_model.specs.declared.answer.Answer.{Answer}
use Rattle.oc_model.specs.declared.message.Message.{Message}

-- the answer, and the messages to send
pub record OutcomeView : Type 0 where
  pub answer : Answer
  pub sends : List Message
