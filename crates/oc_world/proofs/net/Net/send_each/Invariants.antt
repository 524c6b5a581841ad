use Rattle.std.proofs.Common.{◌≡◌, ◌++◌, length, take, drop}
use Rattle.std.specs.List.{AllByRecursion}
use Rattle.oc_model.specs.Lawful.{IsMessage}
use Rattle.oc_world.proofs.net.Net.send_each.Given as goal

-- the messages so far and those to come are all, those of before are the first, and those to come are lawful
abbrev pub invariant-loop-message : goal.invariant-loop-message
invariant-loop-message l = record {
  nodes : l.self.nodes ≡ l.initial.self.nodes;
  all : l.self.messages ++ drop l.message-index l.messages ≡ l.initial.self.messages ++ l.messages;
  before : take (length l.initial.self.messages) l.self.messages ≡ l.initial.self.messages;
  lawful : AllByRecursion (IsMessage l.initial.self.nodes) (drop l.message-index l.messages);
}
