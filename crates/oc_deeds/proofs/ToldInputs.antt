-- The lines of an input, by the facts before it.
use Rattle.std.proofs.Common.{◌≡◌, ℕ, Option, None, Some, List, ◌++◌, ap, ◌∙◌}
use Rattle.oc_base.specs.declared.cert.Child.{Child}
use Rattle.oc_model.specs.declared.answer.Answer.{Answer}
use Rattle.oc_model.specs.declared.input.Input.{Input}
use Rattle.oc_model.specs.declared.mode.Mode.{Mode}
use Rattle.oc_model.specs.Node.{Control, Node}
use Rattle.oc_model.specs.Step.{step}
use Rattle.oc_deeds.specs.Brief.{asked_line, at_stake, lost_lines, moved_line, told_input, told_of}
use Rattle.oc_deeds.specs.Telling.{IsBefore, told_after}
use Rattle.oc_deeds.specs.declared.brief.Before.{Before}
use Rattle.oc_deeds.specs.declared.log.Log.{Log}
use Rattle.oc_deeds.specs.declared.log.Log.TheVariants as logs

-- the lines by the facts before an input are those of the input
pub told_same : (log : Log) (n : Node) (x : Control) (i : Input) (before : Option Before) (answer : Answer) → IsBefore log n.control i before → x ≡ (step n i).node.control → answer ≡ (step n i).answer
    → told_after before x answer ≡ told_of log n i
told_same logs.Inputs n x i before answer known is says = ap (λ (o : Option Before). told_after o x answer) known
told_same logs.Record n x i before answer known is says = ap (λ (o : Option Before). told_after o x answer) known
told_same logs.Brief n x i None answer known is says = absurd known
told_same logs.Brief n x i (Some b) answer known is says =
    ap (λ (t : List ℕ). asked_line t answer ++ lost_lines x b.leased.items ++ moved_line b.mode x) known.told
    ∙ ap (λ (cs : List Child). asked_line (told_input n.control.me i) answer ++ lost_lines x cs ++ moved_line b.mode x) known.leased
    ∙ ap (λ (m : Mode). asked_line (told_input n.control.me i) answer ++ lost_lines x (at_stake n.control i) ++ moved_line m x) known.mode
    ∙ ap (λ (a : Answer). asked_line (told_input n.control.me i) a ++ lost_lines x (at_stake n.control i) ++ moved_line n.control.kept.mode x) says
    ∙ ap (λ (y : Control). asked_line (told_input n.control.me i) (step n i).answer ++ lost_lines y (at_stake n.control i) ++ moved_line n.control.kept.mode y) is
