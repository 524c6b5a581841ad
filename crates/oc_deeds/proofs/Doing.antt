-- Facts of a running node that does deeds.
use Rattle.std.proofs.Common.{◌≡◌, ℕ, Option, List, [], ◌∷◌, ap, subst, sym, ◌∙◌}
use Rattle.oc_model.specs.Lawful.{IsInput}
use Rattle.oc_model.specs.Node.{Node}
use Rattle.oc_model.specs.Step.{step}
use Rattle.oc_model.specs.declared.answer.Answer.{Answer}
use Rattle.oc_model.specs.declared.input.Input.{Input}
use Rattle.oc_deeds.specs.Brief.{told_of}
use Rattle.oc_deeds.specs.Deeds.{Deed, Running, Says, Setting, after}
use Rattle.oc_deeds.specs.Telling.{IsBefore, told_after}
use Rattle.oc_deeds.specs.declared.brief.Before.{Before}
use Rattle.oc_deeds.proofs.ToldInputs.{told_same}

-- an input of a node is one of the same node later
pub input_stays : (nodes me more other : ℕ) (i : Input) → more ≡ nodes → other ≡ me → IsInput nodes me i → IsInput more other i
input_stays nodes me more other i many same lawful =
    subst (λ (n : ℕ). IsInput n other i) (sym many) (subst (λ (x : ℕ). IsInput nodes x i) (sym same) lawful)

-- the lines by the facts before an input are those of the input
pub says_told : (d : Deed) (i : Input) (s : Setting) (a b : Running) (before : Option Before) (answer : Answer) → IsBefore s.log a.node.control i before
    → (after d a).node ≡ (step a.node i).node → b ≡ after d a → answer ≡ (step a.node i).answer
    → Says (told_after before b.node.control answer) ∷ [] ≡ Says (told_of s.log a.node i) ∷ []
says_told d i s a b before answer known stepped is says =
    ap (λ (t : List ℕ). Says t ∷ [])
    (told_same s.log a.node b.node.control i before answer known (ap (λ (r : Running). r.node.control) is ∙ ap (λ (n : Node). n.control) stepped) says)
