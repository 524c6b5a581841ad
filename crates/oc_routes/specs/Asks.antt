-- The operation of a request that is to be answered is within the ranges of the node.
use Rattle.std.specs.Prelude.{◌≡◌, ℕ, IfSome, Option, Some}
use Rattle.oc_model.specs.Lawful.{IsInput}
use Rattle.oc_model.specs.declared.input.Input.{Input}
use Rattle.oc_model.specs.declared.input.Input.TheVariants as inputs
use Rattle.oc_select.specs.declared.selection.Selection.{Selection}
use Rattle.oc_select.specs.declared.selection.Selection.TheVariants.{Whole}
use Rattle.oc_routes.specs.Lawful.{IsAsking}
use Rattle.oc_routes.specs.Selections.{input_by}
use Rattle.oc_routes.specs.declared.hint.Asked.{Asked}
use Rattle.oc_routes.specs.declared.routes.Operation.{Operation}
use Rattle.oc_routes.specs.declared.routes.Operation.TheVariants as asks
use Rattle.oc_routes.specs.Verdicts.{input_for}
use Rattle.oc_routes.specs.declared.hint.Hint.{Hint}
use Rattle.oc_routes.specs.declared.verdict.Request.{Request}
use Rattle.oc_routes.specs.declared.verdict.Verdict.{Verdict}
use Rattle.oc_routes.specs.declared.verdict.Verdict.TheVariants.{Ask}

-- a client's input is the one that it asks, where neither the node is to answer itself nor a condition answers
abbrev pub IsInputFor : Operation → Hint → Selection → Option Input → Type 0
IsInputFor (asks.Client group area start manner) hint selection input = input ≡ input_by selection (input_for hint (Some (inputs.Client area start group)))
IsInputFor other hint selection input = Unit {0}

abbrev pub IsInputOf : Asked → Option Input → Type 0
IsInputOf asked input = IsInputFor asked.operation asked.hint asked.selection input

-- a request whose operation is within its ranges, whose input is one of the node `me` of `nodes` nodes, and that of a client its operation
pub record IsLawfulAsk (nodes me : ℕ) (request : Request) : Type 0 where
  pub asks : IsAsking request.asked
  pub input : IfSome request.input (IsInput nodes me)
  pub client : IsInputOf request.asked request.input

-- a request that is to be answered is lawful, and not settled yet
abbrev pub IsLawfulVerdict : ℕ → ℕ → Verdict → Type 0
IsLawfulVerdict nodes me (Ask request) = IsLawfulAsk nodes me request × (request.asked.selection ≡ Whole)
IsLawfulVerdict nodes me verdict = Unit {0}
