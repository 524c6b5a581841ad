-- A request that is judged is lawful, and with what it selects it still is.
use Rattle.std.proofs.Common.{◌≡◌, ℕ, ◌+◌, ◌<◌, ◌≤◌, ◌^◌, Bool, IfSome, Option, Some, Result, Ok, Err, IfOk, List, sym, ap, subst, ◌∙◌, arith}
use Rattle.oc_model.specs.Lawful.{IsInput}
use Rattle.oc_model.specs.declared.input.Input.{Input}
use Rattle.oc_model.specs.declared.input.Input.TheVariants as inputs
use Rattle.oc_select.specs.Selecting.{selection}
use Rattle.oc_select.specs.declared.content.Content.{Content}
use Rattle.oc_select.specs.declared.selection.Selection.{Selection}
use Rattle.oc_select.specs.declared.selection.Selection.TheVariants.{Whole, Part, NotModified, PreconditionFailed, Unsatisfiable}
use Rattle.oc_select.specs.declared.selectors.RequestLine.{RequestLine}
use Rattle.oc_select.specs.declared.selectors.Selectors.{Selectors}
use Rattle.oc_routes.specs.Asks.{IsInputFor, IsLawfulAsk}
use Rattle.oc_routes.specs.Selections.{IsSelection, content_of, input_by, with_selection}
use Rattle.oc_routes.specs.Lawful.{IsAsking}
use Rattle.oc_routes.specs.Routes.{input_asked}
use Rattle.oc_routes.specs.Verdicts.{input_for}
use Rattle.oc_routes.specs.declared.hint.Asked.{Asked}
use Rattle.oc_routes.specs.declared.hint.Hint.{Hint}
use Rattle.oc_routes.specs.declared.hint.Hint.TheVariants.{Plain, Here, Of, Known}
use Rattle.oc_routes.specs.declared.routes.Operation.{Operation}
use Rattle.oc_routes.specs.declared.routes.Operation.TheVariants as asks
use Rattle.oc_routes.specs.declared.verdict.Request.{Request}

input_lawful : (nodes me : ℕ) (chosen : Selection) (input : Option Input) → IfSome input (IsInput nodes me) → IfSome (input_by chosen input) (IsInput nodes me)
input_lawful nodes me Whole input is = is
input_lawful nodes me (Part start count) input is = is
input_lawful nodes me NotModified input is = tt
input_lawful nodes me PreconditionFailed input is = tt
input_lawful nodes me Unsatisfiable input is = is

input_chosen : (operation : Operation) (hint : Hint) (chosen : Selection) (input : Option Input) → IsInputFor operation hint Whole input → IsInputFor operation hint chosen (input_by chosen input)
input_chosen asks.Message hint chosen input is = tt
input_chosen (asks.Publish group at) hint chosen input is = tt
input_chosen (asks.Seal group at) hint chosen input is = tt
input_chosen (asks.Client group area start manner) hint chosen input is = ap (input_by chosen) is
input_chosen (asks.Probe manner) hint chosen input is = tt
input_chosen (asks.Report report manner) hint chosen input is = tt

pub chosen_lawful : (nodes me : ℕ) (request : Request) (chosen : Selection) → IsSelection chosen → IsLawfulAsk nodes me request → request.asked.selection ≡ Whole
    → IsLawfulAsk nodes me (with_selection request chosen)
chosen_lawful nodes me request chosen fits lawful whole = record {
  asks = record { operation = lawful.asks.operation; selection = fits };
  input = input_lawful nodes me chosen request.input lawful.input;
  client = input_chosen request.asked.operation request.asked.hint chosen request.input
      (subst (λ (s : Selection). IsInputFor request.asked.operation request.asked.hint s request.input) whole lawful.client);
}

-- Requests that are judged

hinted_lawful : (nodes me : ℕ) (hint : Hint) (input : Option Input) → IfSome input (IsInput nodes me) → IfSome (input_for hint input) (IsInput nodes me)
hinted_lawful nodes me Here input is = tt
hinted_lawful nodes me Plain input is = is
hinted_lawful nodes me (Of length) input is = is
hinted_lawful nodes me Known input is = is

own_input : (nodes me : ℕ) (operation : Operation) (hint : Hint) (body : List ℕ) (input : Option Input) → input_asked nodes me operation body ≡ Ok input
    → IsInputFor operation hint Whole (input_for hint input)
own_input nodes me asks.Message hint body input is = tt
own_input nodes me (asks.Publish group at) hint body input is = tt
own_input nodes me (asks.Seal group at) hint body input is = tt
own_input nodes me (asks.Client group area start manner) hint body input is =
    let said : Ok (Some (inputs.Client area start group)) ≡ Ok input = is in
    let same : input ≡ Some (inputs.Client area start group) = cc in
    ap (input_for hint) same
own_input nodes me (asks.Probe manner) hint body input is = tt
own_input nodes me (asks.Report report manner) hint body input is = tt

-- a request whose input results from its operation
pub ask_lawful : (nodes me count : ℕ) (said : Asked) (line : RequestLine) (selectors : Selectors) (body : List ℕ) (input told : Option Input) (last : Bool)
    → IsAsking said → said.selection ≡ Whole → input_asked nodes me said.operation body ≡ Ok input → IfSome input (IsInput nodes me) → told ≡ input_for said.hint input
    → IsLawfulAsk nodes me (record { count = count; asked = said; line = line; selectors = selectors; input = told; last = last }) × (said.selection ≡ Whole)
ask_lawful nodes me count said line selectors body input told last asking whole results lawful tells = (
  record {
    asks = asking;
    input = subst (λ (o : Option Input). IfSome o (IsInput nodes me)) (sym tells) (hinted_lawful nodes me said.hint input lawful);
    client = subst (λ (s : Selection). IsInputFor said.operation said.hint s told) (sym whole)
        (subst (λ (o : Option Input). IsInputFor said.operation said.hint Whole o) (sym tells) (own_input nodes me said.operation said.hint body input results));
  },
  whole,
)

-- a part of a group whose length has 64 bits can be told
part_fits : (length : ℕ) (sealed : Bool) (line : RequestLine) (s : Selectors)
    → ((content : Content) (line : RequestLine) (s : Selectors) (start count : ℕ) → selection content line s ≡ Part start count → (0 < count) × (start + count ≤ content.length))
    → length < 2 ^ 64 → (chosen : Selection) → chosen ≡ selection (content_of length sealed) line s → IsSelection chosen
part_fits length sealed line s law fits Whole is = tt
part_fits length sealed line s law fits (Part start count) is =
    let within = law (content_of length sealed) line s start count (sym is) in
    (within.0, omega (arith, within.1, fits))
part_fits length sealed line s law fits NotModified is = tt
part_fits length sealed line s law fits PreconditionFailed is = tt
part_fits length sealed line s law fits Unsatisfiable is = tt

pub ok_fits : {M : Type 0} (r : Result Selection M) (content : Content) (length : ℕ) (sealed : Bool) (line : RequestLine) (s : Selectors)
    → ((content : Content) (line : RequestLine) (s : Selectors) (start count : ℕ) → selection content line s ≡ Part start count → (0 < count) × (start + count ≤ content.length))
    → length < 2 ^ 64 → content ≡ content_of length sealed → IfOk r (λ (chosen : Selection). chosen ≡ selection content line s) → IfOk r IsSelection
ok_fits (Ok chosen) content length sealed line s law fits made is =
    part_fits length sealed line s law fits chosen (is ∙ ap (λ (k : Content). selection k line s) made)
ok_fits (Err e) content length sealed line s law fits made is = tt
