-- The replies to clients that are sent on, and to those who publish and seal.
use Rattle.std.proofs.Common.{◌≡◌, ℕ, ◌==◌, Bool, true, false, if◌then◌else◌, Option, Result, Ok, Err, IfOk, List, length, refl, sym, ap, ◌∙◌}
use Rattle.oc_model.specs.declared.answer.Answer.{Answer}
use Rattle.oc_model.specs.declared.answer.Answer.TheVariants.{Redirect}
use Rattle.oc_model.specs.declared.message.Message.{Message}
use Rattle.oc_select.specs.declared.content.Content.{Content}
use Rattle.oc_select.specs.declared.selection.Selection.{Selection}
use Rattle.oc_select.specs.declared.selection.Selection.TheVariants as selections
use Rattle.oc_routes.specs.Group.{chosen, client_response, group_response, here_response, known_reply, part_served, redirection, selected_response, sent_response, shown_response}
use Rattle.oc_routes.specs.Publish.{publish_response}
use Rattle.oc_routes.specs.Responses.{address_of, source_in, whole}
use Rattle.oc_routes.specs.Routes.{response_to}
use Rattle.oc_routes.specs.Seal.{seal_response}
use Rattle.oc_routes.specs.Selections.{content_here}
use Rattle.oc_routes.specs.Shown.{location_of, shown, told_text}
use Rattle.oc_routes.specs.declared.hint.Hint.{Hint}
use Rattle.oc_routes.specs.declared.holding.Holding.{Holding}
use Rattle.oc_routes.specs.declared.response.Response.{Response}
use Rattle.oc_routes.specs.declared.routes.Operation.{Operation}
use Rattle.oc_routes.specs.declared.routes.Operation.TheVariants.{Publish, Seal}
use Rattle.oc_routes.specs.declared.showing.Client.{Client}
use Rattle.oc_routes.specs.declared.showing.Shown.{Shown}

-- the reply by whether the node has an address
abbrev pub by_address : Bool → Response → Response → Response
by_address nowhere here there = if nowhere then here else there

-- the redirection of a client with this Location
abbrev there : Client → List ℕ → Response
there c location = whole (redirection location) c.last

pub kept_here : {M : Type 0} (r : Result Response M) (address : List ℕ) (c : Client) (h : Holding) → (length address == 0) ≡ true
    → IfOk r (λ (x : Response). x ≡ here_response c c.manner h) → IfOk r (λ (x : Response). x ≡ sent_response c address h)
kept_here (Ok x) address c h none is =
    is ∙ sym (ap (λ (b : Bool). by_address b (here_response c c.manner h) (there c (location_of address c.group c.start (told_text c.hint h) c.manner))) none)
kept_here (Err e) address c h none is = tt

-- the redirection with the Location that was made
pub sent_told : {M : Type 0} (r : Result Response M) (address : List ℕ) (c : Client) (h : Holding) (told location : List ℕ) → (length address == 0) ≡ false
    → told ≡ told_text c.hint h → location ≡ location_of address c.group c.start told c.manner
    → IfOk r (λ (x : Response). x ≡ whole (redirection location) c.last) → IfOk r (λ (x : Response). x ≡ sent_response c address h)
sent_told (Ok x) address c h told location has tells at is =
    is ∙ ap (λ (l : List ℕ). there c l) (at ∙ ap (λ (t : List ℕ). location_of address c.group c.start t c.manner) tells)
    ∙ sym (ap (λ (b : Bool). by_address b (here_response c c.manner h) (there c (location_of address c.group c.start (told_text c.hint h) c.manner))) has)
sent_told (Err e) address c h told location has tells at is = tt

-- a client that is shown a redirection
pub redirected : {M : Type 0} (r : Result Response M) (c : Client) (h : Holding) (addresses : List (Option (List ℕ))) (s : Shown) (node : ℕ) (address : List ℕ)
    → s.answer ≡ Redirect node → address ≡ address_of addresses node
    → IfOk r (λ (x : Response). x ≡ sent_response c address h) → IfOk r (λ (x : Response). x ≡ shown_response c s h addresses)
redirected (Ok x) c h addresses s node address sends at is =
    is
    ∙ ap (λ (a : List ℕ). sent_response c a h) at
    ∙ sym (ap (λ (a : Answer). client_response c a s.sealed s.length h addresses) sends)
redirected (Err e) c h addresses s node address sends at is = tt

pub published : {M : Type 0} (r : Result Response M) (operation : Operation) (hint : Hint) (selection : Selection) (last : Bool) (answer : Answer) (back : Option Message) (h : Holding) (addresses : List (Option (List ℕ))) (key : Option (List ℕ)) (report source group : List ℕ) (at : Option ℕ)
    → operation ≡ Publish group at → source ≡ source_in addresses
    → IfOk r (λ (x : Response). x ≡ publish_response answer source group last) → IfOk r (λ (x : Response). x ≡ response_to operation hint selection last answer back h addresses key report)
published (Ok x) operation hint selection last answer back h addresses key report source group at asks from is =
    is ∙ ap (λ (s : List ℕ). publish_response answer s group last) from ∙ sym (ap (λ (o : Operation). response_to o hint selection last answer back h addresses key report) asks)
published (Err e) operation hint selection last answer back h addresses key report source group at asks from is = tt

pub sealed : {M : Type 0} (r : Result Response M) (operation : Operation) (hint : Hint) (selection : Selection) (last : Bool) (answer : Answer) (back : Option Message) (h : Holding) (addresses : List (Option (List ℕ))) (key : Option (List ℕ)) (report source group : List ℕ) (at : Option ℕ)
    → operation ≡ Seal group at → source ≡ source_in addresses
    → IfOk r (λ (x : Response). x ≡ seal_response answer source group last) → IfOk r (λ (x : Response). x ≡ response_to operation hint selection last answer back h addresses key report)
sealed (Ok x) operation hint selection last answer back h addresses key report source group at asks from is =
    is ∙ ap (λ (s : List ℕ). seal_response answer s group last) from ∙ sym (ap (λ (o : Operation). response_to o hint selection last answer back h addresses key report) asks)
sealed (Err e) operation hint selection last answer back h addresses key report source group at asks from is = tt

-- The reply to a client by what it selected

abbrev ByContent : Selection → Type 0
ByContent selections.NotModified = ⊥
ByContent selections.PreconditionFailed = ⊥
ByContent selection = Unit {0}

-- a client that has the content is told so
pub known_selected : {M : Type 0} (r : Result Response M) (c : Client) (answer : Answer) (h : Holding) (addresses : List (Option (List ℕ))) (content : Content)
    → c.selection ≡ selections.NotModified → content ≡ content_here c.hint h c.start
    → IfOk r (λ (x : Response). x ≡ whole (known_reply content) c.last) → IfOk r (λ (x : Response). x ≡ group_response c answer h addresses)
known_selected (Ok x) c answer h addresses content knows at is =
    is ∙ ap (λ (k : Content). whole (known_reply k) c.last) at
    ∙ sym (ap (λ (s : Selection). selected_response c s answer h addresses) knows)
known_selected (Err e) c answer h addresses content knows at is = tt

by_content : (selection : Selection) (c : Client) (answer : Answer) (h : Holding) (addresses : List (Option (List ℕ))) → ByContent selection
    → selected_response c selection answer h addresses ≡ shown_response c (shown c.hint answer h c.start) h addresses
by_content selections.Whole c answer h addresses gives = refl
by_content (selections.Part start count) c answer h addresses gives = refl
by_content selections.NotModified c answer h addresses gives = absurd gives
by_content selections.PreconditionFailed c answer h addresses gives = absurd gives
by_content selections.Unsatisfiable c answer h addresses gives = refl

-- any other client that no condition refuses is given what it is shown
pub shown_selected : {M : Type 0} (r : Result Response M) (c : Client) (answer : Answer) (h : Holding) (addresses : List (Option (List ℕ))) (s : Shown) (selection : Selection)
    → c.selection ≡ selection → ByContent selection → s ≡ shown c.hint answer h c.start
    → IfOk r (λ (x : Response). x ≡ shown_response c s h addresses) → IfOk r (λ (x : Response). x ≡ group_response c answer h addresses)
shown_selected (Ok x) c answer h addresses s selection selects gives at is =
    is ∙ ap (λ (t : Shown). shown_response c t h addresses) at
    ∙ sym (ap (λ (y : Selection). selected_response c y answer h addresses) selects ∙ by_content selection c answer h addresses gives)
shown_selected (Err e) c answer h addresses s selection selects gives at is = tt

-- a client that selected a part is given the part
pub part_chosen : {M : Type 0} (r : Result Response M) (c : Client) (sealed : Bool) (all : ℕ) (content : Content) (start count : ℕ) → c.selection ≡ selections.Part start count
    → IfOk r (λ (x : Response). x ≡ part_served c content start count) → IfOk r (λ (x : Response). x ≡ chosen c c.selection sealed all content)
part_chosen (Ok x) c sealed all content start count selects is = is ∙ sym (ap (λ (s : Selection). chosen c s sealed all content) selects)
part_chosen (Err e) c sealed all content start count selects is = tt
