-- The bytes that a client is given as chunks are there, where the answer is that of its step.
use Rattle.std.proofs.Common.{◌≡◌, ◌≤◌, ℕ, ◌+◌, ◌-◌, ◌^◌, Bool, true, false, Option, Some, None, List, length, refl, sym, ap, subst, ◌∙◌, arith}
use Rattle.std.specs.Prelude.{◌==◌, if◌then◌else◌, nat_le}
use Rattle.std.specs.Option.{option_map}
use Rattle.std.proofs.lemmas.Bool.{false≢true}
use Rattle.oc_base.specs.Groups.{bytes_of, group_of, or_empty, shelf, shelf_of}
use Rattle.oc_base.specs.Shelves.{line_of}
use Rattle.oc_base.specs.declared.group.Group.{Group}
use Rattle.oc_base.specs.declared.shelf.Shelf.{Shelf}
use Rattle.oc_model.proofs.Shelves.{line_of-shelf}
use Rattle.oc_model.specs.Node.{Node}
use Rattle.oc_model.specs.Plan.{Plan, begun as plan_begun}
use Rattle.oc_model.specs.Serving.{client_of, redirects, server_for}
use Rattle.oc_model.specs.Step.{kept_at, piece_of, plan, step}
use Rattle.oc_model.specs.declared.answer.Answer.{Answer}
use Rattle.oc_model.specs.declared.answer.Answer.TheVariants as answers
use Rattle.oc_model.specs.declared.input.Input.{Input}
use Rattle.oc_model.specs.declared.input.Input.TheVariants as inputs
use Rattle.oc_routes.specs.Contents.{begun}
use Rattle.oc_routes.specs.Shown.{here_answer, known_shown, location_of, of_shown, shown, told_text}
use Rattle.oc_routes.specs.Waits.{holding}
use Rattle.oc_routes.specs.declared.hint.Hint.{Hint}
use Rattle.oc_routes.specs.declared.hint.Hint.TheVariants.{Plain, Here, Of, Known}
use Rattle.oc_routes.specs.declared.holding.Holding.{Holding}
use Rattle.oc_routes.specs.Group.{chosen, client_response, given_response, here_response, is_chunked, past_reply, redirection, selected_response, selection_here, shown_response}
use Rattle.oc_routes.specs.Manners.{content_for}
use Rattle.oc_routes.specs.Responses.{address_of, whole, whole_for}
use Rattle.oc_routes.specs.Selections.{content_of, input_by, is_past}
use Rattle.oc_select.specs.declared.content.Content.{Content}
use Rattle.oc_select.specs.declared.selection.Selection.{Selection}
use Rattle.oc_select.specs.declared.selection.Selection.TheVariants as selections
use Rattle.oc_routes.specs.declared.manner.Manner.{Manner}
use Rattle.oc_routes.specs.declared.manner.Manner.TheVariants.{HeadAlone, Once, Follow}
use Rattle.oc_routes.specs.declared.routes.Operation.TheVariants as asks
use Rattle.oc_routes.proofs.Holdings.{held_is}
use Rattle.oc_deeds.specs.Deeds.{content_at}
use Rattle.oc_deeds.specs.Replying.{IsGivable, asked_of, client_content}

-- an answer serves no more than the node holds from there on
abbrev Serves : Answer → ℕ → ℕ → Type 0
Serves (answers.Serve count) held start = count ≤ held - start
Serves answer held start = Unit {0}

-- the bytes of a group that may still grow are there, where a client is shown its answer
abbrev ServesShown : Bool → Answer → ℕ → ℕ → Type 0
ServesShown true answer held start = Unit {0}
ServesShown false answer held start = Serves answer held start

shown_serves : (sealed : Bool) (answer : Answer) (held start : ℕ) → Serves answer held start → ServesShown sealed answer held start
shown_serves true answer held start h = tt
shown_serves false answer held start h = h

here_serves : (there sealed : Bool) (held start : ℕ) → ServesShown sealed (if there then answers.Serve (held - start) else answers.NoGroup) held start
here_serves true true held start = tt
here_serves true false held start = omega arith
here_serves false true held start = tt
here_serves false false held start = tt

of_serves : (told : ℕ) (answer : Answer) (sealed : Bool) (held start : ℕ) → Serves answer held start → ServesShown (of_shown told answer sealed held start).sealed (of_shown told answer sealed held start).answer held start
of_serves told answer true held start h = tt
of_serves told answers.Ok false held start h = tt
of_serves told answers.Ignored false held start h = tt
of_serves told answers.Gap false held start h = tt
of_serves told answers.NotSource false held start h = tt
of_serves told answers.NoGroup false held start h = tt
of_serves told answers.Groups false held start h = tt
of_serves told answers.TooLong false held start h = tt
of_serves told answers.Own false held start h = tt
of_serves told answers.Fixed false held start h = tt
of_serves told answers.Waiting false held start h = tt
of_serves told answers.Spent false held start h = tt
of_serves told answers.Sealed false held start h = tt
of_serves told (answers.Redirect node) false held start h = tt
of_serves told (answers.Serve count) false held start h = tt

known_serves : (answer : Answer) (sealed : Bool) (held start : ℕ) → Serves answer held start → ServesShown (known_shown answer sealed held).sealed (known_shown answer sealed held).answer held start
known_serves answers.Ok sealed held start h = shown_serves sealed answers.Ok held start h
known_serves answers.Ignored sealed held start h = shown_serves sealed answers.Ignored held start h
known_serves answers.Gap sealed held start h = shown_serves sealed answers.Gap held start h
known_serves answers.NotSource sealed held start h = shown_serves sealed answers.NotSource held start h
known_serves answers.NoGroup sealed held start h = omega arith
known_serves answers.Groups sealed held start h = shown_serves sealed answers.Groups held start h
known_serves answers.TooLong sealed held start h = shown_serves sealed answers.TooLong held start h
known_serves answers.Own sealed held start h = shown_serves sealed answers.Own held start h
known_serves answers.Fixed sealed held start h = shown_serves sealed answers.Fixed held start h
known_serves answers.Waiting sealed held start h = shown_serves sealed answers.Waiting held start h
known_serves answers.Spent sealed held start h = shown_serves sealed answers.Spent held start h
known_serves answers.Sealed sealed held start h = shown_serves sealed answers.Sealed held start h
known_serves (answers.Redirect node) sealed held start h = shown_serves sealed (answers.Redirect node) held start h
known_serves (answers.Serve count) sealed held start h = shown_serves sealed (answers.Serve count) held start h

all_serve : (hint : Hint) (answer : Answer) (h : Holding) (start : ℕ) → Serves answer h.held start → ServesShown (shown hint answer h start).sealed (shown hint answer h start).answer h.held start
all_serve Plain answer h start serves = shown_serves h.sealed answer h.held start serves
all_serve Here answer h start serves = here_serves h.there h.sealed h.held start
all_serve (Of length) answer h start serves = of_serves length answer h.sealed h.held start serves
all_serve Known answer h start serves = known_serves answer h.sealed h.held start serves

-- the bytes that are served as chunks are there
range_there : (group : List ℕ) (start count : ℕ) (chunked : Bool) (ks : List Group) → (chunked ≡ true → count ≤ length (bytes_of group ks) - start) → IsGivable (content_at group (Some (record { start = start; count = count; chunked = chunked }))) ks
range_there group start count chunked ks fits = by_test (nat_le (start + count) (2 ^ 64 - 1))
  where
    by_test : (b : Bool) → IsGivable (if b then Some (begun group (record { start = start; count = count; chunked = chunked })) else None) ks
    by_test true = λ is. let few = fits is in omega (arith, few)
    by_test false = tt

-- bytes that are not given as chunks need not be there
plain_there : (group : List ℕ) (manner : Manner) (start count : ℕ) (ks : List Group) → IsGivable (content_at group (content_for manner (record { start = start; count = count; chunked = false }))) ks
plain_there group HeadAlone start count ks = tt
plain_there group Once start count ks = range_there group start count false ks (λ (is : false ≡ true). absurd (false≢true is))
plain_there group Follow start count ks = range_there group start count false ks (λ (is : false ≡ true). absurd (false≢true is))

served_there : (group : List ℕ) (manner : Manner) (sealed : Bool) (start count : ℕ) (ks : List Group) → ServesShown sealed (answers.Serve count) (length (bytes_of group ks)) start
    → IsGivable (content_at group (content_for manner (record { start = start; count = count; chunked = is_chunked manner sealed }))) ks
served_there group HeadAlone sealed start count ks h = tt
served_there group Once sealed start count ks h = plain_there group Once start count ks
served_there group Follow true start count ks h = plain_there group Follow start count ks
served_there group Follow false start count ks h = range_there group start count true ks (λ is. h)

-- the bytes that a client is given are there, whatever it selected of them; a part is not given as chunks
chosen_there : (group : List ℕ) (start : ℕ) (manner : Manner) (hint : Hint) (what : Selection) (last : Bool) (sealed : Bool) (count : ℕ) (content : Content) (ks : List Group) → ServesShown sealed (answers.Serve count) (length (bytes_of group ks)) start
    → IsGivable (content_at group (chosen (record { group = group; start = start; manner = manner; hint = hint; selection = what; last = last }) what sealed count content).content) ks
chosen_there group start manner hint selections.Whole last sealed count content ks h = served_there group manner sealed start count ks h
chosen_there group start manner hint (selections.Part at size) last sealed count content ks h = plain_there group manner at size ks
chosen_there group start manner hint selections.NotModified last sealed count content ks h = served_there group manner sealed start count ks h
chosen_there group start manner hint selections.PreconditionFailed last sealed count content ks h = served_there group manner sealed start count ks h
chosen_there group start manner hint selections.Unsatisfiable last sealed count content ks h = tt

-- its start may be past the end of its group
past_or_served : (group : List ℕ) (start : ℕ) (manner : Manner) (hint : Hint) (what : Selection) (last : Bool) (sealed : Bool) (count : ℕ) (content : Content) (past : Bool) (h : Holding) (ks : List Group) → ServesShown sealed (answers.Serve count) (length (bytes_of group ks)) start
    → IsGivable (content_at group (if past then whole_for manner (past_reply h.held) last else chosen (record { group = group; start = start; manner = manner; hint = hint; selection = what; last = last }) what sealed count content).content) ks
past_or_served group start manner hint what last sealed count content true h ks serves = tt
past_or_served group start manner hint what last sealed count content false h ks serves = chosen_there group start manner hint what last sealed count content ks serves

-- the bytes given of those that are here, by any answer
given_there : (group : List ℕ) (start : ℕ) (manner : Manner) (hint : Hint) (what : Selection) (last : Bool) (answer : Answer) (sealed : Bool) (long : ℕ) (h : Holding) (ks : List Group) → ServesShown sealed answer (length (bytes_of group ks)) start
    → IsGivable (content_at group (given_response (record { group = group; start = start; manner = manner; hint = hint; selection = what; last = last }) answer sealed long h).content) ks
given_there group start manner hint what last answers.Ok sealed long h ks serves = tt
given_there group start manner hint what last answers.Ignored sealed long h ks serves = tt
given_there group start manner hint what last answers.Gap sealed long h ks serves = tt
given_there group start manner hint what last answers.NotSource sealed long h ks serves = tt
given_there group start manner hint what last answers.NoGroup sealed long h ks serves = tt
given_there group start manner hint what last answers.Groups sealed long h ks serves = tt
given_there group start manner hint what last answers.TooLong sealed long h ks serves = tt
given_there group start manner hint what last answers.Own sealed long h ks serves = tt
given_there group start manner hint what last answers.Fixed sealed long h ks serves = tt
given_there group start manner hint what last answers.Waiting sealed long h ks serves = tt
given_there group start manner hint what last answers.Spent sealed long h ks serves = tt
given_there group start manner hint what last answers.Sealed sealed long h ks serves = tt
given_there group start manner hint what last (answers.Redirect node) sealed long h ks serves = tt
given_there group start manner hint what last (answers.Serve count) sealed long h ks serves = past_or_served group start manner hint what last sealed count (content_of long sealed) (is_past start h) h ks serves

-- the bytes of a group that this node holds are there
abbrev HereServes : List ℕ → ℕ → Holding → List Group → Type 0
HereServes group start h ks = ServesShown h.sealed (here_answer h start) (length (bytes_of group ks)) start

-- a client that would be sent to a node without an address is given the bytes that are here
here_given : (group : List ℕ) (start : ℕ) (manner : Manner) (hint : Hint) (what : Selection) (last : Bool) (h : Holding) (ks : List Group) → HereServes group start h ks → IsGivable (content_at group (here_response (record { group = group; start = start; manner = manner; hint = hint; selection = what; last = last }) manner h).content) ks
here_given group start Follow hint what last h ks serves = tt
here_given group start HeadAlone hint what last h ks serves = given_there group start HeadAlone hint (selection_here hint h.sealed what) last (here_answer h start) h.sealed h.held h ks serves
here_given group start Once hint what last h ks serves = given_there group start Once hint (selection_here hint h.sealed what) last (here_answer h start) h.sealed h.held h ks serves

sent_or_here : (group : List ℕ) (start : ℕ) (manner : Manner) (hint : Hint) (what : Selection) (last : Bool) (address : List ℕ) (nowhere : Bool) (h : Holding) (ks : List Group) → HereServes group start h ks
    → IsGivable (content_at group (if nowhere then here_response (record { group = group; start = start; manner = manner; hint = hint; selection = what; last = last }) manner h else whole (redirection (location_of address group start (told_text hint h) manner)) last).content) ks
sent_or_here group start manner hint what last address true h ks serves = here_given group start manner hint what last h ks serves
sent_or_here group start manner hint what last address false h ks serves = tt

client_there : (group : List ℕ) (start : ℕ) (manner : Manner) (hint : Hint) (what : Selection) (last : Bool) (answer : Answer) (sealed : Bool) (long : ℕ) (h : Holding) (addresses : List (Option (List ℕ))) (ks : List Group) → ServesShown sealed answer (length (bytes_of group ks)) start
    → HereServes group start h ks → IsGivable (content_at group (client_response (record { group = group; start = start; manner = manner; hint = hint; selection = what; last = last }) answer sealed long h addresses).content) ks
client_there group start manner hint what last answers.Ok sealed long h addresses ks serves here = tt
client_there group start manner hint what last answers.Ignored sealed long h addresses ks serves here = tt
client_there group start manner hint what last answers.Gap sealed long h addresses ks serves here = tt
client_there group start manner hint what last answers.NotSource sealed long h addresses ks serves here = tt
client_there group start manner hint what last answers.NoGroup sealed long h addresses ks serves here = tt
client_there group start manner hint what last answers.Groups sealed long h addresses ks serves here = tt
client_there group start manner hint what last answers.TooLong sealed long h addresses ks serves here = tt
client_there group start manner hint what last answers.Own sealed long h addresses ks serves here = tt
client_there group start manner hint what last answers.Fixed sealed long h addresses ks serves here = tt
client_there group start manner hint what last answers.Waiting sealed long h addresses ks serves here = tt
client_there group start manner hint what last answers.Spent sealed long h addresses ks serves here = tt
client_there group start manner hint what last answers.Sealed sealed long h addresses ks serves here = tt
client_there group start manner hint what last (answers.Redirect node) sealed long h addresses ks serves here = sent_or_here group start manner hint what last (address_of addresses node) (length (address_of addresses node) == 0) h ks here
client_there group start manner hint what last (answers.Serve count) sealed long h addresses ks serves here = given_there group start manner hint what last (answers.Serve count) sealed long h ks serves

-- a client whose condition answers its request is given no content
selected_there : (group : List ℕ) (start : ℕ) (manner : Manner) (hint : Hint) (what : Selection) (last : Bool) (answer : Answer) (h : Holding) (addresses : List (Option (List ℕ))) (ks : List Group) → IsGivable (content_at group (shown_response (record { group = group; start = start; manner = manner; hint = hint; selection = what; last = last }) (shown hint answer h start) h addresses).content) ks
    → IsGivable (content_at group (selected_response (record { group = group; start = start; manner = manner; hint = hint; selection = what; last = last }) what answer h addresses).content) ks
selected_there group start manner hint selections.Whole last answer h addresses ks there = there
selected_there group start manner hint (selections.Part at size) last answer h addresses ks there = there
selected_there group start manner hint selections.NotModified last answer h addresses ks there = tt
selected_there group start manner hint selections.PreconditionFailed last answer h addresses ks there = tt
selected_there group start manner hint selections.Unsatisfiable last answer h addresses ks there = there

-- the reply to a client that is shown no more than is held
reply_there : (group : List ℕ) (area start : ℕ) (manner : Manner) (hint : Hint) (what : Selection) (last : Bool) (answer : Answer) (ks : List Group) (addresses : List (Option (List ℕ)))
    → ServesShown (shown hint answer (holding group (shelf ks)) start).sealed (shown hint answer (holding group (shelf ks)) start).answer (holding group (shelf ks)).held start
    → IsGivable (client_content (asked_of (asks.Client group area start manner) hint what) last answer ks addresses) ks
reply_there group area start manner hint what last answer ks addresses serves =
    let h = holding group (shelf ks) in
    selected_there group start manner hint what last answer h addresses ks
    (client_there group start manner hint what last (shown hint answer h start).answer (shown hint answer h start).sealed (shown hint answer h start).length h addresses ks
    (subst (λ (n : ℕ). ServesShown (shown hint answer h start).sealed (shown hint answer h start).answer n start) (held_is group ks) serves)
    (subst (λ (n : ℕ). ServesShown h.sealed (here_answer h start) n start) (held_is group ks) (here_serves h.there h.sealed h.held start)))

-- the bytes are there where the node answers itself
pub here_there : (answer : Answer) (ks : List Group) (group : List ℕ) (area start : ℕ) (manner : Manner) (what : Selection) (last : Bool) (addresses : List (Option (List ℕ))) → IsGivable (client_content (asked_of (asks.Client group area start manner) Here what) last answer ks addresses) ks
here_there answer ks group area start manner what last addresses =
    let h = holding group (shelf ks) in
    reply_there group area start manner Here what last answer ks addresses (here_serves h.there h.sealed h.held start)

-- no content is given where a condition answers
pub condition_there : (answer : Answer) (ks : List Group) (group : List ℕ) (area start : ℕ) (manner : Manner) (hint : Hint) (what : Selection) (last : Bool) (addresses : List (Option (List ℕ))) (input : Input) → None ≡ input_by what (Some input)
    → IsGivable (client_content (asked_of (asks.Client group area start manner) hint what) last answer ks addresses) ks
condition_there answer ks group area start manner hint selections.Whole last addresses input none = absurd (cc none)
condition_there answer ks group area start manner hint (selections.Part from size) last addresses input none = absurd (cc none)
condition_there answer ks group area start manner hint selections.NotModified last addresses input none = tt
condition_there answer ks group area start manner hint selections.PreconditionFailed last addresses input none = tt
condition_there answer ks group area start manner hint selections.Unsatisfiable last addresses input none = absurd (cc none)

-- a part is what is given of a content, as it is
pub part_given : (group : List ℕ) (area start at count served : ℕ) (last : Bool) (ks : List Group) (addresses : List (Option (List ℕ))) → is_past start (holding group (shelf ks)) ≡ false
    → client_content (asked_of (asks.Client group area start Once) Plain (selections.Part at count)) last (answers.Serve served) ks addresses ≡ content_at group (Some (record { start = at; count = count; chunked = false }))
part_given group area start at count served last ks addresses here =
    let h = holding group (shelf ks) in
    ap (λ (b : Bool). content_at group (if b then whole_for Once (past_reply h.held) last else chosen (record { group = group; start = start; manner = Once; hint = Plain; selection = selections.Part at count; last = last }) (selections.Part at count) h.sealed served (content_of h.held h.sealed)).content) here

-- Steps

redirects_serves : (k : Option ℕ) (o : Plan) (held start : ℕ) → Serves (redirects k o (held - start)).answer held start
redirects_serves None o held start = omega arith
redirects_serves (Some k) o held start = tt

client_serves : (found : Option Group) (o : Plan) (group : List ℕ) (area start : ℕ) → Serves (client_of (option_map shelf_of found) o area start).answer (length (or_empty group found).bytes) start
client_serves None o group area start = tt
client_serves (Some k) o group area start = redirects_serves (server_for o.node area) o (length k.bytes) start

redirects_keeps : (k : Option ℕ) (o : Plan) (count : ℕ) → (redirects k o count).keeps ≡ o.keeps
redirects_keeps None o count = refl
redirects_keeps (Some k) o count = refl

client_keeps : (found : Option Shelf) (o : Plan) (area start : ℕ) → (client_of found o area start).keeps ≡ o.keeps
client_keeps None o area start = refl
client_keeps (Some l) o area start = redirects_keeps (server_for o.node area) o (l.held - start)

step_serves : (n : Node) (area start : ℕ) (group : List ℕ) → Serves (step n (inputs.Client area start group)).answer (length (bytes_of group n.groups)) start
step_serves n area start group =
    subst (λ (line : Option Shelf). Serves (client_of line (plan_begun n.control) area start).answer (length (bytes_of group n.groups)) start) (sym (line_of-shelf group n.groups))
    (client_serves (group_of group n.groups) (plan_begun n.control) group area start)

groups_same : (n : Node) (area start : ℕ) (group : List ℕ) → (step n (inputs.Client area start group)).node.groups ≡ n.groups
groups_same n area start group =
    ap (λ (at : Option ℕ). kept_at at n.groups (piece_of (inputs.Client area start group)) (plan n.control (shelf n.groups) (inputs.Client area start group)).seals)
    (client_keeps (line_of group (shelf n.groups)) (plan_begun n.control) area start)

-- the bytes are there where the answer is that of the step
pub step_there : (n : Node) (group : List ℕ) (area start : ℕ) (manner : Manner) (hint : Hint) (what : Selection) (last : Bool) (addresses : List (Option (List ℕ)))
    → IsGivable (client_content (asked_of (asks.Client group area start manner) hint what) last (step n (inputs.Client area start group)).answer (step n (inputs.Client area start group)).node.groups addresses) (step n (inputs.Client area start group)).node.groups
step_there n group area start manner hint what last addresses =
    let o = step n (inputs.Client area start group) in
    let h = holding group (shelf o.node.groups) in
    let held : h.held ≡ length (bytes_of group n.groups) = held_is group o.node.groups ∙ ap (λ (ks : List Group). length (bytes_of group ks)) (groups_same n area start group) in
    reply_there group area start manner hint what last o.answer o.node.groups addresses
    (all_serve hint o.answer h start (subst (λ (count : ℕ). Serves o.answer count start) (sym held) (step_serves n area start group)))
