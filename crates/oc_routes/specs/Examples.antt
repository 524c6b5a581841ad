-- Worked examples: the operations of requests, and their answers.
use Rattle.std.specs.Prelude.{◌≡◌, ℕ, true, false, Bool, Option, Some, None, Result, Ok, Err, List, [], ◌∷◌, ◌++◌, codes, decimal, length}
use Rattle.oc_http.specs.declared.framing.Persistence.TheVariants.{Close, Keep}
use Rattle.oc_http.specs.declared.head.Head.{Head}
use Rattle.oc_http.specs.declared.head.Method.{Method}
use Rattle.oc_http.specs.declared.head.Method.TheVariants as methods
use Rattle.oc_model.specs.declared.answer.Answer.{Answer}
use Rattle.oc_model.specs.declared.answer.Answer.TheVariants as answers
use Rattle.oc_model.specs.declared.input.Input.TheVariants as inputs
use Rattle.oc_model.specs.declared.message.Body.TheVariants as bodies
use Rattle.oc_model.specs.declared.message.Message.{Message}
use Rattle.oc_policy.specs.Keys.{mac_digits}
use Rattle.oc_policy.specs.declared.rule.Action.TheVariants.{Get, Post}
use Rattle.oc_policy.specs.declared.rule.Rule.{Rule}
use Rattle.oc_wire.specs.Spelling.{spelling}
use Rattle.oc_select.specs.Values.{no_selectors}
use Rattle.oc_select.specs.declared.selection.Selection.{Selection}
use Rattle.oc_select.specs.declared.selection.Selection.TheVariants as selections
use Rattle.oc_routes.specs.Connections.{is_last, awaits_continue, kept_after_head}
use Rattle.oc_routes.specs.Inputs.{input_line}
use Rattle.oc_routes.specs.Refusals.{refusal_line, refusal_text, refusing}
use Rattle.oc_routes.specs.Replies.{others, reply_to}
use Rattle.oc_routes.specs.Routes.{asked, input_asked, response_for}
use Rattle.oc_routes.specs.declared.hint.Hint.TheVariants.{Plain}
use Rattle.oc_routes.specs.declared.holding.Holding.{Holding}
use Rattle.oc_routes.specs.declared.routes.Operation.{Operation}
use Rattle.oc_routes.specs.declared.routes.Operation.TheVariants as operations
use Rattle.oc_routes.specs.declared.manner.Manner.{Manner}
use Rattle.oc_routes.specs.declared.manner.Manner.TheVariants.{HeadAlone, Once, Follow}
use Rattle.oc_routes.specs.declared.asker.Asker.TheVariants as askers
use Rattle.oc_routes.specs.declared.refused.Refused.{Refused}
use Rattle.oc_routes.specs.declared.refused.Refused.TheVariants as refusals
use Rattle.oc_routes.specs.declared.report.Report.{Report}
use Rattle.oc_routes.specs.declared.report.Report.TheVariants as reports
use Rattle.oc_routes.specs.declared.response.Response.{Response}

-- the head of a request of version 1.1 with no body
abbrev head : Method → List ℕ → List ℕ → Head
head method path query = record { method = method; path = Some path; query = query; length = 0; expects = false; minor = 1; closes = false; has_authorization = false; authorization = None; mac = None; selectors = no_selectors }

-- the operation of a request without access rules
abbrev asks_for : Method → List ℕ → List ℕ → Operation → Type 0
asks_for method path query wanted = asked (head method path query) [] ≡ Ok wanted

abbrev refuses : Method → List ℕ → List ℕ → Refused → Type 0
refuses method path query refused = asked (head method path query) [] ≡ Err refused

-- three rules: nobody in area 4 reads the news, everybody else does everything, and the last rule decides nothing
abbrev rules : List Rule
rules = record { allow = false; action = Some Get; prefix = codes "/news"; area = Some 4; token = None }
    ∷ record { allow = true; action = None; prefix = codes "/"; area = None; token = None }
    ∷ record { allow = false; action = Some Post; prefix = codes "/news/a"; area = None; token = None } ∷ []

abbrev under_rules : Method → List ℕ → List ℕ → Result Operation Refused → Type 0
under_rules method path query wanted = asked (head method path query) rules ≡ wanted

-- one rule: nobody reads or posts
abbrev pub closed : List Rule
closed = record { allow = false; action = None; prefix = codes "/"; area = None; token = None } ∷ []

-- a rule: paths within a prefix are allowed to those who show a token
abbrev with_token : List ℕ → Rule
with_token prefix = record { allow = true; action = None; prefix = prefix; area = None; token = Some (codes "secret") }

-- the operation where all is allowed to those who show a token, and to nobody else; an Authorization field is there
abbrev under_token : Option (List ℕ) → Method → List ℕ → Result Operation Refused
under_token shown method path =
    asked (record (head method path []) { has_authorization = true; authorization = shown }) (with_token (codes "/") ∷ closed)

-- the operation without such a field, where the paths within a prefix are allowed to those who show a token, and all else to nobody
abbrev without_token : List ℕ → Method → List ℕ → Result Operation Refused
without_token prefix method path = asked (head method path []) (with_token prefix ∷ closed)

pub record AreRouted : Type 0 where
  pub client : asks_for methods.Get (codes "/news/a") (codes "start=2") (operations.Client (codes "/news/a") 0 2 Once)
  pub head_alone : asks_for methods.Head (codes "/a") (codes "follow") (operations.Client (codes "/a") 0 0 HeadAlone)
  pub follows : asks_for methods.Get (codes "/a") (codes "start=0&follow") (operations.Client (codes "/a") 0 0 Follow)
  pub version_1_0_follows_nothing : asked (record (head methods.Get (codes "/a") (codes "follow")) { minor = 0 }) [] ≡ Ok (operations.Client (codes "/a") 0 0 Once)
  pub nearly_follow : asks_for methods.Get (codes "/a") (codes "follow=1&Follow") (operations.Client (codes "/a") 0 0 Once)
  pub first_start : asks_for methods.Get (codes "/a") (codes "x&start=1&start=y&area=255") (operations.Client (codes "/a") 255 1 Once)
  pub publish : asks_for methods.Post (codes "/a") (codes "follow") (operations.Publish (codes "/a") None)
  pub seal : asks_for methods.Post (codes "/a") (codes "x=1&seal") (operations.Seal (codes "/a") None)
  pub seal_of_a_get : asks_for methods.Get (codes "/a") (codes "seal") (operations.Client (codes "/a") 0 0 Once)
  pub condition : asks_for methods.Post (codes "/a") (codes "x&at=5&at=y") (operations.Publish (codes "/a") (Some 5))
  pub condition_of_a_seal : asks_for methods.Post (codes "/a") (codes "at=0&seal") (operations.Seal (codes "/a") (Some 0))
  pub greatest_condition : asks_for methods.Post (codes "/a") (codes "at=1099511627776") (operations.Publish (codes "/a") (Some 1099511627776))
  pub condition_too_great : refuses methods.Post (codes "/a") (codes "at=1099511627777") refusals.Query
  pub no_condition : refuses methods.Post (codes "/a") (codes "at=&at=5") refusals.Query
  pub condition_of_a_get : asks_for methods.Get (codes "/a") (codes "at=x") (operations.Client (codes "/a") 0 0 Once)
  pub condition_of_a_message : asks_for methods.Post (codes "/!overcast") (codes "at=x") operations.Message
  pub condition_before_rules : asked (head methods.Post (codes "/a") (codes "at=x")) closed ≡ Err refusals.Query
  pub message : asks_for methods.Post (codes "/!overcast") [] operations.Message
  pub probe : asks_for methods.Get (codes "/!probe") (codes "follow") (operations.Probe Follow)
  pub status : asks_for methods.Get (codes "/!status") (codes "x&area=4") (operations.Report reports.Status Once)
  pub metrics : asks_for methods.Head (codes "/!metrics") (codes "follow") (operations.Report reports.Metrics HeadAlone)
  pub page : asks_for methods.Get (codes "/!") (codes "follow") (operations.Report reports.Page Follow)
  pub named_status : asks_for methods.Get (codes "/-/status") (codes "x&area=4") (operations.Report reports.Status Once)
  pub named_metrics : asks_for methods.Head (codes "/-/metrics") [] (operations.Report reports.Metrics HeadAlone)
  pub named_page : asks_for methods.Get (codes "/-/") [] (operations.Report reports.Page Once)
  pub own : refuses methods.Get (codes "/-") [] refusals.Path
  pub own_below : refuses methods.Get (codes "/-/x") [] refusals.Path
  pub own_is_not_posted : refuses methods.Post (codes "/-/status") [] refusals.Path
  pub nearly_own : asks_for methods.Get (codes "/-x/a") [] (operations.Client (codes "/-x/a") 0 0 Once)
  pub broken_path : asked (record (head methods.Get [] (codes "start=x")) { path = None }) [] ≡ Err refusals.Path
  pub method_before_path : asked (record (head methods.Other [] []) { path = None }) [] ≡ Err refusals.Method
  pub status_is_not_posted : refuses methods.Post (codes "/!status") [] refusals.Path
  pub no_report : refuses methods.Get (codes "/!status/") [] refusals.Path
  pub query_of_a_report : refuses methods.Get (codes "/!metrics") (codes "start=x") refusals.Query
  pub report_denied : asked (head methods.Head (codes "/!status") []) closed ≡ Err (refusals.Denied 1 false)
  pub pages_alone : asked (head methods.Get (codes "/!metrics") []) (record { allow = false; action = None; prefix = codes "/-"; area = None; token = None } ∷ []) ≡ Err (refusals.Denied 1 false)
  pub page_alone : asked (head methods.Get (codes "/-/") []) (record { allow = false; action = None; prefix = codes "/-/status"; area = None; token = None } ∷ []) ≡ Ok (operations.Report reports.Page Once)
  pub report_of_an_area : under_rules methods.Get (codes "/!") (codes "area=4") (Ok (operations.Report reports.Page Once))
  pub token : under_token (Some (codes "Bearer secret")) methods.Get (codes "/a") ≡ Ok (operations.Client (codes "/a") 0 0 Once)
  pub token_of_a_report : under_token (Some (codes "Bearer secret")) methods.Get (codes "/!status") ≡ Ok (operations.Report reports.Status Once)
  pub two_tokens : under_token None methods.Get (codes "/!status") ≡ Err (refusals.Denied 2 false)
  pub another_token : under_token (Some (codes "Bearer secrets")) methods.Post (codes "/a") ≡ Err (refusals.Denied 2 false)
  pub another_scheme : under_token (Some (codes "bearer secret")) methods.Get (codes "/a") ≡ Err (refusals.Denied 2 false)
  pub no_token : without_token (codes "/a") methods.Post (codes "/a/b") ≡ Err (refusals.Denied 2 true)
  pub no_token_of_a_report : without_token (codes "/-") methods.Get (codes "/!status") ≡ Err (refusals.Denied 2 true)
  pub no_token_would_do : without_token (codes "/a") methods.Get (codes "/b") ≡ Err (refusals.Denied 2 false)
  pub put : refuses methods.Other (codes "/%") (codes "start=x") refusals.Method
  pub percent : refuses methods.Get (codes "/a%20") (codes "start=x") refusals.Path
  pub message_is_not_read : refuses methods.Get (codes "/!overcast") [] refusals.Path
  pub probe_is_not_posted : refuses methods.Post (codes "/!probe") [] refusals.Path
  pub no_number : refuses methods.Get (codes "/a") (codes "start=x") refusals.Query
  pub leading_zero : refuses methods.Get (codes "/a") (codes "start=01") refusals.Query
  pub first_start_counts : refuses methods.Get (codes "/a") (codes "start=&start=1") refusals.Query
  pub start_too_great : refuses methods.Get (codes "/a") (codes "start=1099511627777") refusals.Query
  pub area_too_great : refuses methods.Post (codes "/a") (codes "area=256") refusals.Query
  pub denied : under_rules methods.Get (codes "/news/a") (codes "area=4") (Err (refusals.Denied 1 false))
  pub head_is_denied : under_rules methods.Head (codes "/news") (codes "area=4&area=5") (Err (refusals.Denied 1 false))
  pub query_before_rules : under_rules methods.Get (codes "/news") (codes "area=4&start=x") (Err refusals.Query)
  pub newsroom : under_rules methods.Get (codes "/newsroom") (codes "area=4") (Ok (operations.Client (codes "/newsroom") 4 0 Once))
  pub news : under_rules methods.Get (codes "/news/a") [] (Ok (operations.Client (codes "/news/a") 0 0 Once))
  pub post_news : under_rules methods.Post (codes "/news/a") [] (Ok (operations.Publish (codes "/news/a") None))

-- a message to node 1 from node 2: a rejoin of ask 7
abbrev rejoin : Message
rejoin = record { from = 2; to = 1; body = bodies.Rejoin 7 }

abbrev pub rejoin_bytes : List ℕ
rejoin_bytes = 0 ∷ 0 ∷ 0 ∷ 2 ∷ 0 ∷ 0 ∷ 0 ∷ 1 ∷ 8 ∷ 0 ∷ 0 ∷ 0 ∷ 0 ∷ 0 ∷ 0 ∷ 0 ∷ 7 ∷ []

abbrev look_at : ℕ → Message
look_at peer = record { from = 1; to = peer; body = bodies.Look }

-- the head of a reply with these lines
abbrev pub lines : List (List ℕ) → List ℕ
lines [] = codes "\r\n"
lines (line ∷ more) = line ++ codes "\r\n" ++ lines more

abbrev pub closes : List ℕ
closes = codes "Connection: close"

abbrev octets : List ℕ
octets = codes "Content-Type: application/octet-stream"

-- the tag of the whole content, and that parts of it may be asked for
abbrev pub nine : List (List ℕ)
nine = codes "ETag: \"9\"" ∷ codes "Accept-Ranges: bytes" ∷ []

-- a reply of this status line whose body is a line, with these lines before the length
abbrev pub tells : List ℕ → List (List ℕ) → List ℕ → List ℕ
tells status more line = lines (status ∷ more ++ (codes "Content-Length: " ++ decimal (length line)) ∷ []) ++ line

-- the same reply where it ends the connection
abbrev pub says : List ℕ → List (List ℕ) → List ℕ → List ℕ
says status more line = lines (status ∷ more ++ (codes "Content-Length: " ++ decimal (length line)) ∷ closes ∷ []) ++ line

abbrev pub plain_text : List ℕ
plain_text = codes "Content-Type: text/plain; charset=utf-8"

-- a node's holding of a group
abbrev holds : ℕ → Bool → Holding
holds held sealed = record { there = true; held = held; sealed = sealed }

-- the answer to a request without a hint, where the node holds nine bytes of its group
abbrev answers_to : Operation → Answer → Bool → Bool → Option (List ℕ) → Response
answers_to wanted answer sealed last key =
    response_for (record { operation = wanted; hint = Plain; selection = selections.Whole }) last answer None (holds 9 sealed) (Some (codes "h:1") ∷ Some (codes "h:2") ∷ []) key []

abbrev answered : Operation → Answer → Bool → Bool → Response → Type 0
answered wanted answer sealed last response = answers_to wanted answer sealed last None ≡ response

-- the answer to a GET of group `/a` with this selection, where the node holds nine bytes of it
abbrev selects : Selection → Manner → Bool → Response
selects selection manner sealed =
    response_for (record { operation = operations.Client (codes "/a") 0 0 manner; hint = Plain; selection = selection }) false (answers.Serve 9) None (holds 9 sealed) [] None []

-- a whole reply after which the connection is kept
abbrev keeps : List ℕ → Response
keeps text = record { text = text; content = None; connection = Keep }

-- the answer to a request for a report
abbrev told : Report → Manner → Response → Type 0
told report manner response =
    response_for (record { operation = operations.Report report manner; hint = Plain; selection = selections.Whole }) false answers.Ok None (holds 0 false) [] None (codes "it") ≡ response

pub record AreAnswered : Type 0 where
  pub message : input_asked 3 1 operations.Message rejoin_bytes ≡ Ok (Some (inputs.Delivered rejoin))
  pub message_to_another : input_asked 3 2 operations.Message rejoin_bytes ≡ Err refusals.Message
  pub no_message : input_asked 3 1 operations.Message (0 ∷ 0 ∷ 0 ∷ []) ≡ Err refusals.Message
  pub seal_with_a_body : input_asked 3 1 (operations.Seal (codes "/a") None) (0 ∷ []) ≡ Err refusals.Body
  pub recv_line : input_line 1 (inputs.Delivered rejoin) ≡ codes "recv 1 0000000200000001080000000000000007\n"
  pub publish_line : input_line 1 (inputs.Publish (codes "/a") []) ≡ codes "publish 1 /a -\n"
  pub client_line : input_line 1 (inputs.Client 4 2 (codes "/a")) ≡ codes "client 1 4 2 /a\n"
  pub denied_line : refusal_line (refusals.Denied 12 false) ≡ codes "! denied 12\n"
  pub unauthorized_line : refusal_line (refusals.Denied 12 true) ≡ codes "! denied 12\n"
  pub at_line : refusal_line (refusals.At 1099511627776) ≡ codes "! at 1099511627776\n"
  pub mac_line : refusal_line refusals.Mac ≡ codes "! mac\n"
  pub at_reply : refusal_text (refusing None (refusals.At 325))
      ≡ Some (says (codes "HTTP/1.1 409 Conflict") (plain_text ∷ codes "Overcast-Length: 325" ∷ []) (codes "the group has 325 bytes: at=325 appends\n"))
  pub at_reply_of_a_byte : refusal_text (refusing None (refusals.At 1))
      ≡ Some (says (codes "HTTP/1.1 409 Conflict") (plain_text ∷ codes "Overcast-Length: 1" ∷ []) (codes "the group has 1 byte: at=1 appends\n"))
  pub mac_reply : refusal_text (refusing None refusals.Mac)
      ≡ Some (says (codes "HTTP/1.1 403 Forbidden") (plain_text ∷ []) (codes "the message has not the MAC of this network's key: give all nodes the same key\n"))
  pub denied_reply : refusal_text (refusing None (refusals.Denied 1 false))
      ≡ Some (says (codes "HTTP/1.1 403 Forbidden") (codes "Overcast-Rule: 1" ∷ plain_text ∷ []) (codes "access rule 1 denies this: ask who runs this node\n"))
  pub unauthorized_reply : refusal_text (refusing None (refusals.Denied 1 true))
      ≡ Some (says (codes "HTTP/1.1 401 Unauthorized") (codes "WWW-Authenticate: Bearer" ∷ codes "Overcast-Rule: 1" ∷ plain_text ∷ [])
      (codes "access rule 1 denies this without a token: send the field Authorization: Bearer TOKEN\n"))
  pub method_reply : refusal_text (refusing None refusals.Method)
      ≡ Some (says (codes "HTTP/1.1 405 Method Not Allowed") (codes "Allow: GET, HEAD, POST" ∷ plain_text ∷ []) (codes "there is no such method here: use GET, HEAD or POST\n"))
  pub head_reply : refusal_text (record { why = refusals.Host; asker = askers.HeadAlone; kept = None })
      ≡ Some (lines (codes "HTTP/1.1 400 Bad Request" ∷ plain_text ∷ codes "Content-Length: 48" ∷ closes ∷ []))
  pub kept_reply : refusal_text (refusing (Some 40) refusals.Body)
      ≡ Some (tells (codes "HTTP/1.1 400 Bad Request") (plain_text ∷ []) (codes "a request to seal has no body: publish first, then seal\n"))
  pub no_reply : refusal_text (refusing None refusals.Ended) ≡ None
  pub reply : reply_to (look_at 3 ∷ rejoin ∷ look_at 2 ∷ look_at 2 ∷ []) 2 ≡ Some (look_at 2)
  pub others : others (look_at 3 ∷ rejoin ∷ look_at 2 ∷ look_at 2 ∷ []) 2 ≡ look_at 3 ∷ rejoin ∷ look_at 2 ∷ []
  pub redirected : answered (operations.Client (codes "/a") 0 2 Once) (answers.Redirect 2) false false
      (record { text = lines (codes "HTTP/1.1 302 Found" ∷ codes "Location: http://h:2/a?start=2&known" ∷ codes "Content-Length: 0" ∷ []); content = None; connection = Keep })
  pub follower_redirected : answered (operations.Client (codes "/a") 0 0 Follow) (answers.Redirect 1) false false
      (record { text = lines (codes "HTTP/1.1 302 Found" ∷ codes "Location: http://h:1/a?known&follow" ∷ codes "Content-Length: 0" ∷ []); content = None; connection = Keep })
  pub redirected_of_a_sealed_group : answered (operations.Client (codes "/a") 0 0 Once) (answers.Redirect 2) true false
      (keeps (lines (codes "HTTP/1.1 302 Found" ∷ codes "Location: http://h:2/a?of=9" ∷ codes "Content-Length: 0" ∷ [])))
  pub past_its_end : answered (operations.Client (codes "/a") 0 10 Once) (answers.Serve 0) true false
      (keeps (tells (codes "HTTP/1.1 416 Range Not Satisfiable") (plain_text ∷ codes "Content-Range: bytes */9" ∷ []) (codes "the group has 9 bytes, and is sealed: start=9 is the last start\n")))
  pub head_past_its_end : answered (operations.Client (codes "/a") 0 10 HeadAlone) (answers.Serve 0) true false
      (keeps (lines (codes "HTTP/1.1 416 Range Not Satisfiable" ∷ plain_text ∷ codes "Content-Range: bytes */9" ∷ codes "Content-Length: 64" ∷ [])))
  pub at_its_end : answered (operations.Client (codes "/a") 0 9 Once) (answers.Serve 0) true false
      (record { text = lines (codes "HTTP/1.1 200 OK" ∷ octets ∷ nine ++ codes "Content-Length: 0" ∷ []); content = Some (record { start = 9; count = 0; chunked = false }); connection = Keep })
  pub past_the_end_of_an_open_group : answered (operations.Client (codes "/a") 0 10 Once) (answers.Serve 0) false false
      (record { text = lines (codes "HTTP/1.1 200 OK" ∷ octets ∷ nine ++ codes "Content-Length: 0" ∷ []); content = Some (record { start = 10; count = 0; chunked = false }); connection = Keep })
  pub not_the_source : answered (operations.Publish (codes "/a") None) answers.NotSource false false
      (keeps (tells (codes "HTTP/1.1 403 Forbidden") (plain_text ∷ []) (codes "this node is not the source: publish at the source, http://h:1/a\n")))
  pub no_address_of_the_source : response_for (record { operation = operations.Seal (codes "/a") None; hint = Plain; selection = selections.Whole }) false answers.NotSource None (holds 9 false) (None ∷ []) None []
      ≡ keeps (tells (codes "HTTP/1.1 403 Forbidden") (plain_text ∷ []) (codes "this node is not the source: seal at the source\n"))
  pub no_group_to_seal : answered (operations.Seal (codes "/a") None) answers.NoGroup false false
      (keeps (tells (codes "HTTP/1.1 404 Not Found") (plain_text ∷ []) (codes "there is no such group: publish it first\n")))
  pub served : answered (operations.Client (codes "/a") 0 2 Once) (answers.Serve 3) false false
      (record { text = lines (codes "HTTP/1.1 200 OK" ∷ octets ∷ nine ++ codes "Content-Length: 3" ∷ []); content = Some (record { start = 2; count = 3; chunked = false }); connection = Keep })
  pub head_alone : answered (operations.Client (codes "/a") 0 2 HeadAlone) (answers.Serve 3) false false
      (record { text = lines (codes "HTTP/1.1 200 OK" ∷ octets ∷ nine ++ codes "Content-Length: 3" ∷ []); content = None; connection = Keep })
  pub followed : answered (operations.Client (codes "/a") 0 0 Follow) (answers.Serve 2) false false
      (record { text = lines (codes "HTTP/1.1 200 OK" ∷ octets ∷ codes "Transfer-Encoding: chunked" ∷ []); content = Some (record { start = 0; count = 2; chunked = true }); connection = Keep })
  pub sealed : answered (operations.Client (codes "/a") 0 2 Follow) (answers.Serve 0) true false
      (record { text = lines (codes "HTTP/1.1 200 OK" ∷ octets ∷ codes "Content-Length: 0" ∷ []); content = Some (record { start = 2; count = 0; chunked = false }); connection = Keep })
  pub last_of_its_connection : answered (operations.Client (codes "/a") 0 0 Follow) (answers.Serve 2) false true
      (record { text = lines (codes "HTTP/1.1 200 OK" ∷ octets ∷ codes "Transfer-Encoding: chunked" ∷ closes ∷ []); content = Some (record { start = 0; count = 2; chunked = true }); connection = Close })
  pub not_held : answered (operations.Client (codes "/b") 0 0 Follow) answers.NoGroup false false
      (keeps (tells (codes "HTTP/1.1 404 Not Found") (plain_text ∷ []) (codes "there is no such group here: look at /-/status for the names of groups\n")))
  pub nothing_back : answered operations.Message answers.Ok false false
      (record { text = lines (codes "HTTP/1.1 204 No Content" ∷ []); content = None; connection = Keep })
  pub message_with_a_mac : response_for (record { operation = operations.Message; hint = Plain; selection = selections.Whole }) false answers.Ok (Some rejoin) (holds 0 false) [] (Some (codes "key")) []
      ≡ record { text = lines (codes "HTTP/1.1 200 OK" ∷ octets ∷ codes "Content-Length: 17" ∷ (codes "Overcast-Mac: " ++ mac_digits (codes "key") (spelling rejoin)) ∷ []) ++ spelling rejoin; content = None; connection = Keep }
  pub nothing_back_needs_none : answers_to operations.Message answers.Ok false false (Some (codes "key"))
      ≡ record { text = lines (codes "HTTP/1.1 204 No Content" ∷ []); content = None; connection = Keep }
  pub status : told reports.Status Once
      (record { text = lines (codes "HTTP/1.1 200 OK" ∷ codes "Content-Type: application/json" ∷ codes "Content-Length: 2" ∷ []) ++ codes "it"; content = None; connection = Keep })
  pub metrics_head : told reports.Metrics HeadAlone
      (record { text = lines (codes "HTTP/1.1 200 OK" ∷ codes "Content-Type: text/plain; version=0.0.4" ∷ codes "Content-Length: 2" ∷ []); content = None; connection = Keep })
  pub page_followed : told reports.Page Follow
      (record { text = lines (codes "HTTP/1.1 200 OK" ∷ codes "Content-Type: text/html; charset=utf-8" ∷ codes "Content-Length: 2" ∷ []) ++ codes "it"; content = None; connection = Keep })
  pub probe_head : answered (operations.Probe HeadAlone) answers.Ok false false
      (record { text = lines (codes "HTTP/1.1 200 OK" ∷ octets ∷ codes "Content-Length: 10240" ∷ []); content = None; connection = Keep })
  pub selected_whole : selects selections.Whole Once true
      ≡ record { text = lines (codes "HTTP/1.1 200 OK" ∷ octets ∷ nine ++ codes "Content-Length: 9" ∷ []); content = Some (record { start = 0; count = 9; chunked = false }); connection = Keep }
  pub selected_part : selects (selections.Part 2 5) Once true
      ≡ record { text = lines (codes "HTTP/1.1 206 Partial Content" ∷ octets ∷ codes "Content-Range: bytes 2-6/9" ∷ nine ++ codes "Content-Length: 5" ∷ []); content = Some (record { start = 2; count = 5; chunked = false }); connection = Keep }
  pub selected_part_of_an_open_group : selects (selections.Part 8 1) Once false
      ≡ record { text = lines (codes "HTTP/1.1 206 Partial Content" ∷ octets ∷ codes "Content-Range: bytes 8-8/*" ∷ nine ++ codes "Content-Length: 1" ∷ []); content = Some (record { start = 8; count = 1; chunked = false }); connection = Keep }
  pub selected_none : selects selections.Unsatisfiable Once false
      ≡ keeps (tells (codes "HTTP/1.1 416 Range Not Satisfiable") (plain_text ∷ codes "Content-Range: bytes */9" ∷ []) (codes "the group has 9 bytes, and none of them is in the range: ask for one that begins before its end\n"))
  pub known : selects selections.NotModified Once true ≡ keeps (lines (codes "HTTP/1.1 304 Not Modified" ∷ codes "ETag: \"9\"" ∷ []))
  pub known_to_a_head : selects selections.NotModified HeadAlone false ≡ keeps (lines (codes "HTTP/1.1 304 Not Modified" ∷ codes "ETag: \"9\"" ∷ []))
  pub refused_condition : selects selections.PreconditionFailed Once true
      ≡ keeps (tells (codes "HTTP/1.1 412 Precondition Failed") (plain_text ∷ []) (codes "the group is not what If-Match names: ask for it without this field\n"))
  pub refused_condition_of_a_head : selects selections.PreconditionFailed HeadAlone true
      ≡ keeps (lines (codes "HTTP/1.1 412 Precondition Failed" ∷ plain_text ∷ codes "Content-Length: 68" ∷ []))
  pub part_sent_on : response_for (record { operation = operations.Client (codes "/a") 0 0 Once; hint = Plain; selection = selections.Part 2 5 }) false (answers.Redirect 1) None (holds 9 true) (Some (codes "h:1") ∷ []) None []
      ≡ keeps (lines (codes "HTTP/1.1 302 Found" ∷ codes "Location: http://h:1/a?of=9" ∷ codes "Content-Length: 0" ∷ []))
  pub film : response_for (record { operation = operations.Client (codes "/a/b.MP4") 0 0 Follow; hint = Plain; selection = selections.Whole }) false (answers.Serve 9) None (holds 9 true) [] None []
      ≡ record { text = lines (codes "HTTP/1.1 200 OK" ∷ codes "Content-Type: video/mp4" ∷ codes "Content-Length: 9" ∷ []); content = Some (record { start = 0; count = 9; chunked = false }); connection = Keep }
  pub not_last : is_last (head methods.Get (codes "/a") []) 999 ≡ false
  pub thousandth : is_last (head methods.Get (codes "/a") []) 1000 ≡ true
  pub of_version_1_0 : is_last (record (head methods.Get (codes "/a") []) { minor = 0 }) 1 ≡ true
  pub closing : is_last (record (head methods.Get (codes "/a") []) { closes = true }) 1 ≡ true
  pub nothing_to_continue : awaits_continue (record (head methods.Post (codes "/a") []) { expects = true }) ≡ false
  pub kept_without_a_body : kept_after_head (head methods.Other (codes "/a") []) 3 40 ≡ Some 40
  pub closed_by_a_body : kept_after_head (record (head methods.Other (codes "/a") []) { length = 1 }) 3 40 ≡ None
  pub closed_by_the_last : kept_after_head (head methods.Other (codes "/a") []) 1000 40 ≡ None
