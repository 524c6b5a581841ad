-- Worked examples.
use Rattle.std.specs.Prelude.{◌≡◌, ℕ, ◌+◌, decimal, true, false, Bool, Option, Some, None, option_map, Result, Ok, Err, List, [], ◌∷◌, ◌++◌, length, codes}
use Rattle.oc_base.specs.declared.group.Group.{Group}
use Rattle.oc_link.specs.declared.event.Coming.TheVariants as comings
use Rattle.oc_http.specs.declared.framing.Persistence.{Persistence}
use Rattle.oc_http.specs.declared.framing.Persistence.TheVariants.{Close, Keep}
use Rattle.oc_http.specs.declared.head.Head.{Head}
use Rattle.oc_http.specs.declared.head.Method.{Method}
use Rattle.oc_http.specs.declared.head.Method.TheVariants as methods
use Rattle.oc_model.specs.declared.input.Input.TheVariants as inputs
use Rattle.oc_model.specs.declared.answer.Answer.{Answer}
use Rattle.oc_model.specs.declared.answer.Answer.TheVariants as answers
use Rattle.oc_model.specs.declared.message.Body.TheVariants as bodies
use Rattle.oc_model.specs.declared.message.Message.{Message}
use Rattle.oc_policy.specs.declared.rule.Rule.{Rule}
use Rattle.oc_routes.specs.Message.{message_response}
use Rattle.oc_routes.specs.Publish.{publish_response}
use Rattle.oc_routes.specs.Refusals.{refusing}
use Rattle.oc_routes.specs.Routes.{response_for}
use Rattle.oc_routes.specs.declared.routes.Operation.{Operation}
use Rattle.oc_routes.specs.declared.routes.Operation.TheVariants as asks
use Rattle.oc_routes.specs.declared.manner.Manner.{Manner}
use Rattle.oc_routes.specs.declared.manner.Manner.TheVariants.{HeadAlone, Once, Follow}
use Rattle.oc_routes.specs.declared.asker.Asker.TheVariants as askers
use Rattle.oc_routes.specs.declared.refused.Refused.{Refused}
use Rattle.oc_routes.specs.declared.refused.Refused.TheVariants as refusals
use Rattle.oc_routes.specs.declared.report.Report.TheVariants as reports
use Rattle.oc_routes.specs.declared.response.GroupRange.{GroupRange}
use Rattle.oc_routes.specs.declared.response.Response.{Response}
use Rattle.oc_routes.specs.Conditions.{unmet}
use Rattle.oc_select.specs.Values.{no_selectors}
use Rattle.oc_select.specs.declared.selection.Selection.{Selection}
use Rattle.oc_select.specs.declared.selection.Selection.TheVariants as selections
use Rattle.oc_select.specs.declared.selectors.Selectors.{Selectors}
use Rattle.oc_routes.specs.Examples.{closed, closes, lines, plain_text, rejoin_bytes, tells}
use Rattle.oc_routes.specs.Contents.{rest_after, owed, piece_of, piece_text}
use Rattle.oc_routes.specs.Hints.{asked_with_hint, hint_in}
use Rattle.oc_routes.specs.Selections.{line_of, settled}
use Rattle.oc_routes.specs.Shown.{location_of, told_text}
use Rattle.oc_routes.specs.Verdicts.{NodeTerms, arrival, after_head, refuse, terms_of, unfinished}
use Rattle.oc_routes.specs.Waits.{holding, is_due, is_to_wait, left_of, prospect}
use Rattle.oc_routes.specs.declared.content.UnderWay.{UnderWay}
use Rattle.oc_routes.specs.declared.hint.Asked.{Asked}
use Rattle.oc_routes.specs.declared.hint.Hint.{Hint}
use Rattle.oc_routes.specs.declared.hint.Hint.TheVariants as hints
use Rattle.oc_routes.specs.declared.holding.Holding.{Holding}
use Rattle.oc_routes.specs.declared.verdict.Refusal.{Refusal}
use Rattle.oc_routes.specs.declared.verdict.Request.{Request}
use Rattle.oc_routes.specs.declared.verdict.Verdict.{Verdict}
use Rattle.oc_routes.specs.declared.verdict.Verdict.TheVariants as verdicts
use Rattle.oc_routes.specs.declared.waiting.Prospect.TheVariants as prospects

-- the head of a request of version 1.1 with a body of this length
abbrev head : Method → List ℕ → List ℕ → ℕ → Head
head method path query length = record { method = method; path = Some path; query = query; length = length; expects = false; minor = 1; closes = false; has_authorization = false; authorization = None; mac = None; selectors = no_selectors }

-- node 1 of 3, without access rules
abbrev open_terms : NodeTerms
open_terms = terms_of 1 3 [] None

-- a request that came to node 1, with a head of 40 bytes, and these bytes after it
abbrev came_open : Head → List ℕ → ℕ → Verdict → Type 0
came_open head rest came verdict = after_head open_terms (arrival 7 1 false comings.Open) came head rest ≡ verdict

-- a publish of three bytes, of which two have come
abbrev cut_publish : Head
cut_publish = head methods.Post (codes "/a") [] 3

abbrev published : ℕ → Bool → Verdict
published count last = verdicts.Ask (record { count = count; asked = record { operation = asks.Publish (codes "/a") None; hint = hints.Plain; selection = selections.Whole }; line = record { is_get = false; has_start = false }; selectors = no_selectors; input = Some (inputs.Publish (codes "/a") (codes "abc")); last = last })

-- the terms in a network with this key, where it has one
abbrev keyed : Option (List ℕ) → NodeTerms
keyed key = terms_of 1 3 [] (option_map (λ k. record { key = k; accept = codes "old" ∷ [] }) key)

-- a message to node 1 from node 2: a rejoin of ask 7, whose bytes are `rejoin_bytes`
abbrev to_this_node : Message
to_this_node = record { from = 2; to = 1; body = bodies.Rejoin 7 }

-- a message is posted, with this MAC
abbrev posted : Option (List ℕ) → Head
posted mac = record (head methods.Post (codes "/!overcast") [] 17) { mac = mac }

-- a request that came: a head of 40 bytes and this body
abbrev judged_under : Option (List ℕ) → Head → List ℕ → Verdict → Type 0
judged_under key head body verdict = after_head (keyed key) (arrival 7 1 false comings.Open) (40 + length body) (record head { length = length body }) body ≡ verdict

abbrev read : Hint → Verdict
read hint = verdicts.Ask (record { count = 40; asked = record { operation = asks.Client (codes "/a") 0 0 Follow; hint = hint; selection = selections.Whole }; line = record { is_get = true; has_start = false }; selectors = no_selectors; input = Some (inputs.Client 0 0 (codes "/a")); last = false })

-- the verdicts on a connection
pub record AreJudged : Type 0 where
  pub waits : came_open cut_publish (codes "ab") 42 verdicts.Wait
  pub ended : after_head open_terms (arrival 7 1 false comings.Ended) 42 cut_publish (codes "ab") ≡ refuse askers.Client None refusals.Ended
  pub failed : after_head open_terms (arrival 7 1 false comings.Failed) 42 cut_publish (codes "ab") ≡ refuse askers.Client None refusals.Source
  pub whole : came_open cut_publish (codes "abc") 43 (published 43 false)
  pub more_behind : came_open cut_publish (codes "abcGET") 46 (published 43 false)
  pub whole_at_its_end : after_head open_terms (arrival 7 1 false comings.Ended) 43 cut_publish (codes "abc") ≡ published 43 false
  pub thousandth : after_head open_terms (arrival 7 1000 false comings.Open) 43 cut_publish (codes "abc") ≡ published 43 true
  pub permits : came_open (record cut_publish { expects = true }) (codes "abc") 43 verdicts.Permit
  pub permitted : after_head open_terms (arrival 7 1 true comings.Open) 43 (record cut_publish { expects = true }) (codes "abc") ≡ published 43 false
  pub refused_at_its_head : came_open (record (head methods.Post (codes "/%") [] 3) { expects = true }) [] 40 (refuse askers.Client None refusals.Path)
  pub sealed_with_a_body : came_open (head methods.Post (codes "/a") (codes "seal") 3) (codes "abc") 43 (refuse askers.Client (Some 43) refusals.Body)
  pub refused_at_the_last : after_head open_terms (arrival 7 1000 false comings.Open) 43 (head methods.Post (codes "/a") (codes "seal") 3) (codes "abc") ≡ refuse askers.Client None refusals.Body
  pub head_refused : came_open (head methods.Head (codes "/%") [] 0) [] 40 (refuse askers.HeadAlone (Some 40) refusals.Path)
  pub follows : came_open (head methods.Get (codes "/a") (codes "follow") 0) [] 40 (read hints.Plain)
  pub follows_known : came_open (head methods.Get (codes "/a") (codes "follow&known") 0) [] 40 (read hints.Known)
  pub here : came_open (head methods.Get (codes "/a") (codes "follow&here") 0) [] 40
      (verdicts.Ask (record { count = 40; asked = record { operation = asks.Client (codes "/a") 0 0 Follow; hint = hints.Here; selection = selections.Whole }; line = record { is_get = true; has_start = false }; selectors = no_selectors; input = None; last = false }))
  pub message : judged_under None (posted None) rejoin_bytes (verdicts.Ask (record { count = 57; asked = record { operation = asks.Message; hint = hints.Plain; selection = selections.Whole }; line = record { is_get = false; has_start = false }; selectors = no_selectors; input = Some (inputs.Delivered to_this_node); last = false }))
  pub mac_without_a_key : judged_under None (posted (Some (codes "0a"))) (0 ∷ []) (refuse askers.Node (Some 41) refusals.Message)
  pub no_mac : judged_under (Some (codes "key")) (posted None) rejoin_bytes (refuse askers.Node (Some 57) refusals.Mac)
  pub no_mac_of_no_message : judged_under (Some (codes "key")) (posted None) (0 ∷ []) (refuse askers.Node (Some 41) refusals.Mac)
  pub path_before_mac : judged_under (Some (codes "key")) (record (posted None) { method = methods.Get }) rejoin_bytes (refuse askers.Client None refusals.Path)
  pub part_before_mac : after_head (keyed (Some (codes "key"))) (arrival 7 1 false comings.Ended) 41 (record (posted None) { length = 2 }) (0 ∷ []) ≡ refuse askers.Client None refusals.Ended
  pub publish_needs_none : after_head (keyed (Some (codes "key"))) (arrival 7 1 false comings.Open) 43 cut_publish (codes "abc") ≡ published 43 false
  pub nothing_waits : unfinished comings.Open true ≡ verdicts.Wait
  pub nothing_ended : unfinished comings.Ended true ≡ verdicts.Leave
  pub nothing_failed : unfinished comings.Failed true ≡ refuse askers.Client None refusals.Source

abbrev asks_under : List Rule → Method → List ℕ → List ℕ → Result Asked Refused → Type 0
asks_under rules method path query wanted = asked_with_hint (head method path query 0) rules ≡ wanted

-- the hints of queries
pub record AreHinted : Type 0 where
  pub nothing : hint_in (codes "start=4&known=1&Here") ≡ Ok hints.Plain
  pub known : hint_in (codes "start=4&known") ≡ Ok hints.Known
  pub of_length : hint_in (codes "known&of=5") ≡ Ok (hints.Of 5)
  pub first_of : hint_in (codes "of=5&of=x") ≡ Ok (hints.Of 5)
  pub greatest : hint_in (codes "of=1099511627776") ≡ Ok (hints.Of 1099511627776)
  pub too_great : hint_in (codes "of=1099511627777") ≡ Err refusals.Query
  pub here_first : hint_in (codes "of=5&here&known") ≡ Ok hints.Here
  pub refused_with_here : hint_in (codes "here&of=") ≡ Err refusals.Query
  pub refused : asks_under [] methods.Get (codes "/a") (codes "of=x") (Err refusals.Query)
  pub refused_of_a_head : asks_under [] methods.Head (codes "/a") (codes "of=x") (Err refusals.Query)
  pub before_the_rules : asks_under closed methods.Get (codes "/a") (codes "of=x") (Err refusals.Query)
  pub denied : asks_under closed methods.Get (codes "/a") (codes "of=5") (Err (refusals.Denied 1 false))
  pub behind_the_path : asks_under [] methods.Get (codes "/%") (codes "of=x") (Err refusals.Path)
  pub not_of_a_post : asks_under [] methods.Post (codes "/a") (codes "of=x") (Ok (record { operation = asks.Publish (codes "/a") None; hint = hints.Plain; selection = selections.Whole }))
  pub not_of_a_denied_post : asks_under closed methods.Post (codes "/a") (codes "of=x") (Err (refusals.Denied 1 false))
  pub refused_of_a_report : asks_under [] methods.Get (codes "/!status") (codes "of=x") (Err refusals.Query)
  pub not_of_a_report : asks_under [] methods.Get (codes "/!status") (codes "of=5&here") (Ok (record { operation = asks.Report reports.Status Once; hint = hints.Plain; selection = selections.Whole }))
  pub not_of_a_probe : asks_under closed methods.Get (codes "/!probe") (codes "of=x") (Ok (record { operation = asks.Probe Once; hint = hints.Plain; selection = selections.Whole }))

-- a GET of 40 bytes with these fields, without a start in its query, that is not the last of its connection
abbrev asks_now : Operation → Hint → Selectors → Request
asks_now operation hint selectors = record {
  count = 40;
  asked = record { operation = operation; hint = hint; selection = selections.Whole };
  line = record { is_get = true; has_start = false };
  selectors = selectors;
  input = None;
  last = false;
}

-- the answer of the node `me` to a condition, where it has five bytes of group `/a`
abbrev says_of : Operation → ℕ → Option Refusal → Type 0
says_of operation me wanted = unmet (asks_now operation hints.Plain no_selectors) me (record { group = codes "/a"; held = 5; sealed = true } ∷ []) ≡ wanted

-- the conditions that are met, and those that are not
pub record AreConditions : Type 0 where
  pub met : says_of (asks.Publish (codes "/a") (Some 5)) 1 None
  pub shorter : says_of (asks.Publish (codes "/a") (Some 4)) 1 (Some (refusing (Some 40) (refusals.At 5)))
  pub longer : says_of (asks.Publish (codes "/a") (Some 6)) 1 (Some (refusing (Some 40) (refusals.At 5)))
  pub of_a_seal : says_of (asks.Seal (codes "/a") (Some 6)) 1 (Some (refusing (Some 40) (refusals.At 5)))
  pub none_said : says_of (asks.Seal (codes "/a") None) 1 None
  pub absent : says_of (asks.Publish (codes "/b") (Some 0)) 1 None
  pub absent_and_longer : says_of (asks.Seal (codes "/b") (Some 5)) 1 (Some (refusing (Some 40) (refusals.At 0)))
  pub elsewhere : says_of (asks.Publish (codes "/a") (Some 4)) 2 None

abbrev groups : List Group
groups = record { name = codes "/a"; bytes = codes "hello"; sealed = false } ∷ []

-- the content of group `/a` from one byte up to another
abbrev content : ℕ → ℕ → Bool → UnderWay
content at end chunked = record { group = codes "/a"; at = at; end = end; chunked = chunked }

abbrev first_piece : UnderWay → List ℕ
first_piece u = piece_text u (piece_of u groups)

abbrev after_piece : UnderWay → Option UnderWay
after_piece u = rest_after u (length (piece_of u groups))

-- the pieces of a content
pub record ArePieces : Type 0 where
  pub plain : first_piece (content 2 5 false) ≡ codes "llo"
  pub plain_is_whole : after_piece (content 2 5 false) ≡ None
  pub chunked : first_piece (content 0 5 true) ≡ codes "5\r\nhello\r\n0\r\n\r\n"
  pub none_chunked : first_piece (content 5 5 true) ≡ codes "0\r\n\r\n"
  pub none_chunked_is_whole : after_piece (content 5 5 true) ≡ None
  pub none_plain : first_piece (content 7 7 false) ≡ []
  pub told_longer : first_piece (content 2 9 false) ≡ codes "llo"
  pub told_longer_goes_on : after_piece (content 2 9 false) ≡ Some (content 5 9 false)
  pub told_behind_the_group : after_piece (content 7 9 false) ≡ Some (content 7 9 false)
  pub owed_behind : owed (Some (content 3 5 true)) groups ≡ codes "2\r\nlo\r\n0\r\n\r\n"

-- a group is held with this many bytes
abbrev holds : ℕ → Bool → Holding
holds held sealed = record { there = true; held = held; sealed = sealed }

abbrev holds_none : Holding
holds_none = record { there = false; held = 0; sealed = false }

abbrev client : ℕ → Manner → Operation
client start manner = asks.Client (codes "/a") 0 start manner

-- the requests that wait
pub record AreWaiting : Type 0 where
  pub held : holding (codes "/a") (record { group = codes "/"; held = 1; sealed = true } ∷ record { group = codes "/a"; held = 5; sealed = false } ∷ []) ≡ holds 5 false
  pub not_held : holding (codes "/a") (record { group = codes "/"; held = 1; sealed = true } ∷ []) ≡ holds_none
  pub gives : prospect (content 4 9 false) (holds 5 false) 40000 ≡ prospects.Gives
  pub waits : prospect (content 5 9 false) (holds 5 false) 29999 ≡ prospects.Waits
  pub waits_for_a_group : prospect (content 0 9 false) holds_none 0 ≡ prospects.Waits
  pub too_long : prospect (content 5 9 false) (holds 5 false) 30000 ≡ prospects.Breaks
  pub sealed_shorter : prospect (content 4 9 false) (holds 8 true) 0 ≡ prospects.Breaks
  pub sealed_whole : prospect (content 4 9 false) (holds 9 true) 0 ≡ prospects.Gives
  pub follower : is_to_wait (client 5 Follow) hints.Plain (answers.Serve 0) (holds 5 false) ≡ true
  pub follower_of_a_sealed_group : is_to_wait (client 5 Follow) hints.Plain (answers.Serve 0) (holds 5 true) ≡ false
  pub follower_behind : is_to_wait (client 4 Follow) hints.Plain (answers.Serve 1) (holds 5 false) ≡ false
  pub follower_sent_away : is_to_wait (client 5 Follow) hints.Known (answers.Redirect 2) (holds 5 false) ≡ false
  pub known : is_to_wait (client 0 Follow) hints.Known answers.NoGroup holds_none ≡ true
  pub unknown : is_to_wait (client 0 Follow) hints.Plain answers.NoGroup holds_none ≡ false
  pub told : is_to_wait (client 5 Follow) (hints.Of 9) (answers.Serve 0) (holds 5 false) ≡ false
  pub here : is_to_wait (client 5 Follow) hints.Here answers.NoGroup (holds 5 false) ≡ true
  pub here_without_a_group : is_to_wait (client 0 Follow) hints.Here answers.NoGroup holds_none ≡ false
  pub once : is_to_wait (client 5 Once) hints.Plain (answers.Serve 0) (holds 5 false) ≡ false
  pub early : is_due (record { group = codes "/a"; start = 5; since = 100 }) (holds 5 false) 10099 ≡ false
  pub grown : is_due (record { group = codes "/a"; start = 5; since = 100 }) (holds 6 false) 100 ≡ true
  pub sealed : is_due (record { group = codes "/a"; start = 5; since = 100 }) (holds 5 true) 100 ≡ true
  pub timed_out : is_due (record { group = codes "/a"; start = 5; since = 100 }) (holds 5 false) 10100 ≡ true
  pub time_left : left_of 10000 100 4100 ≡ 6000

-- a 200 that is given this content
abbrev gives : List (List ℕ) → Option GroupRange → Persistence → Response
gives more content connection = record {
  text = lines (codes "HTTP/1.1 200 OK" ∷ codes "Content-Type: application/octet-stream" ∷ more);
  content = content;
  connection = connection;
}

-- likewise of a content of this length, where the connection is kept
abbrev tagged : ℕ → List ℕ → Option GroupRange → Response
tagged length count content = gives ((codes "ETag: \"" ++ decimal length ++ codes "\"") ∷ codes "Accept-Ranges: bytes" ∷ count ∷ []) content Keep

abbrev from_to : ℕ → ℕ → Bool → Option GroupRange
from_to start count chunked = Some (record { start = start; count = count; chunked = chunked })

-- two nodes with an address, and one without
abbrev addresses : List (Option (List ℕ))
addresses = Some (codes "h:1") ∷ Some (codes "h:2") ∷ None ∷ []

abbrev missing : Response
missing = record { text = tells (codes "HTTP/1.1 404 Not Found") (plain_text ∷ []) (codes "there is no such group here: look at /-/status for the names of groups\n"); content = None; connection = Keep }

abbrev location_is : Hint → Holding → ℕ → Manner → List ℕ → Type 0
location_is hint h start manner wanted = location_of (codes "h:2") (codes "/a") start (told_text hint h) manner ≡ wanted

abbrev asks_with : Operation → Hint → Asked
asks_with operation hint = record { operation = operation; hint = hint; selection = selections.Whole }

-- a rejoin of ask 7 goes back to node 2
abbrev rejoin : Message
rejoin = record { from = 1; to = 2; body = bodies.Rejoin 7 }

-- the answer to a request, where this message goes back
abbrev answered_with : Operation → Answer → Option Message → Response → Type 0
answered_with operation answer back wanted = response_for (asks_with operation hints.Plain) false answer back holds_none addresses None [] ≡ wanted

-- the answer to a client with this hint
abbrev shows : Operation → Hint → Bool → Answer → Holding → Response
shows operation hint last answer h = response_for (asks_with operation hint) last answer None h addresses None []

-- the answers to a client, and to anyone
pub record AreShown : Type 0 where
  pub plain : shows (client 2 Once) hints.Plain false (answers.Serve 3) (holds 5 false) ≡ tagged 5 (codes "Content-Length: 3") (from_to 2 3 false)
  pub told : shows (client 2 Once) (hints.Of 9) false (answers.Serve 3) (holds 5 false) ≡ tagged 9 (codes "Content-Length: 7") (from_to 2 7 false)
  pub told_to_a_follower : shows (client 2 Follow) (hints.Of 9) false (answers.Serve 3) (holds 5 false) ≡ gives (codes "Content-Length: 7" ∷ []) (from_to 2 7 false) Keep
  pub told_and_sealed : shows (client 2 Once) (hints.Of 9) false (answers.Serve 3) (holds 5 true) ≡ tagged 5 (codes "Content-Length: 3") (from_to 2 3 false)
  pub told_and_not_held : shows (client 2 HeadAlone) (hints.Of 9) false answers.NoGroup holds_none ≡ tagged 9 (codes "Content-Length: 7") None
  pub told_before : shows (client 12 Once) (hints.Of 9) false (answers.Serve 0) (holds 5 false) ≡ tagged 9 (codes "Content-Length: 0") (from_to 12 0 false)
  pub known : shows (client 2 Once) hints.Known false answers.NoGroup holds_none ≡ tagged 0 (codes "Content-Length: 0") (from_to 2 0 false)
  pub known_to_a_follower : shows (client 0 Follow) hints.Known true answers.NoGroup holds_none ≡ gives (codes "Transfer-Encoding: chunked" ∷ closes ∷ []) (from_to 0 0 true) Close
  pub unknown : shows (client 2 Once) hints.Plain false answers.NoGroup holds_none ≡ missing
  pub here : shows (client 2 Once) hints.Here false answers.Ok (holds 5 false) ≡ tagged 5 (codes "Content-Length: 3") (from_to 2 3 false)
  pub not_here : shows (client 2 Once) hints.Here false answers.Ok holds_none ≡ missing
  pub sent : shows (client 2 Once) hints.Plain false (answers.Redirect 2) (holds 5 false)
      ≡ record { text = lines (codes "HTTP/1.1 302 Found" ∷ codes "Location: http://h:2/a?start=2&known" ∷ codes "Content-Length: 0" ∷ []); content = None; connection = Keep }
  pub nowhere : shows (client 2 Once) hints.Plain false (answers.Redirect 3) (holds 5 false) ≡ tagged 5 (codes "Content-Length: 3") (from_to 2 3 false)
  pub nowhere_to_a_follower : shows (client 2 Follow) hints.Plain false (answers.Redirect 3) (holds 5 false)
      ≡ record { text = tells (codes "HTTP/1.1 503 Service Unavailable") (plain_text ∷ []) (codes "the node that has more of this group has no address: ask again later, or ask another node\n"); content = None; connection = Keep }
  pub nowhere_and_not_here : shows (client 2 Once) hints.Plain false (answers.Redirect 3) holds_none ≡ missing
  pub sent_sealed : location_is hints.Plain (holds 5 true) 2 Once (codes "http://h:2/a?start=2&of=5")
  pub sent_sealed_here : location_is (hints.Of 9) (holds 5 true) 0 Follow (codes "http://h:2/a?of=5&follow")
  pub sent_told : location_is (hints.Of 9) (holds 5 false) 2 HeadAlone (codes "http://h:2/a?start=2&of=9")
  pub sent_known : location_is hints.Known holds_none 0 Once (codes "http://h:2/a?known")
  pub past_told : shows (client 10 Once) (hints.Of 9) false (answers.Serve 0) (holds 5 false) ≡ tagged 9 (codes "Content-Length: 0") (from_to 10 0 false)
  pub past_here : shows (client 6 HeadAlone) hints.Here false answers.Ok (holds 5 true)
      ≡ record { text = lines (codes "HTTP/1.1 416 Range Not Satisfiable" ∷ plain_text ∷ codes "Content-Range: bytes */5" ∷ codes "Content-Length: 64" ∷ []); content = None; connection = Keep }
  pub sent_following : location_is hints.Plain holds_none 7 Follow (codes "http://h:2/a?start=7&known&follow")
  pub reported : response_for (asks_with (asks.Report reports.Status Once) hints.Plain) false answers.Ok None holds_none addresses None (codes "{}")
      ≡ record { text = lines (codes "HTTP/1.1 200 OK" ∷ codes "Content-Type: application/json" ∷ codes "Content-Length: 2" ∷ []) ++ codes "{}"; content = None; connection = Keep }
  pub message : answered_with asks.Message answers.Ok (Some rejoin) (message_response None (Some rejoin) false)
  pub nothing_back : answered_with asks.Message answers.Ok None (message_response None None false)
  pub published : answered_with (asks.Publish (codes "/a") None) answers.TooLong (Some rejoin) (publish_response answers.TooLong (codes "h:1") (codes "/a") false)

-- the fields of a request that names this tag, and asks for this range
abbrev if_none_match : List ℕ → Selectors
if_none_match tag = record no_selectors { if_none_match = tag ∷ [] }

abbrev range : List ℕ → Selectors
range value = record no_selectors { range = value ∷ [] }

-- what a GET of group `/a` selects at a node that holds it so
abbrev selects_of : ℕ → Manner → Hint → Holding → Selectors → Selection → Type 0
selects_of start manner hint h selectors wanted = (settled (asks_now (client start manner) hint selectors) h).asked.selection ≡ wanted

-- what requests select
pub record AreSelected : Type 0 where
  pub whole : selects_of 0 Once hints.Plain (holds 9 true) no_selectors selections.Whole
  pub known : selects_of 0 Once hints.Plain (holds 9 true) (if_none_match (codes "\"9\"")) selections.NotModified
  pub known_open : selects_of 4 HeadAlone hints.Known (holds 9 false) (if_none_match (codes "W/\"9\"")) selections.NotModified
  pub known_before : selects_of 0 Once hints.Plain (holds 9 true) (if_none_match (codes "\"8\"")) selections.Whole
  pub told : selects_of 0 Once (hints.Of 12) (holds 9 false) (if_none_match (codes "\"12\"")) selections.NotModified
  pub told_and_not_held : selects_of 0 Once (hints.Of 12) holds_none (if_none_match (codes "\"12\"")) selections.NotModified
  pub told_and_sealed : selects_of 0 Once (hints.Of 12) (holds 9 true) (if_none_match (codes "\"9\"")) selections.NotModified
  pub not_held : selects_of 0 Once hints.Plain holds_none (if_none_match (codes "*")) selections.Whole
  pub past : selects_of 10 Once hints.Plain (holds 9 true) (if_none_match (codes "*")) selections.Whole
  pub followed : selects_of 0 Follow hints.Plain (holds 9 true) (if_none_match (codes "*")) selections.Whole
  pub changed : selects_of 0 Once hints.Here (holds 9 true) (record no_selectors { if_match = codes "\"8\"" ∷ [] }) selections.PreconditionFailed
  pub part : selects_of 0 Once hints.Plain (holds 9 true) (range (codes "bytes=2-6")) (selections.Part 2 5)
  pub part_of_the_length_told : selects_of 0 Once (hints.Of 12) (holds 9 false) (range (codes "bytes=-2")) (selections.Part 10 2)
  pub none : selects_of 0 Once hints.Plain (holds 9 false) (range (codes "bytes=9-")) selections.Unsatisfiable
  pub takes_no_input : (settled (record (asks_now (client 0 Once) hints.Plain (if_none_match (codes "*"))) { input = Some (inputs.Client 0 0 (codes "/a")) }) (holds 9 true)).input ≡ None
  pub takes_its_input : (settled (record (asks_now (client 0 Once) hints.Plain (range (codes "bytes=2-6"))) { input = Some (inputs.Client 0 0 (codes "/a")) }) (holds 9 true)).input ≡ Some (inputs.Client 0 0 (codes "/a"))
  pub start_counts : line_of (head methods.Get (codes "/a") (codes "x&start=2") 0) ≡ record { is_get = true; has_start = true }
  pub start_alone : line_of (head methods.Head (codes "/a") (codes "start") 0) ≡ record { is_get = false; has_start = true }
  pub no_start : line_of (head methods.Get (codes "/a") (codes "startx=2&of=3") 0) ≡ record { is_get = true; has_start = false }
  pub told_and_nowhere : response_for (record { operation = client 0 Once; hint = hints.Of 12; selection = selections.Part 10 2 }) false (answers.Redirect 3) None (holds 9 false) addresses None []
      ≡ tagged 9 (codes "Content-Length: 9") (from_to 0 9 false)
  pub part_told : response_for (record { operation = client 0 Once; hint = hints.Of 12; selection = selections.Part 10 2 }) false (answers.Serve 9) None (holds 9 false) addresses None []
      ≡ record {
        text = lines (codes "HTTP/1.1 206 Partial Content" ∷ codes "Content-Type: application/octet-stream" ∷ codes "Content-Range: bytes 10-11/12" ∷ codes "ETag: \"12\"" ∷ codes "Accept-Ranges: bytes" ∷ codes "Content-Length: 2" ∷ []);
        content = from_to 10 2 false;
        connection = Keep;
      }
