-- The parts of the replies of the routes.
use Rattle.std.specs.Prelude.{ℕ, ◌-◌, Bool, true, false, Option, Some, None, unwrap_or, List, [], slice_index_or}
use Rattle.oc_http.specs.Writing.{response_text}
use Rattle.oc_http.specs.declared.content_type.ContentType.{ContentType}
use Rattle.oc_http.specs.declared.content_type.ContentType.TheVariants.{Octets}
use Rattle.oc_http.specs.declared.reply.Reply.{Reply}
use Rattle.oc_routes.specs.Connections.{connection_for}
use Rattle.oc_routes.specs.Reasons.{bare, reply_text, telling}
use Rattle.oc_routes.specs.declared.manner.Manner.{Manner}
use Rattle.oc_routes.specs.declared.manner.Manner.TheVariants.{HeadAlone}
use Rattle.oc_routes.specs.declared.response.Response.{Response}

-- a whole reply; its connection is kept, except after the last request
abbrev pub whole : Reply → Bool → Response
whole reply last = record { text = response_text reply (connection_for last); content = None; connection = connection_for last }

-- a status alone
abbrev pub status_alone : ℕ → Bool → Response
status_alone status last = whole (bare status) last

-- the manner of a HEAD, which gets the head of a reply alone
abbrev pub is_head_alone : Manner → Bool
is_head_alone HeadAlone = true
is_head_alone manner = false

abbrev pub whole_for : Manner → Reply → Bool → Response
whole_for manner reply last = record { text = reply_text (is_head_alone manner) reply (connection_for last); content = None; connection = connection_for last }

-- a status of 400 or above, with its line
abbrev pub told : ℕ → List ℕ → Bool → Response
told status line last = whole (telling status line) last

-- a 200 with a body of this type
abbrev pub typed_as : ContentType → List ℕ → Reply
typed_as type body = record (bare 200) { content_type = Some type; body = body }

-- a 200 whose body is a message, or the content of a probe
abbrev pub typed : List ℕ → Reply
typed body = typed_as Octets body

-- the address of a node by its id; empty where it has none
abbrev pub address_of : List (Option (List ℕ)) → ℕ → List ℕ
address_of addresses node = unwrap_or (slice_index_or addresses (node - 1) None) []

-- the address of the source
abbrev pub source_in : List (Option (List ℕ)) → List ℕ
source_in addresses = address_of addresses 1
