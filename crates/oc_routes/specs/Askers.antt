-- The senders of requests that are refused.
use Rattle.std.specs.Prelude.{ℕ, Bool, true, false, ◌||◌, nat_eq, if◌then◌else◌, Option, Some, None, List, codes}
use Rattle.std.specs.List.{starts_with}
use Rattle.std.specs.Str.{bytes_eq}
use Rattle.oc_http.specs.Paths.{message_path}
use Rattle.oc_http.specs.Requests.{begins_with_head}
use Rattle.oc_http.specs.declared.head.Head.{Head}
use Rattle.oc_http.specs.declared.head.Method.{Method}
use Rattle.oc_http.specs.declared.head.Method.TheVariants as methods
use Rattle.oc_routes.specs.declared.asker.Asker.{Asker}
use Rattle.oc_routes.specs.declared.asker.Asker.TheVariants.{Client, HeadAlone, Node}

abbrev pub is_message_path : Option (List ℕ) → Bool
is_message_path None = false
is_message_path (Some path) = bytes_eq path message_path

abbrev pub asker_by : Method → Option (List ℕ) → Asker
asker_by methods.Head path = HeadAlone
asker_by methods.Post path = if is_message_path path then Node else Client
asker_by method path = Client

-- the sender of a request with this head
abbrev pub asker_of : Head → Asker
asker_of head = asker_by head.method head.path

-- the first bytes of a request in which a node posts a message
abbrev pub brings_message : List ℕ → Bool
brings_message bytes = starts_with nat_eq bytes (codes "POST /!overcast ") || starts_with nat_eq bytes (codes "POST /!overcast?")

-- the sender of a request that begins with these bytes, whatever fault its head has
abbrev pub asker_in : List ℕ → Asker
asker_in bytes = if begins_with_head bytes then HeadAlone else if brings_message bytes then Node else Client

-- a HEAD is answered without a body
abbrev pub gets_head_alone : Asker → Bool
gets_head_alone HeadAlone = true
gets_head_alone asker = false
