-- The requests that are the last of their connections, the fate of connections, and the clients that wait for the permission to send the body.
use Rattle.std.specs.Prelude.{ℕ, Bool, true, false, not, ◌&&◌, ◌||◌, ◌==◌, nat_le, if◌then◌else◌, Option, Some, None}
use Rattle.oc_http.specs.declared.framing.Persistence.{Persistence}
use Rattle.oc_http.specs.declared.framing.Persistence.TheVariants.{Close, Keep}
use Rattle.oc_http.specs.declared.head.Head.{Head}
use Rattle.oc_routes.specs.declared.connections.TheConstants.{MAX_REQUESTS}

-- a request after which the client closes the connection, one of version 1.0, or the last that the connection may have; requests are counted from 1
abbrev pub is_last : Head → ℕ → Bool
is_last head number = head.closes || head.minor == 0 || nat_le MAX_REQUESTS number

-- the fate of a connection after a reply: it is kept, except after the last request
abbrev pub connection_for : Bool → Persistence
connection_for true = Close
connection_for false = Keep

-- the bytes of a request that was read whole and is refused, where the connection is kept; else it closes, whatever has come
abbrev pub kept_after : Bool → ℕ → Option ℕ
kept_after true count = None
kept_after false count = Some count

-- likewise of a request that its head refuses, which has this many bytes: a body is not read, and closes the connection
abbrev pub kept_after_head : Head → ℕ → ℕ → Option ℕ
kept_after_head head number count = if head.length == 0 then kept_after (is_last head number) count else None

-- a client that waits for the permission, with a body to send
abbrev pub awaits_continue : Head → Bool
awaits_continue head = head.expects && not (head.length == 0)
