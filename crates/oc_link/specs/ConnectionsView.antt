-- Connections in memory, one after another, of which one may be current.
use Rattle.std.specs.Prelude.{ℕ, ◌≤◌, Option, None, Some, option_to_list, List, [], ◌∷◌, ◌++◌, length, take, drop, slice_index_or}
use Rattle.std.specs.Option.{option_map}
use Rattle.oc_link.specs.Connection.{Connection, unused}
use Rattle.oc_link.specs.declared.connections.ConnectionProgress.{ConnectionProgress}

-- the bytes of the waiting connections, the ended connections, the current one, and the number of bytes that may still be written
pub record ConnectionsView : Type 0 where
  pub waiting : List (List ℕ)
  pub past : List Connection
  pub current : Option Connection
  pub room : ℕ

-- a connection that gives these bytes, with its progress and the bytes written on it
abbrev pub connection_of : List ℕ → ConnectionProgress → List ℕ → Connection
connection_of bytes progress written = record {
  read = take progress.read bytes;
  left = drop progress.read bytes;
  written = written;
  failed = progress.failed;
}

-- the connections of these bytes, one by one
abbrev pub connections_of : List ConnectionProgress → List (List ℕ) → List (List ℕ) → List Connection
connections_of [] given strings = []
connections_of (progress ∷ connections) (bytes ∷ given) (string ∷ strings) = connection_of bytes progress string ∷ connections_of connections given strings
connections_of (progress ∷ connections) given strings = []

-- the number of current connections: one or none
abbrev pub count_of : Option ConnectionProgress → ℕ
count_of None = 0
count_of (Some progress) = 1

-- the string at an index, or an empty one past the end
abbrev pub at : List (List ℕ) → ℕ → List ℕ
at xs k = slice_index_or xs k []

-- the current connection, which comes after the ended ones
abbrev pub current_of : List (List ℕ) → ℕ → Option ConnectionProgress → List (List ℕ) → Option Connection
current_of given k progress strings = option_map (λ t. connection_of (at given k) t (at strings k)) progress

-- the progress of the current connection is within its bytes
abbrev pub IsWithinBytes : List ℕ → Option ConnectionProgress → Type 0
IsWithinBytes bytes None = Unit {0}
IsWithinBytes bytes (Some progress) = progress.read ≤ length bytes

-- the connections after the current one ended
abbrev pub ended : ConnectionsView → ConnectionsView
ended v = record v { past = v.past ++ option_to_list v.current; current = None }

-- the connections after the oldest waiting one became current
abbrev pub begun : ConnectionsView → ConnectionsView
begun v = record (ended v) { waiting = drop 1 v.waiting; current = Some (unused (at v.waiting 0)) }

-- the connection after this number of further bytes were read
abbrev pub further : ℕ → Connection → Connection
further n c = record c { read = c.read ++ take n c.left; left = drop n c.left }

-- the remaining bytes of a connection; none where there is no connection
abbrev pub left_of : Option Connection → List ℕ
left_of None = []
left_of (Some c) = c.left
