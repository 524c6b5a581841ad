-- Connections of a dialler: the bytes that were read, those that are still to come, and those that were written.
use Rattle.std.specs.Prelude.{ℕ, Bool, true, false, List, [], ◌++◌}

-- a connection
pub record Connection : Type 0 where
  -- the bytes that were read from it
  pub read : List ℕ
  -- the bytes that it is still to give
  pub left : List ℕ
  -- the bytes that were written on it
  pub written : List ℕ
  -- whether a call on it failed
  pub failed : Bool

-- a connection before its first read and write
abbrev pub unused : List ℕ → Connection
unused bytes = record { read = []; left = bytes; written = []; failed = false }

-- the connection after these bytes were written
abbrev pub wrote : List ℕ → Connection → Connection
wrote bytes c = record c { written = c.written ++ bytes }

-- the connection after a call on it failed
abbrev pub broken : Connection → Connection
broken c = record c { failed = true }
