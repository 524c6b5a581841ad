-- A node as it is seen by its reports, and the facts about nodes by their ids.
use Rattle.std.specs.Prelude.{ℕ, zero, suc, ◌+◌, ◌-◌, Bool, false, not, ◌&&◌, ◌||◌, ◌==◌, if◌then◌else◌, Option, None, is_some, List, [], ◌∷◌, filter, map, option_map, string_bytes}
use Rattle.oc_base.specs.declared.shelf.Shelf.{Shelf}
use Rattle.oc_model.specs.Adopting.{is_acting}
use Rattle.oc_model.specs.Node.{Control}
use Rattle.oc_model.specs.Numbers.{at}
use Rattle.oc_model.specs.Table.{is_listed, newest}
use Rattle.oc_routes.specs.Tallies.{TallyView}
use Rattle.oc_routes.specs.declared.about.About.{About}
use Rattle.oc_routes.specs.declared.seen.Seen.{Seen}

-- the version of the program; its start, in seconds since 1970; and whether the configuration's file was refused when it was read last
pub record AboutView : Type 0 where
  pub version : List ℕ
  pub started : ℕ
  pub refused : Bool

abbrev pub about_of : About → AboutView
about_of a = record { version = a.version.now; started = a.started; refused = a.refused }

-- the control state of a node, its shelf, and the number of messages in its outbox; the greatest id that a node of its network can have; the
-- addresses and names of the nodes, by their ids, where they have one, and whether they are retired; the counts of its run; and the program
pub record Sight : Type 0 where
  pub node : Control
  pub shelf : List Shelf
  pub messages : ℕ
  pub ids : ℕ
  pub addresses : List (Option (List ℕ))
  pub names : List (Option (List ℕ))
  pub retired : List Bool
  pub tally : TallyView
  pub about : AboutView

abbrev pub sight_of : Seen → Sight
sight_of seen = record {
  node = seen.node.now.control;
  shelf = seen.shelf.now;
  messages = seen.messages;
  ids = seen.ids;
  addresses = map (option_map string_bytes) seen.directory.addresses.now;
  names = map (option_map string_bytes) seen.directory.names.now;
  retired = seen.directory.retired.now;
  tally = seen.tally.now;
  about = about_of seen.about;
}

-- One node

abbrev pub name_of : Sight → ℕ → Option (List ℕ)
name_of s x = at s.names x None

abbrev pub has_address : Sight → ℕ → Bool
has_address s x = is_some (at s.addresses x None)

abbrev pub has_row : Sight → ℕ → Bool
has_row s x = is_some (newest s.node.kept.table x)

-- the seconds since a node was heard of, where it was since the start
abbrev pub silence_of : Sight → ℕ → Option ℕ
silence_of s x = option_map (λ second. s.node.soft.clock - second) (at s.tally.heard x None)

-- whether a node is left out of the reports: it is retired, and not listed
abbrev pub is_left_out : Sight → ℕ → Bool → Bool
is_left_out s x listed = at s.retired x false && not listed

-- whether a node is listed, or is this one
abbrev pub is_here : Sight → ℕ → Bool
is_here s x = x == s.node.me || is_listed s.node.kept.table s.node.me x

-- All nodes

-- this many ids from x on
abbrev pub ids_from : ℕ → ℕ → List ℕ
ids_from x zero = []
ids_from x (suc count) = x ∷ ids_from (x + 1) count

-- the ids of the nodes for which this holds, ascending
abbrev pub ids_with : (ℕ → Bool) → Sight → List ℕ
ids_with holds s = filter holds (ids_from 1 s.ids)

-- the nodes in the metrics: those with an address or a row that are not left out
abbrev pub is_told : Sight → ℕ → Bool
is_told s x = (has_address s x || has_row s x) && not (is_left_out s x (is_here s x))

abbrev pub ids_told : Sight → List ℕ
ids_told s = ids_with (is_told s) s

-- the nodes that are missing at an acting node: others with an address and without a row
abbrev pub is_missing : Sight → ℕ → Bool
is_missing s x = not (x == s.node.me) && has_address s x && not (has_row s x)

abbrev pub missing : Sight → List ℕ
missing s = if is_acting s.node.kept.mode then ids_with (is_missing s) s else []
