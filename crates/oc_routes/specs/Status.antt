-- The report of a node at `/!status`: one object of JSON, and a line's end.
use Rattle.std.specs.Prelude.{ℕ, Bool, true, false, not, Option, Some, None, List, ◌++◌, codes, decimal}
use Rattle.oc_base.specs.declared.cert.Cert.{Cert}
use Rattle.oc_base.specs.declared.rank.Rank.{Rank}
use Rattle.oc_base.specs.declared.shelf.Shelf.{Shelf}
use Rattle.oc_model.specs.declared.mode.Mode.{Mode}
use Rattle.oc_model.specs.declared.mode.Mode.TheVariants.{Idle, Asking, Joined, Acting}
use Rattle.oc_model.specs.Node.{Control}
use Rattle.oc_base.specs.declared.limits.TheConstants.{MAX_GROUPS}
use Rattle.oc_routes.specs.Json.{array_text, flag_text, number_text, or_null, quoted}
use Rattle.oc_routes.specs.Rows.{leased_of, rows_told}
use Rattle.oc_routes.specs.Sights.{AboutView, Sight, missing, name_of, silence_of}
use Rattle.oc_routes.specs.Tallies.{TallyView}
use Rattle.oc_routes.specs.declared.leased.Leased.{Leased}
use Rattle.oc_routes.specs.declared.rows.Row.{Row}

abbrev pub mode_word : Mode → List ℕ
mode_word Idle = codes "idle"
mode_word (Asking p) = codes "asking"
mode_word (Joined p) = codes "joined"
mode_word Acting = codes "acting"

-- the parent, or the node that is asked to be it
abbrev pub peer_of : Mode → Option ℕ
peer_of (Asking p) = Some p
peer_of (Joined p) = Some p
peer_of mode = None

-- `"E.D"`
abbrev pub rank_text : Rank → List ℕ
rank_text rank = quoted (decimal rank.epoch ++ codes "." ++ decimal rank.depth)

-- the id of the node, and its network
abbrev pub network_text : Sight → List ℕ
network_text s =
    codes "\"node\":" ++ number_text s.node.me
    ++ codes ",\"nodes\":" ++ number_text s.ids
    ++ codes ",\"chain\":" ++ number_text s.node.chain
    ++ codes ",\"chunk\":" ++ number_text s.node.chunk

-- the place of the node in the tree
abbrev pub place_text : Control → List ℕ
place_text n =
    codes ",\"mode\":" ++ quoted (mode_word n.kept.mode)
    ++ codes ",\"parent\":" ++ or_null number_text (peer_of n.kept.mode)
    ++ codes ",\"seq\":" ++ number_text n.kept.seq
    ++ codes ",\"rank\":" ++ or_null rank_text n.kept.rank

-- the clock of the node, its change log, its own number and count of clients
abbrev pub counts_text : Control → List ℕ
counts_text n =
    codes ",\"clock\":" ++ number_text n.soft.clock
    ++ codes ",\"log\":{\"length\":" ++ number_text n.kept.log.length
    ++ codes ",\"acked\":" ++ number_text n.kept.log.acked
    ++ codes "},\"number\":" ++ number_text n.kept.number
    ++ codes ",\"clients\":" ++ number_text n.kept.clients

-- the node's holding of a group
abbrev pub group_text : Shelf → List ℕ
group_text line =
    codes "{\"name\":" ++ quoted line.group
    ++ codes ",\"bytes\":" ++ number_text line.held
    ++ codes ",\"sealed\":" ++ flag_text line.sealed ++ codes "}"

-- the part of a certificate about its node: the ask and the parent where the node is, and whether it is up
unfoldable pub cert_text : Cert → List ℕ
cert_text cert =
    codes "{\"node\":" ++ number_text cert.subject
    ++ codes ",\"parent\":" ++ number_text cert.parent
    ++ codes ",\"seq\":" ++ number_text cert.seq
    ++ codes ",\"up\":" ++ flag_text (not cert.dead)

-- the part of a certificate that the node told: its own number and count of clients
unfoldable pub own_text : Cert → List ℕ
own_text cert =
    codes ",\"number\":" ++ number_text cert.number
    ++ codes ",\"clients\":" ++ number_text cert.clients

-- the name of a node, and the seconds since it was heard of
abbrev pub known_text : Sight → ℕ → List ℕ
known_text s x = codes ",\"name\":" ++ or_null quoted (name_of s x) ++ codes ",\"heard\":" ++ or_null number_text (silence_of s x)

-- a row of its table
abbrev pub row_text : Sight → Row → List ℕ
row_text s row = cert_text row.cert ++ own_text row.cert ++ known_text s row.cert.subject ++ codes ",\"listed\":" ++ flag_text row.listed ++ codes "}"

-- a leased child: the second at which its lease ends, where one is set, and the last rate that the child told
abbrev pub child_text : Leased → List ℕ
child_text leased =
    codes "{\"node\":" ++ number_text leased.child.id
    ++ codes ",\"lease\":" ++ or_null number_text leased.lease
    ++ codes ",\"rate\":" ++ number_text leased.child.rate ++ codes "}"

-- a node that is missing
abbrev pub missing_text : Sight → ℕ → List ℕ
missing_text s x = codes "{\"node\":" ++ number_text x ++ codes ",\"name\":" ++ or_null quoted (name_of s x) ++ codes "}"

-- `,"NAME":[..]`, a list of items with these texts
unfoldable pub list_text : {A : Type 0} → List ℕ → (A → List ℕ) → List A → List ℕ
list_text name text xs = codes ",\"" ++ name ++ codes "\":" ++ array_text text xs

-- the node's state: who it is, its place, its counts
unfoldable pub state_text : Sight → List ℕ
state_text s = network_text s ++ place_text s.node ++ counts_text s.node

-- the program, and its limit of groups
abbrev pub program_text : AboutView → List ℕ
program_text about =
    codes ",\"version\":" ++ quoted about.version
    ++ codes ",\"started\":" ++ number_text about.started
    ++ codes ",\"groups_limit\":" ++ number_text MAX_GROUPS

-- the counts of the run
abbrev pub tally_text : TallyView → List ℕ
tally_text t =
    codes ",\"served\":" ++ number_text t.served
    ++ codes ",\"sent\":" ++ number_text t.sent
    ++ codes ",\"refused\":{\"mac\":" ++ number_text t.macs
    ++ codes ",\"message\":" ++ number_text t.messages ++ codes "}"

-- the word for the configuration
abbrev pub configuration_word : Bool → List ℕ
configuration_word true = codes "refused"
configuration_word false = codes "good"

-- the end of the status: the node's own name, the missing nodes, the program, the counts of the run, and the configuration
unfoldable pub end_text : Sight → List ℕ → List ℕ
end_text s xs =
    codes ",\"name\":" ++ or_null quoted (name_of s s.node.me)
    ++ list_text (codes "missing") (missing_text s) xs
    ++ program_text s.about
    ++ tally_text s.tally
    ++ codes ",\"configuration\":" ++ quoted (configuration_word s.about.refused) ++ codes "}\n"

-- the status without its end: the state, the ancestors, the groups, these rows of the table, and these leased children
abbrev pub object_text : Sight → List Row → List Leased → List ℕ
object_text s rows leased =
    codes "{" ++ state_text s
    ++ list_text (codes "ancestors") number_text s.node.kept.ancestors
    ++ list_text (codes "groups") group_text s.shelf
    ++ list_text (codes "table") (row_text s) rows
    ++ list_text (codes "children") child_text leased

-- the status of a node that is seen so
abbrev pub status_text : Sight → List ℕ
status_text s = object_text s (rows_told s) (leased_of s.node) ++ end_text s (missing s)
