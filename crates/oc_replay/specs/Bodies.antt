use Rattle.std.specs.Prelude.{ℕ, ◌==◌, Bool, true, false, not, Option, Some, None, List, [], ◌∷◌, ◌++◌, codes, decimal}
use Rattle.std.specs.List.{flat_map}
use Rattle.oc_schedule.specs.Fields.{bytes_text}
use Rattle.oc_base.specs.declared.cert.Cert.{Cert}
use Rattle.oc_base.specs.declared.cert.Child.{Child}
use Rattle.oc_base.specs.declared.rank.Rank.{Rank}
use Rattle.oc_base.specs.declared.refusal.Refusal.{Refusal}
use Rattle.oc_base.specs.declared.refusal.Refusal.TheVariants as refusals
use Rattle.oc_base.specs.declared.shelf.Shelf.{Shelf}
use Rattle.oc_model.specs.declared.message.Body.{Body}
use Rattle.oc_model.specs.declared.message.Body.TheVariants as bodies

-- What messages say, as a report shows it.

-- a mark, if it is due
abbrev pub mark : Bool → List ℕ → List ℕ
mark true text = text
mark false text = []

-- the texts of a list's items in brackets, with a space between each two
abbrev pub spaced : {A : Type 0} → (A → List ℕ) → List A → List ℕ
spaced text [] = []
spaced text (x ∷ xs) = text x ++ flat_map (λ y. codes " " ++ text y) xs

abbrev pub list_text : {A : Type 0} → (A → List ℕ) → List A → List ℕ
list_text text xs = codes "[" ++ spaced text xs ++ codes "]"

-- `g@h`, and `!` where the group is sealed
abbrev pub pair_text : Shelf → List ℕ
pair_text line = line.group ++ codes "@" ++ decimal line.held ++ mark line.sealed (codes "!")

-- `c:r`
abbrev pub child_text : Child → List ℕ
child_text child = decimal child.id ++ codes ":" ++ decimal child.rate

-- the text `before` and `n:c`, unless the number n is 0
abbrev pub count_text : List ℕ → ℕ → ℕ → List ℕ
count_text before number clients = mark (not (number == 0)) (before ++ decimal number ++ codes ":" ++ decimal clients)

-- the sign of a certificate
abbrev pub sign_text : Bool → List ℕ
sign_text true = codes "-"
sign_text false = codes "+"

-- `x/s/y+` where it is alive and `x/s/y-` where it is dead, and `n:c`
abbrev pub cert_text : Cert → List ℕ
cert_text cert =
    decimal cert.subject ++ codes "/" ++ decimal cert.seq ++ codes "/" ++ decimal cert.parent ++ sign_text cert.dead ++ count_text [] cert.number cert.clients

-- `E.D`
abbrev pub rank_text : Rank → List ℕ
rank_text rank = decimal rank.epoch ++ codes "." ++ decimal rank.depth

-- a rank, and `-` where there is none
abbrev pub rank_or_dash : Option Rank → List ℕ
rank_or_dash None = codes "-"
rank_or_dash (Some rank) = rank_text rank

-- a node, and 0 where there is none
abbrev pub node_or_zero : Option ℕ → List ℕ
node_or_zero None = codes "0"
node_or_zero (Some node) = decimal node

abbrev pub why_text : Refusal → List ℕ
why_text refusals.Own = codes "own"
why_text refusals.NotJoined = codes "notjoined"
why_text refusals.Ancestor = codes "ancestor"
why_text refusals.Depth = codes "depth"
why_text (refusals.Chain k) = codes "chain " ++ decimal k
why_text refusals.Rank = codes "rank"

-- whether a node is in the tree
abbrev pub tree_text : Bool → List ℕ
tree_text true = codes "in"
tree_text false = codes "out"

-- the text of a message body
abbrev pub body_text : Body → List ℕ
body_text bodies.Look = codes "look"
body_text (bodies.LookIs in_tree parent rate children) =
    codes "lookis " ++ tree_text in_tree ++ codes " " ++ node_or_zero parent ++ codes " " ++ decimal rate ++ codes " " ++ list_text child_text children
body_text (bodies.Ask seq rank) = codes "ask " ++ decimal seq ++ codes " " ++ rank_or_dash rank
body_text (bodies.Yes seq rank ancestors) =
    codes "yes " ++ decimal seq ++ codes " " ++ rank_text rank ++ codes " " ++ list_text decimal ancestors
body_text (bodies.No seq why) = codes "no " ++ decimal seq ++ codes " " ++ why_text why
body_text (bodies.CheckIn seq upto rate number clients certs) =
    codes "checkin " ++ decimal seq ++ codes " " ++ decimal upto ++ codes " " ++ decimal rate ++ codes " " ++ list_text cert_text certs
    ++ count_text (codes " ") number clients
body_text (bodies.CheckAck seq upto rank ancestors) =
    codes "checkack " ++ decimal seq ++ codes " " ++ decimal upto ++ codes " " ++ rank_text rank ++ codes " " ++ list_text decimal ancestors
body_text (bodies.Rejoin seq) = codes "rejoin " ++ decimal seq
body_text (bodies.Fetch have) = codes "fetch " ++ list_text pair_text have
body_text (bodies.Chunk group start bytes last) =
    codes "chunk " ++ group ++ codes " " ++ decimal start ++ codes " " ++ bytes_text bytes ++ mark last (codes " last")
