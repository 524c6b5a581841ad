-- The one spelling of each message. Numbers are big-endian.
use Rattle.std.specs.Prelude.{ℕ, ◌^◌, ◌<◌, Bool, true, false, nat_le, Option, Some, None, List, [], ◌∷◌, ◌++◌, length}
use Rattle.std.specs.List.{flat_map}
use Rattle.oc_base.specs.declared.cert.Cert.{Cert}
use Rattle.oc_base.specs.declared.cert.Child.{Child}
use Rattle.oc_base.specs.declared.rank.Rank.{Rank}
use Rattle.oc_base.specs.declared.refusal.Refusal.{Refusal}
use Rattle.oc_base.specs.declared.refusal.Refusal.TheVariants as refusals
use Rattle.oc_base.specs.declared.shelf.Shelf.{Shelf}
use Rattle.oc_base.specs.Spelling.{two, four, eight, flag, rank_bytes, cert_bytes, ids_bytes}
use Rattle.oc_model.specs.declared.message.Body.{Body}
use Rattle.oc_model.specs.declared.message.Body.TheVariants.{Look, LookIs, Ask, Yes, No, CheckIn, CheckAck, Rejoin, Fetch, Chunk}
use Rattle.oc_model.specs.declared.message.Message.{Message}

-- a parent's id, or 0 for none
abbrev pub parent_bytes : Option ℕ → List ℕ
parent_bytes None = four 0
parent_bytes (Some id) = four id

-- 1 and the rank, or 0 for none
abbrev pub rank_or_none_bytes : Option Rank → List ℕ
rank_or_none_bytes None = 0 ∷ []
rank_or_none_bytes (Some rank) = 1 ∷ rank_bytes rank

-- the code of a refusal
abbrev pub why_code : Refusal → ℕ
why_code refusals.Own = 1
why_code refusals.NotJoined = 2
why_code refusals.Ancestor = 3
why_code refusals.Depth = 4
why_code (refusals.Chain k) = 5
why_code refusals.Rank = 6

-- the node that a refusal names
abbrev pub why_fields : Refusal → List ℕ
why_fields (refusals.Chain k) = four k
why_fields why = []

-- the code of a refusal, and the node that it names
abbrev pub why_bytes : Refusal → List ℕ
why_bytes why = why_code why ∷ why_fields why

-- the id and the rate of a child
abbrev pub child_bytes : Child → List ℕ
child_bytes child = four child.id ++ eight child.rate

-- the count of children, and each of them
abbrev pub children_bytes : List Child → List ℕ
children_bytes children = two (length children) ++ flat_map child_bytes children

-- the count of certificates, and each of them
abbrev pub certs_bytes : List Cert → List ℕ
certs_bytes certs = length certs ∷ flat_map cert_bytes certs

-- the length of a name, and the name
abbrev pub name_bytes : List ℕ → List ℕ
name_bytes name = length name ∷ name

-- a group's name, the bytes held, and whether it is sealed
abbrev pub line_bytes : Shelf → List ℕ
line_bytes line = name_bytes line.group ++ eight line.held ++ flag line.sealed

-- the count of lines, and each of them
abbrev pub have_bytes : List Shelf → List ℕ
have_bytes have = length have ∷ flat_map line_bytes have

-- whether the length of a text takes more than two bytes
abbrev pub is_large : List ℕ → Bool
is_large text = nat_le (2 ^ 16) (length text)

-- the length of a text, in four bytes or in two
abbrev pub length_bytes : Bool → ℕ → List ℕ
length_bytes true n = four n
length_bytes false n = two n

-- the length of a text, and the text
abbrev pub text_bytes : List ℕ → List ℕ
text_bytes text = length_bytes (is_large text) (length text) ++ text

-- the code of a chunk, of many bytes or of few
abbrev pub chunk_code : Bool → ℕ
chunk_code true = 14
chunk_code false = 13

-- the code of a kind
abbrev pub code_of : Body → ℕ
code_of Look = 1
code_of (LookIs in_tree parent rate children) = 2
code_of (Ask seq rank) = 3
code_of (Yes seq rank ancestors) = 4
code_of (No seq why) = 5
code_of (CheckIn seq upto rate number clients certs) = 11
code_of (CheckAck seq upto rank ancestors) = 7
code_of (Rejoin seq) = 8
code_of (Fetch have) = 12
code_of (Chunk group start bytes last) = chunk_code (is_large bytes)

-- the fields of a body, one after the other
abbrev pub fields_bytes : Body → List ℕ
fields_bytes Look = []
fields_bytes (LookIs in_tree parent rate children) = flag in_tree ++ parent_bytes parent ++ eight rate ++ children_bytes children
fields_bytes (Ask seq rank) = eight seq ++ rank_or_none_bytes rank
fields_bytes (Yes seq rank ancestors) = eight seq ++ rank_bytes rank ++ ids_bytes ancestors
fields_bytes (No seq why) = eight seq ++ why_bytes why
fields_bytes (CheckIn seq upto rate number clients certs) = eight seq ++ eight upto ++ eight rate ++ eight number ++ eight clients ++ certs_bytes certs
fields_bytes (CheckAck seq upto rank ancestors) = eight seq ++ eight upto ++ rank_bytes rank ++ ids_bytes ancestors
fields_bytes (Rejoin seq) = eight seq
fields_bytes (Fetch have) = have_bytes have
fields_bytes (Chunk group start bytes last) = name_bytes group ++ eight start ++ flag last ++ text_bytes bytes

-- sender, receiver, the code of the kind, and the fields
abbrev pub spelling : Message → List ℕ
spelling m = four m.from ++ four m.to ++ code_of m.body ∷ fields_bytes m.body

-- whether a body is that of a chunk
abbrev pub brings_chunk : Body → Bool
brings_chunk (Chunk group start bytes last) = true
brings_chunk body = false

-- a body whose counts fit in their bytes
abbrev pub HasSpelling : Body → Type 0
HasSpelling (LookIs in_tree parent rate children) = length children < 2 ^ 16
HasSpelling (Yes seq rank ancestors) = length ancestors < 2 ^ 16
HasSpelling (CheckIn seq upto rate number clients certs) = length certs < 2 ^ 8
HasSpelling (CheckAck seq upto rank ancestors) = length ancestors < 2 ^ 16
HasSpelling (Fetch have) = length have < 2 ^ 8
HasSpelling (Chunk group start bytes last) = length bytes < 2 ^ 32
HasSpelling _ = Unit {0}
