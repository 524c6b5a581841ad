-- The spelling of a message is bytes.
use Rattle.std.proofs.Common.{ℕ, zero, suc, ◌<◌, Bool, true, false, Option, Some, None, List, [], ◌∷◌, ◌++◌, length, arith}
use Rattle.std.specs.Int.{byte_at, bytes_high_first}
use Rattle.std.specs.List.{AllByRecursion, flat_map}
use Rattle.hex.specs.Hex.{IsBytes}
use Rattle.oc_base.proofs.Each.{all_append}
use Rattle.oc_base.specs.declared.cert.Cert.{Cert}
use Rattle.oc_base.specs.declared.cert.Child.{Child}
use Rattle.oc_base.specs.declared.rank.Rank.{Rank}
use Rattle.oc_base.specs.declared.refusal.Refusal.{Refusal}
use Rattle.oc_base.specs.declared.refusal.Refusal.TheVariants as refusals
use Rattle.oc_base.specs.declared.shelf.Shelf.{Shelf}
use Rattle.oc_base.specs.Names.{IsGroupName}
use Rattle.oc_base.specs.Shelves.{AreLines}
use Rattle.oc_base.specs.Spelling.{cert_bytes, eight, flag, four, ids_bytes, rank_bytes, two}
use Rattle.oc_model.specs.declared.message.Body.{Body}
use Rattle.oc_model.specs.declared.message.Body.TheVariants.{Look, LookIs, Ask, Yes, No, CheckIn, CheckAck, Rejoin, Fetch, Chunk}
use Rattle.oc_model.specs.declared.message.Message.{Message}
use Rattle.oc_model.specs.Lawful.{IsBody, IsMessage}
use Rattle.oc_deeds.specs.Within.{HasBytes}
use Rattle.oc_wire.specs.Spelling.{certs_bytes, child_bytes, children_bytes, chunk_code, code_of, fields_bytes, is_large, length_bytes, line_bytes, name_bytes, parent_bytes, rank_or_none_bytes, spelling, text_bytes, why_bytes}
use Rattle.oc_laws_records.proofs.Clear.{name_short, name_small}

abbrev AreBytes : List ℕ → Type 0
AreBytes bytes = AllByRecursion (λ b. b < 256) bytes

-- Bytes, one by one

each_is : (bs : List ℕ) → AreBytes bs → IsBytes bs
each_is [] all i = omega arith
each_is (b ∷ bs) all zero = all.0
each_is (b ∷ bs) all (suc i) = each_is bs all.1 i

are_each : (bs : List ℕ) → IsBytes bs → AreBytes bs
are_each [] bytes = tt
are_each (b ∷ bs) bytes = (bytes 0, are_each bs (λ i. bytes (suc i)))

both_are : (a c : List ℕ) → AreBytes a → AreBytes c → AreBytes (a ++ c)
both_are a c first second = all_append (λ b. b < 256) a c first second

each_of : {X : Type 0} (text : X → List ℕ) → ((x : X) → AreBytes (text x)) → (xs : List X) → AreBytes (flat_map text xs)
each_of text one [] = tt
each_of text one (x ∷ xs) = both_are (text x) (flat_map text xs) (one x) (each_of text one xs)

-- Fields

byte_small : (i n : ℕ) → byte_at i n < 256
byte_small zero n = omega arith
byte_small (suc i) n = omega arith

high_first : (k n : ℕ) → AreBytes (bytes_high_first k n)
high_first zero n = tt
high_first (suc k) n = (byte_small k n, high_first k n)

two_are : (n : ℕ) → AreBytes (two n)
two_are n = high_first 2 n

four_are : (n : ℕ) → AreBytes (four n)
four_are n = high_first 4 n

eight_are : (n : ℕ) → AreBytes (eight n)
eight_are n = high_first 8 n

flag_is : (b : Bool) → AreBytes (flag b)
flag_is true = (omega arith, tt)
flag_is false = (omega arith, tt)

rank_are : (r : Rank) → AreBytes (rank_bytes r)
rank_are r = both_are (eight r.epoch) (four r.depth) (eight_are r.epoch) (four_are r.depth)

cert_are : (c : Cert) → AreBytes (cert_bytes c)
cert_are c =
    let lease : List ℕ = four c.subject ++ eight c.seq ++ four c.parent ++ flag c.dead in
    both_are lease (eight c.number ++ eight c.clients)
    (both_are (four c.subject) (eight c.seq ++ four c.parent ++ flag c.dead) (four_are c.subject)
    (both_are (eight c.seq) (four c.parent ++ flag c.dead) (eight_are c.seq)
    (both_are (four c.parent) (flag c.dead) (four_are c.parent) (flag_is c.dead))))
    (both_are (eight c.number) (eight c.clients) (eight_are c.number) (eight_are c.clients))

ids_are : (xs : List ℕ) → AreBytes (ids_bytes xs)
ids_are xs = both_are (two (length xs)) (flat_map four xs) (two_are (length xs)) (each_of four four_are xs)

parent_are : (o : Option ℕ) → AreBytes (parent_bytes o)
parent_are None = four_are 0
parent_are (Some id) = four_are id

rank_or_none_are : (o : Option Rank) → AreBytes (rank_or_none_bytes o)
rank_or_none_are None = (omega arith, tt)
rank_or_none_are (Some r) = (omega arith, rank_are r)

why_are : (why : Refusal) → AreBytes (why_bytes why)
why_are refusals.Own = (omega arith, tt)
why_are refusals.NotJoined = (omega arith, tt)
why_are refusals.Ancestor = (omega arith, tt)
why_are refusals.Depth = (omega arith, tt)
why_are (refusals.Chain k) = (omega arith, four_are k)
why_are refusals.Rank = (omega arith, tt)

child_are : (c : Child) → AreBytes (child_bytes c)
child_are c = both_are (four c.id) (eight c.rate) (four_are c.id) (eight_are c.rate)

children_are : (cs : List Child) → AreBytes (children_bytes cs)
children_are cs = both_are (two (length cs)) (flat_map child_bytes cs) (two_are (length cs)) (each_of child_bytes child_are cs)

-- Names, shelves and texts

name_are : (name : List ℕ) → IsGroupName name → AreBytes (name_bytes name)
name_are name is = (omega (arith, name_short name is), name_small name is)

line_are : (l : Shelf) → IsGroupName l.group → AreBytes (line_bytes l)
line_are l name =
    both_are (name_bytes l.group ++ eight l.held) (flag l.sealed) (both_are (name_bytes l.group) (eight l.held) (name_are l.group name) (eight_are l.held)) (flag_is l.sealed)

lines_are : (ls : List Shelf) → AreLines ls → AreBytes (flat_map line_bytes ls)
lines_are [] lines = tt
lines_are (l ∷ ls) lines = both_are (line_bytes l) (flat_map line_bytes ls) (line_are l lines.0.0) (lines_are ls lines.2)

length_are : (large : Bool) (n : ℕ) → AreBytes (length_bytes large n)
length_are true n = four_are n
length_are false n = two_are n

chunk_is : (large : Bool) → chunk_code large < 256
chunk_is true = omega arith
chunk_is false = omega arith

-- Messages

code_is : (b : Body) → code_of b < 256
code_is Look = omega arith
code_is (LookIs in_tree parent rate children) = omega arith
code_is (Ask seq rank) = omega arith
code_is (Yes seq rank ancestors) = omega arith
code_is (No seq why) = omega arith
code_is (CheckIn seq upto rate number clients certs) = omega arith
code_is (CheckAck seq upto rank ancestors) = omega arith
code_is (Rejoin seq) = omega arith
code_is (Fetch have) = omega arith
code_is (Chunk group start bytes last) = chunk_is (is_large bytes)

fields_are : (nodes : ℕ) (b : Body) → IsBody nodes b → HasBytes b → AreBytes (fields_bytes b)
fields_are nodes Look is bytes = tt
fields_are nodes (LookIs in_tree parent rate children) is bytes =
    both_are (flag in_tree ++ parent_bytes parent ++ eight rate) (children_bytes children)
    (both_are (flag in_tree ++ parent_bytes parent) (eight rate) (both_are (flag in_tree) (parent_bytes parent) (flag_is in_tree) (parent_are parent)) (eight_are rate))
    (children_are children)
fields_are nodes (Ask seq rank) is bytes = both_are (eight seq) (rank_or_none_bytes rank) (eight_are seq) (rank_or_none_are rank)
fields_are nodes (Yes seq rank ancestors) is bytes =
    both_are (eight seq) (rank_bytes rank ++ ids_bytes ancestors) (eight_are seq) (both_are (rank_bytes rank) (ids_bytes ancestors) (rank_are rank) (ids_are ancestors))
fields_are nodes (No seq why) is bytes = both_are (eight seq) (why_bytes why) (eight_are seq) (why_are why)
fields_are nodes (CheckIn seq upto rate number clients certs) is bytes =
    both_are (eight seq) (eight upto ++ eight rate ++ eight number ++ eight clients ++ certs_bytes certs) (eight_are seq)
    (both_are (eight upto) (eight rate ++ eight number ++ eight clients ++ certs_bytes certs) (eight_are upto)
    (both_are (eight rate) (eight number ++ eight clients ++ certs_bytes certs) (eight_are rate)
    (both_are (eight number) (eight clients ++ certs_bytes certs) (eight_are number)
    (both_are (eight clients) (certs_bytes certs) (eight_are clients) (omega (arith, few), each_of cert_bytes cert_are certs)))))
  where
    few : length certs < 256
    few = let most = is.6 in omega (arith, most)
fields_are nodes (CheckAck seq upto rank ancestors) is bytes =
    both_are (eight seq) (eight upto ++ rank_bytes rank ++ ids_bytes ancestors) (eight_are seq)
    (both_are (eight upto) (rank_bytes rank ++ ids_bytes ancestors) (eight_are upto) (both_are (rank_bytes rank) (ids_bytes ancestors) (rank_are rank) (ids_are ancestors)))
fields_are nodes (Rejoin seq) is bytes = eight_are seq
fields_are nodes (Fetch have) is bytes = (omega (arith, is.1), lines_are have is.0)
fields_are nodes (Chunk group start bytes last) is all =
    both_are (name_bytes group ++ eight start ++ flag last) (text_bytes bytes)
    (both_are (name_bytes group ++ eight start) (flag last) (both_are (name_bytes group) (eight start) (name_are group is.0) (eight_are start)) (flag_is last))
    (both_are (length_bytes (is_large bytes) (length bytes)) bytes (length_are (is_large bytes) (length bytes)) (are_each bytes all))

pub spelled_bytes : (nodes : ℕ) (m : Message) → IsMessage nodes m → HasBytes m.body → IsBytes (spelling m)
spelled_bytes nodes m is bytes =
    each_is (spelling m)
    (both_are (four m.from) (four m.to ++ code_of m.body ∷ fields_bytes m.body) (four_are m.from)
    (both_are (four m.to) (code_of m.body ∷ fields_bytes m.body) (four_are m.to) (code_is m.body, fields_are nodes m.body is.body bytes)))
