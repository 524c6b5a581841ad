-- The fields of each kind of message, as bytes spell them, with the first fault.
use Rattle.std.specs.Prelude.{ℕ, ◌+◌, ◌-◌, ◌^◌, Bool, true, false, ◌==◌, if◌then◌else◌, Option, Some, None, Result, Ok, Err, List}
use Rattle.std.specs.Int.{w8, w16, w32, w64}
use Rattle.std.specs.Ordering.{nat_cmp, is_lt}
use Rattle.std.specs.Cmp.Lexicographic.{slice_cmp}
use Rattle.oc_base.specs.declared.cert.Cert.{Cert}
use Rattle.oc_base.specs.declared.cert.Child.{Child}
use Rattle.oc_base.specs.declared.field_fault.FieldFault.TheVariants as fields
use Rattle.oc_base.specs.declared.group_name.NameFault.{NameFault}
use Rattle.oc_base.specs.declared.limits.TheConstants.{MAX_CHECK_IN_CERTS, MAX_CHUNK_BYTES, MAX_GROUPS, MAX_GROUP_BYTES, MAX_NAME_BYTES, MIN_NAME_BYTES}
use Rattle.oc_base.specs.declared.rank.Rank.{Rank}
use Rattle.oc_base.specs.declared.refusal.Refusal.{Refusal}
use Rattle.oc_base.specs.declared.refusal.Refusal.TheVariants as refusals
use Rattle.oc_base.specs.declared.shelf.Shelf.{Shelf}
use Rattle.oc_base.specs.Names.{parsed_name}
use Rattle.oc_base.specs.Steps.{◌>>=◌}
use Rattle.oc_base.specs.Reading.{Reading, within_at, byte_at, long_at, count_at, id_at, rate_at, flag_at, text_at, one_field, two_fields, three_fields, four_fields, six_fields, rank_at, cert_at, items_at, each_at, list_at, ancestors_at}
use Rattle.oc_model.specs.declared.message.Body.{Body}
use Rattle.oc_model.specs.declared.message.Body.TheVariants.{LookIs, Ask, Yes, No, CheckIn, CheckAck, Rejoin, Fetch, Chunk}

-- Fields

-- the node with this id, where 0 is none
abbrev pub node_or_none : ℕ → Option ℕ
node_or_none id = if id == 0 then None else Some id

-- a parent, or 0 for none
unfoldable pub parent_at : ℕ → List ℕ → ℕ → Reading (Option ℕ)
parent_at nodes bytes at = one_field (within_at w32 0 nodes bytes) node_or_none at

-- the rank after a tag
abbrev pub tagged_rank_at : Bool → List ℕ → ℕ → Reading (Option Rank)
tagged_rank_at false bytes at = Ok (None, at)
tagged_rank_at true bytes at = one_field (rank_at bytes) (λ rank. Some rank) at

-- a tag, and after a tag of 1 a rank
unfoldable pub rank_or_none_at : List ℕ → ℕ → Reading (Option Rank)
rank_or_none_at bytes at = do
  tag ← flag_at bytes at
  tagged_rank_at tag.0 bytes tag.1

-- the refusal with this code; one of them names a node
unfoldable pub refusal_with : ℕ → ℕ → List ℕ → ℕ → Reading Refusal
refusal_with code nodes bytes at =
    if code == 1 then Ok (refusals.Own, at)
    else if code == 2 then Ok (refusals.NotJoined, at)
    else if code == 3 then Ok (refusals.Ancestor, at)
    else if code == 4 then Ok (refusals.Depth, at)
    else if code == 5 then one_field (id_at nodes bytes) (λ k. refusals.Chain k) at
    else if code == 6 then Ok (refusals.Rank, at)
    else Err fields.Value

-- a refusal
unfoldable pub refusal_at : ℕ → List ℕ → ℕ → Reading Refusal
refusal_at nodes bytes at = do
  code ← byte_at bytes at
  refusal_with code.0 nodes bytes code.1

-- Names

-- the parsed name, and the index after it
abbrev pub if_name : Result (List ℕ) NameFault → ℕ → Reading (List ℕ)
if_name (Ok name) next = Ok (name, next)
if_name (Err fault) next = Err fields.Value

-- a name after its length
unfoldable pub name_at : List ℕ → ℕ → Reading (List ℕ)
name_at bytes at = do
  text ← list_at (within_at w8 MIN_NAME_BYTES MAX_NAME_BYTES bytes) (text_at bytes) at
  if_name (parsed_name text.0) text.1

-- whether a name is greater than the one before it
abbrev pub is_after : Option (List ℕ) → List ℕ → Bool
is_after None name = true
is_after (Some before) name = is_lt (slice_cmp nat_cmp before name)

-- a name that is greater than the one before it
unfoldable pub next_name_at : Option (List ℕ) → List ℕ → ℕ → Reading (List ℕ)
next_name_at before bytes at = do
  name ← name_at bytes at
  if is_after before name.0 then Ok name else Err fields.Value

-- Lists

-- a child of a greater id than the one before it
unfoldable pub child_at : ℕ → ℕ → List ℕ → ℕ → Reading Child
child_at before nodes bytes at = two_fields (within_at w32 (before + 1) nodes bytes) (rate_at bytes) (λ id rate. record { id = id; rate = rate }) at

-- children, with ascending ids
unfoldable pub children_at : ℕ → List ℕ → ℕ → Reading (List Child)
children_at nodes bytes at = list_at (within_at w16 0 (2 ^ 16 - 1) bytes) (items_at (λ before. child_at before nodes bytes) (λ child. child.id) 0) at

-- certificates of a check-in
unfoldable pub certs_at : ℕ → List ℕ → ℕ → Reading (List Cert)
certs_at nodes bytes at = list_at (within_at w8 0 MAX_CHECK_IN_CERTS bytes) (each_at (cert_at nodes bytes)) at

-- a line of a shelf, of a greater name than the one before it
unfoldable pub line_at : Option (List ℕ) → List ℕ → ℕ → Reading Shelf
line_at before bytes at =
    three_fields (next_name_at before bytes) (within_at w64 0 MAX_GROUP_BYTES bytes) (flag_at bytes)
    (λ group held sealed. record { group = group; held = held; sealed = sealed }) at

-- a shelf, with ascending names
unfoldable pub have_at : List ℕ → ℕ → Reading (List Shelf)
have_at bytes at = list_at (within_at w8 0 MAX_GROUPS bytes) (items_at (λ before. line_at before bytes) (λ line. Some line.group) None) at

-- the length of a chunk in bytes: more than two bytes can count, or no more
abbrev pub chunk_length_at : Bool → List ℕ → ℕ → Reading ℕ
chunk_length_at true bytes = within_at w32 (2 ^ 16) MAX_CHUNK_BYTES bytes
chunk_length_at false bytes = within_at w16 0 (2 ^ 16 - 1) bytes

-- the bytes of a chunk
unfoldable pub chunk_bytes_at : Bool → List ℕ → ℕ → Reading (List ℕ)
chunk_bytes_at large bytes at = list_at (chunk_length_at large bytes) (text_at bytes) at

-- The fields of each kind, in the order of the bytes

unfoldable pub look_is_at : ℕ → List ℕ → ℕ → Reading Body
look_is_at nodes bytes at = four_fields (flag_at bytes) (parent_at nodes bytes) (rate_at bytes) (children_at nodes bytes) LookIs at

unfoldable pub ask_at : List ℕ → ℕ → Reading Body
ask_at bytes at = two_fields (count_at bytes) (rank_or_none_at bytes) Ask at

unfoldable pub yes_at : ℕ → List ℕ → ℕ → Reading Body
yes_at nodes bytes at = three_fields (count_at bytes) (rank_at bytes) (ancestors_at nodes bytes) Yes at

unfoldable pub no_at : ℕ → List ℕ → ℕ → Reading Body
no_at nodes bytes at = two_fields (count_at bytes) (refusal_at nodes bytes) No at

unfoldable pub check_in_at : ℕ → List ℕ → ℕ → Reading Body
check_in_at nodes bytes at = six_fields (count_at bytes) (long_at bytes) (rate_at bytes) (long_at bytes) (long_at bytes) (certs_at nodes bytes) CheckIn at

unfoldable pub check_ack_at : ℕ → List ℕ → ℕ → Reading Body
check_ack_at nodes bytes at = four_fields (count_at bytes) (long_at bytes) (rank_at bytes) (ancestors_at nodes bytes) CheckAck at

unfoldable pub rejoin_at : List ℕ → ℕ → Reading Body
rejoin_at bytes at = one_field (count_at bytes) Rejoin at

unfoldable pub fetch_at : List ℕ → ℕ → Reading Body
fetch_at bytes at = one_field (have_at bytes) Fetch at

unfoldable pub chunk_at : Bool → List ℕ → ℕ → Reading Body
chunk_at large bytes at =
    four_fields (name_at bytes) (within_at w64 0 MAX_GROUP_BYTES bytes) (flag_at bytes) (chunk_bytes_at large bytes)
    (λ group start last bytes. Chunk group start bytes last) at
