-- The fields of each kind are read exactly where their texts are there.
use Rattle.std.proofs.Common.{◌≡◌, ℕ, ◌^◌, ◌<◌, Bool, Option, List, Ok, refl, sym, ap, ◌∙◌, arith}
use Rattle.std.specs.Int.{w64}
use Rattle.oc_base.specs.declared.cert.Cert.{Cert}
use Rattle.oc_base.specs.declared.cert.Child.{Child}
use Rattle.oc_base.specs.declared.limits.TheConstants.{MAX_GROUP_BYTES}
use Rattle.oc_base.specs.declared.rank.Rank.{Rank}
use Rattle.oc_base.specs.declared.refusal.Refusal.{Refusal}
use Rattle.oc_base.specs.declared.shelf.Shelf.{Shelf}
use Rattle.oc_base.specs.Reading.{Reading, within_at, long_at, count_at, rate_at, flag_at, rank_at, ancestors_at}
use Rattle.oc_base.proofs.TextsAt.{IsBytes, Takes, wide64}
use Rattle.oc_base.proofs.FieldReads.{reads_within, reads_long, reads_count, reads_rate, reads_flag}
use Rattle.oc_base.proofs.PairReads.{reads_pair, two_are, three_are, four_are, six_are, made_takes, made_again, reads_rank}
use Rattle.oc_base.proofs.ListReads.{reads_ancestors}
use Rattle.oc_model.specs.Lawful.{IsBody}
use Rattle.oc_model.specs.declared.message.Body.{Body}
use Rattle.oc_model.specs.declared.message.Body.TheVariants.{LookIs, Ask, Yes, No, CheckIn, CheckAck, Rejoin, Fetch, Chunk}
use Rattle.oc_wire.specs.Spelling.{is_large, chunk_code, code_of, fields_bytes, HasSpelling}
use Rattle.oc_wire.specs.FieldReading.{parent_at, rank_or_none_at, refusal_at, name_at, children_at, certs_at, chunk_bytes_at, look_is_at, ask_at, yes_at, no_at, check_in_at, check_ack_at, rejoin_at, fetch_at, chunk_at}
use Rattle.oc_wire.proofs.FieldReads.{reads_parent, reads_rank_or_none, reads_refusal}
use Rattle.oc_wire.proofs.NameReads.{reads_name}
use Rattle.oc_wire.proofs.ListReads.{reads_children, reads_certs, reads_have, reads_chunk_bytes}

-- a lawful body of this code, whose counts fit, and the text of its fields is there
pub record IsTaken (nodes code : ℕ) (bytes : List ℕ) (at : ℕ) (b : Body) (next : ℕ) : Type 0 where
  pub lawful : IsBody nodes b
  pub fits : HasSpelling b
  pub kind : code_of b ≡ code
  pub text : Takes bytes at (fields_bytes b) next

-- each body that is read is taken in this way
abbrev pub Taken : ℕ → ℕ → List ℕ → (ℕ → Reading Body) → Type 0
Taken nodes code bytes read = IsBytes bytes → (at : ℕ) (b : Body) (next : ℕ) → read at ≡ Ok (b, next) → IsTaken nodes code bytes at b next

-- this body is read where its text is there
abbrev pub Again : ℕ → List ℕ → (ℕ → Reading Body) → Body → Type 0
Again nodes bytes read b = nodes < 2 ^ 32 → (at next : ℕ) → IsBody nodes b → HasSpelling b → Takes bytes at (fields_bytes b) next → read at ≡ Ok (b, next)

pub look_is : (nodes : ℕ) (bytes : List ℕ) → Taken nodes 2 bytes (look_is_at nodes bytes) × ((in_tree : Bool) (parent : Option ℕ) (rate : ℕ) (children : List Child) → Again nodes bytes (look_is_at nodes bytes) (LookIs in_tree parent rate children))
unfolding look_is_at
look_is nodes bytes =
    let parts = reads_pair (reads_pair (reads_pair (reads_flag nodes bytes) (reads_parent nodes bytes)) (reads_rate nodes bytes)) (reads_children nodes bytes) in
    let make : (((Bool × Option ℕ) × ℕ) × List Child) → Body = λ x. LookIs x.0.0.0 x.0.0.1 x.0.1 x.1 in
    let are = four_are (flag_at bytes) (parent_at nodes bytes) (rate_at bytes) (children_at nodes bytes) LookIs in (
      λ valid at b next e. made_takes parts make (IsTaken nodes 2 bytes at) valid at b next (λ x next h t. record { lawful = (h.0.0.1, h.0.1, h.1.1); fits = h.1.0; kind = refl; text = t }) (sym (are at) ∙ e),
      λ in_tree parent rate children few at next h fits t. are at ∙ made_again parts make few at (((in_tree, parent), rate), children) next (((tt, h.0), h.1), (fits, h.2)) t,
    )

pub ask : (nodes : ℕ) (bytes : List ℕ) → Taken nodes 3 bytes (ask_at bytes) × ((seq : ℕ) (rank : Option Rank) → Again nodes bytes (ask_at bytes) (Ask seq rank))
unfolding ask_at
ask nodes bytes =
    let parts = reads_pair (reads_count nodes bytes) (reads_rank_or_none nodes bytes) in
    let make : (ℕ × Option Rank) → Body = λ x. Ask x.0 x.1 in
    let are = two_are (count_at bytes) (rank_or_none_at bytes) Ask in (
      λ valid at b next e. made_takes parts make (IsTaken nodes 3 bytes at) valid at b next (λ x next h t. record { lawful = h; fits = tt; kind = refl; text = t }) (sym (are at) ∙ e),
      λ seq rank few at next h fits t. are at ∙ made_again parts make few at (seq, rank) next h t,
    )

pub yes : (nodes : ℕ) (bytes : List ℕ) → Taken nodes 4 bytes (yes_at nodes bytes) × ((seq : ℕ) (rank : Rank) (ancestors : List ℕ) → Again nodes bytes (yes_at nodes bytes) (Yes seq rank ancestors))
unfolding yes_at
yes nodes bytes =
    let parts = reads_pair (reads_pair (reads_count nodes bytes) (reads_rank nodes bytes)) (reads_ancestors nodes bytes) in
    let make : ((ℕ × Rank) × List ℕ) → Body = λ x. Yes x.0.0 x.0.1 x.1 in
    let are = three_are (count_at bytes) (rank_at bytes) (ancestors_at nodes bytes) Yes in (
      λ valid at b next e. made_takes parts make (IsTaken nodes 4 bytes at) valid at b next (λ x next h t. record { lawful = (h.0.0, h.0.1, h.1); fits = omega (arith, h.1.1); kind = refl; text = t }) (sym (are at) ∙ e),
      λ seq rank ancestors few at next h fits t. are at ∙ made_again parts make few at ((seq, rank), ancestors) next ((h.0, h.1), h.2) t,
    )

pub no : (nodes : ℕ) (bytes : List ℕ) → Taken nodes 5 bytes (no_at nodes bytes) × ((seq : ℕ) (why : Refusal) → Again nodes bytes (no_at nodes bytes) (No seq why))
unfolding no_at
no nodes bytes =
    let parts = reads_pair (reads_count nodes bytes) (reads_refusal nodes bytes) in
    let make : (ℕ × Refusal) → Body = λ x. No x.0 x.1 in
    let are = two_are (count_at bytes) (refusal_at nodes bytes) No in (
      λ valid at b next e. made_takes parts make (IsTaken nodes 5 bytes at) valid at b next (λ x next h t. record { lawful = h; fits = tt; kind = refl; text = t }) (sym (are at) ∙ e),
      λ seq why few at next h fits t. are at ∙ made_again parts make few at (seq, why) next h t,
    )

pub check_in : (nodes : ℕ) (bytes : List ℕ) → Taken nodes 11 bytes (check_in_at nodes bytes) × ((seq upto rate number clients : ℕ) (certs : List Cert) → Again nodes bytes (check_in_at nodes bytes) (CheckIn seq upto rate number clients certs))
unfolding check_in_at
check_in nodes bytes =
    let long = reads_long nodes bytes in
    let front = reads_pair (reads_pair (reads_pair (reads_count nodes bytes) long) (reads_rate nodes bytes)) long in
    let parts = reads_pair (reads_pair front long) (reads_certs nodes bytes) in
    let make : (((((ℕ × ℕ) × ℕ) × ℕ) × ℕ) × List Cert) → Body = λ x. CheckIn x.0.0.0.0.0 x.0.0.0.0.1 x.0.0.0.1 x.0.0.1 x.0.1 x.1 in
    let are = six_are (count_at bytes) (long_at bytes) (rate_at bytes) (long_at bytes) (long_at bytes) (certs_at nodes bytes) CheckIn in (
      λ valid at b next e. made_takes parts make (IsTaken nodes 11 bytes at) valid at b next (λ x next h t. record { lawful = (h.0.0.0.0.0, h.0.0.0.0.1, h.0.0.0.1, h.0.0.1, h.0.1, h.1.0, h.1.1); fits = omega (arith, h.1.1); kind = refl; text = t }) (sym (are at) ∙ e),
      λ seq upto rate number clients certs few at next h fits t. are at ∙ made_again parts make few at (((((seq, upto), rate), number), clients), certs) next (((((h.0, h.1), h.2), h.3), h.4), (h.5, h.6)) t,
    )

pub check_ack : (nodes : ℕ) (bytes : List ℕ) → Taken nodes 7 bytes (check_ack_at nodes bytes) × ((seq upto : ℕ) (rank : Rank) (ancestors : List ℕ) → Again nodes bytes (check_ack_at nodes bytes) (CheckAck seq upto rank ancestors))
unfolding check_ack_at
check_ack nodes bytes =
    let parts = reads_pair (reads_pair (reads_pair (reads_count nodes bytes) (reads_long nodes bytes)) (reads_rank nodes bytes)) (reads_ancestors nodes bytes) in
    let make : (((ℕ × ℕ) × Rank) × List ℕ) → Body = λ x. CheckAck x.0.0.0 x.0.0.1 x.0.1 x.1 in
    let are = four_are (count_at bytes) (long_at bytes) (rank_at bytes) (ancestors_at nodes bytes) CheckAck in (
      λ valid at b next e. made_takes parts make (IsTaken nodes 7 bytes at) valid at b next (λ x next h t. record { lawful = (h.0.0.0, h.0.0.1, h.0.1, h.1); fits = omega (arith, h.1.1); kind = refl; text = t }) (sym (are at) ∙ e),
      λ seq upto rank ancestors few at next h fits t. are at ∙ made_again parts make few at (((seq, upto), rank), ancestors) next (((h.0, h.1), h.2), h.3) t,
    )

pub rejoin : (nodes : ℕ) (bytes : List ℕ) → Taken nodes 8 bytes (rejoin_at bytes) × ((seq : ℕ) → Again nodes bytes (rejoin_at bytes) (Rejoin seq))
unfolding rejoin_at
rejoin nodes bytes =
    let parts = reads_count nodes bytes in (
      λ valid at b next e. made_takes parts Rejoin (IsTaken nodes 8 bytes at) valid at b next (λ x next h t. record { lawful = h; fits = tt; kind = refl; text = t }) e,
      λ seq few at next h fits t. made_again parts Rejoin few at seq next h t,
    )

pub fetch : (nodes : ℕ) (bytes : List ℕ) → Taken nodes 12 bytes (fetch_at bytes) × ((have : List Shelf) → Again nodes bytes (fetch_at bytes) (Fetch have))
unfolding fetch_at
fetch nodes bytes =
    let parts = reads_have nodes bytes in (
      λ valid at b next e. made_takes parts Fetch (IsTaken nodes 12 bytes at) valid at b next (λ x next h t. record { lawful = h; fits = omega (arith, h.1); kind = refl; text = t }) e,
      λ have few at next h fits t. made_again parts Fetch few at have next h t,
    )

-- chunks of many bytes or of few
pub chunk : (large : Bool) (nodes : ℕ) (bytes : List ℕ)
    → Taken nodes (chunk_code large) bytes (chunk_at large bytes) × ((group : List ℕ) (start : ℕ) (piece : List ℕ) (last : Bool) → is_large piece ≡ large → Again nodes bytes (chunk_at large bytes) (Chunk group start piece last))
unfolding chunk_at
chunk large nodes bytes =
    let start = reads_within w64 (2 ^ 64) wide64 0 MAX_GROUP_BYTES nodes bytes (λ few. omega arith) in
    let parts = reads_pair (reads_pair (reads_pair (reads_name nodes bytes) start) (reads_flag nodes bytes)) (reads_chunk_bytes large nodes bytes) in
    let make : (((List ℕ × ℕ) × Bool) × List ℕ) → Body = λ x. Chunk x.0.0.0 x.0.0.1 x.1 x.0.1 in
    let are = four_are (name_at bytes) (within_at w64 0 MAX_GROUP_BYTES bytes) (flag_at bytes) (chunk_bytes_at large bytes) (λ group start last piece. Chunk group start piece last) in (
      λ valid at b next e. made_takes parts make (IsTaken nodes (chunk_code large) bytes at) valid at b next (λ x next h t. record { lawful = (h.0.0.0, h.0.0.1.1, h.1.1); fits = omega (arith, h.1.1); kind = ap chunk_code h.1.0; text = t }) (sym (are at) ∙ e),
      λ group start piece last is few at next h fits t. are at ∙ made_again parts make few at (((group, start), last), piece) next (((h.0, (omega arith, h.1)), tt), (is, h.2)) t,
    )
