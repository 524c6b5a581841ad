-- The fields of each kind are read exactly where their texts are there.
use Rattle.std.proofs.Common.{◌≡◌, ℕ, ◌^◌, ◌<◌, Bool, List, Ok, refl, sym, ◌∙◌, arith}
use Rattle.std.specs.Int.{w64}
use Rattle.oc_base.specs.declared.cert.Cert.{Cert}
use Rattle.oc_base.specs.declared.limits.TheConstants.{MAX_BASE_ACKED}
use Rattle.oc_base.specs.declared.rank.Rank.{Rank}
use Rattle.oc_base.specs.Reading.{Reading, byte_at, long_at, count_at, id_at, rate_at, flag_at, rank_at}
use Rattle.oc_base.proofs.TextsAt.{IsBytes, Takes, wide64}
use Rattle.oc_base.proofs.FieldReads.{reads_within, reads_byte, reads_long, reads_count, reads_id, reads_rate, reads_flag}
use Rattle.oc_base.proofs.PairReads.{reads_pair, two_are, three_are, four_are, made_takes, made_again, reads_rank, reads_cert}
use Rattle.oc_base.proofs.ListReads.{reads_ancestors}
use Rattle.oc_model.specs.Lawful.{IsRecord}
use Rattle.oc_model.specs.declared.record.Record.{Record}
use Rattle.oc_model.specs.declared.record.Record.TheVariants.{Ask, Joined, Ranked, OldEntry, Acked, Ancestors, Rate, Epoch, Base, Snapshot, Entry, Info}
use Rattle.oc_record.specs.Spelling.{code_of, fields_bytes}
use Rattle.oc_record.specs.Reading.{ask_at, joined_at, ranked_at, old_entry_at, acked_at, ancestors_record_at, rate_record_at, epoch_at, base_at, snapshot_at, entry_at, info_at}

-- a lawful record of this code, and the text of its fields is there
pub record IsTaken (nodes code : ℕ) (bytes : List ℕ) (at : ℕ) (r : Record) (next : ℕ) : Type 0 where
  pub lawful : IsRecord nodes r
  pub kind : code_of r ≡ code
  pub text : Takes bytes at (fields_bytes r) next

-- the bytes of a record that is read are its spelling
abbrev pub Taken : ℕ → ℕ → List ℕ → (ℕ → Reading Record) → Type 0
Taken nodes code bytes read = IsBytes bytes → (at : ℕ) (r : Record) (next : ℕ) → read at ≡ Ok (r, next) → IsTaken nodes code bytes at r next

-- this record is read where its text is there
abbrev pub Again : ℕ → List ℕ → (ℕ → Reading Record) → Record → Type 0
Again nodes bytes read r = nodes < 2 ^ 32 → (at next : ℕ) → IsRecord nodes r → Takes bytes at (fields_bytes r) next → read at ≡ Ok (r, next)

pub ask : (nodes : ℕ) (bytes : List ℕ) → Taken nodes 1 bytes (ask_at nodes bytes) × ((seq peer : ℕ) → Again nodes bytes (ask_at nodes bytes) (Ask seq peer))
unfolding ask_at
ask nodes bytes =
    let parts = reads_pair (reads_count nodes bytes) (reads_id nodes bytes) in
    let make : (ℕ × ℕ) → Record = λ x. Ask x.0 x.1 in
    let are = two_are (count_at bytes) (id_at nodes bytes) Ask in (
      λ valid at r next e. made_takes parts make (IsTaken nodes 1 bytes at) valid at r next (λ x next h t. record { lawful = h; kind = refl; text = t }) (sym (are at) ∙ e),
      λ seq peer few at next h t. are at ∙ made_again parts make few at (seq, peer) next h t,
    )

pub joined : (nodes : ℕ) (bytes : List ℕ) → Taken nodes 2 bytes (joined_at nodes bytes) × ((peer : ℕ) (rank : Rank) → Again nodes bytes (joined_at nodes bytes) (Joined peer rank))
unfolding joined_at
joined nodes bytes =
    let parts = reads_pair (reads_id nodes bytes) (reads_rank nodes bytes) in
    let make : (ℕ × Rank) → Record = λ x. Joined x.0 x.1 in
    let are = two_are (id_at nodes bytes) (rank_at bytes) Joined in (
      λ valid at r next e. made_takes parts make (IsTaken nodes 2 bytes at) valid at r next (λ x next h t. record { lawful = h; kind = refl; text = t }) (sym (are at) ∙ e),
      λ peer rank few at next h t. are at ∙ made_again parts make few at (peer, rank) next h t,
    )

pub ranked : (nodes : ℕ) (bytes : List ℕ) → Taken nodes 5 bytes (ranked_at bytes) × ((rank : Rank) → Again nodes bytes (ranked_at bytes) (Ranked rank))
unfolding ranked_at
ranked nodes bytes =
    let parts = reads_rank nodes bytes in (
      λ valid at r next e. made_takes parts Ranked (IsTaken nodes 5 bytes at) valid at r next (λ x next h t. record { lawful = h; kind = refl; text = t }) e,
      λ rank few at next h t. made_again parts Ranked few at rank next h t,
    )

pub old_entry : (nodes : ℕ) (bytes : List ℕ) → Taken nodes 6 bytes (old_entry_at nodes bytes) × ((subject seq parent : ℕ) (dead : Bool) → Again nodes bytes (old_entry_at nodes bytes) (OldEntry subject seq parent dead))
unfolding old_entry_at
old_entry nodes bytes =
    let id = reads_id nodes bytes in
    let parts = reads_pair (reads_pair (reads_pair id (reads_count nodes bytes)) id) (reads_flag nodes bytes) in
    let make : (((ℕ × ℕ) × ℕ) × Bool) → Record = λ x. OldEntry x.0.0.0 x.0.0.1 x.0.1 x.1 in
    let are = four_are (id_at nodes bytes) (count_at bytes) (id_at nodes bytes) (flag_at bytes) OldEntry in (
      λ valid at r next e. made_takes parts make (IsTaken nodes 6 bytes at) valid at r next (λ x next h t. record { lawful = (h.0.0.0, h.0.0.1, h.0.1); kind = refl; text = t }) (sym (are at) ∙ e),
      λ subject seq parent dead few at next h t. are at ∙ made_again parts make few at (((subject, seq), parent), dead) next (((h.0, h.1), h.2), tt) t,
    )

pub acked : (nodes : ℕ) (bytes : List ℕ) → Taken nodes 7 bytes (acked_at bytes) × ((upto : ℕ) → Again nodes bytes (acked_at bytes) (Acked upto))
unfolding acked_at
acked nodes bytes =
    let parts = reads_long nodes bytes in (
      λ valid at r next e. made_takes parts Acked (IsTaken nodes 7 bytes at) valid at r next (λ x next h t. record { lawful = h; kind = refl; text = t }) e,
      λ upto few at next h t. made_again parts Acked few at upto next h t,
    )

pub ancestors : (nodes : ℕ) (bytes : List ℕ) → Taken nodes 8 bytes (ancestors_record_at nodes bytes) × ((ids : List ℕ) → Again nodes bytes (ancestors_record_at nodes bytes) (Ancestors ids))
unfolding ancestors_record_at
ancestors nodes bytes =
    let parts = reads_ancestors nodes bytes in (
      λ valid at r next e. made_takes parts Ancestors (IsTaken nodes 8 bytes at) valid at r next (λ x next h t. record { lawful = h; kind = refl; text = t }) e,
      λ ids few at next h t. made_again parts Ancestors few at ids next h t,
    )

pub rate : (nodes : ℕ) (bytes : List ℕ) → Taken nodes 9 bytes (rate_record_at nodes bytes) × ((peer rate hops : ℕ) → Again nodes bytes (rate_record_at nodes bytes) (Rate peer rate hops))
unfolding rate_record_at
rate nodes bytes =
    let parts = reads_pair (reads_pair (reads_id nodes bytes) (reads_rate nodes bytes)) (reads_byte nodes bytes) in
    let make : ((ℕ × ℕ) × ℕ) → Record = λ x. Rate x.0.0 x.0.1 x.1 in
    let are = three_are (id_at nodes bytes) (rate_at bytes) (byte_at bytes) Rate in (
      λ valid at r next e. made_takes parts make (IsTaken nodes 9 bytes at) valid at r next (λ x next h t. record { lawful = (h.0.0, h.0.1, omega (arith, h.1)); kind = refl; text = t }) (sym (are at) ∙ e),
      λ peer rate hops few at next h t. are at ∙ made_again parts make few at ((peer, rate), hops) next ((h.0, h.1), omega (arith, h.2)) t,
    )

pub epoch : (nodes : ℕ) (bytes : List ℕ) → Taken nodes 10 bytes (epoch_at bytes) × ((epoch : ℕ) → Again nodes bytes (epoch_at bytes) (Epoch epoch))
unfolding epoch_at
epoch nodes bytes =
    let parts = reads_long nodes bytes in (
      λ valid at r next e. made_takes parts Epoch (IsTaken nodes 10 bytes at) valid at r next (λ x next h t. record { lawful = h; kind = refl; text = t }) e,
      λ number few at next h t. made_again parts Epoch few at number next h t,
    )

pub base : (nodes : ℕ) (bytes : List ℕ) → Taken nodes 11 bytes (base_at bytes) × ((acked : ℕ) → Again nodes bytes (base_at bytes) (Base acked))
unfolding base_at
base nodes bytes =
    let parts = reads_within w64 (2 ^ 64) wide64 0 MAX_BASE_ACKED nodes bytes (λ few. omega arith) in (
      λ valid at r next e. made_takes parts Base (IsTaken nodes 11 bytes at) valid at r next (λ x next h t. record { lawful = h.1; kind = refl; text = t }) e,
      λ acked few at next h t. made_again parts Base few at acked next (omega arith, h) t,
    )

pub snapshot : (nodes : ℕ) (bytes : List ℕ) → Taken nodes 12 bytes (snapshot_at bytes) × ((generation : ℕ) → Again nodes bytes (snapshot_at bytes) (Snapshot generation))
unfolding snapshot_at
snapshot nodes bytes =
    let parts = reads_count nodes bytes in (
      λ valid at r next e. made_takes parts Snapshot (IsTaken nodes 12 bytes at) valid at r next (λ x next h t. record { lawful = h; kind = refl; text = t }) e,
      λ generation few at next h t. made_again parts Snapshot few at generation next h t,
    )

pub entry : (nodes : ℕ) (bytes : List ℕ) → Taken nodes 13 bytes (entry_at nodes bytes) × ((cert : Cert) → Again nodes bytes (entry_at nodes bytes) (Entry cert))
unfolding entry_at
entry nodes bytes =
    let parts = reads_cert nodes bytes in (
      λ valid at r next e. made_takes parts Entry (IsTaken nodes 13 bytes at) valid at r next (λ x next h t. record { lawful = h; kind = refl; text = t }) e,
      λ cert few at next h t. made_again parts Entry few at cert next h t,
    )

pub info : (nodes : ℕ) (bytes : List ℕ) → Taken nodes 14 bytes (info_at bytes) × ((number clients : ℕ) → Again nodes bytes (info_at bytes) (Info number clients))
unfolding info_at
info nodes bytes =
    let parts = reads_pair (reads_count nodes bytes) (reads_long nodes bytes) in
    let make : (ℕ × ℕ) → Record = λ x. Info x.0 x.1 in
    let are = two_are (count_at bytes) (long_at bytes) Info in (
      λ valid at r next e. made_takes parts make (IsTaken nodes 14 bytes at) valid at r next (λ x next h t. record { lawful = h; kind = refl; text = t }) (sym (are at) ∙ e),
      λ number clients few at next h t. are at ∙ made_again parts make few at (number, clients) next h t,
    )
