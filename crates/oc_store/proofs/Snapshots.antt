-- The generation of a frame that begins with a snapshot.
use Rattle.std.proofs.Common.{◌≡◌, ℕ, ◌^◌, ◌<◌, List, [], ◌∷◌, ◌++◌, length, Ok, refl, ◌∙◌, ap, arith}
use Rattle.std.specs.Int.{w64, from_be_bytes}
use Rattle.std.proofs.lemmas.Bool.{le-leb}
use Rattle.std.proofs.lemmas.List.{take_at, length-append}
use Rattle.std.proofs.lemmas.List.Concat.{flat_map-cons}
use Rattle.std.proofs.lemmas.Nat.{from_be_bytes-to_be_bytes_8}
use Rattle.oc_model.specs.declared.record.Record.{Record}
use Rattle.oc_model.specs.declared.record.Record.TheVariants.{Snapshot}
use Rattle.oc_base.specs.Spelling.{eight}
use Rattle.oc_record.specs.Spelling.{record_bytes, records_bytes}
use Rattle.oc_model.specs.Lawful.{AreRecords}
use Rattle.oc_record.specs.Reading.{decoded}
use Rattle.oc_base.proofs.TextsAt.{IsBytes}
use Rattle.oc_record.proofs.ListLaws.{is_spelled}
use Rattle.oc_store.specs.ControlFiles.{generation_in, begun_generation}
use Rattle.oc_store.specs.StoreView.{BeginsAbove}

-- eight bytes after the code
generation_at : (text rest : List ℕ) → length text ≡ 8 → generation_in (12 ∷ (text ++ rest)) ≡ from_be_bytes w64 text
generation_at text rest long =
    rw (le-leb 8 (length (text ++ rest)) (omega (arith, long, length-append text rest)), take_at text rest 8 long) refl

-- the list's generation is that of its spelling
snapshot_first : (generation : ℕ) (records : List Record) → generation < 2 ^ 64 → generation_in (records_bytes (Snapshot generation ∷ records)) ≡ generation
snapshot_first generation records fits =
    ap generation_in (flat_map-cons record_bytes (Snapshot generation) records)
    ∙ generation_at (eight generation) (records_bytes records) refl
    ∙ from_be_bytes-to_be_bytes_8 generation fits

-- a frame that begins with a snapshot of a greater generation
pub begins_above : (generation : ℕ) (records : List Record) (frame : List ℕ) → BeginsAbove generation records → frame ≡ records_bytes records → generation < generation_in frame
begins_above generation records frame above is = rw is (by_list records above)
  where
    by_list : (rs : List Record) → BeginsAbove generation rs → generation < generation_in (records_bytes rs)
    by_list [] h = absurd h
    by_list (Snapshot g ∷ rs) h = omega (arith, h.0, snapshot_first g rs h.1)
    by_list (r ∷ rs) h = absurd h

-- lawful records have the generation of the snapshot that begins them
pub generation_spelled : (nodes : ℕ) (records : List Record) → AreRecords nodes records → generation_in (records_bytes records) ≡ begun_generation records
generation_spelled nodes [] lawful = refl
generation_spelled nodes (Snapshot generation ∷ records) lawful = snapshot_first generation records lawful.0.1
generation_spelled nodes (r ∷ records) lawful = ap generation_in (flat_map-cons record_bytes r records)

-- a body that is read as these records has their generation
pub generation_read : (nodes : ℕ) (body : List ℕ) (records : List Record) → IsBytes body → decoded nodes body ≡ Ok records → generation_in body ≡ begun_generation records
generation_read nodes body records fits read =
    let spelled = is_spelled nodes body records fits read in
    ap generation_in spelled.1 ∙ generation_spelled nodes records spelled.0
