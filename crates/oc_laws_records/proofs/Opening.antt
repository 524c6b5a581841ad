-- The beginning of a record: its header and its areas.
use Rattle.std.proofs.Common.{◌≡◌, ℕ, zero, suc, ◌+◌, ◌-◌, ◌^◌, ◌<◌, ◌≤◌, Bool, true, false, cond, ◌&&◌, ◌==◌, Option, Some, None, Ok, Err, List, [], ◌∷◌, ◌++◌, length, refl, ap, subst, ◌∙◌, arith, codes, decimal, append_assoc, replicate, length-append}
use Rattle.std.specs.List.{AllByRecursion}
use Rattle.std.proofs.lemmas.Bool.{cond_both, eq-eqb}
use Rattle.std.proofs.lemmas.Bool.Decides.{nat_tests}
use Rattle.std.proofs.lemmas.List.{set_at}
use Rattle.oc_base.specs.Lawful.{IsNode}
use Rattle.oc_base.specs.Steps.{◌>>=◌, with_fault}
use Rattle.oc_base.specs.declared.limits.TheConstants.{MAX_AREA, MAX_NODES, USUAL_CHUNK_BYTES}
use Rattle.oc_base.specs.declared.why.Why.TheVariants as causes
use Rattle.oc_merge.specs.declared.fault.TheConstants.{MAX_RECORD_PUBLISHED}
use Rattle.oc_merge.specs.declared.place.Place.{Place}
use Rattle.oc_merge.specs.declared.place.Place.TheVariants.{Outside, Opened, Begun, Within}
use Rattle.oc_merge.specs.declared.told.ToldLine.{ToldLine}
use Rattle.oc_merge.specs.Reading.{Reading, after_words, agreed, because}
use Rattle.oc_merge.specs.Told.{published_in}
use Rattle.oc_model.specs.Lawful.{IsHeader}
use Rattle.oc_model.specs.Node.{Header}
use Rattle.oc_schedule.proofs.ActsBack.{then}
use Rattle.oc_schedule.proofs.FieldsBack.{decimal_word}
use Rattle.oc_schedule.proofs.LineBack.{AreWords}
use Rattle.oc_schedule.proofs.Readback.{area_back, chunk_back, sizes_back}
use Rattle.oc_schedule.specs.Lines.{area_in, area_words, chunk_in, chunk_words, header_in, header_words, opening_in, header_without_areas}
use Rattle.oc_schedule.specs.Printing.{areas_text}
use Rattle.oc_schedule.specs.Texts.{line_text}
use Rattle.oc_laws_records.proofs.Clear.{AreClear, IsClear, decimal_clear, letters_clear}
use Rattle.oc_laws_records.proofs.Step.{Fits, Follows, Leads, fits_after, follows_front, leads_as, leads_then, words_lead}

abbrev pub reading : Option Header → Bool → List ℕ → Place → List ToldLine → Reading
reading h started areas place told = record { header = h; started = started; areas = areas; place = place; lines = told }

-- Headers

-- a header before its areas
abbrev pub opened : Header → Header
opened h = record { nodes = h.nodes; chain = h.chain; chunk = h.chunk; areas = replicate h.nodes 0 }

-- the header of the network before the header of a record, which is the first or not
abbrev pub header_before : Bool → Header → Option Header
header_before false h = None
header_before true h = Some h

-- the header of the network after the header of a record
abbrev pub header_behind : Bool → Header → Header
header_behind false h = opened h
header_behind true h = h

pub nodes_behind : (b : Bool) (h : Header) → (header_behind b h).nodes ≡ h.nodes
nodes_behind true h = refl
nodes_behind false h = refl

header_back : (h : Header) → IsHeader h → header_in (header_words h.nodes h.chain h.chunk) ≡ Ok (opened h)
header_back h is =
    let numbers : opening_in (header_words h.nodes h.chain h.chunk) ≡ Ok (record { nodes = h.nodes; chain = h.chain; chunk = h.chunk }) =
    then (chunk_in (chunk_words h.chunk)) _ h.chunk _ (chunk_back h.chunk is.chunk is.fits) (sizes_back h.nodes h.chain h.chunk is.some is.few is.chain is.short is.within) in
    ap (λ opening. with_fault causes.Header opening >>= λ sizes. Ok (header_without_areas sizes)) numbers

agreed_back : (b : Bool) (h : Header) → agreed (header_before b h) (opened h) ≡ Ok (header_behind b h)
agreed_back false h = refl
agreed_back true h =
    ap (λ t. cond (t && h.chain == h.chain && h.chunk == h.chunk) (Ok h) (Err causes.Header)) (eq-eqb h.nodes h.nodes refl)
    ∙ (ap (λ t. cond (t && h.chunk == h.chunk) (Ok h) (Err causes.Header)) (eq-eqb h.chain h.chain refl)
    ∙ ap (λ t. cond t (Ok h) (Err causes.Header)) (eq-eqb h.chunk h.chunk refl))

clear_overcast : IsClear (codes "overcast")
clear_overcast = letters_clear (codes "overcast") refl

clear_1 : IsClear (codes "1")
clear_1 = letters_clear (codes "1") refl

clear_nodes : IsClear (codes "nodes")
clear_nodes = letters_clear (codes "nodes") refl

clear_chain : IsClear (codes "chain")
clear_chain = letters_clear (codes "chain") refl

clear_chunk : IsClear (codes "chunk")
clear_chunk = letters_clear (codes "chunk") refl

-- a record can begin here
abbrev pub IsBetween : Place → Type 0
IsBetween Outside = Unit {0}
IsBetween (Within me) = Unit {0}
IsBetween place = ⊥

module _ (h : Header) (is : IsHeader h) (b : Bool) (areas : List ℕ) (told : List ToldLine) where
  abbrev fields : List (List ℕ)
  fields = codes "1" ∷ codes "nodes" ∷ decimal h.nodes ∷ codes "chain" ∷ decimal h.chain ∷ chunk_words h.chunk

  abbrev after : Reading
  after = reading (Some (header_behind b h)) b (replicate h.nodes 0) Opened told

  header_agrees : (place : Place) → (header_in (header_words h.nodes h.chain h.chunk) >>= λ k. agreed (header_before b h) k >>= λ first. Ok (record (reading (header_before b h) b areas place told) { header = Some first; areas = k.areas; place = Opened })) ≡ Ok after
  header_agrees place =
      ap (λ x. x >>= λ k. agreed (header_before b h) k >>= λ first. Ok (record (reading (header_before b h) b areas place told) { header = Some first; areas = k.areas; place = Opened })) (header_back h is)
      ∙ ap (λ x. x >>= λ first. Ok (reading (Some first) b (replicate h.nodes 0) Opened told)) (agreed_back b h)

  header_says : (place : Place) (i : ℕ) → IsBetween place → after_words place (reading (header_before b h) b areas place told) i (codes "overcast") fields ≡ Ok after
  header_says Outside i between = ap because (header_agrees Outside)
  header_says (Within me) i between = ap because (header_agrees (Within me))
  header_says Opened i between = absurd between
  header_says (Begun me) i between = absurd between

  header_are_words : AreWords (codes "overcast" ∷ fields)
  header_are_words = (refl, (refl, (refl, (decimal_word h.nodes (omega (arith, is.few)), (refl, (decimal_word h.chain (omega (arith, is.short)), chunk))))))
    where
      chunk : AreWords (chunk_words h.chunk)
      chunk = cond_both (h.chunk == USUAL_CHUNK_BYTES) [] (codes "chunk" ∷ decimal h.chunk ∷ []) AreWords (λ _. tt) (λ _. (refl, (decimal_word h.chunk (omega (arith, is.fits)), tt)))

  header_are_clear : AreClear (codes "overcast" ∷ fields)
  header_are_clear = (clear_overcast, (clear_1, (clear_nodes, (decimal_clear h.nodes (omega (arith, is.few)), (clear_chain, (decimal_clear h.chain (omega (arith, is.short)), chunk))))))
    where
      chunk : AreClear (chunk_words h.chunk)
      chunk = cond_both (h.chunk == USUAL_CHUNK_BYTES) [] (codes "chunk" ∷ decimal h.chunk ∷ []) AreClear (λ _. tt) (λ _. (clear_chunk, (decimal_clear h.chunk (omega (arith, is.fits)), tt)))

  -- the header of a record
  pub header_leads : (ended : Bool) (i : ℕ) (place : Place) (rest : List ℕ) → IsBetween place → Fits i (line_text (header_words h.nodes h.chain h.chunk) ++ rest) → Follows ended rest → published_in told ≤ MAX_RECORD_PUBLISHED
      → Leads ended i (reading (header_before b h) b areas place told) (line_text (header_words h.nodes h.chain h.chunk) ++ rest) (i + 1) (reading (Some (header_behind b h)) b (replicate h.nodes 0) Opened told) rest
  header_leads ended i place rest between fits follows within =
      words_lead ended i (reading (header_before b h) b areas place told) after (codes "overcast") fields rest fits follows header_are_words header_are_clear refl (header_says place i between) within

-- Areas

module _ (ended : Bool) (h : Header) (few : h.nodes ≤ MAX_NODES) (b : Bool) (told : List ToldLine) (within : published_in told ≤ MAX_RECORD_PUBLISHED) (rest : List ℕ) (follows : Follows ended rest) where
  abbrev at : List ℕ → Reading
  at areas = reading (Some h) b areas Opened told

  area_says : (i x a : ℕ) (front behind : List ℕ) → IsNode h.nodes x → a ≤ MAX_AREA → length front + 1 ≡ x → after_words Opened (at (front ++ 0 ∷ behind)) i (codes "area") (decimal x ∷ decimal a ∷ []) ≡ Ok (at (front ++ a ∷ behind))
  area_says i x a front behind node small place =
      ap because (then (area_in h.nodes (decimal x ∷ decimal a ∷ [])) _ (x, a) _ (area_back h.nodes x a few node small)
      (ap (λ (areas : List ℕ). Ok (at areas)) (set_at front 0 behind a (x - 1) (omega (arith, place)))))

  moved : (i j : ℕ) (from from_as to to_as text : List ℕ) → from ≡ from_as → to ≡ to_as → Leads ended i (at from) text j (at to) rest → Leads ended i (at from_as) text j (at to_as) rest
  moved i j from from_as to to_as text e f l = subst (λ (a : List ℕ). Leads ended i (at a) text j (at to_as) rest) e (subst (λ (a : List ℕ). Leads ended i (at from) text j (at a) rest) f l)

  pub areas_lead : (i x : ℕ) (front areas : List ℕ) → length front + 1 ≡ x → length front + length areas ≤ h.nodes → AllByRecursion (λ area. area ≤ MAX_AREA) areas → Fits i (areas_text x areas ++ rest)
      → (j : ℕ) × Leads ended i (at (front ++ replicate (length areas) 0)) (areas_text x areas ++ rest) j (at (front ++ areas)) rest
  areas_lead i x front [] place room small fits = (i, record { same = refl; count = refl })
  areas_lead i x front (zero ∷ areas) place room small fits =
      let longer = length-append front (0 ∷ []) in
      let more = areas_lead i (x + 1) (front ++ 0 ∷ []) areas (omega (arith, place, longer)) (omega (arith, room, longer)) small.1 fits in (
        more.0,
        moved i more.0 ((front ++ 0 ∷ []) ++ replicate (length areas) 0) (front ++ 0 ∷ replicate (length areas) 0) ((front ++ 0 ∷ []) ++ areas) (front ++ 0 ∷ areas) (areas_text (x + 1) areas ++ rest)
            (append_assoc front (0 ∷ []) (replicate (length areas) 0)) (append_assoc front (0 ∷ []) areas) more.1,
      )
  areas_lead i x front (suc a ∷ areas) place room small fits =
      let longer = length-append front (suc a ∷ []) in
      let other : (suc a == 0) ≡ false = grind (arith, nat_tests) in
      let node : IsNode h.nodes x = (omega (arith, place), omega (arith, place, room)) in
      let zeros : List ℕ = replicate (length areas) 0 in
      let words = area_words x (suc a) in
      let next = areas_text (x + 1) areas ++ rest in
      let shape : areas_text x (suc a ∷ areas) ++ rest ≡ line_text words ++ next =
      ap (λ t. (cond t [] (line_text words) ++ areas_text (x + 1) areas) ++ rest) other ∙ append_assoc (line_text words) (areas_text (x + 1) areas) rest in
      let number : x < 2 ^ 64 = omega (arith, few, node.1) in
      let area : suc a < 2 ^ 64 = omega (arith, small.0) in
      let first = words_lead ended i (at (front ++ 0 ∷ zeros)) (at (front ++ suc a ∷ zeros)) (codes "area") (decimal x ∷ decimal (suc a) ∷ []) next (subst (Fits i) shape fits) (follows_front ended (areas_text (x + 1) areas) rest follows)
      (refl, (decimal_word x number, (decimal_word (suc a) area, tt))) (letters_clear (codes "area") refl, (decimal_clear x number, (decimal_clear (suc a) area, tt))) refl (area_says i x (suc a) front zeros node small.0 place) within in
      let more = areas_lead (i + 1) (x + 1) (front ++ suc a ∷ []) areas (omega (arith, place, longer)) (omega (arith, room, longer)) small.1
      (fits_after ended i (i + 1) (at (front ++ 0 ∷ zeros)) (at (front ++ suc a ∷ zeros)) (line_text words ++ next) next first (subst (Fits i) shape fits)) in
      let further = moved (i + 1) more.0 ((front ++ suc a ∷ []) ++ zeros) (front ++ suc a ∷ zeros) ((front ++ suc a ∷ []) ++ areas) (front ++ suc a ∷ areas) next
      (append_assoc front (suc a ∷ []) zeros) (append_assoc front (suc a ∷ []) areas) more.1 in (
        more.0,
        leads_as ended i more.0 (at (front ++ 0 ∷ zeros)) (at (front ++ suc a ∷ areas)) (areas_text x (suc a ∷ areas) ++ rest) (line_text words ++ next) rest shape
            (leads_then ended i (i + 1) more.0 (at (front ++ 0 ∷ zeros)) (at (front ++ suc a ∷ zeros)) (at (front ++ suc a ∷ areas)) (line_text words ++ next) next rest first further),
      )
