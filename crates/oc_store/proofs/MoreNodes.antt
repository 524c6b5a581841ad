-- Control files of a network are those of one of more nodes.
use Rattle.std.proofs.Common.{◌≡◌, ℕ, suc, ◌≤◌, IsTrue, List, [], ◌∷◌, ◌++◌, Option, None, Some, option_map, Result, Ok, Err, refl, sym, ap, subst, ◌∙◌}
use Rattle.std.proofs.lemmas.List.Concat.{flat_map-cons}
use Rattle.oc_io.specs.DiskView.{DiskView}
use Rattle.oc_journal.specs.JournalFile.{frames_of}
use Rattle.oc_model.specs.declared.record.Record.{Record}
use Rattle.oc_record.specs.declared.fault.RecordFault.{RecordFault}
use Rattle.oc_record.specs.Reading.{decoded}
use Rattle.oc_record.proofs.MoreNodes.{all_lawful_too, decoded_too}
use Rattle.oc_store.specs.ControlFiles.{bad_or, first_bad, or_none, records_in, records_of, recovered, recovered_frames, current_side, at_side, IsGood}
use Rattle.oc_store.specs.Promises.{HasGood, IsStoreOf}
use Rattle.oc_store.specs.StoreView.{AreGood, StoreView}
use Rattle.oc_store.specs.declared.errors.Side.{Side}
use Rattle.oc_store.specs.declared.errors.Side.TheVariants.{First, Second}

-- these frames are read in both networks, as the same records
pub record AreReadAlike (few many : ℕ) (frames : List (List ℕ)) : Type 0 where
  pub records : records_of many frames ≡ records_of few frames
  pub good : first_bad many frames ≡ None

module _ (few many : ℕ) (more : few ≤ many) where
  pub frames_too : (frames : List (List ℕ)) → first_bad few frames ≡ None → AreReadAlike few many frames
  frames_too [] good = record { records = refl; good = refl }
  frames_too (body ∷ bodies) good = by_read (decoded few body) (first_bad few bodies) refl refl good (λ rest. frames_too bodies rest) where
    by_read : (result : Result (List Record) RecordFault) (later : Option ℕ) → decoded few body ≡ result → first_bad few bodies ≡ later → bad_or result later ≡ None → (first_bad few bodies ≡ None → AreReadAlike few many bodies) → AreReadAlike few many (body ∷ bodies)
    by_read (Err fault) later read rest none more_frames = absurd cc
    by_read (Ok list) (Some k) read rest none more_frames = absurd cc
    by_read (Ok list) None read rest none more_frames =
        let next : AreReadAlike few many bodies = more_frames rest in
        let wide : decoded many body ≡ Ok list = decoded_too few many more body list read in
        record {
          records = flat_map-cons (records_in many) body bodies
              ∙ ap (λ (r : Result (List Record) RecordFault). or_none r ++ records_of many bodies) wide
              ∙ ap (λ (rs : List Record). list ++ rs) next.records
              ∙ ap (λ (r : Result (List Record) RecordFault). or_none r ++ records_of few bodies) (sym read)
              ∙ sym (flat_map-cons (records_in few) body bodies);
          good = ap (λ (r : Result (List Record) RecordFault). bad_or r (first_bad many bodies)) wide ∙ ap (option_map suc) next.good;
        }

  -- a good file is good
  pub good_too : (file : List ℕ) → IsGood few file → IsGood many file
  good_too file good = (good.0, (frames_too (frames_of file) good.1).good)

  -- two good files recover the same records
  pub recovered_too : (file alternate : List ℕ) → IsGood few file → IsGood few alternate → recovered many file alternate ≡ recovered few file alternate
  recovered_too file alternate first second = by_side (current_side (frames_of file) (frames_of alternate)) where
    by_side : (side : Side) → records_of many (at_side side (frames_of file) (frames_of alternate)) ≡ records_of few (at_side side (frames_of file) (frames_of alternate))
    by_side First = (frames_too (frames_of file) first.1).records
    by_side Second = (frames_too (frames_of alternate) second.1).records

  pub store_too : {D : Type 0} (view : D → DiskView) (first second : D) (store : StoreView D) (list : List Record) → IsStoreOf view few first second store list → IsStoreOf view many first second store list
  store_too view first second store list of = record {
    lawful = all_lawful_too few many more list of.lawful;
    records_are = λ one two.
        let frames : List (List ℕ) = recovered_frames (view first).seen (view second).seen in
        let none : first_bad few frames ≡ None = subst (λ (bodies : List (List ℕ)). first_bad few bodies ≡ None) (of.frames one two) (of.good one two).current in
        of.records_are one two ∙ sym (frames_too frames none).records;
    frames = of.frames;
    side = of.side;
    generation = of.generation;
    kept = of.kept;
    good = λ one two. record { current = (frames_too store.current.frames (of.good one two).current).good; other = (frames_too store.other.frames (of.good one two).other).good };
    good_first = λ honest. good_too (view first).seen (of.good_first honest);
    good_second = λ honest. good_too (view second).seen (of.good_second honest);
    unclosed = of.unclosed;
    no_fault_first = of.no_fault_first;
    no_fault_second = of.no_fault_second;
  }
