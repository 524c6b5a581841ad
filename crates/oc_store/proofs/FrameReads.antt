-- Reading the frames of a journal one after the other.
use Rattle.std.proofs.Common.{◌≡◌, ℕ, suc, ◌+◌, ◌<◌, ◌≤◌, IsErr, List, [], ◌∷◌, ◌++◌, length, drop, get_or, option_map, Option, None, Some, Result, Ok, Err, refl, sym, ap, ◌∙◌, append_assoc, arith}
use Rattle.std.proofs.lemmas.List.{append-nil, drop_more, length-drop, nil_from_length}
use Rattle.std.proofs.lemmas.List.Concat.{flat_map-cons, flat_map-append}
use Rattle.oc_model.specs.declared.record.Record.{Record}
use Rattle.oc_record.specs.declared.fault.RecordFault.{RecordFault}
use Rattle.oc_record.specs.Reading.{decoded}
use Rattle.oc_store.specs.ControlFiles.{or_none, records_in, records_of, bad_or, first_bad}

-- the frames before an index are read: these are their records, and none of them is bad
pub record IsRead (nodes : ℕ) (frames : List (List ℕ)) (records : List Record) (number : ℕ) : Type 0 where
  pub whole : records ++ records_of nodes (drop number frames) ≡ records_of nodes frames
  pub good : first_bad nodes frames ≡ option_map (λ k. number + k) (first_bad nodes (drop number frames))

-- no number more
same : (o : Option ℕ) → o ≡ option_map (λ k. 0 + k) o
same None = refl
same (Some k) = ap (λ (n : ℕ). Some n) (omega arith)

pub starts : (nodes : ℕ) (frames : List (List ℕ)) → IsRead nodes frames [] 0
starts nodes frames = record { whole = refl; good = same (first_bad nodes frames) }

-- one number more
one_more : (number : ℕ) (o : Option ℕ) → option_map (λ k. number + k) (option_map suc o) ≡ option_map (λ k. number + 1 + k) o
one_more number None = refl
one_more number (Some k) = ap (λ (n : ℕ). Some n) (omega arith)

-- a frame was read
pub goes_on : (nodes : ℕ) (frames : List (List ℕ)) (records more : List Record) (number : ℕ) → number < length frames → decoded nodes (get_or frames number []) ≡ Ok more → IsRead nodes frames records number → IsRead nodes frames (records ++ more) (number + 1)
goes_on nodes frames records more number lt read so_far =
    let body = get_or frames number [] in
    let cut : drop number frames ≡ body ∷ drop (number + 1) frames = drop_more frames number [] lt in
    let rest = drop (number + 1) frames in
    let here : records_of nodes (drop number frames) ≡ more ++ records_of nodes rest =
    ap (records_of nodes) cut ∙ flat_map-cons (records_in nodes) body rest ∙ ap (λ (r : Result (List Record) RecordFault). or_none r ++ records_of nodes rest) read in
    let bad : first_bad nodes (drop number frames) ≡ option_map suc (first_bad nodes rest) =
    ap (first_bad nodes) cut ∙ ap (λ (r : Result (List Record) RecordFault). bad_or r (first_bad nodes rest)) read in
    record {
      whole = append_assoc records more (records_of nodes rest) ∙ ap (λ (rs : List Record). records ++ rs) (sym here) ∙ so_far.whole;
      good = so_far.good ∙ ap (option_map (λ k. number + k)) bad ∙ one_more number (first_bad nodes rest);
    }

-- a frame is bad
bad_here : (number : ℕ) (r : Result (List Record) RecordFault) (later : Option ℕ) → IsErr r → option_map (λ k. number + k) (bad_or r later) ≡ Some number
bad_here number (Ok records) later is = absurd cc
bad_here number (Err fault) later is = ap (λ (n : ℕ). Some n) (omega arith)

pub is_bad : (nodes : ℕ) (frames : List (List ℕ)) (records : List Record) (number : ℕ) → number < length frames → IsErr (decoded nodes (get_or frames number [])) → IsRead nodes frames records number → first_bad nodes frames ≡ Some number
is_bad nodes frames records number lt bad so_far =
    let cut : drop number frames ≡ get_or frames number [] ∷ drop (number + 1) frames = drop_more frames number [] lt in
    so_far.good ∙ ap (λ (bodies : List (List ℕ)). option_map (λ k. number + k) (first_bad nodes bodies)) cut ∙ bad_here number (decoded nodes (get_or frames number [])) (first_bad nodes (drop (number + 1) frames)) bad

-- all frames are read
pub ends_all : (nodes : ℕ) (frames : List (List ℕ)) (records : List Record) (number : ℕ) → length frames ≤ number → IsRead nodes frames records number → (records ≡ records_of nodes frames) × (first_bad nodes frames ≡ None)
ends_all nodes frames records number le so_far =
    let none : drop number frames ≡ [] = nil_from_length (drop number frames) (omega (arith, le, length-drop number frames)) in (
      sym (append-nil records) ∙ ap (λ (bodies : List (List ℕ)). records ++ records_of nodes bodies) (sym none) ∙ so_far.whole,
      so_far.good ∙ ap (λ (bodies : List (List ℕ)). option_map (λ k. number + k) (first_bad nodes bodies)) none,
    )

-- the records of one frame
pub one_frame : (nodes : ℕ) (body : List ℕ) → records_of nodes (body ∷ []) ≡ records_in nodes body
one_frame nodes body = flat_map-cons (records_in nodes) body [] ∙ append-nil (records_in nodes body)

-- the records of one more frame
pub one_frame_more : (nodes : ℕ) (frames : List (List ℕ)) (body : List ℕ) → records_of nodes (frames ++ body ∷ []) ≡ records_of nodes frames ++ records_in nodes body
one_frame_more nodes frames body =
    flat_map-append (records_in nodes) frames (body ∷ []) ∙ ap (λ (rs : List Record). records_of nodes frames ++ rs) (one_frame nodes body)

-- a good frame after good ones leaves them good
pub good_more : (nodes : ℕ) (frames : List (List ℕ)) (body : List ℕ) → first_bad nodes frames ≡ None → first_bad nodes (body ∷ []) ≡ None → first_bad nodes (frames ++ body ∷ []) ≡ None
good_more nodes [] body good one = one
good_more nodes (x ∷ frames) body good one = by_read (decoded nodes x) (first_bad nodes frames) (first_bad nodes (frames ++ body ∷ [])) good (λ h. good_more nodes frames body h one) where
  by_read : (r : Result (List Record) RecordFault) (later more : Option ℕ) → bad_or r later ≡ None → (later ≡ None → more ≡ None) → bad_or r more ≡ None
  by_read (Ok records) None more h next = ap (option_map suc) (next refl)
  by_read (Ok records) (Some k) more h next = absurd cc
  by_read (Err fault) later more h next = absurd cc
