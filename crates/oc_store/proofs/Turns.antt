-- Which of two files is current after a frame is appended, and after the other file is replaced.
use Rattle.std.proofs.Common.{◌≡◌, ◌⊎◌, inl, inr, ℕ, ◌<◌, Bool, true, false, List, [], ◌∷◌, ◌++◌, refl, sym, ◌∙◌, ap, arith, if◌then◌else◌, unwrap_or}
use Rattle.std.proofs.lemmas.Bool.{lt-ltb, le-ltb}
use Rattle.oc_io.specs.DiskView.{DiskView, LeavesOnly, IsConsistent}
use Rattle.oc_journal.specs.JournalFile.{frames_of, IsBeforeOrAfter}
use Rattle.oc_journal.specs.JournalView.{HasFrames}
use Rattle.oc_journal.specs.Stopped.{frames_after}
use Rattle.oc_base.specs.Stops.{is_kept_new}
use Rattle.oc_store.specs.declared.errors.Side.{Side}
use Rattle.oc_store.specs.declared.errors.Side.TheVariants.{First, Second}
use Rattle.oc_store.specs.ControlFiles.{generation_in, generation_of, current_side, at_side, current_frames, recovered_frames}
use Rattle.oc_store.specs.Sides.{opposite}
use Rattle.oc_store.specs.Turning.{IsReplaced}

-- the file of a side is the current one of the two
abbrev pub IsCurrent : Side → List (List ℕ) → List (List ℕ) → Type 0
IsCurrent side current other = current_side (at_side side current other) (at_side side other current) ≡ side

-- the side stays current with one more frame
pub current_more : (side : Side) (frames other : List (List ℕ)) (body : List ℕ) → IsCurrent side frames other → IsCurrent side (frames ++ body ∷ []) other
current_more First [] [] body h = refl
current_more First [] (x ∷ other) body h = absurd cc
current_more First (x ∷ frames) other body h = h
current_more Second [] other body h = absurd cc
current_more Second (x ∷ frames) other body h = h

-- the side stays current beside a file without frames
pub current_alone : (side : Side) (frames other : List (List ℕ)) → IsCurrent side frames other → IsCurrent side frames []
current_alone First frames other h = refl
current_alone Second [] other h = absurd cc
current_alone Second (x ∷ frames) other h = refl

-- a file of a greater generation is current beside it
pub current_other : (side : Side) (frames : List (List ℕ)) (body : List ℕ) → unwrap_or (generation_of frames) 0 < generation_in body → IsCurrent (opposite side) (body ∷ []) frames
current_other First [] body lt = refl
current_other First (x ∷ frames) body lt = rw (lt-ltb (generation_in x) (generation_in body) lt) refl
current_other Second [] body lt = refl
current_other Second (x ∷ frames) body lt = rw (le-ltb (generation_in body) (generation_in x) (omega (arith, lt))) refl

-- the frames of the current file are recovered
pub recovered_current : (side : Side) (x y : List ℕ) (frames other : List (List ℕ)) → frames_of x ≡ frames → frames_of y ≡ other → IsCurrent side frames other → recovered_frames (at_side side x y) (at_side side y x) ≡ frames
recovered_current First x y frames other e f h = ap (λ (bodies : List (List ℕ)). current_frames bodies (frames_of y)) e ∙ ap (λ (bodies : List (List ℕ)). current_frames frames bodies) f ∙ rw h refl
recovered_current Second x y frames other e f h = ap (λ (bodies : List (List ℕ)). current_frames (frames_of y) bodies) e ∙ ap (λ (bodies : List (List ℕ)). current_frames bodies frames) f ∙ rw h refl

-- two files of a side and its opposite, the other way round
pub turned : {A : Type 0} (side : Side) (x y : A) → at_side (opposite side) x y ≡ at_side side y x
turned First x y = refl
turned Second x y = refl

-- the images of a frame that is appended
pub commit_recovers : (side : Side) (x y : List ℕ) (frames other : List (List ℕ)) (body : List ℕ) → IsCurrent side frames other → IsBeforeOrAfter frames body x → frames_of y ≡ other
    → (recovered_frames (at_side side x y) (at_side side y x) ≡ frames) ⊎ (recovered_frames (at_side side x y) (at_side side y x) ≡ frames ++ body ∷ [])
commit_recovers side x y frames other body h (inl e) f = inl (recovered_current side x y frames other e f h)
commit_recovers side x y frames other body h (inr e) f = inr (recovered_current side x y (frames ++ body ∷ []) other e f (current_more side frames other body h))

-- the images of the other file that is replaced
pub turn_recovers : (side : Side) (x y : List ℕ) (frames other : List (List ℕ)) (body : List ℕ) → IsCurrent side frames other → unwrap_or (generation_of frames) 0 < generation_in body → frames_of x ≡ frames → IsReplaced other body y
    → (recovered_frames (at_side side x y) (at_side side y x) ≡ frames) ⊎ (recovered_frames (at_side side x y) (at_side side y x) ≡ body ∷ [])
turn_recovers side x y frames other body h lt e (inl f) = inl (recovered_current side x y frames other e f h)
turn_recovers side x y frames other body h lt e (inr (inl f)) = inl (recovered_current side x y frames [] e f (current_alone side frames other h))
turn_recovers side x y frames other body h lt e (inr (inr f)) =
    inr (ap (λ (a : List ℕ). recovered_frames a (at_side side y x)) (sym (turned side y x))
    ∙ ap (λ (b : List ℕ). recovered_frames (at_side (opposite side) y x) b) (sym (turned side x y))
    ∙ recovered_current (opposite side) y x (body ∷ []) frames f e (current_other side frames body lt))

-- every crash of both disks leaves the frames of each: those of the current one are recovered
pub kept_recovers : {D : Type 0} (view : D → DiskView) (side : Side) (c o : D) (frames other : List (List ℕ)) → HasFrames (view c) frames → HasFrames (view o) other → IsCurrent side frames other
    → (a b : List ℕ) → (view (at_side side c o)).may_leave a → (view (at_side side o c)).may_leave b → recovered_frames a b ≡ frames
kept_recovers view First c o frames other kept kept_other h a b left left_b = recovered_current First a b frames other (kept a left) (kept_other b left_b) h
kept_recovers view Second c o frames other kept kept_other h a b left left_b = recovered_current Second b a frames other (kept b left_b) (kept_other a left) h

-- at every moment of a commit
pub commit_moments : {D : Type 0} (view : D → DiskView) (side : Side) (c c2 o : D) (frames other : List (List ℕ)) (body : List ℕ) → IsConsistent (view o) → HasFrames (view o) other → IsCurrent side frames other
    → LeavesOnly (view c) (view c2) (IsBeforeOrAfter frames body)
    → (a b : List ℕ) → (view (at_side side c2 o)).since (view (at_side side c o)).moment a → (view (at_side side o c2)).since (view (at_side side o c)).moment b
    → (recovered_frames a b ≡ frames) ⊎ (recovered_frames a b ≡ frames ++ body ∷ [])
commit_moments view First c c2 o frames other body law kept h run a b left left_b = commit_recovers First a b frames other body h (run.each a left) (kept b (law.only_now b left_b))
commit_moments view Second c c2 o frames other body law kept h run a b left left_b = commit_recovers Second b a frames other body h (run.each b left_b) (kept a (law.only_now a left))

-- at every moment of a turning over that failed
pub failed_moments : {D : Type 0} (view : D → DiskView) (side : Side) (c o o2 : D) (frames other : List (List ℕ)) (body : List ℕ) → IsConsistent (view c) → HasFrames (view c) frames → IsCurrent side frames other
    → unwrap_or (generation_of frames) 0 < generation_in body → LeavesOnly (view o) (view o2) (IsReplaced other body)
    → (a b : List ℕ) → (view (at_side side c o2)).since (view (at_side side c o)).moment a → (view (at_side side o2 c)).since (view (at_side side o c)).moment b
    → (recovered_frames a b ≡ frames) ⊎ (recovered_frames a b ≡ body ∷ [])
failed_moments view First c o o2 frames other body law kept h above run a b left left_b = turn_recovers First a b frames other body h above (kept a (law.only_now a left)) (run.each b left_b)
failed_moments view Second c o o2 frames other body law kept h above run a b left left_b = turn_recovers Second b a frames other body h above (kept b (law.only_now b left_b)) (run.each a left)

-- at every moment of one that went well
pub turn_moments : {D : Type 0} (view : D → DiskView) (side : Side) (c o o2 : D) (frames other : List (List ℕ)) (body : List ℕ) → IsConsistent (view c) → HasFrames (view c) frames → IsCurrent side frames other
    → unwrap_or (generation_of frames) 0 < generation_in body → LeavesOnly (view o) (view o2) (IsReplaced other body)
    → (a b : List ℕ) → (view (at_side (opposite side) o2 c)).since (view (at_side side c o)).moment a → (view (at_side (opposite side) c o2)).since (view (at_side side o c)).moment b
    → (recovered_frames a b ≡ frames) ⊎ (recovered_frames a b ≡ body ∷ [])
turn_moments view First c o o2 frames other body law kept h above run a b left left_b = failed_moments view First c o o2 frames other body law kept h above run a b left left_b
turn_moments view Second c o o2 frames other body law kept h above run a b left left_b = failed_moments view Second c o o2 frames other body law kept h above run a b left left_b

-- after a commit that was stopped
current_after : (kept : Bool) (side : Side) (frames other : List (List ℕ)) (body : List ℕ) → IsCurrent side frames other → IsCurrent side (if kept then frames ++ body ∷ [] else frames) other
current_after true side frames other body h = current_more side frames other body h
current_after false side frames other body h = h

pub stopped_recovers : (side : Side) (x y : List ℕ) (frames other : List (List ℕ)) (body : List ℕ) (calls image : ℕ) → IsCurrent side frames other → frames_of x ≡ frames_after calls image frames body → frames_of y ≡ other
    → recovered_frames (at_side side x y) (at_side side y x) ≡ frames_after calls image frames body
stopped_recovers side x y frames other body calls image h e f =
    recovered_current side x y (frames_after calls image frames body) other e f (current_after (is_kept_new calls image) side frames other body h)
