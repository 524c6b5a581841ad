-- The bodies that an index names.
use Rattle.std.proofs.Common.{◌≡◌, ℕ, zero, suc, ◌+◌, ◌-◌, ◌<◌, ◌≤◌, Bool, false, IsTrue, List, [], ◌∷◌, ◌++◌, length, take, drop, refl, sym, ◌∙◌, ap, subst, arith}
use Rattle.std.specs.List.{All}
use Rattle.std.proofs.lemmas.List.{drop-take, take-take, map-append, drop-drop}
use Rattle.oc_io.specs.DiskView.{DiskView}
use Rattle.oc_journal.specs.JournalFile.{frames_of}
use Rattle.oc_journal.specs.JournalView.{at_extent, at_extents, IsSettled, IsIndexed, HasFrames}
use Rattle.oc_journal.specs.declared.extent.Extent.{Extent}

-- a body in a prefix of a file
at_extent-front : (file : List ℕ) (at len offset : ℕ) → at + len ≤ offset → take len (drop at file) ≡ drop at (take (at + len) (take offset file))
at_extent-front file at len offset within =
    sym (drop-take at len file) ∙ ap (λ (l : List ℕ). drop at l) (sym (take-take (at + len) offset file within))

-- two files with the same prefix have the same bodies within it
pub at_extents-same_front : (a b : List ℕ) (extents : List Extent) (offset : ℕ) → take offset a ≡ take offset b → All (λ extent. (9 ≤ extent.at) × (extent.at + extent.len ≤ offset)) extents → at_extents a extents ≡ at_extents b extents
at_extents-same_front a b [] offset same within = refl
at_extents-same_front a b (extent ∷ extents) offset same within =
    let here = (within 0 extent (omega arith)).1 in
    let first : at_extent a extent ≡ at_extent b extent = at_extent-front a extent.at extent.len offset here ∙ ap (λ (l : List ℕ). drop extent.at (take (extent.at + extent.len) l)) same ∙ sym (at_extent-front b extent.at extent.len offset here) in
    ap (λ (l : List ℕ). l ∷ at_extents a extents) first
    ∙ ap (λ (l : List (List ℕ)). at_extent b extent ∷ l) (at_extents-same_front a b extents offset same (λ k d inside. within (suc k) d (omega arith)))

-- two files with the same bytes after the first gate have the same bodies there
pub at_extents-same_back : (a b : List ℕ) (extents : List Extent) (offset : ℕ) → drop 9 a ≡ drop 9 b → All (λ extent. (9 ≤ extent.at) × (extent.at + extent.len ≤ offset)) extents → at_extents a extents ≡ at_extents b extents
at_extents-same_back a b [] offset same within = refl
at_extents-same_back a b (extent ∷ extents) offset same within =
    let far : extent.at ≡ 9 + (extent.at - 9) = omega (arith, (within 0 extent (omega arith)).0) in
    let behind : (file : List ℕ) → drop extent.at file ≡ drop (extent.at - 9) (drop 9 file) = λ file. ap (λ (n : ℕ). drop n file) far ∙ sym (drop-drop (extent.at - 9) 9 file) in
    let first : at_extent a extent ≡ at_extent b extent = ap (take extent.len) (behind a ∙ ap (drop (extent.at - 9)) same ∙ sym (behind b)) in
    ap (λ (l : List ℕ). l ∷ at_extents a extents) first
    ∙ ap (λ (l : List (List ℕ)). at_extent b extent ∷ l) (at_extents-same_back a b extents offset same (λ k d inside. within (suc k) d (omega arith)))

-- one extent more
pub within_push : (extents : List Extent) (extent : Extent) (offset later : ℕ) → All (λ s. (9 ≤ s.at) × (s.at + s.len ≤ offset)) extents → offset ≤ later → 9 ≤ extent.at → extent.at + extent.len ≤ later → All (λ s. (9 ≤ s.at) × (s.at + s.len ≤ later)) (extents ++ extent ∷ [])
within_push [] extent offset later within le far ends zero d inside = (far, ends)
within_push [] extent offset later within le far ends (suc k) d inside = absurd (omega arith)
within_push (s ∷ extents) extent offset later within le far ends zero d inside = let w = within 0 d (omega arith) in (w.0, omega (arith, w.1))
within_push (s ∷ extents) extent offset later within le far ends (suc k) d inside =
    within_push extents extent offset later (λ j e below. within (suc j) e (omega arith)) le far ends k d (omega arith)

-- with one extent more there is an extent
pub snoc_some : (extents : List Extent) (extent : Extent) → ¬ (extents ++ extent ∷ [] ≡ [])
snoc_some [] extent none = absurd cc
snoc_some (s ∷ extents) extent none = absurd cc

-- an appended frame
pub at_extents-push : (v w : DiskView) (extents : List Extent) (extent : Extent) (offset : ℕ) (body : List ℕ) → take offset w.seen ≡ take offset v.seen → All (λ s. (9 ≤ s.at) × (s.at + s.len ≤ offset)) extents → at_extent w.seen extent ≡ body → at_extents w.seen (extents ++ extent ∷ []) ≡ at_extents v.seen extents ++ body ∷ []
at_extents-push v w extents extent offset body same within new =
    map-append (at_extent w.seen) extents (extent ∷ [])
    ∙ ap (λ (l : List (List ℕ)). l ++ at_extent w.seen extent ∷ []) (at_extents-same_front w.seen v.seen extents offset same within)
    ∙ ap (λ (b : List ℕ). at_extents v.seen extents ++ b ∷ []) new

-- a settled disk has the frames that a read gives
pub HasFrames-settled : (v : DiskView) (offset : ℕ) → IsSettled v offset → HasFrames v (frames_of v.seen)
HasFrames-settled v offset settled = λ c left. ap frames_of (settled.safe c left)

-- A frame was written after the frames of an index, and its extent was added.
module _ (v w : DiskView) (extents new : List Extent) (offset len : ℕ) (body : List ℕ) (closed : Bool) (indexed : IsIndexed v extents offset closed) (shut : closed ≡ false) (items : new ≡ extents ++ record { at = offset + 5; len = len } ∷ []) (same_len : len ≡ length body) (honest : w.honest ≡ v.honest) (size : offset + 5 + length body < w.size) (settled : IsTrue v.honest → IsSettled w (offset + 5 + length body)) (added : IsTrue v.honest → frames_of w.seen ≡ frames_of v.seen ++ body ∷ []) (there : IsTrue v.honest → take (length body) (drop (offset + 5) w.seen) ≡ body) (front : IsTrue v.honest → take offset w.seen ≡ take offset v.seen) where
  abbrev extent : Extent
  extent = record { at = offset + 5; len = len }

  pub appended-frames : IsTrue v.honest → at_extents w.seen new ≡ at_extents v.seen extents ++ body ∷ []
  appended-frames h =
      let here : at_extent w.seen extent ≡ body = ap (λ (n : ℕ). take n (drop (offset + 5) w.seen)) same_len ∙ there h in
      ap (at_extents w.seen) items ∙ at_extents-push v w extents extent offset body (front h) indexed.within here

  appended-frames_of : IsTrue v.honest → at_extents w.seen new ≡ frames_of w.seen
  appended-frames_of h = appended-frames h ∙ ap (λ (fs : List (List ℕ)). fs ++ body ∷ []) (indexed.frames shut h) ∙ sym (added h)

  back : IsTrue w.honest → IsTrue v.honest
  back h = subst (λ (b : Bool). IsTrue b) honest h

  pub appended-indexed : (later : ℕ) → later ≡ offset + (5 + len) → IsIndexed w new later closed
  appended-indexed later is =
      let later_is : later ≡ offset + 5 + length body = omega (arith, same_len) in
      let start = indexed.start in
      record {
        within = subst (λ (s : List Extent). All (λ extent. (9 ≤ extent.at) × (extent.at + extent.len ≤ later)) s) (sym items) (within_push extents extent offset later indexed.within (omega arith) (omega arith) (omega arith));
        start = omega arith;
        first = λ none. absurd (snoc_some extents extent (sym items ∙ none));
        size = omega (arith, size);
        settled = λ _ h. subst (IsSettled w) (sym later_is) (settled (back h));
        frames = λ _ h. appended-frames_of (back h);
      }

  pub appended-kept : IsTrue v.honest → HasFrames w (at_extents w.seen new)
  appended-kept h = subst (HasFrames w) (sym (appended-frames_of h)) (HasFrames-settled w (offset + 5 + length body) (settled h))

-- an index of no frames
pub IsIndexed-none : (v w : DiskView) (extents : List Extent) (offset : ℕ) (closed : Bool) → extents ≡ [] → w.honest ≡ v.honest → 8 ≤ offset → offset < v.size → v.size ≤ w.size → (IsTrue v.honest → IsSettled w 8) → (IsTrue v.honest → frames_of w.seen ≡ []) → IsIndexed w extents 8 closed
IsIndexed-none v w extents offset closed empty honest start size grown settled none =
    let back : IsTrue w.honest → IsTrue v.honest = λ h. subst (λ (b : Bool). IsTrue b) honest h in
    record {
      within = subst (λ (s : List Extent). All (λ extent. (9 ≤ extent.at) × (extent.at + extent.len ≤ 8)) s) (sym empty) (λ k d inside. absurd (omega arith));
      start = omega arith;
      first = λ _. refl;
      size = omega arith;
      settled = λ _ h. settled (back h);
      frames = λ _ h. ap (at_extents w.seen) empty ∙ sym (none (back h));
    }

-- a part of a body, from an offset in it on
pub peeked : (file : List ℕ) (at len skip n : ℕ) → skip ≤ len → n ≤ len - skip → take n (drop (at + skip) file) ≡ take n (drop skip (take len (drop at file)))
peeked file at len skip n within fits =
    let whole : len ≡ skip + (len - skip) = omega arith in
    let part : drop skip (take len (drop at file)) ≡ take (len - skip) (drop (at + skip) file) = ap (λ (k : ℕ). drop skip (take k (drop at file))) whole ∙ drop-take skip (len - skip) (drop at file) ∙ ap (take (len - skip)) (drop-drop skip at file) in
    sym (ap (take n) part ∙ take-take n (len - skip) (drop (at + skip) file) fits)
