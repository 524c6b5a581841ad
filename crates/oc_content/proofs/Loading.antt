-- The index as the frames of a journal are read one by one.
use Rattle.std.proofs.Common.{◌≡◌, ℕ, suc, ◌+◌, ◌<◌, Bool, IsTrue, List, [], ◌∷◌, ◌++◌, length, take, get_or, Some, None, refl, sym, ap, subst, ◌∙◌, arith}
use Rattle.std.proofs.lemmas.List.{take_more, length-take-le, take_all}
use Rattle.oc_io.specs.DiskView.{DiskView}
use Rattle.oc_journal.specs.JournalView.{JournalView}
use Rattle.oc_journal.specs.Promises.{OnlyReads}
use Rattle.oc_content.specs.declared.index.Index.{Index}
use Rattle.oc_content.specs.declared.track.Span.{Span}
use Rattle.oc_base.specs.declared.group.Group.{Group}
use Rattle.oc_content.specs.Entries.{entry_of}
use Rattle.oc_content.specs.ContentFile.{taken, content_of, IsFirstBad}
use Rattle.oc_content.specs.Indexes.{IsIndexOf, IsSized, AreTracked, paths}
use Rattle.oc_content.specs.ContentView.{IsIndexed, IsIndexedTo}
use Rattle.oc_content.proofs.Meanings.{content_of-push}
use Rattle.oc_content.proofs.Adding.{IsSized-good}

-- an index of no frames
pub IsIndexedTo-start : {D : Type 0} (view : D → DiskView) (j : JournalView D) (x : Index) → x.shelves.items ≡ [] → x.tracks.items ≡ [] → IsIndexedTo view j x 0
IsIndexedTo-start view j x lines tracks = record {
  bodies = [];
  groups = [];
  is = record {
    content = refl;
    lines = lines;
    rows = ap length tracks ∙ sym (ap length lines);
    tracked = λ _. subst (λ (ps : List (List Span)). AreTracked [] [] ps) (sym (ap paths tracks)) tt;
  };
  frames = λ _. refl;
}

-- the index is within the limits
pub IsSized-to : {D : Type 0} (view : D → DiskView) (j : JournalView D) (x : Index) (n : ℕ) → IsIndexedTo view j x n → IsSized x
IsSized-to view j x n so_far = IsSized-good so_far.bodies so_far.groups x (view j.disk).honest so_far.is

-- over an honest disk the next frame has the next number
next_number : {D : Type 0} (view : D → DiskView) (j : JournalView D) (x : Index) (n : ℕ) → n < length j.frames → (so_far : IsIndexedTo view j x n) → IsTrue (view j.disk).honest → n ≡ length so_far.bodies
next_number view j x n within so_far honest =
    sym (ap length (so_far.frames honest) ∙ length-take-le n j.frames (omega (arith, within)))

-- one frame more, which is taken
pub IsIndexedTo-more : {D : Type 0} (view : D → DiskView) (j : JournalView D) (x y : Index) (n : ℕ) (body : List ℕ) → n < length j.frames → (IsTrue (view j.disk).honest → body ≡ get_or j.frames n []) → ((bodies : List (List ℕ)) (groups : List Group) (honest : Bool) → IsIndexOf bodies groups x honest → (IsTrue honest → n ≡ length bodies) → (more : List Group) × IsIndexOf (bodies ++ body ∷ []) more y honest) → IsIndexedTo view j x n → IsIndexedTo view j y (n + 1)
IsIndexedTo-more view j x y n body within reads takes so_far =
    let added = takes so_far.bodies so_far.groups (view j.disk).honest so_far.is (next_number view j x n within so_far) in
    record {
      bodies = so_far.bodies ++ body ∷ [];
      groups = added.0;
      is = added.1;
      frames = λ honest. ap (λ (bs : List (List ℕ)). bs ++ body ∷ []) (so_far.frames honest) ∙ (ap (λ (b : List ℕ). take n j.frames ++ b ∷ []) (reads honest) ∙ sym (take_more j.frames n [] within));
    }

-- a frame that is not taken is the first bad one
pub IsFirstBad-at : {D : Type 0} (view : D → DiskView) (j : JournalView D) (x : Index) (n : ℕ) (body : List ℕ) → n < length j.frames → body ≡ get_or j.frames n [] → ((bodies : List (List ℕ)) (groups : List Group) (honest : Bool) → IsIndexOf bodies groups x honest → (IsTrue honest → n ≡ length bodies) → taken groups (entry_of body) ≡ None) → IsIndexedTo view j x n → IsTrue (view j.disk).honest → IsFirstBad j.frames n
IsFirstBad-at view j x n body within reads refuses so_far honest =
    let bad = refuses so_far.bodies so_far.groups (view j.disk).honest so_far.is (next_number view j x n within so_far) in
    let good : content_of (take n j.frames) ≡ Some so_far.groups = ap content_of (sym (so_far.frames honest)) ∙ so_far.is.content in
    record {
      within = within;
      before = rw good refl;
      bad = ap content_of (suc_more j.frames n within ∙ ap (λ (b : List ℕ). take n j.frames ++ b ∷ []) (sym reads)) ∙ (content_of-push (take n j.frames) so_far.groups body good ∙ bad);
    }
  where
    suc_more : (bs : List (List ℕ)) (k : ℕ) → k < length bs → take (suc k) bs ≡ take k bs ++ get_or bs k [] ∷ []
    suc_more bs k h = let e : k + 1 ≡ suc k = omega arith in subst (λ (m : ℕ). take m bs ≡ take k bs ++ get_or bs k [] ∷ []) e (take_more bs k [] h)

-- after the last frame the index is that of all, also of the journal as it is then
pub IsIndexed-all : {D : Type 0} (view : D → DiskView) (u v : JournalView D) (x : Index) (n : ℕ) → n ≡ length u.frames → OnlyReads view u v → IsIndexedTo view u x n → IsIndexed view v x
IsIndexed-all view u v x n end reads so_far = record {
  bodies = so_far.bodies;
  groups = so_far.groups;
  is = subst (λ (b : Bool). IsIndexOf so_far.bodies so_far.groups x b) (sym reads.disk.goes_on.honest) so_far.is;
  frames = λ honest.
      let h = subst (λ (b : Bool). IsTrue b) reads.disk.goes_on.honest honest in
      reads.frames h ∙ (sym (take_all n u.frames (omega (arith, end))) ∙ sym (so_far.frames h));
}
