-- Loads of a node from honest disks: they are refused only where memory runs out.
use Rattle.std.proofs.Common.{◌≡◌, ◌∙◌, ℕ, suc, inl, inr, refl, sym, subst, ap, List, [], ◌∷◌, ◌++◌, take, drop, fold, Option, Some, None, IsSome}
use Rattle.std.proofs.lemmas.List.{take-append-drop}
use Rattle.oc_base.specs.declared.group.Group.{Group}
use Rattle.oc_content.specs.ContentFile.{content_of, IsFirstBad, more}
use Rattle.oc_content.specs.Promises.{RefusesContent}
use Rattle.oc_journal.specs.declared.errors.FileError.{FileError}
use Rattle.oc_journal.specs.declared.errors.FileError.TheVariants as causes
use Rattle.oc_keep.specs.Errors.{IsOutOfMemory}
use Rattle.oc_keep.specs.Files.{Disks, AreHonest, OneRose}
use Rattle.oc_keep.specs.Promises.{HoldFiles, RefusesNode}
use Rattle.oc_keep.specs.declared.errors.KeepLoad.{KeepLoad}
use Rattle.oc_keep.specs.declared.errors.KeepLoad.TheVariants as loads
use Rattle.oc_io.specs.DiskView.{DiskView}
use Rattle.oc_store.specs.ControlFiles.{IsBadAt, IsGood}
use Rattle.oc_store.specs.Promises.{RefusesSide}
use Rattle.oc_store.specs.declared.errors.Side.{Side}
use Rattle.oc_store.specs.declared.errors.Side.TheVariants.{First, Second}

-- frames after a bad one have no meaning
still_none : (bodies : List (List ℕ)) → fold more None bodies ≡ None
still_none [] = refl
still_none (body ∷ bodies) = still_none bodies

fold_behind : (xs ys : List (List ℕ)) (o : Option (List Group)) → fold more o (xs ++ ys) ≡ fold more (fold more o xs) ys
fold_behind [] ys o = refl
fold_behind (x ∷ xs) ys o = fold_behind xs ys (more o x)

bad_means_none : (bodies : List (List ℕ)) (i : ℕ) → IsFirstBad bodies i → content_of bodies ≡ None
bad_means_none bodies i bad =
    ap content_of (sym (take-append-drop (suc i) bodies))
    ∙ fold_behind (take (suc i) bodies) (drop (suc i) bodies) (Some [])
    ∙ ap (λ o. fold more o (drop (suc i) bodies)) bad.bad
    ∙ still_none (drop (suc i) bodies)

not_both : (o : Option (List Group)) → IsSome o → o ≡ None → ⊥
not_both o some none = let s : IsSome {T = List Group} None = subst (λ x. IsSome x) none some in cc

good_is_not_bad : (nodes i : ℕ) (file : List ℕ) → IsGood nodes file → IsBadAt nodes i file → ⊥
good_is_not_bad nodes i file good bad = let a = good.1 in let b = bad.1 in cc

module _ {D : Type 0} (view : D → DiskView) (nodes : ℕ) (d e : Disks D) (honest : AreHonest view d) (files : HoldFiles view nodes d) (sound : OneRose view d e → ⊥) where
  -- a control file
  control_memory : (side : Side) (cause : FileError) → RefusesSide nodes (view d.control) (view d.alternate) (view e.control) (view e.alternate) side cause → cause ≡ causes.Memory
  control_memory First causes.Disk h = absurd (sound (inl h.count))
  control_memory Second causes.Disk h = absurd (sound (inr (inl h.1.count)))
  control_memory First causes.NotJournal h = absurd (files.control.0 (h honest.control))
  control_memory Second causes.NotJournal h = absurd (files.alternate.0 (h.1 honest.alternate))
  control_memory First (causes.BadFrame i) h = absurd (good_is_not_bad nodes i _ files.control (h honest.control))
  control_memory Second (causes.BadFrame i) h = absurd (good_is_not_bad nodes i _ files.alternate (h.1 honest.alternate))
  control_memory side causes.Memory h = refl

  -- the content file
  content_memory : (cause : FileError) → RefusesContent (view d.content) (view e.content) cause → cause ≡ causes.Memory
  content_memory causes.Disk h = absurd (sound (inr (inr h.count)))
  content_memory causes.NotJournal h = absurd (files.content.0 (h honest.content))
  content_memory (causes.BadFrame i) h = let bad = h honest.content in absurd (not_both _ files.content.1 (bad_means_none _ i bad.1))
  content_memory causes.Memory h = refl

  pub only_memory : (error : KeepLoad) → RefusesNode view nodes d e error → IsOutOfMemory error
  only_memory (loads.Store error) h = control_memory error.side error.cause h
  only_memory (loads.Content cause) h = content_memory cause h.2
  only_memory loads.Memory h = refl
