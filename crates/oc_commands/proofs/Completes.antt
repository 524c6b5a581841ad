-- The effect of an end leaves no other end to a command that has all it needs.
use Rattle.std.proofs.Common.{◌≡◌, ℕ, Bool, inl, inr, refl, subst, ap, List, Option, Some, None}
use Rattle.oc_keep.proofs.Complete.{only_memory}
use Rattle.oc_client.specs.Completeness.{Completes, IsUnrefused}
use Rattle.oc_client.specs.declared.end.GetEnd.{GetEnd}
use Rattle.oc_client.specs.declared.end.GetEnd.TheVariants as gets
use Rattle.oc_keep.specs.Files.{Disks, AreHonest, OneRose}
use Rattle.oc_keep.specs.Promises.{HoldFiles}
use Rattle.oc_io.specs.DiskView.{DiskView}
use Rattle.oc_io.specs.Faults.{Rose}
use Rattle.oc_link.specs.Calls.{Told}
use Rattle.oc_link.specs.Story.{Story}
use Rattle.oc_words.specs.declared.request.Download.{Download}
use Rattle.oc_words.specs.declared.request.CheckedNode.{CheckedNode}
use Rattle.oc_words.specs.declared.request.Invocation.{Invocation}
use Rattle.oc_words.specs.declared.request.Invocation.TheVariants.{Check, Get}
use Rattle.oc_commands.specs.AtGet.{Downloaded}
use Rattle.oc_model.specs.declared.header.Sizes.{Sizes}
use Rattle.oc_commands.specs.AtCheck.{HappenedAtCheck, sizes_of}
use Rattle.oc_commands.specs.Complete.{IsDoneOrMemory, IsServed, once, plainly}
use Rattle.oc_commands.specs.Ends.{status_of, status_of_cause, status_of_check, status_of_get}
use Rattle.oc_commands.specs.Outside.{Input, OnError, OnFiles, OnLink, OnNode, OnStage, Output, at_files, at_link}
use Rattle.oc_commands.specs.Run.{Happened}
use Rattle.oc_words.specs.Status.{number_of}
use Rattle.oc_commands.specs.declared.checking.CheckEnd.{CheckEnd}
use Rattle.oc_commands.specs.declared.checking.CheckEnd.TheVariants as checks
use Rattle.oc_commands.specs.declared.ending.End.{End}
use Rattle.oc_commands.specs.declared.ending.End.TheVariants.{Helped, HelpFailed, Versioned, VersionFailed, Misused, NoMemory, Replayed, Generated, Merged, Listed, Checked, CheckedConfigured, NoToken, Got, Published, Served}
use Rattle.oc_commands.proofs.Tokens.{untaken, untokened}

-- the output did not fail
abbrev pub IsSound : Output → Type 0
IsSound output = (text : List ℕ) → output.cut_off text → ⊥

-- a request for one node or for one download is for no other
same_member : (asked : Option Invocation) (m n : CheckedNode) (f g : Option (List ℕ)) → asked ≡ Some (Check m f) → asked ≡ Some (Check n g) → n ≡ m
same_member asked m n f g is also = cc

same_download : (asked : Option Invocation) (d e : Download) → asked ≡ Some (Get d) → asked ≡ Some (Get e) → e ≡ d
same_download asked d e is also = cc

module _ {D : Type 0} (view : D → DiskView) (old new : Disks D) (output : Output) (sound : IsSound output) (honest : AreHonest view old) (unfailed : OneRose view old new → ⊥) where
  check_done : (n : Sizes) (id : ℕ) (end : CheckEnd) → HoldFiles view n.nodes old → HappenedAtCheck (at_files view old new) output n id end → IsDoneOrMemory (number_of (status_of_check end))
  check_done n id checks.Done files h = inl refl
  check_done n id checks.Sink files h = let (text, shows, cut) = h.0 in absurd (sound _ cut.1)
  check_done n id (checks.Load error) files h =
      inr (ap (λ e. number_of (status_of_cause e)) (only_memory view n.nodes old new honest files unfailed error h.0.0))

  pub checked : (input : Input) (error : OnError) (stage : OnStage) (link : OnLink) (token : Input) (node : OnNode) (asked : Option Invocation) (m : CheckedNode) (f : Option (List ℕ)) (end : End) → asked ≡ Some (Check m f) → HoldFiles view m.nodes old
      → Happened (record { asked = asked; input = input; output = output; error = error; stage = stage; files = at_files view old new; link = link; token = token; node = node }) end
      → IsDoneOrMemory (number_of (status_of end))
  checked input error stage link token node asked m f Helped is files h = let also = h.0 in cc
  checked input error stage link token node asked m f HelpFailed is files h = let also = h.0 in cc
  checked input error stage link token node asked m f Versioned is files h = let also = h.0 in cc
  checked input error stage link token node asked m f VersionFailed is files h = let also = h.0 in cc
  checked input error stage link token node asked m f Misused is files h = let also = h.0 in cc
  checked input error stage link token node asked m f NoMemory is files h = inr refl
  checked input error stage link token node asked m f (Replayed large end) is files h = let also = h.0.2 in cc
  checked input error stage link token node asked m f (Generated end) is files h = let also = h.0.1 in cc
  checked input error stage link token node asked m f (Merged end) is files h = let also = h.0 in cc
  checked input error stage link token node asked m f (Listed end) is files h = let also = h.0.1 in cc
  checked input error stage link token node asked m f (Checked end) is files h =
      let (n, g, also, at) = h.0 in
      check_done (sizes_of m) m.id end files (subst (λ (x : CheckedNode). HappenedAtCheck (at_files view old new) output (sizes_of x) x.id end) (same_member asked m n f g is also) at)
  checked input error stage link token node asked m f (CheckedConfigured end) is files h = let also = h.0.2 in cc
  checked input error stage link token node asked m f (NoToken end) is files h = absurd (untokened asked (Check m f) h.0.0 is refl h.0.1)
  checked input error stage link token node asked m f (Got end) is files h = let also = h.0.1 in cc
  checked input error stage link token node asked m f (Published end) is files h = let also = h.0.1 in cc
  checked input error stage link token node asked m f (Served end) is files h = let also = h.0.2 in cc

module _ {L : Type 0} (story : L → Option Story) (faults : L → ℕ) (old new : L) (output : Output) (sound : IsSound output) (unfailed : Rose (faults old) (faults new) → ⊥) where
  unrefused : (address : List ℕ) (start : Option ℕ) (progress : Bool) (end : GetEnd) → IsServed address start (story old) (story new) → Downloaded (at_link story faults old new) output (once address start progress) None end → IsUnrefused end
  unrefused address start progress end s h =
      let told : Told (Completes (plainly start) s.url end) (Some s.before) (Some s.after) = subst (λ o. Told (Completes (plainly start) s.url end) o (Some s.after)) s.told_before (subst (λ o. Told (Completes (plainly start) s.url end) (story old) o) s.told_after (h.complete s.url s.address_is)) in
      told s.made s.dials_are s.lead

  get_done : (address : List ℕ) (start : Option ℕ) (progress : Bool) (end : GetEnd) → IsUnrefused end → Downloaded (at_link story faults old new) output (once address start progress) None end → IsDoneOrMemory (number_of (status_of_get end))
  get_done address start progress gets.Done u h = inl refl
  get_done address start progress gets.BadUrl u h = absurd u
  get_done address start progress (gets.Refused status) u h = absurd u
  get_done address start progress gets.Redirects u h = absurd u
  get_done address start progress gets.Reply u h = absurd u
  get_done address start progress gets.Link u h = absurd (unfailed h.blames)
  get_done address start progress gets.Sink u h = absurd (sound _ h.wrote)
  get_done address start progress gets.Memory u h = inr refl

  pub fetched : (input : Input) (error : OnError) (stage : OnStage) (files : OnFiles) (token : Input) (node : OnNode) (asked : Option Invocation) (address : List ℕ) (start : Option ℕ) (progress : Bool) (end : End) → asked ≡ Some (Get (once address start progress)) → IsServed address start (story old) (story new)
      → Happened (record { asked = asked; input = input; output = output; error = error; stage = stage; files = files; link = at_link story faults old new; token = token; node = node }) end
      → IsDoneOrMemory (number_of (status_of end))
  fetched input error stage files token node asked address start progress Helped is s h = let also = h.0 in cc
  fetched input error stage files token node asked address start progress HelpFailed is s h = let also = h.0 in cc
  fetched input error stage files token node asked address start progress Versioned is s h = let also = h.0 in cc
  fetched input error stage files token node asked address start progress VersionFailed is s h = let also = h.0 in cc
  fetched input error stage files token node asked address start progress Misused is s h = let also = h.0 in cc
  fetched input error stage files token node asked address start progress NoMemory is s h = inr refl
  fetched input error stage files token node asked address start progress (Replayed large end) is s h = let also = h.0.2 in cc
  fetched input error stage files token node asked address start progress (Generated end) is s h = let also = h.0.1 in cc
  fetched input error stage files token node asked address start progress (Merged end) is s h = let also = h.0 in cc
  fetched input error stage files token node asked address start progress (Listed end) is s h = let also = h.0.1 in cc
  fetched input error stage files token node asked address start progress (Checked end) is s h = let also = h.0.2 in cc
  fetched input error stage files token node asked address start progress (CheckedConfigured end) is s h = let also = h.0.2 in cc
  fetched input error stage files token node asked address start progress (NoToken end) is s h = absurd (untokened asked (Get (once address start progress)) h.0.0 is refl h.0.1)
  fetched input error stage files token node asked address start progress (Got end) is s h =
      let (d, also, bearer, took, at) = h.0 in
      let same_d = same_download asked (once address start progress) d is also in
      let none = untaken token d.token_file bearer (ap (λ (x : Download). x.token_file) same_d) took in
      let same =
      subst (λ x. Downloaded (at_link story faults old new) output x None end) same_d
      (subst (λ t. Downloaded (at_link story faults old new) output d t end) none at.did) in
      get_done address start progress end (unrefused address start progress end s same) same
  fetched input error stage files token node asked address start progress (Published end) is s h = let also = h.0.1 in cc
  fetched input error stage files token node asked address start progress (Served end) is s h = let also = h.0.2 in cc
