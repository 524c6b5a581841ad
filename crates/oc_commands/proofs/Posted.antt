-- The effect of a publishing, on a link and an input.
use Rattle.std.proofs.Common.{◌≡◌, ℕ, ◌≤◌, Bool, true, false, Option, List, ◌++◌, length, refl, subst, inl, inr, arith}
use Rattle.oc_client.specs.Addresses.{IsBadAddress}
use Rattle.oc_client.specs.Lines.{Tells}
use Rattle.oc_client.specs.ProgressLines.{Grows}
use Rattle.oc_client.specs.declared.progress_lines.ProgressLines.{ProgressLines}
use Rattle.oc_client.specs.Publishing.{Came as CameOf, IsPublished, IsUnasked}
use Rattle.oc_client.specs.PutLines.{TellsWithin}
use Rattle.oc_client.specs.declared.put_end.PutEnd.{PutEnd}
use Rattle.oc_client.specs.declared.put_end.PutEnd.TheVariants as puts
use Rattle.oc_client.specs.declared.publication.Publication.{Publication}
use Rattle.oc_io.specs.Faults.{Rose}
use Rattle.oc_link.specs.Story.{Story}
use Rattle.oc_words.specs.declared.request.Upload.{Upload}
use Rattle.oc_commands.specs.AtPut.{Blames, Came, CameSo, HappenedAtPut, Published, is_done, plan_of}
use Rattle.oc_commands.specs.AtPut as posted_at
use Rattle.oc_commands.specs.Counting.{Fails, Takes}
use Rattle.oc_commands.specs.Outside.{Input, OnError, OnLink, at_link, at_source}
use Rattle.oc_commands.specs.Telling.{at_error, last_line}
use Rattle.oc_commands.specs.declared.progress.Counting.{Counting}
use Rattle.oc_commands.proofs.LinesTold.{silent_of, told_of}

blames_of : (link : OnLink) (end : PutEnd) → (end ≡ puts.Link → link.has_failed) → Blames link end
blames_of link puts.Link cause = cause refl
blames_of link puts.Done cause = tt
blames_of link puts.BadUrl cause = tt
blames_of link (puts.Refused status) cause = tt
blames_of link (puts.Length length) cause = tt
blames_of link puts.Short cause = tt
blames_of link puts.Reply cause = tt
blames_of link puts.Input cause = tt
blames_of link puts.Memory cause = tt

module _ {S : Type 0} (gives fails : S → List ℕ → S → Type 0) (ended : S → Type 0) (count : S → ℕ) (old new : S) where
  abbrev input : Input
  input = at_source gives fails ended count old new

  came_so : (bytes : List ℕ) (over : Bool) → gives old bytes new → (over ≡ true → ended new) → CameSo input bytes over
  came_so bytes true came is_over = (came, is_over refl)
  came_so bytes false came is_over = came

  came_of : (bytes : List ℕ) (over : Bool) (end : PutEnd) → CameOf gives fails old bytes new end → (over ≡ true → ended new) → (end ≡ puts.Input → Rose (count old) (count new)) → Came input bytes over end
  came_of bytes over puts.Input came is_over cause = (came, cause refl)
  came_of bytes over puts.Done came is_over cause = came_so bytes over came is_over
  came_of bytes over puts.BadUrl came is_over cause = came_so bytes over came is_over
  came_of bytes over (puts.Refused status) came is_over cause = came_so bytes over came is_over
  came_of bytes over (puts.Length length) came is_over cause = came_so bytes over came is_over
  came_of bytes over puts.Short came is_over cause = came_so bytes over came is_over
  came_of bytes over puts.Reply came is_over cause = came_so bytes over came is_over
  came_of bytes over puts.Link came is_over cause = came_so bytes over came is_over
  came_of bytes over puts.Memory came is_over cause = came_so bytes over came is_over

  module _ {L : Type 0} (story : L → Option Story) (faults : L → ℕ) (before after : L) (u : Upload) (token : Option (List ℕ)) (end : PutEnd) where
    abbrev link : OnLink
    link = at_link story faults before after

    published_of : (plan : Publication) (address : List ℕ) (shown : Option (List ℕ)) → IsPublished gives fails ended plan address shown (story before) (story after) old new end
        → (end ≡ puts.Input → Rose (count old) (count new)) → Published link input plan address shown end
    published_of plan address shown (inl (none, silent, unread)) cause = inl (none, silent, unread)
    published_of plan address shown (inr (url, is, at)) cause = inr (
      url,
      is,
      record {
        turns = at.turns;
        bytes = at.input;
        over = at.over;
        publishes = at.publishes;
        makes = at.made;
        came = came_of at.input at.over end at.came at.is_over cause;
      },
    )

    pub posted : (address : List ℕ) (shown : Option (List ℕ)) (plan : Publication) → address ≡ u.address → shown ≡ token → plan ≡ plan_of u
        → IsPublished gives fails ended plan address shown (story before) (story after) old new end → (IsBadAddress address → IsUnasked address end)
        → (end ≡ puts.Input → Rose (count old) (count new)) → (end ≡ puts.Link → Rose (faults before) (faults after))
        → (error : OnError) → posted_at.Tells error input u.progress end → HappenedAtPut link input error u token end
    posted address shown plan address_is shown_is plan_is is bad input_cause link_cause error tells = record {
      published =
          subst (λ p. Published link input p u.address token end) plan_is
          (subst (λ t. Published link input plan u.address t end) shown_is
          (subst (λ a. Published link input plan a shown end) address_is (published_of plan address shown is input_cause)));
      bad = subst (λ a. IsBadAddress a → IsUnasked a end) address_is bad;
      blames = blames_of link end link_cause;
      tells = tells;
    }

  -- the progress lines of the publishing
  module _ {E : Type 0} (writes breaks : E → List ℕ → E → Type 0) (faults : E → ℕ)
      (then : (a b c : E) (x y : List ℕ) → writes a x b → writes b y c → writes a (x ++ y) c) (then_breaks : (a b c : E) (x y : List ℕ) → writes a x b → breaks b y c → breaks a (x ++ y) c)
      (first mid : ProgressLines (Counting E)) (last : Counting E) (active : Bool) (zero : first.count ≡ 0) where
    abbrev T : Counting E → List ℕ → Counting E → Type 0
    T = Takes writes faults

    abbrev F : Counting E → List ℕ → Counting E → Type 0
    F = Fails breaks faults

    -- the lines of a count of bytes of the input
    counted : (end : PutEnd) → first.active ≡ true → (bytes : List ℕ) → (more : ℕ) → Grows T F first more mid → Tells T F mid.sink last mid.active active (last_line (is_done end) mid.count)
        → Came input bytes false end → more ≤ length bytes → (end ≡ puts.Done → more ≡ length bytes) → posted_at.Tells (at_error writes breaks faults first.sink.sink last.sink) input true end
    counted end is bytes more grows ends came within all = (
      more,
      told_of writes breaks faults then then_breaks first mid last active (is_done end) more grows ends zero is,
      record {
        bytes = bytes;
        came = came;
        within = within;
        all = all;
      },
    )

    -- the lines of a publishing that is not done
    counted_within : (end : PutEnd) → first.active ≡ true → ¬ (end ≡ puts.Done) → TellsWithin gives fails T F old new first mid end → (end ≡ puts.Input → Rose (count old) (count new))
        → Tells T F mid.sink last mid.active active (last_line (is_done end) mid.count) → posted_at.Tells (at_error writes breaks faults first.sink.sink last.sink) input true end
    counted_within end is undone w cause ends =
        counted end is w.came w.more w.grew ends (came_of w.came false end w.gave (λ e. cc) cause) w.within (λ e. absurd (undone e))

    pub tells_of : (wanted : Bool) (end : PutEnd) → first.active ≡ wanted → TellsWithin gives fails T F old new first mid end → (end ≡ puts.Input → Rose (count old) (count new))
        → (end ≡ puts.Done → (came : List ℕ) × gives old came new × Grows T F first (length came) mid)
        → Tells T F mid.sink last mid.active active (last_line (is_done end) mid.count)
        → posted_at.Tells (at_error writes breaks faults first.sink.sink last.sink) input wanted end
    tells_of false end is w cause done ends = silent_of writes breaks faults then then_breaks first mid last active (is_done end) w.more w.grew ends is
    tells_of true puts.Done is w cause done ends =
        let (came, gave, all) = done refl in
        counted puts.Done is came (length came) all ends gave (omega arith) (λ e. refl)
    tells_of true puts.BadUrl is w cause done ends = counted_within puts.BadUrl is (λ e. cc) w cause ends
    tells_of true (puts.Refused status) is w cause done ends = counted_within (puts.Refused status) is (λ e. cc) w cause ends
    tells_of true (puts.Length found) is w cause done ends = counted_within (puts.Length found) is (λ e. cc) w cause ends
    tells_of true puts.Short is w cause done ends = counted_within puts.Short is (λ e. cc) w cause ends
    tells_of true puts.Reply is w cause done ends = counted_within puts.Reply is (λ e. cc) w cause ends
    tells_of true puts.Link is w cause done ends = counted_within puts.Link is (λ e. cc) w cause ends
    tells_of true puts.Input is w cause done ends = counted_within puts.Input is (λ e. cc) w cause ends
    tells_of true puts.Memory is w cause done ends = counted_within puts.Memory is (λ e. cc) w cause ends
