-- A running node with its files, its output and its link, from one moment to a later one.
use Rattle.std.specs.Prelude.{◌≡◌, ◌≤◌, ◌⊎◌, ℕ, false, true, Option, List, [], ◌∷◌, ◌++◌, length}
use Rattle.std.specs.List.{AllByRecursion}
use Rattle.oc_link.specs.Calls.{IsFront}
use Rattle.oc_link.specs.Counts.{CountsFailure}
use Rattle.oc_link.specs.declared.call.Call.{Call}
use Rattle.oc_link.specs.declared.counts.LinkCounts.{LinkCounts}
use Rattle.oc_io.specs.DiskView.{DiskView}
use Rattle.oc_io.specs.Faults.{NoFall, Rose}
use Rattle.oc_keep.specs.Calls.{DoesNothing}
use Rattle.oc_keep.specs.ControlStep.{control_step}
use Rattle.oc_keep.specs.Files.{Disks, AllGoOn, Leaves, OneRose, SameAsEither, Survives}
use Rattle.oc_keep.specs.KeptView.{AtAnyMoment, IsFullAt, IsHonest, KeptView, NodeSurvives, disks_of, going_by, header_of, node_of}
use Rattle.oc_keep.specs.Promises.{IsSameNode, IsSameSeat}
use Rattle.oc_keep.specs.ReadyView.{told_of}
use Rattle.oc_keep.specs.declared.errors.KeepError.{KeepError}
use Rattle.oc_keep.specs.declared.errors.KeepError.TheVariants as keeps
use Rattle.oc_model.specs.declared.input.Input.{Input}
use Rattle.oc_model.specs.Node.{Header, Node}
use Rattle.oc_model.specs.Step.{step}
use Rattle.oc_node.specs.OutcomeView.{OutcomeView}
use Rattle.oc_base.specs.declared.limits.TheConstants.{MAX_NODES}
use Rattle.oc_policy.specs.declared.deciding.TheConstants.{MAX_RULES}
use Rattle.oc_routes.specs.Sights.{about_of}
use Rattle.oc_deeds.specs.Done.{AreDone, CountsAll}
use Rattle.oc_deeds.specs.Lawful.{IsLawfulDial, IsLawfulWork, IsPlaced}
use Rattle.oc_deeds.specs.Under.{Idle, Taking, Under, under_line}
use Rattle.oc_deeds.specs.Areas.{areas_among}
use Rattle.oc_deeds.specs.Changes.{Change, ByInput, ByAreas, KeepAreas, changes_of}
use Rattle.oc_deeds.specs.Records.{is_record}
use Rattle.oc_deeds.specs.Deeds.{Deed, Running, Setting, config_behind, line, lines}
use Rattle.oc_server.specs.Looks.{LooksOn, LooksOnly, RunsSafely}
use Rattle.oc_server.specs.Moments.{AtEachPrefix}
use Rattle.oc_deeds.specs.Sending.{AreSendable}
use Rattle.oc_deeds.specs.Within.{IsWithin}
use Rattle.oc_deeds.specs.declared.ends.TurnEnd.{TurnEnd}
use Rattle.oc_deeds.specs.declared.ends.TurnEnd.TheVariants as ends
use Rattle.oc_server.specs.declared.server.Server.{Server}

-- The view of a server

abbrev pub running : {D L K : Type 0} → Server D L K → Running
running s = record { node = node_of s.kept; outbox = s.outbox; works = s.works; dials = s.dials; config = s.config; tally = s.tally; about = about_of s.about }

abbrev pub setting : {D L K : Type 0} → Server D L K → Setting
setting s = record {
  me = s.kept.node.control.me;
  log = s.log;
}

-- The facts between any two calls

-- a server whose messages can be sent, and whose works are lawful
pub record IsLawful {D L K : Type 0} (s : Server D L K) : Type 0 where
  pub sendable : AreSendable s.kept.node.control.nodes s.outbox
  pub works : AllByRecursion (IsLawfulWork s.kept.node.control.nodes s.kept.node.control.me) s.works
  pub dials : AllByRecursion (IsLawfulDial s.kept.node.control.nodes) s.dials

-- each place of the configuration is that of a node, which goes by its areas, and there are not too many rules; a node that writes no record
-- has room for all ids that there can be
pub record IsSet {D L K : Type 0} (s : Server D L K) : Type 0 where
  pub placed : IsPlaced s.kept.node.control.nodes s.config.addresses
  pub rules : length s.config.rules ≤ MAX_RULES
  pub areas : s.kept.node.control.areas ≡ areas_among s.kept.node.control.nodes s.config.areas
  pub roomy : is_record s.log ≡ false → s.kept.node.control.nodes ≡ MAX_NODES

-- no disk failed, the node is set so, and all is lawful
pub record IsServing {D L K : Type 0} (s : Server D L K) : Type 0 where
  pub is_open : s.kept.closed ≡ false
  pub set : IsSet s
  pub lawful : IsLawful s

-- Deeds that were done

-- an input, within all ranges, was taken into the files, none of which was full for it, with this outcome, whose messages can be sent; whatever
-- the disks do, the control state is that of the control step
pub record KeepsOne {D : Type 0} (view : D → DiskView) (i : Input) (outcome : OutcomeView) (old new : KeptView D) : Type 0 where
  pub is_open : new.closed ≡ false
  pub same : IsSameNode old.node.control new.node.control
  pub goes_on : AllGoOn view (disks_of old) (disks_of new)
  pub within : IsWithin old.node.control.nodes old.node.control.me i
  pub fits : ¬ IsFullAt old i
  pub control : new.node.control ≡ (control_step old i).node
  pub outcome_is : IsHonest view old → outcome ≡ told_of (step (node_of old) i)
  pub sendable : AreSendable old.node.control.nodes outcome.sends
  pub node : IsHonest view old → node_of new ≡ (step (node_of old) i).node
  pub survives : IsHonest view old → NodeSurvives view new (node_of new)
  pub generation : IsHonest view old → new.store.generation ≡ old.store.generation
  pub any_moment : IsHonest view old → AtAnyMoment view old new (SameAsEither (node_of old) (step (node_of old) i).node)

-- inputs that were taken one after another, and areas that were gone by, between which the files were only looked at or turned over
abbrev pub KeepsAll : {D : Type 0} → (D → DiskView) → List Change → KeptView D → KeptView D → Type 0
KeepsAll {D} view [] old new = LooksOnly view old new
KeepsAll {D} view (ByInput i ∷ cs) old new = (at next : KeptView D) × (outcome : OutcomeView) × LooksOnly view old at × KeepsOne view i outcome at next × KeepsAll view cs next new
KeepsAll {D} view (ByAreas areas ∷ cs) old new = (at : KeptView D) × LooksOnly view old at × KeepsAll view cs (going_by (areas_among at.node.control.nodes areas) at) new

-- where a record is written, the deeds leave the areas of the node as they are
pub record KeepsRecord {D L K : Type 0} (deeds : List Deed) (old new : Server D L K) : Type 0 where
  pub each : KeepAreas old.kept.node.control deeds
  pub areas : new.kept.node.control.areas ≡ old.kept.node.control.areas

-- The deeds were done: their lines were written, no disk and no output failed, and no file was full for an input.
pub record Did {D L K : Type 0} (view : D → DiskView) (takes : K → List ℕ → K → Type 0) (faults : K → ℕ) (story : L → Option (List Call)) (counts : L → LinkCounts) (deeds : List Deed) (old new : Server D L K) : Type 0 where
  pub is_open : new.kept.closed ≡ false
  pub same : IsSameSeat old.kept.node.control new.kept.node.control
  pub recorded : is_record old.log ≡ true → KeepsRecord deeds old new
  pub config : new.config ≡ config_behind deeds old.config
  pub set : IsSet old → IsSet new
  pub log : new.log ≡ old.log
  pub goes_on : AllGoOn view (disks_of old.kept) (disks_of new.kept)
  pub no_fall : NoFall (faults old.sink) (faults new.sink)
  pub counted : CountsAll deeds (counts old.link) (counts new.link)
  pub keeps : KeepsAll view (changes_of deeds) old.kept new.kept
  pub lawful : IsLawful old → IsLawful new
  pub text : takes old.sink (lines (setting old) deeds) new.sink
  pub done : IsHonest view old.kept → AreDone (setting old) deeds (running old) (running new) (story old.link) (story new.link)
  pub moments : IsHonest view old.kept
      → AtEachPrefix view (header_of old.kept.node.control) old.kept.node.control.me takes (line (setting old)) deeds (node_of old.kept) (disks_of old.kept) old.sink (disks_of new.kept) new.sink

-- Inputs and lines under way at the end

-- The node that every crash leaves where a disk or the output failed: with one more input under way, the node before it or after it.
abbrev pub LeavesUnder : {D : Type 0} → (D → DiskView) → KeptView D → KeptView D → Node → Under → Type 0
LeavesUnder view old new n (Taking i) = Leaves view (header_of old.node.control) old.node.control.me (disks_of new) (SameAsEither n (step n i).node)
LeavesUnder view old new n under = Survives view (header_of old.node.control) old.node.control.me (disks_of new) n

-- the node that every crash leaves, by this end
abbrev pub LeavesAt : {D : Type 0} → (D → DiskView) → KeptView D → KeptView D → TurnEnd → Node → Under → Type 0
LeavesAt view old new ends.Disk n under = LeavesUnder view old new n under
LeavesAt view old new ends.Sink n under = LeavesUnder view old new n under
LeavesAt view old new end n under = LeavesUnder view old new n Idle

-- The node that every crash at any moment leaves until this end; with one more input under way, before it or after it.
abbrev pub EndsOn : {D : Type 0} → (D → DiskView) → Header → ℕ → Node → Under → Disks D → Disks D → Type 0
EndsOn view h me n (Taking i) d e = RunsSafely view h me d e (SameAsEither n (step n i).node) ⊎ (e ≡ d)
EndsOn view h me n under d e = (k : ℕ) × LooksOn view h me n k d e

-- some prefix of another line was written after the text, where the output failed, and else nothing more
abbrev pub WritesAt : {K : Type 0} → (K → List ℕ → K → Type 0) → (K → List ℕ → K → Type 0) → K → K → TurnEnd → List ℕ → List ℕ → Type 0
WritesAt takes fails old new ends.Sink text line = (front : List ℕ) × IsFront front line × fails old (text ++ front) new
WritesAt takes fails old new end text line = takes old text new

-- the cause of an end
abbrev pub HasCause : {D K : Type 0} → (D → DiskView) → (K → ℕ) → TurnEnd → Under → KeptView D → KeptView D → K → K → LinkCounts → LinkCounts → Type 0
HasCause view faults ends.Disk under old new sink after before behind = OneRose view (disks_of old) (disks_of new)
HasCause view faults ends.Sink under old new sink after before behind = Rose (faults sink) (faults after)
HasCause view faults ends.Full (Taking i) old new sink after before behind = IsFullAt new i
HasCause view faults ends.Full under old new sink after before behind = ⊥
HasCause view faults ends.Link under old new sink after before behind = Rose before.listening behind.listening
HasCause view faults ends.Memory under old new sink after before behind = Unit {0}
HasCause view faults ends.Served under old new sink after before behind = ⊥

-- A file is full for the input that was under way exactly where this is the end, and then nothing was done, and no disk failed.
abbrev pub MeetsFull : {D : Type 0} → (D → DiskView) → TurnEnd → Under → KeptView D → KeptView D → Type 0
MeetsFull view ends.Full (Taking i) old new = IsFullAt old i × DoesNothing view old new
MeetsFull view ends.Full under old new = ⊥
MeetsFull view ends.Disk (Taking i) old new = ¬ IsFullAt old i
MeetsFull view ends.Sink (Taking i) old new = ¬ IsFullAt old i
MeetsFull view end under old new = Unit {0}

-- a failure of the link is counted where the link was asked in vain, and none at any other end
abbrev pub CountsAt : TurnEnd → LinkCounts → LinkCounts → Type 0
CountsAt ends.Link old new = CountsFailure old new
CountsAt end old new = new ≡ old

-- The end came at once, perhaps with one input or one line under way.
pub record Breaks {D L K : Type 0} (view : D → DiskView) (takes fails : K → List ℕ → K → Type 0) (faults : K → ℕ) (story : L → Option (List Call)) (counts : L → LinkCounts) (end : TurnEnd) (under : Under) (old new : Server D L K) : Type 0 where
  pub text : WritesAt takes fails old.sink new.sink end [] (under_line (setting old) under)
  pub leaves : IsHonest view old.kept → LeavesAt view old.kept new.kept end (node_of old.kept) under
  pub moments : IsHonest view old.kept → EndsOn view (header_of old.kept.node.control) old.kept.node.control.me (node_of old.kept) under (disks_of old.kept) (disks_of new.kept)
  pub goes_on : AllGoOn view (disks_of old.kept) (disks_of new.kept)
  pub cause : HasCause view faults end under old.kept new.kept old.sink new.sink (counts old.link) (counts new.link)
  pub meets : MeetsFull view end under old.kept new.kept
  pub told : story new.link ≡ story old.link
  pub counted : CountsAt end (counts old.link) (counts new.link)

-- The end came at once after these deeds.
abbrev pub BreaksAfter : {D L K : Type 0} → (D → DiskView) → (K → List ℕ → K → Type 0) → (K → List ℕ → K → Type 0) → (K → ℕ) → (L → Option (List Call)) → (L → LinkCounts) → TurnEnd → List Deed → Under → Server D L K → Server D L K → Type 0
BreaksAfter {D} {L} {K} view takes fails faults story counts end deeds under old new = (at : Server D L K)
    × Did view takes faults story counts deeds old at × Breaks view takes fails faults story counts end under at new

-- One input

-- the cause for which an input is not taken; a node whose disks failed takes none
abbrev pub end_of : KeepError → TurnEnd
end_of keeps.Closed = ends.Disk
end_of keeps.Memory = ends.Memory
end_of keeps.Full = ends.Full
end_of keeps.Disk = ends.Disk

-- the cause for which an input was not taken into the files
abbrev pub KeepCause : {D : Type 0} → (D → DiskView) → TurnEnd → Input → KeptView D → KeptView D → Type 0
KeepCause view ends.Disk i old new = OneRose view (disks_of old) (disks_of new)
KeepCause view ends.Full i old new = IsFullAt new i
KeepCause view ends.Memory i old new = Unit {0}
KeepCause view end i old new = ⊥

-- an input was not taken into the files
pub record KeepStops {D : Type 0} (view : D → DiskView) (end : TurnEnd) (i : Input) (old new : KeptView D) : Type 0 where
  pub leaves : IsHonest view old → LeavesAt view old new end (node_of old) (Taking i)
  pub any_moment : IsHonest view old → AtAnyMoment view old new (SameAsEither (node_of old) (step (node_of old) i).node)
  pub goes_on : AllGoOn view (disks_of old) (disks_of new)
  pub cause : KeepCause view end i old new
  pub meets : MeetsFull view end (Taking i) old new
