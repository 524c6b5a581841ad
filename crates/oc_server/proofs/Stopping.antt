-- Single deeds that ended partway through.
use Rattle.std.proofs.Common.{◌≡◌, ℕ, false, Option, List, [], ◌∷◌, refl, sym, subst}
use Rattle.oc_link.specs.declared.call.Call.{Call}
use Rattle.oc_link.specs.declared.counts.LinkCounts.{LinkCounts}
use Rattle.oc_io.specs.DiskView.{DiskView}
use Rattle.oc_keep.specs.KeptView.{IsHonest, NodeSurvives, node_of}
use Rattle.oc_model.specs.declared.input.Input.{Input}
use Rattle.oc_deeds.specs.Deeds.{Accepts, Deed, Takes}
use Rattle.oc_server.specs.Looks.{LookStops}
use Rattle.oc_server.specs.Noting.{LineStops, NoteBreaks}
use Rattle.oc_deeds.specs.Under.{IsUnder, under_of}
use Rattle.oc_deeds.specs.Parts.{Part}
use Rattle.oc_server.specs.Parts.{Stops}
use Rattle.oc_server.specs.Scenes.{Breaks, running, setting}
use Rattle.oc_deeds.specs.Under.{Idle, Noting, Taking, Under}
use Rattle.oc_deeds.specs.declared.ends.TurnEnd.{TurnEnd}
use Rattle.oc_deeds.specs.declared.ends.TurnEnd.TheVariants as ends
use Rattle.oc_server.specs.declared.server.Server.{Server}
use Rattle.oc_server.proofs.Parts.{stops_first}
use Rattle.oc_server.proofs.Steps.{line_breaks_as, look_breaks, memory_breaks}

module _ {D L K : Type 0} (view : D → DiskView) (takes fails : K → List ℕ → K → Type 0) (faults : K → ℕ) (story : L → Option (List Call)) (counts : L → LinkCounts) (takes_nothing : (k : K) → takes k [] k) where
  -- a part that stops with nothing under way
  pub stops_idle : (end : TurnEnd) (p : Part) (a c : Server D L K) → a.kept.closed ≡ false
      → Breaks view takes fails faults story counts end Idle a c → Stops view takes fails faults story counts end p a c
  stops_idle end p a c is_open breaks = stops_first view takes fails faults story counts takes_nothing end Idle p a c is_open (λ honest. tt) breaks

  -- a part that stops where memory ran out, and the files are as they were
  pub memory_stops : (p : Part) (a c : Server D L K) → a.kept.closed ≡ false → c.kept ≡ a.kept → c.sink ≡ a.sink → story c.link ≡ story a.link → counts c.link ≡ counts a.link
      → (IsHonest view a.kept → NodeSurvives view a.kept (node_of a.kept)) → Stops view takes fails faults story counts ends.Memory p a c
  memory_stops p a c is_open kept sink told counted survives =
      stops_idle ends.Memory p a c is_open (memory_breaks view takes fails faults story counts takes_nothing a c kept sink told counted survives)

  -- a part that stops in a look
  pub look_stops : (end : TurnEnd) (p : Part) (a c : Server D L K) → a.kept.closed ≡ false → c.sink ≡ a.sink → story c.link ≡ story a.link → counts c.link ≡ counts a.link
      → LookStops view end a.kept c.kept → Stops view takes fails faults story counts end p a c
  look_stops end p a c is_open sink told counted stops =
      stops_idle end p a c is_open (look_breaks view takes fails faults story counts takes_nothing end a c sink told counted stops)

  -- a part that stops in its only deed, with the input or line of that deed under way
  pub stops_deed : (end : TurnEnd) (under : Under) (d : Deed) (p : Part) (a c : Server D L K) → a.kept.closed ≡ false
      → (IsHonest view a.kept → p (setting a) (running a) ≡ d ∷ []) → IsUnder under (d ∷ [])
      → Breaks view takes fails faults story counts end under a c → Stops view takes fails faults story counts end p a c
  stops_deed end under d p a c is_open is next breaks =
      stops_first view takes fails faults story counts takes_nothing end under p a c is_open (λ honest. subst (λ (ds : List Deed). IsUnder under ds) (sym (is honest)) next) breaks

  -- a part that stops in the line of its only deed
  pub note_stops : (end : TurnEnd) (line : List ℕ) (d : Deed) (p : Part) (a c : Server D L K) → a.kept.closed ≡ false
      → (IsHonest view a.kept → p (setting a) (running a) ≡ d ∷ []) → Noting line ≡ under_of d
      → NoteBreaks view takes fails faults story counts end line a c → Stops view takes fails faults story counts end p a c
  note_stops ends.Memory line d p a c is_open is next breaks = stops_idle ends.Memory p a c is_open breaks
  note_stops ends.Sink line d p a c is_open is next breaks = stops_deed ends.Sink (Noting line) d p a c is_open is next breaks
  note_stops ends.Disk line d p a c is_open is next breaks = absurd breaks
  note_stops ends.Full line d p a c is_open is next breaks = absurd breaks
  note_stops ends.Link line d p a c is_open is next breaks = absurd breaks
  note_stops ends.Served line d p a c is_open is next breaks = absurd breaks

  -- a part that stops in the line of its only deed, by the statement of the output
  pub line_stops : (end : TurnEnd) (text line : List ℕ) (d : Deed) (p : Part) (a c : Server D L K) → a.kept.closed ≡ false
      → (IsHonest view a.kept → p (setting a) (running a) ≡ d ∷ []) → Noting line ≡ under_of d
      → text ≡ line → c.kept ≡ a.kept → story c.link ≡ story a.link → counts c.link ≡ counts a.link
      → LineStops fails faults end text a.sink c.sink → (IsHonest view a.kept → NodeSurvives view a.kept (node_of a.kept)) → Stops view takes fails faults story counts end p a c
  line_stops end text line d p a c is_open is next same kept told counted stops survives =
      note_stops end line d p a c is_open is next (line_breaks_as view takes fails faults story counts end text line a c same kept told counted stops survives)

  -- a part that stops in its input
  pub takes_stops : (end : TurnEnd) (i : Input) (p : Part) (a c : Server D L K) → a.kept.closed ≡ false
      → (IsHonest view a.kept → p (setting a) (running a) ≡ Takes i ∷ [])
      → Breaks view takes fails faults story counts end (Taking i) a c → Stops view takes fails faults story counts end p a c
  takes_stops end i p a c is_open is breaks = stops_deed end (Taking i) (Takes i) p a c is_open is refl breaks

  pub accepts_stops : (end : TurnEnd) (i : Input) (p : Part) (a c : Server D L K) → a.kept.closed ≡ false
      → (IsHonest view a.kept → p (setting a) (running a) ≡ Accepts i ∷ [])
      → Breaks view takes fails faults story counts end (Taking i) a c → Stops view takes fails faults story counts end p a c
  accepts_stops end i p a c is_open is breaks = stops_deed end (Taking i) (Accepts i) p a c is_open is refl breaks
