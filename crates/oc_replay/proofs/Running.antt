-- A stage's world while a run is under way.
use Rattle.std.proofs.Common.{◌≡◌, ℕ, ◌+◌, ◌*◌, ◌<◌, ◌≤◌, List, [], ◌∷◌, length, take, drop, get_or, slice_get, Some, fold, refl, sym, ap, ◌∙◌, subst, arith}
use Rattle.std.specs.List.{AllByRecursion}
use Rattle.std.proofs.lemmas.List.{drop_more, take_all}
use Rattle.std.proofs.lemmas.Option.{get_or_from_slice_get, slice_get-get_or}
use Rattle.std.proofs.lemmas.List.Sums.{fold_more}
use Rattle.oc_base.specs.declared.limits.TheConstants.{MAX_TIME}
use Rattle.oc_model.specs.declared.event.Event.{Event}
use Rattle.oc_model.specs.declared.event.Event.TheVariants as events
use Rattle.oc_model.specs.Lawful.{IsEvent}
use Rattle.oc_model.specs.NextWorld.{next_world, world_after}
use Rattle.oc_model.specs.World.{World, ids}
use Rattle.oc_model.specs.WorldBounds.{IsDistinct, AreBefore, IsWithinLimits}
use Rattle.oc_model.proofs.Clocks.{clocks-next_world, range_distinct}
use Rattle.oc_model.proofs.GoesOn.{ids-next_world, limits-next_world}
use Rattle.oc_schedule.specs.declared.scale.TheConstants.{MAX_LARGE_LINES}
use Rattle.oc_replay.specs.Stage.{HasTimeFor}
use Rattle.oc_replay.specs.Opening.{IsOpening}

-- a property of the rest is one of its first item, and of the rest after it
pub All-drop : {A : Type 0} (P : A → Type 0) (xs : List A) (i : ℕ) (x : A) → i < length xs → x ≡ get_or xs i x → AllByRecursion P (drop i xs) → P x × AllByRecursion P (drop (i + 1) xs)
All-drop P xs i x within read all =
    let both : P (get_or xs i x) × AllByRecursion P (drop (i + 1) xs) = subst (AllByRecursion P) (drop_more xs i x within) all in
    (subst P (sym read) both.0, both.1)

-- the event at a place
abbrev pub event_at : List Event → ℕ → Event
event_at es i = get_or es i events.Settle

pub found : (es : List Event) (i : ℕ) → i < length es → slice_get es i ≡ Some (event_at es i)
found es i within = slice_get-get_or es i events.Settle within

-- an event that is found at a place is the one that is read there
pub as_found : (es : List Event) (i : ℕ) (e : Event) → slice_get es i ≡ Some e → e ≡ get_or es i e
as_found es i e is = sym (get_or_from_slice_get es i e e is)

pub as_read : (es : List Event) (i : ℕ) → i < length es → event_at es i ≡ get_or es i (event_at es i)
as_read es i within = as_found es i (event_at es i) (found es i within)

-- the world after events, as a fold
after_fold : (w : World) (es : List Event) → world_after w es ≡ fold next_world w es
after_fold w [] = refl
after_fold w (e ∷ es) = after_fold (next_world w e) es

-- the world after one event more
pub after-take : (i : ℕ) (first w new : World) (es : List Event) (e : Event) → i < length es → e ≡ get_or es i e → new ≡ next_world w e → w ≡ world_after first (take i es) → new ≡ world_after first (take (i + 1) es)
after-take i first w new es e within read next so_far =
    let folded : w ≡ fold next_world first (take i es) = so_far ∙ after_fold first (take i es) in
    next ∙ ap (λ (v : World). next_world v e) folded ∙ ap (next_world (fold next_world first (take i es))) read ∙ sym (fold_more next_world first es i e within) ∙ sym (after_fold first (take (i + 1) es))

-- the world after the first i of these events, from the one that was opened: the rest are within
-- their ranges, and no clock is further past the greatest time than the remaining number of events
-- allows
pub record IsOnTheWay (opened w : World) (es : List Event) (i : ℕ) : Type 0 where
  pub played : w ≡ world_after opened (take i es)
  pub lawful : AllByRecursion (IsEvent (length (ids w))) (drop i es)
  pub ids : ids w ≡ ids opened
  pub clocks : AreBefore (MAX_TIME + 60 * i) w
  pub limits : IsWithinLimits w

-- with all events played, the world is the last one
pub whole_run : (opened w : World) (es : List Event) (i : ℕ) → length es ≤ i → IsOnTheWay opened w es i → w ≡ world_after opened es
whole_run opened w es i past way = way.played ∙ ap (world_after opened) (take_all i es past)

-- the events that may be given to a stage with this world
pub record MayBeGiven (w : World) (e : Event) : Type 0 where
  pub event : IsEvent (length (ids w)) e
  pub time : HasTimeFor w e

-- clocks that are so early leave every event its time
early_enough : (w : World) (e : Event) (i : ℕ) → i < MAX_LARGE_LINES → AreBefore (MAX_TIME + 60 * i) w → HasTimeFor w e
early_enough w events.Settle i few before = λ x up. omega (arith, few, before x)
early_enough w events.Heal i few before = λ x up. omega (arith, few, before x)
early_enough w e i few before = tt

module _ (opened : World) (es : List Event) (opening : IsOpening opened es) where
  -- the run is at its beginning
  pub begins : IsOnTheWay opened opened es 0
  begins = record {
    played = refl;
    lawful = opening.lawful;
    ids = refl;
    clocks = λ x. omega (arith, opening.clocks x);
    limits = opening.limits;
  }

  -- the next event may be given
  pub next_given : (w : World) (e : Event) (i : ℕ) → i < length es → e ≡ get_or es i e → IsOnTheWay opened w es i → MayBeGiven w e
  next_given w e i within read way = record {
    event = (All-drop (IsEvent (length (ids w))) es i e within read way.lawful).0;
    time = early_enough w e i (omega (arith, within, opening.few)) way.clocks;
  }

  -- the run is on the way after the next event
  pub goes_on : (w new : World) (e : Event) (i : ℕ) → i < length es → e ≡ get_or es i e → new ≡ next_world w e → IsOnTheWay opened w es i → IsOnTheWay opened new es (i + 1)
  goes_on w new e i within read next way =
      let both = All-drop (IsEvent (length (ids w))) es i e within read way.lawful in
      let same : ids new ≡ ids w = ap ids next ∙ ids-next_world w e in
      let apart : IsDistinct (ids w) = subst IsDistinct (sym (way.ids ∙ opening.numbered)) (range_distinct 1 (length (ids opened))) in
      let later : AreBefore (MAX_TIME + 60 * i + 60) new =
      subst (AreBefore (MAX_TIME + 60 * i + 60)) (sym next) (clocks-next_world w e (length (ids w)) (MAX_TIME + 60 * i) apart both.0 (omega arith) way.clocks) in
      record {
        played = after-take i opened w new es e within read next way.played;
        lawful = subst (λ (xs : List ℕ). AllByRecursion (IsEvent (length xs)) (drop (i + 1) es)) (sym same) both.1;
        ids = same ∙ way.ids;
        clocks = λ x. omega (arith, later x);
        limits = subst IsWithinLimits (sym next) (limits-next_world w e way.limits);
      }
