-- The story of a link in memory after an event.
use Rattle.std.proofs.Common.{◌≡◌, ℕ, false, Option, None, Some, List, drop, sym, ap, ◌∙◌, subst}
use Rattle.std.specs.List.{slice_get}
use Rattle.oc_link.specs.declared.call.Call.{Call}
use Rattle.oc_link.specs.declared.call.Call.TheVariants as acts
use Rattle.oc_link.specs.declared.event.LinkEvent.{LinkEvent}
use Rattle.oc_link.specs.declared.script.Step.{Step}
use Rattle.oc_link.specs.Plays.{IsPlayed, bytes_at, event_at, fails_at}
use Rattle.oc_link.specs.Told.{Adds, IfTold, Told}

-- the next step of the rest of a script
pub next_step : (steps kept left : List Step) (at : ℕ) (step : Option Step) → drop at kept ≡ left → steps ≡ kept → step ≡ slice_get (drop at steps) 0 → slice_get left 0 ≡ step
next_step steps kept left at step view same is =
    ap (λ (xs : List Step). slice_get xs 0) (sym view) ∙ ap (λ (xs : List Step). slice_get (drop at xs) 0) (sym same) ∙ sym is

-- the event is the one that the step asks for
plays : (step : Option Step) (event : LinkEvent) (old new : Option (List Call)) → IfTold old (λ calls. event ≡ event_at step calls) → Adds (acts.Next event (bytes_at step event)) old new → Told (IsPlayed step event) old new
plays step event old None is made = tt
plays step event None (Some new) is made = made
plays step event (Some old) (Some new) is made = record { event_is = is; made = made }

-- the same for a step with two views
pub plays_as : (shown step : Option Step) (event : LinkEvent) (bytes : List ℕ) (old calls new : Option (List Call)) → shown ≡ step → calls ≡ old → fails_at step ≡ false → IfTold calls (λ told. event ≡ event_at step told) → bytes ≡ bytes_at step event → Adds (acts.Next event bytes) calls new → (fails_at shown ≡ false) × Told (IsPlayed shown event) old new
plays_as shown step event bytes old calls new same told passes is brought made =
    let P : Option Step → Type 0 = λ s. (fails_at s ≡ false) × Told (IsPlayed s event) old new in
    let Q : List ℕ → Type 0 = λ b. Adds (acts.Next event b) calls new in
    let R : Option (List Call) → Type 0 = λ c. Told (IsPlayed step event) c new in
    subst P (sym same) (passes, subst R told (plays step event calls new is (subst Q brought made)))
