-- A property of no act, one act, one run after another and a round of ticks holds of every run of settle and heal.
use Rattle.std.proofs.Common.{◌≡◌, ℕ, zero, suc, ◌+◌, ◌*◌, Bool, true, false, ◌==◌, nat_lt, filter, Option, Some, List, [], ◌∷◌, ◌++◌, length, refl, ap, sym, ◌∙◌}
use Rattle.oc_base.specs.declared.cert.Cert.{Cert}
use Rattle.oc_model.specs.declared.event.Act.{Act}
use Rattle.oc_model.specs.declared.event.Act.TheVariants as acts
use Rattle.oc_model.specs.declared.input.Input.TheVariants as inputs
use Rattle.oc_model.specs.declared.message.Body.{Body}
use Rattle.oc_model.specs.declared.message.Body.TheVariants as bodies
use Rattle.oc_model.specs.declared.mode.Mode.{Mode}
use Rattle.oc_model.specs.declared.mode.Mode.TheVariants as modes
use Rattle.oc_model.specs.Heal.{rises, rises_in, comes_to_act, asks, joins, below, tells_rank, joins_by, places_at, places_if, places, member_before, is_placed, up_members, up_others, all_join, heals}
use Rattle.oc_model.specs.Runs.{after_acts, Run, rests, does, and_then, for_each, last_body, delivers_last}
use Rattle.oc_model.specs.Settle.{ticks, all_tick, takes_ack, takes_any_ack, checks_in, checks_in_if, checks_in_if_joined, all_check_in, first_five_steps, tells_while, tells_all, deepest_first, all_tell, settles}
use Rattle.oc_model.specs.World.{World, node, mode_of, up_ids, after_act}

-- an act that is no tick
abbrev pub IsNoTick : Act → Type 0
IsNoTick (acts.At x (inputs.Tick t)) = ⊥
IsNoTick a = Unit {0}

-- a run from this world on has it, with this many seconds of ticks
pub record IsCourse (R : ℕ → World → Run → Type 0) : Type 0 where
  pub rests : (w : World) → R 0 w (rests w)
  pub does : (w : World) (a : Act) → IsNoTick a → R 0 w (does a w)
  pub follows : (j k : ℕ) (w : World) (r : Run) (f : World → Run) → R j w r → R k r.world (f r.world) → R (j + k) w (and_then r f)
  pub all_tick : (more : ℕ) (w : World) → R more w (all_tick more w)

module _ (R : ℕ → World → Run → Type 0) (k : IsCourse R) where
  -- the property holds of a run for each of some ids
  course_each : (f : ℕ → World → Run) → ((x : ℕ) (w : World) → R 0 w (f x w)) → (xs : List ℕ) (w : World) → R 0 w (for_each xs f w)
  course_each f each [] w = k.rests w
  course_each f each (x ∷ xs) w = k.follows 0 0 w (f x w) (for_each xs f) (each x w) (course_each f each xs (f x w).world)

  course_delivers : (w : World) → R 0 w (delivers_last w)
  course_delivers w = k.does w (acts.Deliver (length w.net)) tt

  -- Settle

  course_takes_ack : (b : Option Body) (w : World) → R 0 w (takes_ack b w)
  course_takes_ack (Some (bodies.CheckAck seq upto rank ancestors)) w = course_delivers w
  course_takes_ack b w = k.rests w

  course_checks_in : (x : ℕ) (w : World) → R 0 w (checks_in x w)
  course_checks_in x w =
      let first : Run = does (acts.At x inputs.CheckNow) w in
      let told : Run = and_then first delivers_last in
      k.follows 0 0 w told takes_any_ack (k.follows 0 0 w first delivers_last (k.does w (acts.At x inputs.CheckNow) tt) (course_delivers first.world)) (course_takes_ack (last_body told.world) told.world)

  course_checks_in_if : (m : Mode) (x : ℕ) (w : World) → R 0 w (checks_in_if m x w)
  course_checks_in_if (modes.Joined p) x w = course_checks_in x w
  course_checks_in_if modes.Idle x w = k.rests w
  course_checks_in_if (modes.Asking p) x w = k.rests w
  course_checks_in_if modes.Acting x w = k.rests w

  course_all_check_in : (w : World) → R 0 w (all_check_in w)
  course_all_check_in w = course_each checks_in_if_joined (λ x v. course_checks_in_if (mode_of v x) x v) (up_ids w) w

  pub course_five_steps : (w : World) → R 30 w (first_five_steps w)
  course_five_steps w =
      let one : Run = all_tick 0 w in
      let two : Run = and_then one all_check_in in
      let three : Run = and_then two (all_tick 15) in
      let four : Run = and_then three all_check_in in
      k.follows 15 15 w four (all_tick 15)
      (k.follows 15 0 w three all_check_in
      (k.follows 0 15 w two (all_tick 15) (k.follows 0 0 w one all_check_in (k.all_tick 0 w) (course_all_check_in one.world)) (k.all_tick 15 two.world))
      (course_all_check_in three.world))
      (k.all_tick 15 four.world)

  course_tells_while : (n x : ℕ) (waiting : List Cert) (w : World) → R 0 w (tells_while n x waiting w)
  course_tells_while zero x waiting w = k.rests w
  course_tells_while (suc n) x [] w = k.rests w
  course_tells_while (suc n) x (f ∷ fs) w =
      k.follows 0 0 w (checks_in x w) (λ v. tells_while n x (node v x).control.kept.log.waiting v) (course_checks_in x w)
      (course_tells_while n x (node (checks_in x w).world x).control.kept.log.waiting (checks_in x w).world)

  course_all_tell : (w : World) → R 0 w (all_tell w)
  course_all_tell w = course_each tells_all (λ x v. course_tells_while (length (node v x).control.kept.log.waiting) x (node v x).control.kept.log.waiting v) (deepest_first (length w.processes) w) w

  -- settle takes thirty seconds
  pub course_settles : (w : World) → R 30 w (settles w)
  course_settles w = k.follows 30 0 w (first_five_steps w) all_tell (course_five_steps w) (course_all_tell (first_five_steps w).world)

  -- Heal

  course_rises : (m : Mode) (x : ℕ) (w : World) → R 0 w (rises m x w)
  course_rises modes.Idle x w = k.does w (acts.At x inputs.CheckNow) tt
  course_rises (modes.Asking p) x w = k.does w (acts.At x (inputs.Unreachable p)) tt
  course_rises (modes.Joined p) x w = k.does w (acts.At x (inputs.Unreachable p)) tt
  course_rises modes.Acting x w = k.rests w

  course_rises_in : (n m : ℕ) (w : World) → R 0 w (rises_in n m w)
  course_rises_in zero m w = k.rests w
  course_rises_in (suc n) m w = k.follows 0 0 w (rises (mode_of w m) m w) (rises_in n m) (course_rises (mode_of w m) m w) (course_rises_in n m (rises (mode_of w m) m w).world)

  course_asks : (p x : ℕ) (w : World) → R 0 w (asks p x w)
  course_asks p x w = k.follows 0 0 w (does (acts.At x (inputs.Relocate p)) w) delivers_last (k.does w (acts.At x (inputs.Relocate p)) tt) (course_delivers (does (acts.At x (inputs.Relocate p)) w).world)

  course_joins : (p x : ℕ) (w : World) → R 0 w (joins p x w)
  course_joins p x w = k.follows 0 0 w (asks p x w) delivers_last (course_asks p x w) (course_delivers (asks p x w).world)

  course_tells_rank : (m p : ℕ) (w : World) → R 0 w (tells_rank m p w)
  course_tells_rank m p w =
      let first : Run = does (acts.At m inputs.CheckNow) w in
      k.follows 0 0 w first (λ v. for_each (below m p v) checks_in v) (k.does w (acts.At m inputs.CheckNow) tt) (course_each checks_in course_checks_in (below m p first.world) first.world)

  course_joins_by : (m p x : ℕ) (w : World) → R 0 w (joins_by m p x w)
  course_joins_by m p x w =
      let asked : Run = asks m x w in
      let told : Run = and_then asked (tells_rank m p) in
      k.follows 0 0 w told (joins p x) (k.follows 0 0 w asked (tells_rank m p) (course_asks m x w) (course_tells_rank m p asked.world)) (course_joins p x told.world)

  course_places_at : (b : Bool) (m p x : ℕ) (w : World) → R 0 w (places_at b m p x w)
  course_places_at true m p x w = course_joins m x w
  course_places_at false m p x w = course_joins_by m p x w

  course_places_if : (b : Bool) (m x : ℕ) (w : World) → R 0 w (places_if b m x w)
  course_places_if true m x w = k.rests w
  course_places_if false m x w = course_places_at (member_before w m x == m) m (member_before w m x) x w

  course_all_join : (m : ℕ) (w : World) → R 0 w (all_join m w)
  course_all_join m w = course_each (places m) (λ x v. course_places_if (is_placed v m x) m x v) (filter (nat_lt m) (up_members w) ++ up_others w) w

  -- heal takes sixty
  pub course_heals : (m : ℕ) (w : World) → R 60 w (heals m w)
  course_heals m w =
      let one : Run = comes_to_act m w in
      let two : Run = and_then one first_five_steps in
      let three : Run = and_then two (all_join m) in
      k.follows 30 30 w three settles
      (k.follows 30 0 w two (all_join m) (k.follows 0 30 w one first_five_steps (course_rises_in (2 * m) m w) (course_five_steps one.world)) (course_all_join m two.world))
      (course_settles three.world)

-- The world of a run is the one after its acts

-- acts in a row are done one list after another
pub after_acts-append : (w : World) (as' bs : List Act) → after_acts w (as' ++ bs) ≡ after_acts (after_acts w as') bs
after_acts-append w [] bs = refl
after_acts-append w (a ∷ rest) bs = after_acts-append (after_act w a) rest bs

abbrev pub LeadsTo : World → Run → Type 0
LeadsTo w r = r.world ≡ after_acts w r.acts

-- one run after another
leads_then : (w : World) (r : Run) (f : World → Run) → LeadsTo w r → LeadsTo r.world (f r.world) → LeadsTo w (and_then r f)
leads_then w r f first second =
    second ∙ (ap (λ v. after_acts v (f r.world).acts) first ∙ sym (after_acts-append w r.acts (f r.world).acts))

leads_each : (f : ℕ → World → Run) → ((x : ℕ) (w : World) → LeadsTo w (f x w)) → (xs : List ℕ) (w : World) → LeadsTo w (for_each xs f w)
leads_each f each [] w = refl
leads_each f each (x ∷ xs) w = leads_then w (f x w) (for_each xs f) (each x w) (leads_each f each xs (f x w).world)

leads : IsCourse (λ k w r. LeadsTo w r)
leads = record {
  rests = λ w. refl;
  does = λ w a no_tick. refl;
  follows = λ j k w r f first second. leads_then w r f first second;
  all_tick = λ more w. leads_each (ticks more) (λ x v. refl) (up_ids w) w;
}

-- settle leads to the world after its acts
pub settles_leads : (w : World) → (settles w).world ≡ after_acts w (settles w).acts
settles_leads w = course_settles (λ k v r. LeadsTo v r) leads w

-- the world after heal is the world after its acts
pub heals_leads : (m : ℕ) (w : World) → (heals m w).world ≡ after_acts w (heals m w).acts
heals_leads m w = course_heals (λ k v r. LeadsTo v r) leads m w
