-- The parts of the runs of heal.
use Rattle.std.proofs.Common.{◌≡◌, ℕ, zero, suc, ◌*◌, Bool, true, false, ◌==◌, ◌&&◌, Option, Some, None, is_some, List, refl, ap, sym, subst, ◌∙◌, eq-eqb, ne_eqb}
use Rattle.std.specs.List.{list_all}
use Rattle.oc_model.specs.declared.event.Act.TheVariants as acts
use Rattle.oc_model.specs.declared.input.Input.TheVariants as inputs
use Rattle.oc_model.specs.declared.mode.Mode.{Mode}
use Rattle.oc_model.specs.declared.mode.Mode.TheVariants.{Idle, Asking, Joined, Acting}
use Rattle.oc_model.specs.Adopting.{is_acting}
use Rattle.oc_model.specs.Heal.{leader, has_room, is_able, rises, rises_in, places_at, places_if}
use Rattle.oc_model.specs.NextWorld.{heal_acts, heal_acts_if}
use Rattle.oc_model.specs.Runs.{Run, rests, and_then, for_each}
use Rattle.oc_model.specs.World.{World, mode_of, up_ids}
use Rattle.oc_model.proofs.Ready.{acts_true}
use Rattle.oc_calm.specs.Cluster.{IsRoll}
use Rattle.oc_calm.specs.Played.{act_run, five_run, is_placed_under, join_by_run, join_run}
use Rattle.oc_calm.specs.CalmRuns.{heal_run, joiners, leader_of, member_below, place_run, places_run, rise_left, rise_once_run, rise_run, room_of, settle_run}
use Rattle.oc_calm.specs.Timely.{AreTimely}
use Rattle.oc_calm.proofs.Each.{timely_front}

-- The leader rises

-- at first the leader may act twice as often as its id says
pub rise_starts : (m n : ℕ) (w : World) → n ≡ 2 * m → rise_run m w ≡ rise_left n m w
unfolding rise_run rise_left
rise_starts m n w e = ap (λ (k : ℕ). rises_in k m w) (sym e)

-- the leader acts once and goes on while it may still act
pub rise_goes : (k n m : ℕ) (w : World) → k ≡ suc n → rise_left k m w ≡ and_then (rise_once_run m w) (rise_left n m)
unfolding rise_left rise_once_run
rise_goes k n m w e = ap (λ (j : ℕ). rises_in j m w) e

-- the leader rests once it has no act left
pub rise_over : (n m : ℕ) (w : World) → n ≡ 0 → rise_left n m w ≡ rests w
unfolding rise_left
rise_over n m w e = ap (λ (j : ℕ). rises_in j m w) e

-- the leader rests once it is acting as root
pub rise_rests : (n m : ℕ) (w : World) → is_acting (mode_of w m) ≡ true → rise_left n m w ≡ rests w
unfolding rise_left
rise_rests zero m w acts = refl
rise_rests (suc n) m w acts =
    let mode : mode_of w m ≡ Acting = acts_true (mode_of w m) acts in
    ap (λ (f : Mode). and_then (rises f m w) (rises_in n m)) mode ∙ rise_rests n m w acts

-- an idle leader checks
pub idle_rises : (m : ℕ) (w : World) → mode_of w m ≡ Idle → act_run (acts.At m inputs.CheckNow) w ≡ rise_once_run m w
unfolding act_run rise_once_run
idle_rises m w e = ap (λ (f : Mode). rises f m w) (sym e)

-- a leader that asks finds its peer unreachable
pub asking_rises : (m p : ℕ) (w : World) → mode_of w m ≡ Asking p → act_run (acts.At m (inputs.Unreachable p)) w ≡ rise_once_run m w
unfolding act_run rise_once_run
asking_rises m p w e = ap (λ (f : Mode). rises f m w) (sym e)

-- a leader that is joined finds its peer unreachable
pub joined_rises : (m p : ℕ) (w : World) → mode_of w m ≡ Joined p → act_run (acts.At m (inputs.Unreachable p)) w ≡ rise_once_run m w
unfolding act_run rise_once_run
joined_rises m p w e = ap (λ (f : Mode). rises f m w) (sym e)

-- an acting leader rests
pub acting_rests : (m : ℕ) (w : World) → mode_of w m ≡ Acting → rests w ≡ rise_once_run m w
unfolding rise_once_run
acting_rests m w e = ap (λ (f : Mode). rises f m w) (sym e)

-- Nodes join

-- a node that is placed rests
pub place_rests : (m x : ℕ) (w : World) → is_placed_under w m x ≡ true → rests w ≡ place_run m x w
unfolding is_placed_under place_run
place_rests m x w e = ap (λ (b : Bool). places_if b m x w) (sym e)

-- a node that is not placed joins the leader, if the leader is the member before it
pub place_joins : (m p x : ℕ) (w : World) → is_placed_under w m x ≡ false → p ≡ member_below w m x → p ≡ m → join_run m x w ≡ place_run m x w
unfolding is_placed_under member_below join_run place_run
place_joins m p x w e member same =
    let here : (p == m) ≡ true = eq-eqb p m same in
    ap (λ (b : Bool). places_at b m p x w) (sym here) ∙ (ap (λ (q : ℕ). places_at (q == m) m q x w) member ∙ ap (λ (b : Bool). places_if b m x w) (sym e))

-- a node that is not placed joins any other member before it by way of the leader
pub place_joins_by : (m p x : ℕ) (w : World) → is_placed_under w m x ≡ false → p ≡ member_below w m x → (p ≡ m → ⊥) → join_by_run m p x w ≡ place_run m x w
unfolding is_placed_under member_below join_by_run place_run
place_joins_by m p x w e member other =
    let here : (p == m) ≡ false = ne_eqb p m other in
    ap (λ (b : Bool). places_at b m p x w) (sym here) ∙ (ap (λ (q : ℕ). places_at (q == m) m q x w) member ∙ ap (λ (b : Bool). places_if b m x w) (sym e))

-- all nodes that join, one after another
pub places_are : (m : ℕ) (w : World) (xs : List ℕ) → xs ≡ joiners m w → places_run m w ≡ for_each xs (place_run m) w
unfolding places_run place_run joiners
places_are m w xs e = ap (λ (ys : List ℕ). for_each ys (place_run m) w) (sym e)

-- The whole of heal

-- the first two steps of heal
abbrev pub heal_two : ℕ → World → Run
heal_two m w = and_then (rise_run m w) five_run

-- the first three steps of heal
abbrev pub heal_three : ℕ → World → Run
heal_three m w = and_then (heal_two m w) (places_run m)

-- heal is its first three steps and then settle
pub heal_is : (m : ℕ) (w : World) → and_then (heal_three m w) settle_run ≡ heal_run m w
unfolding rise_run five_run places_run settle_run heal_run
heal_is m w = refl

-- the acts of heal are timely as those of its first three steps and then settle
pub last_timely : (m : ℕ) (w : World) → AreTimely (heal_run m w).acts → AreTimely (and_then (heal_three m w) settle_run).acts
last_timely m w all = subst (λ (r : Run). AreTimely r.acts) (sym (heal_is m w)) all

-- the acts of the first two steps of heal are timely
pub first_timely : (m : ℕ) (w : World) → AreTimely (heal_run m w).acts → AreTimely (and_then (rise_run m w) five_run).acts
first_timely m w all = timely_front (heal_two m w) (places_run m) (timely_front (heal_three m w) settle_run (last_timely m w all))

-- The acts of heal

-- the acts in a world that is able
pub able_acts : (w : World) (m : ℕ) (xs : List ℕ) → IsRoll w xs → Some m ≡ leader_of w → list_all (room_of w) xs ≡ true → heal_acts w ≡ Some (heal_run m w).acts
unfolding leader_of room_of heal_run
able_acts w m xs roll leads room =
    let all : list_all (has_room w) (up_ids w) ≡ true = ap (list_all (has_room w)) (sym roll.up) ∙ room in
    let able : is_able w ≡ true = ap (λ (o : Option ℕ). is_some o && list_all (has_room w) (up_ids w)) (sym leads) ∙ all in
    ap (λ (b : Bool). heal_acts_if b (leader w) w) able ∙ ap (λ (o : Option ℕ). heal_acts_if true o w) (sym leads)

-- no acts in a world without a leader
pub leaderless : (w : World) → None ≡ leader_of w → heal_acts w ≡ None
unfolding leader_of
leaderless w none =
    let unable : is_able w ≡ false = ap (λ (o : Option ℕ). is_some o && list_all (has_room w) (up_ids w)) (sym none) in
    ap (λ (b : Bool). heal_acts_if b (leader w) w) unable

-- no acts in a world where some number is near its end
pub roomless : (w : World) (m : ℕ) (xs : List ℕ) → IsRoll w xs → Some m ≡ leader_of w → list_all (room_of w) xs ≡ false → heal_acts w ≡ None
unfolding leader_of room_of
roomless w m xs roll leads room =
    let some : list_all (has_room w) (up_ids w) ≡ false = ap (list_all (has_room w)) (sym roll.up) ∙ room in
    let unable : is_able w ≡ false = ap (λ (o : Option ℕ). is_some o && list_all (has_room w) (up_ids w)) (sym leads) ∙ some in
    ap (λ (b : Bool). heal_acts_if b (leader w) w) unable
