-- The number of acts of the first five steps of settle.
use Rattle.std.proofs.Common.{◌≡◌, ℕ, ◌+◌, ◌*◌, ◌≤◌, Bool, true, false, if◌then◌else◌, Option, Some, None, List, [], ◌∷◌, inl, inr, filter, length, refl, ap, sym, ◌∙◌, arith, length-append}
use Rattle.oc_model.specs.declared.event.Act.TheVariants as acts
use Rattle.oc_model.specs.declared.input.Input.TheVariants as inputs
use Rattle.oc_model.specs.declared.message.Body.{Body}
use Rattle.oc_model.specs.declared.message.Body.TheVariants as bodies
use Rattle.oc_model.specs.declared.mode.Mode.{Mode}
use Rattle.oc_model.specs.declared.mode.Mode.TheVariants.{Idle, Asking, Joined, Acting}
use Rattle.oc_model.specs.Chains.{IsUp}
use Rattle.oc_model.specs.Node.{Header}
use Rattle.oc_model.specs.Records.{is_joined}
use Rattle.oc_model.specs.Runs.{Run, does, and_then, for_each, last_body, delivers_last}
use Rattle.oc_model.specs.Settle.{ticks, all_tick, takes_ack, takes_any_ack, checks_in, checks_in_if, checks_in_if_joined, all_check_in, first_five_steps}
use Rattle.oc_model.specs.World.{World, mode_of, up_ids}
use Rattle.oc_model.specs.WorldBounds.{IsOneOf}
use Rattle.oc_laws_tree.specs.Settling.{up_joined}
use Rattle.oc_laws_tree.proofs.CheckIns.{ChecksIn, checks_in_once}
use Rattle.oc_laws_tree.proofs.FiveSteps.{HasStayed, stayed_then, up_of, FiveSteps, five_steps}
use Rattle.oc_laws_tree.proofs.Held.{IsHeld}
use Rattle.oc_laws_tree.proofs.ReadyStays.{AreHeld, held_stay, up_ids_stay, joined_stays}
use Rattle.oc_laws_tree.proofs.Reached.{Reached}
use Rattle.oc_laws_tree.proofs.CheckedIn.{CheckInKeeps, checks_in_keeps, parent_apart}

-- a tick is one act
tick_acts : (more : ℕ) (xs : List ℕ) (w : World) → length (for_each xs (ticks more) w).acts ≡ length xs
tick_acts more [] w = refl
tick_acts more (x ∷ xs) w = omega (arith, tick_acts more xs (ticks more x w).world)

-- a check-in is at most three acts
takes_most : (b : Option Body) (w : World) → length (takes_ack b w).acts ≤ 1
takes_most None w = omega arith
takes_most (Some (bodies.CheckAck seq upto rank ancestors)) w = omega arith
takes_most (Some b) w = omega arith

checks_in_most : (x : ℕ) (w : World) → length (checks_in x w).acts ≤ 3
checks_in_most x w =
    let told : Run = and_then (does (acts.At x inputs.CheckNow) w) delivers_last in
    omega (arith, takes_most (last_body told.world) told.world, length-append told.acts (takes_any_ack told.world).acts)

checks_if_most : (m : Mode) (x : ℕ) (w : World) → length (checks_in_if m x w).acts ≤ 3
checks_if_most (Joined p) x w = checks_in_most x w
checks_if_most Idle x w = omega arith
checks_if_most (Asking p) x w = omega arith
checks_if_most Acting x w = omega arith

checks_most : (xs : List ℕ) (w : World) → length (for_each xs checks_in_if_joined w).acts ≤ 3 * length xs
checks_most [] w = omega arith
checks_most (x ∷ xs) w =
    let v : World = (checks_in_if_joined x w).world in
    omega (arith, length-append (checks_in_if_joined x w).acts (for_each xs checks_in_if_joined v).acts, checks_if_most (mode_of w x) x w, checks_most xs v)

abbrev three_if : Bool → ℕ
three_if true = 3
three_if false = 0

-- where each link of a node that is up holds, a round of check-ins is three acts for each node with a parent
module _ (h : Header) (w0 : World) (held : AreHeld w0) where
  abbrev joined_of : List ℕ → List ℕ
  joined_of xs = filter (λ x. is_joined (mode_of w0 x)) xs

  record Checks (x : ℕ) (w : World) (r : Run) : Type 0 where
    acts : length r.acts ≡ three_if (is_joined (mode_of w0 x))
    stayed : HasStayed h w0 r.world

  one_checks : (x : ℕ) (w : World) → HasStayed h w0 w → IsUp w x → Checks x w (checks_in_if_joined x w)
  one_checks x w stayed up = by_mode (mode_of w x) refl where
    same : (m : Mode) → mode_of w x ≡ m → is_joined (mode_of w0 x) ≡ is_joined m
    same m is = sym (joined_stays w0 w x (stayed.steady x)) ∙ ap is_joined is

    none : (m : Mode) → mode_of w x ≡ m → is_joined m ≡ false → three_if false ≡ three_if (is_joined (mode_of w0 x))
    none m is loose = ap three_if (sym (same m is ∙ loose))

    by_mode : (m : Mode) → mode_of w x ≡ m → Checks x w (checks_in_if m x w)
    by_mode Idle is = record { acts = none Idle is refl; stayed = stayed }
    by_mode (Asking p) is = record { acts = none (Asking p) is refl; stayed = stayed }
    by_mode Acting is = record { acts = none Acting is refl; stayed = stayed }
    by_mode (Joined p) is =
        let link : IsHeld w p x = held_stay h w0 w stayed held x p up is in
        let checked : ChecksIn w x p (checks_in x w) = checks_in_once w x p (parent_apart h w stayed.reached x p is) up is link.host link.lease in
        let keeps : CheckInKeeps h w x (checks_in x w).world = checks_in_keeps h w x p stayed.reached up is in
        record {
          acts = checked.acts ∙ ap three_if (sym (same (Joined p) is));
          stayed = stayed_then h w0 w (checks_in x w).world stayed keeps.reached keeps.steady keeps.held;
        }

  all_check : (xs : List ℕ) (w : World) → HasStayed h w0 w → ((x : ℕ) → IsOneOf x xs → IsUp w0 x) → length (for_each xs checks_in_if_joined w).acts ≡ 3 * length (joined_of xs)
  all_check [] w stayed up = refl
  all_check (x ∷ xs) w stayed up =
      let here : Checks x w (checks_in_if_joined x w) = one_checks x w stayed ((stayed.steady x).up ∙ up x (inl refl)) in
      let v : World = (checks_in_if_joined x w).world in
      let rest : length (for_each xs checks_in_if_joined v).acts ≡ 3 * length (joined_of xs) = all_check xs v here.stayed (λ y one. up y (inr one)) in
      omega (arith, length-append (checks_in_if_joined x w).acts (for_each xs checks_in_if_joined v).acts, here.acts, by_test (is_joined (mode_of w0 x)), rest) where
        by_test : (b : Bool) → 3 * length (if b then x ∷ joined_of xs else joined_of xs) ≡ three_if b + 3 * length (joined_of xs)
        by_test true = omega arith
        by_test false = omega arith

-- the acts of the five steps, one after another
five_sum : (w : World) → let w1 : World = (all_tick 0 w).world in let w2 : World = (all_check_in w1).world in let w3 : World = (all_tick 15 w2).world in let w4 : World = (all_check_in w3).world in
    length (first_five_steps w).acts ≡ length (all_tick 0 w).acts + length (all_check_in w1).acts + length (all_tick 15 w2).acts + length (all_check_in w3).acts + length (all_tick 15 w4).acts
five_sum w =
    let one : Run = all_tick 0 w in
    let two : Run = and_then one all_check_in in
    let three : Run = and_then two (all_tick 15) in
    let four : Run = and_then three all_check_in in
    omega (arith, length-append four.acts (all_tick 15 four.world).acts, length-append three.acts (all_check_in three.world).acts, length-append two.acts (all_tick 15 two.world).acts, length-append one.acts (all_check_in one.world).acts)

-- three for each node that is up, and six for each that has a parent
pub five_acts : (h : Header) (w : World) → Reached h w → AreHeld w → length (first_five_steps w).acts ≡ 3 * length (up_ids w) + 6 * length (up_joined w)
five_acts h w reached held =
    let five : FiveSteps h w = five_steps h w reached in
    let w1 : World = (all_tick 0 w).world in
    let w2 : World = (all_check_in w1).world in
    let w3 : World = (all_tick 15 w2).world in
    let w4 : World = (all_check_in w3).world in
    let up1 : up_ids w1 ≡ up_ids w = up_ids_stay h w w1 reached five.one in
    let up2 : up_ids w2 ≡ up_ids w = up_ids_stay h w w2 reached five.two in
    let up3 : up_ids w3 ≡ up_ids w = up_ids_stay h w w3 reached five.three in
    let up4 : up_ids w4 ≡ up_ids w = up_ids_stay h w w4 reached five.four in
    let second : length (all_check_in w1).acts ≡ 3 * length (up_joined w) =
    ap (λ (xs : List ℕ). length (for_each xs checks_in_if_joined w1).acts) up1 ∙ all_check h w held (up_ids w) w1 five.one (λ x one. up_of w x one) in
    let fourth : length (all_check_in w3).acts ≡ 3 * length (up_joined w) =
    ap (λ (xs : List ℕ). length (for_each xs checks_in_if_joined w3).acts) up3 ∙ all_check h w held (up_ids w) w3 five.three (λ x one. up_of w x one) in
    omega (arith, five_sum w, tick_acts 0 (up_ids w) w, second, tick_acts 15 (up_ids w2) w2, ap length up2, fourth, tick_acts 15 (up_ids w4) w4, ap length up4)

-- at most nine acts for each node that is up
pub five_most : (h : Header) (w : World) → Reached h w → length (first_five_steps w).acts ≤ 9 * length (up_ids w)
five_most h w reached =
    let five : FiveSteps h w = five_steps h w reached in
    let w1 : World = (all_tick 0 w).world in
    let w2 : World = (all_check_in w1).world in
    let w3 : World = (all_tick 15 w2).world in
    let w4 : World = (all_check_in w3).world in
    omega (
      arith,
      five_sum w,
      tick_acts 0 (up_ids w) w,
      checks_most (up_ids w1) w1,
      ap length (up_ids_stay h w w1 reached five.one),
      tick_acts 15 (up_ids w2) w2,
      ap length (up_ids_stay h w w2 reached five.two),
      checks_most (up_ids w3) w3,
      ap length (up_ids_stay h w w3 reached five.three),
      tick_acts 15 (up_ids w4) w4,
      ap length (up_ids_stay h w w4 reached five.four),
    )
