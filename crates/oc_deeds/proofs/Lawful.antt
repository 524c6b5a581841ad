-- Lists of lawful elements.
use Rattle.std.proofs.Common.{◌≡◌, ◌<◌, ℕ, zero, suc, Option, None, Some, IfSome, List, [], ◌∷◌, ◌++◌, length, take, drop, remove, slice_get, is_some, true, refl, subst, arith}
use Rattle.std.specs.List.{AllByRecursion}
use Rattle.std.specs.Option.{option_map}
use Rattle.oc_base.proofs.Each.{all_append}
use Rattle.oc_link.specs.declared.event.LinkEvent.{LinkEvent}
use Rattle.oc_link.specs.declared.event.LinkEvent.TheVariants as events
use Rattle.oc_model.specs.Lawful.{IsInput}
use Rattle.oc_routes.specs.Elements.{element_at, without_at}
use Rattle.oc_routes.specs.Lawful.{IsAsking}
use Rattle.oc_deeds.specs.Asks.{due_of}
use Rattle.oc_deeds.specs.Deeds.{dials_after, errand_in, with_content}
use Rattle.oc_deeds.specs.Dials as dials
use Rattle.oc_deeds.specs.Lawful.{IsLawfulDial, IsLawfulErrand, IsLawfulWaiting, IsLawfulWork}
use Rattle.oc_deeds.specs.Works.{client_input, pending, index_on, without_work}
use Rattle.oc_deeds.specs.declared.due.Due.TheVariants as dues
use Rattle.oc_deeds.specs.declared.work.Pending.{Pending}
use Rattle.oc_deeds.specs.declared.dials.Dialling.{Dialling}
use Rattle.oc_deeds.specs.declared.work.Transfer.{Transfer}
use Rattle.oc_deeds.specs.declared.work.Waiting.{Waiting}
use Rattle.oc_deeds.specs.declared.work.Work.{Work}
use Rattle.oc_deeds.specs.declared.work.Work.TheVariants as works

-- Lists

module _ {X : Type 0} (P : X → Type 0) where
  -- the first elements of a list
  all_take : (n : ℕ) (xs : List X) → AllByRecursion P xs → AllByRecursion P (take n xs)
  all_take zero xs all = tt
  all_take (suc n) [] all = tt
  all_take (suc n) (x ∷ xs) all = (all.0, all_take n xs all.1)

  -- the elements after the first ones
  all_drop : (n : ℕ) (xs : List X) → AllByRecursion P xs → AllByRecursion P (drop n xs)
  all_drop zero xs all = all
  all_drop (suc n) [] all = tt
  all_drop (suc n) (x ∷ xs) all = all_drop n xs all.1

  -- all elements but one
  pub all_remove : (place : ℕ) (xs : List X) → AllByRecursion P xs → AllByRecursion P (remove xs place)
  all_remove place xs all = all_append P (take place xs) (drop (suc place) xs) (all_take place xs all) (all_drop (suc place) xs all)

-- an element is at each place
pub none_there : {X : Type 0} (xs : List X) (k : ℕ) → k < length xs → slice_get xs k ≡ None → ⊥
none_there [] k few none = omega (arith, few)
none_there (x ∷ xs) zero few none = cc
none_there (x ∷ xs) (suc k) few none = none_there xs k (omega (arith, few)) none

-- Works

module _ (nodes me : ℕ) where
  without_place : (place : Option ℕ) (ws : List Work) → AllByRecursion (IsLawfulWork nodes me) ws → AllByRecursion (IsLawfulWork nodes me) (without_at ws place)
  without_place None ws all = all
  without_place (Some place) ws all = all_remove (IsLawfulWork nodes me) place ws all

  -- the works without that on a connection
  pub works_without : (c : ℕ) (ws : List Work) → AllByRecursion (IsLawfulWork nodes me) ws → AllByRecursion (IsLawfulWork nodes me) (without_work c ws)
  works_without c ws all = without_place (index_on c ws) ws all

  -- the works with a further one
  pub works_with : (ws : List Work) (w : Work) → AllByRecursion (IsLawfulWork nodes me) ws → IsLawfulWork nodes me w → AllByRecursion (IsLawfulWork nodes me) (ws ++ w ∷ [])
  works_with ws w all one = all_append (IsLawfulWork nodes me) ws (w ∷ []) all (one, tt)

  -- the works with the rest of a content
  pub works_with_content : (p : Option Transfer) (ws : List Work) → AllByRecursion (IsLawfulWork nodes me) ws → AllByRecursion (IsLawfulWork nodes me) (with_content p ws)
  works_with_content None ws all = all
  works_with_content (Some p) ws all = works_with ws (works.Content p) all tt

  -- a client that waits is lawful
  pub waiting_there : (ws : List Work) (place : ℕ) (w : Waiting) → AllByRecursion (IsLawfulWork nodes me) ws → slice_get ws place ≡ Some (works.Waits w) → IsLawfulWaiting nodes me w
  waiting_there [] place w all there = absurd cc
  waiting_there (x ∷ ws) zero w all there = let same : x ≡ works.Waits w = cc in subst (λ (y : Work). IsLawfulWork nodes me y) same all.0
  waiting_there (x ∷ ws) (suc place) w all there = waiting_there ws place w all.1 there

  due_by : (o : Option Work) (r : Pending) → ((w : Waiting) → o ≡ Some (works.Waits w) → IsLawfulWaiting nodes me w) → due_of o ≡ dues.Waits r
      → IsAsking r.asked × IfSome (client_input r.asked) (IsInput nodes me)
  due_by None r lawful is = absurd cc
  due_by (Some (works.Content p)) r lawful is = absurd cc
  due_by (Some (works.Aside p)) r lawful is = absurd cc
  due_by (Some (works.Waits w)) r lawful is =
      let same : pending w.connection w.request (is_some (client_input w.request.asked)) true ≡ r = cc in
      let held = lawful w refl in
      subst (λ (x : Pending). IsAsking x.asked × IfSome (client_input x.asked) (IsInput nodes me)) same (held.asks, held.input)

  -- the operation and the input of a request that waits are lawful
  pub due_lawful : (ws : List Work) (place : ℕ) (r : Pending) → AllByRecursion (IsLawfulWork nodes me) ws → due_of (slice_get ws place) ≡ dues.Waits r
      → IsAsking r.asked × IfSome (client_input r.asked) (IsInput nodes me)
  due_lawful ws place r all is = due_by (slice_get ws place) r (λ w there. waiting_there ws place w all there) is

-- Dials

dials_without_place : (nodes : ℕ) (place : Option ℕ) (ds : List Dialling) → AllByRecursion (IsLawfulDial nodes) ds → AllByRecursion (IsLawfulDial nodes) (without_at ds place)
dials_without_place nodes None ds all = all
dials_without_place nodes (Some place) ds all = all_remove (IsLawfulDial nodes) place ds all

-- the dials without that of a number
pub dials_without : (nodes d : ℕ) (ds : List Dialling) → AllByRecursion (IsLawfulDial nodes) ds → AllByRecursion (IsLawfulDial nodes) (dials.without_dial d ds)
dials_without nodes d ds all = dials_without_place nodes (dials.index_of d ds) ds all

-- the dials without that whose reply an event is
pub dials_seen : (nodes : ℕ) (e : LinkEvent) (ds : List Dialling) → AllByRecursion (IsLawfulDial nodes) ds → AllByRecursion (IsLawfulDial nodes) (dials_after e ds)
dials_seen nodes (events.Reply d coming) ds all = dials_without nodes d ds all
dials_seen nodes e ds all = all

dial_there : (nodes : ℕ) (ds : List Dialling) (k : ℕ) → AllByRecursion (IsLawfulDial nodes) ds → IfSome (option_map (λ (d : Dialling). d.errand) (slice_get ds k)) (IsLawfulErrand nodes)
dial_there nodes [] k all = tt
dial_there nodes (d ∷ ds) zero all = all.0
dial_there nodes (d ∷ ds) (suc k) all = dial_there nodes ds k all.1

dial_placed : (nodes : ℕ) (ds : List Dialling) (place : Option ℕ) → AllByRecursion (IsLawfulDial nodes) ds → IfSome (option_map (λ (d : Dialling). d.errand) (element_at ds place)) (IsLawfulErrand nodes)
dial_placed nodes ds None all = tt
dial_placed nodes ds (Some k) all = dial_there nodes ds k all

-- the errand of the dial whose reply an event is
pub errand_seen : (nodes : ℕ) (e : LinkEvent) (ds : List Dialling) → AllByRecursion (IsLawfulDial nodes) ds → IfSome (errand_in e ds) (IsLawfulErrand nodes)
errand_seen nodes (events.Reply d coming) ds all = dial_placed nodes ds (dials.index_of d ds) all
errand_seen nodes (events.Request a) ds all = tt
errand_seen nodes (events.Room c) ds all = tt
errand_seen nodes (events.Gone c loss) ds all = tt
errand_seen nodes events.Quiet ds all = tt

-- the dials with another one
pub dials_with : (nodes : ℕ) (ds : List Dialling) (d : Dialling) → AllByRecursion (IsLawfulDial nodes) ds → IsLawfulDial nodes d → AllByRecursion (IsLawfulDial nodes) (ds ++ d ∷ [])
dials_with nodes ds d all one = all_append (IsLawfulDial nodes) ds (d ∷ []) all (one, tt)
