-- Climbing a table from parent to parent: the result for one node on the way is that for all, and a loop leads nowhere.
use Rattle.std.proofs.Common.{◌≡◌, ℕ, zero, suc, ◌+◌, ◌-◌, ◌<◌, ◌≤◌, Bool, true, false, ◌==◌, Option, Some, None, List, [], ◌∷◌, length, get_or, set, replicate, ◌⊎◌, inl, inr, refl, ap, sym, subst, ◌∙◌, arith}
use Rattle.oc_base.specs.declared.cert.Cert.{Cert}
use Rattle.oc_model.specs.Numbers.{at}
use Rattle.oc_model.specs.Table.{parent_in, reaches}
use Rattle.oc_model.proofs.Walks.{steps_enough}
use Rattle.oc_updown.specs.Listing.{is_beneath, AreKnownFrom, AreKnown}

-- whether the way up from x comes to r within this number of steps past the parent of x
abbrev pub arrives : List Cert → ℕ → ℕ → ℕ → Bool
arrives t r steps x = reaches steps t r (parent_in t x)

-- one step more arrives where the parent, which is not the root, arrives
pub arrives_above : (t : List Cert) (r x y steps : ℕ) → parent_in t x ≡ Some y → y == r ≡ false → arrives t r (suc steps) x ≡ arrives t r steps y
arrives_above t r x y steps up other = rw (up, other)

-- a node is beneath the root where its parent is
pub beneath_above : (t : List Cert) (r x y : ℕ) → parent_in t x ≡ Some y → y == r ≡ false → is_beneath t r x ≡ is_beneath t r y
beneath_above t r x y up other = steps_enough (length t) (suc (length t)) t r x (omega arith) (omega arith) ∙ arrives_above t r x y (length t) up other

-- a child of the root is beneath it
pub beneath_root : (t : List Cert) (r x y : ℕ) → parent_in t x ≡ Some y → y == r ≡ true → is_beneath t r x ≡ true
beneath_root t r x y up is = steps_enough (length t) (suc (length t)) t r x (omega arith) (omega arith) ∙ rw (up, is)

-- a node without a parent is not beneath the root
pub beneath_none : (t : List Cert) (r x : ℕ) → parent_in t x ≡ None → is_beneath t r x ≡ false
beneath_none t r x up = steps_enough (length t) (suc (length t)) t r x (omega arith) (omega arith) ∙ rw up

-- the way up from p goes on as that from y, some steps later
abbrev pub Leads : List Cert → ℕ → ℕ → ℕ → Type 0
Leads t r p y = (m : ℕ) × ((k : ℕ) → arrives t r (m + k) p ≡ arrives t r k y)

-- a node leads to itself
pub leads_itself : (t : List Cert) (r x : ℕ) → Leads t r x x
leads_itself t r x = (0, λ k. let e : 0 + k ≡ k = omega arith in rw e)

-- a way that leads to x also leads to the parent of x
pub leads_above : (t : List Cert) (r p x y : ℕ) → Leads t r p x → parent_in t x ≡ Some y → y == r ≡ false → Leads t r p y
leads_above t r p x y leads up other = (suc leads.0, λ k. let e : suc leads.0 + k ≡ leads.0 + suc k = omega arith in ap (λ (n : ℕ). arrives t r n p) e ∙ (leads.1 (suc k) ∙ arrives_above t r x y k up other))

-- a way from a node that leads back to itself does not arrive within some number of steps, however
-- great that number has to be
never_by : (t : List Cert) (r x m : ℕ) → ((k : ℕ) → arrives t r (suc m + k) x ≡ arrives t r k x) → (n : ℕ) → (k : ℕ) × (n ≤ k) × (arrives t r k x ≡ false)
never_by t r x m round zero = (0, omega arith, refl)
never_by t r x m round (suc n) = let before : (k : ℕ) × (n ≤ k) × (arrives t r k x ≡ false) = never_by t r x m round n in (suc m + before.0, omega (arith, before.1), round before.0 ∙ before.2)

-- a node whose parent leads back to it is not beneath the root
pub round_never : (t : List Cert) (r x y : ℕ) → Leads t r y x → parent_in t x ≡ Some y → y == r ≡ false → is_beneath t r x ≡ false
unfolding leads_above
round_never t r x y leads up other =
    let round : (k : ℕ) → arrives t r (suc leads.0 + k) y ≡ arrives t r k y = (leads_above t r y x y leads up other).1 in
    let never : (k : ℕ) × (length t ≤ k) × (arrives t r k y ≡ false) = never_by t r y leads.0 round (length t) in
    beneath_above t r x y up other ∙ (steps_enough (length t) never.0 t r y (omega arith) never.1 ∙ never.2)

-- the known result of a node is right
known_from : (t : List Cert) (r x i : ℕ) (known : List (Option Bool)) (b : Bool) → AreKnownFrom t r x known → get_or known i None ≡ Some b → is_beneath t r (x + i) ≡ b
known_from t r x i [] b all h = absurd cc
known_from t r x zero (None ∷ known) b all h = absurd cc
known_from t r x (suc i) (None ∷ known) b all h = let e : x + suc i ≡ (x + 1) + i = omega arith in rw e (known_from t r (x + 1) i known b all h)
known_from t r x zero (Some a ∷ known) b all h = let e : x + 0 ≡ x = omega arith in let same : a ≡ b = cc in rw e (all.0 ∙ same)
known_from t r x (suc i) (Some a ∷ known) b all h = let e : x + suc i ≡ (x + 1) + i = omega arith in rw e (known_from t r (x + 1) i known b all.1 h)

-- the same by the number of the node
pub known_at : (t : List Cert) (r x : ℕ) (known : List (Option Bool)) (b : Bool) → AreKnown t r known → 1 ≤ x → at known x None ≡ Some b → is_beneath t r x ≡ b
known_at t r x known b all first h = let e : 1 + (x - 1) ≡ x = omega arith in sym (ap (is_beneath t r) e) ∙ known_from t r 1 (x - 1) known b all h

-- a right result may be noted
known_more_from : (t : List Cert) (r x i : ℕ) (known : List (Option Bool)) (b : Bool) → AreKnownFrom t r x known → is_beneath t r (x + i) ≡ b → AreKnownFrom t r x (set known i (Some b))
known_more_from t r x i [] b all so = tt
known_more_from t r x zero (None ∷ known) b all so = let e : x ≡ x + 0 = omega arith in (ap (is_beneath t r) e ∙ so, all)
known_more_from t r x (suc i) (None ∷ known) b all so = let e : (x + 1) + i ≡ x + suc i = omega arith in known_more_from t r (x + 1) i known b all (ap (is_beneath t r) e ∙ so)
known_more_from t r x zero (Some a ∷ known) b all so = let e : x ≡ x + 0 = omega arith in (ap (is_beneath t r) e ∙ so, all.1)
known_more_from t r x (suc i) (Some a ∷ known) b all so = let e : (x + 1) + i ≡ x + suc i = omega arith in (all.0, known_more_from t r (x + 1) i known b all.1 (ap (is_beneath t r) e ∙ so))

-- the same by the number of the node
pub known_more : (t : List Cert) (r x : ℕ) (known : List (Option Bool)) (b : Bool) → AreKnown t r known → 1 ≤ x → is_beneath t r x ≡ b → AreKnown t r (set known (x - 1) (Some b))
known_more t r x known b all first so = let e : 1 + (x - 1) ≡ x = omega arith in known_more_from t r 1 (x - 1) known b all (ap (is_beneath t r) e ∙ so)

-- all known results are right where nothing is known
none_known_from : (t : List Cert) (r x n : ℕ) → AreKnownFrom t r x (replicate n None)
none_known_from t r x zero = tt
none_known_from t r x (suc n) = none_known_from t r (x + 1) n

pub none_known : (t : List Cert) (r n : ℕ) → AreKnown t r (replicate n None)
none_known t r n = none_known_from t r 1 n

-- the way goes on to the parent with one step fewer
pub arrives_step : (t : List Cert) (r x y steps i : ℕ) → i < steps → parent_in t x ≡ Some y → y == r ≡ false → arrives t r (steps - i) x ≡ arrives t r (steps - (i + 1)) y
arrives_step t r x y steps i within up other = let e : steps - i ≡ suc (steps - (i + 1)) = omega arith in rw e (arrives_above t r x y (steps - (i + 1)) up other)

-- a climb from a node, now at this place, past a post: if it arrives within the remaining steps, the node is beneath the root
pub record IsClimb (t : List Cert) (r steps node place post : ℕ) : Type 0 where
  pub arrives : arrives t r steps place ≡ is_beneath t r node
  pub same : is_beneath t r place ≡ is_beneath t r node
  pub leads : Leads t r post place

-- the climb begins at the node
pub climb_begins : (t : List Cert) (r steps x post : ℕ) → length t ≤ steps → post ≡ x → IsClimb t r (steps - 0) x x post
climb_begins t r steps x post few e = record {
  arrives = steps_enough (steps - 0) (length t) t r x (omega arith) (omega arith);
  same = refl;
  leads = subst (λ (p : ℕ). Leads t r p x) (sym e) (leads_itself t r x);
}

-- the climb goes on to the parent, and the post moves or stays
pub climb_goes_on : (t : List Cert) (r steps i node place post y post' : ℕ) → IsClimb t r (steps - i) node place post → i < steps → parent_in t place ≡ Some y → y == r ≡ false → (post' ≡ y) ⊎ (post' ≡ post) → IsClimb t r (steps - (i + 1)) node y post'
climb_goes_on t r steps i node place post y post' climb within up other anew = record {
  arrives = sym (arrives_step t r place y steps i within up other) ∙ climb.arrives;
  same = sym (beneath_above t r place y up other) ∙ climb.same;
  leads = by_post anew;
} where
  by_post : (post' ≡ y) ⊎ (post' ≡ post) → Leads t r post' y
  by_post (inl e) = subst (λ (p : ℕ). Leads t r p y) (sym e) (leads_itself t r y)
  by_post (inr e) = subst (λ (p : ℕ). Leads t r p y) (sym e) (leads_above t r post place y climb.leads up other)

-- the known result of the place is the answer
pub climb_known : (t : List Cert) (r steps node place post : ℕ) (known : List (Option Bool)) (b : Bool) → IsClimb t r steps node place post → AreKnown t r known → 1 ≤ place → Some b ≡ at known place None → b ≡ is_beneath t r node
climb_known t r steps node place post known b climb all first h = sym (known_at t r place known b all first (sym h)) ∙ climb.same

-- a way whose next parent is the post goes round and never comes to the root
pub climb_round : (t : List Cert) (r steps node place post y : ℕ) → IsClimb t r steps node place post → parent_in t place ≡ Some y → y == r ≡ false → y ≡ post → false ≡ is_beneath t r node
climb_round t r steps node place post y climb up other e =
    let back : Leads t r y place = subst (λ (p : ℕ). Leads t r p place) (sym e) climb.leads in
    sym (round_never t r place y back up other) ∙ climb.same

-- the ends of a climb: the parent is the root, or there is none, or no step is left
pub climb_arrives : (t : List Cert) (r steps node place post y : ℕ) → IsClimb t r steps node place post → parent_in t place ≡ Some y → y == r ≡ true → true ≡ is_beneath t r node
climb_arrives t r steps node place post y climb up is = sym (beneath_root t r place y up is) ∙ climb.same

pub climb_ends : (t : List Cert) (r steps node place post : ℕ) → IsClimb t r steps node place post → parent_in t place ≡ None → false ≡ is_beneath t r node
climb_ends t r steps node place post climb up = sym (beneath_none t r place up) ∙ climb.same

pub climb_over : (t : List Cert) (r steps node place post : ℕ) → IsClimb t r steps node place post → steps ≡ 0 → false ≡ is_beneath t r node
climb_over t r steps node place post climb e =
    let over : arrives t r steps place ≡ false = rw e in
    sym over ∙ climb.arrives
