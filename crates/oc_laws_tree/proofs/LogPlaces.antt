-- The places of a change log: the facts before a place, and the facts that a log keeps as it grows and is acknowledged.
use Rattle.std.proofs.Common.{◌≡◌, ℕ, zero, suc, ◌+◌, ◌-◌, ◌<◌, ◌≤◌, true, List, [], ◌∷◌, ◌++◌, length, take, drop, ◌⊎◌, inl, inr, refl, sym, subst, arith, ⊎_elim, length-append, length-drop, leb-true, ltb-true}
use Rattle.std.proofs.lemmas.List.{length-take, take-append-le}
use Rattle.std.proofs.lemmas.Bool.{and_parts}
use Rattle.oc_base.specs.declared.cert.Cert.{Cert}
use Rattle.oc_model.specs.declared.mode.Mode.{Mode}
use Rattle.oc_model.specs.declared.mode.Mode.TheVariants as modes
use Rattle.oc_model.specs.ChangeLog.{note, ack, is_ahead, next_certs, place_after}
use Rattle.oc_base.specs.declared.limits.TheConstants.{MAX_CHECK_IN_CERTS}
use Rattle.oc_model.specs.Node.{Log}
use Rattle.oc_model.specs.Numbers.{IsAmong}
use Rattle.oc_model.specs.Records.{noted}
use Rattle.oc_laws_step.proofs.Merges.{among_left, among_last}
use Rattle.oc_laws_tree.specs.Sessions.{before_place}

-- Lists

-- an item of the first part of a list is an item of the list
pub among_take : {X : Type 0} (x : X) (n : ℕ) (xs : List X) → IsAmong x (take n xs) → IsAmong x xs
among_take x zero xs h = absurd h
among_take x (suc n) [] h = absurd h
among_take x (suc n) (y ∷ ys) (inl e) = inl e
among_take x (suc n) (y ∷ ys) (inr h) = inr (among_take x n ys h)

-- an item of a list is in its first part or in the rest
among_parts : {X : Type 0} (x : X) (n : ℕ) (xs : List X) → IsAmong x xs → IsAmong x (take n xs) ⊎ IsAmong x (drop n xs)
among_parts x zero xs h = inr h
among_parts x (suc n) [] h = absurd h
among_parts x (suc n) (y ∷ ys) (inl e) = inl (inl e)
among_parts x (suc n) (y ∷ ys) (inr h) = ⊎_elim (λ k. inl (inr k)) (λ k. inr k) (among_parts x n ys h)

-- an item of the first part of the rest is in a longer first part of the list
among_take-drop : {X : Type 0} (x : X) (n k m : ℕ) (xs : List X) → m ≡ n + k → IsAmong x (take k (drop n xs)) → IsAmong x (take m xs)
among_take-drop x zero k m xs e h = let same : k ≡ m = omega (arith, e) in subst (λ (j : ℕ). IsAmong x (take j xs)) same h
among_take-drop x (suc n) zero m xs e h = absurd h
among_take-drop x (suc n) (suc k) m [] e h = absurd h
among_take-drop x (suc n) (suc k) zero (y ∷ ys) e h = absurd (omega (arith, e))
among_take-drop x (suc n) (suc k) (suc m) (y ∷ ys) e h = inr (among_take-drop x n (suc k) m ys (omega (arith, e)) h)

-- Logs

-- the length of a log is the number of acknowledged and of waiting facts
abbrev pub IsWhole : Log → Type 0
IsWhole l = l.length ≡ l.acked + length l.waiting

-- the place is within the log, and the property holds of each fact before it
abbrev pub HoldsBefore : Log → ℕ → (Cert → Type 0) → Type 0
HoldsBefore l place Q = (place ≤ l.length) × ((f : Cert) → IsAmong f (before_place l place) → Q f)

pub before_weaker : (l : Log) (place : ℕ) (Q R : Cert → Type 0) → ((f : Cert) → Q f → R f) → HoldsBefore l place Q → HoldsBefore l place R
before_weaker l place Q R follows h = (h.0, λ f among. follows f (h.1 f among))

-- A certificate at the end

whole_note : (l : Log) (c : Cert) → IsWhole l → IsWhole (note l c)
whole_note l c whole = omega (arith, whole, length-append l.waiting (c ∷ []))

before_note : (l : Log) (c : Cert) (place : ℕ) (Q : Cert → Type 0) → IsWhole l → HoldsBefore l place Q → HoldsBefore (note l c) place Q
before_note l c place Q whole h =
    let within : place ≤ l.length = h.0 in
    let same : take (place - l.acked) (l.waiting ++ c ∷ []) ≡ take (place - l.acked) l.waiting = take-append-le (place - l.acked) l.waiting (c ∷ []) (omega (arith, whole, within)) in
    (omega (arith, within), λ f among. h.1 f (subst (λ (cs : List Cert). IsAmong f cs) same among))

-- a certificate is added only where the node is joined
pub whole_noted : (m : Mode) (l : Log) (c : Cert) → IsWhole l → IsWhole (noted m l c)
whole_noted (modes.Joined p) l c whole = whole_note l c whole
whole_noted modes.Idle l c whole = whole
whole_noted (modes.Asking p) l c whole = whole
whole_noted modes.Acting l c whole = whole

pub before_noted : (m : Mode) (l : Log) (c : Cert) (place : ℕ) (Q : Cert → Type 0) → IsWhole l → HoldsBefore l place Q → HoldsBefore (noted m l c) place Q
before_noted (modes.Joined p) l c place Q whole h = before_note l c place Q whole h
before_noted modes.Idle l c place Q whole h = h
before_noted (modes.Asking p) l c place Q whole h = h
before_noted modes.Acting l c place Q whole h = h

-- a fact that waits goes on waiting, and an added certificate waits too
pub among_noted : (m : Mode) (p : ℕ) (l : Log) (c f : Cert) → m ≡ modes.Joined p → IsAmong f l.waiting ⊎ (c ≡ f) → IsAmong f (noted m l c).waiting
among_noted m p l c f joined h = subst (λ (o : Mode). IsAmong f (noted o l c).waiting) (sym joined) (⊎_elim
    (λ (old : IsAmong f l.waiting). among_left f l.waiting (c ∷ []) old)
    (λ (e : c ≡ f). subst (λ (k : Cert). IsAmong f (l.waiting ++ k ∷ [])) (sym e) (among_last f l.waiting))
    h)

-- An acknowledgement

-- a log acknowledged up to this place
abbrev acked_to : Log → ℕ → Log
acked_to l place = record { length = l.length; acked = place; waiting = drop (place - l.acked) l.waiting }

-- such a place is later than the acknowledged ones, and within the log
ahead_parts : (l : Log) (place : ℕ) → is_ahead l place ≡ true → (l.acked < place) × (place ≤ l.length)
ahead_parts l place e = let parts = and_parts _ _ e in (ltb-true l.acked place parts.0, leb-true place l.length parts.1)

whole_to : (l : Log) (place : ℕ) → l.acked < place → place ≤ l.length → IsWhole l → IsWhole (acked_to l place)
whole_to l place past within whole = omega (arith, past, within, whole, length-drop (place - l.acked) l.waiting)

before_to : (l : Log) (place : ℕ) → l.acked < place → (upto : ℕ) (f : Cert) → IsAmong f (before_place (acked_to l place) upto) → IsAmong f (before_place l upto)
before_to l place past upto f among = by_rest (upto - place) refl among where
  by_rest : (k : ℕ) → upto - place ≡ k → IsAmong f (take k (drop (place - l.acked) l.waiting)) → IsAmong f (take (upto - l.acked) l.waiting)
  by_rest zero e h = absurd h
  by_rest (suc k) e h = among_take-drop f (place - l.acked) (suc k) (upto - l.acked) l.waiting (omega (arith, e, past)) h

pub whole_ack : (l : Log) (place : ℕ) → is_ahead l place ≡ true → IsWhole l → IsWhole (ack l place)
whole_ack l place e whole = let parts = ahead_parts l place e in rw e (whole_to l place parts.0 parts.1 whole)

pub before_ack : (l : Log) (place : ℕ) → is_ahead l place ≡ true → (upto : ℕ) (Q : Cert → Type 0) → HoldsBefore l upto Q → HoldsBefore (ack l place) upto Q
before_ack l place e upto Q h = rw e ((h.0, λ f among. h.1 f (before_to l place (ahead_parts l place e).0 upto f among)))

-- a waiting fact is before the place, or goes on waiting
pub among_ack : (l : Log) (place : ℕ) → is_ahead l place ≡ true → (f : Cert) → IsAmong f l.waiting → IsAmong f (before_place l place) ⊎ IsAmong f (ack l place).waiting
among_ack l place e f h = rw e (among_parts f (place - l.acked) l.waiting h)

-- The next check-in

-- a fact before the place of the next check-in is in the check-in
pub before_next : (l : Log) → IsWhole l → HoldsBefore l (place_after l) (λ f. IsAmong f (next_certs l))
before_next l whole =
    let some_of : length (next_certs l) ≤ length l.waiting = omega (arith, length-take MAX_CHECK_IN_CERTS l.waiting) in
    let count : (l.acked + length (next_certs l)) - l.acked ≡ length (next_certs l) = omega arith in
    (omega (arith, whole, some_of), λ f among. among_next f (subst (λ (n : ℕ). IsAmong f (take n l.waiting)) count among)) where
      shorter : (f : Cert) (n m : ℕ) (cs : List Cert) → n ≤ m → IsAmong f (take n cs) → IsAmong f (take m cs)
      shorter f zero m cs le h = absurd h
      shorter f (suc n) m [] le h = absurd h
      shorter f (suc n) zero (c ∷ cs) le h = absurd (omega (arith, le))
      shorter f (suc n) (suc m) (c ∷ cs) le (inl e) = inl e
      shorter f (suc n) (suc m) (c ∷ cs) le (inr h) = inr (shorter f n m cs (omega (arith, le)) h)

      among_next : (f : Cert) → IsAmong f (take (length (next_certs l)) l.waiting) → IsAmong f (next_certs l)
      among_next f h = shorter f (length (next_certs l)) MAX_CHECK_IN_CERTS l.waiting (omega (arith, length-take MAX_CHECK_IN_CERTS l.waiting)) h
