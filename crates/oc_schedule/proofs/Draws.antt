-- Draws from a later state: they are the later draws.
use Rattle.std.proofs.Common.{◌≡◌, ℕ, zero, suc, ◌+◌, ◌%◌, ◌/◌, ◌^◌, List, [], ◌∷◌, ◌++◌, map, refl, ap, sym, ◌∙◌, append_assoc, arith}
use Rattle.std.specs.List.{range_with_len}
use Rattle.oc_model.specs.declared.event.Event.{Event}
use Rattle.oc_model.specs.declared.event.Event.TheVariants.{Up}
use Rattle.oc_schedule.specs.Generator.{next_state, state_after, draw_at, made, draws_of, events_from}

-- one more start
pub one_start_more : (front : List Event) (x left k : ℕ) → left ≡ suc k → (front ++ Up x ∷ []) ++ map (λ y. Up y) (range_with_len (x + 1) k) ≡ front ++ map (λ y. Up y) (range_with_len x left)
one_start_more front x left k more =
    append_assoc front (Up x ∷ []) (map (λ y. Up y) (range_with_len (x + 1) k)) ∙ ap (λ n. front ++ map (λ y. Up y) (range_with_len x n)) (sym more)

-- n draws after k are n + k draws
state_shift : (seed k n m : ℕ) → n + k ≡ m → state_after (state_after seed k) n ≡ state_after seed m
state_shift seed k zero m e = ap (state_after seed) (omega arith)
state_shift seed k (suc n) zero e = absurd (omega arith)
state_shift seed k (suc n) (suc m) e = ap next_state (state_shift seed k n m (omega arith))

draw_shift : (seed k i m : ℕ) → i + k ≡ m → draw_at seed m ≡ draw_at (state_after seed k) i
draw_shift seed k i m e = ap (λ s. s / 2 ^ 33) (sym (state_shift seed k (suc i) (suc m) (omega arith)))

-- the events from a later state are those from later draws
shifted : (seed k nodes i at m n : ℕ) → at + k ≡ m → events_from seed nodes i m n ≡ events_from (state_after seed k) nodes i at n
shifted seed k nodes i at m zero e = refl
shifted seed k nodes i at m (suc n) e =
    let s = state_after seed k in
    let x = draw_shift seed k at m e in
    let y : draw_at seed (m + 1) ≡ draw_at s (at + 1) = draw_shift seed k (at + 1) (m + 1) (omega (arith, e)) in
    let z : draw_at seed (m + 2) ≡ draw_at s (at + 2) = draw_shift seed k (at + 2) (m + 2) (omega (arith, e)) in
    let kind : draws_of (draw_at seed m % 16) ≡ draws_of (draw_at s at % 16) = ap (λ d. draws_of (d % 16)) x in
    let rest = shifted seed k nodes (i + 1) (at + draws_of (draw_at s at % 16)) (m + draws_of (draw_at seed m % 16)) n (omega (arith, e, kind)) in
    let same : made i (draw_at seed m % 16) (1 + draw_at seed (m + 1) % nodes) (draw_at seed (m + 2)) ≡ made i (draw_at s at % 16) (1 + draw_at s (at + 1) % nodes) (draw_at s (at + 2)) =
    ap (λ d. made i (d % 16) (1 + draw_at seed (m + 1) % nodes) (draw_at seed (m + 2))) x
    ∙ ap (λ d. made i (draw_at s at % 16) (1 + d % nodes) (draw_at seed (m + 2))) y
    ∙ ap (made i (draw_at s at % 16) (1 + draw_at s (at + 1) % nodes)) z in
    ap (λ event. event ∷ events_from seed nodes (i + 1) (m + draws_of (draw_at seed m % 16)) n) same
    ∙ ap (λ events. made i (draw_at s at % 16) (1 + draw_at s (at + 1) % nodes) (draw_at s (at + 2)) ∷ events) rest

-- one more event
pub one_event_more : (front : List Event) (s nodes i left k : ℕ) (event : Event) → left ≡ suc k → event ≡ made i (draw_at s 0 % 16) (1 + draw_at s 1 % nodes) (draw_at s 2) →
    (front ++ event ∷ []) ++ events_from (state_after s (draws_of (draw_at s 0 % 16))) nodes (i + 1) 0 k ≡ front ++ events_from s nodes i 0 left
one_event_more front s nodes i left k event more is =
    let rest = events_from (state_after s (draws_of (draw_at s 0 % 16))) nodes (i + 1) 0 k in
    let later : events_from s nodes (i + 1) (0 + draws_of (draw_at s 0 % 16)) k ≡ rest =
    shifted s (draws_of (draw_at s 0 % 16)) nodes (i + 1) 0 (0 + draws_of (draw_at s 0 % 16)) k refl in
    append_assoc front (event ∷ []) rest
    ∙ ap (λ e. front ++ (e ∷ rest)) is
    ∙ ap (λ events. front ++ (made i (draw_at s 0 % 16) (1 + draw_at s 1 % nodes) (draw_at s 2) ∷ events)) (sym later)
    ∙ ap (λ n. front ++ events_from s nodes i 0 n) (sym more)
