-- Step 6 of settle: each node tells all that waits, nodes with longer chains first, so that in the end nothing waits.
use Rattle.std.proofs.Common.{◌≡◌, ℕ, zero, suc, ◌+◌, ◌-◌, ◌*◌, ◌≤◌, Bool, true, false, nat_lt, nat_le, if◌then◌else◌, List, [], ◌∷◌, length, take, drop, refl, ap, sym, subst, ◌∙◌, ⊎_elim, arith, length-append, length-drop, lt-ltb}
use Rattle.std.proofs.lemmas.Bool.{cases_eq, le-leb}
use Rattle.oc_base.specs.declared.cert.Cert.{Cert}
use Rattle.oc_base.specs.declared.limits.TheConstants.{MAX_CHECK_IN_CERTS}
use Rattle.oc_model.specs.ChangeLog.{place_after, is_ahead, ack}
use Rattle.oc_model.specs.Chains.{IsJoined}
use Rattle.oc_model.specs.ClaimsTree.{KnowsNumber}
use Rattle.oc_model.specs.Node.{Header, Control, Log}
use Rattle.oc_model.specs.Runs.{Run}
use Rattle.oc_model.specs.Settle.{checks_in, tells_while}
use Rattle.oc_model.specs.World.{World, mode_of}
use Rattle.oc_laws_world.proofs.Lifts.{control_of}
use Rattle.oc_laws_tree.specs.Sessions.{log_of}
use Rattle.oc_laws_tree.proofs.SoundNodes.{AreSound}
use Rattle.oc_laws_tree.proofs.Points.{sound_after}
use Rattle.oc_laws_step.specs.Sound.{IsSoundAs}
use Rattle.oc_laws_tree.specs.Settling.{batches}
use Rattle.oc_laws_tree.proofs.CheckIns.{ChecksIn, checks_in_once}
use Rattle.oc_laws_tree.proofs.Core.{Core, core_of, IsCounted}
use Rattle.oc_laws_tree.proofs.FiveSteps.{stayed_then, HasCalmed}
use Rattle.oc_laws_tree.proofs.Held.{IsHeld, current_stays}
use Rattle.oc_laws_tree.proofs.Reached.{Reached, of_reached}
use Rattle.oc_laws_tree.proofs.CheckedIn.{CheckInKeeps, keeps_before, checks_in_keeps, parent_apart}

-- The log after an acknowledgement

drop_taken : (n : ℕ) (xs : List Cert) → drop (length (take n xs)) xs ≡ drop n xs
drop_taken zero xs = refl
drop_taken (suc n) [] = refl
drop_taken (suc n) (x ∷ xs) = drop_taken n xs

take_short : (n : ℕ) (xs : List Cert) → length (take n xs) ≤ length xs
take_short zero xs = omega arith
take_short (suc n) [] = omega arith
take_short (suc n) (x ∷ xs) = omega (arith, take_short n xs)

take_some : (n : ℕ) (x : Cert) (xs : List Cert) → 1 ≤ n → 1 ≤ length (take n (x ∷ xs))
take_some zero x xs some = absurd (omega (arith, some))
take_some (suc n) x xs some = omega arith

-- the waiting facts after an acknowledgement: all except the told ones
ack_next : (l : Log) → l.length ≡ l.acked + length l.waiting → (ack l (place_after l)).waiting ≡ drop MAX_CHECK_IN_CERTS l.waiting
ack_next l long = by_test (is_ahead l (place_after l)) refl where
  told : ℕ
  told = length (take MAX_CHECK_IN_CERTS l.waiting)

  none : (ws : List Cert) → l.waiting ≡ ws → is_ahead l (place_after l) ≡ false → l.waiting ≡ drop MAX_CHECK_IN_CERTS l.waiting
  none [] e f = subst (λ (ws : List Cert). ws ≡ drop MAX_CHECK_IN_CERTS ws) (sym e) refl
  none (c ∷ cs) e f =
      let some : 1 ≤ length (take MAX_CHECK_IN_CERTS l.waiting) = subst (λ (ws : List Cert). 1 ≤ length (take MAX_CHECK_IN_CERTS ws)) (sym e) (take_some MAX_CHECK_IN_CERTS c cs (omega arith)) in
      let few : length (take MAX_CHECK_IN_CERTS l.waiting) ≤ length l.waiting = take_short MAX_CHECK_IN_CERTS l.waiting in
      let past : nat_lt l.acked (place_after l) ≡ true = lt-ltb l.acked (place_after l) (omega (arith, some)) in
      let within : nat_le (place_after l) l.length ≡ true = le-leb (place_after l) l.length (omega (arith, few, long)) in
      let ahead : is_ahead l (place_after l) ≡ true = rw (past, within) refl in
      let clash : true ≡ false = sym ahead ∙ f in
      absurd cc

  by_test : (b : Bool) → is_ahead l (place_after l) ≡ b → (if b then record { length = l.length; acked = place_after l; waiting = drop (place_after l - l.acked) l.waiting } else l).waiting ≡ drop MAX_CHECK_IN_CERTS l.waiting
  by_test true e = let count : place_after l - l.acked ≡ length (take MAX_CHECK_IN_CERTS l.waiting) = omega arith in ap (λ (k : ℕ). drop k l.waiting) count ∙ drop_taken MAX_CHECK_IN_CERTS l.waiting
  by_test false e = none l.waiting refl e

-- the number of check-ins that tell n certificates
batches_none : batches 0 ≡ 0
batches_none = refl

batches_more : (n : ℕ) → 1 ≤ n → batches n ≡ 1 + batches (n - 64)
batches_more n some = omega arith

-- One check-in

module _ (h : Header) (w0 : World) where
  -- x, whose parent is p, has told the first certificates
  record TellsOnce (x p : ℕ) (w : World) (r : Run) : Type 0 where
    acts : length r.acts ≡ 3
    calmed : HasCalmed h w0 r.world
    held : IsHeld r.world p x
    told : (log_of r.world x).waiting ≡ drop MAX_CHECK_IN_CERTS (log_of w x).waiting
    others : (y : ℕ) → (x ≡ y → ⊥) → (p ≡ y → ⊥) → log_of r.world y ≡ log_of w y

  -- a check-in keeps a calm world calm
  calm_then : (w : World) (x : ℕ) (v : World) → HasCalmed h w0 w → CheckInKeeps h w x v → HasCalmed h w0 v
  calm_then w x v calmed keeps = record {
    stayed = stayed_then h w0 w v calmed.stayed keeps.reached keeps.steady keeps.held;
    told = λ y z held. ⊎_elim
        (λ (same : x ≡ z). subst (λ (u : ℕ). KnowsNumber v y u × IsCounted (core_of (control_of v u))) same (keeps.told y (subst (IsHeld v y) (sym same) held), keeps.counted))
        (λ apart.
        let was : IsHeld w y z = keeps_before h w x v keeps y z held in
        let old = calmed.told y z was in
        let core : core_of (control_of v z) ≡ core_of (control_of w z) = keeps.cores z apart in
        ((old.0.0, keeps.rows y z apart was ∙ old.0.1, old.0.2 ∙ sym (ap (λ (k : Core). k.number) core)), subst IsCounted (sym core) old.1))
        (cases_eq x z);
    current = λ y z s up leased. current_stays w v keeps.steady y z s (calmed.current y z s (sym (keeps.steady y).up ∙ up) (keeps.only y z s leased));
  }

  -- the log of a joined node is as long as its acknowledged and waiting facts together
  log_long : (w : World) (x p : ℕ) → Reached h w → IsJoined w x p → (log_of w x).length ≡ (log_of w x).acked + length (log_of w x).waiting
  log_long w x p reached joins =
      let sound : IsSoundAs (mode_of w x) (control_of w x).kept = (of_reached AreSound sound_after h w reached x).kept.mode in
      (subst (λ m. IsSoundAs m (control_of w x).kept) joins sound).2

  tells_once : (w : World) (x p : ℕ) → HasCalmed h w0 w → IsHeld w p x → TellsOnce x p w (checks_in x w)
  tells_once w x p calmed held =
      let keeps : CheckInKeeps h w x (checks_in x w).world = checks_in_keeps h w x p calmed.stayed.reached held.up held.joined in
      let checked : ChecksIn w x p (checks_in x w) = checks_in_once w x p (parent_apart h w calmed.stayed.reached x p held.joined) held.up held.joined held.host held.lease in
      record {
        acts = checked.acts;
        calmed = calm_then w x (checks_in x w).world calmed keeps;
        held = keeps.held p x held;
        told = ap (λ (l : Log). l.waiting) checked.log ∙ ack_next (log_of w x) (log_long w x p calmed.stayed.reached held.joined);
        others = λ y not_child not_parent. ap (λ (k : Control). k.kept.log) (checked.others y not_child not_parent);
      }

  -- All waiting facts of a node

  -- x has told all that waited
  pub record TellsAll (x p : ℕ) (ws : List Cert) (w : World) (r : Run) : Type 0 where
    pub acts : length r.acts ≡ 3 * batches (length ws)
    pub calmed : HasCalmed h w0 r.world
    pub told : (log_of r.world x).waiting ≡ []
    pub others : (y : ℕ) → (x ≡ y → ⊥) → (p ≡ y → ⊥) → log_of r.world y ≡ log_of w y

  -- a node checks in while something waits, and fewer facts wait after each check-in
  pub tells_while_all : (n x p : ℕ) (ws : List Cert) (w : World) → (log_of w x).waiting ≡ ws → length ws ≤ n → HasCalmed h w0 w → IsHeld w p x → TellsAll x p ws w (tells_while n x ws w)
  tells_while_all zero x p [] w is few calmed held = record { acts = refl; calmed = calmed; told = is; others = λ y a b. refl }
  tells_while_all zero x p (f ∷ fs) w is few calmed held = absurd (omega (arith, few))
  tells_while_all (suc n) x p [] w is few calmed held = record { acts = refl; calmed = calmed; told = is; others = λ y a b. refl }
  tells_while_all (suc n) x p (f ∷ fs) w is few calmed held =
      let v : World = (checks_in x w).world in
      let once : TellsOnce x p w (checks_in x w) = tells_once w x p calmed held in
      let left : List Cert = (log_of v x).waiting in
      let fewer : length left ≡ length (f ∷ fs) - 64 = ap length once.told ∙ (ap (λ (ws : List Cert). length (drop MAX_CHECK_IN_CERTS ws)) is ∙ length-drop MAX_CHECK_IN_CERTS (f ∷ fs)) in
      let rest : TellsAll x p left v (tells_while n x left v) = tells_while_all n x p left v refl (omega (arith, fewer, few)) once.calmed once.held in
      let count : batches (length (f ∷ fs)) ≡ 1 + batches (length left) = batches_more (length (f ∷ fs)) (omega arith) ∙ ap (λ (k : ℕ). 1 + batches k) (sym fewer) in
      record {
        acts = omega (arith, length-append (checks_in x w).acts (tells_while n x left v).acts, once.acts, rest.acts, count);
        calmed = rest.calmed;
        told = rest.told;
        others = λ y not_child not_parent. rest.others y not_child not_parent ∙ once.others y not_child not_parent;
      }
