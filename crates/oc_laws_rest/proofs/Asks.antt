-- Nobody asks at the end of a round.
use Rattle.std.proofs.Common.{◌≡◌, ℕ, true, false, ◌==◌, List, [], ◌∷◌, inl, length, sym, subst, ⊎_elim, ne_eqb}
use Rattle.std.proofs.lemmas.Bool.{cases_eq, and_parts}
use Rattle.oc_base.specs.Groups.{shelf}
use Rattle.oc_model.specs.declared.input.Input.{Input}
use Rattle.oc_model.specs.declared.mode.Mode.{Mode}
use Rattle.oc_model.specs.declared.mode.Mode.TheVariants.{Asking}
use Rattle.oc_model.specs.ClaimsTree.{seq_of}
use Rattle.oc_model.specs.Node.{Header}
use Rattle.oc_model.specs.Step.{step}
use Rattle.oc_model.specs.World.{World, Process, node, is_up, mode_of}
use Rattle.oc_laws_step.specs.Sound.{IsSound, IsSoundAs}
use Rattle.oc_laws_step.proofs.Soundness.{sound_planned}
use Rattle.oc_laws_tree.proofs.Points.{sound_after}
use Rattle.oc_laws_tree.proofs.Reached.{Reached, of_reached}
use Rattle.oc_laws_tree.proofs.SoundNodes.{AreSound}
use Rattle.oc_laws_rest.specs.Rounds.{Round, after_turns, after_round, after_rounds, is_round, are_later_rounds, is_quiet}
use Rattle.oc_laws_rest.specs.Rest.{NobodyAsks}
use Rattle.oc_laws_rest.proofs.Links.{takes}
use Rattle.oc_laws_rest.proofs.Moves.{Turned}
use Rattle.oc_laws_rest.proofs.Replies.{AreKept, after_input, round_answers}
use Rattle.oc_laws_rest.proofs.Roots.{reached_turns, reached_round}

-- all nodes stay sound
sound_input : (w : World) (z : ℕ) (i : Input) → AreSound w → is_up w z ≡ true → AreSound (after_input w z i)
sound_input w z i sound up y =
    let turn : Turned w z (step (node w z) i).node (step (node w z) i).sends (after_input w z i) = takes w z i up in
    ⊎_elim
    (λ (e : z ≡ y). subst (λ (x : ℕ). IsSound (node (after_input w z i) x).control) e
    (subst (λ (p : Process). IsSound p.node.control) (sym turn.here) (sound_planned (node w z).control (shelf (node w z).groups) i (sound z))))
    (λ apart. subst (λ (p : Process). IsSound p.node.control) (sym (turn.others y apart)) (sound y))
    (cases_eq z y)

-- a node that asks has an ask number
pub has_number : (w : World) → AreSound w → (x p : ℕ) → mode_of w x ≡ Asking p → (seq_of w x == 0) ≡ false
has_number w sound x p e =
    let asked : IsSoundAs (Asking p) (node w x).control.kept = subst (λ (m : Mode). IsSoundAs m (node w x).control.kept) e (sound x).kept.mode in
    ne_eqb (seq_of w x) 0 asked.0

-- nothing is said of the places of children
abbrev Free : World → ℕ → ℕ → ℕ → Type 0
Free w p x s = Unit {0}

all_free : (least : ℕ) → AreKept AreSound Free least
all_free least = record {
  goes = λ w z i sound up came brought. sound_input w z i sound up;
  some = λ w x p sound e. has_number w sound x p e;
  keeps = λ w z i sound up came brought p x free. tt;
  yes = λ w k m sound past found seq r xs body asks same. tt;
  acks = λ w m x p sound up up_x among report. inl tt;
}

module _ (h : Header) where
  pub sound_of : (w : World) → Reached h w → AreSound w
  sound_of w reached = of_reached AreSound sound_after h w reached

  pub round_asks : (w : World) (least : ℕ) (r : Round) → Reached h w → is_round least w r ≡ true → NobodyAsks (after_round w r)
  round_asks w least r reached is x p up e =
      (round_answers w AreSound Free least (all_free least) r is (sound_of (after_turns w r.turns) (reached_turns h r.turns w reached))).asks x p up e

  later_asks : (rs : List Round) (w : World) → Reached h w → NobodyAsks w → are_later_rounds w rs ≡ true → NobodyAsks (after_rounds w rs)
  later_asks [] w reached none quiet = none
  later_asks (r ∷ rs) w reached none quiet =
      let both = and_parts (is_round (length w.net) w r) (are_later_rounds (after_round w r) rs) quiet in
      later_asks rs (after_round w r) (reached_round h w r reached) (round_asks w (length w.net) r reached both.0) both.1

  pub nobody_asks : (w : World) → Reached h w → (r : Round) (rs : List Round) → is_quiet w (r ∷ rs) ≡ true → NobodyAsks (after_rounds w (r ∷ rs))
  nobody_asks w reached r rs quiet =
      let both = and_parts (is_round 0 w r) (are_later_rounds (after_round w r) rs) quiet in
      later_asks rs (after_round w r) (reached_round h w r reached) (round_asks w 0 r reached both.0) both.1
