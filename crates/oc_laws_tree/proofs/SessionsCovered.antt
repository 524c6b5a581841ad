-- The laws of sessions and of coverage for each world in terms of covered facts, since a known fact that is anywhere is
-- covered.
use Rattle.std.proofs.Common.{◌≡◌, ℕ, ◌-◌, Bool, true, false, Option, Some, None, ◌⊎◌, subst, inl, inr, refl, ap, sym, ⊎_elim, arith, ◌∙◌}
use Rattle.std.proofs.lemmas.Bool.{cond_both}
use Rattle.oc_base.specs.declared.cert.Cert.{Cert}
use Rattle.oc_model.specs.Certificates.{IsCovered}
use Rattle.oc_model.specs.declared.input.Input.{Input}
use Rattle.oc_model.specs.ClaimsTree.{table_of, seq_of}
use Rattle.oc_model.specs.NextWorld.{stopped, cut_off, keeps_write, stopped_at}
use Rattle.oc_model.specs.Node.{Node}
use Rattle.oc_model.specs.Numbers.{IsAmong}
use Rattle.oc_model.specs.Step.{step}
use Rattle.oc_model.specs.World.{World, Process, Arrival, process, process_in, node, with_process, stepped, arrival, acted}
use Rattle.oc_model.proofs.Outcomes.{step_leaves}
use Rattle.oc_model.proofs.Processes.{process_in-me, at_put, at_put_up, anew, again}
use Rattle.oc_laws_world.specs.Numbers.{IsAnywhere}
use Rattle.oc_laws_tree.specs.Coverage.{ChildrenAreCovered, RestartsKeepLogs}
use Rattle.oc_laws_tree.specs.Sessions.{log_of, before_place, CheckInsAreNumbered, AcksAnswer, AskersAreNew, CheckInsTell, AcksAreKnown, AckedAreWithin}
use Rattle.oc_laws_tree.proofs.Known.{Knows}
use Rattle.oc_laws_tree.proofs.LogPlaces.{among_take}
use Rattle.oc_laws_tree.proofs.SessionsHold.{SessionsHold}

-- the laws that speak of no table
pub check_ins_numbered : (w : World) → SessionsHold w → CheckInsAreNumbered w
check_ins_numbered w holds = holds.numbered

pub acks_answer : (w : World) → SessionsHold w → AcksAnswer w
acks_answer w holds = holds.answered

-- an acknowledgement to a node that asks would answer a check-in that was never sent
pub askers_new : (w : World) → SessionsHold w → AskersAreNew w
askers_new w holds x p asking = (holds.silent x p asking, λ y upto a. let k = holds.answered y x (seq_of w x) upto a in holds.silent x p asking y upto k.0 k.1)

pub acked_within : (w : World) → SessionsHold w → AckedAreWithin w
acked_within w holds x = let whole = holds.whole x in omega (arith, whole)

-- each table covers the facts anywhere that it knows
abbrev pub CoversKnown : World → Type 0
CoversKnown w = (y : ℕ) (f : Cert) → IsAnywhere w f → Knows (table_of w y) f → IsCovered (table_of w y) f

module _ (w : World) (covers : CoversKnown w) (holds : SessionsHold w) where
  -- a known fact of a log is covered, since it is in a log
  covers_logged : (x y place : ℕ) (f : Cert) → IsAmong f (before_place (log_of w x) place) → Knows (table_of w y) f → IsCovered (table_of w y) f
  covers_logged x y place f among known = covers y f (inr (inl (x, among_take f (place - (log_of w x).acked) (log_of w x).waiting among))) known

  -- a known fact is covered, so each check-in tells
  pub check_ins_tell : CheckInsTell w
  check_ins_tell x y upto certs joined a =
      let told = holds.tells x y joined upto certs a in
      (told.0, λ f among. ⊎_elim (λ in_it. inl in_it) (λ known. inr (covers_logged x y upto f among known)) (told.1 f among))

  pub acks_known : AcksAreKnown w
  acks_known x y upto joined a =
      let told = holds.known x y joined upto a in
      (told.0, λ f among. covers_logged x y upto f among (told.1 f among))

  pub children_covered : ChildrenAreCovered w
  children_covered x y f joined among = ⊎_elim (λ known. inl (covers y f (inl (x, among)) known)) (λ waits. inr (f, waits, inl refl)) (holds.rows x y f joined among)

-- a node that starts or stops keeps its log, and so does every other node
log_again : (w : World) (z x : ℕ) (up : Bool) → log_of (again w z up) x ≡ log_of w x
log_again w z x up = at_put w.processes (anew w z up) (λ (m : Node). m.control.kept.log ≡ log_of w x) x
    (λ e. ap (λ (y : ℕ). log_of w y) (sym (process_in-me w.processes z) ∙ e)) refl

-- two processes of x with the same log leave the same logs, put in the place of one that is up
log_put : (w : World) (x y : ℕ) (p q : Process) → (process w x).up ≡ true → p.node.control.me ≡ x → q.node.control.me ≡ x → p.node.control.kept.log ≡ q.node.control.kept.log
    → log_of (record w { processes = with_process w.processes p }) y ≡ log_of (record w { processes = with_process w.processes q }) y
log_put w x y p q up is_p is_q same =
    at_put_up w.processes p (λ (n : Node). n.control.kept.log ≡ log_of (record w { processes = with_process w.processes q }) y) y (up_at p is_p)
    (λ e. at_put_up w.processes q (λ (n : Node). p.node.control.kept.log ≡ n.control.kept.log) y (up_at q is_q) (λ _. same) (λ apart. absurd (apart (is_q ∙ (sym is_p ∙ e)))))
    (λ apart. at_put_up w.processes q (λ (n : Node). log_of w y ≡ n.control.kept.log) y (up_at q is_q) (λ e. absurd (apart (is_p ∙ (sym is_q ∙ e)))) (λ _. refl)) where
      up_at : (r : Process) → r.node.control.me ≡ x → (process_in w.processes r.node.control.me).up ≡ true
      up_at r is = subst (λ (z : ℕ). (process_in w.processes z).up ≡ true) (sym is) up

-- a stop within an input leaves the old log, or the log after the input
log_cut : (b : Bool) (w : World) (x y : ℕ) (i : Input) → (process w x).up ≡ true → (log_of (cut_off b w (node w x) i (step (node w x) i)) y ≡ log_of w y)
    ⊎ (log_of (cut_off b w (node w x) i (step (node w x) i)) y ≡ log_of (stepped w i (step (node w x) i)) y)
log_cut false w x y i up = inl (log_again w x y false)
log_cut true w x y i up = inr (log_put w x y (stopped (step (node w x) i).node) (record { node = (step (node w x) i).node; up = true }) up me me refl) where
  me : (step (node w x) i).node.control.me ≡ x
  me = (step_leaves (node w x) i).me ∙ process_in-me w.processes x

log_stopped : (w : World) (calls image y : ℕ) (a : Option Arrival) → (log_of (stopped_at w calls image a) y ≡ log_of w y) ⊎ (log_of (stopped_at w calls image a) y ≡ log_of (acted w a) y)
log_stopped w calls image y None = inl refl
log_stopped w calls image y (Some a) = by_up (process w a.at).up refl where
  kept : Bool
  kept = keeps_write calls image (node w a.at) a.input

  by_up : (b : Bool) → (process w a.at).up ≡ b → (log_of (stopped_at w calls image (Some a)) y ≡ log_of w y) ⊎ (log_of (stopped_at w calls image (Some a)) y ≡ log_of (acted w (Some a)) y)
  by_up true e = rw e (log_cut kept w a.at y a.input e)
  by_up false e = rw e (inl refl)

-- starts and stops keep all logs
pub restarts_keep : (w : World) → RestartsKeepLogs w
restarts_keep w = record {
  starts = λ z x. cond_both (process w z).up w (again w z true) (λ (v : World). log_of v x ≡ log_of w x) (λ _. refl) (λ _. log_again w z x true);
  crashes = λ z x. cond_both (process w z).up (again w z false) w (λ (v : World). log_of v x ≡ log_of w x) (λ _. log_again w z x false) (λ _. refl);
  stops = λ calls image x a. log_stopped w calls image x (arrival w a);
}
