-- The effect of the rules by which a node gets a parent, on the durable state and on the search for a place.
use Rattle.std.proofs.Common.{◌≡◌, ℕ, ◌+◌, ◌≤◌, Bool, true, false, not, ◌&&◌, ◌==◌, Option, Some, None, List, [], ◌∷◌, inl, inr, refl, sym, ◌∙◌, arith, eqb-true}
use Rattle.std.proofs.lemmas.Bool.{and_parts, le-leb}
use Rattle.oc_model.specs.declared.answer.Answer.{Answer}
use Rattle.oc_model.specs.declared.answer.Answer.TheVariants as words
use Rattle.oc_model.specs.declared.mode.Mode.{Mode}
use Rattle.oc_model.specs.declared.mode.Mode.TheVariants as modes
use Rattle.oc_model.specs.declared.record.Record.{Record}
use Rattle.oc_model.specs.declared.record.Record.TheVariants as records
use Rattle.oc_model.specs.declared.soft.Soft.{Soft}
use Rattle.oc_model.specs.Asking.{lost_from, lost, send_ask, ask, act, descend, try_at, earlier, waits_awhile, try_first, next_try, set_tries, round, ask_before}
use Rattle.oc_model.specs.Choice.{ask_order}
use Rattle.oc_model.specs.Node.{Control, Durable}
use Rattle.oc_model.specs.Numbers.{number_end, is_empty}
use Rattle.oc_model.specs.Plan.{Plan, write, answers, with_soft, searching, is_member}
use Rattle.oc_model.specs.Records.{fold_one}
use Rattle.oc_record.specs.SeeksNoPlace.{NoDescent, SeeksNoPlace}
use Rattle.oc_laws_step.proofs.Goes.{either, either_by}
use Rattle.oc_record.proofs.Moves.{Moved, left, Begins, fresh, fallen, begins_seq, begins_moved, begins_along, begins_lost, fresh_mode}

-- The durable state

module _ (Q : Type 0) (d : Durable) where
  -- a node that acts did so before
  pub begins_acting : (o : Plan) → (d.mode ≡ modes.Acting → ⊥) → Begins d o → o.node.kept.mode ≡ modes.Acting → ⊥
  begins_acting o other (fresh f) acting = other (sym (fresh_mode d o f) ∙ acting)
  begins_acting o other (fallen seq idle apart) acting = absurd (cc (sym idle ∙ acting))

  moved_lost : (o : Plan) (a : Answer) → Begins d o → Moved Q d (answers (lost o) a)
  moved_lost o a b = begins_moved Q d (answers (lost o) a) (begins_along d (lost o) (answers (lost o) a) refl refl (begins_lost d o b))

  pub moved_ask : (o : Plan) (p : ℕ) → Begins d o → Moved Q d (ask o p)
  moved_ask o p b =
      either (o.node.kept.seq == number_end) (Moved Q d) (answers (lost o) words.Spent) (send_ask (searching (write o (records.Ask (o.node.kept.seq + 1) p)) None) p)
      (moved_lost o words.Spent b) (left (inl (omega (arith, begins_seq d o b))))

  moved_act : (o : Plan) → (d.mode ≡ modes.Acting → ⊥) → Begins d o → Moved Q d (act o)
  moved_act o other b = left (inr (begins_seq d o b, inr refl, λ e. other (sym e)))

  pub moved_descend : (o : Plan) (p : ℕ) → Begins d o → Moved Q d (descend o p)
  moved_descend o p b = begins_moved Q d (descend o p) (begins_along d o (descend o p) refl refl b)

  moved_try_at : (o : Plan) (p : ℕ) → Begins d o → Moved Q d (try_at o p)
  moved_try_at o p b = either (not (is_member o.node) && is_empty o.node.kept.ancestors) (Moved Q d) (descend o p) (ask o p) (moved_descend o p b) (moved_ask o p b)

  moved_try_first : (ps : List ℕ) (o : Plan) → (d.mode ≡ modes.Acting → ⊥) → Begins d o → Moved Q d (try_first ps o)
  moved_try_first [] o other b =
      either (is_member o.node && o.node.soft.silent) (Moved Q d) (act o) (waits_awhile o) (moved_act o other b)
      (begins_moved Q d (waits_awhile o) (begins_along d o (waits_awhile o) refl refl b))
  moved_try_first (p ∷ ps) o other b = moved_try_at (with_soft o (record o.node.soft { tries = ps })) p (begins_along d o (with_soft o (record o.node.soft { tries = ps })) refl refl b)

  pub moved_next_try : (o : Plan) → (d.mode ≡ modes.Acting → ⊥) → Begins d o → Moved Q d (next_try o)
  moved_next_try o other b = either (o.node.me == 1) (Moved Q d) (act o) (try_first o.node.soft.tries o) (moved_act o other b) (moved_try_first o.node.soft.tries o other b)

  pub moved_round : (o : Plan) (out : Option ℕ) → (d.mode ≡ modes.Acting → ⊥) → Begins d o → Moved Q d (round o out)
  moved_round o out other b = moved_next_try (set_tries o out) other (begins_along d o (set_tries o out) refl refl b)

  pub moved_ask_before : (o : Plan) (p : ℕ) → Begins d o → Moved Q d (ask_before o p)
  moved_ask_before o p b = moved_ask (set_tries o (Some p)) p (begins_along d o (set_tries o (Some p)) refl refl b)

-- The search for a place

pub calm_write : (o : Plan) (r : Record) → ((fold_one o.node.kept r).mode ≡ modes.Acting → o.node.kept.mode ≡ modes.Acting) → SeeksNoPlace o.node → SeeksNoPlace (write o r).node
calm_write o r same calm = record { line = calm.line; member = calm.member; acting = λ e. calm.acting (same e) }

-- a node that does not act any more
calm_down : (o : Plan) (r : Record) → ((fold_one o.node.kept r).mode ≡ modes.Acting → ⊥) → SeeksNoPlace o.node → SeeksNoPlace (write o r).node
calm_down o r other calm = record { line = calm.line; member = calm.member; acting = λ e. absurd (other e) }

pub calm_soft : (o : Plan) (s : Soft) → (NoDescent o.node.soft.search → NoDescent s.search) → SeeksNoPlace o.node → SeeksNoPlace (with_soft o s).node
calm_soft o s keep calm = record { line = calm.line; member = λ e. keep (calm.member e); acting = λ e. keep (calm.acting e) }

calm_lost_from : (m : Mode) (o : Plan) → SeeksNoPlace o.node → SeeksNoPlace (lost_from m o).node
calm_lost_from modes.Idle o calm = calm
calm_lost_from (modes.Asking p) o calm = calm_down o records.Lost (λ e. absurd (cc e)) calm
calm_lost_from (modes.Joined p) o calm = calm_down o records.Lost (λ e. absurd (cc e)) calm
calm_lost_from modes.Acting o calm = calm_down o records.Lost (λ e. absurd (cc e)) calm

pub calm_lost : (o : Plan) → SeeksNoPlace o.node → SeeksNoPlace (lost o).node
calm_lost o calm = calm_lost_from o.node.kept.mode o calm

pub calm_ask : (o : Plan) (p : ℕ) → SeeksNoPlace o.node → SeeksNoPlace (ask o p).node
calm_ask o p calm =
    either (o.node.kept.seq == number_end) (λ q. SeeksNoPlace q.node) (answers (lost o) words.Spent) (send_ask (searching (write o (records.Ask (o.node.kept.seq + 1) p)) None) p)
    (calm_lost o calm)
    (calm_soft (write o (records.Ask (o.node.kept.seq + 1) p)) (record o.node.soft { search = None }) (λ none. tt)
    (calm_down o (records.Ask (o.node.kept.seq + 1) p) (λ e. absurd (cc e)) calm))

calm_act : (o : Plan) → NoDescent o.node.soft.search → SeeksNoPlace o.node → SeeksNoPlace (act o).node
calm_act o none calm = record { line = calm.line; member = calm.member; acting = λ e. none }

-- a fact whose negation holds does not hold
outside : (b : Bool) → not b ≡ true → b ≡ true → ⊥
outside true h e = absurd (cc h)
outside false h e = absurd (cc e)

pub calm_descend : (o : Plan) (p : ℕ) → (is_member o.node ≡ true → ⊥) → (o.node.kept.mode ≡ modes.Acting → ⊥) → SeeksNoPlace o.node → SeeksNoPlace (descend o p).node
calm_descend o p out other calm = record { line = calm.line; member = λ e. absurd (out e); acting = λ e. absurd (other e) }

calm_try_at : (o : Plan) (p : ℕ) → (o.node.kept.mode ≡ modes.Acting → ⊥) → SeeksNoPlace o.node → SeeksNoPlace (try_at o p).node
calm_try_at o p other calm =
    either_by (not (is_member o.node) && is_empty o.node.kept.ancestors) (λ q. SeeksNoPlace q.node) (descend o p) (ask o p)
    (λ e. calm_descend o p (outside (is_member o.node) (and_parts (not (is_member o.node)) (is_empty o.node.kept.ancestors) e).0) other calm)
    (λ e. calm_ask o p calm)

calm_waits_awhile : (o : Plan) → SeeksNoPlace o.node → SeeksNoPlace (waits_awhile o).node
calm_waits_awhile o calm = calm_soft o (record o.node.soft { due = Some (earlier o.node.soft.due (o.node.soft.clock + 4)) }) (λ none. none) calm

calm_try_first : (ps : List ℕ) (o : Plan) → (o.node.kept.mode ≡ modes.Acting → ⊥) → SeeksNoPlace o.node → SeeksNoPlace (try_first ps o).node
calm_try_first [] o other calm =
    either_by (is_member o.node && o.node.soft.silent) (λ q. SeeksNoPlace q.node) (act o) (waits_awhile o)
    (λ e. calm_act o (calm.member (and_parts (is_member o.node) o.node.soft.silent e).0) calm) (λ e. calm_waits_awhile o calm)
calm_try_first (p ∷ ps) o other calm =
    calm_try_at (with_soft o (record o.node.soft { tries = ps })) p other (calm_soft o (record o.node.soft { tries = ps }) (λ none. none) calm)

-- node 1 is a member
first_member : (n : Control) → n.me == 1 ≡ true → 1 ≤ n.chain → is_member n ≡ true
first_member n is line = le-leb n.me n.chain (omega (arith, eqb-true n.me 1 is, line))

pub calm_next_try : (o : Plan) → (o.node.kept.mode ≡ modes.Acting → ⊥) → SeeksNoPlace o.node → SeeksNoPlace (next_try o).node
calm_next_try o other calm =
    either_by (o.node.me == 1) (λ q. SeeksNoPlace q.node) (act o) (try_first o.node.soft.tries o)
    (λ e. calm_act o (calm.member (first_member o.node e calm.line)) calm) (λ e. calm_try_first o.node.soft.tries o other calm)

pub calm_set_tries : (o : Plan) (out : Option ℕ) → SeeksNoPlace o.node → SeeksNoPlace (set_tries o out).node
calm_set_tries o out calm = calm_soft o (record o.node.soft { tries = ask_order o.node.me o.node.chain o.node.kept.ancestors out; silent = true }) (λ none. none) calm

pub calm_round : (o : Plan) (out : Option ℕ) → (o.node.kept.mode ≡ modes.Acting → ⊥) → SeeksNoPlace o.node → SeeksNoPlace (round o out).node
calm_round o out other calm = calm_next_try (set_tries o out) other (calm_set_tries o out calm)

pub calm_ask_before : (o : Plan) (p : ℕ) → SeeksNoPlace o.node → SeeksNoPlace (ask_before o p).node
calm_ask_before o p calm = calm_ask (set_tries o (Some p)) p (calm_set_tries o (Some p) calm)
