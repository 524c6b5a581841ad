-- The rules by which a node gets a parent keep it lawful, and their records and messages are lawful.
use Rattle.std.proofs.Common.{◌≡◌, ℕ, ◌+◌, ◌<◌, Bool, true, false, not, ◌&&◌, ◌||◌, ◌==◌, nat_lt, if◌then◌else◌, Option, Some, None, List, [], ◌∷◌, arith, ltb-true}
use Rattle.std.proofs.lemmas.Bool.{and_parts, eqb-false}
use Rattle.oc_base.specs.declared.rank.Rank.{Rank}
use Rattle.oc_base.specs.declared.refusal.Refusal.{Refusal}
use Rattle.oc_base.specs.declared.refusal.Refusal.TheVariants as refusals
use Rattle.oc_base.specs.Rank.{beneath_of}
use Rattle.oc_model.specs.declared.answer.Answer.TheVariants as words
use Rattle.oc_model.specs.declared.message.Body.TheVariants as bodies
use Rattle.oc_model.specs.declared.mode.Mode.{Mode}
use Rattle.oc_model.specs.declared.mode.Mode.TheVariants as modes
use Rattle.oc_model.specs.declared.record.Record.TheVariants as records
use Rattle.oc_model.specs.declared.soft.Search.{Search}
use Rattle.oc_model.specs.declared.soft.Search.TheVariants.{Descend, Review}
use Rattle.oc_model.specs.declared.soft.Soft.{Soft}
use Rattle.oc_model.specs.Adoption.{rank_or_last, precedes_any}
use Rattle.oc_base.specs.declared.limits.TheConstants.{MAX_DEPTH}
use Rattle.oc_model.specs.Asking.{lost_from, lost, send_ask, ask, next_epoch, act, descend, try_at, earlier, waits_awhile, try_first, next_try, set_tries, round, ask_before, is_asking, ancestors_by, patience_at, joins, took_yes, refused, took_no, not_seen, not_reached, unreachable, left_in_move, notes_parent, relocate}
use Rattle.oc_model.specs.Choice.{ask_order}
use Rattle.oc_base.specs.Lawful.{IsNode, AreNodes, AreAncestors, IsCount, IsRank, IsRefusal}
use Rattle.oc_model.specs.Numbers.{number_end, is_empty}
use Rattle.oc_model.specs.Plan.{Plan, write, answers, with_soft, searching, ignored, is_member}
use Rattle.oc_laws_step.specs.LawfulNode.{IsLawfulPlan}
use Rattle.oc_laws_step.proofs.Asks.{few_ancestors}
use Rattle.oc_laws_step.proofs.Goes.{either, either_by}
use Rattle.oc_laws_step.proofs.LawfulFolds.{lawful_write, lawful_send, lawful_answers, lawful_soft, lawful_searching}
use Rattle.oc_laws_step.proofs.Ranges.{all_take, order_nodes, rank_lawful, next_lawful}

module _ (nodes : ℕ) where
  pub lawful_ignored : (o : Plan) → IsLawfulPlan nodes o → IsLawfulPlan nodes (ignored o)
  lawful_ignored o ok = lawful_answers nodes o words.Ignored ok

  lawful_lost_from : (m : Mode) (o : Plan) → IsLawfulPlan nodes o → IsLawfulPlan nodes (lost_from m o)
  lawful_lost_from modes.Idle o ok = ok
  lawful_lost_from (modes.Asking p) o ok = lawful_write nodes o records.Lost tt ok
  lawful_lost_from (modes.Joined p) o ok = lawful_write nodes o records.Lost tt ok
  lawful_lost_from modes.Acting o ok = lawful_write nodes o records.Lost tt ok

  pub lawful_lost : (o : Plan) → IsLawfulPlan nodes o → IsLawfulPlan nodes (lost o)
  lawful_lost o ok = lawful_lost_from o.node.kept.mode o ok

  abbrev asked_of : Plan → ℕ → Plan
  asked_of o p = searching (write o (records.Ask (o.node.kept.seq + 1) p)) None

  lawful_asked_of : (o : Plan) (p : ℕ) → IsCount (o.node.kept.seq + 1) → IsNode nodes p → IsLawfulPlan nodes o → IsLawfulPlan nodes (asked_of o p)
  lawful_asked_of o p next to ok =
      lawful_searching nodes (write o (records.Ask (o.node.kept.seq + 1) p)) None tt
      (lawful_write nodes o (records.Ask (o.node.kept.seq + 1) p) (next, to) ok)

  pub lawful_ask : (o : Plan) (p : ℕ) → IsNode nodes p → IsLawfulPlan nodes o → IsLawfulPlan nodes (ask o p)
  lawful_ask o p to ok =
      either_by (o.node.kept.seq == number_end) (IsLawfulPlan nodes) (answers (lost o) words.Spent) (send_ask (asked_of o p) p)
      (λ _. lawful_answers nodes (lost o) words.Spent (lawful_lost o ok))
      (λ e. let other : o.node.kept.seq ≡ number_end → ⊥ = eqb-false o.node.kept.seq number_end e in
      let next : IsCount (o.node.kept.seq + 1) = (omega arith, omega (arith, ok.node.kept.seq, other)) in
      lawful_send nodes (asked_of o p) p (bodies.Ask (o.node.kept.seq + 1) o.node.kept.rank) to (next, ok.node.kept.rank) (lawful_asked_of o p next to ok))

  pub lawful_act : (o : Plan) → IsLawfulPlan nodes o → IsLawfulPlan nodes (act o)
  lawful_act o ok = lawful_write nodes (write o records.Acting) (records.Epoch (next_epoch (rank_or_last o.node.kept.rank)))
      (next_lawful (rank_or_last o.node.kept.rank).epoch (rank_lawful o.node.kept.rank ok.node.kept.rank).0) (lawful_write nodes o records.Acting tt ok)

  pub lawful_descend : (o : Plan) (p : ℕ) → IsNode nodes p → IsLawfulPlan nodes o → IsLawfulPlan nodes (descend o p)
  lawful_descend o p to ok = lawful_send nodes (searching o (Some (Descend p))) p bodies.Look to tt (lawful_searching nodes o (Some (Descend p)) to ok)

  lawful_try_at : (o : Plan) (p : ℕ) → IsNode nodes p → IsLawfulPlan nodes o → IsLawfulPlan nodes (try_at o p)
  lawful_try_at o p to ok =
      either (not (is_member o.node) && is_empty o.node.kept.ancestors) (IsLawfulPlan nodes) (descend o p) (ask o p) (lawful_descend o p to ok) (lawful_ask o p to ok)

  lawful_waits_awhile : (o : Plan) → IsLawfulPlan nodes o → IsLawfulPlan nodes (waits_awhile o)
  lawful_waits_awhile o ok =
      let later : Soft = record o.node.soft { due = Some (earlier o.node.soft.due (o.node.soft.clock + 4)) } in
      lawful_answers nodes (with_soft o later) words.Waiting
      (lawful_soft nodes o later (record { clock = ok.node.soft.clock; tries = ok.node.soft.tries; search = ok.node.soft.search }) ok)

  lawful_try_first : (ps : List ℕ) (o : Plan) → AreNodes nodes ps → IsLawfulPlan nodes o → IsLawfulPlan nodes (try_first ps o)
  lawful_try_first [] o to ok =
      either (is_member o.node && o.node.soft.silent) (IsLawfulPlan nodes) (act o) (waits_awhile o) (lawful_act o ok) (lawful_waits_awhile o ok)
  lawful_try_first (p ∷ ps) o to ok =
      lawful_try_at (with_soft o (record o.node.soft { tries = ps })) p to.0
      (lawful_soft nodes o (record o.node.soft { tries = ps }) (record { clock = ok.node.soft.clock; tries = to.1; search = ok.node.soft.search }) ok)

  pub lawful_next_try : (o : Plan) → IsLawfulPlan nodes o → IsLawfulPlan nodes (next_try o)
  lawful_next_try o ok = either (o.node.me == 1) (IsLawfulPlan nodes) (act o) (try_first o.node.soft.tries o) (lawful_act o ok) (lawful_try_first o.node.soft.tries o ok.node.soft.tries ok)

  pub lawful_set_tries : (o : Plan) (out : Option ℕ) → IsLawfulPlan nodes o → IsLawfulPlan nodes (set_tries o out)
  lawful_set_tries o out ok =
      lawful_soft nodes o (record o.node.soft { tries = ask_order o.node.me o.node.chain o.node.kept.ancestors out; silent = true })
      (record {
        clock = ok.node.soft.clock;
        tries = order_nodes nodes o.node.me o.node.chain o.node.kept.ancestors out ok.node.me.1 ok.node.chain ok.node.kept.ancestors.0;
        search = ok.node.soft.search;
      })
      ok

  pub lawful_round : (o : Plan) (out : Option ℕ) → IsLawfulPlan nodes o → IsLawfulPlan nodes (round o out)
  lawful_round o out ok = lawful_next_try (set_tries o out) (lawful_set_tries o out ok)

  pub lawful_ask_before : (o : Plan) (p : ℕ) → IsNode nodes p → IsLawfulPlan nodes o → IsLawfulPlan nodes (ask_before o p)
  lawful_ask_before o p to ok = lawful_ask (set_tries o (Some p)) p to (lawful_set_tries o (Some p) ok)

  -- the ancestors of a child are nodes, and few
  pub lawful_ancestors : (p : ℕ) (xs : List ℕ) → IsNode nodes p → AreNodes nodes xs → AreAncestors nodes (ancestors_by p xs)
  lawful_ancestors p xs from all = ((from, all_take (IsNode nodes) 999 xs all), few_ancestors p xs)

  abbrev joined_to : Plan → ℕ → Rank → List ℕ → Plan
  joined_to o p r xs = write (write o (records.Joined p (beneath_of r))) (records.Ancestors (ancestors_by p xs))

  lawful_joins : (o : Plan) (p : ℕ) (r : Rank) (xs : List ℕ) → IsNode nodes p → IsRank r → nat_lt r.depth MAX_DEPTH ≡ true → AreNodes nodes xs → IsLawfulPlan nodes o → IsLawfulPlan nodes (joins o p r xs)
  lawful_joins o p r xs from told deep all ok =
      let less : r.depth < MAX_DEPTH = ltb-true r.depth MAX_DEPTH deep in
      lawful_soft nodes (joined_to o p r xs) (record o.node.soft { due = None; tries = []; search = None; wish = None; waits = 0; patience = patience_at o.node p })
      (record { clock = ok.node.soft.clock; tries = tt; search = tt })
      (lawful_write nodes (write o (records.Joined p (beneath_of r))) (records.Ancestors (ancestors_by p xs)) (lawful_ancestors p xs from all)
      (lawful_write nodes o (records.Joined p (beneath_of r)) (from, (told.0, omega (arith, less))) ok))

  abbrev is_taken : Plan → ℕ → ℕ → Rank → Bool
  is_taken o p seq r = is_asking o.node.kept.mode p && seq == o.node.kept.seq && nat_lt r.depth MAX_DEPTH && precedes_any r o.node.kept.rank

  pub lawful_took_yes : (o : Plan) (p seq : ℕ) (r : Rank) (xs : List ℕ) → IsNode nodes p → IsRank r → AreNodes nodes xs → IsLawfulPlan nodes o → IsLawfulPlan nodes (took_yes o p seq r xs)
  lawful_took_yes o p seq r xs from told all ok =
      either_by (is_taken o p seq r) (IsLawfulPlan nodes) (joins o p r xs) (ignored o)
      (λ e. lawful_joins o p r xs from told (and_parts (is_asking o.node.kept.mode p && seq == o.node.kept.seq) (nat_lt r.depth MAX_DEPTH) (and_parts _ (precedes_any r o.node.kept.rank) e).0).1 all ok)
      (λ _. lawful_ignored o ok)

  lawful_refused : (o : Plan) (why : Refusal) → IsRefusal nodes why → IsLawfulPlan nodes o → IsLawfulPlan nodes (refused o why)
  lawful_refused o (refusals.Chain k) to ok = either (is_member o.node || k == o.node.me) (IsLawfulPlan nodes) (next_try o) (descend o k) (lawful_next_try o ok) (lawful_descend o k to ok)
  lawful_refused o refusals.Own to ok = lawful_next_try o ok
  lawful_refused o refusals.NotJoined to ok = lawful_next_try o ok
  lawful_refused o refusals.Ancestor to ok = lawful_next_try o ok
  lawful_refused o refusals.Depth to ok = lawful_next_try o ok
  lawful_refused o refusals.Rank to ok = lawful_next_try o ok

  abbrev heard : Plan → Plan
  heard o = with_soft (lost o) (record o.node.soft { silent = false; refused = true })

  lawful_heard : (o : Plan) → IsLawfulPlan nodes o → IsLawfulPlan nodes (heard o)
  lawful_heard o ok =
      lawful_soft nodes (lost o) (record o.node.soft { silent = false; refused = true })
      (record { clock = ok.node.soft.clock; tries = ok.node.soft.tries; search = ok.node.soft.search }) (lawful_lost o ok)

  pub lawful_took_no : (o : Plan) (p seq : ℕ) (why : Refusal) → IsRefusal nodes why → IsLawfulPlan nodes o → IsLawfulPlan nodes (took_no o p seq why)
  lawful_took_no o p seq why to ok =
      either (is_asking o.node.kept.mode p && seq == o.node.kept.seq) (IsLawfulPlan nodes) (refused (heard o) why) (ignored o)
      (lawful_refused (heard o) why to (lawful_heard o ok)) (lawful_ignored o ok)

  lawful_not_seen : (s : Option Search) (o : Plan) (p : ℕ) → IsLawfulPlan nodes o → IsLawfulPlan nodes (not_seen s o p)
  lawful_not_seen (Some (Descend q)) o p ok =
      either (q == p) (IsLawfulPlan nodes) (next_try (searching o None)) (ignored o) (lawful_next_try (searching o None) (lawful_searching nodes o None tt ok)) (lawful_ignored o ok)
  lawful_not_seen (Some Review) o p ok = lawful_ignored o ok
  lawful_not_seen None o p ok = lawful_ignored o ok

  lawful_not_reached : (m : Mode) (o : Plan) (p : ℕ) → IsLawfulPlan nodes o → IsLawfulPlan nodes (not_reached m o p)
  lawful_not_reached (modes.Joined q) o p ok =
      either (q == p) (IsLawfulPlan nodes) (round (lost o) (Some p)) (not_seen o.node.soft.search o p)
      (lawful_round (lost o) (Some p) (lawful_lost o ok)) (lawful_not_seen o.node.soft.search o p ok)
  lawful_not_reached (modes.Asking q) o p ok =
      either (q == p) (IsLawfulPlan nodes) (next_try (lost o)) (not_seen o.node.soft.search o p)
      (lawful_next_try (lost o) (lawful_lost o ok)) (lawful_not_seen o.node.soft.search o p ok)
  lawful_not_reached modes.Idle o p ok = lawful_not_seen o.node.soft.search o p ok
  lawful_not_reached modes.Acting o p ok = lawful_not_seen o.node.soft.search o p ok

  pub lawful_unreachable : (o : Plan) (p : ℕ) → IsLawfulPlan nodes o → IsLawfulPlan nodes (unreachable o p)
  lawful_unreachable o p ok = lawful_not_reached o.node.kept.mode o p ok

  lawful_notes_parent : (o : Plan) → IsLawfulPlan nodes o → IsLawfulPlan nodes (notes_parent o)
  lawful_notes_parent o ok =
      lawful_soft nodes o (record o.node.soft { left = left_in_move o.node.kept.mode o.node.soft.wish o.node.soft.left })
      (record { clock = ok.node.soft.clock; tries = ok.node.soft.tries; search = ok.node.soft.search }) ok

  pub lawful_relocate : (o : Plan) (p : ℕ) → IsNode nodes p → IsLawfulPlan nodes o → IsLawfulPlan nodes (relocate o p)
  lawful_relocate o p to ok =
      either (p == o.node.me) (IsLawfulPlan nodes) (answers o words.Own) (if o.node.me == 1 || (is_member o.node && nat_lt o.node.me p) then answers o words.Fixed else ask_before (notes_parent o) p)
      (lawful_answers nodes o words.Own ok)
      (either (o.node.me == 1 || (is_member o.node && nat_lt o.node.me p)) (IsLawfulPlan nodes) (answers o words.Fixed) (ask_before (notes_parent o) p)
      (lawful_answers nodes o words.Fixed ok) (lawful_ask_before (notes_parent o) p to (lawful_notes_parent o ok)))
