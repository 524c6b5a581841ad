-- The rules by which a node gets a parent or becomes a root consist of the small changes: rules 1 to 4 (ask, next try, round,
-- become acting), 8 (take a yes), 9 (take a no), 10 (unreachable) and 11 (relocate).
use Rattle.std.proofs.Common.{◌≡◌, ℕ, ◌+◌, Bool, true, false, not, ◌&&◌, ◌||◌, ◌==◌, nat_lt, if◌then◌else◌, Option, Some, None, List, [], ◌∷◌, refl, ap, subst, eqb-true}
use Rattle.std.proofs.lemmas.Bool.{cond_both, and_parts}
use Rattle.oc_base.specs.declared.rank.Rank.{Rank}
use Rattle.oc_base.specs.declared.refusal.Refusal.{Refusal}
use Rattle.oc_base.specs.declared.refusal.Refusal.TheVariants as refusals
use Rattle.oc_base.specs.Rank.{beneath_of}
use Rattle.oc_model.specs.declared.answer.Answer.TheVariants as words
use Rattle.oc_model.specs.declared.message.Body.{Body}
use Rattle.oc_model.specs.declared.message.Body.TheVariants as bodies
use Rattle.oc_model.specs.declared.message.Message.{Message}
use Rattle.oc_model.specs.declared.mode.Mode.{Mode}
use Rattle.oc_model.specs.declared.mode.Mode.TheVariants as modes
use Rattle.oc_model.specs.declared.record.Record.TheVariants as records
use Rattle.oc_model.specs.declared.soft.Search.{Search}
use Rattle.oc_model.specs.declared.soft.Search.TheVariants as searches
use Rattle.oc_model.specs.declared.soft.Soft.{Soft}
use Rattle.oc_model.specs.Adoption.{precedes_any}
use Rattle.oc_base.specs.declared.limits.TheConstants.{MAX_DEPTH}
use Rattle.oc_model.specs.Asking.{lost_from, lost, send_ask, ask, act, descend, try_at, earlier, waits_awhile, try_first, next_try, set_tries, round, ask_before, is_asking, ancestors_by, patience_at, joins, took_yes, refused, took_no, not_seen, not_reached, unreachable, left_in_move, notes_parent, relocate}
use Rattle.oc_model.specs.Choice.{ask_order}
use Rattle.oc_model.specs.Node.{Control}
use Rattle.oc_model.specs.Numbers.{number_end, is_empty}
use Rattle.oc_model.specs.Plan.{Plan, write, answers, with_soft, searching, ignored, is_member}
use Rattle.oc_laws_world.proofs.Machine.{IsMachine, Of}

-- a node that asks p has this mode
pub asking_mode : (m : Mode) (p : ℕ) → is_asking m p ≡ true → m ≡ modes.Asking p
asking_mode (modes.Asking q) p e = ap modes.Asking (eqb-true q p e)
asking_mode modes.Idle p e = absurd cc
asking_mode (modes.Joined q) p e = absurd cc
asking_mode modes.Acting p e = absurd cc

module _ (came : ℕ → Body → Type 0) (P : Control → List Message → Type 0) (k : IsMachine came P) where
  walks_lost_from : (m : Mode) (o : Plan) → Of P o → Of P (lost_from m o)
  walks_lost_from modes.Idle o h = h
  walks_lost_from (modes.Asking p) o h = k.falls o.node o.sends h
  walks_lost_from (modes.Joined p) o h = k.falls o.node o.sends h
  walks_lost_from modes.Acting o h = k.falls o.node o.sends h

  pub walks_lost : (o : Plan) → Of P o → Of P (lost o)
  walks_lost o h = walks_lost_from o.node.kept.mode o h

  pub walks_searching : (o : Plan) (s : Option Search) → Of P o → Of P (searching o s)
  walks_searching o s h = k.soft o.node o.sends (record o.node.soft { search = s }) h

  pub walks_ask : (o : Plan) (p : ℕ) → Of P o → Of P (ask o p)
  walks_ask o p h =
      let asked : Plan = write o (records.Ask (o.node.kept.seq + 1) p) in
      cond_both (o.node.kept.seq == number_end) (answers (lost o) words.Spent) (send_ask (searching asked None) p) (Of P)
      (λ _. walks_lost o h)
      (λ e. k.says_ask (searching asked None).node (searching asked None).sends p refl (walks_searching asked None (k.asks o.node o.sends p e h)))

  pub walks_act : (o : Plan) → Of P o → Of P (act o)
  walks_act o h = k.acts o.node o.sends h

  pub walks_descend : (o : Plan) (p : ℕ) → Of P o → Of P (descend o p)
  walks_descend o p h =
      let looking : Plan = searching o (Some (searches.Descend p)) in
      k.says looking.node looking.sends p bodies.Look tt (walks_searching o (Some (searches.Descend p)) h)

  walks_try_at : (o : Plan) (p : ℕ) → Of P o → Of P (try_at o p)
  walks_try_at o p h = cond_both (not (is_member o.node) && is_empty o.node.kept.ancestors) (descend o p) (ask o p) (Of P) (λ _. walks_descend o p h) (λ _. walks_ask o p h)

  walks_waits_awhile : (o : Plan) → Of P o → Of P (waits_awhile o)
  walks_waits_awhile o h = k.soft o.node o.sends (record o.node.soft { due = Some (earlier o.node.soft.due (o.node.soft.clock + 4)) }) h

  walks_try_first : (ps : List ℕ) (o : Plan) → Of P o → Of P (try_first ps o)
  walks_try_first [] o h = cond_both (is_member o.node && o.node.soft.silent) (act o) (waits_awhile o) (Of P) (λ _. walks_act o h) (λ _. walks_waits_awhile o h)
  walks_try_first (p ∷ ps) o h = walks_try_at (with_soft o (record o.node.soft { tries = ps })) p (k.soft o.node o.sends (record o.node.soft { tries = ps }) h)

  pub walks_next_try : (o : Plan) → Of P o → Of P (next_try o)
  walks_next_try o h = cond_both (o.node.me == 1) (act o) (try_first o.node.soft.tries o) (Of P) (λ _. walks_act o h) (λ _. walks_try_first o.node.soft.tries o h)

  walks_set_tries : (o : Plan) (without : Option ℕ) → Of P o → Of P (set_tries o without)
  walks_set_tries o without h = k.soft o.node o.sends (record o.node.soft { tries = ask_order o.node.me o.node.chain o.node.kept.ancestors without; silent = true }) h

  pub walks_round : (o : Plan) (without : Option ℕ) → Of P o → Of P (round o without)
  walks_round o without h = walks_next_try (set_tries o without) (walks_set_tries o without h)

  pub walks_ask_before : (o : Plan) (p : ℕ) → Of P o → Of P (ask_before o p)
  walks_ask_before o p h = walks_ask (set_tries o (Some p)) p (walks_set_tries o (Some p) h)

  -- the rest of a join: the ancestors, and the cleared part
  walks_placed : (o : Plan) (s : Soft) (p : ℕ) (xs : List ℕ) → Of P o → Of P (with_soft (write o (records.Ancestors (ancestors_by p xs))) s)
  walks_placed o s p xs h =
      let placed : Plan = write o (records.Ancestors (ancestors_by p xs)) in
      k.soft placed.node placed.sends s (k.aside o.node o.sends (ancestors_by p xs) o.node.kept.measures h)

  walks_joins : (o : Plan) (p : ℕ) (r : Rank) (xs : List ℕ) → came p (bodies.Yes o.node.kept.seq r xs) → o.node.kept.mode ≡ modes.Asking p → nat_lt r.depth MAX_DEPTH ≡ true → precedes_any r o.node.kept.rank ≡ true
      → Of P o → Of P (joins o p r xs)
  walks_joins o p r xs came_yes asking shallow before h =
      walks_placed (write o (records.Joined p (beneath_of r))) (record o.node.soft { due = None; tries = []; search = None; wish = None; waits = 0; patience = patience_at o.node p }) p xs
      (cond_both (o.node.kept.seq == 0) o.node.kept (record o.node.kept { mode = modes.Joined p; rank = Some (beneath_of r); log = _ }) (λ d. P (record o.node { kept = d }) o.sends)
      (λ _. h) (λ _. k.joins o.node o.sends p r xs came_yes asking shallow before h))

  pub walks_took_yes : (o : Plan) (p seq : ℕ) (r : Rank) (xs : List ℕ) → came p (bodies.Yes seq r xs) → Of P o → Of P (took_yes o p seq r xs)
  walks_took_yes o p seq r xs came_yes h =
      cond_both (is_asking o.node.kept.mode p && seq == o.node.kept.seq && nat_lt r.depth MAX_DEPTH && precedes_any r o.node.kept.rank) (joins o p r xs) (ignored o) (Of P)
      (λ e.
      let before = and_parts (is_asking o.node.kept.mode p && seq == o.node.kept.seq && nat_lt r.depth MAX_DEPTH) (precedes_any r o.node.kept.rank) e in
      let shallow = and_parts (is_asking o.node.kept.mode p && seq == o.node.kept.seq) (nat_lt r.depth MAX_DEPTH) before.0 in
      let asked = and_parts (is_asking o.node.kept.mode p) (seq == o.node.kept.seq) shallow.0 in
      walks_joins o p r xs (subst (λ (s : ℕ). came p (bodies.Yes s r xs)) (eqb-true seq o.node.kept.seq asked.1) came_yes) (asking_mode o.node.kept.mode p asked.0) shallow.1 before.1 h)
      (λ _. h)

  walks_refused : (o : Plan) (why : Refusal) → Of P o → Of P (refused o why)
  walks_refused o (refusals.Chain q) h = cond_both (is_member o.node || q == o.node.me) (next_try o) (descend o q) (Of P) (λ _. walks_next_try o h) (λ _. walks_descend o q h)
  walks_refused o refusals.Own h = walks_next_try o h
  walks_refused o refusals.NotJoined h = walks_next_try o h
  walks_refused o refusals.Ancestor h = walks_next_try o h
  walks_refused o refusals.Depth h = walks_next_try o h
  walks_refused o refusals.Rank h = walks_next_try o h

  pub walks_took_no : (o : Plan) (p seq : ℕ) (why : Refusal) → Of P o → Of P (took_no o p seq why)
  walks_took_no o p seq why h =
      let heard : Plan = with_soft (lost o) (record o.node.soft { silent = false; refused = true }) in
      cond_both (is_asking o.node.kept.mode p && seq == o.node.kept.seq) (refused heard why) (ignored o) (Of P)
      (λ _. walks_refused heard why (k.soft (lost o).node (lost o).sends (record o.node.soft { silent = false; refused = true }) (walks_lost o h)))
      (λ _. h)

  walks_not_seen : (s : Option Search) (o : Plan) (p : ℕ) → Of P o → Of P (not_seen s o p)
  walks_not_seen None o p h = h
  walks_not_seen (Some searches.Review) o p h = h
  walks_not_seen (Some (searches.Descend q)) o p h = cond_both (q == p) (next_try (searching o None)) (ignored o) (Of P) (λ _. walks_next_try (searching o None) (walks_searching o None h)) (λ _. h)

  walks_not_reached : (m : Mode) (o : Plan) (p : ℕ) → Of P o → Of P (not_reached m o p)
  walks_not_reached modes.Idle o p h = walks_not_seen o.node.soft.search o p h
  walks_not_reached modes.Acting o p h = walks_not_seen o.node.soft.search o p h
  walks_not_reached (modes.Joined q) o p h =
      cond_both (q == p) (round (lost o) (Some p)) (not_seen o.node.soft.search o p) (Of P) (λ _. walks_round (lost o) (Some p) (walks_lost o h)) (λ _. walks_not_seen o.node.soft.search o p h)
  walks_not_reached (modes.Asking q) o p h =
      cond_both (q == p) (next_try (lost o)) (not_seen o.node.soft.search o p) (Of P) (λ _. walks_next_try (lost o) (walks_lost o h)) (λ _. walks_not_seen o.node.soft.search o p h)

  pub walks_unreachable : (o : Plan) (p : ℕ) → Of P o → Of P (unreachable o p)
  walks_unreachable o p h = walks_not_reached o.node.kept.mode o p h

  walks_notes_parent : (o : Plan) → Of P o → Of P (notes_parent o)
  walks_notes_parent o h = k.soft o.node o.sends (record o.node.soft { left = left_in_move o.node.kept.mode o.node.soft.wish o.node.soft.left }) h

  pub walks_relocate : (o : Plan) (p : ℕ) → Of P o → Of P (relocate o p)
  walks_relocate o p h =
      let fixed : Bool = o.node.me == 1 || (is_member o.node && nat_lt o.node.me p) in
      cond_both (p == o.node.me) (answers o words.Own) (if fixed then answers o words.Fixed else ask_before (notes_parent o) p) (Of P)
      (λ _. h)
      (λ _. cond_both fixed (answers o words.Fixed) (ask_before (notes_parent o) p) (Of P) (λ _. h) (λ _. walks_ask_before (notes_parent o) p (walks_notes_parent o h)))
