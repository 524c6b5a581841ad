-- What a node that asks or is joined has sent for it: the effect of each input on that.
use Rattle.std.proofs.Common.{◌≡◌, ℕ, ◌+◌, ◌-◌, max, Bool, true, false, not, ◌&&◌, ◌||◌, ◌==◌, nat_lt, nat_le, if◌then◌else◌, Option, Some, None, is_some, List, [], ◌∷◌, ◌++◌, ◌⊎◌, inl, inr, length, filter, map, refl, ap, sym, subst, ◌∙◌, ⊎_elim, eqb-true, eq-eqb}
use Rattle.std.proofs.lemmas.Bool.{cond_both, and_parts}
use Rattle.oc_base.specs.declared.cert.Cert.{Cert}
use Rattle.oc_base.specs.declared.group.Group.{Group}
use Rattle.oc_base.specs.declared.rank.Rank.{Rank}
use Rattle.oc_base.specs.declared.refusal.Refusal.{Refusal}
use Rattle.oc_base.specs.declared.refusal.Refusal.TheVariants as refusals
use Rattle.oc_base.specs.declared.shelf.Shelf.{Shelf}
use Rattle.oc_base.specs.declared.limits.TheConstants.{MAX_DEPTH, MAX_GROUPS, MAX_GROUP_BYTES}
use Rattle.oc_base.specs.Groups.{shelf}
use Rattle.oc_base.specs.Rank.{beneath_of}
use Rattle.oc_base.specs.Shelves.{line_of}
use Rattle.oc_model.specs.declared.answer.Answer.TheVariants as words
use Rattle.oc_model.specs.declared.input.Input.{Input}
use Rattle.oc_model.specs.declared.input.Input.TheVariants.{Tick, Unreachable, Delivered}
use Rattle.oc_model.specs.declared.message.Body.{Body}
use Rattle.oc_model.specs.declared.message.Body.TheVariants as bodies
use Rattle.oc_model.specs.declared.message.Message.{Message}
use Rattle.oc_model.specs.declared.mode.Mode.{Mode}
use Rattle.oc_model.specs.declared.mode.Mode.TheVariants as modes
use Rattle.oc_model.specs.declared.record.Record.TheVariants as records
use Rattle.oc_model.specs.declared.soft.Search.{Search}
use Rattle.oc_model.specs.declared.soft.Search.TheVariants as searches
use Rattle.oc_model.specs.declared.soft.Soft.{Soft}
use Rattle.oc_model.specs.declared.soft.TheConstants.{MAX_MOVES}
use Rattle.oc_model.specs.declared.want.Want.{Want}
use Rattle.oc_model.specs.Adopting.{is_acting, raises, raises_over, host, birth, has_lease, grants, sends_rejoin, adopts, answers_ask, asked}
use Rattle.oc_model.specs.Adoption.{precedes, precedes_any, rank_or_last, is_better, adoption_refusal}
use Rattle.oc_model.specs.Asking.{lost_from, lost, send_ask, ask, act, descend, try_at, waits_awhile, try_first, next_try, set_tries, round, ask_before, is_asking, ancestors_by, joins, took_yes, refused, took_no, not_seen, not_reached, unreachable}
use Rattle.oc_model.specs.ChangeLog.{begun_with, is_ahead, place_after, next_certs}
use Rattle.oc_model.specs.Checking.{checks_in, notes_time, reports, sets_due, merges, merges_all, at_time, starts_leases, dies, ends_each, ends_leases, looks_at_each, looks_round, is_due, forgets_refusal, goes_on, tick_checks_as, tick_checks, checks_in_time, reports_news, checks_if_due, fetches_as, tick, acknowledges, life, checked_in, is_joined_to, takes_place, takes_rank_unless, same_ids, takes_ancestors, took_ack, is_peer, took_rejoin}
use Rattle.oc_model.specs.Choice.{below, chosen, reviewed}
use Rattle.oc_model.specs.Content.{unless, keeps, answers_fetch, adds_seal, adds, grown_line, asks_on, keeps_chunk, chunk_to, took_chunk}
use Rattle.oc_model.specs.Leases.{renew, ended}
use Rattle.oc_model.specs.Looking.{Stand, goes_down, candidates, descends, place_in, is_place, wishes, leaves_for, goes_where, weighs, view, reviews_place, prefers, keeps_line, sees_as}
use Rattle.oc_model.specs.Node.{Durable, Node}
use Rattle.oc_model.specs.Numbers.{IsAmong, number_end, raise, capped, put_at, is_empty}
use Rattle.oc_model.specs.Plan.{Plan, begun, write, send, answers, with_soft, with_leases, searching, ignored, is_member, rate_to}
use Rattle.oc_model.specs.Shelves.{line_at, with_line, limit, next_behind}
use Rattle.oc_model.specs.Step.{received, fill_body, fill, filled, bytes_wanted, step}
use Rattle.oc_model.specs.Table.{newest, is_news}
use Rattle.oc_model.proofs.Rules.{either}
use Rattle.oc_laws_world.proofs.WalksAsking.{asking_mode}
use Rattle.oc_laws_rest.specs.Rounds.{is_dial}

-- Messages of a step

pub among_more : (ms ns : List Message) (m : Message) → IsAmong m ms → IsAmong m (ms ++ ns)
among_more [] ns m one = absurd one
among_more (a ∷ ms) ns m one = ⊎_elim (λ e. inl e) (λ later. inr (among_more ms ns m later)) one

pub among_last : (ms : List Message) (m : Message) → IsAmong m (ms ++ m ∷ [])
among_last [] m = inl refl
among_last (a ∷ ms) m = inr (among_last ms m)

-- the bytes of content change no dial
pub filled_dials : (bytes : List ℕ) (b : Body) → is_dial (fill_body bytes b) ≡ is_dial b
filled_dials bytes bodies.Look = refl
filled_dials bytes (bodies.LookIs is_in parent rate children) = refl
filled_dials bytes (bodies.Ask seq rank) = refl
filled_dials bytes (bodies.Yes seq rank ancestors) = refl
filled_dials bytes (bodies.No seq why) = refl
filled_dials bytes (bodies.CheckIn seq upto rate number clients certs) = refl
filled_dials bytes (bodies.CheckAck seq upto rank ancestors) = refl
filled_dials bytes (bodies.Rejoin seq) = refl
filled_dials bytes (bodies.Fetch have) = refl
filled_dials bytes (bodies.Chunk g start none last) = refl

pub among_filled : (bytes : List ℕ) (ms : List Message) (m : Message) → IsAmong m ms → IsAmong (fill bytes m) (map (fill bytes) ms)
among_filled bytes [] m one = absurd one
among_filled bytes (a ∷ ms) m one = ⊎_elim (λ e. inl (ap (fill bytes) e)) (λ later. inr (among_filled bytes ms m later)) one

-- x has checked in with p under this ask number, in one of these messages
abbrev pub HasReported : List Message → ℕ → ℕ → ℕ → Type 0
HasReported ms x p s = (upto rate number clients : ℕ) × (certs : List Cert) × IsAmong (record { from = x; to = p; body = bodies.CheckIn s upto rate number clients certs }) ms

-- an answer to an ask of this number by a node of this rank, which that node takes
abbrev pub Answers : Body → ℕ → Option Rank → Type 0
Answers (bodies.Yes seq given ancestors) s r = (seq ≡ s) × (nat_lt given.depth MAX_DEPTH ≡ true) × (precedes_any given r ≡ true)
Answers (bodies.No seq why) s r = seq ≡ s
Answers (bodies.Rejoin seq) s r = seq ≡ s
Answers b s r = ⊥

-- it tells the node to ask anew, by this number
abbrev pub IsRejoin : Body → ℕ → Type 0
IsRejoin (bodies.Rejoin seq) s = seq ≡ s
IsRejoin b s = ⊥

any_joined : (m : Mode) (p : ℕ) → is_joined_to m p ≡ true → m ≡ modes.Joined p
any_joined (modes.Joined q) p e = ap modes.Joined (eqb-true q p e)
any_joined modes.Idle p e = absurd cc
any_joined (modes.Asking q) p e = absurd cc
any_joined modes.Acting p e = absurd cc

any_acting : (m : Mode) → is_acting m ≡ true → m ≡ modes.Acting
any_acting modes.Acting e = refl
any_acting modes.Idle e = absurd cc
any_acting (modes.Asking q) e = absurd cc
any_acting (modes.Joined q) e = absurd cc

module _ (x : ℕ) (A : ℕ → ℕ → Option Rank → Type 0) (J : ℕ → ℕ → Type 0) where
  -- what holds of a node in this mode, with this ask number and rank, that has sent these messages: if it asks, A holds or it has
  -- sent the ask; if it is joined, J holds or it has checked in
  abbrev pub Has : Mode → ℕ → Option Rank → List Message → Type 0
  Has (modes.Asking p) s r ms = A p s r ⊎ IsAmong (record { from = x; to = p; body = bodies.Ask s r }) ms
  Has (modes.Joined p) s r ms = J p s ⊎ HasReported ms x p s
  Has modes.Idle s r ms = Unit {0}
  Has modes.Acting s r ms = Unit {0}

  -- a step of x under way
  abbrev pub IsSaid : Plan → Type 0
  IsSaid o = (o.node.me ≡ x) × Has o.node.kept.mode o.node.kept.seq o.node.kept.rank o.sends

  has_more : (m : Mode) (s : ℕ) (r : Option Rank) (ms : List Message) (n : Message) → Has m s r ms → Has m s r (ms ++ n ∷ [])
  has_more (modes.Asking p) s r ms n h = ⊎_elim (λ a. inl a) (λ one. inr (among_more ms (n ∷ []) (record { from = x; to = p; body = bodies.Ask s r }) one)) h
  has_more (modes.Joined p) s r ms n h =
      ⊎_elim (λ a. inl a) (λ (has : HasReported ms x p s). inr (has.0, has.1, has.2, has.3, has.4, among_more ms (n ∷ []) (record { from = x; to = p; body = bodies.CheckIn s has.0 has.1 has.2 has.3 has.4 }) has.5)) h
  has_more modes.Idle s r ms n h = tt
  has_more modes.Acting s r ms n h = tt

  has_filled : (m : Mode) (s : ℕ) (r : Option Rank) (w : Option Want) (ks : List Group) (ms : List Message) → Has m s r ms → Has m s r (filled w ks ms)
  has_filled m s r None ks ms h = h
  has_filled (modes.Asking p) s r (Some w) ks ms h = ⊎_elim (λ a. inl a) (λ one. inr (among_filled (bytes_wanted ks w) ms (record { from = x; to = p; body = bodies.Ask s r }) one)) h
  has_filled (modes.Joined p) s r (Some w) ks ms h =
      ⊎_elim (λ a. inl a) (λ (has : HasReported ms x p s). inr (has.0, has.1, has.2, has.3, has.4, among_filled (bytes_wanted ks w) ms (record { from = x; to = p; body = bodies.CheckIn s has.0 has.1 has.2 has.3 has.4 }) has.5)) h
  has_filled modes.Idle s r (Some w) ks ms h = tt
  has_filled modes.Acting s r (Some w) ks ms h = tt

  -- a rank is of no account to a node that is joined or acts
  has_ranked : (m : Mode) (p s : ℕ) (r q : Option Rank) (ms : List Message) → m ≡ modes.Joined p → Has m s r ms → Has m s q ms
  has_ranked (modes.Joined q) p s r t ms e h = h
  has_ranked (modes.Asking q) p s r t ms e h = absurd cc
  has_ranked modes.Idle p s r t ms e h = tt
  has_ranked modes.Acting p s r t ms e h = tt

  has_acting : (m : Mode) (s : ℕ) (r : Option Rank) (ms : List Message) → m ≡ modes.Acting → Has m s r ms
  has_acting m s r ms e = subst (λ (n : Mode). Has n s r ms) (sym e) tt

  said_send : (o : Plan) (p : ℕ) (b : Body) → IsSaid o → IsSaid (send o p b)
  said_send o p b h = (h.0, has_more o.node.kept.mode o.node.kept.seq o.node.kept.rank o.sends (record { from = o.node.me; to = p; body = b }) h.1)

  -- a node that asks its peer
  said_asks : (o : Plan) (p : ℕ) → o.node.me ≡ x → o.node.kept.mode ≡ modes.Asking p → IsSaid (send_ask o p)
  said_asks o p me e =
      let m : Message = record { from = o.node.me; to = p; body = bodies.Ask o.node.kept.seq o.node.kept.rank } in (
        me,
        subst (λ (n : Mode). Has n o.node.kept.seq o.node.kept.rank (o.sends ++ m ∷ [])) (sym e)
            (inr (subst (λ (y : ℕ). IsAmong (record { from = y; to = p; body = bodies.Ask o.node.kept.seq o.node.kept.rank }) (o.sends ++ m ∷ [])) me (among_last o.sends m))),
      )

  -- a node without a peer
  said_idle : (o : Plan) → o.node.me ≡ x → o.node.kept.mode ≡ modes.Idle → IsSaid o
  said_idle o me e = (me, subst (λ (n : Mode). Has n o.node.kept.seq o.node.kept.rank o.sends) (sym e) tt)

  said_acting : (o : Plan) → o.node.me ≡ x → o.node.kept.mode ≡ modes.Acting → IsSaid o
  said_acting o me e = (me, has_acting o.node.kept.mode o.node.kept.seq o.node.kept.rank o.sends e)

  -- Asks

  said_lost_from : (m : Mode) (o : Plan) → o.node.kept.mode ≡ m → o.node.me ≡ x → IsSaid (lost_from m o)
  said_lost_from modes.Idle o e me = said_idle o me e
  said_lost_from (modes.Asking p) o e me = (me, tt)
  said_lost_from (modes.Joined p) o e me = (me, tt)
  said_lost_from modes.Acting o e me = (me, tt)

  said_lost : (o : Plan) → o.node.me ≡ x → IsSaid (lost o)
  said_lost o me = said_lost_from o.node.kept.mode o refl me

  said_ask : (o : Plan) (p : ℕ) → o.node.me ≡ x → IsSaid (ask o p)
  said_ask o p me =
      let asking : Plan = searching (write o (records.Ask (o.node.kept.seq + 1) p)) None in
      either (o.node.kept.seq == number_end) IsSaid (answers (lost o) words.Spent) (send_ask asking p) (said_lost o me) (said_asks asking p me refl)

  said_act : (o : Plan) → o.node.me ≡ x → IsSaid (act o)
  said_act o me = (me, tt)

  said_descend : (o : Plan) (p : ℕ) → IsSaid o → IsSaid (descend o p)
  said_descend o p h = said_send (searching o (Some (searches.Descend p))) p bodies.Look h

  said_try_at : (o : Plan) (p : ℕ) → IsSaid o → IsSaid (try_at o p)
  said_try_at o p h = either (not (is_member o.node) && is_empty o.node.kept.ancestors) IsSaid (descend o p) (ask o p) (said_descend o p h) (said_ask o p h.0)

  said_try_first : (ps : List ℕ) (o : Plan) → IsSaid o → IsSaid (try_first ps o)
  said_try_first [] o h = either (is_member o.node && o.node.soft.silent) IsSaid (act o) (waits_awhile o) (said_act o h.0) h
  said_try_first (p ∷ ps) o h = said_try_at (with_soft o (record o.node.soft { tries = ps })) p h

  said_next_try : (o : Plan) → IsSaid o → IsSaid (next_try o)
  said_next_try o h = either (o.node.me == 1) IsSaid (act o) (try_first o.node.soft.tries o) (said_act o h.0) (said_try_first o.node.soft.tries o h)

  said_round : (o : Plan) (without : Option ℕ) → IsSaid o → IsSaid (round o without)
  said_round o without h = said_next_try (set_tries o without) h

  said_ask_before : (o : Plan) (p : ℕ) → o.node.me ≡ x → IsSaid (ask_before o p)
  said_ask_before o p me = said_ask (set_tries o (Some p)) p me

  -- a yes makes x a child, unless it has no ask number
  abbrev IsGiven : Plan → ℕ → Type 0
  IsGiven o p = ((o.node.kept.seq == 0) ≡ true → A p o.node.kept.seq o.node.kept.rank) × ((o.node.kept.seq == 0) ≡ false → J p o.node.kept.seq)

  said_joins : (o : Plan) (p : ℕ) (r : Rank) (xs : List ℕ) → o.node.me ≡ x → o.node.kept.mode ≡ modes.Asking p → IsGiven o p → IsSaid (joins o p r xs)
  said_joins o p r xs me asking given =
      let d : Durable = o.node.kept in
      let j : Durable = record o.node.kept { mode = modes.Joined p; rank = Some (beneath_of r); log = begun_with o.node.kept.table } in (
        me,
        cond_both (o.node.kept.seq == 0) d j (λ (k : Durable). Has k.mode k.seq k.rank o.sends)
            (λ e. subst (λ (m : Mode). Has m o.node.kept.seq o.node.kept.rank o.sends) (sym asking) (inl (given.0 e)))
            (λ e. inl (given.1 e)),
      )

  -- what x has before it takes this message from q: if it asks, A holds or this is the answer; if it is joined, J holds or it is told to
  -- ask anew
  abbrev pub Had : ℕ → Body → Mode → ℕ → Option Rank → Type 0
  Had q b (modes.Asking p) s r = A p s r ⊎ ((q ≡ p) × Answers b s r)
  Had q b (modes.Joined p) s r = J p s ⊎ ((q ≡ p) × IsRejoin b s)
  Had q b modes.Idle s r = Unit {0}
  Had q b modes.Acting s r = Unit {0}

  -- other messages
  had_other : (q : ℕ) (b : Body) (m : Mode) (s : ℕ) (r : Option Rank) (ms : List Message) → (Answers b s r → ⊥) → (IsRejoin b s → ⊥) → Had q b m s r → Has m s r ms
  had_other q b (modes.Asking p) s r ms other none had = ⊎_elim (λ a. inl a) (λ here. absurd (other here.1)) had
  had_other q b (modes.Joined p) s r ms other none had = ⊎_elim (λ a. inl a) (λ here. absurd (none here.1)) had
  had_other q b modes.Idle s r ms other none had = tt
  had_other q b modes.Acting s r ms other none had = tt

  -- a yes that is not taken
  no_yes : (m : Mode) (q seq s : ℕ) (given : Rank) (r : Option Rank) (xs : List ℕ) (ms : List Message) → is_asking m q && seq == s && nat_lt given.depth MAX_DEPTH && precedes_any given r ≡ false
      → Had q (bodies.Yes seq given xs) m s r → Has m s r ms
  no_yes (modes.Asking p) q seq s given r xs ms e had = ⊎_elim (λ a. inl a)
      (λ here.
      let clash : true ≡ false = sym (rw (eq-eqb p q (sym here.0), eq-eqb seq s here.1.0, here.1.1, here.1.2) refl) ∙ e in
      absurd cc)
      had
  no_yes (modes.Joined p) q seq s given r xs ms e had = ⊎_elim (λ a. inl a) (λ here. absurd here.1) had
  no_yes modes.Idle q seq s given r xs ms e had = tt
  no_yes modes.Acting q seq s given r xs ms e had = tt

  -- a no that is not taken
  no_no : (m : Mode) (q seq s : ℕ) (why : Refusal) (r : Option Rank) (ms : List Message) → is_asking m q && seq == s ≡ false → Had q (bodies.No seq why) m s r → Has m s r ms
  no_no (modes.Asking p) q seq s why r ms e had = ⊎_elim (λ a. inl a)
      (λ here.
      let clash : true ≡ false = sym (rw (eq-eqb p q (sym here.0), eq-eqb seq s here.1) refl) ∙ e in
      absurd cc)
      had
  no_no (modes.Joined p) q seq s why r ms e had = ⊎_elim (λ a. inl a) (λ here. absurd here.1) had
  no_no modes.Idle q seq s why r ms e had = tt
  no_no modes.Acting q seq s why r ms e had = tt

  -- a call to ask anew that is not taken
  no_rejoin : (m : Mode) (q seq s : ℕ) (r : Option Rank) (ms : List Message) → is_peer m q && seq == s ≡ false → Had q (bodies.Rejoin seq) m s r → Has m s r ms
  no_rejoin (modes.Asking p) q seq s r ms e had = ⊎_elim (λ a. inl a)
      (λ here.
      let clash : true ≡ false = sym (rw (eq-eqb p q (sym here.0), eq-eqb seq s here.1) refl) ∙ e in
      absurd cc)
      had
  no_rejoin (modes.Joined p) q seq s r ms e had = ⊎_elim (λ a. inl a)
      (λ here.
      let clash : true ≡ false = sym (rw (eq-eqb p q (sym here.0), eq-eqb seq s here.1) refl) ∙ e in
      absurd cc)
      had
  no_rejoin modes.Idle q seq s r ms e had = tt
  no_rejoin modes.Acting q seq s r ms e had = tt

  -- what makes x a child
  abbrev Gives : Plan → ℕ → ℕ → Type 0
  Gives o q seq = o.node.kept.mode ≡ modes.Asking q → seq ≡ o.node.kept.seq → IsGiven o q

  said_took_yes : (o : Plan) (p seq : ℕ) (r : Rank) (xs : List ℕ) → o.node.me ≡ x → Gives o p seq → Had p (bodies.Yes seq r xs) o.node.kept.mode o.node.kept.seq o.node.kept.rank → IsSaid (took_yes o p seq r xs)
  said_took_yes o p seq r xs me gives had =
      cond_both (is_asking o.node.kept.mode p && seq == o.node.kept.seq && nat_lt r.depth MAX_DEPTH && precedes_any r o.node.kept.rank) (joins o p r xs) (ignored o) IsSaid
      (λ e.
      let before = and_parts (is_asking o.node.kept.mode p && seq == o.node.kept.seq && nat_lt r.depth MAX_DEPTH) (precedes_any r o.node.kept.rank) e in
      let shallow = and_parts (is_asking o.node.kept.mode p && seq == o.node.kept.seq) (nat_lt r.depth MAX_DEPTH) before.0 in
      let asks = and_parts (is_asking o.node.kept.mode p) (seq == o.node.kept.seq) shallow.0 in
      let asking : o.node.kept.mode ≡ modes.Asking p = asking_mode o.node.kept.mode p asks.0 in
      said_joins o p r xs me asking (gives asking (eqb-true seq o.node.kept.seq asks.1)))
      (λ e. (me, no_yes o.node.kept.mode p seq o.node.kept.seq r o.node.kept.rank xs o.sends e had))

  said_refused : (o : Plan) (why : Refusal) → IsSaid o → IsSaid (refused o why)
  said_refused o (refusals.Chain q) h = either (is_member o.node || q == o.node.me) IsSaid (next_try o) (descend o q) (said_next_try o h) (said_descend o q h)
  said_refused o refusals.Own h = said_next_try o h
  said_refused o refusals.NotJoined h = said_next_try o h
  said_refused o refusals.Ancestor h = said_next_try o h
  said_refused o refusals.Depth h = said_next_try o h
  said_refused o refusals.Rank h = said_next_try o h

  said_took_no : (o : Plan) (p seq : ℕ) (why : Refusal) → o.node.me ≡ x → Had p (bodies.No seq why) o.node.kept.mode o.node.kept.seq o.node.kept.rank → IsSaid (took_no o p seq why)
  said_took_no o p seq why me had =
      let heard : Plan = with_soft (lost o) (record o.node.soft { silent = false; refused = true }) in
      cond_both (is_asking o.node.kept.mode p && seq == o.node.kept.seq) (refused heard why) (ignored o) IsSaid (λ _. said_refused heard why (said_lost o me))
      (λ e. (me, no_no o.node.kept.mode p seq o.node.kept.seq why o.node.kept.rank o.sends e had))

  said_not_seen : (s : Option Search) (o : Plan) (p : ℕ) → IsSaid o → IsSaid (not_seen s o p)
  said_not_seen None o p h = h
  said_not_seen (Some searches.Review) o p h = h
  said_not_seen (Some (searches.Descend q)) o p h = either (q == p) IsSaid (next_try (searching o None)) (ignored o) (said_next_try (searching o None) h) h

  -- what x has before it is told that it did not reach q
  abbrev pub HadNone : ℕ → Mode → ℕ → Option Rank → Type 0
  HadNone q (modes.Asking p) s r = A p s r ⊎ (p ≡ q)
  HadNone q (modes.Joined p) s r = J p s ⊎ (p ≡ q)
  HadNone q modes.Idle s r = Unit {0}
  HadNone q modes.Acting s r = Unit {0}

  said_not_reached : (m : Mode) (o : Plan) (p : ℕ) → o.node.kept.mode ≡ m → o.node.me ≡ x → HadNone p m o.node.kept.seq o.node.kept.rank → IsSaid (not_reached m o p)
  said_not_reached modes.Idle o p e me had = said_not_seen o.node.soft.search o p (said_idle o me e)
  said_not_reached modes.Acting o p e me had = said_not_seen o.node.soft.search o p (said_acting o me e)
  said_not_reached (modes.Joined q) o p e me had =
      cond_both (q == p) (round (lost o) (Some p)) (not_seen o.node.soft.search o p) IsSaid (λ _. said_round (lost o) (Some p) (said_lost o me))
      (λ apart. said_not_seen o.node.soft.search o p (
        me,
        subst (λ (n : Mode). Has n o.node.kept.seq o.node.kept.rank o.sends) (sym e)
            (⊎_elim (λ j. inl j) (λ same. let clash : true ≡ false = sym (eq-eqb q p same) ∙ apart in absurd cc) had),
      ))
  said_not_reached (modes.Asking q) o p e me had =
      cond_both (q == p) (next_try (lost o)) (not_seen o.node.soft.search o p) IsSaid (λ _. said_next_try (lost o) (said_lost o me))
      (λ apart. said_not_seen o.node.soft.search o p (
        me,
        subst (λ (n : Mode). Has n o.node.kept.seq o.node.kept.rank o.sends) (sym e)
            (⊎_elim (λ a. inl a) (λ same. let clash : true ≡ false = sym (eq-eqb q p same) ∙ apart in absurd cc) had),
      ))

  -- Adoption

  said_raises : (o : Plan) (e : Option ℕ) → o.node.me ≡ x → o.node.kept.mode ≡ modes.Acting → IsSaid (raises o e)
  said_raises o None me acting = said_acting o me acting
  said_raises o (Some e) me acting = said_acting (raises o (Some e)) me acting

  said_raises_over : (o : Plan) (y : ℕ) (r : Rank) → IsSaid o → IsSaid (raises_over o y r)
  said_raises_over o y r h =
      cond_both (is_acting o.node.kept.mode && not (precedes (rank_or_last o.node.kept.rank) r) && not (y == o.node.me)) (raises o (raise r.epoch)) o IsSaid
      (λ e.
      let over = and_parts (is_acting o.node.kept.mode && not (precedes (rank_or_last o.node.kept.rank) r)) (not (y == o.node.me)) e in
      let acts = and_parts (is_acting o.node.kept.mode) (not (precedes (rank_or_last o.node.kept.rank) r)) over.0 in
      said_raises o (raise r.epoch) h.0 (any_acting o.node.kept.mode acts.0))
      (λ _. h)

  said_grants : (o : Plan) (y seq : ℕ) → IsSaid o → IsSaid (grants o y seq)
  said_grants o y seq h = said_send (with_leases o (renew o.node.leases y o.node.soft.clock)) y (bodies.Yes seq (rank_or_last o.node.kept.rank) o.node.kept.ancestors) h

  said_adopts : (o : Plan) (y seq : ℕ) → IsSaid o → IsSaid (adopts o y seq)
  said_adopts o y seq h =
      let born : Cert = birth y seq o.node.me in
      either (has_lease o.node y seq) IsSaid (grants o y seq) (if is_news o.node.kept.table born then grants (write o (records.Entry born)) y seq else sends_rejoin o y seq) (said_grants o y seq h)
      (either (is_news o.node.kept.table born) IsSaid (grants (write o (records.Entry born)) y seq) (sends_rejoin o y seq) (said_grants (write o (records.Entry born)) y seq h) (said_send o y (bodies.Rejoin seq) h))

  said_answers_ask : (why : Option Refusal) (o : Plan) (y seq : ℕ) → IsSaid o → IsSaid (answers_ask why o y seq)
  said_answers_ask None o y seq h = said_adopts o y seq h
  said_answers_ask (Some why) o y seq h = said_send o y (bodies.No seq why) h

  said_asked : (o : Plan) (y seq : ℕ) (r : Option Rank) → IsSaid o → IsSaid (asked o y seq r)
  said_asked o y seq r h =
      let raised : Plan = raises_over o y (rank_or_last r) in
      said_answers_ask (adoption_refusal (host raised.node y) y r) raised y seq (said_raises_over o y (rank_or_last r) h)

  -- Check-ins

  said_merges : (o : Plan) (c : Cert) → IsSaid o → IsSaid (merges o c)
  said_merges o c h = either (is_news o.node.kept.table c) IsSaid (write o (records.Entry c)) o h h

  said_merges_all : (cs : List Cert) (o : Plan) → IsSaid o → IsSaid (merges_all cs o)
  said_merges_all [] o h = h
  said_merges_all (c ∷ cs) o h = said_merges_all cs (merges o c) (said_merges o c h)

  said_checked_in : (o : Plan) (y seq upto rate number clients : ℕ) (certs : List Cert) → IsSaid o → IsSaid (checked_in o y seq upto rate number clients certs)
  said_checked_in o y seq upto rate number clients certs h =
      let merged : Plan = merges_all (life y seq o.node.me number clients ∷ certs) o in
      let renewed : Plan = record merged { node = record merged.node { leases = renew merged.node.leases y merged.node.soft.clock; rates = put_at merged.node.rates y rate } } in
      either (has_lease o.node y seq) IsSaid (acknowledges merged y seq upto rate) (sends_rejoin o y seq)
      (said_send renewed y (bodies.CheckAck seq upto (rank_or_last merged.node.kept.rank) merged.node.kept.ancestors) (said_merges_all (life y seq o.node.me number clients ∷ certs) o h))
      (said_send o y (bodies.Rejoin seq) h)

  said_took_ack : (o : Plan) (p seq upto : ℕ) (told : Rank) (xs : List ℕ) → IsSaid o → IsSaid (took_ack o p seq upto told xs)
  said_took_ack o p seq upto told xs h =
      let placed : Plan = takes_place o upto in
      let ranked : Plan = takes_rank_unless o.node.soft.wish placed told in
      let above : List ℕ = ancestors_by p xs in
      cond_both (is_joined_to o.node.kept.mode p && seq == o.node.kept.seq) (takes_ancestors ranked above) (ignored o) IsSaid
      (λ e.
      let joined : o.node.kept.mode ≡ modes.Joined p = any_joined o.node.kept.mode p (and_parts (is_joined_to o.node.kept.mode p) (seq == o.node.kept.seq) e).0 in
      either (same_ids above ranked.node.kept.ancestors) IsSaid ranked (write ranked (records.Ancestors above)) (ranked_said joined o.node.soft.wish) (ranked_said joined o.node.soft.wish))
      (λ _. h) where
        placed_said : o.node.kept.mode ≡ modes.Joined p → IsSaid (takes_place o upto) × ((takes_place o upto).node.kept.mode ≡ modes.Joined p)
        placed_said joined = either (is_ahead o.node.kept.log upto) (λ (q : Plan). IsSaid q × (q.node.kept.mode ≡ modes.Joined p)) (write o (records.Acked upto)) o (h, joined) (h, joined)

        ranked_said : o.node.kept.mode ≡ modes.Joined p → (wish : Option ℕ) → IsSaid (takes_rank_unless wish (takes_place o upto) told)
        ranked_said joined (Some g) = (placed_said joined).0
        ranked_said joined None =
            let before : Plan = takes_place o upto in
            let said = placed_said joined in
            either (is_better before.node.kept.rank told) IsSaid (write before (records.Ranked (beneath_of told))) before
            (said.0.0, has_ranked before.node.kept.mode p before.node.kept.seq before.node.kept.rank (Some (beneath_of told)) before.sends said.1 said.0.1) said.0

  said_took_rejoin : (o : Plan) (p seq : ℕ) → o.node.me ≡ x → Had p (bodies.Rejoin seq) o.node.kept.mode o.node.kept.seq o.node.kept.rank → IsSaid (took_rejoin o p seq)
  said_took_rejoin o p seq me had =
      cond_both (is_peer o.node.kept.mode p && seq == o.node.kept.seq) (ask_before o p) (ignored o) IsSaid (λ _. said_ask_before o p me)
      (λ e. (me, no_rejoin o.node.kept.mode p seq o.node.kept.seq o.node.kept.rank o.sends e had))

  -- Looks

  said_goes_down : (c : Option ℕ) (o : Plan) (p : ℕ) → IsSaid o → IsSaid (goes_down c o p)
  said_goes_down None o p h = said_ask o p h.0
  said_goes_down (Some q) o p h = said_descend o q h

  said_descends : (o : Plan) (p : ℕ) (s : Stand) → IsSaid o → IsSaid (descends o p s)
  said_descends o p s h =
      let way : Option ℕ = chosen (rate_to o.node p) (candidates o.node s.children) in
      either s.in_tree IsSaid (goes_down way o p) (next_try (searching o None)) (said_goes_down way o p h) (said_next_try (searching o None) h)

  said_goes_where : (place : Option ℕ) (o : Plan) (p : ℕ) → IsSaid o → IsSaid (goes_where place o p)
  said_goes_where None o p h = h
  said_goes_where (Some g) o p h =
      either (nat_lt o.node.soft.waits (o.node.soft.patience + 2)) IsSaid (wishes o (Some g) (o.node.soft.waits + 1)) (leaves_for o p g) h
      (said_ask_before (with_soft o (record o.node.soft { left = Some p; moves = o.node.soft.moves + 1 })) g h.0)

  said_weighs : (o : Plan) (p : ℕ) (place : Option ℕ) → IsSaid o → IsSaid (weighs o p place)
  said_weighs o p place h =
      let soft : Soft = o.node.soft in
      let doubts : Bool = not (is_place place soft.wish) && nat_lt 0 soft.waits in
      let doubted : Plan = wishes o soft.wish (soft.waits - 1) in
      let wished : Plan = wishes o place soft.waits in
      either (nat_le MAX_MOVES soft.moves) IsSaid (wishes o None 0) (if doubts then doubted else goes_where place wished p) h
      (either doubts IsSaid doubted (goes_where place wished p) h (said_goes_where place wished p h))

  said_keeps_line : (o : Plan) (p : ℕ) (s : Stand) → IsSaid o → IsSaid (keeps_line o p s)
  said_keeps_line o p s h = either (is_member o.node && prefers o.node.kept.mode p && nat_lt p o.node.me && s.in_tree) IsSaid (ask_before o p) (ignored o) (said_ask_before o p h.0) h

  said_sees_as : (m : Mode) (search : Option Search) (o : Plan) (p : ℕ) (s : Stand) → IsSaid o → IsSaid (sees_as m search o p s)
  said_sees_as modes.Idle (Some (searches.Descend q)) o p s h = either (q == p) IsSaid (descends o p s) (keeps_line o p s) (said_descends o p s h) (said_keeps_line o p s h)
  said_sees_as modes.Idle (Some searches.Review) o p s h = said_keeps_line o p s h
  said_sees_as modes.Idle None o p s h = said_keeps_line o p s h
  said_sees_as (modes.Joined q) (Some searches.Review) o p s h =
      either (q == p) IsSaid (reviews_place o p s) (keeps_line o p s) (said_weighs (searching o None) p (place_in (reviewed (view o.node p s))) h) (said_keeps_line o p s h)
  said_sees_as (modes.Joined q) (Some (searches.Descend y)) o p s h = said_keeps_line o p s h
  said_sees_as (modes.Joined q) None o p s h = said_keeps_line o p s h
  said_sees_as (modes.Asking q) search o p s h = said_keeps_line o p s h
  said_sees_as modes.Acting search o p s h = said_keeps_line o p s h

  -- Content

  said_answers_fetch : (l : Option Shelf) (o : Plan) (p : ℕ) (have : List Shelf) → IsSaid o → IsSaid (answers_fetch o p have l)
  said_answers_fetch None o p have h = h
  said_answers_fetch (Some l) o p have h = (h.0, has_more o.node.kept.mode o.node.kept.seq o.node.kept.rank o.sends _ h.1)

  said_asks_on : (m : Mode) (p : ℕ) (ls : List Shelf) (o : Plan) → IsSaid o → IsSaid (asks_on m p ls o)
  said_asks_on (modes.Joined q) p ls o h = either (q == p) IsSaid (send o p (bodies.Fetch ls)) o (said_send o p (bodies.Fetch ls) h) h
  said_asks_on modes.Idle p ls o h = h
  said_asks_on (modes.Asking q) p ls o h = h
  said_asks_on modes.Acting p ls o h = h

  said_limited : (ls : List Shelf) (g : List ℕ) (end : ℕ) (o q : Plan) → IsSaid o → IsSaid q → IsSaid (unless (limit ls g end) o q)
  said_limited ls g end o q h i = by_tests (not (is_some (line_of g ls)) && nat_le MAX_GROUPS (length ls)) (nat_lt MAX_GROUP_BYTES end) where
    by_tests : (a b : Bool) → IsSaid (unless (if a then Some words.Groups else if b then Some words.TooLong else None) o q)
    by_tests true b = h
    by_tests false true = h
    by_tests false false = i

  said_chunk_to : (o : Plan) (ls : List Shelf) (p : ℕ) (l : Shelf) (start end : ℕ) (last : Bool) → IsSaid o → IsSaid (chunk_to o ls p l start end last)
  said_chunk_to o ls p l start end last h =
      let room : Plan = unless (limit ls l.group end) o (keeps_chunk o ls p l start end last) in
      let more : List Shelf = with_line (grown_line l end last) ls in
      let kept : Plan = keeps o start (adds_seal l end last) in
      either (nat_lt l.held start) IsSaid (answers o words.Gap) (if l.sealed && nat_lt l.held end then answers o words.Sealed else room) h
      (either (l.sealed && nat_lt l.held end) IsSaid (answers o words.Sealed) room h
      (said_limited ls l.group end o (keeps_chunk o ls p l start end last) h
      (either (adds ls l end last) IsSaid (asks_on o.node.kept.mode p more kept) (ignored o) (said_asks_on o.node.kept.mode p more kept h) h)))

  said_took_chunk : (o : Plan) (ls : List Shelf) (p : ℕ) (g : List ℕ) (start : ℕ) (bytes : List ℕ) (last : Bool) → IsSaid o → IsSaid (took_chunk o ls p g start bytes last)
  said_took_chunk o ls p g start bytes last h =
      either (o.node.me == 1) IsSaid (ignored o) (chunk_to o ls p (line_at g ls) start (start + length bytes) last) h (said_chunk_to o ls p (line_at g ls) start (start + length bytes) last h)

  -- A message

  said_received : (o : Plan) (ls : List Shelf) (p : ℕ) (b : Body) → o.node.me ≡ x → ((seq : ℕ) (r : Rank) (xs : List ℕ) → b ≡ bodies.Yes seq r xs → Gives o p seq)
      → Had p b o.node.kept.mode o.node.kept.seq o.node.kept.rank → IsSaid (received o ls p b)
  said_received o ls p bodies.Look me gives had = (me, has_more o.node.kept.mode o.node.kept.seq o.node.kept.rank o.sends _ (had_other p bodies.Look o.node.kept.mode o.node.kept.seq o.node.kept.rank o.sends (λ a. a) (λ a. a) had))
  said_received o ls p (bodies.LookIs is_in parent rate children) me gives had =
      said_sees_as o.node.kept.mode o.node.soft.search o p (record { in_tree = is_in; parent = parent; rate = rate; children = children })
      (me, had_other p (bodies.LookIs is_in parent rate children) o.node.kept.mode o.node.kept.seq o.node.kept.rank o.sends (λ a. a) (λ a. a) had)
  said_received o ls p (bodies.Ask seq rank) me gives had =
      said_asked o p seq rank (me, had_other p (bodies.Ask seq rank) o.node.kept.mode o.node.kept.seq o.node.kept.rank o.sends (λ a. a) (λ a. a) had)
  said_received o ls p (bodies.Yes seq rank ancestors) me gives had = said_took_yes o p seq rank ancestors me (gives seq rank ancestors refl) had
  said_received o ls p (bodies.No seq why) me gives had = said_took_no o p seq why me had
  said_received o ls p (bodies.CheckIn seq upto rate number clients certs) me gives had =
      said_checked_in o p seq upto rate number clients certs
      (me, had_other p (bodies.CheckIn seq upto rate number clients certs) o.node.kept.mode o.node.kept.seq o.node.kept.rank o.sends (λ a. a) (λ a. a) had)
  said_received o ls p (bodies.CheckAck seq upto rank ancestors) me gives had =
      said_took_ack o p seq upto rank ancestors (me, had_other p (bodies.CheckAck seq upto rank ancestors) o.node.kept.mode o.node.kept.seq o.node.kept.rank o.sends (λ a. a) (λ a. a) had)
  said_received o ls p (bodies.Rejoin seq) me gives had = said_took_rejoin o p seq me had
  said_received o ls p (bodies.Fetch have) me gives had =
      said_answers_fetch (next_behind o.node.chunk have ls) o p have (me, had_other p (bodies.Fetch have) o.node.kept.mode o.node.kept.seq o.node.kept.rank o.sends (λ a. a) (λ a. a) had)
  said_received o ls p (bodies.Chunk g start bytes last) me gives had =
      said_took_chunk o ls p g start bytes last (me, had_other p (bodies.Chunk g start bytes last) o.node.kept.mode o.node.kept.seq o.node.kept.rank o.sends (λ a. a) (λ a. a) had)

  -- A tick at which the check is due

  said_looks_at_each : (ys : List ℕ) (o : Plan) → IsSaid o → IsSaid (looks_at_each ys o)
  said_looks_at_each [] o h = h
  said_looks_at_each (y ∷ ys) o h = said_looks_at_each ys (send o y bodies.Look) (said_send o y bodies.Look h)

  said_looks_round : (m : Mode) (o : Plan) → IsSaid o → IsSaid (looks_round m o)
  said_looks_round (modes.Joined p) o h =
      let nearer : List ℕ = filter (λ z. nat_lt p z) (below o.node.me) in
      let reviewing : Plan = send (searching o (Some searches.Review)) p bodies.Look in
      either (is_member o.node) IsSaid (looks_at_each nearer o) (if o.node.soft.refused then o else reviewing) (said_looks_at_each nearer o h)
      (either o.node.soft.refused IsSaid o reviewing h (said_send (searching o (Some searches.Review)) p bodies.Look h))
  said_looks_round modes.Acting o h = either (is_member o.node) IsSaid (looks_at_each (below o.node.me) o) o (said_looks_at_each (below o.node.me) o h) h
  said_looks_round modes.Idle o h = h
  said_looks_round (modes.Asking p) o h = h

  said_goes_on : (s : Option Search) (o : Plan) → IsSaid o → IsSaid (goes_on s o)
  said_goes_on (Some (searches.Descend p)) o h = said_send o p bodies.Look h
  said_goes_on (Some searches.Review) o h = said_round o None h
  said_goes_on None o h = said_round o None h

  said_checks_in : (o : Plan) (p : ℕ) → o.node.kept.mode ≡ modes.Joined p → o.node.me ≡ x → IsSaid (checks_in o p)
  said_checks_in o p joined me =
      let b : Body = bodies.CheckIn o.node.kept.seq (place_after o.node.kept.log) (rate_to o.node p) o.node.kept.number o.node.kept.clients (next_certs o.node.kept.log) in
      let m : Message = record { from = o.node.me; to = p; body = b } in (
        me,
        subst (λ (n : Mode). Has n o.node.kept.seq o.node.kept.rank (o.sends ++ m ∷ [])) (sym joined)
            (inr (
              place_after o.node.kept.log,
              rate_to o.node p,
              o.node.kept.number,
              o.node.kept.clients,
              next_certs o.node.kept.log,
              subst (λ (y : ℕ). IsAmong (record { from = y; to = p; body = b }) (o.sends ++ m ∷ [])) me (among_last o.sends m),
            )),
      )

  said_reports : (o : Plan) (p : ℕ) → o.node.kept.mode ≡ modes.Joined p → o.node.me ≡ x → IsSaid (reports o p)
  said_reports o p joined me =
      let noted : Plan = notes_time o in
      let counted : Plan = with_soft (write noted (records.Info (noted.node.kept.number + 1) (capped (noted.node.kept.clients + noted.node.soft.served)))) (record noted.node.soft { served = 0 }) in
      either (not (noted.node.soft.served == 0) && nat_lt noted.node.kept.number number_end) (λ (q : Plan). IsSaid (checks_in q p)) counted noted (said_checks_in counted p joined me) (said_checks_in noted p joined me)

  said_tick_checks_as : (m : Mode) (o : Plan) → o.node.kept.mode ≡ m → o.node.me ≡ x → IsSaid (tick_checks_as m o)
  said_tick_checks_as modes.Idle o e me = said_goes_on o.node.soft.search o (said_idle o me e)
  said_tick_checks_as (modes.Joined p) o e me = said_reports o p e me
  said_tick_checks_as (modes.Asking p) o e me = said_asks o p me e
  said_tick_checks_as modes.Acting o e me = said_raises o (raise (rank_or_last o.node.kept.rank).epoch) me e

  said_forgets : (due : Option ℕ) (o : Plan) → o.node.me ≡ x → (forgets_refusal due o).node.me ≡ x
  said_forgets None o me = me
  said_forgets (Some t) o me = me

  said_checks_in_time : (o : Plan) → o.node.me ≡ x → IsSaid (checks_in_time o)
  said_checks_in_time o me =
      let begins : Plan = forgets_refusal o.node.soft.due o in
      said_looks_round o.node.kept.mode (tick_checks begins) (said_tick_checks_as begins.node.kept.mode (sets_due begins) refl (said_forgets o.node.soft.due o me))

  said_fetches : (m : Mode) (o : Plan) (ls : List Shelf) → IsSaid o → IsSaid (fetches_as m o ls)
  said_fetches (modes.Joined p) o ls h = said_send o p (bodies.Fetch ls) h
  said_fetches modes.Idle o ls h = h
  said_fetches (modes.Asking p) o ls h = h
  said_fetches modes.Acting o ls h = h

  -- before its check a tick leaves these as they are
  before_dies : (s : Soft) (e : Option Cert) (o : Plan) → (o.node.me ≡ x) × (o.node.soft ≡ s) → ((dies e o).node.me ≡ x) × ((dies e o).node.soft ≡ s)
  before_dies s None o h = h
  before_dies s (Some c) o h =
      either (is_news o.node.kept.table (record c { dead = true })) (λ (q : Plan). (q.node.me ≡ x) × (q.node.soft ≡ s)) (write o (records.Entry (record c { dead = true }))) o h h

  before_ends : (s : Soft) (ys : List ℕ) (o : Plan) → (o.node.me ≡ x) × (o.node.soft ≡ s) → ((ends_each ys o).node.me ≡ x) × ((ends_each ys o).node.soft ≡ s)
  before_ends s [] o h = h
  before_ends s (y ∷ ys) o h = before_ends s ys (dies (newest o.node.kept.table y) o) (before_dies s (newest o.node.kept.table y) o h)

  said_tick : (o : Plan) (ls : List Shelf) (t : ℕ) → o.node.me ≡ x → is_due o.node.soft.due (max o.node.soft.clock t) ≡ true → IsSaid (tick o ls t)
  said_tick o ls t me due =
      let started : Plan = starts_leases (at_time o t) in
      let over : Plan = ends_leases started in
      let before = before_ends started.node.soft (ended started.node.kept.table started.node.me started.node.leases started.node.soft.clock) started (me, refl) in
      let due_then : is_due over.node.soft.due over.node.soft.clock ≡ true = ap (λ (s : Soft). is_due s.due s.clock) before.1 ∙ due in
      let checked : Plan = checks_if_due over in
      said_fetches checked.node.kept.mode checked ls
      (subst (λ (b : Bool). IsSaid (if b then checks_in_time over else reports_news over)) (sym due_then) (said_checks_in_time over before.0))

  -- The step

  -- The step

  -- what a step leaves
  abbrev pub HasSaid : Node → Input → Type 0
  HasSaid n i = Has (step n i).node.control.kept.mode (step n i).node.control.kept.seq (step n i).node.control.kept.rank (step n i).sends

  pub step_ticks : (n : Node) (t : ℕ) → n.control.me ≡ x → is_due n.control.soft.due (max n.control.soft.clock t) ≡ true → HasSaid n (Tick t)
  step_ticks n t me due =
      let o : Plan = tick (begun n.control) (shelf n.groups) t in
      has_filled o.node.kept.mode o.node.kept.seq o.node.kept.rank o.wants n.groups o.sends (said_tick (begun n.control) (shelf n.groups) t me due).1

  pub step_fails : (n : Node) (q : ℕ) → n.control.me ≡ x → HadNone q n.control.kept.mode n.control.kept.seq n.control.kept.rank → HasSaid n (Unreachable q)
  step_fails n q me had =
      let o : Plan = unreachable (begun n.control) q in
      has_filled o.node.kept.mode o.node.kept.seq o.node.kept.rank o.wants n.groups o.sends (said_not_reached n.control.kept.mode (begun n.control) q refl me had).1

  pub step_receives : (n : Node) (m : Message) → n.control.me ≡ x → ((seq : ℕ) (r : Rank) (xs : List ℕ) → m.body ≡ bodies.Yes seq r xs → Gives (begun n.control) m.from seq)
      → Had m.from m.body n.control.kept.mode n.control.kept.seq n.control.kept.rank → HasSaid n (Delivered m)
  step_receives n m me gives had =
      let o : Plan = received (begun n.control) (shelf n.groups) m.from m.body in
      has_filled o.node.kept.mode o.node.kept.seq o.node.kept.rank o.wants n.groups o.sends (said_received (begun n.control) (shelf n.groups) m.from m.body me gives had).1
