-- A node past the chain that looks for a place goes on until it has asked the root: the effect of each input on that.
use Rattle.std.proofs.Common.{◌≡◌, ℕ, ◌+◌, ◌-◌, ◌≤◌, ◌<◌, max, Bool, true, false, not, ◌&&◌, ◌||◌, ◌==◌, nat_lt, nat_le, if◌then◌else◌, Option, Some, None, is_some, option_to_list, List, [], ◌∷◌, ◌++◌, ◌⊎◌, inl, inr, length, map, refl, ap, ap₂, sym, subst, ◌∙◌, ⊎_elim, arith, eqb-true, eq-eqb, ne_eqb}
use Rattle.std.specs.List.{range_with_len}
use Rattle.std.proofs.lemmas.Bool.{cases_eq, cond_both, and_parts, true≢false, leb-true, false_from_ne_true}
use Rattle.oc_base.specs.declared.cert.Cert.{Cert}
use Rattle.oc_base.specs.declared.group.Group.{Group}
use Rattle.oc_base.specs.declared.rank.Rank.{Rank}
use Rattle.oc_base.specs.declared.refusal.Refusal.{Refusal}
use Rattle.oc_base.specs.declared.refusal.Refusal.TheVariants as refusals
use Rattle.oc_base.specs.declared.shelf.Shelf.{Shelf}
use Rattle.oc_base.specs.declared.limits.TheConstants.{MAX_DEPTH, MAX_GROUPS, MAX_GROUP_BYTES}
use Rattle.oc_base.specs.Groups.{shelf}
use Rattle.oc_base.specs.Rank.{beneath_of}
use Rattle.oc_base.specs.Shelves.{line_of}
use Rattle.oc_model.specs.declared.answer.Answer.TheVariants as words
use Rattle.oc_model.specs.declared.input.Input.TheVariants.{Tick, Unreachable, Delivered}
use Rattle.oc_model.specs.declared.message.Body.{Body}
use Rattle.oc_model.specs.declared.message.Body.TheVariants as bodies
use Rattle.oc_model.specs.declared.message.Message.{Message}
use Rattle.oc_model.specs.declared.mode.Mode.{Mode}
use Rattle.oc_model.specs.declared.mode.Mode.TheVariants as modes
use Rattle.oc_model.specs.declared.reading.Reading.{Reading}
use Rattle.oc_model.specs.declared.record.Record.TheVariants as records
use Rattle.oc_model.specs.declared.soft.Search.{Search}
use Rattle.oc_model.specs.declared.soft.Search.TheVariants as searches
use Rattle.oc_model.specs.declared.soft.Soft.{Soft}
use Rattle.oc_model.specs.declared.soft.TheConstants.{MAX_MOVES}
use Rattle.oc_model.specs.declared.want.Want.{Want}
use Rattle.oc_model.specs.Adopting.{is_acting, raises, raises_over, host, birth, has_lease, grants, sends_rejoin, adopts, answers_ask, asked}
use Rattle.oc_model.specs.Adoption.{precedes, precedes_any, rank_or_last, is_better, adoption_refusal}
use Rattle.oc_model.specs.Asking.{lost_from, lost, send_ask, ask, act, descend, try_at, waits_awhile, try_first, next_try, set_tries, round, ask_before, is_asking, ancestors_by, joins, took_yes, refused, took_no, not_seen, not_reached, unreachable}
use Rattle.oc_model.specs.ChangeLog.{begun_with, is_ahead}
use Rattle.oc_model.specs.Checking.{sets_due, merges, merges_all, at_time, starts_leases, dies, ends_each, ends_leases, looks_round, is_due, forgets_refusal, goes_on, tick_checks_as, tick_checks, checks_in_time, reports_news, checks_if_due, fetches_as, tick, acknowledges, life, checked_in, is_joined_to, takes_place, takes_rank_unless, same_ids, takes_ancestors, took_ack, is_peer, took_rejoin}
use Rattle.oc_model.specs.Choice.{below, chosen, each_once, ask_order, reviewed}
use Rattle.oc_model.specs.Content.{unless, keeps, answers_fetch, adds_seal, adds, grown_line, asks_on, keeps_chunk, chunk_to}
use Rattle.oc_model.specs.Leases.{renew, ended}
use Rattle.oc_model.specs.Looking.{Stand, goes_down, candidates, descends, place_in, is_place, wishes, leaves_for, goes_where, weighs, view, reviews_place, prefers, keeps_line, sees_as}
use Rattle.oc_model.specs.Node.{Control, Durable, Node}
use Rattle.oc_model.specs.Numbers.{IsAmong, number_end, raise, put_at, has, is_empty}
use Rattle.oc_model.specs.Plan.{Plan, begun, write, send, answers, with_soft, with_leases, searching, ignored, is_member, rate_to}
use Rattle.oc_model.specs.Shelves.{line_at, with_line, limit, next_behind}
use Rattle.oc_model.specs.Step.{received, fill, filled, bytes_wanted, step}
use Rattle.oc_model.specs.Table.{newest, is_news}
use Rattle.oc_model.specs.WorldBounds.{IsOneOf}
use Rattle.oc_model.proofs.Rules.{either}
use Rattle.oc_laws_rest.proofs.Forms.{in_each_once, in_numbers}
use Rattle.oc_laws_rest.proofs.Keeping.{AreNone, nobody_chosen}
use Rattle.oc_laws_rest.proofs.Said.{among_more, among_last, among_filled}

-- it does not descend
abbrev pub IsCalm : Option Search → Type 0
IsCalm (Some (searches.Descend p)) = ⊥
IsCalm search = Unit {0}

-- the position of a node is told
abbrev pub TellsPosition : Body → Type 0
TellsPosition (bodies.LookIs is_in parent rate children) = Unit {0}
TellsPosition b = ⊥

-- p does not refuse if it is the root m, and is then in the tree
abbrev pub IsFair : ℕ → Type 0 → ℕ → Body → Type 0
IsFair m Free p (bodies.No seq why) = p ≡ m → Free
IsFair m Free p (bodies.LookIs is_in parent rate children) = p ≡ m → is_in ≡ false → Free
IsFair m Free p b = Unit {0}

in_more : (m : ℕ) (xs ys : List ℕ) → IsOneOf m ys → IsOneOf m (xs ++ ys)
in_more m [] ys one = one
in_more m (x ∷ xs) ys one = inr (in_more m xs ys one)

asking_as : (k : Mode) (p q : ℕ) → k ≡ modes.Asking q → is_asking k p ≡ true → q ≡ p
asking_as k p q e is = eqb-true q p (sym (ap (λ (n : Mode). is_asking n p) e) ∙ is)

-- m is a chain member and x, which has measured no way, is not; Free is what is known where nothing is asked of the search; A p says that the answer of p is awaited
module _ (x m c : ℕ) (ms : List Reading) (none : AreNone ms) (some : 1 ≤ m) (most : m ≤ c) (past : c < x) (Free : Type 0) where
  -- p is the root, or the root is still among the tries
  abbrev pub Leads : ℕ → List ℕ → Type 0
  Leads p ts = Free ⊎ ((p ≡ m) ⊎ IsOneOf m ts)

  -- the search of x on its way
  abbrev pub Way : (ℕ → Type 0) → Mode → Option Search → List ℕ → Type 0
  Way L modes.Idle (Some (searches.Descend p)) ts = Leads p ts × L p
  Way L modes.Idle search ts = Free
  Way L (modes.Asking p) search ts = (search ≡ None) × Leads p ts
  Way L (modes.Joined p) search ts = Free ⊎ (search ≡ None)
  Way L modes.Acting search ts = ⊥

  pub way_by : (L N : ℕ → Type 0) → ((p : ℕ) → L p → N p) → (k : Mode) (search : Option Search) (ts : List ℕ) → Way L k search ts → Way N k search ts
  way_by L N f modes.Idle (Some (searches.Descend p)) ts w = (w.0, f p w.1)
  way_by L N f modes.Idle (Some searches.Review) ts w = w
  way_by L N f modes.Idle None ts w = w
  way_by L N f (modes.Asking p) search ts w = w
  way_by L N f (modes.Joined p) search ts w = w
  way_by L N f modes.Acting search ts w = w

  module _ (A : ℕ → Type 0) where
    -- x has looked at p
    abbrev pub HasLooked : List Message → ℕ → Type 0
    HasLooked sent p = A p ⊎ IsAmong (record { from = x; to = p; body = bodies.Look }) sent

    abbrev IsMine : Control → Type 0
    IsMine n = (n.me ≡ x) × (n.chain ≡ c) × (n.kept.measures ≡ ms)

    abbrev OnWay : Plan → Type 0
    OnWay o = IsMine o.node × Way (HasLooked o.sends) o.node.kept.mode o.node.soft.search o.node.soft.tries

    -- it is on its way, or no ask number is left
    abbrev Seeks : Plan → Type 0
    Seeks o = (o.node.kept.seq ≡ number_end) ⊎ OnWay o

    way_send : (o : Plan) (p : ℕ) (b : Body) → OnWay o → OnWay (send o p b)
    way_send o p b h = (
      h.0,
      way_by (HasLooked o.sends) (HasLooked (o.sends ++ record { from = o.node.me; to = p; body = b } ∷ [])) (λ q looked. ⊎_elim (λ a. inl a)
          (λ one. inr (among_more o.sends (record { from = o.node.me; to = p; body = b } ∷ []) (record { from = x; to = q; body = bodies.Look }) one)) looked)
          o.node.kept.mode o.node.soft.search o.node.soft.tries h.1,
    )

    outside : (n : Control) → IsMine n → is_member n ≡ false
    outside n mine = ap₂ nat_le mine.0 mine.1 ∙ false_from_ne_true (nat_le x c) (λ e. let low : x ≤ c = leb-true x c e in omega (arith, low, past))

    not_first : (n : Control) → IsMine n → (n.me == 1) ≡ false
    not_first n mine = ne_eqb n.me 1 (λ e. omega (arith, e, mine.0, some, most, past))

    -- Tries

    -- m is among all tries but those without it
    all_tried : (n : Control) (without : Option ℕ) → IsMine n → (without ≡ Some m → ⊥) → IsOneOf m (ask_order n.me n.chain n.kept.ancestors without)
    all_tried n without mine other =
        let those : List ℕ = n.kept.ancestors ++ range_with_len 1 n.chain in
        let one : IsOneOf m those = in_more m n.kept.ancestors (range_with_len 1 n.chain) (in_numbers 1 n.chain m some (omega (arith, most, mine.1))) in
        subst (λ (b : Bool). IsOneOf m (each_once (n.me ∷ option_to_list without) (if b then below n.me else those))) (sym (outside n mine))
        (in_each_once (n.me ∷ option_to_list without) those m (ap (λ (b : Bool). b || has (option_to_list without) m) (ne_eqb n.me m (λ e. omega (arith, e, mine.0, most, past))) ∙ by_without without other) one) where
          by_without : (q : Option ℕ) → (q ≡ Some m → ⊥) → has (option_to_list q) m ≡ false
          by_without None apart = refl
          by_without (Some p) apart = ap (λ (b : Bool). b || false) (ne_eqb p m (λ e. apart (ap Some e)))

    lost_seq : (k : Mode) (o : Plan) → (lost_from k o).node.kept.seq ≡ o.node.kept.seq
    lost_seq modes.Idle o = refl
    lost_seq (modes.Asking p) o = refl
    lost_seq (modes.Joined p) o = refl
    lost_seq modes.Acting o = refl

    -- Asks

    seeks_ask : (o : Plan) (p : ℕ) → IsMine o.node → Leads p o.node.soft.tries → Seeks (ask o p)
    seeks_ask o p mine leads =
        cond_both (o.node.kept.seq == number_end) (answers (lost o) words.Spent) (send_ask (searching (write o (records.Ask (o.node.kept.seq + 1) p)) None) p) Seeks
        (λ last. inl (lost_seq o.node.kept.mode o ∙ eqb-true o.node.kept.seq number_end last))
        (λ _. inr (mine, (refl, leads)))

    seeks_ask_before : (o : Plan) (p : ℕ) → IsMine o.node → Seeks (ask_before o p)
    seeks_ask_before o p mine =
        seeks_ask (set_tries o (Some p)) p mine (⊎_elim (λ same. inr (inl same)) (λ apart. inr (inr (all_tried o.node (Some p) mine (λ e. apart (cc e))))) (cases_eq p m))

    -- an idle node, or one of which nothing is asked, may look at others
    abbrev MayLook : Mode → Type 0
    MayLook k = (k ≡ modes.Idle) ⊎ (Free × ((q : ℕ) × (k ≡ modes.Joined q)))

    way_descends : (k : Mode) (p : ℕ) (ts : List ℕ) (sent : List Message) → MayLook k → Leads p ts → HasLooked sent p → Way (HasLooked sent) k (Some (searches.Descend p)) ts
    way_descends k p ts sent may leads looked = ⊎_elim
        (λ idle. subst (λ (j : Mode). Way (HasLooked sent) j (Some (searches.Descend p)) ts) (sym idle) (leads, looked))
        (λ free. subst (λ (j : Mode). Way (HasLooked sent) j (Some (searches.Descend p)) ts) (sym free.1.1) (inl free.0))
        may

    seeks_descend : (o : Plan) (p : ℕ) → IsMine o.node → MayLook o.node.kept.mode → Leads p o.node.soft.tries → Seeks (descend o p)
    seeks_descend o p mine may leads =
        let look : Message = record { from = o.node.me; to = p; body = bodies.Look } in
        inr (
          mine,
          way_descends o.node.kept.mode p o.node.soft.tries (o.sends ++ look ∷ []) may leads
              (inr (subst (λ (y : ℕ). IsAmong (record { from = y; to = p; body = bodies.Look }) (o.sends ++ look ∷ [])) mine.0 (among_last o.sends look))),
        )

    seeks_try_at : (o : Plan) (p : ℕ) → IsMine o.node → MayLook o.node.kept.mode → Leads p o.node.soft.tries → Seeks (try_at o p)
    seeks_try_at o p mine may leads = either (not (is_member o.node) && is_empty o.node.kept.ancestors) Seeks (descend o p) (ask o p) (seeks_descend o p mine may leads) (seeks_ask o p mine leads)

    -- the tries of a node that is to take the next one
    abbrev MayTry : Option Search → List ℕ → Type 0
    MayTry search ts = (Free × IsCalm search) ⊎ IsOneOf m ts

    way_rests : (k : Mode) (search : Option Search) (ts : List ℕ) (sent : List Message) → MayLook k → Free → IsCalm search → Way (HasLooked sent) k search ts
    way_rests k search ts sent may free calm = ⊎_elim
        (λ idle. subst (λ (j : Mode). Way (HasLooked sent) j search ts) (sym idle) (by_search search calm))
        (λ joined. subst (λ (j : Mode). Way (HasLooked sent) j search ts) (sym joined.1.1) (inl free))
        may where
          by_search : (s : Option Search) → IsCalm s → Way (HasLooked sent) modes.Idle s ts
          by_search (Some (searches.Descend p)) never = absurd never
          by_search (Some searches.Review) fine = free
          by_search None fine = free

    seeks_try_first : (ps : List ℕ) (o : Plan) → o.node.soft.tries ≡ ps → IsMine o.node → MayLook o.node.kept.mode → MayTry o.node.soft.search ps → Seeks (try_first ps o)
    seeks_try_first [] o e mine may tries =
        subst (λ (b : Bool). Seeks (if b && o.node.soft.silent then act o else waits_awhile o)) (sym (outside o.node mine))
        (⊎_elim (λ free. inr (mine, way_rests o.node.kept.mode o.node.soft.search o.node.soft.tries o.sends may free.0 free.1)) (λ none. absurd none) tries)
    seeks_try_first (p ∷ ps) o e mine may tries =
        seeks_try_at (with_soft o (record o.node.soft { tries = ps })) p mine may (⊎_elim (λ free. inl free.0) (λ one. inr (⊎_elim (λ (same : m ≡ p). inl (sym same)) (λ later. inr later) one)) tries)

    seeks_next_try : (o : Plan) → IsMine o.node → MayLook o.node.kept.mode → MayTry o.node.soft.search o.node.soft.tries → Seeks (next_try o)
    seeks_next_try o mine may tries =
        subst (λ (b : Bool). Seeks (if b then act o else try_first o.node.soft.tries o)) (sym (not_first o.node mine)) (seeks_try_first o.node.soft.tries o refl mine may tries)

    seeks_round : (o : Plan) (without : Option ℕ) → IsMine o.node → MayLook o.node.kept.mode → (without ≡ Some m → ⊥) → Seeks (round o without)
    seeks_round o without mine may other = seeks_next_try (set_tries o without) mine may (inr (all_tried o.node without mine other))

    -- Answers

    seeks_took_yes : (o : Plan) (p seq : ℕ) (r : Rank) (xs : List ℕ) → ((q : ℕ) → o.node.kept.mode ≡ modes.Asking q → (o.node.kept.seq == 0) ≡ false) → OnWay o → Seeks (took_yes o p seq r xs)
    seeks_took_yes o p seq r xs number h =
        cond_both (is_asking o.node.kept.mode p && seq == o.node.kept.seq && nat_lt r.depth MAX_DEPTH && precedes_any r o.node.kept.rank) (joins o p r xs) (ignored o) Seeks
        (λ e.
        let before = and_parts (is_asking o.node.kept.mode p && seq == o.node.kept.seq && nat_lt r.depth MAX_DEPTH) (precedes_any r o.node.kept.rank) e in
        let shallow = and_parts (is_asking o.node.kept.mode p && seq == o.node.kept.seq) (nat_lt r.depth MAX_DEPTH) before.0 in
        let asks = and_parts (is_asking o.node.kept.mode p) (seq == o.node.kept.seq) shallow.0 in
        let d : Durable = o.node.kept in
        let j : Durable = record o.node.kept { mode = modes.Joined p; rank = Some (beneath_of r); log = begun_with o.node.kept.table } in
        cond_both (o.node.kept.seq == 0) d j (λ (k : Durable). (k.seq ≡ number_end) ⊎ (((o.node.me ≡ x) × (o.node.chain ≡ c) × (k.measures ≡ ms)) × Way (HasLooked o.sends) k.mode None []))
        (λ zero. absurd (true≢false (sym zero ∙ number p (by_mode o.node.kept.mode asks.0))))
        (λ _. inr (h.0, inr refl)))
        (λ _. inr h) where
          by_mode : (k : Mode) → is_asking k p ≡ true → k ≡ modes.Asking p
          by_mode (modes.Asking q) e = ap modes.Asking (eqb-true q p e)
          by_mode modes.Idle e = absurd cc
          by_mode (modes.Joined q) e = absurd cc
          by_mode modes.Acting e = absurd cc

    seeks_refused : (o : Plan) (why : Refusal) → IsMine o.node → o.node.kept.mode ≡ modes.Idle → IsCalm o.node.soft.search → Free ⊎ IsOneOf m o.node.soft.tries → Seeks (refused o why)
    seeks_refused o why mine idle calm tries = by_why why where
      next : Seeks (next_try o)
      next = seeks_next_try o mine (inl idle) (⊎_elim (λ free. inl (free, calm)) (λ one. inr one) tries)

      by_why : (w : Refusal) → Seeks (refused o w)
      by_why (refusals.Chain k) = either (is_member o.node || k == o.node.me) Seeks (next_try o) (descend o k) next (seeks_descend o k mine (inl idle) (⊎_elim (λ free. inl free) (λ one. inr (inr one)) tries))
      by_why refusals.Own = next
      by_why refusals.NotJoined = next
      by_why refusals.Ancestor = next
      by_why refusals.Depth = next
      by_why refusals.Rank = next

    -- the tries that are left where the node that was asked last is not the root
    left_tries : (p : ℕ) (ts : List ℕ) → (p ≡ m → Free) → Leads p ts → Free ⊎ IsOneOf m ts
    left_tries p ts fair leads = ⊎_elim (λ free. inl free) (λ rest. ⊎_elim (λ same. inl (fair same)) (λ one. inr one) rest) leads

    calm_none : (s : Option Search) → s ≡ None → IsCalm s
    calm_none s e = subst IsCalm (sym e) tt

    seeks_took_no : (o : Plan) (p seq : ℕ) (why : Refusal) → (p ≡ m → Free) → OnWay o → Seeks (took_no o p seq why)
    seeks_took_no o p seq why fair h = by_mode o.node.kept.mode refl where
      soft : Soft
      soft = record o.node.soft { silent = false; refused = true }

      by_mode : (k : Mode) → o.node.kept.mode ≡ k → Seeks (if is_asking k p && seq == o.node.kept.seq then refused (with_soft (lost_from k o) soft) why else ignored o)
      by_mode modes.Idle e = inr h
      by_mode (modes.Joined q) e = inr h
      by_mode modes.Acting e = inr h
      by_mode (modes.Asking q) e =
          let way : Way (HasLooked o.sends) (modes.Asking q) o.node.soft.search o.node.soft.tries = subst (λ (k : Mode). Way (HasLooked o.sends) k o.node.soft.search o.node.soft.tries) e h.1 in
          cond_both (q == p && seq == o.node.kept.seq) (refused (with_soft (write o records.Lost) soft) why) (ignored o) Seeks
          (λ t.
          let same : q ≡ p = eqb-true q p (and_parts (q == p) (seq == o.node.kept.seq) t).0 in
          seeks_refused (with_soft (write o records.Lost) soft) why h.0 refl (calm_none o.node.soft.search way.0) (left_tries q o.node.soft.tries (λ f. fair (sym same ∙ f)) way.1))
          (λ _. inr h)

    seeks_took_rejoin : (o : Plan) (p seq : ℕ) → OnWay o → Seeks (took_rejoin o p seq)
    seeks_took_rejoin o p seq h = either (is_peer o.node.kept.mode p && seq == o.node.kept.seq) Seeks (ask_before o p) (ignored o) (seeks_ask_before o p h.0) (inr h)

    -- Looks

    seeks_goes_where : (place : Option ℕ) (o : Plan) (p : ℕ) → OnWay o → Seeks (goes_where place o p)
    seeks_goes_where None o p h = inr h
    seeks_goes_where (Some g) o p h =
        either (nat_lt o.node.soft.waits (o.node.soft.patience + 2)) Seeks (wishes o (Some g) (o.node.soft.waits + 1)) (leaves_for o p g) (inr h)
        (seeks_ask_before (with_soft o (record o.node.soft { left = Some p; moves = o.node.soft.moves + 1 })) g h.0)

    seeks_weighs : (o : Plan) (p : ℕ) (place : Option ℕ) → OnWay o → Seeks (weighs o p place)
    seeks_weighs o p place h =
        let s : Soft = o.node.soft in
        let doubts : Bool = not (is_place place s.wish) && nat_lt 0 s.waits in
        let doubted : Plan = wishes o s.wish (s.waits - 1) in
        let wished : Plan = wishes o place s.waits in
        either (nat_le MAX_MOVES s.moves) Seeks (wishes o None 0) (if doubts then doubted else goes_where place wished p) (inr h)
        (either doubts Seeks doubted (goes_where place wished p) (inr h) (seeks_goes_where place wished p h))

    seeks_keeps_line : (o : Plan) (p : ℕ) (s : Stand) → OnWay o → Seeks (keeps_line o p s)
    seeks_keeps_line o p s h =
        subst (λ (b : Bool). Seeks (if b && prefers o.node.kept.mode p && nat_lt p o.node.me && s.in_tree then ask_before o p else ignored o)) (sym (outside o.node h.0)) (inr h)

    -- before it takes the position of p, whose answer may be the one that is awaited
    abbrev Awaits : ℕ → List Message → ℕ → Type 0
    Awaits p sent q = HasLooked sent q ⊎ (p ≡ q)

    seeks_descends : (o : Plan) (p : ℕ) (s : Stand) → (p ≡ m → s.in_tree ≡ false → Free) → IsMine o.node → o.node.kept.mode ≡ modes.Idle → Leads p o.node.soft.tries → Seeks (descends o p s)
    seeks_descends o p s fair mine idle leads =
        cond_both s.in_tree (goes_down (chosen (rate_to o.node p) (candidates o.node s.children)) o p) (next_try (searching o None)) Seeks
        (λ _. subst (λ (w : Option ℕ). Seeks (goes_down w o p)) (sym (nobody_chosen o.node (rate_to o.node p) s.children (subst AreNone (sym mine.2) none))) (seeks_ask o p mine leads))
        (λ off. seeks_next_try (searching o None) mine (inl idle) (⊎_elim (λ free. inl (free, tt)) (λ one. inr one) (left_tries p o.node.soft.tries (λ same. fair same off) leads)))

    module _ (o : Plan) (p : ℕ) (s : Stand) (fair : p ≡ m → s.in_tree ≡ false → Free) (mine : IsMine o.node) where
      line : (k : Mode) (search : Option Search) → o.node.kept.mode ≡ k → o.node.soft.search ≡ search → Way (HasLooked o.sends) k search o.node.soft.tries → Seeks (keeps_line o p s)
      line k search ek es w = seeks_keeps_line o p s (
        mine,
        subst (λ (j : Mode). Way (HasLooked o.sends) j o.node.soft.search o.node.soft.tries) (sym ek) (subst (λ (t : Option Search). Way (HasLooked o.sends) k t o.node.soft.tries) (sym es) w),
      )

      seeks_sees_as : (k : Mode) (search : Option Search) → o.node.kept.mode ≡ k → o.node.soft.search ≡ search → Way (Awaits p o.sends) k search o.node.soft.tries → Seeks (sees_as k search o p s)
      seeks_sees_as modes.Idle (Some (searches.Descend q)) ek es w =
          cond_both (q == p) (descends o p s) (keeps_line o p s) Seeks
          (λ same. seeks_descends o p s fair mine ek (subst (λ (z : ℕ). Leads z o.node.soft.tries) (eqb-true q p same) w.0))
          (λ other. line modes.Idle (Some (searches.Descend q)) ek es (w.0, ⊎_elim (λ looked. looked) (λ here. absurd (true≢false (sym (eq-eqb q p (sym here)) ∙ other))) w.1))
      seeks_sees_as modes.Idle (Some searches.Review) ek es w = line modes.Idle (Some searches.Review) ek es w
      seeks_sees_as modes.Idle None ek es w = line modes.Idle None ek es w
      seeks_sees_as (modes.Asking q) search ek es w = line (modes.Asking q) search ek es w
      seeks_sees_as modes.Acting search ek es w = absurd w
      seeks_sees_as (modes.Joined q) None ek es w = line (modes.Joined q) None ek es w
      seeks_sees_as (modes.Joined q) (Some (searches.Descend y)) ek es w = line (modes.Joined q) (Some (searches.Descend y)) ek es w
      seeks_sees_as (modes.Joined q) (Some searches.Review) ek es w =
          either (q == p) Seeks (reviews_place o p s) (keeps_line o p s)
          (seeks_weighs (searching o None) p (place_in (reviewed (view o.node p s))) (mine, subst (λ (j : Mode). Way (HasLooked o.sends) j None o.node.soft.tries) (sym ek) (inr refl)))
          (line (modes.Joined q) (Some searches.Review) ek es w)

    -- A failure

    module _ (o : Plan) (p : ℕ) (other : p ≡ m → ⊥) (mine : IsMine o.node) where
      still : (k : Mode) (search : Option Search) → o.node.kept.mode ≡ k → o.node.soft.search ≡ search → Way (HasLooked o.sends) k search o.node.soft.tries → Seeks (ignored o)
      still k search ek es w = inr (
        mine,
        subst (λ (j : Mode). Way (HasLooked o.sends) j o.node.soft.search o.node.soft.tries) (sym ek) (subst (λ (t : Option Search). Way (HasLooked o.sends) k t o.node.soft.tries) (sym es) w),
      )

      no_root : {X : Type 0} → p ≡ m → X
      no_root e = absurd (other e)

      seeks_not_seen_idle : (search : Option Search) → o.node.kept.mode ≡ modes.Idle → o.node.soft.search ≡ search → Way (Awaits p o.sends) modes.Idle search o.node.soft.tries → Seeks (not_seen search o p)
      seeks_not_seen_idle None ek es w = still modes.Idle None ek es w
      seeks_not_seen_idle (Some searches.Review) ek es w = still modes.Idle (Some searches.Review) ek es w
      seeks_not_seen_idle (Some (searches.Descend q)) ek es w =
          cond_both (q == p) (next_try (searching o None)) (ignored o) Seeks
          (λ same. seeks_next_try (searching o None) mine (inl ek) (⊎_elim (λ free. inl (free, tt)) (λ one. inr one) (left_tries q o.node.soft.tries (λ e. no_root (sym (eqb-true q p same) ∙ e)) w.0)))
          (λ apart. still modes.Idle (Some (searches.Descend q)) ek es (w.0, ⊎_elim (λ looked. looked) (λ here. absurd (true≢false (sym (eq-eqb q p (sym here)) ∙ apart))) w.1))

      seeks_not_seen_joined : (q : ℕ) (search : Option Search) → o.node.kept.mode ≡ modes.Joined q → o.node.soft.search ≡ search → Free ⊎ (search ≡ None) → Seeks (not_seen search o p)
      seeks_not_seen_joined q None ek es w = still (modes.Joined q) None ek es w
      seeks_not_seen_joined q (Some searches.Review) ek es w = still (modes.Joined q) (Some searches.Review) ek es w
      seeks_not_seen_joined q (Some (searches.Descend y)) ek es w =
          either (y == p) Seeks (next_try (searching o None)) (ignored o)
          (⊎_elim (λ free. seeks_next_try (searching o None) mine (inr (free, (q, ek))) (inl (free, tt))) (λ e. absurd cc) w)
          (still (modes.Joined q) (Some (searches.Descend y)) ek es w)

      seeks_not_reached : (k : Mode) → o.node.kept.mode ≡ k → Way (Awaits p o.sends) k o.node.soft.search o.node.soft.tries → Seeks (not_reached k o p)
      seeks_not_reached modes.Idle ek w = seeks_not_seen_idle o.node.soft.search ek refl w
      seeks_not_reached modes.Acting ek w = absurd w
      seeks_not_reached (modes.Joined q) ek w =
          either (q == p) Seeks (round (lost o) (Some p)) (not_seen o.node.soft.search o p)
          (subst (λ (j : Mode). Seeks (round (lost_from j o) (Some p))) (sym ek) (seeks_round (write o records.Lost) (Some p) mine (inl refl) (λ e. other (cc e))))
          (seeks_not_seen_joined q o.node.soft.search ek refl w)
      seeks_not_reached (modes.Asking q) ek w =
          cond_both (q == p) (next_try (lost o)) (not_seen o.node.soft.search o p) Seeks
          (λ same. subst (λ (j : Mode). Seeks (next_try (lost_from j o))) (sym ek)
          (seeks_next_try (write o records.Lost) mine (inl refl) (⊎_elim (λ free. inl (free, calm_none o.node.soft.search w.0)) (λ one. inr one) (left_tries q o.node.soft.tries (λ e. no_root (sym (eqb-true q p same) ∙ e)) w.1))))
          (λ _. subst (λ (t : Option Search). Seeks (not_seen t o p)) (sym w.0) (still (modes.Asking q) o.node.soft.search ek refl w))

    -- What leaves the search as it is

    way_raises_over : (o : Plan) (y : ℕ) (r : Rank) → OnWay o → OnWay (raises_over o y r)
    way_raises_over o y r h = either (is_acting o.node.kept.mode && not (precedes (rank_or_last o.node.kept.rank) r) && not (y == o.node.me)) OnWay (raises o (raise r.epoch)) o (by_epoch (raise r.epoch)) h where
      by_epoch : (e : Option ℕ) → OnWay (raises o e)
      by_epoch None = h
      by_epoch (Some e) = h

    way_adopts : (o : Plan) (y seq : ℕ) → OnWay o → OnWay (adopts o y seq)
    way_adopts o y seq h =
        let born : Cert = birth y seq o.node.me in
        let entered : Plan = write o (records.Entry born) in
        let yes : Body = bodies.Yes seq (rank_or_last o.node.kept.rank) o.node.kept.ancestors in
        either (has_lease o.node y seq) OnWay (grants o y seq) (if is_news o.node.kept.table born then grants entered y seq else sends_rejoin o y seq)
        (way_send (with_leases o (renew o.node.leases y o.node.soft.clock)) y yes h)
        (either (is_news o.node.kept.table born) OnWay (grants entered y seq) (sends_rejoin o y seq)
        (way_send (with_leases entered (renew o.node.leases y o.node.soft.clock)) y yes h) (way_send o y (bodies.Rejoin seq) h))

    way_answers_ask : (why : Option Refusal) (o : Plan) (y seq : ℕ) → OnWay o → OnWay (answers_ask why o y seq)
    way_answers_ask None o y seq h = way_adopts o y seq h
    way_answers_ask (Some why) o y seq h = way_send o y (bodies.No seq why) h

    way_asked : (o : Plan) (y seq : ℕ) (r : Option Rank) → OnWay o → OnWay (asked o y seq r)
    way_asked o y seq r h =
        let raised : Plan = raises_over o y (rank_or_last r) in
        way_answers_ask (adoption_refusal (host raised.node y) y r) raised y seq (way_raises_over o y (rank_or_last r) h)

    way_merges_all : (cs : List Cert) (o : Plan) → OnWay o → OnWay (merges_all cs o)
    way_merges_all [] o h = h
    way_merges_all (k ∷ cs) o h = way_merges_all cs (merges o k) (either (is_news o.node.kept.table k) OnWay (write o (records.Entry k)) o h h)

    way_checked_in : (o : Plan) (y seq upto rate number clients : ℕ) (certs : List Cert) → OnWay o → OnWay (checked_in o y seq upto rate number clients certs)
    way_checked_in o y seq upto rate number clients certs h =
        let told : List Cert = life y seq o.node.me number clients ∷ certs in
        let merged : Plan = merges_all told o in
        let renewed : Plan = record merged { node = record merged.node { leases = renew merged.node.leases y merged.node.soft.clock; rates = put_at merged.node.rates y rate } } in
        either (has_lease o.node y seq) OnWay (acknowledges merged y seq upto rate) (sends_rejoin o y seq)
        (way_send renewed y (bodies.CheckAck seq upto (rank_or_last merged.node.kept.rank) merged.node.kept.ancestors) (way_merges_all told o h))
        (way_send o y (bodies.Rejoin seq) h)

    way_took_ack : (o : Plan) (p seq upto : ℕ) (told : Rank) (xs : List ℕ) → OnWay o → OnWay (took_ack o p seq upto told xs)
    way_took_ack o p seq upto told xs h =
        let placed : Plan = takes_place o upto in
        let ranked : Plan = takes_rank_unless o.node.soft.wish placed told in
        let above : List ℕ = ancestors_by p xs in
        either (is_joined_to o.node.kept.mode p && seq == o.node.kept.seq) OnWay (takes_ancestors ranked above) (ignored o)
        (either (same_ids above ranked.node.kept.ancestors) OnWay ranked (write ranked (records.Ancestors above)) (way_ranked o.node.soft.wish) (way_ranked o.node.soft.wish)) h where
          way_placed : OnWay (takes_place o upto)
          way_placed = either (is_ahead o.node.kept.log upto) OnWay (write o (records.Acked upto)) o h h

          way_ranked : (wish : Option ℕ) → OnWay (takes_rank_unless wish (takes_place o upto) told)
          way_ranked (Some g) = way_placed
          way_ranked None =
              either (is_better (takes_place o upto).node.kept.rank told) OnWay (write (takes_place o upto) (records.Ranked (beneath_of told))) (takes_place o upto) way_placed way_placed

    way_answers_fetch : (l : Option Shelf) (o : Plan) (p : ℕ) (have : List Shelf) → OnWay o → OnWay (answers_fetch o p have l)
    way_answers_fetch None o p have h = h
    way_answers_fetch (Some l) o p have h = way_send o p _ h

    way_asks_on : (k : Mode) (p : ℕ) (ls : List Shelf) (o : Plan) → OnWay o → OnWay (asks_on k p ls o)
    way_asks_on (modes.Joined q) p ls o h = either (q == p) OnWay (send o p (bodies.Fetch ls)) o (way_send o p (bodies.Fetch ls) h) h
    way_asks_on modes.Idle p ls o h = h
    way_asks_on (modes.Asking q) p ls o h = h
    way_asks_on modes.Acting p ls o h = h

    way_limited : (ls : List Shelf) (g : List ℕ) (end : ℕ) (o q : Plan) → OnWay o → OnWay q → OnWay (unless (limit ls g end) o q)
    way_limited ls g end o q h i = by_tests (not (is_some (line_of g ls)) && nat_le MAX_GROUPS (length ls)) (nat_lt MAX_GROUP_BYTES end) where
      by_tests : (a b : Bool) → OnWay (unless (if a then Some words.Groups else if b then Some words.TooLong else None) o q)
      by_tests true b = h
      by_tests false true = h
      by_tests false false = i

    way_chunk_to : (o : Plan) (ls : List Shelf) (p : ℕ) (l : Shelf) (start end : ℕ) (last : Bool) → OnWay o → OnWay (chunk_to o ls p l start end last)
    way_chunk_to o ls p l start end last h =
        let room : Plan = unless (limit ls l.group end) o (keeps_chunk o ls p l start end last) in
        let more : List Shelf = with_line (grown_line l end last) ls in
        let kept : Plan = keeps o start (adds_seal l end last) in
        either (nat_lt l.held start) OnWay (answers o words.Gap) (if l.sealed && nat_lt l.held end then answers o words.Sealed else room) h
        (either (l.sealed && nat_lt l.held end) OnWay (answers o words.Sealed) room h
        (way_limited ls l.group end o (keeps_chunk o ls p l start end last) h
        (either (adds ls l end last) OnWay (asks_on o.node.kept.mode p more kept) (ignored o) (way_asks_on o.node.kept.mode p more kept h) h)))

    -- A message

    -- before the message of p
    abbrev pub Before : ℕ → Body → List Message → ℕ → Type 0
    Before p b sent q = HasLooked sent q ⊎ (TellsPosition b × (p ≡ q))

    module _ (o : Plan) (ls : List Shelf) (p : ℕ) (number : (q : ℕ) → o.node.kept.mode ≡ modes.Asking q → (o.node.kept.seq == 0) ≡ false) (mine : IsMine o.node) where
      quiet : (b : Body) → (TellsPosition b → ⊥) → Way (Before p b o.sends) o.node.kept.mode o.node.soft.search o.node.soft.tries → OnWay o
      quiet b silent w = (mine, way_by (Before p b o.sends) (HasLooked o.sends) (λ q before. ⊎_elim (λ looked. looked) (λ tells. absurd (silent tells.0)) before) o.node.kept.mode o.node.soft.search o.node.soft.tries w)

      seeks_received : (b : Body) → IsFair m Free p b → Way (Before p b o.sends) o.node.kept.mode o.node.soft.search o.node.soft.tries → Seeks (received o ls p b)
      seeks_received bodies.Look fair w = inr (way_send o p _ (quiet bodies.Look (λ n. n) w))
      seeks_received (bodies.LookIs is_in parent rate children) fair w =
          let s : Stand = record { in_tree = is_in; parent = parent; rate = rate; children = children } in
          seeks_sees_as o p s fair mine o.node.kept.mode o.node.soft.search refl refl
          (way_by (Before p (bodies.LookIs is_in parent rate children) o.sends) (Awaits p o.sends) (λ q before. ⊎_elim (λ looked. inl looked) (λ tells. inr tells.1) before) o.node.kept.mode o.node.soft.search o.node.soft.tries w)
      seeks_received (bodies.Ask seq rank) fair w = inr (way_asked o p seq rank (quiet (bodies.Ask seq rank) (λ n. n) w))
      seeks_received (bodies.Yes seq r xs) fair w = seeks_took_yes o p seq r xs number (quiet (bodies.Yes seq r xs) (λ n. n) w)
      seeks_received (bodies.No seq why) fair w = seeks_took_no o p seq why fair (quiet (bodies.No seq why) (λ n. n) w)
      seeks_received (bodies.CheckIn seq upto rate count clients certs) fair w =
          inr (way_checked_in o p seq upto rate count clients certs (quiet (bodies.CheckIn seq upto rate count clients certs) (λ n. n) w))
      seeks_received (bodies.CheckAck seq upto told xs) fair w = inr (way_took_ack o p seq upto told xs (quiet (bodies.CheckAck seq upto told xs) (λ n. n) w))
      seeks_received (bodies.Rejoin seq) fair w = seeks_took_rejoin o p seq (quiet (bodies.Rejoin seq) (λ n. n) w)
      seeks_received (bodies.Fetch have) fair w = inr (way_answers_fetch (next_behind o.node.chunk have ls) o p have (quiet (bodies.Fetch have) (λ n. n) w))
      seeks_received (bodies.Chunk g start bytes last) fair w =
          let h : OnWay o = quiet (bodies.Chunk g start bytes last) (λ n. n) w in
          inr (either (o.node.me == 1) OnWay (ignored o) (chunk_to o ls p (line_at g ls) start (start + length bytes) last) h (way_chunk_to o ls p (line_at g ls) start (start + length bytes) last h))

    -- A tick of an idle node

    record Idles (s : Soft) (o : Plan) : Type 0 where
      mine : IsMine o.node
      idle : o.node.kept.mode ≡ modes.Idle
      soft : o.node.soft ≡ s

    idles_dies : (s : Soft) (e : Option Cert) (o : Plan) → Idles s o → Idles s (dies e o)
    idles_dies s None o h = h
    idles_dies s (Some k) o h =
        either (is_news o.node.kept.table (record k { dead = true })) (Idles s) (write o (records.Entry (record k { dead = true }))) o (record { mine = h.mine; idle = h.idle; soft = h.soft }) h

    idles_each : (s : Soft) (ys : List ℕ) (o : Plan) → Idles s o → Idles s (ends_each ys o)
    idles_each s [] o h = h
    idles_each s (y ∷ ys) o h = idles_each s ys (dies (newest o.node.kept.table y) o) (idles_dies s (newest o.node.kept.table y) o h)

    -- where x descends already, nothing is asked of its search
    seeks_goes_on : (search : Option Search) (o : Plan) → o.node.soft.search ≡ search → IsMine o.node → o.node.kept.mode ≡ modes.Idle → Free ⊎ IsCalm search → Seeks (goes_on search o)
    seeks_goes_on None o e mine idle calm = seeks_round o None mine (inl idle) (λ e. absurd cc)
    seeks_goes_on (Some searches.Review) o e mine idle calm = seeks_round o None mine (inl idle) (λ e. absurd cc)
    seeks_goes_on (Some (searches.Descend p)) o e mine idle calm = ⊎_elim
        (λ free.
        let look : Message = record { from = o.node.me; to = p; body = bodies.Look } in
        inr (
          mine,
          subst (λ (t : Option Search). Way (HasLooked (o.sends ++ look ∷ [])) o.node.kept.mode t o.node.soft.tries) (sym e)
              (way_descends o.node.kept.mode p o.node.soft.tries (o.sends ++ look ∷ []) (inl idle) (inl free)
              (inr (subst (λ (y : ℕ). IsAmong (record { from = y; to = p; body = bodies.Look }) (o.sends ++ look ∷ [])) mine.0 (among_last o.sends look)))),
        ))
        (λ never. absurd never)
        calm

    seeks_checks_in_time : (o : Plan) → IsMine o.node → o.node.kept.mode ≡ modes.Idle → Free ⊎ IsCalm o.node.soft.search → Seeks (checks_in_time o)
    seeks_checks_in_time o mine idle calm = subst (λ (k : Mode). Seeks (looks_round k (tick_checks (forgets_refusal o.node.soft.due o)))) (sym idle) (by_due o.node.soft.due) where
      checked : (q : Plan) → IsMine q.node → q.node.kept.mode ≡ modes.Idle → Free ⊎ IsCalm q.node.soft.search → Seeks (tick_checks q)
      checked q own rests fine = subst (λ (k : Mode). Seeks (tick_checks_as k (sets_due q))) (sym rests) (seeks_goes_on q.node.soft.search (sets_due q) refl own rests fine)

      by_due : (due : Option ℕ) → Seeks (tick_checks (forgets_refusal due o))
      by_due None = checked o mine idle calm
      by_due (Some t) = checked (with_soft o (record o.node.soft { refused = false })) mine idle calm

    seeks_fetches : (k : Mode) (o : Plan) (ls : List Shelf) → Seeks o → Seeks (fetches_as k o ls)
    seeks_fetches (modes.Joined p) o ls h = ⊎_elim (λ last. inl last) (λ way. inr (way_send o p (bodies.Fetch ls) way)) h
    seeks_fetches modes.Idle o ls h = h
    seeks_fetches (modes.Asking p) o ls h = h
    seeks_fetches modes.Acting o ls h = h

    seeks_tick : (o : Plan) (ls : List Shelf) (t : ℕ) → IsMine o.node → o.node.kept.mode ≡ modes.Idle → Free ⊎ IsCalm o.node.soft.search → is_due o.node.soft.due (max o.node.soft.clock t) ≡ true → Seeks (tick o ls t)
    seeks_tick o ls t mine idle calm due =
        let started : Plan = starts_leases (at_time o t) in
        let over : Plan = ends_leases started in
        let before : Idles started.node.soft over =
        idles_each started.node.soft (ended started.node.kept.table started.node.me started.node.leases started.node.soft.clock) started (record { mine = mine; idle = idle; soft = refl }) in
        let due_now : is_due over.node.soft.due over.node.soft.clock ≡ true = ap (λ (s : Soft). is_due s.due s.clock) before.soft ∙ due in
        let fine : Free ⊎ IsCalm over.node.soft.search = subst (λ (s : Soft). Free ⊎ IsCalm s.search) (sym before.soft) calm in
        let checked : Plan = checks_if_due over in
        seeks_fetches checked.node.kept.mode checked ls
        (subst (λ (b : Bool). Seeks (if b then checks_in_time over else reports_news over)) (sym due_now) (seeks_checks_in_time over before.mine before.idle fine))

    -- The step

    -- what a step leaves
    abbrev pub HasSought : Control → List Message → Type 0
    HasSought n sent = (n.kept.seq ≡ number_end) ⊎ ((n.kept.measures ≡ ms) × Way (HasLooked sent) n.kept.mode n.soft.search n.soft.tries)

    sought : (w : Option Want) (ks : List Group) (o : Plan) → Seeks o → HasSought o.node (filled w ks o.sends)
    sought None ks o h = ⊎_elim (λ last. inl last) (λ way. inr (way.0.2, way.1)) h
    sought (Some w) ks o h = ⊎_elim (λ last. inl last)
        (λ way. inr (
          way.0.2,
          way_by (HasLooked o.sends) (HasLooked (map (fill (bytes_wanted ks w)) o.sends))
              (λ q looked. ⊎_elim (λ a. inl a) (λ one. inr (among_filled (bytes_wanted ks w) o.sends (record { from = x; to = q; body = bodies.Look }) one)) looked)
              o.node.kept.mode o.node.soft.search o.node.soft.tries way.1,
        ))
        h

    module _ (n : Node) (me : n.control.me ≡ x) (chain : n.control.chain ≡ c) (measures : n.control.kept.measures ≡ ms) where
      pub step_ticks : (t : ℕ) → n.control.kept.mode ≡ modes.Idle → Free ⊎ IsCalm n.control.soft.search → is_due n.control.soft.due (max n.control.soft.clock t) ≡ true
          → HasSought (step n (Tick t)).node.control (step n (Tick t)).sends
      step_ticks t idle calm due =
          let o : Plan = tick (begun n.control) (shelf n.groups) t in
          sought o.wants n.groups o (seeks_tick (begun n.control) (shelf n.groups) t (me, chain, measures) idle calm due)

      pub step_fails : (p : ℕ) → (p ≡ m → ⊥) → Way (λ q. A q ⊎ (p ≡ q)) n.control.kept.mode n.control.soft.search n.control.soft.tries → HasSought (step n (Unreachable p)).node.control (step n (Unreachable p)).sends
      step_fails p other way =
          let o : Plan = unreachable (begun n.control) p in
          sought o.wants n.groups o
          (seeks_not_reached (begun n.control) p other (me, chain, measures) n.control.kept.mode refl
          (way_by (λ q. A q ⊎ (p ≡ q)) (Awaits p []) (λ q looked. ⊎_elim (λ a. inl (inl a)) (λ here. inr here) looked) n.control.kept.mode n.control.soft.search n.control.soft.tries way))

      pub step_receives : (s : Message) → ((q : ℕ) → n.control.kept.mode ≡ modes.Asking q → (n.control.kept.seq == 0) ≡ false) → IsFair m Free s.from s.body
          → Way (λ q. A q ⊎ (TellsPosition s.body × (s.from ≡ q))) n.control.kept.mode n.control.soft.search n.control.soft.tries → HasSought (step n (Delivered s)).node.control (step n (Delivered s)).sends
      step_receives s number fair way =
          let o : Plan = received (begun n.control) (shelf n.groups) s.from s.body in
          sought o.wants n.groups o
          (seeks_received (begun n.control) (shelf n.groups) s.from number (me, chain, measures) s.body fair
          (way_by (λ q. A q ⊎ (TellsPosition s.body × (s.from ≡ q))) (Before s.from s.body []) (λ q looked. ⊎_elim (λ a. inl (inl a)) (λ here. inr here) looked)
          n.control.kept.mode n.control.soft.search n.control.soft.tries way))
