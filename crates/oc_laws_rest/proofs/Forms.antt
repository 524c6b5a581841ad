-- The nodes of a star under m, the least chain member that is up: the forms that it and the others take, and the effect of each input.
use Rattle.std.proofs.Common.{◌≡◌, ℕ, zero, suc, ◌+◌, ◌-◌, ◌%◌, ◌≤◌, ◌<◌, max, Bool, true, false, not, ◌&&◌, ◌==◌, nat_lt, nat_le, if◌then◌else◌, Option, Some, None, List, [], ◌∷◌, ◌++◌, ◌⊎◌, inl, inr, get_or, replicate, map, filter, length, refl, ap, sym, subst, ◌∙◌, ⊎_elim, arith, ne_eqb, eq-eqb}
use Rattle.std.proofs.lemmas.Bool.{cases_eq, lt-leb, lt-ltb, le-leb}
use Rattle.std.specs.List.{AllByRecursion, range_with_len}
use Rattle.oc_base.specs.declared.cert.Cert.{Cert}
use Rattle.oc_base.specs.declared.cert.Child.{Child}
use Rattle.oc_base.specs.declared.rank.Rank.{Rank}
use Rattle.oc_base.specs.declared.refusal.Refusal.{Refusal}
use Rattle.oc_base.specs.declared.shelf.Shelf.{Shelf}
use Rattle.oc_base.specs.Rank.{beneath_of}
use Rattle.oc_model.specs.declared.answer.Answer.TheVariants.{Ok}
use Rattle.oc_model.specs.declared.input.Input.{Input}
use Rattle.oc_model.specs.declared.input.Input.TheVariants.{Tick, Unreachable, Delivered}
use Rattle.oc_model.specs.declared.message.Body.{Body}
use Rattle.oc_model.specs.declared.message.Body.TheVariants.{Look, LookIs, Ask, Yes, CheckIn, CheckAck, Fetch}
use Rattle.oc_model.specs.declared.message.Message.{Message}
use Rattle.oc_model.specs.declared.mode.Mode.TheVariants.{Asking, Joined, Acting}
use Rattle.oc_model.specs.declared.record.Record.{Record}
use Rattle.oc_model.specs.declared.record.Record.TheVariants as records
use Rattle.oc_model.specs.declared.soft.Search.{Search}
use Rattle.oc_model.specs.declared.soft.Search.TheVariants.{Descend, Review}
use Rattle.oc_model.specs.declared.soft.Soft.{Soft}
use Rattle.oc_model.specs.Adopting.{raises, raises_over, host, birth, is_number, has_lease, grants, sends_rejoin, adopts, answers_ask, asked_at, asked}
use Rattle.oc_model.specs.Adoption.{rank_or_last, is_better, chain_child, adoption_refusal}
use Rattle.oc_model.specs.Asking.{lost, send_ask, ask, act, descend, earlier, waits_awhile, next_try, set_tries, round, joins, not_seen}
use Rattle.oc_model.specs.Checking.{sets_due, merges_all, at_time, starts_leases, ends_each, ends_leases, looks_at_each, looks_round, is_due, forgets_refusal, tick_checks, checks_in_time, reports_news, checks_if_due, fetches, acknowledges, life, checked_in, same_ids, takes_ancestors}
use Rattle.oc_model.specs.Choice.{go_beneath, chosen, is_suitable, below, ask_order, each_once}
use Rattle.oc_model.specs.Content.{answers_fetch}
use Rattle.oc_model.specs.Leases.{renew, start_all, ended}
use Rattle.oc_model.specs.Looking.{Stand, children, candidates, candidate, goes_down, descends, place_in, weighs, reviews_place, keeps_line}
use Rattle.oc_model.specs.Measures.{reading_of}
use Rattle.oc_model.specs.Node.{Header, Control, Node, no_reading, new_durable, new_soft, new_control, new_node}
use Rattle.oc_model.specs.Numbers.{number_end, has, put_at}
use Rattle.oc_model.specs.Plan.{Plan, begun, write, send, with_soft, with_leases, searching, ignored, is_member, rate_to}
use Rattle.oc_model.specs.Shelves.{turn, from_place, first_behind, next_behind}
use Rattle.oc_model.specs.Step.{finished, step, plan}
use Rattle.oc_model.specs.Table.{newest, put, is_news, is_news_to, merge, lease_number}
use Rattle.oc_model.specs.WorldBounds.{IsOneOf}
use Rattle.oc_model.proofs.Lists.{all_append}

-- Forms

-- m as the root: how often it has asked, its epoch, its table, its cleared part and its lists
abbrev pub root_node : Header → ℕ → ℕ → ℕ → List Cert → Soft → List (Option ℕ) → List ℕ → Node
root_node h m q e t s ends rates = record {
  control = record (new_control h m) {
    kept = record (new_durable h.nodes) { seq = q; mode = Acting; rank = Some (record { epoch = e; depth = 0 }); table = t };
    soft = s;
    leases = ends;
    rates = rates;
  };
  groups = [];
}

-- what a start clears of a node, as it goes on
pub record Going : Type 0 where
  pub clock : ℕ
  pub due : Option ℕ
  pub tries : List ℕ
  pub silent : Bool
  pub checked : Option ℕ

abbrev pub soft_of : Going → Option Search → Soft
soft_of g search = record {
  clock = g.clock;
  due = g.due;
  tries = g.tries;
  silent = g.silent;
  refused = false;
  checked = g.checked;
  search = search;
  served = 0;
  wish = None;
  left = None;
  waits = 0;
  patience = 0;
  moves = 0;
}

-- m while it asks p, an earlier chain member; nobody refused it
abbrev pub rising_node : Header → ℕ → ℕ → ℕ → Going → Node
rising_node h m q p g = record { control = record (new_control h m) { kept = record (new_durable h.nodes) { seq = q; mode = Asking p }; soft = soft_of g None }; groups = [] }

-- a node that looks at p
abbrev pub looking_node : Header → ℕ → ℕ → Going → Node
looking_node h x p g = record { control = record (new_control h x) { soft = soft_of g (Some (Descend p)) }; groups = [] }

-- a node that found nobody in the tree
abbrev pub idle_node : Header → ℕ → Going → Node
idle_node h x g = record { control = record (new_control h x) { soft = soft_of g None }; groups = [] }

-- a node that asks m
abbrev pub asking_node : Header → ℕ → ℕ → Going → Node
asking_node h m x g = record { control = record (new_control h x) { kept = record (new_durable h.nodes) { seq = 1; mode = Asking m }; soft = soft_of g None }; groups = [] }

-- a child of m, with this rank
abbrev pub joined_node : Header → ℕ → ℕ → Going → Rank → Option Search → Node
joined_node h m x g r search = record {
  control = record (new_control h x) {
    kept = record (new_durable h.nodes) { seq = 1; mode = Joined m; rank = Some r; ancestors = m ∷ [] };
    soft = soft_of g search;
  };
  groups = [];
}

-- the rank of a root with this epoch
abbrev pub top : ℕ → Rank
top e = record { epoch = e; depth = 0 }

abbrev pub letter : ℕ → ℕ → Body → Message
letter x y b = record { from = x; to = y; body = b }

-- what a node searches for once it is joined
abbrev pub search_of : Bool → Option Search
search_of true = Some Review
search_of false = None

-- what the input leaves of the node and what it sends
pub record Gives (n : Node) (i : Input) (m : Node) (ms : List Message) : Type 0 where
  pub node : (step n i).node ≡ m
  pub sends : (step n i).sends ≡ ms

-- Measures that were not taken

get_replicate : (n i : ℕ) → get_or (replicate n no_reading) i no_reading ≡ no_reading
get_replicate zero i = refl
get_replicate (suc n) zero = refl
get_replicate (suc n) (suc i) = get_replicate n i

none_suitable : (n : Control) (direct : ℕ) (nodes : ℕ) (cs : List Child) → n.kept.measures ≡ replicate nodes no_reading → filter (is_suitable direct) (map (candidate n) cs) ≡ []
none_suitable n direct nodes [] e = refl
none_suitable n direct nodes (c ∷ cs) e =
    let none : reading_of n.kept.measures c.id ≡ no_reading = ap (λ ms. reading_of ms c.id) e ∙ get_replicate nodes (c.id - 1) in
    rw none (none_suitable n direct nodes cs e)

-- without measures no child is chosen
pub none_chosen : (n : Control) (direct nodes : ℕ) (cs : List Child) → n.kept.measures ≡ replicate nodes no_reading → chosen direct (candidates n cs) ≡ None
none_chosen n direct nodes cs e = rw (none_suitable n direct nodes (filter (λ c. not (c.id == n.me)) cs) e) refl

-- The orders of tries

each_once_in : (out xs : List ℕ) (p : ℕ) → IsOneOf p (each_once out xs) → IsOneOf p xs
each_once_in out [] p one = absurd one
each_once_in out (x ∷ xs) p one = by_test (has out x) (each_once_in out xs p) (each_once_in (x ∷ out) xs p) one where
  by_test : (b : Bool) → (IsOneOf p (each_once out xs) → IsOneOf p xs) → (IsOneOf p (each_once (x ∷ out) xs) → IsOneOf p xs)
      → IsOneOf p (if b then each_once out xs else x ∷ each_once (x ∷ out) xs) → (p ≡ x) ⊎ IsOneOf p xs
  by_test true skip go one = inr (skip one)
  by_test false skip go (inl same) = inl same
  by_test false skip go (inr later) = inr (go later)

pub in_each_once : (out xs : List ℕ) (p : ℕ) → has out p ≡ false → IsOneOf p xs → IsOneOf p (each_once out xs)
in_each_once out [] p free one = absurd one
in_each_once out (x ∷ xs) p free one =
    ⊎_elim (λ (same : x ≡ p). here same) (λ other. by_test (has out x) other (in_each_once out xs p free) (λ apart. in_each_once (x ∷ out) xs p (rw (ne_eqb x p apart) free)) one) (cases_eq x p) where
      here : x ≡ p → IsOneOf p (if has out x then each_once out xs else x ∷ each_once (x ∷ out) xs)
      here same = let open_here : has out x ≡ false = ap (has out) same ∙ free in rw open_here (inl (sym same))

      by_test : (b : Bool) → (x ≡ p → ⊥) → (IsOneOf p xs → IsOneOf p (each_once out xs)) → ((x ≡ p → ⊥) → IsOneOf p xs → IsOneOf p (each_once (x ∷ out) xs)) → (p ≡ x) ⊎ IsOneOf p xs
          → IsOneOf p (if b then each_once out xs else x ∷ each_once (x ∷ out) xs)
      by_test b other skip go (inl same) = absurd (other (sym same))
      by_test true other skip go (inr later) = skip later
      by_test false other skip go (inr later) = inr (go other later)

each_once_few : (out xs : List ℕ) → length (each_once out xs) ≤ length xs
each_once_few out [] = omega arith
each_once_few out (x ∷ xs) = by_test (has out x) (each_once_few out xs) (each_once_few (x ∷ out) xs) where
  by_test : (b : Bool) → length (each_once out xs) ≤ length xs → length (each_once (x ∷ out) xs) ≤ length xs → length (if b then each_once out xs else x ∷ each_once (x ∷ out) xs) ≤ length (x ∷ xs)
  by_test true skip go = omega (arith, skip)
  by_test false skip go = omega (arith, go)

below_in : (m p : ℕ) → IsOneOf p (below m) → (1 ≤ p) × (p < m)
below_in zero p one = absurd one
below_in (suc zero) p one = absurd one
below_in (suc (suc n)) p (inl same) = (omega (arith, same), omega (arith, same))
below_in (suc (suc n)) p (inr later) = let rest = below_in (suc n) p later in (rest.0, omega (arith, rest.1))

below_few : (m : ℕ) → length (below m) ≤ m
below_few zero = omega arith
below_few (suc zero) = omega arith
below_few (suc (suc n)) = omega (arith, below_few (suc n))

-- these are earlier members than m
abbrev pub AreEarlier : ℕ → List ℕ → Type 0
AreEarlier m ps = (p : ℕ) → IsOneOf p ps → (1 ≤ p) × (p < m)

-- a chain member past the first has an earlier member to ask first
pub record Order (m chain : ℕ) : Type 0 where
  pub first : ℕ
  pub rest : List ℕ
  pub is : ask_order m chain [] None ≡ first ∷ rest
  pub earlier : AreEarlier m (first ∷ rest)
  pub few : length rest ≤ m

pub member_order : (m chain : ℕ) → 2 ≤ m → m ≤ chain → Order m chain
member_order zero chain low within = absurd (omega (arith, low))
member_order (suc zero) chain low within = absurd (omega (arith, low))
member_order (suc (suc n)) chain low within =
    let inside : nat_le (suc (suc n)) chain ≡ true = le-leb (suc (suc n)) chain within in
    let apart : (suc (suc n) == suc n) ≡ false = ne_eqb (suc (suc n)) (suc n) (λ e. omega (arith, e)) in
    let rest : List ℕ = each_once (suc n ∷ suc (suc n) ∷ []) (below (suc n)) in
    record {
      first = suc n;
      rest = rest;
      is = rw (inside, apart) refl;
      earlier = λ p one. ⊎_elim
          (λ (same : p ≡ suc n). (omega (arith, same), omega (arith, same)))
          (λ later. let low_p = below_in (suc n) p (each_once_in (suc n ∷ suc (suc n) ∷ []) (below (suc n)) p later) in (low_p.0, omega (arith, low_p.1))) one;
      few = omega (arith, each_once_few (suc n ∷ suc (suc n) ∷ []) (below (suc n)), below_few (suc n));
    }

pub numbers_in : (b n p : ℕ) → IsOneOf p (range_with_len b n) → (b ≤ p) × (p < b + n)
numbers_in b zero p one = absurd one
numbers_in b (suc n) p (inl e) = (omega (arith, e), omega (arith, e))
numbers_in b (suc n) p (inr later) = let rest = numbers_in (b + 1) n p later in (omega (arith, rest.0), omega (arith, rest.1))

pub in_numbers : (b n x : ℕ) → b ≤ x → x < b + n → IsOneOf x (range_with_len b n)
in_numbers b zero x least most = absurd (omega arith)
in_numbers b (suc n) x least most = ⊎_elim (λ (e : x ≡ b). inl e) (λ apart. inr (in_numbers (b + 1) n x (omega (arith, apart)) (omega arith))) (cases_eq x b)

-- these are chain members
abbrev pub AreMembers : ℕ → List ℕ → Type 0
AreMembers chain ps = (p : ℕ) → IsOneOf p ps → (1 ≤ p) × (p ≤ chain)

-- a node past the chain tries all chain members
pub record Tries (x chain : ℕ) : Type 0 where
  pub first : ℕ
  pub rest : List ℕ
  pub is : ask_order x chain [] None ≡ first ∷ rest
  pub members : AreMembers chain (first ∷ rest)
  pub all : (p : ℕ) → 1 ≤ p → p ≤ chain → IsOneOf p (first ∷ rest)

pub tries_of : (x chain : ℕ) → 1 ≤ chain → chain < x → Tries x chain
tries_of x zero some past = absurd (omega (arith, some))
tries_of x (suc c) some past =
    let out : nat_le x (suc c) ≡ false = lt-leb x (suc c) past in
    let other : (x == 1) ≡ false = ne_eqb x 1 (λ e. omega (arith, e, past)) in
    let whole : each_once (x ∷ []) (range_with_len 1 (suc c)) ≡ 1 ∷ each_once (1 ∷ x ∷ []) (range_with_len 2 c) = rw other refl in
    record {
      first = 1;
      rest = each_once (1 ∷ x ∷ []) (range_with_len 2 c);
      is = rw out whole;
      members = λ p one.
          let within = numbers_in 1 (suc c) p (each_once_in (x ∷ []) (range_with_len 1 (suc c)) p (subst (IsOneOf p) (sym whole) one)) in
          (within.0, omega (arith, within.1));
      all = λ p least most. subst (IsOneOf p) whole (in_each_once (x ∷ []) (range_with_len 1 (suc c)) p (ne_free p most) (in_numbers 1 (suc c) p least (omega (arith, most))));
    } where
      ne_free : (p : ℕ) → p ≤ suc c → has (x ∷ []) p ≡ false
      ne_free p most = rw (ne_eqb x p (λ e. omega (arith, e, past, most))) refl

-- Rules at any node

next_descends : (o : Plan) (p : ℕ) (ps : List ℕ) → (o.node.me == 1) ≡ false → o.node.soft.tries ≡ p ∷ ps → is_member o.node ≡ false → o.node.kept.ancestors ≡ []
    → next_try o ≡ descend (with_soft o (record o.node.soft { tries = ps })) p
next_descends o p ps other tries outside none = rw (other, tries, outside, none) refl

next_waits : (o : Plan) → (o.node.me == 1) ≡ false → o.node.soft.tries ≡ [] → is_member o.node ≡ false → next_try o ≡ waits_awhile o
next_waits o other tries outside = rw (other, tries, outside) refl

next_asks : (o : Plan) (p : ℕ) (ps : List ℕ) → (o.node.me == 1) ≡ false → o.node.soft.tries ≡ p ∷ ps → is_member o.node ≡ true → next_try o ≡ ask (with_soft o (record o.node.soft { tries = ps })) p
next_asks o p ps other tries inside = rw (other, tries, inside) refl

next_acts : (o : Plan) → (o.node.me == 1) ≡ false → o.node.soft.tries ≡ [] → is_member o.node ≡ true → o.node.soft.silent ≡ true → next_try o ≡ act o
next_acts o other tries inside silent = rw (other, tries, inside, silent) refl

asks_on : (o : Plan) (p : ℕ) → (o.node.kept.seq == number_end) ≡ false → ask o p ≡ send_ask (searching (write o (records.Ask (o.node.kept.seq + 1) p)) None) p
asks_on o p room = rw room refl

line_kept : (o : Plan) (p : ℕ) (s : Stand) → is_member o.node ≡ false → keeps_line o p s ≡ ignored o
line_kept o p s outside = rw outside refl

checks_when_due : (o : Plan) → is_due o.node.soft.due o.node.soft.clock ≡ true → checks_if_due o ≡ checks_in_time o
checks_when_due o due = rw due refl

looks_up : (o : Plan) (p : ℕ) → is_member o.node ≡ false → o.node.soft.refused ≡ false → looks_round (Joined p) o ≡ send (searching o (Some Review)) p Look
looks_up o p outside calm = rw (outside, calm) refl

-- Nodes past the chain

module _ (h : Header) (m : ℕ) (x : ℕ) (some : 1 ≤ m) (within : m ≤ h.chain) (past : h.chain < x) where
  other : (x == 1) ≡ false
  other = ne_eqb x 1 (λ e. omega (arith, e, past, some, within))

  outside : nat_le x h.chain ≡ false
  outside = lt-leb x h.chain past

  self : (m == m) ≡ true
  self = eq-eqb m m refl

  -- a tick at which a node with no place begins a descent at the first chain member
  pub record Sets (g : Going) (t : ℕ) (n : Node) : Type 0 where
    pub first : ℕ
    pub going : Going
    pub members : AreMembers h.chain (first ∷ going.tries)
    pub all : (p : ℕ) → 1 ≤ p → p ≤ h.chain → IsOneOf p (first ∷ going.tries)
    pub gives : Gives n (Tick t) (looking_node h x first going) (letter x first Look ∷ [])

  pub leaf_begins : (t : ℕ) → Sets (record { clock = 0; due = None; tries = []; silent = false; checked = None }) t (new_node h x)
  leaf_begins t =
      let n : Node = new_node h x in
      let order : Tries x h.chain = tries_of x h.chain (omega (arith, some, within)) past in
      let o : Plan = set_tries (sets_due (at_time (begun n.control) t)) None in
      let goes : next_try o ≡ descend (with_soft o (record o.node.soft { tries = order.rest })) order.first = next_descends o order.first order.rest other order.is outside refl in
      record {
        first = order.first;
        going = record { clock = max 0 t; due = Some (max 0 t + 20 - x % 3); tries = order.rest; silent = true; checked = None };
        members = order.members;
        all = order.all;
        gives = record {
          node = ap (λ (p : Plan). (finished n (Tick t) (fetches p [])).node) goes;
          sends = ap (λ (p : Plan). (finished n (Tick t) (fetches p [])).sends) goes;
        };
      }

  pub leaf_begins_again : (g : Going) (t : ℕ) → is_due g.due (max g.clock t) ≡ true → Sets g t (idle_node h x g)
  leaf_begins_again g t due = by_due g.due due where
    by_due : (d : Option ℕ) → is_due d (max g.clock t) ≡ true → Sets (record g { due = d }) t (idle_node h x (record g { due = d }))
    by_due None due =
        let n : Node = idle_node h x (record g { due = None }) in
        let tries : Tries x h.chain = tries_of x h.chain (omega (arith, some, within)) past in
        let o : Plan = set_tries (sets_due (at_time (begun n.control) t)) None in
        let goes : next_try o ≡ descend (with_soft o (record o.node.soft { tries = tries.rest })) tries.first = next_descends o tries.first tries.rest other tries.is outside refl in
        record {
          first = tries.first;
          going = record { clock = max g.clock t; due = Some (max g.clock t + 20 - x % 3); tries = tries.rest; silent = true; checked = g.checked };
          members = tries.members;
          all = tries.all;
          gives = record {
            node = ap (λ (p : Plan). (finished n (Tick t) (fetches p [])).node) goes;
            sends = ap (λ (p : Plan). (finished n (Tick t) (fetches p [])).sends) goes;
          };
        }
    by_due (Some d) due =
        let n : Node = idle_node h x (record g { due = Some d }) in
        let tries : Tries x h.chain = tries_of x h.chain (omega (arith, some, within)) past in
        let o1 : Plan = at_time (begun n.control) t in
        let o : Plan = set_tries (sets_due (forgets_refusal (Some d) o1)) None in
        let goes : next_try o ≡ descend (with_soft o (record o.node.soft { tries = tries.rest })) tries.first = next_descends o tries.first tries.rest other tries.is outside refl in
        let checks : checks_if_due o1 ≡ next_try o = checks_when_due o1 due in
        record {
          first = tries.first;
          going = record { clock = max g.clock t; due = Some (max g.clock t + 20 - x % 3); tries = tries.rest; silent = true; checked = g.checked };
          members = tries.members;
          all = tries.all;
          gives = record {
            node = ap (λ (p : Plan). (finished n (Tick t) (fetches p [])).node) (checks ∙ goes);
            sends = ap (λ (p : Plan). (finished n (Tick t) (fetches p [])).sends) (checks ∙ goes);
          };
        }

  -- the next try of a descent that got no place at p
  pub record Tried (g : Going) (i : Input) (n : Node) : Type 0 where
    pub going : Going
    pub goes : ((g.tries ≡ []) × Gives n i (idle_node h x going) []) ⊎ ((p : ℕ) × (ps : List ℕ) × (g.tries ≡ p ∷ ps) × (going.tries ≡ ps) × Gives n i (looking_node h x p going) (letter x p Look ∷ []))

  -- a step that goes on with the next try
  tries_next : (g : Going) (p : ℕ) (i : Input) → plan (looking_node h x p g).control [] i ≡ next_try (searching (begun (looking_node h x p g).control) None) → Tried g i (looking_node h x p g)
  tries_next g p i is = by_tries g.tries is where
    by_tries : (ts : List ℕ) → plan (looking_node h x p (record g { tries = ts })).control [] i ≡ next_try (searching (begun (looking_node h x p (record g { tries = ts })).control) None)
        → Tried (record g { tries = ts }) i (looking_node h x p (record g { tries = ts }))
    by_tries [] is =
        let n : Node = looking_node h x p (record g { tries = [] }) in
        let o : Plan = searching (begun n.control) None in
        let goes : plan n.control [] i ≡ waits_awhile o = is ∙ next_waits o other refl outside in
        record {
          going = record { clock = g.clock; due = Some (earlier g.due (g.clock + 4)); tries = []; silent = g.silent; checked = g.checked };
          goes = inl (refl, record { node = ap (λ (q : Plan). (finished n i q).node) goes; sends = ap (λ (q : Plan). (finished n i q).sends) goes });
        }
    by_tries (t ∷ ts) is =
        let n : Node = looking_node h x p (record g { tries = t ∷ ts }) in
        let o : Plan = searching (begun n.control) None in
        let goes : plan n.control [] i ≡ descend (with_soft o (record o.node.soft { tries = ts })) t = is ∙ next_descends o t ts other refl outside refl in
        record {
          going = record { clock = g.clock; due = g.due; tries = ts; silent = g.silent; checked = g.checked };
          goes = inr (t, ts, refl, refl, record { node = ap (λ (q : Plan). (finished n i q).node) goes; sends = ap (λ (q : Plan). (finished n i q).sends) goes });
        }

  pub leaf_told : (g : Going) (p : ℕ) → Tried g (Unreachable p) (looking_node h x p g)
  leaf_told g p =
      let o : Plan = begun (looking_node h x p g).control in
      tries_next g p (Unreachable p) (ap (λ (b : Bool). if b then next_try (searching o None) else ignored o) (eq-eqb p p refl))

  pub leaf_told_other : (g : Going) (p q : ℕ) → (p ≡ q → ⊥) → Gives (looking_node h x p g) (Unreachable q) (looking_node h x p g) []
  leaf_told_other g p q apart =
      let n : Node = looking_node h x p g in
      let o : Plan = begun n.control in
      let goes : plan n.control [] (Unreachable q) ≡ ignored o = ap (λ (b : Bool). if b then next_try (searching o None) else ignored o) (ne_eqb p q apart) in
      record { node = ap (λ (k : Plan). (finished n (Unreachable q) k).node) goes; sends = ap (λ (k : Plan). (finished n (Unreachable q) k).sends) goes }

  pub leaf_idle_told : (g : Going) (q : ℕ) → Gives (idle_node h x g) (Unreachable q) (idle_node h x g) []
  leaf_idle_told g q = record { node = refl; sends = refl }

  pub leaf_asking_told : (g : Going) (q : ℕ) → (m ≡ q → ⊥) → Gives (asking_node h m x g) (Unreachable q) (asking_node h m x g) []
  leaf_asking_told g q apart =
      let n : Node = asking_node h m x g in
      let o : Plan = begun n.control in
      let goes : plan n.control [] (Unreachable q) ≡ ignored o = ap (λ (b : Bool). if b then next_try (lost o) else ignored o) (ne_eqb m q apart) in
      record { node = ap (λ (k : Plan). (finished n (Unreachable q) k).node) goes; sends = ap (λ (k : Plan). (finished n (Unreachable q) k).sends) goes }

  pub leaf_joined_told : (g : Going) (r : Rank) (review : Bool) (q : ℕ) → (m ≡ q → ⊥) → Gives (joined_node h m x g r (search_of review)) (Unreachable q) (joined_node h m x g r (search_of review)) []
  leaf_joined_told g r review q apart = by_review review where
    by_review : (b : Bool) → Gives (joined_node h m x g r (search_of b)) (Unreachable q) (joined_node h m x g r (search_of b)) []
    by_review true =
        let n : Node = joined_node h m x g r (Some Review) in
        let o : Plan = begun n.control in
        let goes : plan n.control [] (Unreachable q) ≡ ignored o = ap (λ (b : Bool). if b then round (lost o) (Some q) else ignored o) (ne_eqb m q apart) in
        record { node = ap (λ (k : Plan). (finished n (Unreachable q) k).node) goes; sends = ap (λ (k : Plan). (finished n (Unreachable q) k).sends) goes }
    by_review false =
        let n : Node = joined_node h m x g r None in
        let o : Plan = begun n.control in
        let goes : plan n.control [] (Unreachable q) ≡ ignored o = ap (λ (b : Bool). if b then round (lost o) (Some q) else ignored o) (ne_eqb m q apart) in
        record { node = ap (λ (k : Plan). (finished n (Unreachable q) k).node) goes; sends = ap (λ (k : Plan). (finished n (Unreachable q) k).sends) goes }

  -- A position of m

  -- m is in the tree: the descent ends with an ask
  pub leaf_asks : (g : Going) (r : ℕ) (cs : List Child) → Gives (looking_node h x m g) (Delivered (letter m x (LookIs true None r cs))) (asking_node h m x g) (letter x m (Ask 1 None) ∷ [])
  leaf_asks g r cs =
      let n : Node = looking_node h x m g in
      let i : Input = Delivered (letter m x (LookIs true None r cs)) in
      let o : Plan = begun n.control in
      let s : Stand = record { in_tree = true; parent = None; rate = r; children = cs } in
      let none : chosen (rate_to n.control m) (candidates n.control cs) ≡ None = none_chosen n.control (rate_to n.control m) h.nodes cs refl in
      let goes : plan n.control [] i ≡ ask o m = ap (λ (b : Bool). if b then descends o m s else keeps_line o m s) self ∙ ap (λ (c : Option ℕ). goes_down c o m) none in
      record { node = ap (λ (p : Plan). (finished n i p).node) goes; sends = ap (λ (p : Plan). (finished n i p).sends) goes }

  -- m is not in the tree
  pub leaf_passes : (g : Going) (r : ℕ) (cs : List Child) → Tried g (Delivered (letter m x (LookIs false None r cs))) (looking_node h x m g)
  leaf_passes g r cs =
      let o : Plan = begun (looking_node h x m g).control in
      let s : Stand = record { in_tree = false; parent = None; rate = r; children = cs } in
      tries_next g m (Delivered (letter m x (LookIs false None r cs))) (ap (λ (b : Bool). if b then descends o m s else keeps_line o m s) self)

  pub leaf_looking_seen : (g : Going) (p : ℕ) (b : Bool) (r : ℕ) (cs : List Child) → (p ≡ m → ⊥) → Gives (looking_node h x p g) (Delivered (letter m x (LookIs b None r cs))) (looking_node h x p g) []
  leaf_looking_seen g p b r cs apart =
      let n : Node = looking_node h x p g in
      let i : Input = Delivered (letter m x (LookIs b None r cs)) in
      let o : Plan = begun n.control in
      let s : Stand = record { in_tree = b; parent = None; rate = r; children = cs } in
      let goes : plan n.control [] i ≡ ignored o = ap (λ (c : Bool). if c then descends o m s else keeps_line o m s) (ne_eqb p m apart) ∙ line_kept o m s outside in
      record { node = ap (λ (k : Plan). (finished n i k).node) goes; sends = ap (λ (k : Plan). (finished n i k).sends) goes }

  pub leaf_idle_seen : (g : Going) (b : Bool) (r : ℕ) (cs : List Child) → Gives (idle_node h x g) (Delivered (letter m x (LookIs b None r cs))) (idle_node h x g) []
  leaf_idle_seen g b r cs =
      let n : Node = idle_node h x g in
      let i : Input = Delivered (letter m x (LookIs b None r cs)) in
      let goes : plan n.control [] i ≡ ignored (begun n.control) = line_kept (begun n.control) m (record { in_tree = b; parent = None; rate = r; children = cs }) outside in
      record { node = ap (λ (k : Plan). (finished n i k).node) goes; sends = ap (λ (k : Plan). (finished n i k).sends) goes }

  pub leaf_asking_seen : (g : Going) (b : Bool) (r : ℕ) (cs : List Child) → Gives (asking_node h m x g) (Delivered (letter m x (LookIs b None r cs))) (asking_node h m x g) []
  leaf_asking_seen g b r cs =
      let n : Node = asking_node h m x g in
      let i : Input = Delivered (letter m x (LookIs b None r cs)) in
      let goes : plan n.control [] i ≡ ignored (begun n.control) = line_kept (begun n.control) m (record { in_tree = b; parent = None; rate = r; children = cs }) outside in
      record { node = ap (λ (k : Plan). (finished n i k).node) goes; sends = ap (λ (k : Plan). (finished n i k).sends) goes }

  pub leaf_joined_seen : (g : Going) (own : Rank) (review : Bool) (b : Bool) (r : ℕ) (cs : List Child)
      → Gives (joined_node h m x g own (search_of review)) (Delivered (letter m x (LookIs b None r cs))) (joined_node h m x g own None) []
  leaf_joined_seen g own review b r cs = by_review review where
    by_review : (c : Bool) → Gives (joined_node h m x g own (search_of c)) (Delivered (letter m x (LookIs b None r cs))) (joined_node h m x g own None) []
    by_review true =
        let n : Node = joined_node h m x g own (Some Review) in
        let i : Input = Delivered (letter m x (LookIs b None r cs)) in
        let o : Plan = begun n.control in
        let s : Stand = record { in_tree = b; parent = None; rate = r; children = cs } in
        let none : chosen (rate_to n.control m) (candidates n.control cs) ≡ None = none_chosen n.control (rate_to n.control m) h.nodes cs refl in
        let goes : plan n.control [] i ≡ weighs (searching o None) m None =
        ap (λ (c : Bool). if c then reviews_place o m s else keeps_line o m s) self ∙ ap (λ (c : Option ℕ). weighs (searching o None) m (place_in (go_beneath c))) none in
        record { node = ap (λ (k : Plan). (finished n i k).node) goes; sends = ap (λ (k : Plan). (finished n i k).sends) goes }
    by_review false =
        let n : Node = joined_node h m x g own None in
        let i : Input = Delivered (letter m x (LookIs b None r cs)) in
        let goes : plan n.control [] i ≡ ignored (begun n.control) = line_kept (begun n.control) m (record { in_tree = b; parent = None; rate = r; children = cs }) outside in
        record { node = ap (λ (k : Plan). (finished n i k).node) goes; sends = ap (λ (k : Plan). (finished n i k).sends) goes }

  -- An acceptance, and an acknowledgement

  pub leaf_looking_yes : (g : Going) (p e : ℕ) → Gives (looking_node h x p g) (Delivered (letter m x (Yes 1 (top e) []))) (looking_node h x p g) []
  leaf_looking_yes g p e = record { node = refl; sends = refl }

  pub leaf_idle_yes : (g : Going) (e : ℕ) → Gives (idle_node h x g) (Delivered (letter m x (Yes 1 (top e) []))) (idle_node h x g) []
  leaf_idle_yes g e = record { node = refl; sends = refl }

  pub leaf_joins : (g : Going) (e : ℕ)
      → Gives (asking_node h m x g) (Delivered (letter m x (Yes 1 (top e) []))) (joined_node h m x (record g { due = None; tries = [] }) (beneath_of (top e)) None) []
  leaf_joins g e =
      let n : Node = asking_node h m x g in
      let i : Input = Delivered (letter m x (Yes 1 (top e) [])) in
      let o : Plan = begun n.control in
      let goes : plan n.control [] i ≡ joins o m (top e) [] = ap (λ (b : Bool). if b && 1 == 1 && nat_lt 0 1000 && true then joins o m (top e) [] else ignored o) self in
      record { node = ap (λ (k : Plan). (finished n i k).node) goes; sends = ap (λ (k : Plan). (finished n i k).sends) goes }

  pub leaf_joined_yes : (g : Going) (r : Rank) (s : Option Search) (e : ℕ) → Gives (joined_node h m x g r s) (Delivered (letter m x (Yes 1 (top e) []))) (joined_node h m x g r s) []
  leaf_joined_yes g r s e = record { node = refl; sends = refl }

  pub leaf_looking_ack : (g : Going) (p e : ℕ) → Gives (looking_node h x p g) (Delivered (letter m x (CheckAck 1 0 (top e) []))) (looking_node h x p g) []
  leaf_looking_ack g p e = record { node = refl; sends = refl }

  pub leaf_idle_ack : (g : Going) (e : ℕ) → Gives (idle_node h x g) (Delivered (letter m x (CheckAck 1 0 (top e) []))) (idle_node h x g) []
  leaf_idle_ack g e = record { node = refl; sends = refl }

  pub leaf_asking_ack : (g : Going) (e : ℕ) → Gives (asking_node h m x g) (Delivered (letter m x (CheckAck 1 0 (top e) []))) (asking_node h m x g) []
  leaf_asking_ack g e = record { node = refl; sends = refl }

  pub leaf_acked : (g : Going) (own : Rank) (s : Option Search) (e : ℕ)
      → (r : Rank) × Gives (joined_node h m x g own s) (Delivered (letter m x (CheckAck 1 0 (top e) []))) (joined_node h m x g r s) []
  leaf_acked g own s e =
      let found = by_test (is_better (Some own) (top e)) in
      let goes : plan n.control [] i ≡ took (is_better (Some own) (top e)) = ap (λ (b : Bool). if b && 1 == 1 then took (is_better (Some own) (top e)) else ignored (begun n.control)) self in
      (found.0, record { node = ap (λ (k : Plan). (finished n i k).node) goes ∙ found.1; sends = ap (λ (k : Plan). (finished n i k).sends) goes ∙ found.2 }) where
        n : Node
        n = joined_node h m x g own s

        i : Input
        i = Delivered (letter m x (CheckAck 1 0 (top e) []))

        took : Bool → Plan
        took b = takes_ancestors (if b then write (begun n.control) (records.Ranked (beneath_of (top e))) else begun n.control) (m ∷ [])

        same : same_ids (m ∷ []) (m ∷ []) ≡ true
        same = ap (λ (b : Bool). b && true) self

        by_test : (b : Bool) → (r : Rank) × ((finished n i (took b)).node ≡ joined_node h m x g r s) × ((finished n i (took b)).sends ≡ [])
        by_test true = (
          beneath_of (top e),
          ap (λ (c : Bool). (finished n i (if c then write (begun n.control) (records.Ranked (beneath_of (top e))) else write (write (begun n.control) (records.Ranked (beneath_of (top e)))) (records.Ancestors (m ∷ [])))).node) same,
          ap (λ (c : Bool). (finished n i (if c then write (begun n.control) (records.Ranked (beneath_of (top e))) else write (write (begun n.control) (records.Ranked (beneath_of (top e)))) (records.Ancestors (m ∷ [])))).sends) same,
        )
        by_test false = (
          own,
          ap (λ (c : Bool). (finished n i (if c then begun n.control else write (begun n.control) (records.Ancestors (m ∷ [])))).node) same,
          ap (λ (c : Bool). (finished n i (if c then begun n.control else write (begun n.control) (records.Ancestors (m ∷ [])))).sends) same,
        )

  -- a child's tick at which its check is due: it checks in, and looks at m
  pub record Checked (own : Rank) (n : Node) (t : ℕ) : Type 0 where
    pub going : Going
    pub rate : ℕ
    pub gives : Gives n (Tick t) (joined_node h m x going own (Some Review)) (letter x m (CheckIn 1 0 rate 0 0 []) ∷ letter x m Look ∷ letter x m (Fetch []) ∷ [])

  pub leaf_checks : (g : Going) (own : Rank) (s : Option Search) (t : ℕ) → is_due g.due (max g.clock t) ≡ true → Checked own (joined_node h m x g own s) t
  leaf_checks g own s t due = by_due g.due due where
    n : Option ℕ → Node
    n d = joined_node h m x (record g { due = d }) own s

    after : Going
    after = record { clock = max g.clock t; due = Some (max g.clock t + 20 - x % 3); tries = g.tries; silent = g.silent; checked = Some (max g.clock t) }

    by_due : (d : Option ℕ) → is_due d (max g.clock t) ≡ true → Checked own (joined_node h m x (record g { due = d }) own s) t
    by_due None due =
        let o : Plan = at_time (begun (n None).control) t in
        let goes : checks_if_due o ≡ send (searching (tick_checks o) (Some Review)) m Look = looks_up (tick_checks o) m outside refl in
        record {
          going = after;
          rate = rate_to (n None).control m;
          gives = record {
            node = ap (λ (p : Plan). (finished (n None) (Tick t) (fetches p [])).node) goes;
            sends = ap (λ (p : Plan). (finished (n None) (Tick t) (fetches p [])).sends) goes;
          };
        }
    by_due (Some d) due =
        let o : Plan = at_time (begun (n (Some d)).control) t in
        let o2 : Plan = forgets_refusal (Some d) o in
        let goes : checks_if_due o ≡ send (searching (tick_checks o2) (Some Review)) m Look = checks_when_due o due ∙ looks_up (tick_checks o2) m outside refl in
        record {
          going = after;
          rate = rate_to (n (Some d)).control m;
          gives = record {
            node = ap (λ (p : Plan). (finished (n (Some d)) (Tick t) (fetches p [])).node) goes;
            sends = ap (λ (p : Plan). (finished (n (Some d)) (Tick t) (fetches p [])).sends) goes;
          };
        }

-- The least chain member that is up

no_turn : (i : ℕ) → from_place i [] ≡ []
no_turn zero = refl
no_turn (suc i) = refl

-- a look at an earlier chain member
pub record LooksEarlier (m : ℕ) (s : Message) : Type 0 where
  pub earlier : ℕ
  pub least : 1 ≤ earlier
  pub most : earlier < m
  pub is : s ≡ letter m earlier Look

-- what was sent, and looks at these
looked_at : ℕ → List ℕ → List Message → List Message
looked_at m [] ss = ss
looked_at m (p ∷ ps) ss = looked_at m ps (ss ++ letter m p Look ∷ [])

looks_all : (ps : List ℕ) (o : Plan) → looks_at_each ps o ≡ record o { sends = looked_at o.node.me ps o.sends }
unfolding looked_at
looks_all [] o = refl
looks_all (p ∷ ps) o = looks_all ps (send o p Look)

all_looks : (m : ℕ) (ps : List ℕ) (ss : List Message) → AreEarlier m ps → AllByRecursion (LooksEarlier m) ss → AllByRecursion (LooksEarlier m) (looked_at m ps ss)
unfolding looked_at
all_looks m [] ss earlier all = all
all_looks m (p ∷ ps) ss earlier all =
    let here = earlier p (inl refl) in
    all_looks m ps (ss ++ letter m p Look ∷ []) (λ q one. earlier q (inr one))
    (all_append (LooksEarlier m) ss (letter m p Look ∷ []) all (record { earlier = p; least = here.0; most = here.1; is = refl }, tt))

-- the first member becomes the root at its first tick
pub record Reigns (h : Header) (m q : ℕ) (n : Node) (i : Input) : Type 0 where
  pub soft : Soft
  pub search : soft.search ≡ None
  pub gives : Gives n i (root_node h m q 1 [] soft (new_control h m).leases (new_control h m).rates) []

first_reigns : (h : Header) (t : ℕ) → Reigns h 1 0 (new_node h 1) (Tick t)
first_reigns h t = record {
  soft = record new_soft { clock = max 0 t; due = Some (max 0 t + 20 - 1 % 3); tries = ask_order 1 h.chain [] None; silent = true };
  search = refl;
  gives = record { node = refl; sends = refl };
}

pub root_begins : (h : Header) (m t : ℕ) → m ≡ 1 → Reigns h m 0 (new_node h m) (Tick t)
root_begins h m t e = subst (λ (z : ℕ). Reigns h z 0 (new_node h z) (Tick t)) (sym e) (first_reigns h t)

module _ (h : Header) (m : ℕ) (some : 1 ≤ m) (within : m ≤ h.chain) where
  inside : nat_le m h.chain ≡ true
  inside = le-leb m h.chain within

  alike : (m == m) ≡ true
  alike = eq-eqb m m refl

  -- another member begins to ask the earlier ones
  pub record Rises (n : Node) (t : ℕ) : Type 0 where
    pub first : ℕ
    pub going : Going
    pub silent : going.silent ≡ true
    pub earlier : AreEarlier m (first ∷ going.tries)
    pub few : length going.tries ≤ m
    pub gives : Gives n (Tick t) (rising_node h m 1 first going) (letter m first (Ask 1 None) ∷ [])

  pub root_rises : (t : ℕ) → 2 ≤ m → Rises (new_node h m) t
  root_rises t more =
      let n : Node = new_node h m in
      let order : Order m h.chain = member_order m h.chain more within in
      let o : Plan = set_tries (sets_due (at_time (begun n.control) t)) None in
      let goes : next_try o ≡ ask (with_soft o (record o.node.soft { tries = order.rest })) order.first =
      next_asks o order.first order.rest (ne_eqb m 1 (λ e. omega (arith, e, more))) order.is inside in
      record {
        first = order.first;
        going = record { clock = max 0 t; due = Some (max 0 t + 20 - m % 3); tries = order.rest; silent = true; checked = None };
        silent = refl;
        earlier = order.earlier;
        few = order.few;
        gives = record {
          node = ap (λ (p : Plan). (finished n (Tick t) (fetches p [])).node) goes;
          sends = ap (λ (p : Plan). (finished n (Tick t) (fetches p [])).sends) goes;
        };
      }

  -- it goes on where an earlier one is down, and becomes the root when there is none left
  pub record Asked (q p p2 : ℕ) (g : Going) (ps : List ℕ) : Type 0 where
    pub going : Going
    pub tries : going.tries ≡ ps
    pub silent : going.silent ≡ true
    pub gives : Gives (rising_node h m q p g) (Unreachable p) (rising_node h m (q + 1) p2 going) (letter m p2 (Ask (q + 1) None) ∷ [])

  pub root_goes_on : (q p : ℕ) (g : Going) → 2 ≤ m → g.silent ≡ true → (q == number_end) ≡ false
      → ((g.tries ≡ []) × Reigns h m q (rising_node h m q p g) (Unreachable p)) ⊎ ((p2 : ℕ) × (ps : List ℕ) × (g.tries ≡ p2 ∷ ps) × Asked q p p2 g ps)
  root_goes_on q p g more silent room = by_tries g.tries where
    by_tries : (ts : List ℕ)
        → ((ts ≡ []) × Reigns h m q (rising_node h m q p (record g { tries = ts })) (Unreachable p))
        ⊎ ((p2 : ℕ) × (ps : List ℕ) × (ts ≡ p2 ∷ ps) × Asked q p p2 (record g { tries = ts }) ps)
    by_tries [] =
        let n : Node = rising_node h m q p (record g { tries = [] }) in
        let i : Input = Unreachable p in
        let o : Plan = begun n.control in
        let goes : plan n.control [] i ≡ act (lost o) =
        ap (λ (b : Bool). if b then next_try (lost o) else not_seen None o p) (eq-eqb p p refl) ∙ next_acts (lost o) (ne_eqb m 1 (λ e. omega (arith, e, more))) refl inside silent in
        inl (
          refl,
          record {
            soft = soft_of (record g { tries = [] }) None;
            search = refl;
            gives = record { node = ap (λ (k : Plan). (finished n i k).node) goes; sends = ap (λ (k : Plan). (finished n i k).sends) goes };
          },
        )
    by_tries (p2 ∷ ps) =
        let n : Node = rising_node h m q p (record g { tries = p2 ∷ ps }) in
        let i : Input = Unreachable p in
        let o : Plan = begun n.control in
        let o2 : Plan = with_soft (lost o) (record (lost o).node.soft { tries = ps }) in
        let goes : plan n.control [] i ≡ send_ask (searching (write o2 (records.Ask (q + 1) p2)) None) p2 =
        ap (λ (b : Bool). if b then next_try (lost o) else not_seen None o p) (eq-eqb p p refl)
        ∙ (next_asks (lost o) p2 ps (ne_eqb m 1 (λ e. omega (arith, e, more))) refl inside ∙ asks_on o2 p2 room) in
        inr (
          p2,
          ps,
          refl,
          record {
            going = record g { tries = ps };
            tries = refl;
            silent = silent;
            gives = record { node = ap (λ (k : Plan). (finished n i k).node) goes; sends = ap (λ (k : Plan). (finished n i k).sends) goes };
          },
        )

  pub rising_told : (q p : ℕ) (g : Going) (p2 : ℕ) → (p ≡ p2 → ⊥) → Gives (rising_node h m q p g) (Unreachable p2) (rising_node h m q p g) []
  rising_told q p g p2 apart =
      let n : Node = rising_node h m q p g in
      let i : Input = Unreachable p2 in
      let o : Plan = begun n.control in
      let goes : plan n.control [] i ≡ ignored o = ap (λ (b : Bool). if b then next_try (lost o) else ignored o) (ne_eqb p p2 apart) in
      record { node = ap (λ (k : Plan). (finished n i k).node) goes; sends = ap (λ (k : Plan). (finished n i k).sends) goes }

  -- what it answers to a look
  pub record Shows (b : Bool) (n : Node) (x : ℕ) : Type 0 where
    pub children : List Child
    pub gives : Gives n (Delivered (letter x m Look)) n (letter m x (LookIs b None 0 children) ∷ [])

  pub rising_looked : (q p : ℕ) (g : Going) (x : ℕ) → Shows false (rising_node h m q p g) x
  rising_looked q p g x = record { children = children (rising_node h m q p g).control; gives = record { node = refl; sends = refl } }

  pub root_looked : (q e : ℕ) (t : List Cert) (s : Soft) (ends : List (Option ℕ)) (rates : List ℕ) (x : ℕ) → Shows true (root_node h m q e t s ends rates) x
  root_looked q e t s ends rates x = record { children = children (root_node h m q e t s ends rates).control; gives = record { node = refl; sends = refl } }

  pub root_told : (q e : ℕ) (t : List Cert) (s : Soft) (ends : List (Option ℕ)) (rates : List ℕ) (p : ℕ) → s.search ≡ None
      → Gives (root_node h m q e t s ends rates) (Unreachable p) (root_node h m q e t s ends rates) []
  root_told q e t s ends rates p search =
      let n : Node = root_node h m q e t s ends rates in
      let i : Input = Unreachable p in
      let o : Plan = begun n.control in
      let goes : plan n.control [] i ≡ ignored o = ap (λ (found : Option Search). not_seen found o p) search in
      record { node = ap (λ (k : Plan). (finished n i k).node) goes; sends = ap (λ (k : Plan). (finished n i k).sends) goes }

  pub root_fetched : (q e : ℕ) (t : List Cert) (s : Soft) (ends : List (Option ℕ)) (rates : List ℕ) (x : ℕ) (have : List Shelf)
      → Gives (root_node h m q e t s ends rates) (Delivered (letter x m (Fetch have))) (root_node h m q e t s ends rates) []
  root_fetched q e t s ends rates x have =
      let n : Node = root_node h m q e t s ends rates in
      let i : Input = Delivered (letter x m (Fetch have)) in
      let none : next_behind h.chunk have [] ≡ None = ap (first_behind have) (no_turn (turn h.chunk have [])) in
      record {
        node = ap (λ (l : Option Shelf). (finished n i (answers_fetch (begun n.control) x have l)).node) none;
        sends = ap (λ (l : Option Shelf). (finished n i (answers_fetch (begun n.control) x have l)).sends) none;
      }

  -- a tick at which no lease ends
  module _ (q e : ℕ) (t : List Cert) (ends : List (Option ℕ)) (rates : List ℕ) (now : ℕ) where
    -- the root in a step under way
    abbrev rooted : ℕ → Soft → List Record → List Message → Plan
    rooted e2 s2 rs ss = record { node = (root_node h m q e2 t s2 ends rates).control; records = rs; sends = ss; answer = Ok; wants = None; keeps = None; seals = false }

    record IsRooted (o : Plan) : Type 0 where
      epoch : ℕ
      soft : Soft
      written : List Record
      sent : List Message
      more : e ≤ epoch
      clock : soft.clock ≡ now
      search : soft.search ≡ None
      looks : AllByRecursion (LooksEarlier m) sent
      is : o ≡ rooted epoch soft written sent

    raised : (s2 : Soft) → s2.clock ≡ now → s2.search ≡ None → (b : Bool) → IsRooted (raises (rooted e s2 [] []) (if b then None else Some (e + 1)))
    raised s2 clock search true = record { epoch = e; soft = s2; written = []; sent = []; more = omega arith; clock = clock; search = search; looks = tt; is = refl }
    raised s2 clock search false = record { epoch = e + 1; soft = s2; written = records.Epoch (e + 1) ∷ []; sent = []; more = omega arith; clock = clock; search = search; looks = tt; is = refl }

    looks_on : (o : Plan) → IsRooted o → IsRooted (looks_round Acting o)
    looks_on o r = record {
      epoch = r.epoch;
      soft = r.soft;
      written = r.written;
      sent = looked_at m (below m) r.sent;
      more = r.more;
      clock = r.clock;
      search = r.search;
      looks = all_looks m (below m) r.sent (λ p one. below_in m p one) r.looks;
      is = ap (looks_round Acting) r.is
          ∙ (ap (λ (b : Bool). if b then looks_at_each (below m) (rooted r.epoch r.soft r.written r.sent) else rooted r.epoch r.soft r.written r.sent) inside
          ∙ looks_all (below m) (rooted r.epoch r.soft r.written r.sent));
    }

    checked : (s2 : Soft) → s2.clock ≡ now → s2.search ≡ None → (b : Bool) → IsRooted (if b then checks_in_time (rooted e s2 [] []) else reports_news (rooted e s2 [] []))
    checked s2 clock search false = record { epoch = e; soft = s2; written = []; sent = []; more = omega arith; clock = clock; search = search; looks = tt; is = refl }
    checked s2 clock search true = looks_on (tick_checks (forgets_refusal s2.due (rooted e s2 [] []))) (by_due s2.due) where
      by_due : (d : Option ℕ) → IsRooted (tick_checks (forgets_refusal d (rooted e s2 [] [])))
      by_due None = raised (sets_due (rooted e s2 [] [])).node.soft clock search (e == number_end)
      by_due (Some d) = raised (sets_due (forgets_refusal (Some d) (rooted e s2 [] []))).node.soft clock search (e == number_end)

    -- the root after a tick
    pub record HasTicked (s : Soft) (c : ℕ) : Type 0 where
      pub epoch : ℕ
      pub soft : Soft
      pub sent : List Message
      pub more : e ≤ epoch
      pub clock : soft.clock ≡ now
      pub search : soft.search ≡ None
      pub looks : AllByRecursion (LooksEarlier m) sent
      pub gives : Gives (root_node h m q e t s ends rates) (Tick c) (root_node h m q epoch t soft ends rates) sent

    pub root_ticks : (s : Soft) (c : ℕ) → max s.clock c ≡ now → s.search ≡ None → start_all t m ends (max s.clock c) ≡ ends → ended t m ends (max s.clock c) ≡ [] → HasTicked s c
    root_ticks s c clock search begins over =
        let n : Node = root_node h m q e t s ends rates in
        let o : Plan = at_time (begun n.control) c in
        let first : starts_leases o ≡ o = ap (with_leases o) begins in
        let second : ends_leases o ≡ o = ap (λ (xs : List ℕ). ends_each xs o) over in
        let both : ends_leases (starts_leases o) ≡ o = ap ends_leases first ∙ second in
        let done : IsRooted (checks_if_due o) = checked (record s { clock = max s.clock c }) clock search (is_due s.due (max s.clock c)) in
        let goes : checks_if_due (ends_leases (starts_leases o)) ≡ rooted done.epoch done.soft done.written done.sent = ap checks_if_due both ∙ done.is in
        record {
          epoch = done.epoch;
          soft = done.soft;
          sent = done.sent;
          more = done.more;
          clock = done.clock;
          search = done.search;
          looks = done.looks;
          gives = record {
            node = ap (λ (p : Plan). (finished n (Tick c) (fetches p [])).node) goes;
            sends = ap (λ (p : Plan). (finished n (Tick c) (fetches p [])).sends) goes;
          };
        }

  -- A check-in and an ask of a node with a row, and an ask of one without
  module _ (q e : ℕ) (t : List Cert) (s : Soft) (ends : List (Option ℕ)) (rates : List ℕ) (x : ℕ) where
    has_row : newest t x ≡ Some (birth x 1 m) → has_lease (root_node h m q e t s ends rates).control x 1 ≡ true
    has_row row = ap (λ (k : Option Cert). is_number (lease_number m k) 1) row ∙ ap (λ (b : Bool). is_number (if not false && b then Some 1 else None) 1) alike

    has_none : newest t x ≡ None → has_lease (root_node h m q e t s ends rates).control x 1 ≡ false
    has_none none = ap (λ (k : Option Cert). is_number (lease_number m k) 1) none

    pub root_checked_in : (rate : ℕ) → newest t x ≡ Some (birth x 1 m)
        → Gives (root_node h m q e t s ends rates) (Delivered (letter x m (CheckIn 1 0 rate 0 0 []))) (root_node h m q e t s (renew ends x s.clock) (put_at rates x rate))
        (letter m x (CheckAck 1 0 (top e) []) ∷ [])
    root_checked_in rate row =
        let n : Node = root_node h m q e t s ends rates in
        let i : Input = Delivered (letter x m (CheckIn 1 0 rate 0 0 [])) in
        let o : Plan = begun n.control in
        let old : is_news t (birth x 1 m) ≡ false = ap (λ (k : Option Cert). is_news_to k (birth x 1 m)) row in
        let goes : checked_in o x 1 0 rate 0 0 [] ≡ acknowledges o x 1 0 rate =
        ap (λ (b : Bool). if b then acknowledges (merges_all (life x 1 m 0 0 ∷ []) o) x 1 0 rate else sends_rejoin o x 1) (has_row row)
        ∙ ap (λ (b : Bool). acknowledges (if b then write o (records.Entry (birth x 1 m)) else o) x 1 0 rate) old in
        record { node = ap (λ (p : Plan). (finished n i p).node) goes; sends = ap (λ (p : Plan). (finished n i p).sends) goes }

    -- no refusal holds
    adopted : 1 ≤ e → (x ≡ m → ⊥) → chain_child t m h.chain x ≡ None → asked (begun (root_node h m q e t s ends rates).control) x 1 None ≡ adopts (begun (root_node h m q e t s ends rates).control) x 1
    adopted raised apart alone =
        let n : Node = root_node h m q e t s ends rates in
        let o : Plan = begun n.control in
        let before : nat_lt 0 e ≡ true = lt-ltb 0 e raised in
        let other : (x == m) ≡ false = ne_eqb x m apart in
        let calm : raises_over o x (rank_or_last None) ≡ o = rw before refl in
        let fits : adoption_refusal (host n.control x) x None ≡ None = rw (other, alone) refl in
        ap (λ (p : Plan). asked_at p x 1 None) calm ∙ ap (λ (why : Option Refusal). answers_ask why o x 1) fits

    pub root_asked_again : 1 ≤ e → (x ≡ m → ⊥) → chain_child t m h.chain x ≡ None → newest t x ≡ Some (birth x 1 m)
        → Gives (root_node h m q e t s ends rates) (Delivered (letter x m (Ask 1 None))) (root_node h m q e t s (renew ends x s.clock) rates) (letter m x (Yes 1 (top e) []) ∷ [])
    root_asked_again raised apart alone row =
        let n : Node = root_node h m q e t s ends rates in
        let i : Input = Delivered (letter x m (Ask 1 None)) in
        let o : Plan = begun n.control in
        let goes : asked o x 1 None ≡ grants o x 1 =
        adopted raised apart alone
        ∙ ap (λ (b : Bool). if b then grants o x 1 else if is_news t (birth x 1 m) then grants (write o (records.Entry (birth x 1 m))) x 1 else sends_rejoin o x 1) (has_row row) in
        record { node = ap (λ (p : Plan). (finished n i p).node) goes; sends = ap (λ (p : Plan). (finished n i p).sends) goes }

    pub root_asked : 1 ≤ e → (x ≡ m → ⊥) → chain_child t m h.chain x ≡ None → newest t x ≡ None
        → Gives (root_node h m q e t s ends rates) (Delivered (letter x m (Ask 1 None))) (root_node h m q e (put t (birth x 1 m)) s (renew ends x s.clock) rates) (letter m x (Yes 1 (top e) []) ∷ [])
    root_asked raised apart alone none =
        let n : Node = root_node h m q e t s ends rates in
        let i : Input = Delivered (letter x m (Ask 1 None)) in
        let o : Plan = begun n.control in
        let fresh : is_news t (birth x 1 m) ≡ true = ap (λ (k : Option Cert). is_news_to k (birth x 1 m)) none in
        let goes : asked o x 1 None ≡ grants (write o (records.Entry (birth x 1 m))) x 1 =
        adopted raised apart alone
        ∙ (ap (λ (b : Bool). if b then grants o x 1 else if is_news t (birth x 1 m) then grants (write o (records.Entry (birth x 1 m))) x 1 else sends_rejoin o x 1) (has_none none)
        ∙ ap (λ (b : Bool). if b then grants (write o (records.Entry (birth x 1 m))) x 1 else sends_rejoin o x 1) fresh) in
        let entered : merge t (birth x 1 m) ≡ put t (birth x 1 m) = ap (λ (b : Bool). if b then put t (birth x 1 m) else t) fresh in
        record {
          node = ap (λ (p : Plan). (finished n i p).node) goes ∙ ap (λ (u : List Cert). root_node h m q e u s (renew ends x s.clock) rates) entered;
          sends = ap (λ (p : Plan). (finished n i p).sends) goes;
        }
