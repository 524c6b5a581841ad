-- The results of the small decisions are within the ranges of their arguments.
use Rattle.std.proofs.Common.{◌≡◌, ℕ, zero, suc, ◌+◌, ◌-◌, ◌*◌, ◌<◌, ◌≤◌, min, Bool, true, false, not, ◌&&◌, ◌||◌, ◌==◌, nat_lt, nat_le, if◌then◌else◌, Option, Some, None, option_map, unwrap_or, List, [], ◌∷◌, ◌++◌, length, map, filter, find, take, set, get_or, refl, arith, option_to_list}
use Rattle.std.specs.List.{AllByRecursion, range_with_len}
use Rattle.std.specs.Option.{option_or}
use Rattle.std.proofs.lemmas.Bool.{cond_both, eqb-false}
use Rattle.oc_base.specs.declared.cert.Cert.{Cert}
use Rattle.oc_base.specs.declared.rank.Rank.{Rank}
use Rattle.oc_base.specs.declared.refusal.Refusal.{Refusal}
use Rattle.oc_base.specs.declared.refusal.Refusal.TheVariants as refusals
use Rattle.oc_model.specs.declared.place.Candidate.{Candidate}
use Rattle.oc_model.specs.declared.place.Review.{Review}
use Rattle.oc_model.specs.declared.place.Review.TheVariants as reviews
use Rattle.oc_model.specs.declared.reading.Reading.{Reading}
use Rattle.oc_model.specs.Adoption.{Host, rank_or_last, chain_refusal, rank_refusal, adoption_refusal, precedes_any}
use Rattle.oc_base.specs.declared.limits.TheConstants.{MAX_DEPTH}
use Rattle.oc_model.specs.Choice.{nearer_of, nearest, is_nearer, is_suitable, chosen, View, go_beneath, reviewed_with, reviewed, below, each_once, ask_order}
use Rattle.oc_base.specs.Lawful.{IsNode, AreNodes, IsLong, IsRate, IsRank, IsRankOrNone, IsCert, AreCerts, IsRefusal}
use Rattle.oc_model.specs.Measures.{reading_of}
use Rattle.oc_model.specs.Node.{no_reading}
use Rattle.oc_model.specs.Numbers.{has, number_end, raise, capped}
use Rattle.oc_model.specs.Table.{newest, put, is_news, merge, is_lease_of, leased_children}
use Rattle.oc_model.proofs.Lists.{all_weaker, all_append}
use Rattle.oc_laws_step.specs.LawfulNode.{IsReading}
use Rattle.oc_laws_step.specs.Sound.{AreAbove, IsTable}

-- Lists

-- a property of each item holds of each that passes the test
pub all_filter : {X : Type 0} (P : X → Type 0) (test : X → Bool) (xs : List X) → AllByRecursion P xs → AllByRecursion P (filter test xs)
all_filter P test [] all = tt
all_filter P test (x ∷ xs) all = cond_both (test x) (x ∷ filter test xs) (filter test xs) (AllByRecursion P) (λ _. (all.0, all_filter P test xs all.1)) (λ _. all_filter P test xs all.1)

pub all_map : {X Y : Type 0} (P : Y → Type 0) (f : X → Y) (xs : List X) → AllByRecursion (λ x. P (f x)) xs → AllByRecursion P (map f xs)
all_map P f [] all = tt
all_map P f (x ∷ xs) all = (all.0, all_map P f xs all.1)

pub all_take : {X : Type 0} (P : X → Type 0) (n : ℕ) (xs : List X) → AllByRecursion P xs → AllByRecursion P (take n xs)
all_take P zero xs all = tt
all_take P (suc n) [] all = tt
all_take P (suc n) (x ∷ xs) all = (all.0, all_take P n xs all.1)

pub all_set : {X : Type 0} (P : X → Type 0) (xs : List X) (i : ℕ) (x : X) → P x → AllByRecursion P xs → AllByRecursion P (set xs i x)
all_set P [] i x here all = tt
all_set P (y ∷ ys) zero x here all = (here, all.1)
all_set P (y ∷ ys) (suc i) x here all = (all.0, all_set P ys i x here all.1)

pub all_at : {X : Type 0} (P : X → Type 0) (xs : List X) (i : ℕ) (d : X) → P d → AllByRecursion P xs → P (get_or xs i d)
all_at P [] i d here all = here
all_at P (y ∷ ys) zero d here all = all.0
all_at P (y ∷ ys) (suc i) d here all = all_at P ys i d here all.1

-- a property of each item holds of the one that is found
abbrev pub IfFound : {X : Type 0} → (X → Type 0) → Option X → Type 0
IfFound P None = Unit {0}
IfFound P (Some x) = P x

pub all_find : {X : Type 0} (P : X → Type 0) (test : X → Bool) (xs : List X) → AllByRecursion P xs → IfFound P (find test xs)
all_find P test [] all = tt
all_find P test (x ∷ xs) all = cond_both (test x) (Some x) (find test xs) (IfFound P) (λ _. all.0) (λ _. all_find P test xs all.1)

-- Tables

pub cert_found : (nodes : ℕ) (t : List Cert) (x : ℕ) → AreCerts nodes t → IfFound (IsCert nodes) (newest t x)
cert_found nodes [] x all = tt
cert_found nodes (k ∷ ks) x all = cond_both (k.subject == x) (Some k) (newest ks x) (IfFound (IsCert nodes)) (λ _. all.0) (λ _. cert_found nodes ks x all.1)

certs_put : (nodes : ℕ) (t : List Cert) (c : Cert) → IsCert nodes c → AreCerts nodes t → AreCerts nodes (put t c)
certs_put nodes [] c here all = (here, tt)
certs_put nodes (k ∷ ks) c here all =
    cond_both (k.subject == c.subject) (c ∷ ks) (if nat_lt c.subject k.subject then c ∷ k ∷ ks else k ∷ put ks c) (AreCerts nodes)
    (λ _. (here, all.1))
    (λ _. cond_both (nat_lt c.subject k.subject) (c ∷ k ∷ ks) (k ∷ put ks c) (AreCerts nodes) (λ _. (here, all)) (λ _. (all.0, certs_put nodes ks c here all.1)))

pub certs_merge : (nodes : ℕ) (t : List Cert) (c : Cert) → IsCert nodes c → AreCerts nodes t → AreCerts nodes (merge t c)
certs_merge nodes t c here all = cond_both (is_news t c) (put t c) t (AreCerts nodes) (λ _. certs_put nodes t c here all) (λ _. all)

-- leased children are nodes
pub children_nodes : (nodes : ℕ) (t : List Cert) (y : ℕ) → AreCerts nodes t → AreNodes nodes (leased_children t y)
children_nodes nodes t y all =
    all_map (IsNode nodes) (λ k. k.subject) (filter (is_lease_of y) t)
    (all_filter (λ k. IsNode nodes k.subject) (is_lease_of y) t (all_weaker (IsCert nodes) (λ k. IsNode nodes k.subject) (λ k h. h.subject) t all))

-- no more rows than nodes: each is about another one
pub few_rows : (nodes : ℕ) (t : List Cert) (x : ℕ) → x ≤ nodes → AreAbove x t → IsTable t → AreCerts nodes t → x + length t ≤ nodes
few_rows nodes [] x most above up all = omega arith
few_rows nodes (k ∷ ks) x most above up all = let rest = few_rows nodes ks k.subject all.0.subject.1 up.0 up.1 all.1 in omega (arith, rest, above.0)

above_none : (nodes : ℕ) (t : List Cert) → AreCerts nodes t → AreAbove 0 t
above_none nodes t all = all_weaker (IsCert nodes) (λ k. 0 < k.subject) (λ k h. h.subject.0) t all

-- a table of nodes has no more rows than there are nodes
pub rows_few : (nodes : ℕ) (t : List Cert) → IsTable t → AreCerts nodes t → length t ≤ nodes
rows_few nodes t sorted all = let rows = few_rows nodes t 0 (omega arith) (above_none nodes t all) sorted all in omega (arith, rows)

-- Measures, ranks and numbers

pub reading_rate : (ms : List Reading) (x : ℕ) → AllByRecursion IsReading ms → IsRate (reading_of ms x).rate
reading_rate ms x all = let one : IsReading (reading_of ms x) = all_at IsReading ms (x - 1) no_reading (omega arith, omega arith) all in one.0

pub rank_lawful : (r : Option Rank) → IsRankOrNone r → IsRank (rank_or_last r)
rank_lawful None h = (omega arith, omega arith)
rank_lawful (Some r) h = h

-- the next number, if there is one, has 64 bits
pub raise_lawful : (e : ℕ) → IsLong e → IfFound IsLong (raise e)
raise_lawful e h = by_end (e == number_end) refl where
  by_end : (b : Bool) → e == number_end ≡ b → IfFound IsLong (if b then None else Some (e + 1))
  by_end true is = tt
  by_end false is = let other : e ≡ number_end → ⊥ = eqb-false e number_end is in omega (arith, h, other)

-- the next epoch, or the last one, is within its range
pub next_lawful : (e : ℕ) → IsLong e → IsLong (unwrap_or (raise e) e)
next_lawful e h = by_next (raise e) (raise_lawful e h) where
  by_next : (next : Option ℕ) → IfFound IsLong next → IsLong (unwrap_or next e)
  by_next None k = h
  by_next (Some n) k = k

pub capped_lawful : (n : ℕ) → IsLong (capped n)
capped_lawful n = omega arith

-- Places

nearer_one : (P : ℕ → Type 0) (c : Candidate) (d : Option Candidate) → P c.id → IfFound (λ e. P e.id) d → P (nearer_of c d).id
nearer_one P c None here there = here
nearer_one P c (Some d) here there = cond_both (is_nearer d c) d c (λ e. P e.id) (λ _. there) (λ _. here)

nearest_one : (P : ℕ → Type 0) (cs : List Candidate) → AllByRecursion (λ c. P c.id) cs → IfFound (λ c. P c.id) (nearest cs)
nearest_one P [] all = tt
nearest_one P (c ∷ cs) all = nearer_one P c (nearest cs) all.0 (nearest_one P cs all.1)

-- the chosen one is one of the candidates
pub chosen_one : (P : ℕ → Type 0) (direct : ℕ) (cs : List Candidate) → AllByRecursion (λ c. P c.id) cs → IfFound P (chosen direct cs)
chosen_one P direct cs all = of_id (nearest (filter (is_suitable direct) cs)) (nearest_one P (filter (is_suitable direct) cs) (all_filter (λ c. P c.id) (is_suitable direct) cs all)) where
  of_id : (c : Option Candidate) → IfFound (λ d. P d.id) c → IfFound P (option_map (λ d. d.id) c)
  of_id None h = h
  of_id (Some c) h = h

-- where a review leads
abbrev pub IfReviewed : (ℕ → Type 0) → Review → Type 0
IfReviewed P reviews.Stay = Unit {0}
IfReviewed P (reviews.Up g) = P g
IfReviewed P (reviews.Beneath k) = P k

beneath_one : (P : ℕ → Type 0) (k : Option ℕ) → IfFound P k → IfReviewed P (go_beneath k)
beneath_one P None h = tt
beneath_one P (Some k) h = h

pub reviewed_one : (P : ℕ → Type 0) (v : View) → IfFound (λ g. P (g.0)) v.grand → AllByRecursion (λ c. P c.id) v.siblings → IfReviewed P (reviewed v)
reviewed_one P v up all = by_grand v.grand up where
  by_grand : (g : Option (ℕ × ℕ)) → IfFound (λ h. P (h.0)) g → IfReviewed P (reviewed_with g v)
  by_grand None up = beneath_one P (chosen v.direct v.siblings) (chosen_one P v.direct v.siblings all)
  by_grand (Some g) up =
      cond_both (nat_lt (10 * min v.direct v.up) (9 * g.1)) (reviews.Up (g.0)) (go_beneath (chosen v.direct v.siblings)) (IfReviewed P)
      (λ _. up) (λ _. beneath_one P (chosen v.direct v.siblings) (chosen_one P v.direct v.siblings all))

-- The ask order

once_nodes : (nodes : ℕ) (out xs : List ℕ) → AreNodes nodes xs → AreNodes nodes (each_once out xs)
once_nodes nodes out [] all = tt
once_nodes nodes out (x ∷ xs) all =
    cond_both (has out x) (each_once out xs) (x ∷ each_once (x ∷ out) xs) (AreNodes nodes) (λ _. once_nodes nodes out xs all.1) (λ _. (all.0, once_nodes nodes (x ∷ out) xs all.1))

below_nodes : (nodes n : ℕ) → n ≤ nodes → AreNodes nodes (below n)
below_nodes nodes zero h = tt
below_nodes nodes (suc zero) h = tt
below_nodes nodes (suc (suc n)) h = ((omega arith, omega arith), below_nodes nodes (suc n) (omega arith))

range_nodes : (nodes b n : ℕ) → 1 ≤ b → b + n ≤ nodes + 1 → AreNodes nodes (range_with_len b n)
range_nodes nodes b zero low high = tt
range_nodes nodes b (suc n) low high = ((low, omega arith), range_nodes nodes (b + 1) n (omega arith) (omega arith))

-- all nodes that a node may ask are nodes
pub order_nodes : (nodes me chain : ℕ) (ancestors : List ℕ) (without : Option ℕ) → me ≤ nodes → chain ≤ nodes → AreNodes nodes ancestors → AreNodes nodes (ask_order me chain ancestors without)
order_nodes nodes me chain ancestors without mine line all =
    once_nodes nodes (me ∷ option_to_list without) (if nat_le me chain then below me else ancestors ++ range_with_len 1 chain)
    (cond_both (nat_le me chain) (below me) (ancestors ++ range_with_len 1 chain) (AreNodes nodes)
    (λ _. below_nodes nodes me mine)
    (λ _. all_append (IsNode nodes) ancestors (range_with_len 1 chain) all (range_nodes nodes 1 chain (omega arith) (omega arith))))

pub below_lawful : (nodes n : ℕ) → n ≤ nodes → AreNodes nodes (below n)
below_lawful nodes n h = below_nodes nodes n h

-- Refusals

pub refusal_lawful : (nodes : ℕ) (h : Host) (x : ℕ) (r : Option Rank) → IfFound (IsNode nodes) h.chain_child → IfFound (IsRefusal nodes) (adoption_refusal h x r)
refusal_lawful nodes h x r child =
    cond_both (x == h.me) (Some refusals.Own) _ (IfFound (IsRefusal nodes)) (λ _. tt)
    (λ _. cond_both (not h.in_tree) (Some refusals.NotJoined) _ (IfFound (IsRefusal nodes)) (λ _. tt)
    (λ _. cond_both (has h.ancestors x) (Some refusals.Ancestor) _ (IfFound (IsRefusal nodes)) (λ _. tt)
    (λ _. cond_both (nat_le MAX_DEPTH h.rank.depth) (Some refusals.Depth) _ (IfFound (IsRefusal nodes)) (λ _. tt)
    (λ _. or_lawful (chain_refusal h x h.chain_child) (rank_refusal h.rank r) (chain_lawful h.chain_child child) (rank_lawful_refusal r))))) where
      or_lawful : (a b : Option Refusal) → IfFound (IsRefusal nodes) a → IfFound (IsRefusal nodes) b → IfFound (IsRefusal nodes) (option_or a b)
      or_lawful None b ha hb = hb
      or_lawful (Some a) b ha hb = ha

      chain_lawful : (k : Option ℕ) → IfFound (IsNode nodes) k → IfFound (IsRefusal nodes) (chain_refusal h x k)
      chain_lawful None ok = tt
      chain_lawful (Some k) ok = cond_both (nat_le h.me h.chain && (nat_lt h.chain x || nat_lt k x)) (Some (refusals.Chain k)) None (IfFound (IsRefusal nodes)) (λ _. ok) (λ _. tt)

      rank_lawful_refusal : (r : Option Rank) → IfFound (IsRefusal nodes) (rank_refusal h.rank r)
      rank_lawful_refusal r = cond_both (precedes_any h.rank r) None (Some refusals.Rank) (IfFound (IsRefusal nodes)) (λ _. tt) (λ _. tt)
