-- The first refusal that has a cause.
use Rattle.std.proofs.Common.{◌≡◌, ℕ, ◌+◌, ◌≤◌, Bool, true, false, not, ◌&&◌, ◌||◌, ◌==◌, nat_lt, nat_le, if◌then◌else◌, Option, Some, None, ◌⊎◌, inl, inr, refl, sym, subst, ◌∙◌, arith}
use Rattle.std.specs.Option.{option_or}
use Rattle.std.proofs.lemmas.Bool.Decides.{nat_tests}
use Rattle.oc_base.specs.declared.limits.TheConstants.{MAX_DEPTH}
use Rattle.oc_base.specs.declared.rank.Rank.{Rank}
use Rattle.oc_base.specs.declared.refusal.Refusal.{Refusal}
use Rattle.oc_base.specs.declared.refusal.Refusal.TheVariants.{Own, NotJoined, Ancestor, Depth, Chain, Rank as TooLow}
use Rattle.oc_base.specs.Rank.{Precedes}
use Rattle.oc_model.specs.Adoption.{Host, adoption_refusal, chain_refusal, rank_refusal, precedes}
use Rattle.oc_model.specs.Numbers.{has, IsAmong}
use Rattle.oc_place.specs.Causes.{HasCause, IsNotBefore, BelongsBeneath, place_of}
use Rattle.oc_place.proofs.Among.{has_among, among_has}

-- this refusal is the first with a cause from position n on, or none has a cause
pub record IsFirstFrom (h : Host) (x : ℕ) (r : Option Rank) (n : ℕ) (o : Option Refusal) : Type 0 where
  pub first : (why : Refusal) → o ≡ Some why → HasCause h x r why × ((other : Refusal) → n ≤ place_of other → HasCause h x r other → place_of why ≤ place_of other)
  pub none : o ≡ None → (other : Refusal) → n ≤ place_of other → ¬ HasCause h x r other

-- a position from n on is n itself or later
pub at_or_behind : (n m : ℕ) → n ≤ m → (m ≡ n) ⊎ (n + 1 ≤ m)
at_or_behind n m le = elim (m == n) as (λ b. (m == n) ≡ b → (m ≡ n) ⊎ (n + 1 ≤ m)) [ true ↦ λ e. inl (grind (arith, nat_tests)) | false ↦ λ e. inr (grind (arith, nat_tests)) ] refl

-- a test of the cause at one place, before the rest
pub place_before : (h : Host) (x : ℕ) (r : Option Rank) (n : ℕ) (t : Bool) (why : Refusal) (rest : Option Refusal) → place_of why ≡ n → (t ≡ true → HasCause h x r why) → (t ≡ false → (other : Refusal) → place_of other ≡ n → ¬ HasCause h x r other) → IsFirstFrom h x r (n + 1) rest → IsFirstFrom h x r n (if t then Some why else rest)
place_before h x r n true why rest at met unmet behind = record {
  first = λ found e. let same : why ≡ found = cc in subst (λ (w : Refusal). HasCause h x r w × ((other : Refusal) → n ≤ place_of other → HasCause h x r other → place_of w ≤ place_of other)) same (met refl, λ other le cause. subst (λ (m : ℕ). m ≤ place_of other) (sym at) le);
  none = λ e. absurd cc;
}
place_before h x r n false why rest at met unmet behind = record {
  first = λ found e. (let b = behind.first found e in b.0, λ other le cause. elim (at_or_behind n (place_of other) le) [ inl same ↦ absurd (unmet refl other same cause) | inr past ↦ (behind.first found e).1 other past cause ]);
  none = λ e other le cause. elim (at_or_behind n (place_of other) le) [ inl same ↦ unmet refl other same cause | inr past ↦ behind.none e other past cause ];
}

-- the cause at the first place: the asker is the host
at_own : (h : Host) (x : ℕ) (r : Option Rank) (why : Refusal) → place_of why ≡ 0 → HasCause h x r why → x ≡ h.me
at_own h x r Own at cause = cause
at_own h x r _ at cause = absurd (omega arith)

-- the cause at the second place: the host is not in the tree
at_not_joined : (h : Host) (x : ℕ) (r : Option Rank) (why : Refusal) → place_of why ≡ 1 → HasCause h x r why → h.in_tree ≡ false
at_not_joined h x r NotJoined at cause = cause
at_not_joined h x r _ at cause = absurd (omega arith)

-- the cause at the third place: the asker is an ancestor
at_ancestor : (h : Host) (x : ℕ) (r : Option Rank) (why : Refusal) → place_of why ≡ 2 → HasCause h x r why → IsAmong x h.ancestors
at_ancestor h x r Ancestor at cause = cause
at_ancestor h x r _ at cause = absurd (omega arith)

-- the cause at the fourth place: the host is too deep
at_depth : (h : Host) (x : ℕ) (r : Option Rank) (why : Refusal) → place_of why ≡ 3 → HasCause h x r why → MAX_DEPTH ≤ h.rank.depth
at_depth h x r Depth at cause = cause
at_depth h x r _ at cause = absurd (omega arith)

-- the cause at the fifth place: a member of the chain is beneath the host
at_chain : (h : Host) (x : ℕ) (r : Option Rank) (why : Refusal) → place_of why ≡ 4 → HasCause h x r why → (k : ℕ) × BelongsBeneath h x k
at_chain h x r (Chain k) at cause = (k, cause)
at_chain h x r _ at cause = absurd (omega arith)

-- the cause at the last place: the host's rank does not precede the asker's
at_rank : (h : Host) (x : ℕ) (r : Option Rank) (why : Refusal) → 5 ≤ place_of why → HasCause h x r why → (why ≡ TooLow) × IsNotBefore h.rank r
at_rank h x r TooLow at cause = (refl, cause)
at_rank h x r _ at cause = absurd (omega arith)

-- a rank that passes the test precedes
pub precedes_test : (a b : Rank) → precedes a b ≡ true → Precedes a b
precedes_test a b h = grind (arith, nat_tests)

-- a rank that fails the test does not precede
pub test_precedes : (a b : Rank) → precedes a b ≡ false → ¬ Precedes a b
test_precedes a b h = λ p. elim p [ inl e ↦ grind (arith, nat_tests) | inr e ↦ grind (arith, nat_tests) ]

-- a host that passes a test does not refuse
untaken : (t : Bool) (why : Refusal) → (if t then None else Some why) ≡ None → t ≡ true
untaken true why e = refl
untaken false why e = absurd cc

-- a host that refuses fails the test
taken : (t : Bool) (why found : Refusal) → (if t then None else Some why) ≡ Some found → (t ≡ false) × (found ≡ why)
taken true why found e = absurd cc
taken false why found e = (refl, cc)

-- a negation that is true is of a false fact
not_true : (b : Bool) → not b ≡ true → b ≡ false
not_true true e = absurd cc
not_true false e = refl

-- a negation that is false is of a true fact
not_false : (b : Bool) → not b ≡ false → b ≡ true
not_false true e = refl
not_false false e = absurd cc

-- nothing is refused by rank, and the rank of x is none or after the host's
rank_fits : (own : Rank) (r : Option Rank) → rank_refusal own r ≡ None → ¬ IsNotBefore own r
rank_fits own None e = λ f. f
rank_fits own (Some s) e = λ f. f (precedes_test own s (untaken (precedes own s) TooLow e))

-- x is refused by its rank, which the host's does not precede
rank_fails : (own : Rank) (r : Option Rank) (why : Refusal) → rank_refusal own r ≡ Some why → (why ≡ TooLow) × IsNotBefore own r
rank_fails own None why e = absurd cc
rank_fails own (Some s) why e = let f = taken (precedes own s) TooLow why e in (f.1, test_precedes own s f.0)

-- the last of the tests: the rank
pub from_rank : (h : Host) (x : ℕ) (r : Option Rank) → IsFirstFrom h x r 5 (rank_refusal h.rank r)
from_rank h x r = record {
  first = λ why e. (let f = rank_fails h.rank r why e in subst (λ (w : Refusal). HasCause h x r w) (sym f.0) f.1, λ other le cause. let f = rank_fails h.rank r why e in subst (λ (w : Refusal). place_of w ≤ place_of other) (sym f.0) le);
  none = λ e other le cause. rank_fits h.rank r e (at_rank h x r other le cause).1;
}

-- x belongs beneath the chain member k
beneath_test : (h : Host) (x k : ℕ) → (nat_le h.me h.chain && (nat_lt h.chain x || nat_lt k x)) ≡ true → h.chain_child ≡ Some k → BelongsBeneath h x k
beneath_test h x k t e = (e, grind (arith, nat_tests), grind (arith, nat_tests))

-- x belongs beneath no chain member, if the test fails
test_beneath : (h : Host) (x k : ℕ) → (nat_le h.me h.chain && (nat_lt h.chain x || nat_lt k x)) ≡ false → (j : ℕ) → h.chain_child ≡ Some k → ¬ BelongsBeneath h x j
test_beneath h x k t j e b = let same : k ≡ j = (let f : Some k ≡ Some j = sym e ∙ b.0 in cc) in let le = b.1 in elim b.2 [ inl past ↦ grind (arith, nat_tests) | inr past ↦ grind (arith, nat_tests) ]

-- a choice of one refusal before others is a test
or_by_test : (t : Bool) (why : Refusal) (rest : Option Refusal) → option_or (if t then Some why else None) rest ≡ (if t then Some why else rest)
or_by_test true why rest = refl
or_by_test false why rest = refl

-- the chain, by the chain member beneath the host
pub from_chain : (h : Host) (x : ℕ) (r : Option Rank) (p : Option ℕ) → h.chain_child ≡ p → IsFirstFrom h x r 4 (option_or (chain_refusal h x p) (rank_refusal h.rank r))
from_chain h x r None e =
    let b = from_rank h x r in
    let unmet : (other : Refusal) → place_of other ≡ 4 → ¬ HasCause h x r other = λ other at cause. (let f = at_chain h x r other at cause in let g : Some (f.0) ≡ None = sym f.1.0 ∙ e in absurd cc) in
    place_before h x r 4 false (Chain 0) (rank_refusal h.rank r) refl (λ t. absurd cc) (λ t. unmet) b
from_chain h x r (Some k) e =
    let t = nat_le h.me h.chain && (nat_lt h.chain x || nat_lt k x) in
    subst (IsFirstFrom h x r 4) (sym (or_by_test t (Chain k) (rank_refusal h.rank r)))
    (place_before h x r 4 t (Chain k) (rank_refusal h.rank r) refl (λ yes. beneath_test h x k yes e) (λ not other at cause. let f = at_chain h x r other at cause in test_beneath h x k not f.0 e f.1) (from_rank h x r))

-- all refusals, from the first on
pub from_all : (h : Host) (x : ℕ) (r : Option Rank) → IsFirstFrom h x r 0 (adoption_refusal h x r)
from_all h x r =
    place_before h x r 0 (x == h.me) Own _ refl (λ t. grind (arith, nat_tests)) (λ t other at cause. let e = at_own h x r other at cause in grind (arith, nat_tests))
    (place_before h x r 1 (not h.in_tree) NotJoined _ refl (λ t. not_true h.in_tree t) (λ t other at cause. let f : true ≡ false = sym (not_false h.in_tree t) ∙ at_not_joined h x r other at cause in absurd cc)
    (place_before h x r 2 (has h.ancestors x) Ancestor _ refl (λ t. has_among h.ancestors x t) (λ t other at cause. let e = among_has h.ancestors x (at_ancestor h x r other at cause) in absurd (let f : true ≡ false = sym e ∙ t in cc))
    (place_before h x r 3 (nat_le MAX_DEPTH h.rank.depth) Depth _ refl (λ t. grind (arith, nat_tests)) (λ t other at cause. let e = at_depth h x r other at cause in grind (arith, nat_tests))
    (from_chain h x r h.chain_child refl))))
