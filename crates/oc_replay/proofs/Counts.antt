-- Sums over the nodes of a world, node by node, and how large they are.
use Rattle.std.proofs.Common.{◌≡◌, ℕ, zero, suc, ◌+◌, ◌-◌, ◌*◌, ◌≤◌, Bool, true, false, ◌==◌, List, [], ◌∷◌, length, sym, ap, ◌∙◌, arith}
use Rattle.std.specs.Int.{from_bool}
use Rattle.std.specs.List.{range_with_len, sum_by, AllByRecursion}
use Rattle.std.proofs.lemmas.Bool.{cond_both}
use Rattle.std.proofs.lemmas.List.Sums.{sum_by-cons}
use Rattle.oc_base.specs.declared.group.Group.{Group}
use Rattle.oc_base.specs.declared.limits.TheConstants.{MAX_GROUP_BYTES, MAX_NODES}
use Rattle.oc_base.specs.Groups.{shelf, shelf_of}
use Rattle.oc_base.specs.declared.shelf.Shelf.{Shelf}
use Rattle.oc_model.specs.World.{World, Process, node, process_in}
use Rattle.oc_model.specs.WorldBounds.{AreWithinLimits, IsShort, IsWithinLimits}
use Rattle.oc_base.specs.Shelves.{held_in_all}
use Rattle.oc_replay.specs.Summary.{FitsWith, plus, tally_at, tally_over}
use Rattle.oc_replay.specs.declared.summing.Tally.{Tally}

-- the numbers from i to n, the first of them apart
from_to : (i n : ℕ) → i ≤ n → range_with_len i (n + 1 - i) ≡ i ∷ range_with_len (i + 1) (n + 1 - (i + 1))
from_to i n within =
    let more : n + 1 - i ≡ suc (n - i) = omega arith in
    let rest : n - i ≡ n + 1 - (i + 1) = omega arith in
    ap (range_with_len i) more ∙ ap (λ k. i ∷ range_with_len (i + 1) k) rest

-- a sum over them
pub sum_step : (f : ℕ → ℕ) (i n : ℕ) → i ≤ n → sum_by f (range_with_len i (n + 1 - i)) ≡ f i + sum_by f (range_with_len (i + 1) (n + 1 - (i + 1)))
sum_step f i n within = ap (sum_by f) (from_to i n within) ∙ sum_by-cons f i (range_with_len (i + 1) (n + 1 - (i + 1)))

-- of n numbers, each at most b
pub sum_at_most : (f : ℕ → ℕ) (b : ℕ) → ((x : ℕ) → f x ≤ b) → (i n : ℕ) → sum_by f (range_with_len i n) ≤ n * b
sum_at_most f b each i zero = omega arith
sum_at_most f b each i (suc n) = omega (arith, sum_by-cons f i (range_with_len (i + 1) n), each i, sum_at_most f b each (i + 1) n)

-- one node counts once at most
pub one_at_most : (b : Bool) → from_bool b ≤ 1
one_at_most true = omega arith
one_at_most false = omega arith

-- short groups hold no more than their number allows
short_bytes : (ks : List Group) → AllByRecursion IsShort ks → held_in_all (shelf ks) ≤ length ks * MAX_GROUP_BYTES
short_bytes [] all = omega arith
short_bytes (k ∷ ks) all = omega (arith, sum_by-cons (λ (line : Shelf). line.held) (shelf_of k) (shelf ks), all.0, short_bytes ks all.1)

-- the greatest number of bytes that a node holds
abbrev pub MOST_HELD : ℕ
MOST_HELD = 70368744177664

-- groups within the limits hold no more
pub within_bytes : (ks : List Group) → AreWithinLimits ks → held_in_all (shelf ks) ≤ MOST_HELD
within_bytes ks within = omega (arith, within.1, short_bytes ks within.2)

-- each node of a world within the limits is, for every id
pub node_within : (ps : List Process) (x : ℕ) → AllByRecursion (λ p. AreWithinLimits p.node.groups) ps → AreWithinLimits (process_in ps x).node.groups
node_within [] x all = (tt, omega arith, tt)
node_within (p ∷ ps) x all = cond_both (p.node.control.me == x) p (process_in ps x) (λ q. AreWithinLimits q.node.groups) (λ _. all.0) (λ _. node_within ps x all.1)

-- What is counted of all nodes, while it is counted

-- the nodes from i to n
abbrev pub left : ℕ → ℕ → List ℕ
left i n = range_with_len i (n + 1 - i)

-- the counts so far and those of the rest are the whole
abbrev pub IsCounted : World → ℕ → ℕ → Tally → Type 0
IsCounted w i n t = plus t (tally_over w (left i n)) ≡ tally_over w (range_with_len 1 n)

abbrev none : Tally
none = record { up = 0; joined = 0; acting = 0; bytes = 0 }

-- the next node apart
tally_step : (w : World) (i n : ℕ) → i ≤ n → tally_over w (left i n) ≡ plus (tally_at w i) (tally_over w (left (i + 1) n))
tally_step w i n within = λ k. record {
  up = sum_step (λ x. (tally_at w x).up) i n within k;
  joined = sum_step (λ x. (tally_at w x).joined) i n within k;
  acting = sum_step (λ x. (tally_at w x).acting) i n within k;
  bytes = sum_step (λ x. (tally_at w x).bytes) i n within k;
}

plus_assoc : (s t u : Tally) → plus (plus s t) u ≡ plus s (plus t u)
plus_assoc s t u =
    let moved : (a b c : ℕ) → a + b + c ≡ a + (b + c) = λ a b c. omega arith in
    λ k. record { up = moved s.up t.up u.up k; joined = moved s.joined t.joined u.joined k; acting = moved s.acting t.acting u.acting k; bytes = moved s.bytes t.bytes u.bytes k }

-- one node more
pub counted_more : (w : World) (i n : ℕ) (t one : Tally) → i ≤ n → one ≡ tally_at w i → IsCounted w i n t → IsCounted w (i + 1) n (plus t one)
counted_more w i n t one within is counted =
    ap (λ o. plus (plus t o) (tally_over w (left (i + 1) n))) is
    ∙ plus_assoc t (tally_at w i) (tally_over w (left (i + 1) n))
    ∙ ap (plus t) (sym (tally_step w i n within))
    ∙ counted

-- part of a sum over all nodes
part_fits : (f : ℕ → ℕ) (b i n t : ℕ) → ((x : ℕ) → f x ≤ b) → i ≤ n → t + sum_by f (left i n) ≡ sum_by f (range_with_len 1 n) → t + f i ≤ n * b
part_fits f b i n t each within counted = omega (arith, counted, sum_step f i n within, sum_at_most f b each 1 n)

-- the next node fits
pub counted_fits : (w : World) (i n : ℕ) (t : Tally) → IsWithinLimits w → n ≤ MAX_NODES → i ≤ n → IsCounted w i n t → FitsWith t (tally_at w i)
counted_fits w i n t limits few within counted =
    let up = part_fits (λ x. (tally_at w x).up) 1 i n t.up (λ x. one_at_most _) within (ap (λ (s : Tally). s.up) counted) in
    let joined = part_fits (λ x. (tally_at w x).joined) 1 i n t.joined (λ x. one_at_most _) within (ap (λ (s : Tally). s.joined) counted) in
    let acting = part_fits (λ x. (tally_at w x).acting) 1 i n t.acting (λ x. one_at_most _) within (ap (λ (s : Tally). s.acting) counted) in
    let bytes = part_fits (λ x. (tally_at w x).bytes) MOST_HELD i n t.bytes (λ x. within_bytes (node w x).groups (node_within w.processes x limits)) within (ap (λ (s : Tally). s.bytes) counted) in
    (omega (arith, few, up), omega (arith, few, joined), omega (arith, few, acting), omega (arith, few, bytes))
