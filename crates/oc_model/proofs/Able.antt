-- The tests of heal (that a world is able, and that a node is in place) agree with their definitions.
use Rattle.std.proofs.Common.{◌≡◌, ℕ, ◌≤◌, true, nat_le, Option, Some, None, is_some, List, [], ◌∷◌, ◌↔◌, inl, refl, sym, leb-true}
use Rattle.std.specs.List.{list_all}
use Rattle.std.proofs.lemmas.Bool.{and_parts, le-leb}
use Rattle.oc_model.specs.Chains.{IsUp, chain_to}
use Rattle.oc_model.specs.Heal.{IsMember, up_members, leader, epoch_in, most_seq, most_epoch, IsAble, has_room, is_able, AreLeased, IsPlaced, are_leased, placed_by, is_placed}
use Rattle.oc_model.specs.Plan.{is_member}
use Rattle.oc_model.specs.Ready.{is_leased}
use Rattle.oc_model.specs.World.{World, node, is_up, ids, up_ids}
use Rattle.oc_model.proofs.Chains.{chain_to-finds, chain_to-true}
use Rattle.oc_model.specs.WorldBounds.{IsOneOf}
use Rattle.oc_model.proofs.Members.{all_test, test_all, of_filter, in_filter}
use Rattle.oc_model.proofs.Processes.{up_in}
use Rattle.oc_model.proofs.Ready.{leased_true, leased_test}
use Rattle.oc_model.specs.Numbers.{first_of}

-- a node that is up is among those that are
pub among_up : (w : World) (x : ℕ) → IsUp w x → IsOneOf x (up_ids w)
among_up w x up = in_filter (is_up w) (ids w) x up (up_in w.processes x up)

-- the first item of a list is in the list
first_in : (xs : List ℕ) (m : ℕ) → first_of xs ≡ Some m → IsOneOf m xs
first_in [] m e = absurd cc
first_in (x ∷ xs) m e = let same : x ≡ m = cc in inl (sym same)

-- a list with a member has a first
has_first : (xs : List ℕ) (m : ℕ) → IsOneOf m xs → is_some (first_of xs) ≡ true
has_first [] m one = absurd one
has_first (x ∷ xs) m one = refl

-- the leader is up, and a chain member
pub leader_is : (w : World) (m : ℕ) → leader w ≡ Some m → IsUp w m × IsMember w m
leader_is w m e =
    let here = of_filter (λ x. is_member (node w x).control) (up_ids w) m (first_in (up_members w) m e) in
    ((of_filter (is_up w) (ids w) m here.1).0, here.0)

-- the numbers of each node that is up are far enough from their ends, where the test says so
room_true : (w : World) → list_all (has_room w) (up_ids w) ≡ true → (x : ℕ) → IsUp w x → ((node w x).control.kept.seq ≤ most_seq) × (epoch_in (node w x).control.kept.rank ≤ most_epoch)
room_true w all x up =
    let parts = and_parts (nat_le (node w x).control.kept.seq most_seq) (nat_le (epoch_in (node w x).control.kept.rank) most_epoch) (all_test (has_room w) (up_ids w) all x (among_up w x up)) in
    (leb-true (node w x).control.kept.seq most_seq parts.0, leb-true (epoch_in (node w x).control.kept.rank) most_epoch parts.1)

-- a world that is tested as able is
able_true : (w : World) → is_able w ≡ true → IsAble w
able_true w e =
    let parts = and_parts (is_some (leader w)) (list_all (has_room w) (up_ids w)) e in
    record {
      member = by_leader (leader w) refl parts.0;
      seqs = λ x up. (room_true w parts.1 x up).0;
      epochs = λ x up. (room_true w parts.1 x up).1;
    } where
      by_leader : (found : Option ℕ) → leader w ≡ found → is_some found ≡ true → (m : ℕ) × IsUp w m × IsMember w m
      by_leader None f some = absurd cc
      by_leader (Some m) f some = let is = leader_is w m f in (m, is.0, is.1)

-- an able world passes the test
able_test : (w : World) → IsAble w → is_able w ≡ true
able_test w able =
    let m : ℕ = able.member.0 in
    let here : IsOneOf m (up_members w) = in_filter (λ x. is_member (node w x).control) (up_ids w) m able.member.2 (among_up w m able.member.1) in
    let all : list_all (has_room w) (up_ids w) ≡ true = test_all (has_room w) (up_ids w) (λ x one. room_test x (of_filter (is_up w) (ids w) x one).0) in
    rw (has_first (up_members w) m here) all where
      room_test : (x : ℕ) → IsUp w x → has_room w x ≡ true
      room_test x up = rw (le-leb (node w x).control.kept.seq most_seq (able.seqs x up), le-leb (epoch_in (node w x).control.kept.rank) most_epoch (able.epochs x up)) refl

-- the test of able is its definition
pub able_tested : (w : World) → (is_able w ≡ true) ↔ IsAble w
able_tested w = (able_true w, able_test w)

-- the leases of a chain
are_leased_true : (w : World) (c : List ℕ) → are_leased w c ≡ true → AreLeased w c
are_leased_true w [] e = tt
are_leased_true w (r ∷ []) e = tt
are_leased_true w (x ∷ y ∷ ys) e = let both = and_parts (is_leased w x) (are_leased w (y ∷ ys)) e in (leased_true w x both.0, are_leased_true w (y ∷ ys) both.1)

are_leased_test : (w : World) (c : List ℕ) → AreLeased w c → are_leased w c ≡ true
are_leased_test w [] all = refl
are_leased_test w (r ∷ []) all = refl
are_leased_test w (x ∷ y ∷ ys) all = rw (leased_test w x all.0) (are_leased_test w (y ∷ ys) all.1)

-- the test of placed is its definition
pub placed_tested : (w : World) (m x : ℕ) → (is_placed w m x ≡ true) ↔ IsPlaced w m x
placed_tested w m x = (λ e. by_found (chain_to w m x) refl e, λ placed. rw (chain_to-finds w x m placed.0 placed.1) (are_leased_test w placed.0 placed.2)) where
  by_found : (found : Option (List ℕ)) → chain_to w m x ≡ found → placed_by w found ≡ true → IsPlaced w m x
  by_found None f e = absurd cc
  by_found (Some c) f e = (c, chain_to-true w x m c f, are_leased_true w c e)
