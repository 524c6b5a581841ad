-- Rules that go by the mode and the search, as choices by tests.
use Rattle.std.proofs.Common.{◌≡◌, ℕ, Bool, true, false, ◌&&◌, ◌==◌, if◌then◌else◌, Option, Some, None, refl}
use Rattle.oc_base.specs.declared.cert.Cert.{Cert}
use Rattle.oc_base.specs.declared.rank.Rank.{Rank}
use Rattle.oc_base.specs.Rank.{beneath_of}
use Rattle.oc_model.specs.declared.mode.Mode.{Mode}
use Rattle.oc_model.specs.declared.mode.Mode.TheVariants as modes
use Rattle.oc_model.specs.declared.soft.Search.{Search}
use Rattle.oc_model.specs.declared.soft.Search.TheVariants as searches
use Rattle.oc_model.specs.declared.record.Record.TheVariants as records
use Rattle.oc_model.specs.Adoption.{is_better}
use Rattle.oc_model.specs.Checking.{is_joined_to, dies, merges, takes_rank}
use Rattle.oc_model.specs.Looking.{Stand, descends, reviews_place, keeps_line, sees_as, sees}
use Rattle.oc_model.specs.Plan.{Plan, write}
use Rattle.oc_state.specs.Modes.{is_idle, is_descending, is_reviewing, better_rank}

-- a conjunction with a false fact is false
and_no : (b : Bool) → (b && false) ≡ false
and_no true = refl
and_no false = refl

-- a conjunction with a true fact is the other part
and_so : (b : Bool) → (b && true) ≡ b
and_so true = refl
and_so false = refl

-- Look

sees_as_is : (m : Mode) (s : Option Search) (o : Plan) (p : ℕ) (t : Stand) → sees_as m s o p t ≡ (if is_idle m && is_descending s p then descends o p t else if is_joined_to m p && is_reviewing s then reviews_place o p t else keeps_line o p t)
sees_as_is modes.Idle None o p t = refl
sees_as_is modes.Idle (Some (searches.Descend q)) o p t = refl
sees_as_is modes.Idle (Some searches.Review) o p t = refl
sees_as_is (modes.Asking q) s o p t = refl
sees_as_is (modes.Joined q) None o p t = rw (and_no (q == p))
sees_as_is (modes.Joined q) (Some (searches.Descend r)) o p t = rw (and_no (q == p))
sees_as_is (modes.Joined q) (Some searches.Review) o p t = rw (and_so (q == p))
sees_as_is modes.Acting s o p t = refl

pub sees_is : (o : Plan) (p : ℕ) (t : Stand) → sees o p t ≡ (if is_idle o.node.kept.mode && is_descending o.node.soft.search p then descends o p t else if is_joined_to o.node.kept.mode p && is_reviewing o.node.soft.search then reviews_place o p t else keeps_line o p t)
sees_is o p t = sees_as_is o.node.kept.mode o.node.soft.search o p t

-- Ranks

-- the effect of a told rank, by the better rank if there is one
takes_rank_some : (own : Option Rank) (told : Rank) (o : Plan) (r : Rank) → better_rank own told ≡ Some r → (if is_better own told then write o (records.Ranked (beneath_of told)) else o) ≡ write o (records.Ranked r)
takes_rank_some own told o r e = by_test (is_better own told) refl where
  by_test : (b : Bool) → is_better own told ≡ b → (if is_better own told then write o (records.Ranked (beneath_of told)) else o) ≡ write o (records.Ranked r)
  by_test true h = let some : better_rank own told ≡ Some (beneath_of told) = rw h in let same : beneath_of told ≡ r = cc in rw (h, same)
  by_test false h = let none : better_rank own told ≡ None = rw h in absurd cc

takes_rank_none : (own : Option Rank) (told : Rank) (o : Plan) → better_rank own told ≡ None → (if is_better own told then write o (records.Ranked (beneath_of told)) else o) ≡ o
takes_rank_none own told o e = by_test (is_better own told) refl where
  by_test : (b : Bool) → is_better own told ≡ b → (if is_better own told then write o (records.Ranked (beneath_of told)) else o) ≡ o
  by_test true h = let some : better_rank own told ≡ Some (beneath_of told) = rw h in absurd cc
  by_test false h = rw h

pub rank_taken : (o : Plan) (told r : Rank) → better_rank o.node.kept.rank told ≡ Some r → takes_rank o told ≡ write o (records.Ranked r)
rank_taken o told r e = takes_rank_some o.node.kept.rank told o r e

pub rank_left : (o : Plan) (told : Rank) → better_rank o.node.kept.rank told ≡ None → takes_rank o told ≡ o
rank_left o told e = takes_rank_none o.node.kept.rank told o e

-- Deaths

pub dies_by : (o : Plan) (was : Option Cert) (k : Cert) → was ≡ Some k → dies was o ≡ merges o (record k { dead = true })
dies_by o was k e = rw e

pub dies_not : (o : Plan) (was : Option Cert) → was ≡ None → dies was o ≡ o
dies_not o was e = rw e
