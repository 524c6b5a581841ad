-- Parents, ranks and refusals are read exactly where their texts are there.
use Rattle.std.proofs.Common.{◌≡◌, ℕ, zero, suc, ◌+◌, ◌^◌, ◌<◌, ◌≤◌, Bool, true, false, ◌==◌, Option, Some, None, List, [], ◌∷◌, Ok, refl, sym, ap, subst, ◌∙◌, arith}
use Rattle.std.specs.Int.{w32}
use Rattle.std.proofs.lemmas.Bool.{eqb-true}
use Rattle.std.proofs.lemmas.Bool.Decides.{nat_tests}
use Rattle.oc_base.specs.declared.rank.Rank.{Rank}
use Rattle.oc_base.specs.declared.refusal.Refusal.{Refusal}
use Rattle.oc_base.specs.declared.refusal.Refusal.TheVariants as refusals
use Rattle.oc_base.specs.Lawful.{IsNodeOrNone, IsRankOrNone, IsRefusal}
use Rattle.oc_base.specs.Spelling.{four, flag, rank_bytes}
use Rattle.oc_base.specs.Reading.{Reading, one_field, byte_at, id_at, flag_at}
use Rattle.oc_base.proofs.TextsAt.{IsBytes, Takes, takes_both, takes_first, takes_second, takes_nothing, bind_ok, tested, ok_is, wide32}
use Rattle.oc_base.proofs.FieldReads.{Reads, reads_within, reads_id, reads_byte, reads_flag}
use Rattle.oc_base.proofs.PairReads.{made_takes, made_again, reads_rank}
use Rattle.oc_wire.specs.Spelling.{parent_bytes, rank_or_none_bytes, why_code, why_fields, why_bytes}
use Rattle.oc_wire.specs.FieldReading.{node_or_none, parent_at, tagged_rank_at, rank_or_none_at, refusal_with, refusal_at}

is_not_zero : (n : ℕ) → (suc n == 0) ≡ false
is_not_zero n = grind (arith, nat_tests)

-- an id that is not 0 is a node's
some_node : (n : ℕ) → node_or_none (suc n) ≡ Some (suc n)
some_node n = rw (is_not_zero n) refl

-- a parent's number is its id, or 0
parent_is : (bytes : List ℕ) (at nodes id next : ℕ) → id ≤ nodes → Takes bytes at (four id) next → IsNodeOrNone nodes (node_or_none id) × Takes bytes at (parent_bytes (node_or_none id)) next
parent_is bytes at nodes zero next le t = (tt, t)
parent_is bytes at nodes (suc n) next le t = rw (some_node n) ((omega arith, le), t)

parent_again : (bytes : List ℕ) → (nodes : ℕ) → nodes < 2 ^ 32 → (at : ℕ) (parent : Option ℕ) (next : ℕ) → IsNodeOrNone nodes parent → Takes bytes at (parent_bytes parent) next → parent_at nodes bytes at ≡ Ok (parent, next)
unfolding parent_at
parent_again bytes nodes few at None next h t = made_again (reads_within w32 (2 ^ 32) wide32 0 nodes nodes bytes (λ few. few)) node_or_none few at 0 next (omega arith, omega arith) t
parent_again bytes nodes few at (Some zero) next h t = absurd (omega (arith, h.0))
parent_again bytes nodes few at (Some (suc n)) next h t =
    made_again (reads_within w32 (2 ^ 32) wide32 0 nodes nodes bytes (λ few. few)) node_or_none few at (suc n) next (omega arith, h.1) t ∙ ap (λ (parent : Option ℕ). Ok (parent, next)) (some_node n)

-- a parent, or none
pub reads_parent : (nodes : ℕ) (bytes : List ℕ) → Reads nodes bytes (parent_at nodes bytes) parent_bytes (IsNodeOrNone nodes)
unfolding parent_at
reads_parent nodes bytes =
    let r = reads_within w32 (2 ^ 32) wide32 0 nodes nodes bytes (λ few. few) in
    record {
      takes = λ fits at parent next e. made_takes r node_or_none (λ parent next. IsNodeOrNone nodes parent × Takes bytes at (parent_bytes parent) next) fits at parent next (λ id next h t. parent_is bytes at nodes id next h.1 t) e;
      again = λ few at parent next h t. parent_again bytes nodes few at parent next h t;
    }

tagged_takes : (nodes : ℕ) (bytes : List ℕ) → IsBytes bytes → (tag : Bool) (at : ℕ) (rank : Option Rank) (next : ℕ) → tagged_rank_at tag bytes at ≡ Ok (rank, next)
    → IsRankOrNone rank × ((mid : ℕ) → Takes bytes mid (flag tag) at → Takes bytes mid (rank_or_none_bytes rank) next)
tagged_takes nodes bytes fits false at rank next e =
    let none : Option Rank × ℕ = (None, at) in
    subst (λ (y : Option Rank × ℕ). IsRankOrNone y.0 × ((mid : ℕ) → Takes bytes mid (flag false) at → Takes bytes mid (rank_or_none_bytes y.0) y.1)) (ok_is none (rank, next) e) (tt, λ mid t. t)
tagged_takes nodes bytes fits true at rank next e =
    made_takes (reads_rank nodes bytes) (λ rank. Some rank) (λ rank next. IsRankOrNone rank × ((mid : ℕ) → Takes bytes mid (flag true) at → Takes bytes mid (rank_or_none_bytes rank) next)) fits at rank next
    (λ rank next h t. (h, λ mid u. takes_both bytes mid (1 ∷ []) at (rank_bytes rank) next u t)) e

rank_or_none_takes : (nodes : ℕ) (bytes : List ℕ) → IsBytes bytes → (at : ℕ) (rank : Option Rank) (next : ℕ) → rank_or_none_at bytes at ≡ Ok (rank, next) → IsRankOrNone rank × Takes bytes at (rank_or_none_bytes rank) next
unfolding rank_or_none_at
rank_or_none_takes nodes bytes fits at rank next e =
    let a = bind_ok (flag_at bytes at) (λ tag. tagged_rank_at tag.0 bytes tag.1) (rank, next) e in
    let t = tagged_takes nodes bytes fits a.0.0 a.0.1 rank next a.2 in
    (t.0, t.1 at ((reads_flag nodes bytes).takes fits at a.0.0 a.0.1 a.1).1)

rank_or_none_again : (nodes : ℕ) (bytes : List ℕ) → nodes < 2 ^ 32 → (at : ℕ) (rank : Option Rank) (next : ℕ) → IsRankOrNone rank → Takes bytes at (rank_or_none_bytes rank) next → rank_or_none_at bytes at ≡ Ok (rank, next)
unfolding rank_or_none_at
rank_or_none_again nodes bytes few at None next h t = rw ((reads_flag nodes bytes).again few at false next tt t) refl
rank_or_none_again nodes bytes few at (Some rank) next h t =
    let one = (reads_flag nodes bytes).again few at true (at + 1) tt (takes_first bytes at (1 ∷ []) (rank_bytes rank) next t) in
    let two = (reads_rank nodes bytes).again few (at + 1) rank next h (takes_second bytes at (1 ∷ []) (rank_bytes rank) next t) in
    rw (one, two) refl

-- a rank, or none
pub reads_rank_or_none : (nodes : ℕ) (bytes : List ℕ) → Reads nodes bytes (rank_or_none_at bytes) rank_or_none_bytes IsRankOrNone
reads_rank_or_none nodes bytes = record {
  takes = λ fits at rank next e. rank_or_none_takes nodes bytes fits at rank next e;
  again = λ few at rank next h t. rank_or_none_again nodes bytes few at rank next h t;
}

-- a lawful refusal of this code, with the node that it names there
pub record IsWhy (nodes code : ℕ) (bytes : List ℕ) (at : ℕ) (why : Refusal) (next : ℕ) : Type 0 where
  pub lawful : IsRefusal nodes why
  pub kind : why_code why ≡ code
  pub text : Takes bytes at (why_fields why) next

-- a refusal with nothing after its code
abbrev plain_at : Refusal → ℕ → Reading Refusal
plain_at why at = Ok (why, at)

-- a refusal that names no node
plain_why : (nodes code : ℕ) (bytes : List ℕ) (at : ℕ) (plain why : Refusal) (next : ℕ) → (code == why_code plain) ≡ true → IsRefusal nodes plain → why_fields plain ≡ [] → plain_at plain at ≡ Ok (why, next) → IsWhy nodes code bytes at why next
plain_why nodes code bytes at plain why next is lawful empty e =
    let made : Refusal × ℕ = (plain, at) in
    subst (λ (y : Refusal × ℕ). IsWhy nodes code bytes at y.0 y.1) (ok_is made (why, next) e) (record { lawful = lawful; kind = sym (eqb-true code (why_code plain) is); text = subst (λ (x : List ℕ). Takes bytes at x at) (sym empty) (takes_nothing bytes at) })

chain_why : (nodes code : ℕ) (bytes : List ℕ) → IsBytes bytes → (at : ℕ) (why : Refusal) (next : ℕ) → (code == 5) ≡ true → one_field (id_at nodes bytes) (λ k. refusals.Chain k) at ≡ Ok (why, next) → IsWhy nodes code bytes at why next
chain_why nodes code bytes fits at why next is e =
    made_takes (reads_id nodes bytes) (λ k. refusals.Chain k) (λ why next. IsWhy nodes code bytes at why next) fits at why next (λ k next h t. record { lawful = h; kind = sym (eqb-true code 5 is); text = t }) e

refusal_takes : (nodes code : ℕ) (bytes : List ℕ) → IsBytes bytes → (at : ℕ) (why : Refusal) (next : ℕ) → refusal_with code nodes bytes at ≡ Ok (why, next) → IsWhy nodes code bytes at why next
unfolding refusal_with
refusal_takes nodes code bytes fits at why next e =
    let Q = IsWhy nodes code bytes at why next in
    tested (code == 1) _ _ (why, next) Q e (λ is e. plain_why nodes code bytes at refusals.Own why next is tt refl e) (λ e.
    tested (code == 2) _ _ (why, next) Q e (λ is e. plain_why nodes code bytes at refusals.NotJoined why next is tt refl e) (λ e.
    tested (code == 3) _ _ (why, next) Q e (λ is e. plain_why nodes code bytes at refusals.Ancestor why next is tt refl e) (λ e.
    tested (code == 4) _ _ (why, next) Q e (λ is e. plain_why nodes code bytes at refusals.Depth why next is tt refl e) (λ e.
    tested (code == 5) _ _ (why, next) Q e (λ is e. chain_why nodes code bytes fits at why next is e) (λ e.
    tested (code == 6) _ _ (why, next) Q e (λ is e. plain_why nodes code bytes at refusals.Rank why next is tt refl e) (λ e. absurd cc))))))

same_place : (why : Refusal) (bytes : List ℕ) (at next : ℕ) → Takes bytes at [] next → plain_at why at ≡ Ok (why, next)
same_place why bytes at next t = ap (plain_at why) (omega (arith, t.moved))

refusal_again : (nodes : ℕ) (bytes : List ℕ) → nodes < 2 ^ 32 → (at : ℕ) (why : Refusal) (next : ℕ) → IsRefusal nodes why → Takes bytes at (why_fields why) next → refusal_with (why_code why) nodes bytes at ≡ Ok (why, next)
unfolding refusal_with
refusal_again nodes bytes few at refusals.Own next h t = same_place refusals.Own bytes at next t
refusal_again nodes bytes few at refusals.NotJoined next h t = same_place refusals.NotJoined bytes at next t
refusal_again nodes bytes few at refusals.Ancestor next h t = same_place refusals.Ancestor bytes at next t
refusal_again nodes bytes few at refusals.Depth next h t = same_place refusals.Depth bytes at next t
refusal_again nodes bytes few at (refusals.Chain k) next h t = made_again (reads_id nodes bytes) (λ k. refusals.Chain k) few at k next h t
refusal_again nodes bytes few at refusals.Rank next h t = same_place refusals.Rank bytes at next t

why_fits : (why : Refusal) → why_code why < 256
why_fits refusals.Own = omega arith
why_fits refusals.NotJoined = omega arith
why_fits refusals.Ancestor = omega arith
why_fits refusals.Depth = omega arith
why_fits (refusals.Chain k) = omega arith
why_fits refusals.Rank = omega arith

-- a refusal
pub reads_refusal : (nodes : ℕ) (bytes : List ℕ) → Reads nodes bytes (refusal_at nodes bytes) why_bytes (IsRefusal nodes)
unfolding refusal_at
reads_refusal nodes bytes = record {
  takes = λ fits at why next e.
      let a = bind_ok (byte_at bytes at) (λ code. refusal_with code.0 nodes bytes code.1) (why, next) e in
      let s = (reads_byte nodes bytes).takes fits at a.0.0 a.0.1 a.1 in
      let w = refusal_takes nodes a.0.0 bytes fits a.0.1 why next a.2 in
      let code = subst (λ (n : ℕ). Takes bytes at (n ∷ []) a.0.1) (sym w.kind) s.1 in
      (w.lawful, takes_both bytes at (why_code why ∷ []) a.0.1 (why_fields why) next code w.text);
  again = λ few at why next h t.
      let one = (reads_byte nodes bytes).again few at (why_code why) (at + 1) (why_fits why) (takes_first bytes at (why_code why ∷ []) (why_fields why) next t) in
      let two = refusal_again nodes bytes few (at + 1) why next h (takes_second bytes at (why_code why ∷ []) (why_fields why) next t) in
      rw one two;
}
