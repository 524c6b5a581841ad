use Rattle.std.specs.Prelude.{ℕ, Bool, true, not, ◌&&◌, ◌||◌, ◌==◌, nat_lt, nat_le, if◌then◌else◌, Option, Some, None, List, find}
use Rattle.std.specs.Option.{option_or}
use Rattle.oc_base.specs.declared.cert.Cert.{Cert}
use Rattle.oc_base.specs.declared.rank.Rank.{Rank}
use Rattle.oc_base.specs.declared.refusal.Refusal.{Refusal}
use Rattle.oc_base.specs.declared.refusal.Refusal.TheVariants as refusals
use Rattle.oc_base.specs.Rank.{beneath_of}
use Rattle.oc_model.specs.Numbers.{has}
use Rattle.oc_model.specs.Table.{leased_children}
use Rattle.oc_base.specs.declared.limits.TheConstants.{MAX_DEPTH}

-- Ranks, and who may become whose parent.

-- whether rank a precedes rank b: its epoch is greater, or the epochs are the same and its depth is smaller
abbrev pub precedes : Rank → Rank → Bool
precedes a b = nat_lt b.epoch a.epoch || (a.epoch == b.epoch && nat_lt a.depth b.depth)

-- the rank, or for a node without one the last of all ranks, which has the greatest depth
abbrev pub rank_or_last : Option Rank → Rank
rank_or_last None = record { epoch = 0; depth = MAX_DEPTH }
rank_or_last (Some r) = r

-- whether rank a precedes the rank of a node; every rank precedes that of a node without one
abbrev pub precedes_any : Rank → Option Rank → Bool
precedes_any a None = true
precedes_any a (Some b) = precedes a b

-- whether the rank beneath the one that was told is better than the node's own
abbrev pub is_better : Option Rank → Rank → Bool
is_better own told = nat_lt told.depth MAX_DEPTH && precedes_any (beneath_of told) own

-- the rank that a node takes when its parent tells its own rank: never a worse one than before
abbrev pub take_rank : Option Rank → Rank → Option Rank
take_rank own told = if is_better own told then Some (beneath_of told) else own

-- the facts about a node that is asked to be the parent; `chain_child` is its least leased chain member other than the asker
pub record Host : Type 0 where
  pub me : ℕ
  pub in_tree : Bool
  pub rank : Rank
  pub ancestors : List ℕ
  pub chain : ℕ
  pub chain_child : Option ℕ

-- the least chain member, other than x, that has a lease of y
abbrev pub chain_child : List Cert → ℕ → ℕ → ℕ → Option ℕ
chain_child t y chain x = find (λ k. nat_le k chain && not (k == x)) (leased_children t y)

-- Rule 7, `Chain`: the chain is one line, so the asker is sent to the member below the host
abbrev pub chain_refusal : Host → ℕ → Option ℕ → Option Refusal
chain_refusal h x None = None
chain_refusal h x (Some k) = if nat_le h.me h.chain && (nat_lt h.chain x || nat_lt k x) then Some (refusals.Chain k) else None

-- Rule 7, `Rank`: a parent's rank precedes its child's, so that parent links never form a ring
abbrev pub rank_refusal : Rank → Option Rank → Option Refusal
rank_refusal own r = if precedes_any own r then None else Some refusals.Rank

-- Rule 7: the first reason, if any, why the host refuses to be the parent of x, which has this rank
abbrev pub adoption_refusal : Host → ℕ → Option Rank → Option Refusal
adoption_refusal h x r =
    if x == h.me then Some refusals.Own
    else if not h.in_tree then Some refusals.NotJoined
    else if has h.ancestors x then Some refusals.Ancestor
    else if nat_le MAX_DEPTH h.rank.depth then Some refusals.Depth
    else option_or (chain_refusal h x h.chain_child) (rank_refusal h.rank r)
