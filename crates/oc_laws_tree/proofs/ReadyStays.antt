-- A ready world stays ready while places and links stay.
use Rattle.std.proofs.Common.{◌≡◌, ℕ, Bool, true, false, ◌==◌, if◌then◌else◌, Option, Some, None, List, [], ◌∷◌, filter, refl, ap, sym, subst, ◌∙◌, ⊎_elim}
use Rattle.std.proofs.lemmas.Bool.{cases_eq}
use Rattle.oc_model.specs.declared.mode.Mode.{Mode}
use Rattle.oc_model.specs.declared.mode.Mode.TheVariants.{Idle, Asking, Joined, Acting}
use Rattle.oc_model.specs.Chains.{IsUp, IsJoined, IsRoot, IsTrueChain, chain_from, ending_at}
use Rattle.oc_model.specs.ClaimsTree.{seq_of}
use Rattle.oc_model.specs.Node.{Header}
use Rattle.oc_model.specs.Ready.{HoldsLease, IsLeased, IsReadyUnder}
use Rattle.oc_model.specs.Records.{is_joined}
use Rattle.oc_model.specs.World.{World, is_up, mode_of, ids, up_ids}
use Rattle.oc_model.proofs.Chains.{acting_alone, joined_once, chain_to-finds}
use Rattle.oc_model.specs.Numbers.{last_of}
use Rattle.oc_laws_tree.proofs.FiveSteps.{HasStayed}
use Rattle.oc_laws_tree.proofs.Held.{Stays, Steady, IsHeld}
use Rattle.oc_laws_tree.proofs.Reached.{Reached}
use Rattle.oc_laws_tree.proofs.Spans.{ids_reached}

-- a chain stays
pub chain_stays : (w v : World) → Steady w v → (x r : ℕ) (c : List ℕ) → IsTrueChain w x r c → IsTrueChain v x r c
chain_stays w v steady x r [] chain = absurd chain
chain_stays w v steady x r (a ∷ []) chain = (chain.0, chain.1, ((steady x).up ∙ chain.2.0, (steady x).acts chain.2.1))
chain_stays w v steady x r (a ∷ d ∷ ds) chain = (chain.0, (steady x).up ∙ chain.1, (steady x).joined d chain.2, chain_stays w v steady d r (d ∷ ds) chain.3)

-- the first node of a chain is up
pub chain_first_up : (w : World) (x r : ℕ) (c : List ℕ) → IsTrueChain w x r c → IsUp w x
chain_first_up w x r [] chain = absurd chain
chain_first_up w x r (a ∷ []) chain = chain.2.0
chain_first_up w x r (a ∷ d ∷ ds) chain = chain.1

-- the last node of a chain acts as root
pub chain_root : (w : World) (x r : ℕ) (c : List ℕ) → IsTrueChain w x r c → mode_of w r ≡ Acting
chain_root w x r [] chain = absurd chain
chain_root w x r (a ∷ []) chain = subst (λ (y : ℕ). mode_of w y ≡ Acting) chain.1 chain.2.1
chain_root w x r (a ∷ d ∷ ds) chain = chain_root w d r (d ∷ ds) chain.3

-- the parent of a node with a chain is up
pub chain_parent_up : (w : World) (x r p : ℕ) (c : List ℕ) → IsTrueChain w x r c → IsJoined w x p → IsUp w p
chain_parent_up w x r p [] chain joins = absurd chain
chain_parent_up w x r p (a ∷ []) chain joins = absurd (acting_alone w x p chain.2.1 joins)
chain_parent_up w x r p (a ∷ d ∷ ds) chain joins = subst (IsUp w) (joined_once w x d p chain.2 joins) (chain_first_up w d r (d ∷ ds) chain.3)

-- each link of a node that is up holds
abbrev pub AreHeld : World → Type 0
AreHeld w = (x p : ℕ) → IsUp w x → IsJoined w x p → IsHeld w p x

pub ready_held : (w : World) (r : ℕ) → IsReadyUnder w r → AreHeld w
ready_held w r ready x p up joins = record { host = host; up = up; joined = joins; lease = subst (λ (y : ℕ). HoldsLease w y x (seq_of w x)) (joined_once w x leased.0 p leased.1 joins) leased.2 } where
  other : x ≡ r → ⊥
  other same = acting_alone w x p (subst (IsRoot w) (sym same) ready.root).1 joins

  leased : IsLeased w x
  leased = ready.leases x up other

  host : IsUp w p
  host = let chain = ready.chains x up other in chain_parent_up w x r p chain.0 chain.1 joins

pub held_stay : (h : Header) (w v : World) → HasStayed h w v → AreHeld w → AreHeld v
held_stay h w v stayed held x p up joins = stayed.held p x (held x p (sym (stayed.steady x).up ∙ up) ((stayed.steady x).back p joins))

pub ready_stays : (h : Header) (w v : World) (r : ℕ) → HasStayed h w v → IsReadyUnder w r → IsReadyUnder v r
ready_stays h w v r stayed ready = record {
  root = ((stayed.steady r).up ∙ ready.root.0, (stayed.steady r).acts ready.root.1);
  alone = λ x root. ⊎_elim (λ same. same) (λ other.
      let leased : IsLeased w x = ready.leases x (sym (stayed.steady x).up ∙ root.0) other in
      absurd (acting_alone v x leased.0 root.1 ((stayed.steady x).joined leased.0 leased.1))) (cases_eq x r);
  chains = λ x up other. let chain = ready.chains x (sym (stayed.steady x).up ∙ up) other in (chain.0, chain_stays w v stayed.steady x r chain.0 chain.1);
  leases = λ x up other.
      let leased : IsLeased w x = ready.leases x (sym (stayed.steady x).up ∙ up) other in
      let joins : IsJoined v x leased.0 = (stayed.steady x).joined leased.0 leased.1 in
      let held : IsHeld v leased.0 x = held_stay h w v stayed (ready_held w r ready) x leased.0 up joins in
      (leased.0, joins, held.lease);
}

-- Nodes that are up, and nodes with a parent

-- tests that agree leave the same items of a list
pub filter_same : (test other : ℕ → Bool) (xs : List ℕ) → ((x : ℕ) → test x ≡ other x) → filter test xs ≡ filter other xs
filter_same test other [] same = refl
filter_same test other (x ∷ xs) same = by_test (test x) (other x) (same x) (filter_same test other xs same) where
  by_test : (a b : Bool) → a ≡ b → filter test xs ≡ filter other xs → (if a then x ∷ filter test xs else filter test xs) ≡ (if b then x ∷ filter other xs else filter other xs)
  by_test true true e rest = ap (λ (ys : List ℕ). x ∷ ys) rest
  by_test false false e rest = rest
  by_test true false e rest = absurd cc
  by_test false true e rest = absurd cc

pub up_ids_stay : (h : Header) (w v : World) → Reached h w → HasStayed h w v → up_ids v ≡ up_ids w
up_ids_stay h w v reached stayed =
    let same : ids v ≡ ids w = ids_reached h v stayed.reached ∙ sym (ids_reached h w reached) in
    ap (filter (is_up v)) same ∙ filter_same (is_up v) (is_up w) (ids w) (λ x. (stayed.steady x).up)

-- a node has a parent exactly where it had one
pub joined_stays : (w v : World) (x : ℕ) → Stays w v x → is_joined (mode_of v x) ≡ is_joined (mode_of w x)
joined_stays w v x stays = by_modes (mode_of w x) (mode_of v x) refl refl where
  by_modes : (m n : Mode) → mode_of w x ≡ m → mode_of v x ≡ n → is_joined n ≡ is_joined m
  by_modes (Joined p) n old new = ap is_joined (sym new ∙ stays.joined p old)
  by_modes m (Joined p) old new = sym (ap is_joined (sym old ∙ stays.back p new))
  by_modes Idle Idle old new = refl
  by_modes Idle (Asking q) old new = refl
  by_modes Idle Acting old new = refl
  by_modes (Asking p) Idle old new = refl
  by_modes (Asking p) (Asking q) old new = refl
  by_modes (Asking p) Acting old new = refl
  by_modes Acting Idle old new = refl
  by_modes Acting (Asking q) old new = refl
  by_modes Acting Acting old new = refl

-- Computed chains

pub chain_from-finds : (w : World) (x r : ℕ) (c : List ℕ) → IsTrueChain w x r c → chain_from w x ≡ Some c
chain_from-finds w x r c chain = by_found (chain_from w x) (chain_to-finds w x r c chain) where
  by_test : (a : ℕ) (rest : List ℕ) (b : Bool) → (if b then Some (a ∷ rest) else None) ≡ Some c → Some (a ∷ rest) ≡ Some c
  by_test a rest true e = e
  by_test a rest false e = absurd cc

  by_found : (found : Option (List ℕ)) → ending_at r found ≡ Some c → found ≡ Some c
  by_found None e = absurd cc
  by_found (Some []) e = absurd cc
  by_found (Some (a ∷ rest)) e = by_test a rest (last_of a rest == r) e
