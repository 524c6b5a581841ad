-- A ready world settles: the properties of the world after all six steps, and the number of their acts.
use Rattle.std.proofs.Common.{◌≡◌, ℕ, inl, inr, Option, Some, None, List, [], ◌∷◌, length, refl, ap, sym, subst, ◌∙◌, arith, length-append}
use Rattle.oc_base.specs.declared.cert.Cert.{Cert}
use Rattle.oc_model.specs.declared.event.Event.TheVariants.{Settle}
use Rattle.oc_model.specs.declared.word.Word.TheVariants.{Settled}
use Rattle.oc_model.specs.Chains.{IsUp, IsJoined, IsRoot, IsTrueChain, chain_to, first_link, true_line}
use Rattle.oc_model.specs.ClaimsTree.{table_of, IsTold, KnowsNumber, IsCountInformed}
use Rattle.oc_model.specs.NextWorld.{next_world}
use Rattle.oc_model.specs.Node.{Header}
use Rattle.oc_model.specs.Numbers.{IsAmong}
use Rattle.oc_model.specs.Ready.{IsReadyUnder, IsReady, IsSettled}
use Rattle.oc_model.specs.Settle.{first_five_steps, all_tell, settles}
use Rattle.oc_model.specs.Table.{newest}
use Rattle.oc_model.specs.World.{World, node}
use Rattle.oc_model.proofs.Chains.{chain_to-true}
use Rattle.oc_laws_tree.specs.Listing.{ListsExactly}
use Rattle.oc_laws_tree.proofs.Explained.{explained}
use Rattle.oc_laws_tree.proofs.Informed.{informed}
use Rattle.oc_laws_tree.proofs.SettledExact.{none_missing, settled_exact}
use Rattle.oc_laws_tree.proofs.Together.{counted_tree}
use Rattle.oc_laws_tree.specs.Settling.{CountsExactly, acts_to_settle, SettleSettles, SettleTells, SettleKeepsRoot, SettleLists, SettleTakes}
use Rattle.oc_laws_tree.proofs.Counted.{five_acts}
use Rattle.oc_laws_tree.proofs.FiveSteps.{FiveSteps, five_steps}
use Rattle.oc_laws_tree.proofs.Held.{all_hold, tree_of}
use Rattle.oc_laws_tree.proofs.Levels.{HasToldAll, step_six}
use Rattle.oc_laws_tree.proofs.ReadyStays.{AreHeld, ready_held, ready_stays}
use Rattle.oc_laws_tree.proofs.Reached.{Reached}
use Rattle.oc_laws_tree.proofs.Refused.{settle_does, settle_tells}

-- the effect of settle on a world that is ready under r
pub record HasSettled (h : Header) (w : World) (r : ℕ) : Type 0 where
  pub reached : Reached h (settles w).world
  pub root : IsRoot (settles w).world r
  pub settled : IsSettled (settles w).world
  pub told : IsTold (settles w).world
  pub acts : length (settles w).acts ≡ acts_to_settle w

pub has_settled : (h : Header) (w : World) (r : ℕ) → Reached h w → IsReadyUnder w r → HasSettled h w r
has_settled h w r reached ready =
    let five : FiveSteps h w = five_steps h w reached in
    let u : World = (first_five_steps w).world in
    let ready_then : IsReadyUnder u r = ready_stays h w u r five.calmed.stayed ready in
    let six : HasToldAll h u r ready_then (all_tell u) = step_six h u r ready_then five.calmed.stayed.reached five.calmed.told five.calmed.current in
    let v : World = (settles w).world in
    let ready_last : IsReadyUnder v r = ready_stays h u v r six.calmed.stayed ready_then in
    let held : AreHeld v = ready_held v r ready_last in
    record {
      reached = six.calmed.stayed.reached;
      root = ready_last.root;
      settled = record {
        ready = (r, ready_last);
        leases = λ y x s up leased. six.calmed.current y x s up leased;
        told = λ n p x up joins waits. subst (λ (ws : List Cert). IsAmong waits.0 ws) (six.told n (sym (six.calmed.stayed.steady n).up ∙ up)) waits.1;
      };
      told = λ x y up joins. (six.calmed.told y x (held x y up joins)).0;
      acts = omega (arith, length-append (first_five_steps w).acts (all_tell u).acts, five_acts h w reached (ready_held w r ready), six.acts);
    }

-- The listing

-- a node with a line is up and joined to the node that its line names
line_joined : (w : World) (r x p : ℕ) → true_line w r x ≡ Some p → IsUp w x × IsJoined w x p
line_joined w r x p line = by_found (chain_to w r x) refl line where
  by_found : (found : Option (List ℕ)) → chain_to w r x ≡ found → first_link found ≡ Some p → IsUp w x × IsJoined w x p
  by_found None e f = absurd cc
  by_found (Some []) e f = absurd cc
  by_found (Some (a ∷ [])) e f = absurd cc
  by_found (Some (a ∷ b ∷ bs)) e f =
      let chain : IsTrueChain w x r (a ∷ b ∷ bs) = chain_to-true w x r (a ∷ b ∷ bs) e in
      let same : b ≡ p = cc in
      (chain.1, subst (IsJoined w x) same chain.2)

pub lists_exactly : (h : Header) (w : World) → Reached h w → IsSettled w → ListsExactly w
lists_exactly h w reached settled = settled_exact w (explained w (tree_of h w reached)) settled

pub counts_exactly : (h : Header) (w : World) → Reached h w → IsSettled w → IsTold w → CountsExactly w
counts_exactly h w reached settled told r x p root line =
    by_cause (informed w (counted_tree w (all_hold h w reached)) r x p root (lists_exactly h w reached settled r x root ∙ line) line) where
      at : IsUp w x × IsJoined w x p
      at = line_joined w r x p line

      by_cause : IsCountInformed w r x p → (e : Cert) × (newest (table_of w r) x ≡ Some e) × (e.number ≡ (node w x).control.kept.number) × (e.clients ≡ (node w x).control.kept.clients)
      by_cause (inl right) = right
      by_cause (inr (inl missing)) = absurd (none_missing w settled r x missing)
      by_cause (inr (inr old)) =
          let known : KnowsNumber w p x = told x p at.0 at.1 in
          let both : Some known.0 ≡ Some old.0 = sym known.1 ∙ old.1 in
          let same : known.0 ≡ old.0 = cc in
          absurd (omega (arith, old.2, known.2, ap (λ (k : Cert). k.number) same))

-- The laws

-- a property of a ready world after settle holds after the event
of_settled : (P : World → Type 0) → ((h : Header) (w : World) (r : ℕ) → HasSettled h w r → P (settles w).world) → (h : Header) (w : World) → Reached h w → IsReady w → P (next_world w Settle)
of_settled P follows h w reached ready = subst P (sym (settle_does w ready)) (follows h w ready.0 (has_settled h w ready.0 reached ready.1))

pub settle_settles : (h : Header) (w : World) → Reached h w → SettleSettles w
settle_settles h w reached ready = of_settled IsSettled (λ g v r has. has.settled) h w reached ready

pub settle_told : (h : Header) (w : World) → Reached h w → SettleTells w
settle_told h w reached ready = of_settled IsTold (λ g v r has. has.told) h w reached ready

pub settle_keeps_root : (h : Header) (w : World) → Reached h w → SettleKeepsRoot w
settle_keeps_root h w reached r ready = subst (λ (v : World). IsRoot v r) (sym (settle_does w (r, ready))) (has_settled h w r reached ready).root

pub settle_lists : (h : Header) (w : World) → Reached h w → SettleLists w
settle_lists h w reached ready = of_settled (λ v. ListsExactly v × CountsExactly v)
    (λ g v r has. (lists_exactly g (settles v).world has.reached has.settled, counts_exactly g (settles v).world has.reached has.settled has.told)) h w reached ready

pub settle_takes : (h : Header) (w : World) → Reached h w → SettleTakes w
settle_takes h w reached ready = settle_tells w ready ∙ ap (λ (n : ℕ). Settled n) (has_settled h w ready.0 reached ready.1).acts
