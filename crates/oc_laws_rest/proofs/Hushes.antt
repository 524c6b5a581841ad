-- A child that keeps its place forgets the nodes that are down.
use Rattle.std.proofs.Common.{◌≡◌, ℕ, Bool, true, ◌&&◌, List, [], ◌∷◌, ◌++◌, refl, ap, sym, subst, ◌∙◌, ⊎_elim}
use Rattle.std.proofs.lemmas.Bool.{cases_Bool, and_parts, false_from_ne_true}
use Rattle.oc_model.specs.Chains.{IsUp, IsJoined}
use Rattle.oc_model.specs.ClaimsTree.{table_of, seq_of}
use Rattle.oc_model.specs.Node.{Header}
use Rattle.oc_model.specs.Plan.{is_member}
use Rattle.oc_model.specs.Ready.{HoldsLease}
use Rattle.oc_model.specs.World.{World, node, is_up}
use Rattle.oc_laws_step.proofs.Tables.{newest-subject}
use Rattle.oc_laws_tree.proofs.Known.{newest_among}
use Rattle.oc_laws_tree.proofs.Reached.{Reached}
use Rattle.oc_laws_tree.proofs.Rows.{lease_row}
use Rattle.oc_laws_tree.proofs.Spans.{IsId, told_id}
use Rattle.oc_laws_rest.specs.Rounds.{Round, after_round, after_rounds, is_round, are_later_rounds, is_quiet}
use Rattle.oc_laws_rest.specs.Rest.{JoinedAreLeased, IsUnmeasured, LeasesAreOfUp}
use Rattle.oc_laws_rest.proofs.Children.{rounds_more, later_more}
use Rattle.oc_laws_rest.proofs.Endings.{three_rounds}
use Rattle.oc_laws_rest.proofs.Forgets.{later_ups}
use Rattle.oc_laws_rest.proofs.Hush.{FromUp, IsDown, down_goes, down_hush}
use Rattle.oc_laws_rest.proofs.Leases.{joined_are_leased}
use Rattle.oc_laws_rest.proofs.Links.{me_of}
use Rattle.oc_laws_rest.proofs.Roots.{reached_rounds}

-- a child that keeps its place
pub child_forgets : (h : Header) (w : World) → Reached h w → (q r : Round) (rs : List Round) (a b c : Round) (y p : ℕ) → is_quiet w (q ∷ r ∷ rs ++ a ∷ b ∷ c ∷ []) ≡ true → IsUnmeasured (after_rounds w (q ∷ r ∷ rs)) y
    → IsUp (after_rounds w (q ∷ r ∷ rs)) y → IsJoined (after_rounds w (q ∷ r ∷ rs)) y p → LeasesAreOfUp (after_rounds w (q ∷ r ∷ rs ++ a ∷ b ∷ c ∷ [])) y
child_forgets h w reached q r rs a b c y p quiet plain up joined = by_rest (a ∷ b ∷ c ∷ []) refl quiet where
  by_rest : (more : List Round) → more ≡ a ∷ b ∷ c ∷ [] → is_quiet w (q ∷ r ∷ rs ++ more) ≡ true → LeasesAreOfUp (after_rounds w (q ∷ r ∷ rs ++ more)) y
  by_rest more three quiet =
      let v : World = after_rounds w (q ∷ r ∷ rs) in
      let first = and_parts (is_round 0 w q) (are_later_rounds (after_round w q) (r ∷ rs ++ more)) quiet in
      let rest = later_more (r ∷ rs) more (after_round w q) first.1 in
      let leased : JoinedAreLeased v = joined_are_leased h w reached q r rs (ap (λ (k : Bool). k && are_later_rounds (after_round w q) (r ∷ rs)) first.0 ∙ rest.0) in
      subst (λ (u : World). LeasesAreOfUp u y) (sym (rounds_more (q ∷ r ∷ rs) more w)) (at_end v (reached_rounds h (q ∷ r ∷ rs) w reached) leased up joined plain more three rest.1) where
        at_end : (v : World) → Reached h v → JoinedAreLeased v → IsUp v y → IsJoined v y p → IsUnmeasured v y → (ls : List Round) → ls ≡ a ∷ b ∷ c ∷ [] → are_later_rounds v ls ≡ true → LeasesAreOfUp (after_rounds v ls) y
        at_end v known leased up_v joined_v plain_v ls is later x s held =
            let end : World = after_rounds v ls in
            let row = lease_row (table_of end y) y x s held in
            let id : IsId h x = subst (IsId h) (newest-subject (table_of end y) x row.0 row.1.found) (told_id h end y row.0 (reached_rounds h ls v known) (newest_among (table_of end y) x row.0 row.1.found)) in
            ⊎_elim
            (λ up_x. later_ups ls v later x ∙ up_x)
            (λ off. absurd (three_rounds h y p (seq_of v y) (node v y).control.kept.measures plain_v.rates x id (IsDown h x) (λ u down w zs. FromUp h u w) (λ u down. FromUp h u) (down_goes h x) (down_hush h x y) v known up_v
            (me_of v y, false_from_ne_true (is_member (node v y).control) plain_v.past, joined_v, refl, refl, tt) leased (known, off) a b c (subst (λ (l : List Round). are_later_rounds v l ≡ true) is later) s
            (subst (λ (l : List Round). HoldsLease (after_rounds v l) y x s) is held)))
            (cases_Bool (is_up v x))
