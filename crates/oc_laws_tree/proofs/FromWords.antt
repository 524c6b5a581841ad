-- The explanations of the listings follow from the laws on covered facts.
use Rattle.std.proofs.Common.{◌≡◌, ℕ, Some, List, ◌⊎◌, inl, inr, sym, subst, ⊎_elim}
use Rattle.std.proofs.lemmas.Bool.{false_from_ne_true}
use Rattle.oc_base.specs.declared.cert.Cert.{Cert}
use Rattle.oc_base.specs.Cert.{Outranks}
use Rattle.oc_model.specs.Certificates.{outranks, IsBelow, IsCovered}
use Rattle.oc_model.specs.ClaimsTree.{table_of, WaitsAt}
use Rattle.oc_model.specs.Table.{newest}
use Rattle.oc_model.specs.World.{World}
use Rattle.oc_laws_step.specs.Sound.{IsTable}
use Rattle.oc_laws_step.proofs.CertOrder.{outranks_fact, outranks_irreflexive, outranks_transitive}
use Rattle.oc_laws_step.proofs.Folds.{rows_found}
use Rattle.oc_laws_world.specs.Numbers.{HaveOnePeer, AskNumbersAreBelow}
use Rattle.oc_laws_world.proofs.Lifts.{AreTables}
use Rattle.oc_laws_world.proofs.Listed.{all_among}
use Rattle.oc_laws_tree.specs.Coverage.{ChildrenAreCovered}
use Rattle.oc_laws_tree.specs.Grants.{FactsAreGranted}
use Rattle.oc_laws_tree.specs.Sessions.{log_of}
use Rattle.oc_laws_tree.proofs.Known.{Knows}
use Rattle.oc_laws_tree.proofs.TreeHolds.{TreeHolds}

-- an ascending table knows each fact that it covers
knows_covered : (t : List Cert) (f : Cert) → IsTable t → IsCovered t f → Knows t f
knows_covered t f is (k, among, by) =
    let found : newest t k.subject ≡ Some k = all_among (λ j. newest t j.subject ≡ Some j) t k (rows_found t is) among in
    let about : k.subject ≡ f.subject = about_f by in
    let here : newest t f.subject ≡ Some k = subst (λ s. newest t s ≡ Some k) about found in
    rw here (false_from_ne_true (outranks f k) (λ more. by_case by (outranks_fact f k more))) where
      about_f : (k ≡ f) ⊎ IsBelow f k → k.subject ≡ f.subject
      about_f (inl e) = cc
      about_f (inr below) = sym (below.0)

      by_case : (k ≡ f) ⊎ IsBelow f k → Outranks f k → ⊥
      by_case (inl e) more = outranks_irreflexive f (subst (λ j. Outranks f j) e more)
      by_case (inr below) more = outranks_irreflexive f (outranks_transitive f k f more below.1)

-- a waiting fact that covers f is about the subject of f
waits_covered : (w : World) (x : ℕ) (f : Cert) → IsCovered (log_of w x).waiting f → WaitsAt w x f.subject
waits_covered w x f (k, among, by) = (k, among, about_f by) where
  about_f : (k ≡ f) ⊎ IsBelow f k → k.subject ≡ f.subject
  about_f (inl e) = cc
  about_f (inr below) = sym (below.0)

pub tree_of_words : (w : World) → AreTables w → HaveOnePeer w → AskNumbersAreBelow w → FactsAreGranted w → ChildrenAreCovered w → TreeHolds w
tree_of_words w tables peers asks granted covered = record {
  peers = peers;
  asks = asks;
  granted = λ f anywhere. knows_covered (table_of w f.parent) f (tables f.parent) (granted f anywhere);
  told = λ x y f joined among. ⊎_elim (λ known. inl (knows_covered (table_of w y) f (tables y) known)) (λ waits. inr (waits_covered w x f waits)) (covered x y f joined among);
}
