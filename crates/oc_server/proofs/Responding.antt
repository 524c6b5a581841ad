-- Requests that are answered, or wait.
use Rattle.std.proofs.Common.{◌≡◌, ℕ, Option, List, [], refl, ap, ◌∙◌}
use Rattle.oc_link.specs.declared.call.Call.{Call}
use Rattle.oc_link.specs.declared.counts.LinkCounts.{LinkCounts}
use Rattle.oc_io.specs.DiskView.{DiskView}
use Rattle.oc_keep.specs.KeptView.{KeptView}
use Rattle.oc_server.specs.Looks.{LooksOnly}
use Rattle.oc_server.specs.Parts.{Does}
use Rattle.oc_deeds.specs.Parts.{nothing}
use Rattle.oc_server.specs.declared.server.Server.{Server}
use Rattle.oc_server.proofs.Lawful.{lawful_of, seat_of}
use Rattle.oc_server.proofs.Steps.{did_look}

-- what is made of four parts is the same where each of them is
pub parts_same : {A B C E R : Type 0} (f : A → B → C → E → R) {a p : A} {b q : B} {c r : C} {e t : E} → a ≡ p → b ≡ q → c ≡ r → e ≡ t → f a b c e ≡ f p q r t
parts_same f {a} {p} {b} {q} {c} {r} {e} {t} first second third fourth =
    ap (λ x. f x b c e) first ∙ ap (λ x. f p x c e) second ∙ ap (λ x. f p q x e) third ∙ ap (λ x. f p q r x) fourth

module _ {D L K : Type 0} (view : D → DiskView) (takes fails : K → List ℕ → K → Type 0) (faults : K → ℕ) (story : L → Option (List Call)) (counts : L → LinkCounts) where
  -- the files were looked at
  pub looked_on : (takes_nothing : (k : K) → takes k [] k) (old : Server D L K) (kept : KeptView D) → LooksOnly view old.kept kept
      → Does view takes faults story counts nothing old (record old { kept = kept })
  looked_on takes_nothing old kept looks = record {
    deeds = [];
    did = did_look view takes fails faults story counts takes_nothing old (record old { kept = kept }) refl refl refl refl refl refl refl refl refl
        (lawful_of old (record old { kept = kept }) (seat_of old.kept.node.control kept.node.control looks.same) (λ all. all) (λ all. all) (λ all. all)) looks;
    are = λ honest. refl;
  }
