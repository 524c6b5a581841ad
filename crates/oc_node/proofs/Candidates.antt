-- The children that were told, one after another.
use Rattle.std.proofs.Common.{◌≡◌, ℕ, ◌+◌, ◌<◌, Bool, true, false, not, ◌==◌, List, [], ◌∷◌, ◌++◌, length, drop, get_or, refl, ap, sym, ◌∙◌, append_assoc}
use Rattle.oc_base.specs.declared.cert.Child.{Child}
use Rattle.oc_model.specs.declared.place.Candidate.{Candidate}
use Rattle.oc_model.specs.Looking.{candidates}
use Rattle.oc_model.specs.Node.{Control}
use Rattle.oc_state.proofs.Lists.{drop_at}

-- the first gives its candidate, and the rest the others
candidates_cons : (n : Control) (c : Child) (cs : List Child) → candidates n (c ∷ cs) ≡ candidates n (c ∷ []) ++ candidates n cs
candidates_cons n c cs = by_test (not (c.id == n.me)) refl where
  by_test : (b : Bool) → not (c.id == n.me) ≡ b → candidates n (c ∷ cs) ≡ candidates n (c ∷ []) ++ candidates n cs
  by_test true e = rw e
  by_test false e = rw e

-- the rest still completes the whole after the candidate of a child was added
pub candidates_go_on : (n : Control) (cs : List Child) (i : ℕ) (c : Child) (before after whole : List Candidate) → i < length cs → c ≡ get_or cs i c → after ≡ before ++ candidates n (c ∷ []) → before ++ candidates n (drop i cs) ≡ whole → after ++ candidates n (drop (i + 1) cs) ≡ whole
candidates_go_on n cs i c before after whole within e put so =
    let here : candidates n (drop i cs) ≡ candidates n (c ∷ []) ++ candidates n (drop (i + 1) cs) = ap (candidates n) (drop_at cs i c within e) ∙ candidates_cons n c (drop (i + 1) cs) in
    rw put (append_assoc before (candidates n (c ∷ [])) (candidates n (drop (i + 1) cs)) ∙ (sym (ap (λ (ls : List Candidate). before ++ ls) here) ∙ so))
