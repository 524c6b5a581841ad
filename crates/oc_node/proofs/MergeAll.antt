-- Certificates that are merged, one after another.
use Rattle.std.proofs.Common.{◌≡◌, ℕ, ◌+◌, ◌<◌, List, length, drop, get_or, ap, sym, ◌∙◌}
use Rattle.oc_base.specs.declared.cert.Cert.{Cert}
use Rattle.oc_model.specs.Checking.{merges, merges_all}
use Rattle.oc_model.specs.Plan.{Plan}
use Rattle.oc_state.proofs.Lists.{drop_at}

-- the rest still completes the whole after one certificate was merged
pub merges_go_on : (cs : List Cert) (i : ℕ) (c : Cert) (o q whole : Plan) → i < length cs → c ≡ get_or cs i c → q ≡ merges o c → merges_all (drop i cs) o ≡ whole → merges_all (drop (i + 1) cs) q ≡ whole
merges_go_on cs i c o q whole within e made so =
    let here : merges_all (drop i cs) o ≡ merges_all (drop (i + 1) cs) (merges o c) = ap (λ (ds : List Cert). merges_all ds o) (drop_at cs i c within e) in
    rw made (sym here ∙ so)
