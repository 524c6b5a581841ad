-- Updates of lists, one after another.
use Rattle.std.proofs.Common.{◌≡◌, ℕ, ◌+◌, ◌<◌, Option, List, ◌∷◌, length, drop, get_or, ap, sym, subst, ◌∙◌}
use Rattle.std.specs.List.{AllByRecursion}
use Rattle.std.proofs.lemmas.List.{drop_more}
use Rattle.oc_base.specs.declared.cert.Cert.{Cert}
use Rattle.oc_state.specs.declared.list_update.ListUpdate.{ListUpdate}
use Rattle.oc_state.specs.ListUpdates.{IsListUpdate, leases_by, rates_by, counts_by, leases_after, rates_after, counts_after}

-- the rest from an update on is that update and the rest after it
updates_at : (us : List ListUpdate) (i : ℕ) (u : ListUpdate) → i < length us → u ≡ get_or us i u → drop i us ≡ u ∷ drop (i + 1) us
updates_at us i u within e = drop_more us i u within ∙ ap (λ (v : ListUpdate). v ∷ drop (i + 1) us) (sym e)

-- the update at hand is of a node, and so are the rest
pub update_here : (nodes : ℕ) (us : List ListUpdate) (i : ℕ) (u : ListUpdate) → i < length us → u ≡ get_or us i u → AllByRecursion (IsListUpdate nodes) (drop i us) → IsListUpdate nodes u
update_here nodes us i u within e all = (subst (λ (vs : List ListUpdate). AllByRecursion (IsListUpdate nodes) vs) (updates_at us i u within e) all).0

pub updates_left : (nodes : ℕ) (us : List ListUpdate) (i : ℕ) (u : ListUpdate) → i < length us → u ≡ get_or us i u → AllByRecursion (IsListUpdate nodes) (drop i us) → AllByRecursion (IsListUpdate nodes) (drop (i + 1) us)
updates_left nodes us i u within e all = (subst (λ (vs : List ListUpdate). AllByRecursion (IsListUpdate nodes) vs) (updates_at us i u within e) all).1

-- the effect of the rest still completes the whole after one update
pub leases_go_on : (t : List Cert) (me : ℕ) (us : List ListUpdate) (i : ℕ) (u : ListUpdate) (ends new whole : List (Option ℕ)) → i < length us → u ≡ get_or us i u → new ≡ leases_by t me ends u → leases_after t me ends (drop i us) ≡ whole → leases_after t me new (drop (i + 1) us) ≡ whole
leases_go_on t me us i u ends new whole within e did so =
    ap (λ (l : List (Option ℕ)). leases_after t me l (drop (i + 1) us)) did ∙ sym (ap (leases_after t me ends) (updates_at us i u within e)) ∙ so

pub rates_go_on : (us : List ListUpdate) (i : ℕ) (u : ListUpdate) (rates new whole : List ℕ) → i < length us → u ≡ get_or us i u → new ≡ rates_by rates u → rates_after rates (drop i us) ≡ whole → rates_after new (drop (i + 1) us) ≡ whole
rates_go_on us i u rates new whole within e did so =
    ap (λ (l : List ℕ). rates_after l (drop (i + 1) us)) did ∙ sym (ap (rates_after rates) (updates_at us i u within e)) ∙ so

pub counts_go_on : (us : List ListUpdate) (i : ℕ) (u : ListUpdate) (counts new whole : List ℕ) → i < length us → u ≡ get_or us i u → new ≡ counts_by counts u → counts_after counts (drop i us) ≡ whole → counts_after new (drop (i + 1) us) ≡ whole
counts_go_on us i u counts new whole within e did so =
    ap (λ (l : List ℕ). counts_after l (drop (i + 1) us)) did ∙ sym (ap (counts_after counts) (updates_at us i u within e)) ∙ so
