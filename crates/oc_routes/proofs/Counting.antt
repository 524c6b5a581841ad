-- Counts of rows.
use Rattle.std.proofs.Common.{◌≡◌, ℕ, suc, ◌-◌, Bool, true, false, List, [], ◌∷◌, length, refl, ap, ◌∙◌, map, filter}
use Rattle.std.proofs.lemmas.List.{length-map}
use Rattle.oc_base.specs.declared.cert.Cert.{Cert}
use Rattle.oc_model.specs.Node.{Control}
use Rattle.oc_model.specs.Table.{is_lease_of, is_listed, leased_children, listed_in}
use Rattle.oc_routes.specs.Metrics.{counted}
use Rattle.oc_routes.specs.Rows.{rows_of}
use Rattle.oc_routes.specs.declared.rows.Row.{Row}

-- the listed rows are as many as the listed nodes
pub listed_count : (p : ℕ → Bool) (ks : List Cert) → length (filter (λ (row : Row). row.listed) (map (λ (k : Cert). record { cert = k; listed = p k.subject }) ks)) ≡ length (filter p (map (λ (k : Cert). k.subject) ks))
listed_count p [] = refl
listed_count p (k ∷ ks) = by_test (listed_count p ks) (p k.subject) refl where
  by_test : length (filter (λ (row : Row). row.listed) (map (λ (k : Cert). record { cert = k; listed = p k.subject }) ks)) ≡ length (filter p (map (λ (k : Cert). k.subject) ks)) → (b : Bool) → p k.subject ≡ b → length (filter (λ (row : Row). row.listed) (map (λ (k : Cert). record { cert = k; listed = p k.subject }) (k ∷ ks))) ≡ length (filter p (map (λ (k : Cert). k.subject) (k ∷ ks)))
  by_test rest true e = rw e (ap (λ (n : ℕ). suc n) rest)
  by_test rest false e = rw e rest

-- the rows that pass are as many as the certificates that pass
pub passing_count : (p : ℕ → Bool) (q : Cert → Bool) (ks : List Cert) → length (filter (λ (row : Row). q row.cert) (map (λ (k : Cert). record { cert = k; listed = p k.subject }) ks)) ≡ length (map (λ (k : Cert). k.subject) (filter q ks))
passing_count p q [] = refl
passing_count p q (k ∷ ks) = by_test (passing_count p q ks) (q k) refl where
  by_test : length (filter (λ (row : Row). q row.cert) (map (λ (k : Cert). record { cert = k; listed = p k.subject }) ks)) ≡ length (map (λ (k : Cert). k.subject) (filter q ks)) → (b : Bool) → q k ≡ b → length (filter (λ (row : Row). q row.cert) (map (λ (k : Cert). record { cert = k; listed = p k.subject }) (k ∷ ks))) ≡ length (map (λ (k : Cert). k.subject) (filter q (k ∷ ks)))
  by_test rest true e = rw e (ap (λ (n : ℕ). suc n) rest)
  by_test rest false e = rw e rest

-- the counts of a node are these numbers of the rows of its table
pub counted_is : (n : Control) (rows : List Row) (listed many children clients waiting : ℕ)
    → rows ≡ rows_of n.kept.table n.me → listed ≡ length (filter (λ (row : Row). row.listed) rows) → many ≡ length rows
    → children ≡ length (filter (λ (row : Row). is_lease_of n.me row.cert) rows) → clients ≡ n.kept.clients → waiting ≡ n.kept.log.length - n.kept.log.acked
    → counted n ≡ record { listed = listed; rows = many; children = children; clients = clients; waiting = waiting }
counted_is n rows listed many children clients waiting are a b c d e =
    let first : listed ≡ length (listed_in n.kept.table n.me) =
    a ∙ (ap (λ (rs : List Row). length (filter (λ (row : Row). row.listed) rs)) are ∙ listed_count (is_listed n.kept.table n.me) n.kept.table) in
    let second : many ≡ length n.kept.table = b ∙ (ap (λ (rs : List Row). length rs) are ∙ length-map n.kept.table _) in
    let third : children ≡ length (leased_children n.kept.table n.me) =
    c ∙ (ap (λ (rs : List Row). length (filter (λ (row : Row). is_lease_of n.me row.cert) rs)) are ∙ passing_count (is_listed n.kept.table n.me) (is_lease_of n.me) n.kept.table) in
    rw (first, second, third, d, e) refl
