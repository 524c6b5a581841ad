-- A server is a node.
use Rattle.std.proofs.Common.{◌≡◌, ℕ, Option, Some, None, IfSome, List, ◌∷◌, [], refl, sym, subst}
use Rattle.oc_base.specs.Lawful.{IsNode, IsCert, AreCerts}
use Rattle.oc_base.specs.declared.cert.Cert.{Cert}
use Rattle.oc_model.specs.Selected.{selected}
use Rattle.oc_model.specs.Table.{newest, parent_in, IsWay}
use Rattle.oc_laws_step.proofs.Ranges.{IfFound, cert_found}
use Rattle.oc_laws_step.proofs.Tables.{newest-subject}
use Rattle.oc_updown.proofs.Server.{selected_best}

-- a parent in a table of nodes is a node
parent_is_of_node : (nodes : ℕ) (t : List Cert) (x y : ℕ) → AreCerts nodes t → parent_in t x ≡ Some y → IsNode nodes x
parent_is_of_node nodes t x y certs e = by_entry (newest t x) refl (cert_found nodes t x certs) where
  by_entry : (o : Option Cert) → newest t x ≡ o → IfFound (IsCert nodes) o → IsNode nodes x
  by_entry None h found = let none : parent_in t x ≡ None = rw h in absurd cc
  by_entry (Some k) h found = subst (λ (n : ℕ). IsNode nodes n) (newest-subject t x k h) found.subject

-- a node with a way up is a node of the network
way_is_of_node : (nodes : ℕ) (t : List Cert) (r x : ℕ) (ys : List ℕ) → AreCerts nodes t → IsWay t r x ys → IsNode nodes x
way_is_of_node nodes t r x [] certs way = parent_is_of_node nodes t x r certs way
way_is_of_node nodes t r x (y ∷ ys) certs way = parent_is_of_node nodes t x y certs way.0

-- a selected server is a node of the network
pub server_is_node : (nodes : ℕ) (t : List Cert) (me chain : ℕ) (areas counts : List ℕ) (area : ℕ) (o : Option ℕ) → o ≡ selected t me chain areas counts area → AreCerts nodes t → IfSome o (λ k. IsNode nodes k)
server_is_node nodes t me chain areas counts area None e certs = tt
server_is_node nodes t me chain areas counts area (Some k) e certs =
    let best = selected_best t me chain areas counts area k (sym e) in
    way_is_of_node nodes t me k (best.server.1.1.0) certs (best.server.1.1.1)
