-- The waiting certificates of a change log.
use Rattle.std.specs.Prelude.{ℕ, List}
use Rattle.oc_base.specs.declared.cert.Cert.{Cert}

-- the number of nodes, the certificates, and the number of certificates for which there is room
pub record WaitingView : Type 0 where
  pub nodes : ℕ
  pub certs : List Cert
  pub room : ℕ
