use Rattle.std.specs.Prelude.{◌≤◌, List, length}
use Rattle.oc_model.specs.declared.input.Input.{Input}
use Rattle.oc_model.specs.declared.input.Input.TheVariants.{Delivered}
use Rattle.oc_model.specs.declared.message.Body.{Body}
use Rattle.oc_model.specs.declared.message.Body.TheVariants.{CheckIn}
use Rattle.oc_model.specs.declared.record.Record.{Record}
use Rattle.oc_base.specs.declared.limits.TheConstants.{MAX_NODES, MAX_CHECK_IN_CERTS, MAX_FRAME_RECORDS, MAX_FRAME_BYTES}
use Rattle.oc_model.specs.Node.{Control}
use Rattle.oc_laws_step.specs.Sizes.{total, size_of}

-- The bound on the records of one input: they fit one frame.

-- a check-in has at most as many certificates as one may have
abbrev pub HasFewCerts : Body → Type 0
HasFewCerts (CheckIn seq upto rate number clients certs) = length certs ≤ MAX_CHECK_IN_CERTS
HasFewCerts body = Unit {0}

abbrev pub IsFew : Input → Type 0
IsFew (Delivered m) = HasFewCerts m.body
IsFew i = Unit {0}

-- the table has at most as many rows as there are nodes
pub record IsSmall (n : Control) : Type 0 where
  pub nodes : n.nodes ≤ MAX_NODES
  pub table : length n.kept.table ≤ n.nodes

-- at most as many records as one input may write, and as many bytes as a frame may have
pub record FitsFrame (rs : List Record) : Type 0 where
  pub records : length rs ≤ MAX_FRAME_RECORDS
  pub bytes : total size_of rs ≤ MAX_FRAME_BYTES
