use Rattle.std.proofs.Common.{◌≡◌, ◌∷◌, ◌++◌, take, length}
use Rattle.std.specs.List.{flat_map}
use Rattle.oc_base.specs.Spelling.{cert_bytes}
use Rattle.oc_wire.proofs.encoding.put_certs.Given as goal

abbrev pub invariant-loop-cert : goal.invariant-loop-cert
invariant-loop-cert l = l.out.items ≡ l.fn.out.items ++ (length l.fn.certs ∷ flat_map cert_bytes (take l.cert-index l.certs))
