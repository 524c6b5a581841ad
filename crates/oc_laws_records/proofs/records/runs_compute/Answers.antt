use Rattle.std.proofs.Common.{refl}
use Rattle.std.specs.Fmt.{digits}
use Rattle.hex.specs.Hex.{encode_with}
use Rattle.oc_wire.specs.MessageReading.{body_at, decoded}
use Rattle.oc_laws_records.proofs.records.runs_compute.Goals as goal

pub returns : goal.returns
unfolding digits encode_with decoded body_at
returns c = record { text = refl; told_1 = refl; told_2 = refl; entries_1 = refl }
