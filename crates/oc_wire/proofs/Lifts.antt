-- A value that is read as a field is read the same as a field of a message.
use Rattle.std.proofs.Common.{◌≡◌, Ok, Err, sym, ap}
use Rattle.oc_base.specs.declared.field_fault.FieldFault.{FieldFault}
use Rattle.oc_base.specs.declared.field_fault.FieldFault.TheVariants as fields
use Rattle.oc_base.specs.Reading.{Reading}
use Rattle.oc_base.specs.Reading as base
use Rattle.oc_wire.specs.MessageFaults.{fault_of, of_field}
use Rattle.oc_wire.specs.MessageReading.{Gives}

-- the fault of a field
pub fault_given : {A : Type 0} (fault : FieldFault) (read : Reading A) → base.Gives (Err fault) read → Gives (Err (fault_of fault)) (of_field read)
fault_given fields.Short read given = ap of_field given
fault_given fields.Value read given = ap of_field given
fault_given fields.Memory read given = tt

-- the value that was read is given
pub given_same : {A : Type 0} (answer read : Reading A) → answer ≡ read → base.Gives answer read
given_same (Ok x) read same = sym same
given_same (Err fields.Short) read same = sym same
given_same (Err fields.Value) read same = sym same
given_same (Err fields.Memory) read same = tt
