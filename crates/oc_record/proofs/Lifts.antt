-- A read of a field is a read of a field of a record.
use Rattle.std.proofs.Common.{Result, Ok, Err, refl, ap}
use Rattle.oc_base.specs.declared.field_fault.FieldFault.{FieldFault}
use Rattle.oc_base.specs.declared.field_fault.FieldFault.TheVariants as fields
use Rattle.oc_base.specs.Reading.{Reading}
use Rattle.oc_base.specs.Reading as base
use Rattle.oc_record.specs.Faults.{fault_of, of_field}
use Rattle.oc_record.specs.Reading.{Gives}
use Rattle.oc_record.specs.declared.fault.RecordFault.{RecordFault}
use Rattle.oc_record.specs.declared.fault.RecordFault.TheVariants as records

-- the fault of a field
pub fault_given : {A : Type 0} (fault : FieldFault) (read : Reading A) → base.Gives (Err fault) read → Gives (Err (fault_of fault)) (of_field read)
fault_given fields.Short read given = ap of_field given
fault_given fields.Value read given = ap of_field given
fault_given fields.Memory read given = tt

-- the value that was read, or the fault of a record
pub field_given : {A : Type 0} (answer read : Reading A) → base.Gives answer read → Gives (of_field answer) (of_field read)
field_given (Ok x) read given = ap of_field given
field_given (Err fault) read given = fault_given fault read given

-- the result of a read gives itself
pub given_itself : {A : Type 0} (read : Result A RecordFault) → Gives read read
given_itself (Ok x) = refl
given_itself (Err (records.Kind code)) = refl
given_itself (Err records.Short) = refl
given_itself (Err records.Value) = refl
given_itself (Err records.Memory) = tt
