-- The fault of a record, from the fault of a field.
use Rattle.std.specs.Prelude.{Result}
use Rattle.oc_base.specs.declared.field_fault.FieldFault.{FieldFault}
use Rattle.oc_base.specs.declared.field_fault.FieldFault.TheVariants as fields
use Rattle.oc_base.specs.Steps.{map_fault}
use Rattle.oc_record.specs.declared.fault.RecordFault.{RecordFault}
use Rattle.oc_record.specs.declared.fault.RecordFault.TheVariants.{Short, Value, Memory}

-- the fault of the same name
abbrev pub fault_of : FieldFault → RecordFault
fault_of fields.Short = Short
fault_of fields.Value = Value
fault_of fields.Memory = Memory

-- the value that was read, or the fault
abbrev pub of_field : {A : Type 0} → Result A FieldFault → Result A RecordFault
of_field r = map_fault fault_of r
