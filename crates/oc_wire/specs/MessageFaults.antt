-- The fault of a field as the fault of a message.
use Rattle.std.specs.Prelude.{Result}
use Rattle.oc_base.specs.declared.field_fault.FieldFault.{FieldFault}
use Rattle.oc_base.specs.declared.field_fault.FieldFault.TheVariants as fields
use Rattle.oc_base.specs.Steps.{map_fault}
use Rattle.oc_wire.specs.declared.fault.WireFault.{WireFault}
use Rattle.oc_wire.specs.declared.fault.WireFault.TheVariants.{Short, Value, Memory}

-- a fault by the same name
abbrev pub fault_of : FieldFault → WireFault
fault_of fields.Short = Short
fault_of fields.Value = Value
fault_of fields.Memory = Memory

-- the value that was read, or such a fault
abbrev pub of_field : {A : Type 0} → Result A FieldFault → Result A WireFault
of_field r = map_fault fault_of r
