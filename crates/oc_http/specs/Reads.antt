-- Faults of the reading of a source, as faults of the reading of a body.
use Rattle.oc_io.specs.declared.read_fault.ReadFault.{ReadFault}
use Rattle.oc_io.specs.declared.read_fault.ReadFault.TheVariants as reads
use Rattle.oc_http.specs.declared.fault.HttpFault.{HttpFault}
use Rattle.oc_http.specs.declared.fault.HttpFault.TheVariants as faults

abbrev pub fault_of_read : ReadFault → HttpFault
fault_of_read reads.Failed = faults.Source
fault_of_read reads.TooMany = faults.BodyLong
fault_of_read reads.Memory = faults.Memory
