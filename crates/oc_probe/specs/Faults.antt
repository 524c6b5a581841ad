-- The fault of a probe that a fault of a reply brings.
use Rattle.oc_http.specs.declared.fault.HttpFault.{HttpFault}
use Rattle.oc_http.specs.declared.fault.HttpFault.TheVariants as http
use Rattle.oc_probe.specs.declared.fault.ProbeFault.{ProbeFault}
use Rattle.oc_probe.specs.declared.fault.ProbeFault.TheVariants as faults

abbrev pub fault_of_http : HttpFault → ProbeFault
fault_of_http http.Source = faults.Link
fault_of_http http.Memory = faults.Memory
fault_of_http other = faults.Reply
