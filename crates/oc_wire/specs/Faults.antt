-- The fault of a message as the fault of a request.
use Rattle.oc_http.specs.declared.fault.HttpFault.{HttpFault}
use Rattle.oc_http.specs.declared.fault.HttpFault.TheVariants as http
use Rattle.oc_wire.specs.declared.fault.WireFault.{WireFault}
use Rattle.oc_wire.specs.declared.fault.WireFault.TheVariants.{Memory}
use Rattle.oc_wire.specs.declared.http_fault.HttpWireFault.{HttpWireFault}
use Rattle.oc_wire.specs.declared.http_fault.HttpWireFault.TheVariants as requests

-- the cause that a request is not read: memory ran out, or the bytes are no request
abbrev pub fault_of_http : HttpFault → HttpWireFault
fault_of_http http.Memory = requests.Memory
fault_of_http fault = requests.NotHttp

-- the cause that a body is not read: memory ran out, or it has this fault
abbrev pub fault_of_wire : WireFault → HttpWireFault
fault_of_wire Memory = requests.Memory
fault_of_wire fault = requests.Wire fault
