-- The end of a download that a fault brings.
use Rattle.oc_client.specs.declared.address.UrlFault.{UrlFault}
use Rattle.oc_client.specs.declared.address.UrlFault.TheVariants as urls
use Rattle.oc_client.specs.declared.end.GetEnd.{GetEnd}
use Rattle.oc_client.specs.declared.end.GetEnd.TheVariants.{BadUrl, Reply, Link, Memory}
use Rattle.oc_http.specs.declared.fault.HttpFault.{HttpFault}
use Rattle.oc_http.specs.declared.fault.HttpFault.TheVariants as faults

-- the end that a fault in the head of a reply brings
abbrev pub end_of_http : HttpFault → GetEnd
end_of_http faults.Source = Link
end_of_http faults.Memory = Memory
end_of_http fault = Reply

-- the end that an address without a URL brings
abbrev pub end_of_url : UrlFault → GetEnd
end_of_url urls.Bad = BadUrl
end_of_url urls.Memory = Memory
