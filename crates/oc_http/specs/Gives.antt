-- Results of a reader of the code that are those of a definition, unless memory runs out.
use Rattle.std.specs.Prelude.{◌≡◌, Result, Ok, Err, ⊤}
use Rattle.oc_http.specs.declared.fault.HttpFault.{HttpFault}
use Rattle.oc_http.specs.declared.fault.HttpFault.TheVariants.{Memory}

-- the fault that is said; a want of memory is always one
abbrev pub Fails : {A : Type 0} → HttpFault → Result A HttpFault → Type 0
Fails Memory said = ⊤
Fails fault said = said ≡ Err fault

-- the result that is said, or a want of memory
abbrev pub Gives : {A : Type 0} → Result A HttpFault → Result A HttpFault → Type 0
Gives (Ok value) said = said ≡ Ok value
Gives (Err fault) said = Fails fault said
