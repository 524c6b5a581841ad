use Rattle.std.specs.Prelude.{◌≡◌, ◌<◌, ◌⊎◌, true, false}
use Rattle.oc_base.specs.declared.cert.Cert.{Cert}

-- whether a certificate is a later word on its subject: by the ask number, then by death, then by the own number
abbrev pub Outranks : Cert → Cert → Type 0
Outranks k f =
    (f.seq < k.seq)
    ⊎ ((k.seq ≡ f.seq) × (k.dead ≡ true) × (f.dead ≡ false))
    ⊎ ((k.seq ≡ f.seq) × (k.dead ≡ f.dead) × (f.number < k.number))
