use Rattle.std.proofs.Common.{◌∙◌, ap, sym, length}
use Rattle.oc_link.specs.ByteStrings.{ByteStringsView}
use Rattle.oc_link.proofs.StringsIn.{length-strings_in}
use Rattle.oc_link.proofs.byte_strings.ByteStrings.len.Goals as goal

pub returns : goal.returns
returns c =
    let r = c.self.inside in
    ap length c.as_slice.ensures.value ∙ sym (length-strings_in r.bytes.items r.starts.items) ∙ ap (λ (v : ByteStringsView). length v.strings) c.self.view_is
