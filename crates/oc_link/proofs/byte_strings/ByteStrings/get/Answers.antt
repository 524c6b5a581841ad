use Rattle.std.proofs.Common.{◌≤◌, ◌∙◌, sym, ap, length, refl}
use Rattle.std.specs.List.{slice_get}
use Rattle.oc_link.specs.ByteStrings.{ByteStringsView}
use Rattle.oc_link.proofs.StringsIn.{strings_in-past, strings_at, starts_at}
use Rattle.oc_link.proofs.byte_strings.ByteStrings.get.Goals as goal

pub returns-then-at-starts : goal.returns-then-at-starts
returns-then-at-starts c =
    let past : length c.self.inside.starts.items ≤ c.args.at = rw (← c.as_slice-starts.ensures.value) c.if-at-starts.true in
    sym (strings_in-past c.self.inside.bytes.items c.self.inside.starts.items c.args.at past)
    ∙ ap (λ (v : ByteStringsView). slice_get v.strings c.args.at) c.self.view_is

pub first_ends-requires : goal.first_ends-requires
first_ends-requires c =
    starts_at c.as_slice-bytes.result.now c.self.inside.bytes.items c.as_slice-starts.result.now c.self.inside.starts.items c.args.at c.as_slice-bytes.ensures.value c.as_slice-starts.ensures.value c.self.invariant.2

pub returns-in-Some : goal.returns-in-Some
returns-in-Some c =
    sym (c.in-Some.ensures.string c.as_slice-bytes.result.now refl)
    ∙ strings_at c.as_slice-bytes.result.now c.self.inside.bytes.items c.as_slice-starts.result.now c.self.inside.starts.items c.args.at c.as_slice-bytes.ensures.value c.as_slice-starts.ensures.value
    ∙ ap (λ (v : ByteStringsView). slice_get v.strings c.args.at) c.self.view_is
