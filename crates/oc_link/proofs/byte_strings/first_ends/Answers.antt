use Rattle.std.proofs.Common.{◌∙◌, ap, Some, slice_index}
use Rattle.oc_link.proofs.StringsIn.{first_ordered, strings_in-first, part}
use Rattle.oc_link.proofs.byte_strings.first_ends.Goals as goal

pub returns-in-len2-up-clause-within : goal.returns-in-len2-up-clause-within
returns-in-len2-up-clause-within c = first_ordered c.args.len c.args.starts.now c.in-len2-up.len_at_least c.requires

pub returns-in-len2-up-clause-string : goal.returns-in-len2-up-clause-string
returns-in-len2-up-clause-string c = λ bytes _.
    let starts = c.args.starts.now in
    let ordered = first_ordered c.args.len starts c.in-len2-up.len_at_least c.requires in
    strings_in-first bytes starts c.in-len2-up.len_at_least ∙ ap Some (part (slice_index starts 0) (slice_index starts 1) bytes ordered.0)
