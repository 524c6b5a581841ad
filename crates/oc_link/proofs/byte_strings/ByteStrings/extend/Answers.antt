use Rattle.std.proofs.Common.{◌≡◌, ◌≤◌, ◌+◌, ◌++◌, vec_len, ap, length, length-append, arith}
use Rattle.oc_link.proofs.StringsIn.{AreStarts-more, extended}
use Rattle.oc_link.proofs.byte_strings.ByteStrings.extend.Goals as goal

pub invariant_of-self : goal.invariant_of-self
invariant_of-self c =
    let items : c.extend_from_slice.new.self.items ≡ c.self.inside.bytes.items ++ c.args.more.now =
    rw c.unwrap.ensures at c.extend_from_slice.ensures.items in
    let longer : length c.self.inside.bytes.items ≤ length c.extend_from_slice.new.self.items =
    omega (arith, ap length items, length-append c.self.inside.bytes.items c.args.more.now) in
    let len : vec_len c.extend_from_slice.new.self ≡ vec_len c.self.inside.bytes + length c.args.more.now =
    rw c.unwrap.ensures at c.extend_from_slice.ensures.len in
    (omega arith, c.self.invariant.1, AreStarts-more _ _ c.self.inside.starts.items longer c.self.invariant.2)

pub returns : goal.returns
returns c =
    let items : c.extend_from_slice.new.self.items ≡ c.self.inside.bytes.items ++ c.args.more.now =
    rw c.unwrap.ensures at c.extend_from_slice.ensures.items in
    extended c.self.inside.bytes.items c.extend_from_slice.new.self.items c.args.more.now c.self.inside.starts.items c.self.inside.room c.self.inside.string_room c.args.self.now c.self.invariant.2 items c.self.view_is
