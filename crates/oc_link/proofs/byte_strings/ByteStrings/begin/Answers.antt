use Rattle.std.proofs.Common.{◌≡◌, ◌∷◌, ◌++◌, [], length, subst, sym, arith}
use Rattle.oc_link.specs.ByteStrings.{AreStarts}
use Rattle.oc_link.proofs.StringsIn.{AreStarts-push, begun}
use Rattle.oc_link.proofs.byte_strings.ByteStrings.begin.Goals as goal

pub invariant_of-self : goal.invariant_of-self
invariant_of-self c =
    let items : c.push.new.self.items ≡ c.self.inside.starts.items ++ length c.self.inside.bytes.items ∷ [] =
    rw (c.unwrap.ensures, c.as_slice-end.ensures.value) at c.push.ensures.items in
    (c.self.invariant.0, omega arith, subst (AreStarts (length c.self.inside.bytes.items)) (sym items) (AreStarts-push _ _ c.self.invariant.2))

pub returns : goal.returns
returns c =
    let items : c.push.new.self.items ≡ c.self.inside.starts.items ++ length c.self.inside.bytes.items ∷ [] =
    rw (c.unwrap.ensures, c.as_slice-end.ensures.value) at c.push.ensures.items in
    begun c.self.inside.bytes.items c.self.inside.starts.items c.push.new.self.items c.self.inside.room c.self.inside.string_room c.args.self.now c.self.invariant.2 items c.self.view_is
