use Rattle.std.proofs.Common.{◌≡◌, ◌≤◌, ◌+◌, drop, vec_len, vec_capacity}
use Rattle.oc_place.specs.LeftOut.{out_of}
use Rattle.oc_place.specs.Once.{with_once}
use Rattle.oc_place.proofs.order.put_all.Given as goal

-- the ids so far and the rest, each once, are the whole list; and there is room for the rest
abbrev pub invariant-loop-id : goal.invariant-loop-id
invariant-loop-id l =
    record {
      once : with_once (out_of l.left_out) l.into.items (drop l.id-index l.ids) ≡ with_once (out_of l.left_out) l.initial.into.items l.ids;
      len : vec_len l.into ≤ vec_len l.initial.into + l.id-index;
      capacity : vec_capacity l.initial.into ≤ vec_capacity l.into;
    }
