use Rattle.std.proofs.Common.{◌≡◌, ◌≤◌, ◌+◌, vec_len, vec_capacity}
use Rattle.oc_model.specs.Choice.{below}
use Rattle.oc_place.specs.LeftOut.{out_of}
use Rattle.oc_place.specs.Once.{with_once}
use Rattle.oc_place.proofs.order.put_earlier.Given as goal

-- the ids so far and the rest, each once, are the whole list; and there is room for the rest
abbrev pub invariant-loop-earlier : goal.invariant-loop-earlier
invariant-loop-earlier l =
    record {
      once : with_once (out_of l.left_out) l.into.items (below l.earlier) ≡ with_once (out_of l.left_out) l.initial.into.items (below l.number);
      len : vec_len l.into + l.earlier ≤ vec_len l.initial.into + l.number;
      capacity : vec_capacity l.initial.into ≤ vec_capacity l.into;
    }
