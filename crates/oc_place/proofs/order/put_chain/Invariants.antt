use Rattle.std.proofs.Common.{◌≡◌, ◌≤◌, ◌+◌, ◌-◌, vec_len, vec_capacity}
use Rattle.std.specs.List.{range_with_len}
use Rattle.oc_place.specs.LeftOut.{out_of}
use Rattle.oc_place.specs.Once.{with_once}
use Rattle.oc_place.proofs.order.put_chain.Given as goal

-- the ids so far and the rest of the chain, each once, are the whole list; and there is room for the rest
abbrev pub invariant-loop-before : goal.invariant-loop-before
invariant-loop-before l =
    record {
      once : with_once (out_of l.left_out) l.into.items (range_with_len (1 + l.before) (l.chain - l.before)) ≡ with_once (out_of l.left_out) l.initial.into.items (range_with_len 1 l.chain);
      len : vec_len l.into ≤ vec_len l.initial.into + l.before;
      capacity : vec_capacity l.initial.into ≤ vec_capacity l.into;
    }
