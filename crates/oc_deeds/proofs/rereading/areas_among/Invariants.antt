use Rattle.std.proofs.Common.{◌≡◌, ◌≤◌, ◌++◌, replicate, take}
use Rattle.std.specs.List.{AllByRecursion}
use Rattle.oc_base.specs.declared.limits.TheConstants.{MAX_AREA}
use Rattle.oc_deeds.proofs.rereading.areas_among.Given as goal

-- the areas that were read are copied, and each is an area
abbrev pub invariant-loop-area : goal.invariant-loop-area
invariant-loop-area l = record {
  same : l.made.items ≡ take l.area-index l.areas;
  bytes : AllByRecursion (λ a. a ≤ MAX_AREA) l.made.items;
}

-- and then come areas 0
abbrev pub invariant-loop : goal.invariant-loop
invariant-loop l = record {
  same : l.made.items ≡ l.areas ++ replicate l.counter 0;
  bytes : AllByRecursion (λ a. a ≤ MAX_AREA) l.made.items;
}
