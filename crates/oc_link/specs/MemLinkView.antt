-- A link in memory: the rest of its script, its clock, and its story.
use Rattle.std.specs.Prelude.{ℕ, Option, List}
use Rattle.oc_link.specs.declared.call.Call.{Call}
use Rattle.oc_link.specs.declared.counts.LinkCounts.{LinkCounts}
use Rattle.oc_link.specs.declared.script.Step.{Step}

pub record MemLinkView : Type 0 where
  -- the steps to come
  pub script : List Step
  -- the milliseconds of the clock
  pub time : ℕ
  -- the calls so far, unless memory ran out
  pub story : Option (List Call)
  -- the bytes that the last event lends
  pub lends : List ℕ
  pub counts : LinkCounts
