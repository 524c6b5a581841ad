use Rattle.std.proofs.Common.{◌≡◌, ◌+◌, ◌-◌, ◌++◌, map}
use Rattle.std.specs.List.{range_with_len}
use Rattle.oc_world.specs.World.{processes_of}
use Rattle.oc_world.proofs.Turns.{new_process}
use Rattle.oc_world.proofs.processes.new_processes.Given as goal

-- the processes so far and those to come are all
abbrev pub invariant-loop-before : goal.invariant-loop-before
invariant-loop-before l =
    processes_of l.processes.items ++ map (new_process l.header) (range_with_len (1 + l.before) (l.header.nodes - l.before))
    ≡ map (new_process l.header) (range_with_len 1 l.header.nodes)
