use Rattle.std.proofs.Common.{◌≡◌, map, string_bytes}
use Rattle.oc_config.specs.Known.{keys_of, unknown_key}
use Rattle.oc_config.specs.Values.{section_of}
use Rattle.oc_config.proofs.known.unknown_key.Given as goal

-- the first unknown key of those that are left is that of all
abbrev pub invariant-loop-key : goal.invariant-loop-key
invariant-loop-key l =
    (goal.iterator-loop-key).can_next l.key-iterator
    × (goal.iterator-loop-key).is_finite l.key-iterator
    × (unknown_key l.section.place (map string_bytes l.key-iterator) ≡ unknown_key l.section.place (keys_of (section_of l.section).members))
