use Rattle.std.proofs.Common.{◌≡◌, ◌+◌, ◌++◌, drop}
use Rattle.oc_probe.specs.Turns.{peers_from, peers_of}
use Rattle.oc_probe.proofs.rotation.peers_of.Given as goal

-- the peers so far, and those of the places that are left, are all
abbrev pub invariant-places : goal.invariant-places
invariant-places g l = l.peers.items ++ peers_from l.me (l.place + 1) (drop l.place l.places) ≡ peers_of l.me l.places
