use Rattle.oc_laws_world.proofs.Passing.{always}
use Rattle.oc_laws_tree.specs.LeaseEnds.{LeaseEndsLieAhead}
use Rattle.oc_laws_tree.proofs.GrantsKept.{GrantsHold, IsGranting, grants_law, grants_new, facts_granted}
use Rattle.oc_laws_tree.proofs.LeaseEnds.{known_anywhere, lease_ends_throughout}
use Rattle.oc_laws_tree.proofs.lease_ends.lease_ends_lie_ahead.Goals as goal

pub returns : goal.returns
returns c = always LeaseEndsLieAhead (λ h events. lease_ends_throughout GrantsHold IsGranting grants_law (λ w holds. known_anywhere w (facts_granted w holds)) h (grants_new h) events)
