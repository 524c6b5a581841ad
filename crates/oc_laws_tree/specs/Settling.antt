use Rattle.std.specs.Prelude.{◌≡◌, ℕ, ◌+◌, ◌-◌, ◌*◌, ◌/◌, ◌≤◌, Some, List, [], ◌∷◌, filter, length}
use Rattle.oc_base.specs.declared.cert.Cert.{Cert}
use Rattle.oc_base.specs.declared.limits.TheConstants.{MAX_CHECK_IN_CERTS}
use Rattle.oc_model.specs.declared.event.Event.TheVariants.{Settle}
use Rattle.oc_model.specs.declared.word.Word.TheVariants.{Settled}
use Rattle.oc_model.specs.Chains.{IsRoot, true_line}
use Rattle.oc_model.specs.ClaimsTree.{table_of, IsTold}
use Rattle.oc_model.specs.NextWorld.{next_world, word_of}
use Rattle.oc_model.specs.Ready.{IsReadyUnder, IsReady, IsSettled}
use Rattle.oc_model.specs.Records.{is_joined}
use Rattle.oc_model.specs.Settle.{first_five_steps, deepest_first, tells_all}
use Rattle.oc_model.specs.Table.{newest}
use Rattle.oc_model.specs.World.{World, node, mode_of, up_ids}
use Rattle.oc_laws_tree.specs.Listing.{ListsExactly}

-- The world after settle, and the number of acts of settle.

-- the root's table has the own number and client count of each node of the live tree
abbrev pub CountsExactly : World → Type 0
CountsExactly w = (r x p : ℕ) → IsRoot w r → true_line w r x ≡ Some p →
    (e : Cert) × (newest (table_of w r) x ≡ Some e) × (e.number ≡ (node w x).control.kept.number) × (e.clients ≡ (node w x).control.kept.clients)

-- settle leaves a ready world settled: all leases at nodes that are up are those of the live tree, and nothing waits
abbrev pub SettleSettles : World → Type 0
SettleSettles w = IsReady w → IsSettled (next_world w Settle)

-- after settle each parent knows its children's last own numbers
abbrev pub SettleTells : World → Type 0
SettleTells w = IsReady w → IsTold (next_world w Settle)

-- the root after settle is the root before
abbrev pub SettleKeepsRoot : World → Type 0
SettleKeepsRoot w = (r : ℕ) → IsReadyUnder w r → IsRoot (next_world w Settle) r

-- after settle the root lists exactly the live tree, with the own number and count of each node
abbrev pub SettleLists : World → Type 0
SettleLists w = IsReady w → ListsExactly (next_world w Settle) × CountsExactly (next_world w Settle)

-- Acts

-- the nodes that are up and have a parent
abbrev pub up_joined : World → List ℕ
up_joined w = filter (λ x. is_joined (mode_of w x)) (up_ids w)

-- the number of check-ins that tell n certificates
abbrev pub batches : ℕ → ℕ
batches n = (n + (MAX_CHECK_IN_CERTS - 1)) / MAX_CHECK_IN_CERTS

-- the number of certificates that wait at a node
abbrev pub waiting_at : World → ℕ → ℕ
waiting_at w x = length (node w x).control.kept.log.waiting

-- the acts of step 6: three for each 64 certificates, or part of 64, that wait at each of these nodes at its turn to tell
abbrev pub acts_to_tell : List ℕ → World → ℕ
acts_to_tell [] w = 0
acts_to_tell (x ∷ xs) w = 3 * batches (waiting_at w x) + acts_to_tell xs (tells_all x w).world

-- the acts of step 6, which comes after the other five
abbrev pub acts_of_step_six : World → ℕ
acts_of_step_six v = acts_to_tell (deepest_first (length v.processes) v) v

-- the acts of settle: three for each node that is up, six more for each with a parent, and those of step 6
abbrev pub acts_to_settle : World → ℕ
acts_to_settle w = 3 * length (up_ids w) + 6 * length (up_joined w) + acts_of_step_six (first_five_steps w).world

-- the number that settle tells is that of its acts
abbrev pub SettleTakes : World → Type 0
SettleTakes w = IsReady w → word_of w Settle ≡ Settled (acts_to_settle w)

-- the first five steps take at most nine acts for each node that is up
abbrev pub FiveStepsTakeFew : World → Type 0
FiveStepsTakeFew w = length (first_five_steps w).acts ≤ 9 * length (up_ids w)
