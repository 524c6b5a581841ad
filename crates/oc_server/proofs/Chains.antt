-- The node after deeds.
use Rattle.std.proofs.Common.{◌≡◌, List, [], ◌∷◌, ◌++◌, refl, sym, ap, ◌∙◌}
use Rattle.oc_model.specs.Node.{Node}
use Rattle.oc_deeds.specs.Changes.{Change, after_change, after_changes, changes_of, deed_change, with_change}
use Rattle.oc_deeds.specs.Deeds.{Deed, Running, after, after_all}
use Rattle.oc_deeds.specs.Deeds as deeds
use Rattle.oc_server.proofs.Moments.{changed_first}

-- changes after changes
pub fold_append : (n : Node) (cs more : List Change) → after_changes n (cs ++ more) ≡ after_changes (after_changes n cs) more
fold_append n [] more = refl
fold_append n (c ∷ cs) more = fold_append (after_change n c) cs more

-- the node after a deed
node_behind : (d : Deed) (a : Running) → (after d a).node ≡ after_changes a.node (with_change (deed_change d) [])
node_behind (deeds.Sees e wait bytes) a = refl
node_behind (deeds.Reads t) a = refl
node_behind (deeds.Tells t) a = refl
node_behind (deeds.Takes i) a = refl
node_behind (deeds.Accepts i) a = refl
node_behind (deeds.Says text) a = refl
node_behind (deeds.Notes why) a = refl
node_behind (deeds.Permits c) a = refl
node_behind (deeds.Waits w) a = refl
node_behind (deeds.Replies r response now) a = refl
node_behind (deeds.Refuses c count why) a = refl
node_behind (deeds.Rejects fault) a = refl
node_behind (deeds.BreaksOff c) a = refl
node_behind (deeds.Gives p now) a = refl
node_behind (deeds.LaysAside p) a = refl
node_behind (deeds.Drops c told) a = refl
node_behind (deeds.Dials place m d) a = refl
node_behind (deeds.Probes peer d now) a = refl
node_behind (deeds.Looks look) a = refl
node_behind (deeds.Rereads config) a = refl
node_behind (deeds.Keeps why) a = refl

-- the node after deeds is the fold of their changes
pub nodes_behind : (ds : List Deed) (a : Running) → (after_all ds a).node ≡ after_changes a.node (changes_of ds)
nodes_behind [] a = refl
nodes_behind (d ∷ ds) a =
    nodes_behind ds (after d a) ∙ ap (λ (n : Node). after_changes n (changes_of ds)) (node_behind d a) ∙ sym (changed_first a.node (deed_change d) (changes_of ds))
