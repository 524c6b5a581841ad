-- The nodes that crashes leave while deeds are done, at each prefix of the deeds.
use Rattle.std.specs.Prelude.{◌≡◌, ℕ, Option, None, Some, List, [], ◌∷◌}
use Rattle.oc_io.specs.DiskView.{DiskView}
use Rattle.oc_keep.specs.Files.{Disks, SameAsEither}
use Rattle.oc_model.specs.declared.input.Input.{Input}
use Rattle.oc_model.specs.Node.{Header, Node}
use Rattle.oc_model.specs.Step.{step}
use Rattle.oc_deeds.specs.Changes.{after_changes, deed_change, with_change}
use Rattle.oc_deeds.specs.Deeds.{Deed, deed_input}
use Rattle.oc_server.specs.Looks.{LooksOn, RunsSafely}

-- the node after a deed
abbrev pub node_after : Deed → Node → Node
node_after x n = after_changes n (with_change (deed_change x) [])

-- the input of a deed was taken into the files, if it has one: every crash at any moment of that leaves the node before it or after it
abbrev pub TakesOne : {D : Type 0} → (D → DiskView) → Header → ℕ → Option Input → Node → Disks D → Disks D → Type 0
TakesOne view h me None n d e = e ≡ d
TakesOne view h me (Some i) n d e = RunsSafely view h me d e (SameAsEither n (step n i).node)

-- From one moment to a later one, deed by deed: the files were only looked at until the input of the deed was taken, and the text of the deed was
-- written. At each prefix the texts of its deeds were written, and from there to the next prefix every crash at any moment leaves the node of the
-- changes so far, or with the input of the next deed.
abbrev pub AtEachPrefix : {D K : Type 0} → (D → DiskView) → Header → ℕ → (K → List ℕ → K → Type 0) → (Deed → List ℕ) → List Deed → Node → Disks D → K → Disks D → K → Type 0
AtEachPrefix view h me takes says [] n d s e t = (k : ℕ) × LooksOn view h me n k d e × (t ≡ s)
AtEachPrefix {D} {K} view h me takes says (x ∷ xs) n d s e t = (k : ℕ) × (at next : Disks D) × (u : K)
    × LooksOn view h me n k d at × TakesOne view h me (deed_input x) n at next × takes s (says x) u
    × AtEachPrefix view h me takes says xs (node_after x n) next u e t
