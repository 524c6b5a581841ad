-- The bytes of a node are a beginning of the source's, and of its own later ones.
use Rattle.std.proofs.Common.{◌≡◌, ℕ, Option, Some, None, List, [], ◌∷◌, length, drop, refl, sym, ap, subst}
use Rattle.oc_base.specs.declared.group.Group.{Group}
use Rattle.oc_base.specs.Groups.{group_of, or_empty, bytes_of}
use Rattle.oc_folder.specs.Reading.{IsReading}
use Rattle.oc_model.specs.declared.event.Event.{Event}
use Rattle.oc_model.specs.Claims.{HoldPrefixes}
use Rattle.oc_model.specs.World.{World, node}
use Rattle.oc_laws_world.specs.Throughout.{Throughout}
use Rattle.oc_laws_world.proofs.Fronts.{IsFront, front_rest}
use Rattle.oc_laws_world.proofs.Kept.{sound_prefixes}
use Rattle.oc_laws_world.proofs.Turns.{Sound}
use Rattle.oc_laws_folders.specs.Folders.{bytes_at, source_bytes, IsSnapshot, AreSnapshots, LoseNothing, GoForward, KeepUp}
use Rattle.oc_laws_folders.proofs.Grown.{HasGrown, grown_throughout}
use Rattle.oc_laws_folders.proofs.Later.{later, snapshot, keeps_up}

bytes_are : (g : List ℕ) (ks : List Group) (o : Option Group) → group_of g ks ≡ o → bytes_of g ks ≡ (or_empty g o).bytes
bytes_are g ks o h = ap (λ (p : Option Group). (or_empty g p).bytes) h

nothing_front : (ys : List ℕ) → IsFront [] ys
nothing_front [] = refl
nothing_front (y ∷ ys) = refl

-- a group of which another list has at least as much
front_of : (g : List ℕ) (ks js : List Group) → ((k : Group) → group_of g ks ≡ Some k → (t : Group) × (group_of g js ≡ Some t) × IsFront k.bytes t.bytes)
    → IsFront (bytes_of g ks) (bytes_of g js)
front_of g ks js has = by (group_of g ks) refl
  where
    by : (o : Option Group) → group_of g ks ≡ o → IsFront (bytes_of g ks) (bytes_of g js)
    by None e = subst (λ (xs : List ℕ). IsFront xs (bytes_of g js)) (sym (bytes_are g ks None e)) (nothing_front (bytes_of g js))
    by (Some k) e =
        let more = has k e in
        let there : IsFront k.bytes (bytes_of g js) = subst (λ (ys : List ℕ). IsFront k.bytes ys) (sym (bytes_are g js (Some more.0) more.1)) more.2 in
        subst (λ (xs : List ℕ). IsFront xs (bytes_of g js)) (sym (bytes_are g ks (Some k) e)) there

-- the source's bytes begin with the node's
source_front : (w : World) → HoldPrefixes w → (x : ℕ) (g : List ℕ) → IsFront (bytes_at w x g) (source_bytes w g)
source_front w prefixes x g = front_of g (node w x).groups w.source (λ k e. prefixes x g k e)

-- and so do the node's own later ones
own_front : (w v : World) → HasGrown w v → (x : ℕ) (g : List ℕ) → IsFront (bytes_at w x g) (bytes_at v x g)
own_front w v grown x g =
    front_of g (node w x).groups (node v x).groups (λ k e. let more = grown x g k e in (more.now, more.found, more.front))

nothing_lost : (w v : World) → HasGrown w v → LoseNothing w v
nothing_lost w v grown x g = (drop (length (bytes_at w x g)) (bytes_at v x g), front_rest (bytes_at w x g) (bytes_at v x g) (own_front w v grown x g))

goes_forward : (w v : World) → HasGrown w v → GoForward w v
goes_forward w v grown x g s t p q =
    let more = nothing_lost w v grown x g in
    later (bytes_at w x g) more.0 s t p (subst (λ (bytes : List ℕ). IsReading bytes t) more.1 q)

-- Of every sound world:

pub snapshots : (w : World) → Sound w → AreSnapshots w
snapshots w sound x g s p =
    let whole = front_rest (bytes_at w x g) (source_bytes w g) (source_front w (sound_prefixes w sound) x g) in
    subst (λ (bytes : List ℕ). IsSnapshot bytes s) (sym whole) (snapshot (bytes_at w x g) (drop (length (bytes_at w x g)) (source_bytes w g)) s p)

pub nodes_keep_up : (w : World) → Sound w → KeepUp w
nodes_keep_up w sound x y g s t p q within =
    keeps_up (source_bytes w g) (bytes_at w y g) s t (source_front w (sound_prefixes w sound) y g) (snapshots w sound x g s p).batch q within

pub bytes_stay : (w : World) → Sound w → (events : List Event) → Throughout (LoseNothing w) w events
bytes_stay w sound events = grown_throughout w (LoseNothing w) (nothing_lost w) sound events

pub folders_stay : (w : World) → Sound w → (events : List Event) → Throughout (GoForward w) w events
folders_stay w sound events = grown_throughout w (GoForward w) (goes_forward w) sound events
