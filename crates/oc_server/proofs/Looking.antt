-- Looks, and changes between them.
use Rattle.std.proofs.Common.{◌≡◌, ℕ, false, List, [], ◌∷◌, ◌++◌, refl, ap, subst, ◌∙◌, arith}
use Rattle.oc_keep.specs.Files.{Disks, AllGoOn, Survives}
use Rattle.oc_keep.specs.KeptView.{IsHonest, KeptView, NodeSurvives, disks_of, going_by, header_of, node_of, sizes_of}
use Rattle.oc_keep.specs.Calls.{StaysTheSame}
use Rattle.oc_keep.specs.Promises.{IsSameNode, IsSameSeat}
use Rattle.oc_keep.proofs.Areas.{among}
use Rattle.oc_keep.proofs.Runs.{all_go_on_then, one_rose_after}
use Rattle.oc_keep.proofs.Stays.{all_honest}
use Rattle.oc_model.specs.declared.input.Input.{Input}
use Rattle.oc_model.specs.Node.{Control, Header, Node}
use Rattle.oc_node.specs.OutcomeView.{OutcomeView}
use Rattle.oc_io.specs.DiskView.{DiskView}
use Rattle.oc_io.specs.Faults.{NoFall}
use Rattle.oc_deeds.specs.Areas.{areas_among}
use Rattle.oc_deeds.specs.Changes.{ByAreas, ByInput, Change}
use Rattle.oc_server.proofs.Moments.{looks_on, one_look}
use Rattle.oc_server.specs.Looks.{LookCause, LooksOn, LooksOnly, LookStops, LooksUntil}
use Rattle.oc_server.specs.Scenes.{KeepsAll, KeepsOne}
use Rattle.oc_deeds.specs.declared.ends.TurnEnd.{TurnEnd}
use Rattle.oc_deeds.specs.declared.ends.TurnEnd.TheVariants as ends

-- disks to which nothing happened
pub go_on_none : {D : Type 0} (view : D → DiskView) (d : Disks D) → AllGoOn view d d
go_on_none view d = record {
  control = record { honest = refl; reliable = refl; name = refl; listed = refl; count = omega arith };
  alternate = record { honest = refl; reliable = refl; name = refl; listed = refl; count = omega arith };
  content = record { honest = refl; reliable = refl; name = refl; listed = refl; count = omega arith };
}

-- a statement about the node of one moment holds of the same node at another
pub named : (P : Header → ℕ → Type 0) → {D : Type 0} → (old new : KeptView D) → IsSameNode old.node.control new.node.control → P (header_of new.node.control) new.node.control.me → P (header_of old.node.control) old.node.control.me
named P old new same p = subst (λ (me : ℕ). P (header_of old.node.control) me) same.me (subst (λ (h : Header). P h new.node.control.me) same.header p)

-- and so does one that is the same for all areas, where these may be others
pub seated : (P : Header → ℕ → Type 0) → ((areas : List ℕ) (h : Header) (me : ℕ) → P h me → P (among areas h) me) → {D : Type 0} → (old new : KeptView D) → IsSameSeat old.node.control new.node.control
    → P (header_of new.node.control) new.node.control.me → P (header_of old.node.control) old.node.control.me
seated P moves old new same p =
    let bare : P (sizes_of new.node.control) new.node.control.me = moves [] (header_of new.node.control) new.node.control.me p in
    let here : P (sizes_of old.node.control) new.node.control.me = subst (λ (h : Header). P h new.node.control.me) same.header bare in
    let back : P (header_of old.node.control) new.node.control.me = moves old.node.control.areas (sizes_of old.node.control) new.node.control.me here in
    subst (λ (me : ℕ). P (header_of old.node.control) me) same.me back

module _ {D : Type 0} (view : D → DiskView) where
  -- no look
  pub looks_none : (k : KeptView D) → k.closed ≡ false → LooksOnly view k k
  looks_none k is_open = record { is_open = is_open; same = record { me = refl; header = refl }; goes_on = go_on_none view (disks_of k); node = λ honest. refl; generation = λ honest. omega arith; moments = λ honest. (0, refl) }

  -- calls that leave a node after looks at it
  behind_looks : (a b c : KeptView D) → LooksOnly view a b → (IsHonest view b → LooksUntil view b (disks_of c)) → IsHonest view a → LooksUntil view a (disks_of c)
  behind_looks a b c p more honest =
      let first = p.moments honest in
      looks_on view (header_of a.node.control) a.node.control.me (node_of a) (first.0) (disks_of a) (disks_of b) (disks_of c) (first.1)
      (subst (λ (n : Node). (k : ℕ) × LooksOn view (header_of a.node.control) a.node.control.me n k (disks_of b) (disks_of c)) (p.node honest)
      (named (λ h me. (k : ℕ) × LooksOn view h me (node_of b) k (disks_of b) (disks_of c)) a b p.same (more (all_honest view (disks_of a) (disks_of b) p.goes_on honest))))

  -- looks one after another
  pub looks_then : (a b c : KeptView D) → LooksOnly view a b → LooksOnly view b c → LooksOnly view a c
  looks_then a b c p q = record {
    is_open = q.is_open;
    same = record { me = q.same.me ∙ p.same.me; header = q.same.header ∙ p.same.header };
    goes_on = all_go_on_then view (disks_of a) (disks_of b) (disks_of c) p.goes_on q.goes_on;
    node = λ honest. q.node (all_honest view (disks_of a) (disks_of b) p.goes_on honest) ∙ p.node honest;
    generation = λ honest. omega (arith, p.generation honest, q.generation (all_honest view (disks_of a) (disks_of b) p.goes_on honest));
    moments = behind_looks a b c p q.moments;
  }

  -- one input
  pub keeps_one : (i : Input) (outcome : OutcomeView) (old new : KeptView D) → old.closed ≡ false → KeepsOne view i outcome old new → KeepsAll view (ByInput i ∷ []) old new
  keeps_one i outcome old new is_open keeps = (old, new, outcome, looks_none old is_open, keeps, looks_none new keeps.is_open)

  -- changes after changes
  pub keeps_then : (cs more : List Change) (a b c : KeptView D) → KeepsAll view cs a b → KeepsAll view more b c → KeepsAll view (cs ++ more) a c
  keeps_then [] [] a b c p q = looks_then a b c p q
  keeps_then [] (ByInput j ∷ more) a b c p (at, next, outcome, looks, one, rest) = (at, next, outcome, looks_then a b at p looks, one, rest)
  keeps_then [] (ByAreas areas ∷ more) a b c p (at, looks, rest) = (at, looks_then a b at p looks, rest)
  keeps_then (ByInput i ∷ cs) more a b c (at, next, outcome, looks, one, rest) q = (at, next, outcome, looks, one, keeps_then cs more next b c rest q)
  keeps_then (ByAreas areas ∷ cs) more a b c (at, looks, rest) q = (at, looks, keeps_then cs more (going_by (areas_among at.node.control.nodes areas) at) b c rest q)

  -- the generation of files does not fall
  pub keeps_no_fall : (cs : List Change) (a b : KeptView D) → KeepsAll view cs a b → IsHonest view a → NoFall a.store.generation b.store.generation
  keeps_no_fall [] a b looks honest = looks.generation honest
  keeps_no_fall (ByInput i ∷ cs) a b (at, next, outcome, looks, one, rest) honest =
      let here = all_honest view (disks_of a) (disks_of at) looks.goes_on honest in
      let there = all_honest view (disks_of at) (disks_of next) one.goes_on here in
      omega (arith, looks.generation honest, one.generation here, keeps_no_fall cs next b rest there)
  keeps_no_fall (ByAreas areas ∷ cs) a b (at, looks, rest) honest =
      let here = all_honest view (disks_of a) (disks_of at) looks.goes_on honest in
      let more : NoFall at.store.generation b.store.generation = keeps_no_fall cs (going_by (areas_among at.node.control.nodes areas) at) b rest here in
      omega (arith, looks.generation honest, more)

  -- the cause for which a look after a look ended
  look_cause : (end : TurnEnd) (a b c : KeptView D) → LooksOnly view a b → LookCause view end b c → LookCause view end a c
  look_cause ends.Disk a b c p cause = one_rose_after view (disks_of a) (disks_of b) (disks_of c) p.goes_on cause
  look_cause ends.Memory a b c p cause = tt
  look_cause ends.Served a b c p cause = cause
  look_cause ends.Link a b c p cause = cause
  look_cause ends.Full a b c p cause = cause
  look_cause ends.Sink a b c p cause = cause

  -- a look after a look ended
  pub stops_behind : (end : TurnEnd) (a b c : KeptView D) → LooksOnly view a b → LookStops view end b c → LookStops view end a c
  stops_behind end a b c p q = record {
    goes_on = all_go_on_then view (disks_of a) (disks_of b) (disks_of c) p.goes_on q.goes_on;
    leaves = λ honest.
        subst (λ (n : Node). Survives view (header_of a.node.control) a.node.control.me (disks_of c) n) (p.node honest)
        (named (λ h me. Survives view h me (disks_of c) (node_of b)) a b p.same (q.leaves (all_honest view (disks_of a) (disks_of b) p.goes_on honest)));
    moments = behind_looks a b c p q.moments;
    cause = look_cause end a b c p q.cause;
  }

  -- memory ran out in a look at an open node
  pub memory_looks : (k : KeptView D) → (IsHonest view k → NodeSurvives view k (node_of k)) → LookStops view ends.Memory k k
  memory_looks k survives = record { goes_on = go_on_none view (disks_of k); leaves = survives; moments = λ honest. (0, refl); cause = tt }

  -- a call that changed nothing
  pub looked : (old new : KeptView D) → old.closed ≡ false → new.closed ≡ false → StaysTheSame view old new → LooksOnly view old new
  looked old new was_open is_open same = record {
    is_open = is_open;
    same = record { me = ap (λ (n : Control). n.me) same.nothing.control; header = ap header_of same.nothing.control };
    goes_on = same.goes_on;
    node = same.node;
    generation = λ honest. omega (arith, same.nothing.store.generation);
    moments = λ honest. one_look view (header_of old.node.control) old.node.control.me (node_of old) (disks_of old) (disks_of new) same.goes_on (same.any_moment was_open honest);
  }
