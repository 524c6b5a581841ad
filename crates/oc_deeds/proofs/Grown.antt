-- The groups of a node only grow, whatever the node does.
use Rattle.std.proofs.Common.{◌≡◌, ℕ, ◌-◌, Bool, true, false, if◌then◌else◌, Option, None, Some, List, [], ◌∷◌, ◌++◌, length, drop, refl, sym, ap, ◌∙◌}
use Rattle.std.proofs.lemmas.List.{append_assoc, append-nil}
use Rattle.oc_base.specs.declared.group.Group.{Group}
use Rattle.oc_base.specs.Groups.{bytes_of, group_of, group_or_empty, or_empty, shelf, with_group}
use Rattle.oc_base.specs.Named.{same_name}
use Rattle.oc_base.proofs.NameOrder.{names_equal}
use Rattle.oc_model.proofs.Groups.{group_of-with_group, group_or_empty-name}
use Rattle.oc_model.specs.Node.{Node}
use Rattle.oc_model.specs.Step.{Piece, grown, kept_at, piece_of, plan, step}
use Rattle.oc_model.specs.declared.input.Input.{Input}
use Rattle.oc_deeds.specs.Deeds.{Accepts, BreaksOff, Deed, Dials, Drops, Gives, Keeps, LaysAside, Looks, Notes, Permits, Probes, Reads, Refuses, Rejects, Replies, Rereads, Running, Says, Sees, Takes, Tells, Waits, after, after_all}

-- the bytes of each group are a beginning of its bytes later
abbrev pub Grows : List Group → List Group → Type 0
Grows now later = (g : List ℕ) → (more : List ℕ) × (bytes_of g later ≡ bytes_of g now ++ more)

pub grows_none : (now : List Group) → Grows now now
grows_none now = λ g. ([], sym (append-nil (bytes_of g now)))

pub grows_then : (a b c : List Group) → Grows a b → Grows b c → Grows a c
grows_then a b c x y = λ g.
    let p = x g in
    let q = y g in
    (p.0 ++ q.0, q.1 ∙ ap (λ (bytes : List ℕ). bytes ++ q.0) (p.1) ∙ append_assoc (bytes_of g a) (p.0) (q.0))

grows_with : (p : Piece) (at : ℕ) (closes : Bool) (ks : List Group) → Grows ks (with_group (grown (group_or_empty p.group ks) at p.bytes closes) ks)
grows_with p at closes ks = λ g. by_name g (same_name g k.name) refl
  where
    k : Group
    k = grown (group_or_empty p.group ks) at p.bytes closes

    found : (g : List ℕ) (b : Bool) → same_name g k.name ≡ b → bytes_of g (with_group k ks) ≡ (or_empty g (if b then Some k else group_of g ks)).bytes
    found g b is =
        ap (λ (o : Option Group). (or_empty g o).bytes) (group_of-with_group g k ks)
        ∙ ap (λ (x : Bool). (or_empty g (if x then Some k else group_of g ks)).bytes) is

    by_name : (g : List ℕ) (b : Bool) → same_name g k.name ≡ b → (more : List ℕ) × (bytes_of g (with_group k ks) ≡ bytes_of g ks ++ more)
    by_name g true is =
        let same : g ≡ p.group = names_equal g k.name is ∙ group_or_empty-name p.group ks in
        let more : List ℕ = drop (length (group_or_empty p.group ks).bytes - at) p.bytes in
        (more, found g true is ∙ ap (λ (x : List ℕ). bytes_of x ks ++ more) (sym same))
    by_name g false is = ([], found g false is ∙ sym (append-nil (bytes_of g ks)))

grows_kept : (at : Option ℕ) (ks : List Group) (p : Piece) (closes : Bool) → Grows ks (kept_at at ks p closes)
grows_kept None ks p closes = grows_none ks
grows_kept (Some at) ks p closes = grows_with p at closes ks

grows_step : (n : Node) (i : Input) → Grows n.groups (step n i).node.groups
grows_step n i = let o = plan n.control (shelf n.groups) i in grows_kept o.keeps n.groups (piece_of i) o.seals

-- a deed leaves each group at least the bytes that it had
pub grows_after : (d : Deed) (a : Running) → Grows a.node.groups (after d a).node.groups
grows_after (Takes i) a = grows_step a.node i
grows_after (Accepts i) a = grows_step a.node i
grows_after (Sees e wait bytes) a = grows_none a.node.groups
grows_after (Reads t) a = grows_none a.node.groups
grows_after (Tells t) a = grows_none a.node.groups
grows_after (Says text) a = grows_none a.node.groups
grows_after (Notes why) a = grows_none a.node.groups
grows_after (Permits c) a = grows_none a.node.groups
grows_after (Waits w) a = grows_none a.node.groups
grows_after (Replies r response now) a = grows_none a.node.groups
grows_after (Refuses c count why) a = grows_none a.node.groups
grows_after (Rejects fault) a = grows_none a.node.groups
grows_after (BreaksOff c) a = grows_none a.node.groups
grows_after (Gives p now) a = grows_none a.node.groups
grows_after (LaysAside p) a = grows_none a.node.groups
grows_after (Drops c told) a = grows_none a.node.groups
grows_after (Dials place m d) a = grows_none a.node.groups
grows_after (Probes peer d now) a = grows_none a.node.groups
grows_after (Looks look) a = grows_none a.node.groups
grows_after (Rereads config) a = grows_none a.node.groups
grows_after (Keeps why) a = grows_none a.node.groups

pub grows_all : (ds : List Deed) (a : Running) → Grows a.node.groups (after_all ds a).node.groups
grows_all [] a = grows_none a.node.groups
grows_all (d ∷ ds) a = grows_then a.node.groups (after d a).node.groups (after_all ds (after d a)).node.groups (grows_after d a) (grows_all ds (after d a))
