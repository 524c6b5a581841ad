-- The control rules leave content unchanged: they keep none, send no chunk, and a fetch of theirs names the whole shelf.
use Rattle.std.proofs.Common.{◌≡◌, ℕ, None, List, [], ◌∷◌, refl, ap, sym, subst}
use Rattle.std.specs.List.{AllByRecursion}
use Rattle.oc_base.specs.declared.shelf.Shelf.{Shelf}
use Rattle.oc_base.specs.declared.group.Group.{Group}
use Rattle.oc_model.specs.declared.input.Input.{Input}
use Rattle.oc_model.specs.declared.message.Body.{Body}
use Rattle.oc_model.specs.declared.message.Body.TheVariants as bodies
use Rattle.oc_model.specs.declared.message.Message.{Message}
use Rattle.oc_base.specs.Groups.{shelf, IsAscending}
use Rattle.oc_model.specs.Node.{Control, Node}
use Rattle.oc_model.specs.Plan.{Plan, begun}
use Rattle.oc_model.specs.Step.{piece_of, kept_at, filled, finished}
use Rattle.oc_model.proofs.Lists.{all_weaker, all_append}
use Rattle.oc_model.proofs.Rules.{IsPlain, IsClosed}
use Rattle.oc_laws_world.proofs.Fair.{Ready, MaySend, Fair, fair_still}
use Rattle.oc_laws_world.proofs.Truth.{IsTrue, shelf_true}

-- a message of the control rules of this node
abbrev pub IsPlainSend : ℕ → List Shelf → Message → Type 0
IsPlainSend me ls m = (m.from ≡ me) × IsPlain ls m.body

-- a step under way that has left content unchanged
pub record IsQuiet (x : ℕ) (ls : List Shelf) (o : Plan) : Type 0 where
  pub me : o.node.me ≡ x
  pub keeps : o.keeps ≡ None
  pub wants : o.wants ≡ None
  pub sends : AllByRecursion (IsPlainSend x ls) o.sends

-- a step under way at its beginning
pub quiet_begun : (n : Control) (ls : List Shelf) → IsQuiet n.me ls (begun n)
quiet_begun n ls = record { me = refl; keeps = refl; wants = refl; sends = tt }

-- each change of the control rules leaves content unchanged
pub quiet_closed : (me : ℕ) (ls : List Shelf) → IsClosed ls (IsQuiet me ls)
quiet_closed me ls = record {
  write = λ o r h. record { me = h.me; keeps = h.keeps; wants = h.wants; sends = h.sends };
  send = λ o p b plain h. record {
    me = h.me;
    keeps = h.keeps;
    wants = h.wants;
    sends = all_append (IsPlainSend me ls) o.sends (record { from = o.node.me; to = p; body = b } ∷ []) h.sends ((h.me, plain), tt);
  };
  answers = λ o a h. record { me = h.me; keeps = h.keeps; wants = h.wants; sends = h.sends };
  soft = λ o s e h. record { me = h.me; keeps = h.keeps; wants = h.wants; sends = h.sends };
  lists = λ o leases rates counts h. record { me = h.me; keeps = h.keeps; wants = h.wants; sends = h.sends };
}

-- the messages of the control rules are true
plain_true : (s ks : List Group) (b : Body) → IsAscending ks → IsPlain (shelf ks) b → IsTrue s ks b
plain_true s ks (bodies.Chunk g start bytes last) up plain = absurd plain
plain_true s ks (bodies.Fetch have) up plain = subst (λ ls. IsTrue s ks (bodies.Fetch ls)) (sym plain) (shelf_true s ks up)
plain_true s ks b up plain = record { source = tt; sender = tt }

-- a step that has left content unchanged keeps it true
pub quiet_fair : (s : List Group) (n : Node) (i : Input) (o : Plan) → Ready s n → IsQuiet n.control.me (shelf n.groups) o → Fair s s n (finished n i o)
quiet_fair s n i o ready quiet =
    let unkept : kept_at o.keeps n.groups (piece_of i) o.seals ≡ n.groups = ap (λ k. kept_at k n.groups (piece_of i) o.seals) quiet.keeps in
    let unfilled : filled o.wants n.groups o.sends ≡ o.sends = ap (λ w. filled w n.groups o.sends) quiet.wants in
    let true_sends : AllByRecursion (MaySend s n.control.me n.groups) o.sends =
    all_weaker (IsPlainSend n.control.me (shelf n.groups)) (MaySend s n.control.me n.groups) (λ m h. (h.0, plain_true s n.groups m.body ready.holds.ascend h.1)) o.sends quiet.sends in
    fair_still s n (finished n i o) ready quiet.me unkept (subst (λ ms. AllByRecursion (MaySend s n.control.me n.groups) ms) (sym unfilled) true_sends)
