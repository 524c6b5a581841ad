-- The answer to an ask: a yes that the asker takes, a no, or a call to ask anew.
use Rattle.std.proofs.Common.{◌≡◌, ℕ, Bool, true, false, not, ◌&&◌, ◌==◌, nat_lt, nat_le, if◌then◌else◌, Option, Some, None, List, [], ◌∷◌, ◌++◌, refl, sym, subst, arith}
use Rattle.std.proofs.lemmas.Bool.{leb-false, lt-ltb}
use Rattle.oc_base.specs.declared.cert.Cert.{Cert}
use Rattle.oc_base.specs.declared.limits.TheConstants.{MAX_DEPTH}
use Rattle.oc_base.specs.declared.rank.Rank.{Rank}
use Rattle.oc_base.specs.declared.refusal.Refusal.{Refusal}
use Rattle.oc_base.specs.declared.refusal.Refusal.TheVariants as refusals
use Rattle.oc_base.specs.declared.shelf.Shelf.{Shelf}
use Rattle.oc_base.specs.Groups.{shelf}
use Rattle.oc_model.specs.declared.input.Input.TheVariants.{Delivered}
use Rattle.oc_model.specs.declared.message.Body.{Body}
use Rattle.oc_model.specs.declared.message.Body.TheVariants as bodies
use Rattle.oc_model.specs.declared.message.Message.{Message}
use Rattle.oc_model.specs.declared.record.Record.TheVariants as records
use Rattle.oc_model.specs.Adopting.{is_acting, raises, raises_over, host, birth, has_lease, grants, sends_rejoin, adopts, answers_ask, asked}
use Rattle.oc_model.specs.Adoption.{Host, precedes, precedes_any, rank_or_last, chain_refusal, adoption_refusal}
use Rattle.oc_model.specs.Node.{Node}
use Rattle.oc_model.specs.Numbers.{IsAmong, has, raise}
use Rattle.oc_model.specs.Plan.{Plan, begun, write}
use Rattle.oc_model.specs.Step.{step}
use Rattle.oc_model.specs.Table.{is_news}
use Rattle.oc_model.proofs.Rules.{either, keeps_asked}
use Rattle.oc_laws_tree.proofs.CheckIns.{dry, dry_sends}
use Rattle.oc_laws_rest.proofs.Said.{among_last, Answers}

-- a host that does not refuse has a place for a child, and its rank precedes that of the asker
adopter_precedes : (h : Host) (x : ℕ) (r : Option Rank) → adoption_refusal h x r ≡ None → (nat_lt h.rank.depth MAX_DEPTH ≡ true) × (precedes_any h.rank r ≡ true)
adopter_precedes h x r e = by_tests (x == h.me) h.in_tree (has h.ancestors x) (nat_le MAX_DEPTH h.rank.depth) refl refl refl refl where
  by_rank : (b : Bool) → precedes_any h.rank r ≡ b → (if b then None else Some refusals.Rank) ≡ None → precedes_any h.rank r ≡ true
  by_rank true g none = g
  by_rank false g none = absurd cc

  by_line : (c : Option Refusal) → chain_refusal h x h.chain_child ≡ c → adoption_refusal h x r ≡ None → nat_le MAX_DEPTH h.rank.depth ≡ false → (x == h.me) ≡ false → h.in_tree ≡ true → has h.ancestors x ≡ false
      → precedes_any h.rank r ≡ true
  by_line (Some why) c none d a b f = let clash : Some why ≡ None = rw (a, b, f, d, c) at none in absurd cc
  by_line None c none d a b f = by_rank (precedes_any h.rank r) refl (rw (a, b, f, d, c) at none)

  by_tests : (a b f d : Bool) → (x == h.me) ≡ a → h.in_tree ≡ b → has h.ancestors x ≡ f → nat_le MAX_DEPTH h.rank.depth ≡ d → (nat_lt h.rank.depth MAX_DEPTH ≡ true) × (precedes_any h.rank r ≡ true)
  by_tests true b f d ea eb ef ed = let clash : Some refusals.Own ≡ None = rw ea at e in absurd cc
  by_tests false false f d ea eb ef ed = let clash : Some refusals.NotJoined ≡ None = rw (ea, eb) at e in absurd cc
  by_tests false true true d ea eb ef ed = let clash : Some refusals.Ancestor ≡ None = rw (ea, eb, ef) at e in absurd cc
  by_tests false true false true ea eb ef ed = let clash : Some refusals.Depth ≡ None = rw (ea, eb, ef, ed) at e in absurd cc
  by_tests false true false false ea eb ef ed =
      (lt-ltb h.rank.depth MAX_DEPTH (omega (arith, leb-false MAX_DEPTH h.rank.depth ed)), by_line (chain_refusal h x h.chain_child) refl e ed ea eb ef)

-- one of these messages answers the ask of x with this number and rank
pub record Replies (p x s : ℕ) (r : Option Rank) (ms : List Message) : Type 0 where
  pub body : Body
  pub answers : Answers body s r
  pub among : IsAmong (record { from = p; to = x; body = body }) ms

module _ (p x s : ℕ) (r : Option Rank) where
  abbrev DoesReply : Plan → Type 0
  DoesReply o = Replies p x s r o.sends

  replies_send : (o : Plan) (b : Body) → o.node.me ≡ p → Answers b s r → Replies p x s r (o.sends ++ record { from = o.node.me; to = x; body = b } ∷ [])
  replies_send o b me is = record {
    body = b;
    answers = is;
    among = subst (λ (y : ℕ). IsAmong (record { from = y; to = x; body = b }) (o.sends ++ record { from = o.node.me; to = x; body = b } ∷ [])) me (among_last o.sends (record { from = o.node.me; to = x; body = b }));
  }

  replies_adopts : (o : Plan) → o.node.me ≡ p → nat_lt (rank_or_last o.node.kept.rank).depth MAX_DEPTH ≡ true → precedes_any (rank_or_last o.node.kept.rank) r ≡ true → DoesReply (adopts o x s)
  replies_adopts o me low before =
      let born : Cert = birth x s o.node.me in
      let entered : Plan = write o (records.Entry born) in
      let yes : Body = bodies.Yes s (rank_or_last o.node.kept.rank) o.node.kept.ancestors in
      either (has_lease o.node x s) DoesReply (grants o x s) (if is_news o.node.kept.table born then grants entered x s else sends_rejoin o x s) (replies_send o yes me (refl, low, before))
      (either (is_news o.node.kept.table born) DoesReply (grants entered x s) (sends_rejoin o x s) (replies_send entered yes me (refl, low, before)) (replies_send o (bodies.Rejoin s) me refl))

  replies_answers : (why : Option Refusal) (o : Plan) → o.node.me ≡ p → adoption_refusal (host o.node x) x r ≡ why → DoesReply (answers_ask why o x s)
  replies_answers (Some why) o me e = replies_send o (bodies.No s why) me refl
  replies_answers None o me e = let may = adopter_precedes (host o.node x) x r e in replies_adopts o me may.0 may.1

  replies_asked : (o : Plan) → o.node.me ≡ p → DoesReply (asked o x s r)
  replies_asked o me =
      let raised : Plan = raises_over o x (rank_or_last r) in
      replies_answers (adoption_refusal (host raised.node x) x r) raised (same_me (raise (rank_or_last r).epoch)) refl where
        same_raised : (e : Option ℕ) → (raises o e).node.me ≡ p
        same_raised None = me
        same_raised (Some n) = me

        same_me : (e : Option ℕ) → (if is_acting o.node.kept.mode && not (precedes (rank_or_last o.node.kept.rank) (rank_or_last r)) && not (x == o.node.me) then raises o e else o).node.me ≡ p
        same_me e = either (is_acting o.node.kept.mode && not (precedes (rank_or_last o.node.kept.rank) (rank_or_last r)) && not (x == o.node.me)) (λ (q : Plan). q.node.me ≡ p) (raises o e) o (same_raised e) me

-- a node that takes an ask answers it
pub step_replies : (n : Node) (x p s : ℕ) (r : Option Rank) → n.control.me ≡ p → Replies p x s r (step n (Delivered (record { from = x; to = p; body = bodies.Ask s r }))).sends
step_replies n x p s r me =
    let ls : List Shelf = shelf n.groups in
    subst (Replies p x s r) (sym (dry_sends n (Delivered (record { from = x; to = p; body = bodies.Ask s r })) (keeps_asked ls (λ o. o.wants ≡ None) (dry ls) (begun n.control) x s r refl)))
    (replies_asked p x s r (begun n.control) me)
