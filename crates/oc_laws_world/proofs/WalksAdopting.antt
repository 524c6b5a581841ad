-- Rule 7, answer an ask, consists of the small changes.
use Rattle.std.proofs.Common.{◌≡◌, ℕ, ◌+◌, ◌<◌, Bool, true, false, not, ◌&&◌, ◌||◌, ◌==◌, nat_lt, if◌then◌else◌, Option, Some, None, List, refl, ap, ◌∙◌, arith, eq-eqb, ltb-false}
use Rattle.std.proofs.lemmas.Bool.{cond_both, and_parts}
use Rattle.oc_base.specs.declared.rank.Rank.{Rank}
use Rattle.oc_base.specs.declared.refusal.Refusal.{Refusal}
use Rattle.oc_base.specs.declared.refusal.Refusal.TheVariants as refusals
use Rattle.oc_model.specs.declared.message.Body.{Body}
use Rattle.oc_model.specs.declared.message.Body.TheVariants as bodies
use Rattle.oc_model.specs.declared.message.Message.{Message}
use Rattle.oc_model.specs.declared.mode.Mode.TheVariants as modes
use Rattle.oc_model.specs.declared.record.Record.TheVariants as records
use Rattle.oc_model.specs.Adopting.{in_tree, is_acting, raises, raises_over, host, birth, has_lease, is_number, grants, sends_rejoin, adopts, answers_ask, asked}
use Rattle.oc_model.specs.Adoption.{Host, precedes, rank_or_last, adoption_refusal}
use Rattle.oc_model.specs.Leases.{renew}
use Rattle.oc_model.specs.Node.{Control}
use Rattle.oc_model.specs.Numbers.{number_end, raise}
use Rattle.oc_model.specs.Plan.{Plan, write, with_leases}
use Rattle.oc_model.specs.Table.{is_news, lease_number, put}
use Rattle.oc_model.proofs.Ready.{acts_true}
use Rattle.oc_laws_step.proofs.Tables.{newest-put_same}
use Rattle.oc_laws_world.proofs.Machine.{IsMachine, Of}

-- a raised number is greater than the old one
pub raise_above : (e f : ℕ) → raise e ≡ Some f → e < f
raise_above e f h = by_test (e == number_end) h where
  by_test : (b : Bool) → (if b then None else Some (e + 1)) ≡ Some f → e < f
  by_test true g = absurd cc
  by_test false g = let same : e + 1 ≡ f = cc in omega (arith, same)

-- a rank that does not precede another one has an epoch at least as great
late_epoch : (a b : Rank) (f : ℕ) → precedes a b ≡ false → b.epoch < f → a.epoch < f
late_epoch a b f h above = by_test (nat_lt b.epoch a.epoch) refl where
  by_test : (t : Bool) → nat_lt b.epoch a.epoch ≡ t → a.epoch < f
  by_test true e = absurd (cc (h, ap (λ t. t || (a.epoch == b.epoch && nat_lt a.depth b.depth)) e))
  by_test false e = omega (arith, above, ltb-false b.epoch a.epoch e)

-- a node that adopts is in the tree
pub adopter_in_tree : (h : Host) (x : ℕ) (r : Option Rank) → adoption_refusal h x r ≡ None → h.in_tree ≡ true
adopter_in_tree h x r e = by_tests (x == h.me) h.in_tree refl refl where
  by_tests : (a b : Bool) → (x == h.me) ≡ a → h.in_tree ≡ b → h.in_tree ≡ true
  by_tests true b f g = let own : Some refusals.Own ≡ None = rw f at e in absurd cc
  by_tests false true f g = g
  by_tests false false f g = let out : Some refusals.NotJoined ≡ None = rw (f, g) at e in absurd cc

-- the lease that an adoption writes is held
leased_by_birth : (n : Control) (x s : ℕ) → is_news n.kept.table (birth x s n.me) ≡ true → has_lease (record n { kept = record n.kept { table = put n.kept.table (birth x s n.me) } }) x s ≡ true
leased_by_birth n x s news =
    ap (λ k. is_number (lease_number n.me k) s) (newest-put_same n.kept.table (birth x s n.me) x refl)
    ∙ (rw (eq-eqb n.me n.me refl) (eq-eqb s s refl))

module _ (came : ℕ → Body → Type 0) (P : Control → List Message → Type 0) (k : IsMachine came P) where
  -- a root's epoch rises, if there is a greater one
  pub walks_raises : (o : Plan) (e : Option ℕ) → o.node.kept.mode ≡ modes.Acting → ((f : ℕ) → e ≡ Some f → (rank_or_last o.node.kept.rank).epoch < f) → Of P o → Of P (raises o e)
  walks_raises o None acting above h = h
  walks_raises o (Some e) acting above h = k.raises o.node o.sends e acting (above e refl) h

  walks_raises_over : (o : Plan) (x : ℕ) (r : Rank) → Of P o → Of P (raises_over o x r)
  walks_raises_over o x r h =
      let own : Rank = rank_or_last o.node.kept.rank in
      cond_both (is_acting o.node.kept.mode && not (precedes own r) && not (x == o.node.me)) (raises o (raise r.epoch)) o (Of P)
      (λ e.
      let others = and_parts (is_acting o.node.kept.mode && not (precedes own r)) (not (x == o.node.me)) e in
      let both = and_parts (is_acting o.node.kept.mode) (not (precedes own r)) others.0 in
      walks_raises o (raise r.epoch) (acts_true o.node.kept.mode both.0) (λ f g. late_epoch own r f (not_true (precedes own r) both.1) (raise_above r.epoch f g)) h)
      (λ _. h) where
        not_true : (b : Bool) → not b ≡ true → b ≡ false
        not_true true e = absurd cc
        not_true false e = refl

  walks_grants : (o : Plan) (x s : ℕ) (r : Option Rank) → came x (bodies.Ask s r) → in_tree o.node.kept.mode ≡ true → has_lease o.node x s ≡ true → Of P o → Of P (grants o x s)
  walks_grants o x s r came_ask tree leased h =
      let renewed : Plan = with_leases o (renew o.node.leases x o.node.soft.clock) in
      k.says_yes renewed.node renewed.sends x s r came_ask tree leased (k.lists o.node o.sends (renew o.node.leases x o.node.soft.clock) o.node.rates o.node.counts h)

  pub walks_sends_rejoin : (o : Plan) (x s : ℕ) → Of P o → Of P (sends_rejoin o x s)
  walks_sends_rejoin o x s h = k.says o.node o.sends x (bodies.Rejoin s) tt h

  walks_adopts : (o : Plan) (x s : ℕ) (r : Option Rank) → came x (bodies.Ask s r) → in_tree o.node.kept.mode ≡ true → Of P o → Of P (adopts o x s)
  walks_adopts o x s r came_ask tree h =
      let entered : Plan = write o (records.Entry (birth x s o.node.me)) in
      cond_both (has_lease o.node x s) (grants o x s) (if is_news o.node.kept.table (birth x s o.node.me) then grants entered x s else sends_rejoin o x s) (Of P)
      (λ leased. walks_grants o x s r came_ask tree leased h)
      (λ _. cond_both (is_news o.node.kept.table (birth x s o.node.me)) (grants entered x s) (sends_rejoin o x s) (Of P)
      (λ news. walks_grants entered x s r came_ask tree (rw news (leased_by_birth o.node x s news)) (k.adopts o.node o.sends x s r came_ask tree news h))
      (λ _. walks_sends_rejoin o x s h))

  walks_answers_ask : (why : Option Refusal) (o : Plan) (x s : ℕ) (r : Option Rank) → came x (bodies.Ask s r) → (why ≡ None → in_tree o.node.kept.mode ≡ true) → Of P o → Of P (answers_ask why o x s)
  walks_answers_ask None o x s r came_ask tree h = walks_adopts o x s r came_ask (tree refl) h
  walks_answers_ask (Some why) o x s r came_ask tree h = k.says o.node o.sends x (bodies.No s why) tt h

  pub walks_asked : (o : Plan) (x s : ℕ) (r : Option Rank) → came x (bodies.Ask s r) → Of P o → Of P (asked o x s r)
  walks_asked o x s r came_ask h =
      let raised : Plan = raises_over o x (rank_or_last r) in
      walks_answers_ask (adoption_refusal (host raised.node x) x r) raised x s r came_ask (λ e. adopter_in_tree (host raised.node x) x r e) (walks_raises_over o x (rank_or_last r) h)
