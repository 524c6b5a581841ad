-- A join in a world: the node moves beneath a host, the host takes its ask, and the node takes the yes.
use Rattle.std.proofs.Common.{◌≡◌, ℕ, ◌+◌, ◌≤◌, ◌<◌, true, false, nat_lt, Option, Some, None, List, [], ◌∷◌, length, refl, ap, ap₂, sym, subst, ◌∙◌, arith, lt-ltb, ltb-true}
use Rattle.std.proofs.lemmas.Bool.{or_left, leb-false, false_from_ne_true}
use Rattle.oc_base.specs.declared.cert.Cert.{Cert}
use Rattle.oc_base.specs.declared.rank.Rank.{Rank}
use Rattle.oc_base.specs.Rank.{beneath_of}
use Rattle.oc_base.specs.Groups.{shelf}
use Rattle.oc_base.specs.declared.limits.TheConstants.{MAX_DEPTH}
use Rattle.oc_model.specs.declared.event.Act.TheVariants as acts
use Rattle.oc_model.specs.declared.input.Input.TheVariants as inputs
use Rattle.oc_model.specs.declared.message.Body.TheVariants.{Ask, Yes}
use Rattle.oc_model.specs.declared.message.Message.{Message}
use Rattle.oc_model.specs.declared.mode.Mode.TheVariants.{Asking, Joined}
use Rattle.oc_model.specs.Adopting.{birth, host, has_lease, is_number}
use Rattle.oc_model.specs.Adoption.{rank_or_last, precedes_any, adoption_refusal}
use Rattle.oc_model.specs.Asking.{ancestors_by}
use Rattle.oc_model.specs.Chains.{IsUp}
use Rattle.oc_model.specs.ClaimsTree.{table_of, seq_of}
use Rattle.oc_model.specs.Heal.{asks, joins}
use Rattle.oc_model.specs.Node.{Header, Control}
use Rattle.oc_model.specs.Numbers.{number_end}
use Rattle.oc_model.specs.Plan.{Plan, begun, is_member}
use Rattle.oc_model.specs.Ready.{HoldsLease}
use Rattle.oc_model.specs.Runs.{Run, delivers_last}
use Rattle.oc_model.specs.Step.{plan, step}
use Rattle.oc_model.specs.Table.{newest, is_news, is_news_to, leased_by, merge}
use Rattle.oc_model.specs.World.{World, node, is_up, mode_of, after_act}
use Rattle.oc_model.proofs.Rules.{keeps_relocate, keeps_asked}
use Rattle.oc_laws_world.specs.Ranks.{own_rank}
use Rattle.oc_laws_world.proofs.Lifts.{control_of}
use Rattle.oc_laws_tree.proofs.Rising.{row_goes}
use Rattle.oc_laws_tree.proofs.Rows.{lease_row}
use Rattle.oc_laws_tree.proofs.Asks.{SendsAsk, move_sends, raised_host, HasRaised, MayAdopt, TakesAsk, ask_taken, ask_refused, TakesYes, yes_taken}
use Rattle.oc_laws_tree.proofs.CheckIns.{Goes, act_goes, IsLast, last_goes, goes_last, dry, dry_sends, me_is, lease_test}
use Rattle.oc_laws_tree.proofs.Checks.{from_to, HasSameRest}
use Rattle.oc_laws_tree.proofs.Core.{Core, core_of, asking}
use Rattle.oc_laws_tree.proofs.Held.{tree_of}
use Rattle.oc_laws_tree.proofs.Reached.{Reached, reached_act}
use Rattle.oc_laws_tree.proofs.CheckedIn.{reached_delivers, number_held}

-- The three acts

pub record MovesAt (w : World) (x q : ℕ) (v : World) : Type 0 where
  pub core : core_of (control_of v x) ≡ asking (core_of (control_of w x)) q
  pub rest : HasSameRest (control_of w x) (control_of v x)
  pub others : (y : ℕ) → (x ≡ y → ⊥) → control_of v y ≡ control_of w y
  pub up : (y : ℕ) → is_up v y ≡ is_up w y
  pub last : IsLast v (from_to x q (Ask (seq_of w x + 1) (own_rank w x)))

-- x can move beneath q
pub record CanMove (w : World) (x q : ℕ) : Type 0 where
  pub up : IsUp w x
  pub other : x ≡ q → ⊥
  pub first : x ≡ 1 → ⊥
  pub earlier : is_member (control_of w x) ≡ true → q ≤ x
  pub more : seq_of w x < number_end

moves_at : (w : World) (x q : ℕ) → CanMove w x q → MovesAt w x q (after_act w (acts.At x (inputs.Relocate q)))
moves_at w x q can =
    let n : Control = control_of w x in
    let v : World = after_act w (acts.At x (inputs.Relocate q)) in
    let o : Plan = plan n (shelf (node w x).groups) (inputs.Relocate q) in
    let goes : Goes w x o.node (step (node w x) (inputs.Relocate q)).sends v = act_goes w x (inputs.Relocate q) can.up in
    let sends : SendsAsk n q o = move_sends n q (λ e. can.other (sym (e ∙ me_is w x))) (λ e. can.first (sym (me_is w x) ∙ e))
    (λ member. false_from_ne_true (nat_lt n.me q) (λ more. let less : n.me < q = ltb-true n.me q more in absurd (omega (arith, less, me_is w x, can.earlier member))))
    (λ e. omega (arith, e, can.more)) in
    let all : (step (node w x) (inputs.Relocate q)).sends ≡ o.sends = dry_sends (node w x) (inputs.Relocate q) (keeps_relocate (shelf (node w x).groups) (λ p. p.wants ≡ None) (dry (shelf (node w x).groups)) (begun n) q refl) in
    record {
      core = ap core_of goes.here ∙ sends.core;
      rest = subst (λ (m : Control). HasSameRest n m) (sym goes.here) sends.rest;
      others = goes.others;
      up = goes.up;
      last = goes_last w x o.node (step (node w x) (inputs.Relocate q)).sends _ v goes (all ∙ (sends.sends ∙ ap (λ (y : ℕ). from_to y q (Ask (seq_of w x + 1) (own_rank w x)) ∷ []) (me_is w x)));
    }

-- the host q, with its epoch raised as in o, takes the ask of x
pub record AdoptsAt (w : World) (q x seq : ℕ) (o : Plan) (v : World) : Type 0 where
  pub core : core_of (control_of v q) ≡ record (core_of (control_of w q)) { rank = o.node.kept.rank }
  pub table : table_of v q ≡ merge (table_of w q) (birth x seq q)
  pub others : (y : ℕ) → (q ≡ y → ⊥) → control_of v y ≡ control_of w y
  pub up : (y : ℕ) → is_up v y ≡ is_up w y
  pub last : IsLast v (from_to q x (Yes seq (rank_or_last o.node.kept.rank) (control_of w q).kept.ancestors))

-- the host has never heard of this ask number
pub record IsNew (n : Control) (q x seq : ℕ) : Type 0 where
  pub fresh : has_lease n x seq ≡ false
  pub news : is_news n.kept.table (birth x seq q) ≡ true

adopts_at : (w : World) (q x seq : ℕ) (r : Option Rank) (o : Plan) → IsLast w (from_to x q (Ask seq r)) → IsUp w q → raised_host (control_of w q) x r ≡ o → HasRaised (control_of w q) o → MayAdopt o.node x r → IsNew (control_of w q) q x seq
    → AdoptsAt w q x seq o (delivers_last w).world
adopts_at w q x seq r o last up raised has may new =
    let n : Control = control_of w q in
    let v : World = (delivers_last w).world in
    let m : Message = from_to x q (Ask seq r) in
    let p : Plan = plan n (shelf (node w q).groups) (inputs.Delivered m) in
    let goes : Goes w q p.node (step (node w q) (inputs.Delivered m)).sends v = last_goes w m last up in
    let me : o.node.me ≡ n.me = ap (λ (k : Core). k.me) has.core in
    let ancestors : o.node.kept.ancestors ≡ n.kept.ancestors = ap (λ (k : Core). k.ancestors) has.core in
    let fresh : has_lease o.node x seq ≡ false = ap₂ (λ (t : List Cert) (y : ℕ). is_number (leased_by t y x) seq) has.rest.table me ∙ new.fresh in
    let news : is_news o.node.kept.table (birth x seq o.node.me) ≡ true = ap₂ (λ (t : List Cert) (y : ℕ). is_news t (birth x seq y)) has.rest.table (me ∙ me_is w q) ∙ new.news in
    let takes : TakesAsk o.node x seq p = ask_taken n x seq r o raised has.sends may fresh news in
    let all : (step (node w q) (inputs.Delivered m)).sends ≡ p.sends = dry_sends (node w q) (inputs.Delivered m) (keeps_asked (shelf (node w q).groups) (λ k. k.wants ≡ None) (dry (shelf (node w q).groups)) (begun n) x seq r refl) in
    let said : from_to o.node.me x (Yes seq (rank_or_last o.node.kept.rank) o.node.kept.ancestors) ≡ from_to q x (Yes seq (rank_or_last o.node.kept.rank) n.kept.ancestors) =
    ap₂ (λ (y : ℕ) (xs : List ℕ). from_to y x (Yes seq (rank_or_last o.node.kept.rank) xs)) (me ∙ me_is w q) ancestors in
    record {
      core = ap core_of goes.here ∙ (takes.core ∙ has.core);
      table = ap (λ (k : Control). k.kept.table) goes.here ∙ (takes.table ∙ ap₂ (λ (t : List Cert) (y : ℕ). merge t (birth x seq y)) has.rest.table (me ∙ me_is w q));
      others = goes.others;
      up = goes.up;
      last = goes_last w q p.node (step (node w q) (inputs.Delivered m)).sends _ v goes (all ∙ (takes.sends ∙ ap (λ (k : Message). k ∷ []) said));
    }

-- the host refuses the ask
record RefusesAt (w : World) (q : ℕ) (o : Plan) (v : World) : Type 0 where
  here : control_of v q ≡ o.node
  others : (y : ℕ) → (q ≡ y → ⊥) → control_of v y ≡ control_of w y
  up : (y : ℕ) → is_up v y ≡ is_up w y

refuses_at : (w : World) (q x seq : ℕ) (r : Option Rank) (o : Plan) → IsLast w (from_to x q (Ask seq r)) → IsUp w q → raised_host (control_of w q) x r ≡ o → (adoption_refusal (host o.node x) x r ≡ None → ⊥) → RefusesAt w q o (delivers_last w).world
refuses_at w q x seq r o last up raised refuses =
    let m : Message = from_to x q (Ask seq r) in
    let goes : Goes w q (step (node w q) (inputs.Delivered m)).node.control (step (node w q) (inputs.Delivered m)).sends (delivers_last w).world = last_goes w m last up in
    record { here = goes.here ∙ ask_refused (control_of w q) x seq r o raised refuses; others = goes.others; up = goes.up }

-- x takes the yes
record JoinsAt (w : World) (x q : ℕ) (told : Rank) (xs : List ℕ) (v : World) : Type 0 where
  core : core_of (control_of v x) ≡ record (core_of (control_of w x)) { mode = Joined q; rank = Some (beneath_of told); ancestors = ancestors_by q xs; wish = None }
  rest : HasSameRest (control_of w x) (control_of v x)
  others : (y : ℕ) → (x ≡ y → ⊥) → control_of v y ≡ control_of w y
  up : (y : ℕ) → is_up v y ≡ is_up w y

joins_at : (w : World) (x q : ℕ) (told : Rank) (xs : List ℕ) → IsLast w (from_to q x (Yes (seq_of w x) told xs)) → IsUp w x → mode_of w x ≡ Asking q → 1 ≤ seq_of w x → told.depth < MAX_DEPTH → precedes_any told (own_rank w x) ≡ true
    → JoinsAt w x q told xs (delivers_last w).world
joins_at w x q told xs last up asks some shallow above =
    let n : Control = control_of w x in
    let m : Message = from_to q x (Yes (seq_of w x) told xs) in
    let goes : Goes w x (step (node w x) (inputs.Delivered m)).node.control (step (node w x) (inputs.Delivered m)).sends (delivers_last w).world = last_goes w m last up in
    let takes : TakesYes n q told xs (plan n (shelf (node w x).groups) (inputs.Delivered m)) = yes_taken n q told xs asks (λ e. omega (arith, e, some)) shallow above in
    record {
      core = ap core_of goes.here ∙ takes.core;
      rest = subst (λ (k : Control). HasSameRest n k) (sym goes.here) takes.rest;
      others = goes.others;
      up = goes.up;
    }

-- An ask number that no node has heard of

pub seq_bound : (h : Header) (w : World) (q x : ℕ) (k : Cert) → Reached h w → newest (table_of w q) x ≡ Some k → k.seq ≤ seq_of w x
seq_bound h w q x k reached found = (tree_of h w reached).asks x k.seq k.parent (row_goes w q x k found)

pub is_new : (h : Header) (w : World) (q x seq : ℕ) → Reached h w → seq_of w x < seq → IsNew (control_of w q) q x seq
is_new h w q x seq reached later = record {
  fresh = false_from_ne_true (has_lease (control_of w q) x seq) (λ e. held (number_held (leased_by (table_of w q) q x) seq (sym (lease_test w q x seq) ∙ e)));
  news = by_row (newest (table_of w q) x) refl;
} where
  held : HoldsLease w q x seq → ⊥
  held leased = let row = lease_row (table_of w q) q x seq leased in let bound : row.0.seq ≤ seq_of w x = seq_bound h w q x row.0 reached row.1.found in omega (arith, bound, row.1.seq, later)

  by_row : (k : Option Cert) → newest (table_of w q) x ≡ k → is_news_to k (birth x seq q) ≡ true
  by_row None e = refl
  by_row (Some k) e =
      let bound : k.seq ≤ seq_of w x = seq_bound h w q x k reached e in
      or_left (nat_lt k.seq seq) _ (lt-ltb k.seq seq (omega (arith, bound, later)))

-- All acts together

-- x has come beneath q, whose epoch is raised as in o, in three acts
pub record ComesBeneath (h : Header) (w : World) (x q : ℕ) (o : Plan) (r : Run) : Type 0 where
  pub acts : length r.acts ≡ 3
  pub reached : Reached h r.world
  pub up : (y : ℕ) → is_up r.world y ≡ is_up w y
  pub others : (y : ℕ) → (x ≡ y → ⊥) → (q ≡ y → ⊥) → control_of r.world y ≡ control_of w y
  pub child : core_of (control_of r.world x) ≡ record (asking (core_of (control_of w x)) q) {
    mode = Joined q;
    rank = Some (beneath_of (rank_or_last o.node.kept.rank));
    ancestors = ancestors_by q (control_of w q).kept.ancestors;
    wish = None;
  }
  pub child_table : table_of r.world x ≡ table_of w x
  pub host : core_of (control_of r.world q) ≡ record (core_of (control_of w q)) { rank = o.node.kept.rank }
  pub table : table_of r.world q ≡ merge (table_of w q) (birth x (seq_of w x + 1) q)

pub comes_beneath : (h : Header) (w : World) (x q : ℕ) (o : Plan) → Reached h w → CanMove w x q → IsUp w q → raised_host (control_of w q) x (own_rank w x) ≡ o → HasRaised (control_of w q) o → MayAdopt o.node x (own_rank w x)
    → ComesBeneath h w x q o (joins q x w)
comes_beneath h w x q o reached can up raised has may =
    let s : ℕ = seq_of w x + 1 in
    let w1 : World = after_act w (acts.At x (inputs.Relocate q)) in
    let first : MovesAt w x q w1 = moves_at w x q can in
    let host1 : control_of w1 q ≡ control_of w q = first.others q can.other in
    let new : IsNew (control_of w1 q) q x s = subst (λ (k : Control). IsNew k q x s) (sym host1) (is_new h w q x s reached (omega arith)) in
    let w2 : World = (delivers_last w1).world in
    let second : AdoptsAt w1 q x s o w2 = adopts_at w1 q x s (own_rank w x) o first.last (first.up q ∙ up)
    (ap (λ (k : Control). raised_host k x (own_rank w x)) host1 ∙ raised) (subst (λ (k : Control). HasRaised k o) (sym host1) has) may new in
    let child2 : control_of w2 x ≡ control_of w1 x = second.others x (λ e. can.other (sym e)) in
    let core2 : core_of (control_of w2 x) ≡ asking (core_of (control_of w x)) q = ap core_of child2 ∙ first.core in
    let told : Rank = rank_or_last o.node.kept.rank in
    let xs : List ℕ = (control_of w1 q).kept.ancestors in
    let seq2 : seq_of w2 x ≡ s = ap (λ (k : Core). k.seq) core2 in
    let w3 : World = (delivers_last w2).world in
    let third : JoinsAt w2 x q told xs w3 = joins_at w2 x q told xs (subst (λ (k : ℕ). IsLast w2 (from_to q x (Yes k told xs))) (sym seq2) second.last) (second.up x ∙ (first.up x ∙ can.up))
    (ap (λ (k : Core). k.mode) core2) (omega (arith, seq2)) (leb-false MAX_DEPTH told.depth may.shallow)
    (ap (precedes_any told) (ap (λ (k : Core). k.rank) core2) ∙ may.above) in
    let host3 : control_of w3 q ≡ control_of w2 q = third.others q can.other in
    record {
      acts = refl;
      reached = reached_delivers h w2 (reached_delivers h w1 (reached_act h w (acts.At x (inputs.Relocate q)) reached));
      up = λ y. third.up y ∙ (second.up y ∙ first.up y);
      others = λ y not_x not_q. third.others y not_x ∙ (second.others y not_q ∙ first.others y not_x);
      child = third.core ∙ ap₂ (λ (k : Core) (m : Control). record k { mode = Joined q; rank = Some (beneath_of told); ancestors = ancestors_by q m.kept.ancestors; wish = None }) core2 host1;
      child_table = third.rest.table ∙ (ap (λ (k : Control). k.kept.table) child2 ∙ first.rest.table);
      host = ap core_of host3 ∙ (second.core ∙ ap (λ (k : Control). record (core_of k) { rank = o.node.kept.rank }) host1);
      table = ap (λ (k : Control). k.kept.table) host3 ∙ (second.table ∙ ap (λ (k : Control). merge k.kept.table (birth x s q)) host1);
    }

-- x has asked q in vain, whose epoch is raised as in o, in two acts
pub record AsksInVain (h : Header) (w : World) (x q : ℕ) (o : Plan) (r : Run) : Type 0 where
  pub acts : length r.acts ≡ 2
  pub reached : Reached h r.world
  pub up : (y : ℕ) → is_up r.world y ≡ is_up w y
  pub others : (y : ℕ) → (x ≡ y → ⊥) → (q ≡ y → ⊥) → control_of r.world y ≡ control_of w y
  pub child : core_of (control_of r.world x) ≡ asking (core_of (control_of w x)) q
  pub child_table : table_of r.world x ≡ table_of w x
  pub host : core_of (control_of r.world q) ≡ record (core_of (control_of w q)) { rank = o.node.kept.rank }
  pub table : table_of r.world q ≡ table_of w q

pub asks_in_vain : (h : Header) (w : World) (x q : ℕ) (o : Plan) → Reached h w → CanMove w x q → IsUp w q → raised_host (control_of w q) x (own_rank w x) ≡ o → HasRaised (control_of w q) o → (adoption_refusal (host o.node x) x (own_rank w x) ≡ None → ⊥)
    → AsksInVain h w x q o (asks q x w)
asks_in_vain h w x q o reached can up raised has refuses =
    let s : ℕ = seq_of w x + 1 in
    let w1 : World = after_act w (acts.At x (inputs.Relocate q)) in
    let first : MovesAt w x q w1 = moves_at w x q can in
    let host1 : control_of w1 q ≡ control_of w q = first.others q can.other in
    let w2 : World = (delivers_last w1).world in
    let second : RefusesAt w1 q o w2 = refuses_at w1 q x s (own_rank w x) o first.last (first.up q ∙ up) (ap (λ (k : Control). raised_host k x (own_rank w x)) host1 ∙ raised) refuses in
    let child2 : control_of w2 x ≡ control_of w1 x = second.others x (λ e. can.other (sym e)) in
    record {
      acts = refl;
      reached = reached_delivers h w1 (reached_act h w (acts.At x (inputs.Relocate q)) reached);
      up = λ y. second.up y ∙ first.up y;
      others = λ y not_x not_q. second.others y not_q ∙ first.others y not_x;
      child = ap core_of child2 ∙ first.core;
      child_table = ap (λ (k : Control). k.kept.table) child2 ∙ first.rest.table;
      host = ap core_of second.here ∙ has.core;
      table = ap (λ (k : Control). k.kept.table) second.here ∙ has.rest.table;
    }
