-- Step 6 of settle, level by level: after it nothing waits at any node of a ready tree.
use Rattle.std.proofs.Common.{◌≡◌, ℕ, zero, suc, ◌+◌, ◌*◌, ◌≤◌, ◌<◌, List, [], ◌∷◌, ◌++◌, inl, inr, length, refl, ap, sym, subst, ◌∙◌, ⊎_elim, arith, length-append, append_assoc, eq-eqb, eqb-true}
use Rattle.std.proofs.lemmas.Bool.{cases_eq}
use Rattle.oc_base.specs.declared.cert.Cert.{Cert}
use Rattle.oc_model.specs.declared.event.Act.{Act}
use Rattle.oc_model.specs.Chains.{IsUp, IsTrueChain, HasTrueChain, chain_from}
use Rattle.oc_model.specs.Node.{Header, Log}
use Rattle.oc_model.specs.Ready.{IsReadyUnder}
use Rattle.oc_model.specs.Runs.{Run, rests, followed_by, and_then, for_each}
use Rattle.oc_model.specs.Settle.{tells_while, tells_all, has_length, with_chain_of, deepest_first, all_tell}
use Rattle.oc_model.specs.World.{World, mode_of, up_ids}
use Rattle.oc_model.specs.WorldBounds.{IsOneOf, IsDistinct}
use Rattle.oc_model.proofs.Able.{among_up}
use Rattle.oc_model.proofs.Chains.{chain_unique, chain_short}
use Rattle.oc_model.proofs.Members.{of_filter, in_filter}
use Rattle.oc_laws_world.proofs.Lifts.{control_of}
use Rattle.oc_laws_step.specs.Sound.{IsSoundAs}
use Rattle.oc_laws_tree.specs.Sessions.{log_of}
use Rattle.oc_laws_tree.proofs.SoundNodes.{AreSound}
use Rattle.oc_laws_tree.proofs.Points.{sound_after}
use Rattle.oc_laws_tree.specs.Settling.{batches, waiting_at, acts_to_tell, acts_of_step_six}
use Rattle.oc_laws_tree.proofs.FiveSteps.{HasCalmed, stayed_itself, filter_distinct, up_distinct, up_of, AreTold, AreCurrent}
use Rattle.oc_laws_tree.proofs.Held.{IsHeld}
use Rattle.oc_laws_tree.proofs.Passes.{IsTurn, HasPassed, each_passes}
use Rattle.oc_laws_tree.proofs.ReadyStays.{ready_held, chain_first_up, chain_from-finds}
use Rattle.oc_laws_tree.proofs.Reached.{Reached, of_reached}
use Rattle.oc_laws_tree.proofs.Telling.{TellsAll, tells_while_all}

-- work for two lists in a row is work for the first and then for the second
pub for_each-append : (f : ℕ → World → Run) (xs ys : List ℕ) (w : World) → for_each (xs ++ ys) f w ≡ and_then (for_each xs f w) (for_each ys f)
for_each-append f [] ys w = refl
for_each-append f (x ∷ xs) ys w =
    let first : Run = f x w in
    let rest : Run = for_each xs f first.world in
    ap (followed_by first) (for_each-append f xs ys first.world)
    ∙ ap (λ (as' : List Act). record { acts = as'; world = (for_each ys f rest.world).world }) (sym (append_assoc first.acts rest.acts (for_each ys f rest.world).acts))

acts_to_tell-append : (xs ys : List ℕ) (w : World) → acts_to_tell (xs ++ ys) w ≡ acts_to_tell xs w + acts_to_tell ys (for_each xs tells_all w).world
acts_to_tell-append [] ys w = omega arith
acts_to_tell-append (x ∷ xs) ys w = omega (arith, acts_to_tell-append xs ys (tells_all x w).world)

module _ (h : Header) (u : World) (r : ℕ) (ready : IsReadyUnder u r) where
  -- x has a true chain of this many nodes
  abbrev IsDeep : ℕ → ℕ → Type 0
  IsDeep x n = (c : List ℕ) × IsTrueChain u x r c × (length c ≡ n)

  deep_once : (x m n : ℕ) → IsDeep x m → IsDeep x n → m ≡ n
  deep_once x m n first second = sym first.2 ∙ (ap length (chain_unique u x r r first.0 second.0 first.1 second.1) ∙ second.2)

  all_chains : (x : ℕ) → IsUp u x → HasTrueChain u x r
  all_chains x up = ⊎_elim
      (λ (same : x ≡ r). subst (λ (y : ℕ). HasTrueChain u y r) (sym same) (r ∷ [], (refl, refl, ready.root)))
      (λ other. ready.chains x up other) (cases_eq x r)

  -- each node on a level has a true chain of that length
  level_deep : (n x : ℕ) → IsOneOf x (with_chain_of n u) → IsDeep x n
  level_deep n x one =
      let both = of_filter (λ y. has_length n (chain_from u y)) (up_ids u) x one in
      let chain = all_chains x (up_of u x both.1) in
      (chain.0, chain.1, eqb-true (length chain.0) n (ap (has_length n) (sym (chain_from-finds u x r chain.0 chain.1)) ∙ both.0))

  deep_level : (n x : ℕ) → IsDeep x n → IsOneOf x (with_chain_of n u)
  deep_level n x deep = in_filter (λ y. has_length n (chain_from u y)) (up_ids u) x
      (ap (has_length n) (chain_from-finds u x r deep.0 deep.1) ∙ eq-eqb (length deep.0) n deep.2)
      (among_up u x (chain_first_up u x r deep.0 deep.1))

  -- The turn of one node

  -- x has told all that waited, and nothing new waits at any node on its level or deeper
  record Tells (x n : ℕ) (w : World) (run : Run) : Type 0 where
    acts : length run.acts ≡ 3 * batches (waiting_at w x)
    calmed : HasCalmed h u run.world
    told : (log_of run.world x).waiting ≡ []
    others : (y m : ℕ) → (x ≡ y → ⊥) → IsDeep y m → n ≤ m → log_of run.world y ≡ log_of w y

  -- a node at which nothing waits rests
  tells_none : (x n : ℕ) (w : World) → HasCalmed h u w → (log_of w x).waiting ≡ [] → Tells x n w (tells_all x w)
  tells_none x n w calmed none =
      let still : tells_all x w ≡ rests w = ap (λ (ws : List Cert). tells_while (length ws) x ws w) none in
      let count : batches (waiting_at w x) ≡ 0 = ap (λ (ws : List Cert). batches (length ws)) none in
      subst (Tells x n w) (sym still) record { acts = omega (arith, count); calmed = calmed; told = none; others = λ y m apart deep least. refl }

  tells : (x n : ℕ) (w : World) → HasCalmed h u w → IsDeep x n → Tells x n w (tells_all x w)
  tells x n w calmed ([], chain, long) = absurd chain
  tells x n w calmed (a ∷ [], chain, long) =
      let acts : mode_of w x ≡ _ = (calmed.stayed.steady x).acts chain.2.1 in
      let sound : IsSoundAs (mode_of w x) (control_of w x).kept = (of_reached AreSound sound_after h w calmed.stayed.reached x).kept.mode in
      let empty = subst (λ m. IsSoundAs m (control_of w x).kept) acts sound in
      tells_none x n w calmed (ap (λ (l : Log). l.waiting) empty)
  tells x n w calmed (a ∷ d ∷ ds, chain, long) =
      let held : IsHeld w d x = calmed.stayed.held d x (ready_held u r ready x d chain.1 chain.2) in
      let all : TellsAll h u x d (log_of w x).waiting w (tells_all x w) = tells_while_all h u (waiting_at w x) x d (log_of w x).waiting w refl (omega arith) calmed held in
      record {
        acts = all.acts;
        calmed = all.calmed;
        told = all.told;
        others = λ y m apart deep least. all.others y apart (λ same.
            let parent : m ≡ length (d ∷ ds) = deep_once d m (length (d ∷ ds)) (subst (λ (z : ℕ). IsDeep z m) (sym same) deep) (d ∷ ds, chain.3, refl) in
            absurd (omega (arith, parent, long, least)));
      }

  -- A level

  -- nothing waits at nodes with longer chains
  record AllTell (n : ℕ) (w : World) : Type 0 where
    calmed : HasCalmed h u w
    deeper : (y m : ℕ) → IsDeep y m → n < m → (log_of w y).waiting ≡ []

  abbrev IsOnLevel : ℕ → World → ℕ → Type 0
  IsOnLevel n w y = IsDeep y n

  abbrev HasTold : ℕ → World → ℕ → Type 0
  HasTold n w y = IsDeep y n → (log_of w y).waiting ≡ []

  tell_turn : (n x : ℕ) (w : World) → AllTell n w → IsDeep x n → IsTurn (AllTell n) (IsOnLevel n) (HasTold n) x w (tells_all x w).world
  tell_turn n x w all deep =
      let here : Tells x n w (tells_all x w) = tells x n w all.calmed deep in
      record {
        goes = record {
          calmed = here.calmed;
          deeper = λ y m is more. ap (λ (l : Log). l.waiting) (here.others y m (λ same.
              let even : m ≡ n = deep_once x m n (subst (λ (z : ℕ). IsDeep z m) (sym same) is) deep in
              absurd (omega (arith, even, more))) is (omega (arith, more))) ∙ all.deeper y m is more;
        };
        done = λ is. here.told;
        before = λ y apart is. is;
        after = λ y apart told is. ap (λ (l : Log). l.waiting) (here.others y n apart is (omega arith)) ∙ told is;
      }

  level_acts : (n : ℕ) (xs : List ℕ) (w : World) → AllTell n w → ((x : ℕ) → IsOneOf x xs → IsDeep x n) → length (for_each xs tells_all w).acts ≡ acts_to_tell xs w
  level_acts n [] w all deep = refl
  level_acts n (x ∷ xs) w all deep =
      let here : Tells x n w (tells_all x w) = tells x n w all.calmed (deep x (inl refl)) in
      let turn : IsTurn (AllTell n) (IsOnLevel n) (HasTold n) x w (tells_all x w).world = tell_turn n x w all (deep x (inl refl)) in
      let rest = level_acts n xs (tells_all x w).world turn.goes (λ y one. deep y (inr one)) in
      omega (arith, length-append (tells_all x w).acts (for_each xs tells_all (tells_all x w).world).acts, here.acts, rest)

  -- All levels

  -- nothing waits after the nodes with longer chains and then those with shorter ones have told
  record AllDone (xs : List ℕ) (w : World) (run : Run) : Type 0 where
    acts : length run.acts ≡ acts_to_tell xs w
    all : AllTell 0 run.world

  levels : (reached : Reached h u) (n : ℕ) (w : World) → AllTell n w → AllDone (deepest_first n u) w (for_each (deepest_first n u) tells_all w)
  levels reached zero w all = record { acts = refl; all = all }
  levels reached (suc n) w all =
      let xs : List ℕ = with_chain_of (suc n) u in
      let ys : List ℕ = deepest_first n u in
      let v : World = (for_each xs tells_all w).world in
      let distinct : IsDistinct xs = filter_distinct (λ y. has_length (suc n) (chain_from u y)) (up_ids u) (up_distinct h u reached) in
      let passed : HasPassed tells_all (AllTell (suc n)) (IsOnLevel (suc n)) (HasTold (suc n)) (tell_turn (suc n)) xs w v =
      each_passes tells_all (AllTell (suc n)) (IsOnLevel (suc n)) (HasTold (suc n)) (tell_turn (suc n)) xs w distinct all (λ x one. level_deep (suc n) x one) in
      let next : AllTell n v = record {
        calmed = passed.goes.calmed;
        deeper = λ y m is more. ⊎_elim
            (λ (even : m ≡ suc n). let here : IsDeep y (suc n) = subst (IsDeep y) even is in passed.done y (deep_level (suc n) y here) here)
            (λ apart. passed.goes.deeper y m is (omega (arith, more, apart))) (cases_eq m (suc n));
      } in
      let rest : AllDone ys v (for_each ys tells_all v) = levels reached n v next in
      let first : length (for_each xs tells_all w).acts ≡ acts_to_tell xs w = level_acts (suc n) xs w all (λ x one. level_deep (suc n) x one) in
      subst (AllDone (xs ++ ys) w) (sym (for_each-append tells_all xs ys w)) record {
        acts = omega (arith, length-append (for_each xs tells_all w).acts (for_each ys tells_all v).acts, first, rest.acts, acts_to_tell-append xs ys w);
        all = rest.all;
      }

  -- Step 6

  -- nothing waits at any node that is up
  pub record HasToldAll (run : Run) : Type 0 where
    pub acts : length run.acts ≡ acts_of_step_six u
    pub calmed : HasCalmed h u run.world
    pub told : (x : ℕ) → IsUp u x → (log_of run.world x).waiting ≡ []

  pub step_six : Reached h u → AreTold u → AreCurrent u → HasToldAll (all_tell u)
  step_six reached told current =
      let most : ℕ = length u.processes in
      let begins : AllTell most u = record {
        calmed = record { stayed = stayed_itself h u reached; told = told; current = current };
        deeper = λ y m is more. let short : length is.0 ≤ most = chain_short u y r is.0 is.1 in absurd (omega (arith, short, is.2, more));
      } in
      let done : AllDone (deepest_first most u) u (all_tell u) = levels reached most u begins in
      record {
        acts = done.acts;
        calmed = done.all.calmed;
        told = λ x up. let chain = all_chains x up in done.all.deeper x (length chain.0) (chain.0, chain.1, refl) (some x chain.0 chain.1);
      } where
        some : (x : ℕ) (c : List ℕ) → IsTrueChain u x r c → 0 < length c
        some x [] chain = absurd chain
        some x (a ∷ c) chain = omega arith
