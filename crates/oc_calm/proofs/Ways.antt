-- Runs that are played one after another, to the end or until memory runs out.
use Rattle.std.proofs.Common.{◌≡◌, ℕ, ◌+◌, Result, Ok, Err, OnOk, OnErr, List, [], ◌++◌, length, refl, ap, sym, subst, ◌∙◌, arith, append_assoc, append-nil, length-append}
use Rattle.oc_model.specs.declared.event.Act.{Act}
use Rattle.oc_model.specs.Runs.{Run, rests, and_then, after_acts}
use Rattle.oc_model.specs.World.{World, after_act}
use Rattle.oc_model.proofs.Runs.{after_acts-append}
use Rattle.oc_calm.specs.Played.{act_run}
use Rattle.oc_calm.specs.Way.{Plays, IsOnTheWay, Begins}

-- Results

-- a consequence of a success
pub on_ok : {A E P Q : Type 0} (r : Result A E) → (P → Q) → OnOk r P → OnOk r Q
on_ok (Ok x) f p = f p
on_ok (Err e) f p = p

-- a consequence of a failure
pub on_err : {A E P Q : Type 0} (r : Result A E) → (P → Q) → OnErr r P → OnErr r Q
on_err (Ok x) f p = p
on_err (Err e) f p = f p

-- a property that holds anyway holds of a failure
pub even_on_err : {A E P : Type 0} (r : Result A E) → P → OnErr r P
even_on_err (Ok x) p = tt
even_on_err (Err e) p = p

-- Runs in a row

-- a run of one act
pub act_played : (a : Act) (w v : World) (n k : ℕ) → v ≡ after_act w a → k ≡ n + 1 → Plays (act_run a) w v n k
unfolding act_run
act_played a w v n k e c = record { world = e; reached = e; count = c }

-- a run of no act
pub rest_played : (w : World) (n : ℕ) → Plays rests w w n n
rest_played w n = record { world = refl; reached = refl; count = omega arith }

-- no act of the run was played yet
pub not_begun : (f : World → Run) (w v : World) → v ≡ w → Begins f w v
not_begun f w v e = record { way = record { done = []; rest = (f w).acts; whole = refl; reached = e } }

-- a prefix of a prefix of some acts
pub cut_first : (all more : List Act) (w v : World) → IsOnTheWay all w v → IsOnTheWay (all ++ more) w v
cut_first all more w v way = record {
  done = way.done;
  rest = way.rest ++ more;
  whole = ap (λ (xs : List Act). xs ++ more) way.whole ∙ append_assoc way.done way.rest more;
  reached = way.reached;
}

-- a prefix of the acts that follow
pub cut_later : (all more : List Act) (w v u : World) → v ≡ after_acts w all → IsOnTheWay more v u → IsOnTheWay (all ++ more) w u
cut_later all more w v u here way = record {
  done = all ++ way.done;
  rest = way.rest;
  whole = ap (λ (xs : List Act). all ++ xs) way.whole ∙ sym (append_assoc all way.done way.rest);
  reached = way.reached ∙ (ap (λ (z : World). after_acts z way.done) here ∙ sym (after_acts-append w all way.done));
}

-- the second run is played after the first
pub then_played : {f g : World → Run} {w v u : World} {n k j : ℕ} → Plays f w v n k → Plays g v u k j → Plays (λ z. and_then (f z) g) w u n j
then_played {f} {g} {w} {v} {u} {n} {k} {j} first second = record {
  world = second.world ∙ ap (λ (z : World). (g z).world) first.world;
  reached =
      second.reached
      ∙ (ap (λ (z : World). after_acts z (g v).acts) first.reached
      ∙ (sym (after_acts-append w (f w).acts (g v).acts) ∙ ap (λ (z : World). after_acts w ((f w).acts ++ (g z).acts)) first.world));
  count =
      let both : j ≡ n + length ((f w).acts ++ (g v).acts) = omega (arith, first.count, second.count, length-append (f w).acts (g v).acts) in
      both ∙ ap (λ (z : World). n + length ((f w).acts ++ (g z).acts)) first.world;
}

-- memory runs out in the first run
pub cut_in_first : {f : World → Run} (g : World → Run) {w u : World} → Begins f w u → Begins (λ z. and_then (f z) g) w u
cut_in_first {f} g {w} {u} begun = record { way = cut_first (f w).acts (g (f w).world).acts w u begun.way }

-- memory runs out in the second run
pub cut_in_second : {f g : World → Run} {w v u : World} {n k : ℕ} → Plays f w v n k → Begins g v u → Begins (λ z. and_then (f z) g) w u
cut_in_second {f} {g} {w} {v} {u} first begun =
    record { way = subst (λ (z : World). IsOnTheWay ((f w).acts ++ (g z).acts) w u) first.world (cut_later (f w).acts (g v).acts w v u first.reached begun.way) }

-- Loops

-- the part of a run that was played so far: the run's acts are those and the acts of the rest, which leads to the same world as
-- the whole
pub record IsLeft (whole : World → Run) (w : World) (n : ℕ) (rest : World → Run) (v : World) (k : ℕ) : Type 0 where
  pub done : List Act
  pub acts : (whole w).acts ≡ done ++ (rest v).acts
  pub world : (whole w).world ≡ (rest v).world
  pub reached : v ≡ after_acts w done
  pub count : k ≡ n + length done

-- the whole run is left before the first act
pub all_left : (whole : World → Run) (w : World) (n : ℕ) → IsLeft whole w n whole w n
all_left whole w n = record { done = []; acts = refl; world = refl; reached = refl; count = omega arith }

-- the second part of the rest is left once the first was played
pub less_left : {whole f g : World → Run} {w v u : World} {n k j : ℕ} → IsLeft whole w n (λ z. and_then (f z) g) v k → Plays f v u k j → IsLeft whole w n g u j
less_left {whole} {f} {g} {w} {v} {u} {n} {k} {j} left first = record {
  done = left.done ++ (f v).acts;
  acts = left.acts ∙ (sym (append_assoc left.done (f v).acts (g (f v).world).acts) ∙ ap (λ (z : World). (left.done ++ (f v).acts) ++ (g z).acts) (sym first.world));
  world = left.world ∙ ap (λ (z : World). (g z).world) (sym first.world);
  reached = first.reached ∙ (ap (λ (z : World). after_acts z (f v).acts) left.reached ∙ sym (after_acts-append w left.done (f v).acts));
  count = omega (arith, left.count, first.count, length-append left.done (f v).acts);
}

-- the whole run was played where nothing is left
pub none_left : {whole : World → Run} {w v : World} {n k : ℕ} → IsLeft whole w n rests v k → Plays whole w v n k
none_left {whole} {w} {v} {n} {k} left =
    let acts : (whole w).acts ≡ left.done = left.acts ∙ append-nil left.done in
    record {
      world = sym left.world;
      reached = left.reached ∙ ap (λ (xs : List Act). after_acts w xs) (sym acts);
      count = left.count ∙ ap (λ (xs : List Act). n + length xs) (sym acts);
    }

-- memory runs out in the first part of the rest
pub cut_in_rest : {whole f : World → Run} (g : World → Run) {w v u : World} {n k : ℕ} → IsLeft whole w n (λ z. and_then (f z) g) v k → Begins f v u → Begins whole w u
cut_in_rest {whole} {f} g {w} {v} {u} left begun = record {
  way =
      subst (λ (xs : List Act). IsOnTheWay xs w u) (sym left.acts)
      (cut_later left.done (and_then (f v) g).acts w v u left.reached (cut_first (f v).acts (g (f v).world).acts v u begun.way));
}

-- Runs that are the same from a world on

pub same_played : {f g : World → Run} {w v : World} {n k : ℕ} → f w ≡ g w → Plays f w v n k → Plays g w v n k
same_played {f} {g} {w} {v} {n} {k} e h = record {
  world = h.world ∙ ap (λ (r : Run). r.world) e;
  reached = h.reached ∙ ap (λ (r : Run). after_acts w r.acts) e;
  count = h.count ∙ ap (λ (r : Run). n + length r.acts) e;
}

pub same_begun : {f g : World → Run} {w v : World} → f w ≡ g w → Begins f w v → Begins g w v
same_begun {f} {g} {w} {v} e h = record { way = subst (λ (r : Run). IsOnTheWay r.acts w v) e h.way }
