-- The acts of settle, as a run and as the list of the model.
use Rattle.std.proofs.Common.{◌≡◌, ℕ, Bool, true, false, Option, Some, None, List, [], length, refl, ap, sym, subst, ◌∙◌, arith}
use Rattle.oc_model.specs.declared.event.Act.{Act}
use Rattle.oc_model.specs.declared.word.Word.TheVariants as words
use Rattle.oc_model.specs.NextWorld.{after_any, settle_acts, settle_acts_if, word_of_settle, word_of_heal}
use Rattle.oc_model.specs.Ready.{is_ready}
use Rattle.oc_model.specs.Runs.{Run}
use Rattle.oc_model.specs.World.{World}
use Rattle.oc_calm.specs.CalmRuns.{settle_run}
use Rattle.oc_calm.specs.Way.{Plays, Begins, IsOnTheWay, acts_of}

-- the acts in a world that is ready
pub ready_acts : (w : World) → is_ready w ≡ true → settle_acts w ≡ Some (settle_run w).acts
unfolding settle_run
ready_acts w ready = ap (λ (b : Bool). settle_acts_if b w) ready

-- no acts in a world that is not ready
pub unready_acts : (w : World) → is_ready w ≡ false → settle_acts w ≡ None
unready_acts w unready = ap (λ (b : Bool). settle_acts_if b w) unready

-- The answer and effect of a call, where there are acts

pub settled_word : (run : World → Run) (w v : World) (k : ℕ) (all : Option (List Act)) → all ≡ Some (run w).acts → Plays run w v 0 k → words.Settled k ≡ word_of_settle all
settled_word run w v k all e played = let count : k ≡ length (run w).acts = omega (arith, played.count) in ap words.Settled count ∙ ap word_of_settle (sym e)

pub healed_word : (run : World → Run) (w v : World) (k : ℕ) (all : Option (List Act)) → all ≡ Some (run w).acts → Plays run w v 0 k → words.Healed k ≡ word_of_heal all
healed_word run w v k all e played = let count : k ≡ length (run w).acts = omega (arith, played.count) in ap words.Healed count ∙ ap word_of_heal (sym e)

pub acts_world : (run : World → Run) (w v : World) (k : ℕ) (all : Option (List Act)) → all ≡ Some (run w).acts → Plays run w v 0 k → v ≡ after_any w all
acts_world run w v k all e played = played.reached ∙ ap (after_any w) (sym e)

pub acts_way : (run : World → Run) (w v : World) (all : Option (List Act)) → all ≡ Some (run w).acts → Begins run w v → IsOnTheWay (acts_of all) w v
acts_way run w v all e begun = subst (λ (a : Option (List Act)). IsOnTheWay (acts_of a) w v) (sym e) begun.way

-- the answer where nothing was done
pub unsettled_word : (all : Option (List Act)) → all ≡ None → words.Unready ≡ word_of_settle all
unsettled_word all e = ap word_of_settle (sym e)

pub unhealed_word : (all : Option (List Act)) → all ≡ None → words.Unready ≡ word_of_heal all
unhealed_word all e = ap word_of_heal (sym e)

pub no_world : (w : World) (all : Option (List Act)) → all ≡ None → w ≡ after_any w all
no_world w all e = ap (after_any w) (sym e)

pub on_no_way : (all : List Act) (w : World) → IsOnTheWay all w w
on_no_way all w = record { done = []; rest = all; whole = refl; reached = refl }
