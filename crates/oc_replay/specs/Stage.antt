use Rattle.std.specs.Prelude.{◌≡◌, ℕ, ◌+◌, ◌-◌, ◌<◌, ◌≤◌, length}
use Rattle.oc_base.specs.declared.limits.TheConstants.{LAST_SECOND}
use Rattle.oc_model.specs.declared.event.Event.{Event}
use Rattle.oc_model.specs.declared.event.Event.TheVariants.{Settle, Heal}
use Rattle.oc_model.specs.declared.word.Word.{Word}
use Rattle.oc_model.specs.Chains.{IsUp}
use Rattle.oc_model.specs.World.{World}
use Rattle.oc_model.specs.WorldBounds.{clock_of}
use Rattle.oc_replay.specs.declared.stage.Said.{Said}

-- the seconds that heal takes, which is longer than settle
abbrev pub HEAL_SECONDS : ℕ
HEAL_SECONDS = 60

-- every node that is up has a clock early enough for settle and heal to end by the last second
abbrev pub HasTime : World → Type 0
HasTime w = (x : ℕ) → IsUp w x → clock_of w x ≤ LAST_SECOND - HEAL_SECONDS

-- the demand of an event on the clocks: none but at settle and heal
abbrev pub HasTimeFor : World → Event → Type 0
HasTimeFor w Settle = HasTime w
HasTimeFor w Heal = HasTime w
HasTimeFor w e = Unit {0}

-- the answer to an event that turned one world into another: this word, and the messages added to
-- the net
pub record IsSaid (told : Word) (old new : World) (said : Said) : Type 0 where
  pub word : said.word ≡ told
  pub first : said.first ≡ length old.net + 1
  pub count : length new.net ≡ length old.net + said.count
  pub few : length new.net < 9223372036854775808
