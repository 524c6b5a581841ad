use Rattle.oc_routes.proofs.WaitLaws.{early_then, then_early, then_waits, to_wait_then, waits_then, whole_gives}
use Rattle.oc_routes.proofs.reply_law.who_waits_has_nothing_new.Goals as goal

pub returns : goal.returns
returns c = record {
  waits = λ u h idle some. (waits_then u h idle some, λ both. then_waits u h idle (both.0) (both.1));
  gives = whole_gives;
  to_wait = to_wait_then;
  follower = λ f h now. (early_then f h now, λ both. then_early f h now (both.0) (both.1));
}
