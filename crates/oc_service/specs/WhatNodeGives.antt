-- The bytes that a node gives its connections: the replies to their requests.
use Rattle.std.specs.Prelude.{Option, List, []}
use Rattle.oc_link.specs.Told.{Told}
use Rattle.oc_link.specs.declared.call.Call.{Call}
use Rattle.oc_deeds.specs.Answered.{AreAnswered}
use Rattle.oc_deeds.specs.Deeds.{Deed, Running, Setting}
use Rattle.oc_deeds.specs.Settled.{AreServed, IsSettled}

-- The deeds were done in order from these calls on, if the link tells them to the end, and no reply was under way then: each connection
-- was given a beginning of the replies to its requests, and all of them where its next request is awaited or its last reply is whole.
abbrev pub ServesFrom : Setting → List Deed → Running → Option (List Call) → Option (List Call) → Type 0
ServesFrom s deeds a = Told (λ made later. IsSettled made [] → AreServed s made later deeds a)

-- Each request is answered by the step of its input, and each connection is given the replies to
-- its requests.
pub record GivesReplies (s : Setting) (deeds : List Deed) (a : Running) (before behind : Option (List Call)) : Type 0 where
  pub answered : AreAnswered s deeds a
  pub served : ServesFrom s deeds a before behind
