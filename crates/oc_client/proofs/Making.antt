-- The dials of turns, one after another.
use Rattle.std.proofs.Common.{◌≡◌, ◌⊎◌, inl, inr, Option, Some, None, List, [], ◌∷◌, ◌++◌, refl, sym, ap, ◌∙◌}
use Rattle.std.proofs.lemmas.List.{append-nil, append_assoc}
use Rattle.oc_link.specs.Borrow.{Told-same, Told-then}
use Rattle.oc_link.specs.Calls.{Told}
use Rattle.oc_link.specs.Story.{Dial, Story, dials}
use Rattle.oc_client.specs.Addresses.{dial_address}
use Rattle.oc_client.specs.PutRequests.{Goal, request_text}
use Rattle.oc_client.specs.PutTurns.{PutTurn, DialsOnce, AreTold, Makes}

-- no turn
makes_none : (goal : Goal) (s : Story) → Makes goal [] s s
makes_none goal s = record { made = []; told = tt; dials_are = sym (append-nil (dials s)); hung = inl refl }

-- one turn
makes_one : (goal : Goal) (turn : PutTurn) (a b : Story) → DialsOnce (dial_address goal.url) (request_text goal turn.request) turn.reply turn.over turn.answer a b → Makes goal (turn ∷ []) a b
makes_one goal turn a b one = record {
  made = one.dial ∷ [];
  told = (one.tells, tt);
  dials_are = ap dials one.new_is ∙ append-nil (dials a ++ one.dial ∷ []);
  hung = inr (ap (λ (s : Story). s.outgoing) one.new_is);
}

told_append : (goal : Goal) (first rest : List PutTurn) (xs ys : List Dial) → AreTold goal first xs → AreTold goal rest ys → AreTold goal (first ++ rest) (xs ++ ys)
told_append goal [] rest [] ys p q = q
told_append goal [] rest (x ∷ xs) ys p q = absurd p
told_append goal (turn ∷ turns) rest [] ys p q = absurd p
told_append goal (turn ∷ turns) rest (x ∷ xs) ys p q = (p.0, told_append goal turns rest xs ys p.1 q)

-- no connection is left open after either, so none is after both
hung_then : (a b c : Story) → (b ≡ a) ⊎ (b.outgoing ≡ None) → (c ≡ b) ⊎ (c.outgoing ≡ None) → (c ≡ a) ⊎ (c.outgoing ≡ None)
hung_then a b c p (inr q) = inr q
hung_then a b c (inl p) (inl q) = inl (q ∙ p)
hung_then a b c (inr p) (inl q) = inr (ap (λ (s : Story). s.outgoing) q ∙ p)

-- turns after turns
makes_then : (goal : Goal) (first rest : List PutTurn) (a b c : Story) → Makes goal first a b → Makes goal rest b c → Makes goal (first ++ rest) a c
makes_then goal first rest a b c p q = record {
  made = p.made ++ q.made;
  told = told_append goal first rest p.made q.made p.told q.told;
  dials_are = q.dials_are ∙ ap (λ (ds : List Dial). ds ++ q.made) p.dials_are ∙ append_assoc (dials a) p.made q.made;
  hung = hung_then a b c p.hung q.hung;
}

-- Links that may not tell their story

pub made_none : (goal : Goal) (o : Option Story) → Told (Makes goal []) o o
made_none goal o = Told-same (Makes goal []) (makes_none goal) o

pub made_then : (goal : Goal) (first rest : List PutTurn) (a b c : Option Story) → Told (Makes goal first) a b → Told (Makes goal rest) b c → Told (Makes goal (first ++ rest)) a c
made_then goal first rest a b c p q = Told-then (Makes goal first) (Makes goal rest) (Makes goal (first ++ rest)) (makes_then goal first rest) a b c p q

pub made_one : (goal : Goal) (turn : PutTurn) (a b : Option Story) → Told (DialsOnce (dial_address goal.url) (request_text goal turn.request) turn.reply turn.over turn.answer) a b → Told (Makes goal (turn ∷ [])) a b
made_one goal turn a None one = tt
made_one goal turn None (Some b) one = absurd one
made_one goal turn (Some a) (Some b) one = makes_one goal turn a b one
