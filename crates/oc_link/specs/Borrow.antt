-- Borrowed links: the effects on a link of the calls on its outgoing connection.
use Rattle.std.specs.Prelude.{◌≡◌, ℕ, Option, None, Some, List, [], ◌++◌, refl}
use Rattle.std.proofs.Common.{◌∙◌, ap, arith}
use Rattle.oc_io.specs.Faults.{NoFall}
use Rattle.oc_link.specs.Exchange.{Hears, HearsThenBreaks, Hears-nothing, Hears-then, Hears-breaks}
use Rattle.oc_link.specs.Calls.{Told, OnOutgoing, connection_of}
use Rattle.oc_link.specs.Story.{Connection, Story}

-- a borrowed link: the name of the borrow, and the facts about the link
pub record BorrowView : Type 0 where
  pub name : ℕ
  pub story : Option Story
  pub faults : ℕ

-- through this borrow the outgoing connection changed in this way; besides, only the count of failed calls may have changed
pub record ChangesOutgoing (R : Option Connection → Option Connection → Type 0) (old new : BorrowView) : Type 0 where
  pub name : new.name ≡ old.name
  pub story : Told (OnOutgoing R) old.story new.story
  pub count : NoFall old.faults new.faults

-- Changes one after another

-- a relation that holds of each story and itself holds of a story that does not change, if it is told
pub Told-same : (R : Story → Story → Type 0) → ((s : Story) → R s s) → (o : Option Story) → Told R o o
Told-same R same None = tt
Told-same R same (Some s) = same s

-- two changes of a story are one, if the story is told
pub Told-then : (R Q P : Story → Story → Type 0) → ((a b c : Story) → R a b → Q b c → P a c) → (a b c : Option Story) → Told R a b → Told Q b c → Told P a c
Told-then R Q P both a b None p q = tt
Told-then R Q P both a None (Some c) p q = absurd q
Told-then R Q P both None (Some b) (Some c) p q = absurd p
Told-then R Q P both (Some a) (Some b) (Some c) p q = both a b c p q

-- two changes of the outgoing connection are one
pub OnOutgoing-then : (R Q P : Option Connection → Option Connection → Type 0) → ((a b c : Option Connection) → R a b → Q b c → P a c) → (a b c : Story) → OnOutgoing R a b → OnOutgoing Q b c → OnOutgoing P a c
OnOutgoing-then R Q P both a b c p q = record {
  outgoing = both (connection_of a.outgoing) (connection_of b.outgoing) (connection_of c.outgoing) p.outgoing q.outgoing;
  address = q.address ∙ p.address;
  rest = q.rest ∙ ap (λ (s : Story). record s { outgoing = c.outgoing }) p.rest;
}

-- two changes through one borrow are one
pub ChangesOutgoing-then : (R Q P : Option Connection → Option Connection → Type 0) → ((a b c : Option Connection) → R a b → Q b c → P a c) → (a b c : BorrowView) → ChangesOutgoing R a b → ChangesOutgoing Q b c → ChangesOutgoing P a c
ChangesOutgoing-then R Q P both a b c p q = record {
  name = q.name ∙ p.name;
  story = Told-then (OnOutgoing R) (OnOutgoing Q) (OnOutgoing P) (OnOutgoing-then R Q P both) a.story b.story c.story p.story q.story;
  count = omega (arith, p.count, q.count);
}

-- The laws of a source

-- the laws of the outgoing connection as a source
pub Outgoing-hears-nothing : (v : BorrowView) → ChangesOutgoing (Hears []) v v
Outgoing-hears-nothing v = record {
  name = refl;
  story = Told-same (OnOutgoing (Hears [])) (λ s. record { outgoing = Hears-nothing (connection_of s.outgoing); address = refl; rest = refl }) v.story;
  count = omega arith;
}

pub Outgoing-hears-then : (a b c : BorrowView) (x y : List ℕ) → ChangesOutgoing (Hears x) a b → ChangesOutgoing (Hears y) b c → ChangesOutgoing (Hears (x ++ y)) a c
Outgoing-hears-then a b c x y = ChangesOutgoing-then (Hears x) (Hears y) (Hears (x ++ y)) (Hears-then x y) a b c

pub Outgoing-hears-fails : (a b c : BorrowView) (x y : List ℕ) → ChangesOutgoing (Hears x) a b → ChangesOutgoing (HearsThenBreaks y) b c → ChangesOutgoing (HearsThenBreaks (x ++ y)) a c
Outgoing-hears-fails a b c x y = ChangesOutgoing-then (Hears x) (HearsThenBreaks y) (HearsThenBreaks (x ++ y)) (Hears-breaks x y) a b c
