-- The effect of the calls of a dialler in memory on its story.
use Rattle.std.proofs.Common.{◌≡◌, ◌≤◌, ◌<◌, ◌^◌, ◌-◌, ℕ, Bool, true, false, Option, None, Some, List, [], refl, arith, nat_lt, if◌then◌else◌}
use Rattle.std.proofs.lemmas.Bool.{ltb-true, lt-ltb}
use Rattle.std.specs.Option.{option_map}
use Rattle.oc_link.specs.DialsView.{cut_dial}
use Rattle.oc_link.specs.Exchange.{SaysFrontThenBreaks, Says-nothing}
use Rattle.oc_link.specs.Calls.{Told, OnOutgoing, DialsTo, DialFails, connection_of, address_of}
use Rattle.oc_link.specs.MemDiallerView.{MemDiallerView, CountsFaults, told, after_dial, dial_failed, call_failed}
use Rattle.oc_link.specs.Story.{Connection, Dial, Story, broken, through}
use Rattle.oc_link.specs.ConnectionsView.{at}

-- a change of a story that is told only if it was told before
told_if : (R : Story → Story → Type 0) (b c : Bool) (s t : Story) → (c ≡ true → b ≡ true) → (c ≡ true → R s t) → Told R (if b then Some s else None) (if c then Some t else None)
told_if R b false s t before step = tt
told_if R true true s t before step = step refl
told_if R false true s t before step = let clash : false ≡ true = before refl in absurd (cc clash)

-- the change of the story, while failed calls are counted
pub tells : (R : Story → Story → Type 0) (v w : MemDiallerView) → v.calls.faults ≤ w.calls.faults → (CountsFaults w → R v.story w.story) → Told R (told v) (told w)
tells R v w grows step =
    told_if R (nat_lt v.calls.faults (2 ^ 64 - 1)) (nat_lt w.calls.faults (2 ^ 64 - 1)) v.story w.story
    (λ h. let below : w.calls.faults < 2 ^ 64 - 1 = ltb-true w.calls.faults (2 ^ 64 - 1) h in lt-ltb v.calls.faults (2 ^ 64 - 1) (omega (arith, below, grows)))
    (λ h. step (ltb-true w.calls.faults (2 ^ 64 - 1) h))

-- the same for a call that did not fail
tells_same : (R : Story → Story → Type 0) (v w x : MemDiallerView) → w ≡ x → x.calls.faults ≡ v.calls.faults → R v.story x.story → Told R (told v) (told w)
tells_same R v w x is same step =
    rw is (tells R v x (omega (arith, same)) (λ _. step))

-- the connection of a dial after a change of the connection
through-connection : (f : Connection → Connection) (o : Option Dial) → connection_of (option_map (through f) o) ≡ option_map f (connection_of o)
through-connection f None = refl
through-connection f (Some d) = refl

-- a dial keeps its address
through-address : (f : Connection → Connection) (o : Option Dial) → address_of (option_map (through f) o) ≡ address_of o
through-address f None = refl
through-address f (Some d) = refl

-- a dial that works
pub dials_to : (address bytes : List ℕ) (v w : MemDiallerView) → w ≡ after_dial address bytes v → Told (DialsTo address bytes) (told v) (told w)
dials_to address bytes v w is =
    tells_same (DialsTo address bytes) v w (after_dial address bytes v) is refl (at v.replies 0, refl)

-- a dial that fails
pub dial_fails : (address bytes : List ℕ) (v w : MemDiallerView) → v.calls.faults ≤ w.calls.faults → (CountsFaults w → w.story ≡ (dial_failed v).story) → Told (DialFails address bytes) (told v) (told w)
dial_fails address bytes v w grows is =
    tells (DialFails address bytes) v w grows
    (λ counts. (cut_dial (at v.replies 0), record { address = (address, refl); written = (bytes, refl); failed = refl }, is counts))

-- a write on the outgoing connection that fails
pub dial_more_breaks : (bytes : List ℕ) (v w : MemDiallerView) → w ≡ call_failed v → v.calls.faults ≤ w.calls.faults → Told (OnOutgoing (SaysFrontThenBreaks bytes)) (told v) (told w)
dial_more_breaks bytes v w is grows =
    tells (OnOutgoing (SaysFrontThenBreaks bytes)) v w grows (λ _. rw is (broke v.story))
  where
    nothing_said : (o : Option Connection) → SaysFrontThenBreaks bytes o (option_map broken o)
    nothing_said o = ([], bytes, refl, (o, Says-nothing o, refl))

    broke : (s : Story) → OnOutgoing (SaysFrontThenBreaks bytes) s (record s { outgoing = option_map (through broken) s.outgoing })
    broke s = record {
      outgoing = rw (through-connection broken s.outgoing) (nothing_said (connection_of s.outgoing));
      address = through-address broken s.outgoing;
      rest = refl;
    }
