-- Pieces that move from a source to a sink, one after another.
use Rattle.std.proofs.Common.{◌≡◌, ℕ, ◌+◌, ◌<◌, ◌≤◌, Bool, true, false, List, [], ◌++◌, refl, sym, ap, ◌∙◌, arith, length-append}
use Rattle.std.proofs.lemmas.List.{append_assoc, append-nil}
use Rattle.oc_client.specs.Passing.{Came, Sent, IsMoved, IsHalted, IsOfCall, IsPassed, StopsBody, StopsPassing}
use Rattle.oc_client.specs.declared.end.GetEnd.{GetEnd}
use Rattle.oc_client.specs.declared.end.GetEnd.TheVariants.{Done, BadUrl, Refused, Redirects, Reply, Link, Sink, Memory}
use Rattle.oc_client.specs.declared.reply_framing.ReplyFraming.{ReplyFraming}
use Rattle.oc_client.specs.declared.reply_framing.ReplyFraming.TheVariants.{Counted, ToTheEnd}
use Rattle.oc_client.specs.declared.reply_framing.TheConstants.{MAX_OPEN_BYTES}
use Rattle.oc_link.specs.Calls.{IsFront}

-- one relation after another
abbrev pub Then : {S : Type 0} → (S → List ℕ → S → Type 0) → (S → List ℕ → S → Type 0) → Type 0
Then {S} gives next = (a b c : S) (x y : List ℕ) → gives a x b → next b y c → next a (x ++ y) c

pub came_then : {S : Type 0} (gives fails : S → List ℕ → S → Type 0) → Then gives gives → Then gives fails → (end : GetEnd) (a b c : S) (x y : List ℕ) → gives a x b → Came gives fails b y c end → Came gives fails a (x ++ y) c end
came_then gives fails then fail Link a b c x y = fail a b c x y
came_then gives fails then fail Done a b c x y = then a b c x y
came_then gives fails then fail BadUrl a b c x y = then a b c x y
came_then gives fails then fail (Refused status) a b c x y = then a b c x y
came_then gives fails then fail Redirects a b c x y = then a b c x y
came_then gives fails then fail Reply a b c x y = then a b c x y
came_then gives fails then fail Sink a b c x y = then a b c x y
came_then gives fails then fail Memory a b c x y = then a b c x y

pub sent_then : {K : Type 0} (takes breaks : K → List ℕ → K → Type 0) → Then takes takes → Then takes breaks → (end : GetEnd) (a b c : K) (x y : List ℕ) → takes a x b → Sent takes breaks b y c end → Sent takes breaks a (x ++ y) c end
sent_then takes breaks then fail Sink a b c x y = fail a b c x y
sent_then takes breaks then fail Done a b c x y = then a b c x y
sent_then takes breaks then fail BadUrl a b c x y = then a b c x y
sent_then takes breaks then fail (Refused status) a b c x y = then a b c x y
sent_then takes breaks then fail Redirects a b c x y = then a b c x y
sent_then takes breaks then fail Reply a b c x y = then a b c x y
sent_then takes breaks then fail Link a b c x y = then a b c x y
sent_then takes breaks then fail Memory a b c x y = then a b c x y

-- a prefix after the same bytes
pub front_behind : (x front whole : List ℕ) → IsFront front whole → IsFront (x ++ front) (x ++ whole)
front_behind x front whole (rest, e) = (rest, ap (λ (s : List ℕ). x ++ s) e ∙ sym (append_assoc x front rest))

pub moved_then : {S K : Type 0} (gives : S → List ℕ → S → Type 0) (takes : K → List ℕ → K → Type 0) → Then gives gives → Then takes takes → (a b c : S) (p q r : K) (m n : ℕ) → IsMoved gives takes a b p q m → IsMoved gives takes b c q r n → IsMoved gives takes a c p r (m + n)
moved_then gives takes came sent a b c p q r m n first second = record {
  bytes = first.bytes ++ second.bytes;
  came = came a b c first.bytes second.bytes first.came second.came;
  sent = sent p q r first.bytes second.bytes first.sent second.sent;
  long = omega (arith, length-append first.bytes second.bytes, first.long, second.long);
}

pub moved_halted : {S K : Type 0} (gives fails : S → List ℕ → S → Type 0) (takes breaks : K → List ℕ → K → Type 0) → Then gives gives → Then gives fails → Then takes takes → Then takes breaks → (a b c : S) (p q r : K) (m n : ℕ) (end : GetEnd) → IsMoved gives takes a b p q m → IsHalted gives fails takes breaks n b c q r end → IsHalted gives fails takes breaks (m + n) a c p r end
moved_halted gives fails takes breaks came came_fails sent sent_fails a b c p q r m n end first second = record {
  bytes = first.bytes ++ second.bytes;
  written = first.bytes ++ second.written;
  came = came_then gives fails came came_fails end a b c first.bytes second.bytes first.came second.came;
  sent = sent_then takes breaks sent sent_fails end p q r first.bytes second.written first.sent second.sent;
  front = front_behind first.bytes second.written second.bytes second.front;
  fits = omega (arith, length-append first.bytes second.bytes, first.long, second.fits);
  cause = second.cause;
}

-- a call that failed stops any body
stopped : (framing : ReplyFraming) (body : List ℕ) (over : Bool) (end : GetEnd) → IsOfCall end → StopsBody framing body over end
stopped framing body over Link cause = tt
stopped framing body over Sink cause = tt
stopped framing body over Done cause = absurd cause
stopped framing body over BadUrl cause = absurd cause
stopped framing body over (Refused status) cause = absurd cause
stopped framing body over Redirects cause = absurd cause
stopped framing body over Reply cause = absurd cause
stopped framing body over Memory cause = absurd cause

-- no end was seen
pub unseen : {P : Type 0} → false ≡ true → P
unseen e = cc

-- a call failed within a body of a told length
pub counted_halted : {S K : Type 0} (gives fails : S → List ℕ → S → Type 0) (ended : S → Type 0) (takes breaks : K → List ℕ → K → Type 0) (count : ℕ) (a c : S) (p r : K) (end : GetEnd) → IsHalted gives fails takes breaks count a c p r end → StopsPassing gives fails ended takes breaks (Counted count) a c p r end
counted_halted gives fails ended takes breaks count a c p r end halted = record {
  body = halted.bytes;
  content = halted.bytes;
  written = halted.written;
  over = false;
  came = halted.came;
  sent = halted.sent;
  is_over = unseen;
  begins = (refl, halted.fits);
  front = halted.front;
  cause = stopped (Counted count) halted.bytes false end halted.cause;
}

-- a call failed within a body that goes to the end
pub open_halted : {S K : Type 0} (gives fails : S → List ℕ → S → Type 0) (ended : S → Type 0) (takes breaks : K → List ℕ → K → Type 0) (most : ℕ) (a c : S) (p r : K) (end : GetEnd) → IsHalted gives fails takes breaks most a c p r end → StopsPassing gives fails ended takes breaks ToTheEnd a c p r end
open_halted gives fails ended takes breaks most a c p r end halted = record {
  body = halted.bytes;
  content = halted.bytes;
  written = halted.written;
  over = false;
  came = halted.came;
  sent = halted.sent;
  is_over = unseen;
  begins = refl;
  front = halted.front;
  cause = stopped ToTheEnd halted.bytes false end halted.cause;
}

-- a whole list is a prefix of itself
pub front_whole : (xs : List ℕ) → IsFront xs xs
front_whole xs = ([], sym (append-nil xs))

-- a body of a told length ended early
pub counted_ended : {S K : Type 0} (gives fails : S → List ℕ → S → Type 0) (ended : S → Type 0) (takes breaks : K → List ℕ → K → Type 0) (count : ℕ) (a c : S) (p r : K) (n : ℕ) → IsMoved gives takes a c p r n → n < count → ended c → StopsPassing gives fails ended takes breaks (Counted count) a c p r Reply
counted_ended gives fails ended takes breaks count a c p r n moved short end = record {
  body = moved.bytes;
  content = moved.bytes;
  written = moved.bytes;
  over = true;
  came = moved.came;
  sent = moved.sent;
  is_over = λ _. end;
  begins = (refl, omega (arith, moved.long));
  front = front_whole moved.bytes;
  cause = (omega (arith, moved.long), refl);
}

-- all of a body that goes to the end was passed on
pub open_ended : {S K : Type 0} (gives : S → List ℕ → S → Type 0) (ended : S → Type 0) (takes : K → List ℕ → K → Type 0) (a c : S) (p r : K) (n : ℕ) → IsMoved gives takes a c p r n → n ≤ MAX_OPEN_BYTES → ended c → IsPassed gives ended takes ToTheEnd a c p r n
open_ended gives ended takes a c p r n moved fits end = record {
  body = moved.bytes;
  content = moved.bytes;
  over = true;
  came = moved.came;
  sent = moved.sent;
  is_over = λ _. end;
  whole = (refl, omega (arith, moved.long, fits), refl);
  count_is = moved.long;
}

-- a body that goes to the end was too long
pub open_passed : {S K : Type 0} (gives fails : S → List ℕ → S → Type 0) (ended : S → Type 0) (takes breaks : K → List ℕ → K → Type 0) (a c : S) (p r : K) (n : ℕ) → IsMoved gives takes a c p r n → MAX_OPEN_BYTES < n → StopsPassing gives fails ended takes breaks ToTheEnd a c p r Reply
open_passed gives fails ended takes breaks a c p r n moved long = record {
  body = moved.bytes;
  content = moved.bytes;
  written = moved.bytes;
  over = false;
  came = moved.came;
  sent = moved.sent;
  is_over = unseen;
  begins = refl;
  front = front_whole moved.bytes;
  cause = omega (arith, moved.long, long);
}

-- bytes that fit within a number fit within a greater one
pub halted_within : {S K : Type 0} (gives fails : S → List ℕ → S → Type 0) (takes breaks : K → List ℕ → K → Type 0) (least most : ℕ) (a c : S) (p r : K) (end : GetEnd) → least ≤ most → IsHalted gives fails takes breaks least a c p r end → IsHalted gives fails takes breaks most a c p r end
halted_within gives fails takes breaks least most a c p r end within halted = record {
  bytes = halted.bytes;
  written = halted.written;
  came = halted.came;
  sent = halted.sent;
  front = halted.front;
  fits = omega (arith, halted.fits);
  cause = halted.cause;
}
