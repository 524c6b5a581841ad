-- A chunked text that is taken piece by piece.
use Rattle.std.proofs.Common.{◌≡◌, ◌≢◌, ℕ, ◌+◌, ◌<◌, ◌≤◌, Bool, true, false, List, [], ◌++◌, length, take, drop, inl, inr, refl, sym, ap, ◌∙◌, subst, arith, length-append, take-append-drop}
use Rattle.std.proofs.lemmas.List.{append-nil, append_assoc}
use Rattle.oc_client.specs.Chunks.{EndsWritten, IsPut, StopsPiece, TakesPiece}
use Rattle.oc_client.specs.Passing.{IsPassed, StopsPassing}
use Rattle.oc_client.specs.Replies.{BreaksOff}
use Rattle.oc_client.specs.declared.end.GetEnd.{GetEnd}
use Rattle.oc_client.specs.declared.end.GetEnd.TheVariants as ends
use Rattle.oc_client.specs.declared.reply_framing.ReplyFraming.TheVariants.{Chunked}
use Rattle.oc_client.specs.declared.reply_framing.TheConstants.{MAX_OPEN_BYTES}
use Rattle.oc_client.proofs.Moving.{Then, front_whole, front_behind, unseen}
use Rattle.oc_io.specs.Faults.{NoFall}
use Rattle.oc_chunked.specs.Stages.{DecoderState, in_size, in_chunk, in_trailer, ended, refused, is_ended, wanted_at}
use Rattle.oc_chunked.specs.Taken.{IsTaken}

-- The wanted bytes

-- nothing is wanted at the end
pub wanted_none : (s : DecoderState) → wanted_at s ≡ 0 → is_ended s ≡ true
wanted_none (in_size line) none = cc
wanted_none (in_chunk left) none = absurd (omega (arith, none))
wanted_none (in_trailer front) none = cc
wanted_none ended none = refl
wanted_none (refused fault) none = cc

-- some bytes are wanted before the end
pub wanted_some : (s : DecoderState) → 0 < wanted_at s → is_ended s ≡ false
wanted_some (in_size line) some = refl
wanted_some (in_chunk left) some = refl
wanted_some (in_trailer front) some = refl
wanted_some ended some = absurd (omega (arith, some))
wanted_some (refused fault) some = refl

-- The reasons why no piece was taken

-- a call failed
pub stops_failed : {S : Type 0} (gives fails : S → List ℕ → S → Type 0) (ended_by : S → Type 0) (a b : S) (s : DecoderState) → fails a [] b → StopsPiece gives fails ended_by a b s ends.Link
stops_failed gives fails ended_by a b s failed = record { front = []; rest = []; over = false; came = failed; is_over = unseen; cause = refl }

-- nothing more came
pub stops_early : {S : Type 0} (gives fails : S → List ℕ → S → Type 0) (ended_by : S → Type 0) (a b : S) (s : DecoderState) → gives a [] b → ended_by b → StopsPiece gives fails ended_by a b s ends.Reply
stops_early gives fails ended_by a b s came end = record { front = []; rest = []; over = true; came = came; is_over = λ _. end; cause = inl (refl, refl) }

-- memory ran out for the bytes that came
pub stops_starved : {S : Type 0} (gives fails : S → List ℕ → S → Type 0) (ended_by : S → Type 0) (a b : S) (s : DecoderState) (piece : List ℕ) → gives a piece b → StopsPiece gives fails ended_by a b s ends.Memory
stops_starved gives fails ended_by a b s piece came = record { front = []; rest = piece; over = false; came = came; is_over = unseen; cause = tt }

-- a count that did not fall twice did not fall
pub still : (a b c : ℕ) → NoFall a b → NoFall b c → NoFall a c
still a b c first second = omega arith

-- The content that was passed on so far

-- bytes came that lead to this stage; of their content this much was taken, and this is still gathered
pub record HasPassed {S K : Type 0} (gives : S → List ℕ → S → Type 0) (takes : K → List ℕ → K → Type 0) (old new : S) (before after : K) (stage : DecoderState) (count : ℕ) (gathered : List ℕ) : Type 0 where
  pub bytes : List ℕ
  pub content : List ℕ
  pub came : gives old bytes new
  pub sent : takes before content after
  pub taken : IsTaken bytes (content ++ gathered) stage
  pub long : length content ≡ count

pub passed_first : {S K : Type 0} (gives : S → List ℕ → S → Type 0) (takes : K → List ℕ → K → Type 0) → ((s : S) → gives s [] s) → ((k : K) → takes k [] k) → (s : S) (k : K) (stage : DecoderState) → IsTaken [] [] stage → HasPassed gives takes s s k k stage 0 []
passed_first gives takes none_given none_taken s k stage taken = record { bytes = []; content = []; came = none_given s; sent = none_taken k; taken = taken; long = refl }

-- one piece more came
pub passed_then : {S K : Type 0} (gives : S → List ℕ → S → Type 0) (takes : K → List ℕ → K → Type 0) → Then gives gives → (a b c : S) (p q : K) (s t : DecoderState) (count : ℕ) (gathered more after : List ℕ) → HasPassed gives takes a b p q s count gathered → after ≡ gathered ++ more → TakesPiece gives b c s t more → HasPassed gives takes a c p q t count after
passed_then gives takes came a b c p q s t count gathered more after has is piece = record {
  bytes = has.bytes ++ piece.bytes;
  content = has.content;
  came = came a b c has.bytes piece.bytes has.came piece.came;
  sent = has.sent;
  taken = subst (λ (x : List ℕ). IsTaken (has.bytes ++ piece.bytes) x t) (append_assoc has.content gathered more ∙ ap (λ (x : List ℕ). has.content ++ x) (sym is)) (piece.takes.on has.bytes (has.content ++ gathered) has.taken);
  long = has.long;
}

-- some of the gathered bytes were written
pub passed_put : {S K : Type 0} (gives : S → List ℕ → S → Type 0) (takes : K → List ℕ → K → Type 0) → Then takes takes → (a b : S) (p q r : K) (s : DecoderState) (count more : ℕ) (gathered left : List ℕ) → HasPassed gives takes a b p q s count gathered → IsPut takes q r gathered left more → HasPassed gives takes a b p r s (count + more) left
passed_put gives takes sent a b p q r s count more gathered left has put = record {
  bytes = has.bytes;
  content = has.content ++ put.written;
  came = has.came;
  sent = sent p q r has.content put.written has.sent put.sent;
  taken = subst (λ (x : List ℕ). IsTaken has.bytes x s) (ap (λ (x : List ℕ). has.content ++ x) put.split ∙ sym (append_assoc has.content put.written left)) has.taken;
  long = omega (arith, has.long, put.long, length-append has.content put.written);
}

-- a text that goes on no more is at its end
ended_at : (s : DecoderState) → is_ended s ≡ true → s ≡ ended
ended_at (in_size line) end = cc
ended_at (in_chunk left) end = cc
ended_at (in_trailer front) end = cc
ended_at ended end = refl
ended_at (refused fault) end = cc

-- a text that goes on breaks off where nothing more comes
ends_early : (s : DecoderState) (content rest : List ℕ) (over : Bool) → is_ended s ≡ false → rest ≡ [] → over ≡ true → BreaksOff s content rest over
ends_early (in_size line) content rest over goes none end = inl (none, refl, end)
ends_early (in_chunk left) content rest over goes none end = inl (none, refl, end)
ends_early (in_trailer front) content rest over goes none end = inl (none, refl, end)
ends_early ended content rest over goes none end = cc
ends_early (refused fault) content rest over goes none end = inr (inl (fault, refl))

pub passed_whole : {S K : Type 0} (gives : S → List ℕ → S → Type 0) (ended_by : S → Type 0) (takes : K → List ℕ → K → Type 0) (a b : S) (p q : K) (s : DecoderState) (count : ℕ) → HasPassed gives takes a b p q s count [] → count ≤ MAX_OPEN_BYTES → is_ended s ≡ true → IsPassed gives ended_by takes Chunked a b p q count
passed_whole gives ended_by takes a b p q s count has fits end = record {
  body = has.bytes;
  content = has.content;
  over = false;
  came = has.came;
  sent = has.sent;
  is_over = unseen;
  whole = (subst (λ (x : List ℕ). IsTaken has.bytes x ended) (append-nil has.content) (subst (λ (t : DecoderState). IsTaken has.bytes (has.content ++ []) t) (ended_at s end) has.taken), omega (arith, has.long, fits));
  count_is = has.long;
}

-- a piece was not taken
pub passed_stops : {S K : Type 0} (gives fails : S → List ℕ → S → Type 0) (ended_by : S → Type 0) (takes breaks : K → List ℕ → K → Type 0) → Then gives gives → Then gives fails → (a b c : S) (p q : K) (s : DecoderState) (count : ℕ) (gathered : List ℕ) (end : GetEnd) → HasPassed gives takes a b p q s count gathered → is_ended s ≡ false → StopsPiece gives fails ended_by b c s end → StopsPassing gives fails ended_by takes breaks Chunked a c p q end
passed_stops gives fails ended_by takes breaks came fail a b c p q s count gathered ends.Link has goes stops = record {
  body = has.bytes ++ (stops.front ++ stops.rest);
  content = has.content ++ gathered;
  written = has.content;
  over = stops.over;
  came = fail a b c has.bytes (stops.front ++ stops.rest) has.came stops.came;
  sent = has.sent;
  is_over = stops.is_over;
  begins = inr (has.bytes, stops.front ++ stops.rest, s, refl, has.taken);
  front = (gathered, refl);
  cause = tt;
}
passed_stops gives fails ended_by takes breaks came fail a b c p q s count gathered ends.Memory has goes stops = record {
  body = has.bytes ++ (stops.front ++ stops.rest);
  content = has.content ++ gathered;
  written = has.content;
  over = stops.over;
  came = came a b c has.bytes (stops.front ++ stops.rest) has.came stops.came;
  sent = has.sent;
  is_over = stops.is_over;
  begins = inr (has.bytes, stops.front ++ stops.rest, s, refl, has.taken);
  front = (gathered, refl);
  cause = tt;
}
passed_stops gives fails ended_by takes breaks came fail a b c p q s count gathered ends.Reply has goes stops = elim stops.cause [
  | inl early ↦ record {
    body = has.bytes ++ (stops.front ++ stops.rest);
    content = has.content ++ gathered;
    written = has.content;
    over = stops.over;
    came = came a b c has.bytes (stops.front ++ stops.rest) has.came stops.came;
    sent = has.sent;
    is_over = stops.is_over;
    begins = inr (has.bytes, stops.front ++ stops.rest, s, refl, has.taken);
    front = (gathered, refl);
    cause = (has.bytes, stops.front ++ stops.rest, has.content ++ gathered, s, refl, has.taken, ends_early s (has.content ++ gathered) (stops.front ++ stops.rest) stops.over goes early.0 early.1);
  }
  | inr (fault, content, takes_on) ↦
      let split : has.bytes ++ (stops.front ++ stops.rest) ≡ (has.bytes ++ stops.front) ++ stops.rest = sym (append_assoc has.bytes stops.front stops.rest) in
      let taken = takes_on.on has.bytes (has.content ++ gathered) has.taken in
      record {
        body = has.bytes ++ (stops.front ++ stops.rest);
        content = (has.content ++ gathered) ++ content;
        written = has.content;
        over = stops.over;
        came = came a b c has.bytes (stops.front ++ stops.rest) has.came stops.came;
        sent = has.sent;
        is_over = stops.is_over;
        begins = inr (has.bytes ++ stops.front, stops.rest, refused fault, split, taken);
        front = (gathered ++ content, append_assoc has.content gathered content);
        cause = (has.bytes ++ stops.front, stops.rest, (has.content ++ gathered) ++ content, refused fault, split, taken, inr (inl (fault, refl)));
      }
]
passed_stops gives fails ended_by takes breaks came fail a b c p q s count gathered ends.Done has goes stops = absurd stops.cause
passed_stops gives fails ended_by takes breaks came fail a b c p q s count gathered ends.BadUrl has goes stops = absurd stops.cause
passed_stops gives fails ended_by takes breaks came fail a b c p q s count gathered (ends.Refused status) has goes stops = absurd stops.cause
passed_stops gives fails ended_by takes breaks came fail a b c p q s count gathered ends.Redirects has goes stops = absurd stops.cause
passed_stops gives fails ended_by takes breaks came fail a b c p q s count gathered ends.Sink has goes stops = absurd stops.cause

-- the gathered bytes could not be written
passed_unput : {S K : Type 0} (gives fails : S → List ℕ → S → Type 0) (ended_by : S → Type 0) (takes breaks : K → List ℕ → K → Type 0) → Then gives gives → Then takes breaks → (a b c : S) (p q r : K) (s : DecoderState) (count : ℕ) (gathered more : List ℕ) (n : ℕ) → HasPassed gives takes a b p q s count gathered → gives b more c → breaks q (take n gathered) r → StopsPassing gives fails ended_by takes breaks Chunked a c p r ends.Sink
passed_unput gives fails ended_by takes breaks came fail a b c p q r s count gathered more n has next unsent = record {
  body = has.bytes ++ more;
  content = has.content ++ gathered;
  written = has.content ++ take n gathered;
  over = false;
  came = came a b c has.bytes more has.came next;
  sent = fail p q r has.content (take n gathered) has.sent unsent;
  is_over = unseen;
  begins = inr (has.bytes, more, s, refl, has.taken);
  front = front_behind has.content (take n gathered) gathered (drop n gathered, sym (take-append-drop n gathered));
  cause = tt;
}

-- a piece that was not taken came without a failure of the source, unless it ends with one
came_piece : {S : Type 0} (gives fails : S → List ℕ → S → Type 0) (ended_by : S → Type 0) (b c : S) (s : DecoderState) (end : GetEnd) → end ≢ ends.Link → (stops : StopsPiece gives fails ended_by b c s end) → gives b (stops.front ++ stops.rest) c
came_piece gives fails ended_by b c s ends.Link other stops = absurd (other refl)
came_piece gives fails ended_by b c s ends.Done other stops = stops.came
came_piece gives fails ended_by b c s ends.BadUrl other stops = stops.came
came_piece gives fails ended_by b c s (ends.Refused status) other stops = stops.came
came_piece gives fails ended_by b c s ends.Redirects other stops = stops.came
came_piece gives fails ended_by b c s ends.Reply other stops = stops.came
came_piece gives fails ended_by b c s ends.Sink other stops = stops.came
came_piece gives fails ended_by b c s ends.Memory other stops = stops.came

-- a piece was not taken, and the gathered bytes were written or left
pub passed_ends : {S K : Type 0} (gives fails : S → List ℕ → S → Type 0) (ended_by : S → Type 0) (takes breaks : K → List ℕ → K → Type 0) → Then gives gives → Then gives fails → Then takes takes → Then takes breaks → (a b c : S) (p q r : K) (s : DecoderState) (count : ℕ) (gathered : List ℕ) (end last : GetEnd) → HasPassed gives takes a b p q s count gathered → is_ended s ≡ false → StopsPiece gives fails ended_by b c s end → EndsWritten takes breaks q r gathered end last → StopsPassing gives fails ended_by takes breaks Chunked a c p r last
passed_ends gives fails ended_by takes breaks came fail sent break a b c p q r s count gathered end last has goes stops (inl (same, inl written)) =
    let put : IsPut takes q r gathered [] (length gathered) = record { written = gathered; split = sym (append-nil gathered); sent = written; long = refl } in
    let all = passed_put gives takes sent a b p q r s count (length gathered) gathered [] has put in
    subst (λ (e : GetEnd). StopsPassing gives fails ended_by takes breaks Chunked a c p r e) (sym same) (passed_stops gives fails ended_by takes breaks came fail a b c p r s (count + length gathered) [] end all goes stops)
passed_ends gives fails ended_by takes breaks came fail sent break a b c p q r s count gathered end last has goes stops (inl (same, inr left)) =
    subst (λ (e : GetEnd). StopsPassing gives fails ended_by takes breaks Chunked a c p r e) (sym same) (subst (λ k. StopsPassing gives fails ended_by takes breaks Chunked a c p k end) (sym left) (passed_stops gives fails ended_by takes breaks came fail a b c p q s count gathered end has goes stops))
passed_ends gives fails ended_by takes breaks came fail sent break a b c p q r s count gathered end last has goes stops (inr (sink, other, (n, unsent))) =
    subst (λ (e : GetEnd). StopsPassing gives fails ended_by takes breaks Chunked a c p r e) (sym sink) (passed_unput gives fails ended_by takes breaks came break a b c p q r s count gathered (stops.front ++ stops.rest) n has (came_piece gives fails ended_by b c s end other stops) unsent)

-- the content is too long
pub passed_too_long : {S K : Type 0} (gives fails : S → List ℕ → S → Type 0) (ended_by : S → Type 0) (takes breaks : K → List ℕ → K → Type 0) (a b : S) (p q : K) (s : DecoderState) (count : ℕ) (gathered : List ℕ) → HasPassed gives takes a b p q s count gathered → MAX_OPEN_BYTES < count + length gathered → StopsPassing gives fails ended_by takes breaks Chunked a b p q ends.Reply
passed_too_long gives fails ended_by takes breaks a b p q s count gathered has long = record {
  body = has.bytes;
  content = has.content ++ gathered;
  written = has.content;
  over = false;
  came = has.came;
  sent = has.sent;
  is_over = unseen;
  begins = inr (has.bytes, [], s, sym (append-nil has.bytes), has.taken);
  front = (gathered, refl);
  cause = (has.bytes, [], has.content ++ gathered, s, sym (append-nil has.bytes), has.taken, inr (inr (omega (arith, long, has.long, length-append has.content gathered))));
}

-- the sink failed after a prefix of the gathered bytes
pub passed_unsent : {S K : Type 0} (gives fails : S → List ℕ → S → Type 0) (ended_by : S → Type 0) (takes breaks : K → List ℕ → K → Type 0) → Then takes breaks → (a b : S) (p q r : K) (s : DecoderState) (count : ℕ) (gathered : List ℕ) (n : ℕ) → HasPassed gives takes a b p q s count gathered → breaks q (take n gathered) r → StopsPassing gives fails ended_by takes breaks Chunked a b p r ends.Sink
passed_unsent gives fails ended_by takes breaks fail a b p q r s count gathered n has unsent = record {
  body = has.bytes;
  content = has.content ++ gathered;
  written = has.content ++ take n gathered;
  over = false;
  came = has.came;
  sent = fail p q r has.content (take n gathered) has.sent unsent;
  is_over = unseen;
  begins = inr (has.bytes, [], s, sym (append-nil has.bytes), has.taken);
  front = front_behind has.content (take n gathered) gathered (drop n gathered, sym (take-append-drop n gathered));
  cause = tt;
}

-- nothing came yet, since there was no memory for it
pub passed_nothing : {S K : Type 0} (gives fails : S → List ℕ → S → Type 0) (ended_by : S → Type 0) (takes breaks : K → List ℕ → K → Type 0) → ((s : S) → gives s [] s) → ((k : K) → takes k [] k) → (s : S) (k : K) → StopsPassing gives fails ended_by takes breaks Chunked s s k k ends.Memory
passed_nothing gives fails ended_by takes breaks none_given none_taken s k = record {
  body = [];
  content = [];
  written = [];
  over = false;
  came = none_given s;
  sent = none_taken k;
  is_over = unseen;
  begins = inl refl;
  front = front_whole [];
  cause = tt;
}

-- memory ran out
pub passed_starved : {S K : Type 0} (gives fails : S → List ℕ → S → Type 0) (ended_by : S → Type 0) (takes breaks : K → List ℕ → K → Type 0) (a b : S) (p q : K) (s : DecoderState) (count : ℕ) (gathered : List ℕ) → HasPassed gives takes a b p q s count gathered → StopsPassing gives fails ended_by takes breaks Chunked a b p q ends.Memory
passed_starved gives fails ended_by takes breaks a b p q s count gathered has = record {
  body = has.bytes;
  content = has.content ++ gathered;
  written = has.content;
  over = false;
  came = has.came;
  sent = has.sent;
  is_over = unseen;
  begins = inr (has.bytes, [], s, sym (append-nil has.bytes), has.taken);
  front = (gathered, refl);
  cause = tt;
}
