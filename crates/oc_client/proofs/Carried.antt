-- A publishing from its steps.
use Rattle.std.proofs.Common.{◌≡◌, ◌≢◌, ◌⊎◌, ℕ, ◌+◌, ◌<◌, ◌≤◌, Bool, true, false, inl, inr, Result, Ok, Err, List, [], ◌∷◌, ◌++◌, length, map, ◌&&◌, ◌==◌, if◌then◌else◌, refl, sym, ap, ◌∙◌, subst, arith, append_assoc, append-nil}
use Rattle.std.specs.List.{AllByRecursion}
use Rattle.std.specs.Prelude.{⊤}
use Rattle.oc_client.specs.Efforts.{may_try, LeadsTo, Onward, next_of, end_of_failure, behind_failure, weighed_doing, done, finding, begun}
use Rattle.oc_client.specs.Publishing.{joined, IsPart, AreSome, AreCut, Sends, Ends, DoesNotBegin, Refuses, Stops, Publishes, Came}
use Rattle.oc_client.specs.Places.{least_piece, sends_empty}
use Rattle.oc_client.specs.PutRequests.{bytes, nothing}
use Rattle.oc_client.specs.PutTurns.{PutTurn}
use Rattle.oc_client.specs.declared.answer.PutAnswer.{PutAnswer}
use Rattle.oc_client.specs.declared.answer.PutAnswer.TheVariants.{Taken, Length, Refused}
use Rattle.oc_client.specs.declared.answer.Failure.{Failure}
use Rattle.oc_client.specs.declared.answer.Failure.TheVariants as failures
use Rattle.oc_client.specs.declared.effort.Doing.{Doing}
use Rattle.oc_client.specs.declared.effort.Doing.TheVariants.{Finding, Posting, Checking}
use Rattle.oc_client.specs.declared.effort.Effort.{Effort}
use Rattle.oc_client.specs.declared.effort.Next.{Next}
use Rattle.oc_client.specs.declared.effort.Next.TheVariants.{Again, Settled, Ended}
use Rattle.oc_client.specs.declared.effort.Progress.{Progress}
use Rattle.oc_client.specs.declared.put_end.PutEnd.{PutEnd}
use Rattle.oc_client.specs.declared.put_end.PutEnd.TheVariants as ends
use Rattle.oc_client.specs.declared.load.Load.{Load}
use Rattle.oc_client.specs.declared.publication.WriteMode.{WriteMode}
use Rattle.oc_client.specs.declared.publication.WriteMode.TheVariants.{New, Append, Resume}
use Rattle.oc_client.specs.declared.publication.Publication.{Publication}
use Rattle.oc_client.specs.declared.input.TheConstants.{PUT_PIECE_BYTES}

-- Pieces after pieces

pub sends_then : (progress : Progress) (loads more : List Load) (first rest : List PutTurn) (middle reached : Progress) → Sends progress loads first middle → Sends middle more rest reached → Sends progress (loads ++ more) (first ++ rest) reached
sends_then progress [] more first rest middle reached p q =
    subst (λ (ts : List PutTurn). Sends progress more (ts ++ rest) reached) (sym p.0) (subst (λ (x : Progress). Sends x more rest reached) p.1 q)
sends_then progress (load ∷ loads) more first rest middle reached (may, (one, others, next, split, leads, sends)) q =
    (may, (one, others ++ rest, next, ap (λ (ts : List PutTurn). ts ++ rest) split ∙ append_assoc one others rest, leads, sends_then next loads more others rest middle reached sends q))

pub bytes_more : (pieces : List (List ℕ)) (piece : List ℕ) → map bytes (pieces ++ piece ∷ []) ≡ map bytes pieces ++ bytes piece ∷ []
bytes_more [] piece = refl
bytes_more (first ∷ pieces) piece = ap (λ (ls : List Load). bytes first ∷ ls) (bytes_more pieces piece)

pub joined_more : (pieces : List (List ℕ)) (piece : List ℕ) → joined (pieces ++ piece ∷ []) ≡ joined pieces ++ piece
joined_more [] piece = append-nil piece
joined_more (first ∷ pieces) piece = ap (λ (x : List ℕ). first ++ x) (joined_more pieces piece) ∙ sym (append_assoc first (joined pieces) piece)

pub part_more : (live : Bool) (pieces : List (List ℕ)) (piece : List ℕ) → AllByRecursion (IsPart live) pieces → IsPart live piece → AllByRecursion (IsPart live) (pieces ++ piece ∷ [])
part_more live [] piece all part = (part, tt)
part_more live (first ∷ pieces) piece all part = (all.0, part_more live pieces piece all.1 part)

-- a piece after which others may come is not empty
pub least_some : (live : Bool) → 0 < least_piece live
least_some true = omega arith
least_some false = omega arith

-- more pieces with one after them
some_more : (live : Bool) (pieces : List (List ℕ)) (piece : List ℕ) → AllByRecursion (IsPart live) pieces → 0 < length piece → length piece ≤ PUT_PIECE_BYTES → AreSome live (pieces ++ piece ∷ [])
some_more live [] piece all least most = (least, most)
some_more live (first ∷ []) piece all least most = (all.0, (least, most))
some_more live (first ∷ second ∷ pieces) piece all least most = (all.0, some_more live (second ∷ pieces) piece all.1 least most)

all_some : (live : Bool) (pieces : List (List ℕ)) → AllByRecursion (IsPart live) pieces → AreSome live pieces
all_some live [] all = tt
all_some live (piece ∷ []) all = (omega (arith, all.0.0, least_some live), all.0.1)
all_some live (piece ∷ second ∷ pieces) all = (all.0, all_some live (second ∷ pieces) all.1)

pub no_bytes : (piece : List ℕ) → length piece ≡ 0 → piece ≡ []
no_bytes [] e = refl
no_bytes (b ∷ piece) e = cc

pub not_nil : (pieces : List (List ℕ)) (piece : List ℕ) → pieces ++ piece ∷ [] ≡ [] → ⊥
not_nil [] piece e = cc
not_nil (first ∷ pieces) piece e = cc

pub cut_more : (plan : Publication) (pieces : List (List ℕ)) (piece : List ℕ) → AllByRecursion (IsPart plan.live) pieces → length piece ≤ PUT_PIECE_BYTES → (length piece ≡ 0 → (sends_empty plan.place ≡ true) × (pieces ≡ [])) → AreCut plan (pieces ++ piece ∷ [])
cut_more plan pieces [] all most first =
    let h = first refl in
    inr (ap (λ (ps : List (List ℕ)). ps ++ [] ∷ []) h.1, h.0)
cut_more plan pieces (b ∷ piece) all most first =
    inl (some_more plan.live pieces (b ∷ piece) all (omega arith) most, inr (not_nil pieces (b ∷ piece)))

pub cut_end : (plan : Publication) (pieces : List (List ℕ)) → AllByRecursion (IsPart plan.live) pieces → (sends_empty plan.place ≡ false) ⊎ (pieces ≢ []) → AreCut plan pieces
cut_end plan pieces all why = inl (all_some plan.live pieces all, why)

-- The ends that turns have

abbrev pub IsOfTurns : PutEnd → Type 0
IsOfTurns ends.Done = ⊥
IsOfTurns ends.BadUrl = ⊥
IsOfTurns ends.Short = ⊥
IsOfTurns ends.Input = ⊥
IsOfTurns end = ⊤

ended_is : (a b : PutEnd) → Ended a ≡ Ended b → a ≡ b
ended_is a b e = cc

failure_of_turns : (failure : Failure) → IsOfTurns (end_of_failure failure)
failure_of_turns failures.Link = tt
failure_of_turns failures.Reply = tt
failure_of_turns failures.Unavailable = tt
failure_of_turns failures.Memory = tt

abbrev IsNextOfTurns : Next → Type 0
IsNextOfTurns (Again effort) = ⊤
IsNextOfTurns (Settled progress) = ⊤
IsNextOfTurns (Ended end) = IsOfTurns end

by_test : (b : Bool) (x y : Next) → IsNextOfTurns x → IsNextOfTurns y → IsNextOfTurns (if b then x else y)
by_test true x y p q = p
by_test false x y p q = q

weighed_of_turns : (doing : Doing) (failures told : ℕ) → IsNextOfTurns (weighed_doing doing failures told)
weighed_of_turns Finding failures told = tt
weighed_of_turns (Posting at behind tried) failures told = by_test (tried && told == behind) (done told) (Ended (ends.Length told)) tt tt
weighed_of_turns (Checking at behind) failures told =
    by_test (told == at) (Again (record { doing = Posting at behind true; failures = failures })) (if told == behind then done told else Ended (ends.Length told)) tt (by_test (told == behind) (done told) (Ended (ends.Length told)) tt tt)

next_of_turns : (effort : Effort) (answer : Result PutAnswer Failure) → IsNextOfTurns (next_of effort answer)
next_of_turns effort (Ok Taken) = tt
next_of_turns effort (Ok (Length told)) = weighed_of_turns effort.doing effort.failures told
next_of_turns effort (Ok (Refused status)) = tt
next_of_turns effort (Err failure) = by_test (may_try failure effort.failures) (Again (record { doing = behind_failure effort.doing; failures = effort.failures + 1 })) (Ended (end_of_failure failure)) tt (failure_of_turns failure)

onward_of_turns : (load : Load) (turns : List PutTurn) (next : Next) (end : PutEnd) → ((further : Effort) → LeadsTo load further turns (Ended end) → IsOfTurns end) → IsNextOfTurns next → Onward (λ further. LeadsTo load further turns (Ended end)) next turns (Ended end) → IsOfTurns end
onward_of_turns load turns (Again further) end later is onward = later further onward
onward_of_turns load turns (Settled progress) end later is onward = absurd (let e : Ended end ≡ Settled progress = onward.1 in cc)
onward_of_turns load turns (Ended other) end later is onward = subst IsOfTurns (sym (ended_is end other onward.1)) is

led_of_turns : (load : Load) (turns : List PutTurn) (effort : Effort) (end : PutEnd) → LeadsTo load effort turns (Ended end) → IsOfTurns end
led_of_turns load [] effort end leads = absurd (let e : Ended end ≡ Again effort = leads in cc)
led_of_turns load (turn ∷ turns) effort end leads =
    onward_of_turns load turns (next_of effort turn.answer) end (λ further on. led_of_turns load turns further end on) (next_of_turns effort turn.answer) leads.1

pub ends_of_turns : (load : Load) (effort : Effort) (turns : List PutTurn) (end : PutEnd) → Ends load effort turns end → IsOfTurns end
ends_of_turns load effort turns end (inl leads) = led_of_turns load turns effort end leads
ends_of_turns load effort turns end (inr out) = subst IsOfTurns (sym out.0) tt

pub refuses_of_turns : (load : Load) (progress : Progress) (turns : List PutTurn) (end : PutEnd) → Refuses load progress turns end → IsOfTurns end
refuses_of_turns load progress turns end (inl long) = subst IsOfTurns (sym long.1) tt
refuses_of_turns load progress turns end (inr h) = ends_of_turns load (begun progress load) turns end h.1

-- The bytes that came of the input

pub came_of_turns : {S : Type 0} (gives fails : S → List ℕ → S → Type 0) (a b : S) (came : List ℕ) (end : PutEnd) → IsOfTurns end → gives a came b → Came gives fails a came b end
came_of_turns gives fails a b came ends.Done is p = p
came_of_turns gives fails a b came ends.BadUrl is p = p
came_of_turns gives fails a b came (ends.Refused status) is p = p
came_of_turns gives fails a b came (ends.Length told) is p = p
came_of_turns gives fails a b came ends.Short is p = p
came_of_turns gives fails a b came ends.Reply is p = p
came_of_turns gives fails a b came ends.Link is p = p
came_of_turns gives fails a b came ends.Input is p = absurd is
came_of_turns gives fails a b came ends.Memory is p = p

-- bytes after bytes of an input
pub came_behind : {S : Type 0} (gives fails : S → List ℕ → S → Type 0) → ((a b c : S) (x y : List ℕ) → gives a x b → gives b y c → gives a (x ++ y) c) → ((a b c : S) (x y : List ℕ) → gives a x b → fails b y c → fails a (x ++ y) c) → (a b c : S) (x y : List ℕ) (end : PutEnd) → gives a x b → Came gives fails b y c end → Came gives fails a (x ++ y) c end
came_behind gives fails both last a b c x y ends.Done p q = both a b c x y p q
came_behind gives fails both last a b c x y ends.BadUrl p q = both a b c x y p q
came_behind gives fails both last a b c x y (ends.Refused status) p q = both a b c x y p q
came_behind gives fails both last a b c x y (ends.Length told) p q = both a b c x y p q
came_behind gives fails both last a b c x y ends.Short p q = both a b c x y p q
came_behind gives fails both last a b c x y ends.Reply p q = both a b c x y p q
came_behind gives fails both last a b c x y ends.Link p q = both a b c x y p q
came_behind gives fails both last a b c x y ends.Input p q = last a b c x y p q
came_behind gives fails both last a b c x y ends.Memory p q = both a b c x y p q

-- An end that is not the good one

not_done_before : (place : WriteMode) (found : ℕ) (input : List ℕ) (over : Bool) → DoesNotBegin place found input over ends.Done → ⊥
not_done_before New found input over h = h
not_done_before Append found input over h = h
not_done_before Resume found input over h = h

not_done : (plan : Publication) (turns : List PutTurn) (input : List ℕ) (over : Bool) → Stops plan turns input over ends.Done → ⊥
not_done plan turns input over (inl h) = ends_of_turns nothing finding turns ends.Done h.0
not_done plan turns input over (inr (inl h)) = not_done_before plan.place h.found.length input over h.why
not_done plan turns input over (inr (inr (inl h))) = h.missing
not_done plan turns input over (inr (inr (inr h))) = refuses_of_turns h.load h.reached h.last ends.Done h.refuses

pub stops_publishing : (plan : Publication) (turns : List PutTurn) (input : List ℕ) (over : Bool) (end : PutEnd) → Stops plan turns input over end → Publishes plan turns input over end
stops_publishing plan turns input over ends.Done stops = absurd (not_done plan turns input over stops)
stops_publishing plan turns input over ends.BadUrl stops = stops
stops_publishing plan turns input over (ends.Refused status) stops = stops
stops_publishing plan turns input over (ends.Length told) stops = stops
stops_publishing plan turns input over ends.Short stops = stops
stops_publishing plan turns input over ends.Reply stops = stops
stops_publishing plan turns input over ends.Link stops = stops
stops_publishing plan turns input over ends.Input stops = stops
stops_publishing plan turns input over ends.Memory stops = stops
