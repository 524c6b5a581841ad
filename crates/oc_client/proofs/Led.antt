-- Turns of one effort, one after another.
use Rattle.std.proofs.Common.{◌≡◌, ℕ, ◌+◌, ◌*◌, ◌-◌, ◌<◌, Bool, true, false, ◌&&◌, ◌==◌, nat_lt, if◌then◌else◌, Option, Result, Ok, Err, List, [], ◌∷◌, ◌++◌, refl, sym, subst, arith}
use Rattle.std.proofs.lemmas.Bool.{ltb-true}
use Rattle.std.specs.Prelude.{⊤}
use Rattle.oc_client.proofs.Making.{made_none, made_then, made_one}
use Rattle.oc_client.specs.Addresses.{dial_address}
use Rattle.oc_client.specs.Efforts.{may_try, asks, behind_of, request_of, behind_failure, end_of_failure, done, next_of, weighed_doing, IsTurnOf, Onward, LeadsTo, IsLed}
use Rattle.oc_client.specs.PutRequests.{Goal, request_text}
use Rattle.oc_client.specs.PutTurns.{PutTurn, DialsOnce, IsDialled}
use Rattle.oc_client.specs.declared.answer.Failure.{Failure}
use Rattle.oc_client.specs.declared.answer.Failure.TheVariants as failures
use Rattle.oc_client.specs.declared.answer.PutAnswer.{PutAnswer}
use Rattle.oc_client.specs.declared.answer.PutAnswer.TheVariants.{Taken, Length, Refused}
use Rattle.oc_client.specs.declared.effort.Doing.{Doing}
use Rattle.oc_client.specs.declared.effort.Doing.TheVariants.{Finding, Posting, Checking}
use Rattle.oc_client.specs.declared.effort.Effort.{Effort}
use Rattle.oc_client.specs.declared.effort.Next.{Next}
use Rattle.oc_client.specs.declared.effort.Next.TheVariants.{Again, Settled, Ended}
use Rattle.oc_client.specs.declared.effort.TheConstants.{MAX_FAILURES}
use Rattle.oc_client.specs.declared.load.Load.{Load}
use Rattle.oc_client.specs.declared.put_end.PutEnd.TheVariants as ends
use Rattle.oc_link.specs.Calls.{Told}
use Rattle.oc_link.specs.Story.{Story}

-- One turn more

-- the result of an answer with no turn after it
onward_last : (load : Load) (next : Next) → Onward (λ further. LeadsTo load further [] next) next [] next
onward_last load (Again further) = refl
onward_last load (Settled progress) = (refl, refl)
onward_last load (Ended end) = (refl, refl)

-- the effort in an `Again`
again_is : (a b : Effort) → Again a ≡ Again b → a ≡ b
again_is a b e = cc

-- a turn after turns that lead to another effort
onward_more : (load : Load) (turns : List PutTurn) (next : Next) (further : Effort) (turn : PutTurn) → ((e : Effort) → LeadsTo load e turns (Again further) → LeadsTo load e (turns ++ turn ∷ []) (next_of further turn.answer)) → Onward (λ e. LeadsTo load e turns (Again further)) next turns (Again further) → Onward (λ e. LeadsTo load e (turns ++ turn ∷ []) (next_of further turn.answer)) next (turns ++ turn ∷ []) (next_of further turn.answer)
onward_more load turns (Again e) further turn later onward = later e onward
onward_more load turns (Settled progress) further turn later onward = absurd (let e : Again further ≡ Settled progress = onward.1 in cc)
onward_more load turns (Ended end) further turn later onward = absurd (let e : Again further ≡ Ended end = onward.1 in cc)

leads_more : (load : Load) (turns : List PutTurn) (effort further : Effort) (turn : PutTurn) → IsTurnOf load further turn → LeadsTo load effort turns (Again further) → LeadsTo load effort (turns ++ turn ∷ []) (next_of further turn.answer)
leads_more load [] effort further turn asks_so leads =
    subst (λ (e : Effort). LeadsTo load e (turn ∷ []) (next_of further turn.answer)) (again_is further effort leads) (asks_so, onward_last load (next_of further turn.answer))
leads_more load (first ∷ turns) effort further turn asks_so leads =
    (leads.0, onward_more load turns (next_of effort first.answer) further turn (λ e on. leads_more load turns e further turn asks_so on) leads.1)

-- Turns over a link

-- no turn yet
pub led_none : (goal : Goal) (load : Load) (effort : Effort) (o : Option Story) → IsLed goal load effort o o (Again effort)
led_none goal load effort o = record { turns = []; leads = refl; made = made_none goal o }

-- one request more, and its answer
pub led_more : (goal : Goal) (load : Load) (effort further : Effort) (a b c : Option Story) (address text : List ℕ) (answer : Result PutAnswer Failure) → IsLed goal load effort a b (Again further) → IsDialled address text (asks further.doing) b c answer → address ≡ dial_address goal.url → text ≡ request_text goal (request_of load further.doing) → IsLed goal load effort a c (next_of further answer)
led_more goal load effort further a b c address text answer led one is_address is_text =
    let turn : PutTurn = record { request = request_of load further.doing; reply = one.reply; over = one.over; answer = answer } in
    let told : Told (DialsOnce (dial_address goal.url) (request_text goal turn.request) turn.reply turn.over turn.answer) b c =
    subst (λ (x : List ℕ). Told (DialsOnce (dial_address goal.url) x one.reply one.over answer) b c) is_text (subst (λ (x : List ℕ). Told (DialsOnce x text one.reply one.over answer) b c) is_address one.told) in
    record {
      turns = led.turns ++ turn ∷ [];
      leads = leads_more load led.turns effort further turn (record { request = refl; answers = one.answers }) led.leads;
      made = made_then goal led.turns (turn ∷ []) a b c led.made (made_one goal turn b c told);
    }

-- the same by the results of a turn's calls
pub led_turn : (goal : Goal) (load : Load) (effort further : Effort) (a b c : Option Story) (address text : List ℕ) (asked : Bool) (answer : Result PutAnswer Failure) (next : Next) → IsLed goal load effort a b (Again further) → IsDialled address text asked b c answer → address ≡ dial_address goal.url → text ≡ request_text goal (request_of load further.doing) → asked ≡ asks further.doing → next ≡ next_of further answer → IsLed goal load effort a c next
led_turn goal load effort further a b c address text asked answer next led one is_address is_text is_asked is_next =
    let dialled : IsDialled address text (asks further.doing) b c answer = subst (λ (x : Bool). IsDialled address text x b c answer) is_asked one in
    subst (λ (x : Next). IsLed goal load effort a c x) (sym is_next) (led_more goal load effort further a b c address text answer led dialled is_address is_text)

-- The answers that end with the link's failure

abbrev IsNoLink : Next → Type 0
IsNoLink (Again effort) = ⊤
IsNoLink (Settled progress) = ⊤
IsNoLink (Ended ends.Link) = ⊥
IsNoLink (Ended end) = ⊤

link_test : (b : Bool) (x y : Next) → IsNoLink x → IsNoLink y → IsNoLink (if b then x else y)
link_test true x y p q = p
link_test false x y p q = q

weighed_no_link : (doing : Doing) (failures told : ℕ) → IsNoLink (weighed_doing doing failures told)
weighed_no_link Finding failures told = tt
weighed_no_link (Posting at behind tried) failures told = link_test (tried && told == behind) (done told) (Ended (ends.Length told)) tt tt
weighed_no_link (Checking at behind) failures told =
    link_test (told == at) (Again (record { doing = Posting at behind true; failures = failures })) (if told == behind then done told else Ended (ends.Length told)) tt (link_test (told == behind) (done told) (Ended (ends.Length told)) tt tt)

pub link_end : (effort : Effort) (answer : Result PutAnswer Failure) → next_of effort answer ≡ Ended ends.Link → answer ≡ Err failures.Link
link_end effort (Ok Taken) e = absurd (subst IsNoLink e tt)
link_end effort (Ok (Length told)) e = absurd (subst IsNoLink e (weighed_no_link effort.doing effort.failures told))
link_end effort (Ok (Refused status)) e = absurd (subst IsNoLink e tt)
link_end effort (Err failures.Memory) e = absurd (subst IsNoLink e tt)
link_end effort (Err failures.Reply) e = absurd (subst IsNoLink e (link_test (nat_lt effort.failures (MAX_FAILURES - 1)) (Again (record { doing = behind_failure effort.doing; failures = effort.failures + 1 })) (Ended ends.Reply) tt tt))
link_end effort (Err failures.Unavailable) e = absurd (subst IsNoLink e (link_test (nat_lt effort.failures (MAX_FAILURES - 1)) (Again (record { doing = behind_failure effort.doing; failures = effort.failures + 1 })) (Ended (ends.Refused 503)) tt tt))
link_end effort (Err failures.Link) e = refl

-- The number of tries

-- the number of tries that an effort has left: each failure takes some, and so does each other try
abbrev pub left_of_doing : Doing → ℕ → ℕ
left_of_doing Finding failures = 3 * (MAX_FAILURES - failures)
left_of_doing (Posting at behind tried) failures = 3 * (MAX_FAILURES - failures)
left_of_doing (Checking at behind) failures = 3 * (MAX_FAILURES - failures) + 1

abbrev pub left_of : Effort → ℕ
left_of effort = left_of_doing effort.doing effort.failures

failed_less : (doing : Doing) (failures : ℕ) → failures < MAX_FAILURES - 1 → left_of_doing (behind_failure doing) (failures + 1) < left_of_doing doing failures
failed_less Finding failures less = omega arith
failed_less (Posting at behind tried) failures less = omega arith
failed_less (Checking at behind) failures less = omega arith

may_less : (failure : Failure) (count : ℕ) → may_try failure count ≡ true → count < MAX_FAILURES - 1
may_less failures.Memory count e = cc
may_less failures.Link count e = ltb-true count (MAX_FAILURES - 1) e
may_less failures.Unavailable count e = ltb-true count (MAX_FAILURES - 1) e
may_less failures.Reply count e = ltb-true count (MAX_FAILURES - 1) e

tried_less : (effort further : Effort) (failure : Failure) (b : Bool) → may_try failure effort.failures ≡ b → (if b then Again (record { doing = behind_failure effort.doing; failures = effort.failures + 1 }) else Ended (end_of_failure failure)) ≡ Again further → left_of further < left_of effort
tried_less effort further failure true e same =
    subst (λ (x : Effort). left_of x < left_of effort) (again_is (record { doing = behind_failure effort.doing; failures = effort.failures + 1 }) further same) (failed_less effort.doing effort.failures (may_less failure effort.failures e))
tried_less effort further failure false e same = absurd (let x : Ended (end_of_failure failure) ≡ Again further = same in cc)

posting_less : (at behind failures : ℕ) (tried : Bool) (further : Effort) (told : ℕ) (b : Bool) → (if b then done told else Ended (ends.Length told)) ≡ Again further → ⊥
posting_less at behind failures tried further told true same = let x : done told ≡ Again further = same in cc
posting_less at behind failures tried further told false same = let x : Ended (ends.Length told) ≡ Again further = same in cc

checking_less : (at behind failures : ℕ) (further : Effort) (told : ℕ) (b c : Bool) → (if b then Again (record { doing = Posting at behind true; failures = failures }) else if c then done told else Ended (ends.Length told)) ≡ Again further → left_of further < left_of_doing (Checking at behind) failures
checking_less at behind failures further told true c same =
    subst (λ (x : Effort). left_of x < left_of_doing (Checking at behind) failures) (again_is (record { doing = Posting at behind true; failures = failures }) further same) (omega arith)
checking_less at behind failures further told false c same = absurd (posting_less at behind failures true further told c same)

weighed_less : (doing : Doing) (failures : ℕ) (further : Effort) (told : ℕ) → weighed_doing doing failures told ≡ Again further → left_of further < left_of_doing doing failures
weighed_less Finding failures further told same = absurd (let x : Settled (record { length = told; failures = failures }) ≡ Again further = same in cc)
weighed_less (Posting at behind tried) failures further told same = absurd (posting_less at behind failures tried further told (tried && told == behind) same)
weighed_less (Checking at behind) failures further told same = checking_less at behind failures further told (told == at) (told == behind) same

-- each other try leaves less
pub again_less : (effort further : Effort) (answer : Result PutAnswer Failure) → next_of effort answer ≡ Again further → left_of further < left_of effort
again_less effort further (Ok Taken) same = absurd (let x : done (behind_of effort.doing) ≡ Again further = same in cc)
again_less effort further (Ok (Length told)) same = weighed_less effort.doing effort.failures further told same
again_less effort further (Ok (Refused status)) same = absurd (let x : Ended (ends.Refused status) ≡ Again further = same in cc)
again_less effort further (Err failure) same = tried_less effort further failure (may_try failure effort.failures) refl same
