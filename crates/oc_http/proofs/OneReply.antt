-- There is one response in the bytes that are left of a source.
use Rattle.std.proofs.Common.{◌≡◌, ℕ, ◌⊎◌, inl, inr, List, [], ◌++◌, length, Option, Some, None, Result, Ok, Err, refl, sym, ap, ◌∙◌, subst, arith, length-append}
use Rattle.std.proofs.lemmas.List.{append_assoc}
use Rattle.httparse.specs.Grammar.{ReadsResponse}
use Rattle.oc_http.specs.Answers.{IsDecided, AnswersHead, AnswersReply}
use Rattle.oc_http.specs.Responses.{read_reply_start, body_length, IsLong, reply_of}
use Rattle.oc_http.specs.Taking.{RefusesContent}
use Rattle.oc_http.specs.declared.fault.HttpFault.{HttpFault}
use Rattle.oc_http.specs.declared.fault.HttpFault.TheVariants.{Source, Ended, BodyLong, Memory}
use Rattle.oc_http.specs.declared.reply.Reply.{Reply}
use Rattle.oc_http.specs.declared.reply.ReplyHead.{ReplyHead}
use Rattle.oc_http.proofs.Forms.{response_form}
use Rattle.oc_http.proofs.Fronts.{same_front}
use Rattle.oc_http.proofs.OneAnswer.{one_answer}

-- a whole body
record IsBody (told : Option ℕ) (body rest : List ℕ) : Type 0 where
  long : IsLong told body
  whole : told ≡ None → rest ≡ []

-- a body that is not whole, for another cause than a failed call and want of memory
record IsCut (told : Option ℕ) (body rest : List ℕ) (fault : HttpFault) : Type 0 where
  stops : RefusesContent told body (rest ≡ []) fault
  own : IsDecided {A = Reply} (Err fault)

-- two whole bodies at the front of the same bytes are one
same_bodies : (told : Option ℕ) (body rest other behind : List ℕ) → body ++ rest ≡ other ++ behind → IsBody told body rest → IsBody told other behind → body ≡ other
same_bodies (Some count) body rest other behind e x y = (same_front body other rest behind e (x.long ∙ sym y.long)).0
same_bodies None body rest other behind e x y =
    let lengths = ap length e in
    (same_front body other rest behind e (omega (arith, lengths, length-append body rest, length-append other behind, ap length (x.whole refl), ap length (y.whole refl)))).0

-- a whole body is not cut
never_cut : (told : Option ℕ) (body rest other behind : List ℕ) (fault : HttpFault) → body ++ rest ≡ other ++ behind → IsBody told body rest → IsCut told other behind fault → ⊥
never_cut (Some count) body rest other behind Ended e x y =
    omega (arith, x.long, y.stops.0, ap length y.stops.1, ap length e, length-append body rest, length-append other behind)
never_cut (Some count) body rest other behind Source e x y = y.own
never_cut (Some count) body rest other behind Memory e x y = y.own
never_cut (Some count) body rest other behind fault e x y = y.stops
never_cut None body rest other behind BodyLong e x y =
    omega (arith, x.long, y.stops, ap length (x.whole refl), ap length e, length-append body rest, length-append other behind)
never_cut None body rest other behind Source e x y = y.own
never_cut None body rest other behind Memory e x y = y.own
never_cut None body rest other behind fault e x y = y.stops

-- the fault of a body that is cut, which depends on whether its length is told
cut_fault : (told : Option ℕ) → HttpFault
cut_fault (Some count) = Ended
cut_fault None = BodyLong

only_fault : (told : Option ℕ) (body rest : List ℕ) (fault : HttpFault) → IsCut told body rest fault → fault ≡ cut_fault told
unfolding cut_fault
only_fault (Some count) body rest Ended x = refl
only_fault (Some count) body rest Source x = absurd x.own
only_fault (Some count) body rest Memory x = absurd x.own
only_fault (Some count) body rest fault x = absurd x.stops
only_fault None body rest BodyLong x = refl
only_fault None body rest Source x = absurd x.own
only_fault None body rest Memory x = absurd x.own
only_fault None body rest fault x = absurd x.stops

-- a response that was refused in its head
record Refused (left rest : List ℕ) (answer : Result Reply HttpFault) : Type 0 where
  fault : HttpFault
  start : AnswersHead ReadsResponse read_reply_start left rest (Err fault)
  own : IsDecided {A = ReplyHead} (Err fault)
  answer_is : answer ≡ Err fault

-- a response whose head was read
record Begun (left rest : List ℕ) (answer : Result Reply HttpFault) : Type 0 where
  head : ReplyHead
  body : List ℕ
  start : AnswersHead ReadsResponse read_reply_start left (body ++ rest) (Ok head)
  ends : (IsBody (body_length head) body rest × (answer ≡ Ok (reply_of head body))) ⊎ ((fault : HttpFault) × IsCut (body_length head) body rest fault × (answer ≡ Err fault))

-- a fault that is decided for a response is decided for its head
decided : (fault : HttpFault) → IsDecided {A = Reply} (Err fault) → IsDecided {A = ReplyHead} (Err fault)
decided Source own = own
decided Memory own = own
decided fault own = tt

-- one fault is one answer
failed : {first second : HttpFault} → first ≡ second → ◌≡◌ {A = Result Reply HttpFault} (Err first) (Err second)
failed e = ap (λ (f : HttpFault). let answer : Result Reply HttpFault = Err f in answer) e

-- each answer is one of these
ending : (left rest : List ℕ) (answer : Result Reply HttpFault) → AnswersReply left rest answer → IsDecided answer → Refused left rest answer ⊎ Begun left rest answer
ending left rest (Ok reply) h own =
    let said = h.3 in
    inr (record {
      head = said.head;
      body = h.1;
      start = (h.0, h.2 ∙ append_assoc h.0 h.1 rest, said.says);
      ends = inl (record { long = said.long; whole = said.whole }, ap Ok said.reply_is);
    })
ending left rest (Err fault) h own = elim h.2 [
  | inl start ↦ inl (record { fault = fault; start = (h.0, h.1, start); own = decided fault own; answer_is = refl })
  | inr stopped ↦
      let said = stopped.3 in
      inr (record {
        head = said.head;
        body = stopped.1;
        start = (stopped.0, h.1 ∙ ap (λ (x : List ℕ). x ++ rest) stopped.2 ∙ append_assoc stopped.0 stopped.1 rest, said.says);
        ends = inr (fault, record { stops = said.stops; own = own }, refl);
      })
]

-- two responses with one head have one answer
same_ends : (left r s : List ℕ) (first second : Result Reply HttpFault) → (x : Begun left r first) (y : Begun left s second) → first ≡ second
same_ends left r s first second x y =
    let start = one_answer read_reply_start response_form left (x.body ++ r) (y.body ++ s) (Ok x.head) (Ok y.head) x.start y.start tt tt in
    let head : x.head ≡ y.head = cc (start.0) in
    let told : body_length x.head ≡ body_length y.head = ap body_length head in
    elim x.ends [
      | inl a ↦ elim y.ends [
        | inl b ↦
            let body = same_bodies (body_length y.head) x.body r y.body s start.1 (subst (λ (t : Option ℕ). IsBody t x.body r) told a.0) b.0 in
            a.1 ∙ ap Ok (ap (λ (h : ReplyHead). reply_of h x.body) head ∙ ap (λ (t : List ℕ). reply_of y.head t) body) ∙ sym b.1
        | inr b ↦ absurd (never_cut (body_length y.head) x.body r y.body s b.0 start.1 (subst (λ (t : Option ℕ). IsBody t x.body r) told a.0) b.1)
      ]
      | inr a ↦ elim y.ends [
        | inl b ↦ absurd (never_cut (body_length y.head) y.body s x.body r a.0 (sym start.1) b.0 (subst (λ (t : Option ℕ). IsCut t x.body r a.0) told a.1))
        | inr b ↦
            let fault = only_fault (body_length x.head) x.body r a.0 a.1 ∙ ap cut_fault told ∙ sym (only_fault (body_length y.head) y.body s b.0 b.1) in
            a.2 ∙ failed fault ∙ sym b.2
      ]
    ]

-- there is one answer
pub one_reply : (left r s : List ℕ) (first second : Result Reply HttpFault) → AnswersReply left r first → AnswersReply left s second → IsDecided first → IsDecided second → first ≡ second
one_reply left r s first second x y own other =
    elim (ending left r first x own) [
      | inl a ↦ elim (ending left s second y other) [
        | inl b ↦
            let start = one_answer read_reply_start response_form left r s (Err a.fault) (Err b.fault) a.start b.start a.own b.own in
            let fault : a.fault ≡ b.fault = cc (start.0) in
            a.answer_is ∙ failed fault ∙ sym b.answer_is
        | inr b ↦
            let start = one_answer read_reply_start response_form left r (b.body ++ s) (Err a.fault) (Ok b.head) a.start b.start a.own tt in
            cc (start.0)
      ]
      | inr a ↦ elim (ending left s second y other) [
        | inl b ↦
            let start = one_answer read_reply_start response_form left (a.body ++ r) s (Ok a.head) (Err b.fault) a.start b.start tt b.own in
            cc (start.0)
        | inr b ↦ same_ends left r s first second a b
      ]
    ]
