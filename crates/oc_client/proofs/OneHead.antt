-- A reply has one head.
use Rattle.std.proofs.Common.{◌≡◌, ℕ, Bool, true, Result, Ok, Err, List, [], ◌++◌, ap, ◌∙◌}
use Rattle.std.proofs.lemmas.List.{append_assoc}
use Rattle.oc_client.specs.Replies.{Says, IsOfBytes, IsHeadless}
use Rattle.oc_http.specs.Answers.{IsDecided, AnswersReplyHead}
use Rattle.oc_http.specs.Taking.{RefusesReplyHead}
use Rattle.oc_http.specs.declared.fault.HttpFault.{HttpFault}
use Rattle.oc_http.specs.declared.fault.HttpFault.TheVariants as faults
use Rattle.oc_http.specs.declared.reply.ReplyHead.{ReplyHead}

-- the law that the head of a response has one answer
abbrev pub OneAnswer : Type 0
OneAnswer = (left r s : List ℕ) (first second : Result ReplyHead HttpFault) → AnswersReplyHead left r first → AnswersReplyHead left s second → IsDecided first → IsDecided second → (first ≡ second) × (r ≡ s)

ok_is : {A E : Type 0} (a b : A) → (let x : Result A E = Ok a in x ≡ Ok b) → a ≡ b
ok_is a b e = cc

-- two heads of one text are one
pub same_head : OneAnswer → (text : List ℕ) (h k : ReplyHead) (b c : List ℕ) → Says text h b → Says text k c → (h ≡ k) × (b ≡ c)
same_head one text h k b c p q =
    let both = one text b c (Ok h) (Ok k) (p.bytes, p.split, p.says) (q.bytes, q.split, q.says) tt tt in
    (ok_is h k both.0, both.1)

-- more bytes after a reply
pub says_more : (reply left text : List ℕ) (head : ReplyHead) (behind : List ℕ) → text ≡ reply ++ left → Says reply head behind → Says text head (behind ++ left)
says_more reply left text head behind split says = record {
  bytes = says.bytes;
  says = says.says;
  split = split ∙ ap (λ (r : List ℕ). r ++ left) says.split ∙ append_assoc says.bytes behind left;
}

-- a head that is refused by one fact about the end is refused by a fact that follows from it
refused_so : (bytes : List ℕ) (D E : Type 0) (fault : HttpFault) → (D → E) → RefusesReplyHead bytes D fault → RefusesReplyHead bytes E fault
refused_so bytes D E faults.Ended so p = (p.0, p.1, so p.2)
refused_so bytes D E faults.Source so p = p
refused_so bytes D E faults.Head so p = p
refused_so bytes D E faults.HeadLong so p = p
refused_so bytes D E faults.Fields so p = p
refused_so bytes D E faults.Host so p = p
refused_so bytes D E (faults.Coding both) so p = p
refused_so bytes D E (faults.Length missing) so p = p
refused_so bytes D E faults.BodyLong so p = p
refused_so bytes D E faults.Memory so p = p

decided : (fault : HttpFault) → IsOfBytes fault → (let x : Result ReplyHead HttpFault = Err fault in IsDecided x)
decided faults.Source of = absurd of
decided faults.Memory of = absurd of
decided faults.Ended of = tt
decided faults.Head of = tt
decided faults.HeadLong of = tt
decided faults.Fields of = tt
decided faults.Host of = tt
decided (faults.Coding both) of = tt
decided (faults.Length missing) of = tt
decided faults.BodyLong of = tt

-- bytes that begin a reply with a head are not refused for lack of one
pub not_headless : OneAnswer → (reply left text : List ℕ) (over : Bool) (head : ReplyHead) (behind : List ℕ) → text ≡ reply ++ left → (over ≡ true → left ≡ []) → Says text head behind → IsHeadless reply over → ⊥
not_headless one reply left text over head behind split end says none =
    let refusal = refused_so reply (over ≡ true) (left ≡ []) none.fault end none.refused in
    let both = one text left behind (Err none.fault) (Ok head) (reply, split, refusal) (says.bytes, says.split, says.says) (decided none.fault none.of_bytes) tt in
    let wrong = both.0 in cc
