-- Worked examples of a publishing.
use Rattle.std.specs.Prelude.{◌≡◌, ℕ, true, false, Some, None, Ok, Err, List, [], ◌∷◌, codes}
use Rattle.oc_client.specs.Efforts.{next_of, begun, done}
use Rattle.oc_client.specs.PutReplies.{answer_in, as_length}
use Rattle.oc_client.specs.PutRequests.{ask_lines, publish_lines, bytes, seal}
use Rattle.oc_client.specs.Sources.{SourceGroup, Post, all_arrived, may_take}
use Rattle.oc_client.specs.declared.answer.PutAnswer.TheVariants.{Taken, Length, Refused}
use Rattle.oc_client.specs.declared.answer.Failure.TheVariants.{Link, Reply, Unavailable}
use Rattle.oc_client.specs.declared.effort.Doing.TheVariants.{Posting, Checking}
use Rattle.oc_client.specs.declared.effort.Effort.{Effort}
use Rattle.oc_client.specs.declared.effort.Next.TheVariants.{Again, Ended}
use Rattle.oc_client.specs.declared.put_end.PutEnd.TheVariants as ends

-- the requests
pub record AreTexts : Type 0 where
  pub ask : ask_lines (codes "/news/a") None (codes "h:80") None ≡ codes "HEAD /news/a?here HTTP/1.1\r\nHost: h:80\r\n\r\n"
  pub lets_in : ask_lines (codes "/a") None (codes "h") (Some (codes "xyz")) ≡ codes "HEAD /a?here HTTP/1.1\r\nHost: h\r\nAuthorization: Bearer xyz\r\n\r\n"
  pub piece : publish_lines (codes "/news/a") (Some (codes "4")) (codes "h") None 12 (bytes (codes "xyz"))
      ≡ codes "POST /news/a?at=12&area=4 HTTP/1.1\r\nHost: h\r\nContent-Type: application/octet-stream\r\nContent-Length: 3\r\n\r\nxyz"
  pub seals : publish_lines (codes "/a") None (codes "h") None 15 seal
      ≡ codes "POST /a?seal&at=15 HTTP/1.1\r\nHost: h\r\nContent-Type: application/octet-stream\r\nContent-Length: 0\r\n\r\n"

-- the answers in replies
pub record AreAnswers : Type 0 where
  pub length : answer_in false 200 (Some 12) ≡ Ok (Length 12)
  pub no_length : answer_in false 200 None ≡ Err Reply
  pub absent : answer_in false 404 (Some 0) ≡ Ok (Length 0)
  pub denied : answer_in false 403 None ≡ Ok (Refused 403)
  pub moved : answer_in false 302 (Some 0) ≡ Ok (Refused 302)
  pub unavailable : answer_in false 503 (Some 40) ≡ Err Unavailable
  pub coded : answer_in true 200 None ≡ Err Reply
  pub conflict : as_length (Some 7) ≡ Ok (Length 7)
  pub no_conflict : as_length None ≡ Err Reply

-- a client at byte 10 sends three bytes
abbrev sending : ℕ → Effort
sending failures = begun (record { length = 10; failures = failures }) (bytes (codes "xyz"))

-- the query that finds out whether an earlier try was taken
abbrev checking : ℕ → Effort
checking failures = record { doing = Checking 10 13; failures = failures }

-- the second try to send the bytes
abbrev again : ℕ → Effort
again failures = record { doing = Posting 10 13 true; failures = failures }

-- the results of answers
pub record AreSteps : Type 0 where
  pub taken : next_of (sending 3) (Ok Taken) ≡ done 13
  pub elsewhere : next_of (sending 0) (Ok (Length 13)) ≡ Ended (ends.Length 13)
  pub lost : next_of (sending 0) (Err Link) ≡ Again (checking 1)
  pub not_arrived : next_of (checking 1) (Ok (Length 10)) ≡ Again (again 1)
  pub was_taken : next_of (checking 1) (Ok (Length 13)) ≡ done 13
  pub other : next_of (checking 1) (Ok (Length 11)) ≡ Ended (ends.Length 11)
  pub came_late : next_of (again 1) (Ok (Length 13)) ≡ done 13
  pub fourth : next_of (checking 3) (Err Reply) ≡ Again (checking 4)
  pub fifth : next_of (checking 4) (Err Reply) ≡ Ended ends.Reply
  pub fifth_unavailable : next_of (checking 4) (Err Unavailable) ≡ Ended (ends.Refused 503)
  pub refused : next_of (sending 0) (Ok (Refused 403)) ≡ Ended (ends.Refused 403)

abbrev group : List ℕ → SourceGroup
group content = record { held = true; content = content; sealed = false }

abbrev piece : ℕ → List ℕ → Post
piece at content = record { at = at; load = bytes content }

-- a load that arrives more than once is taken once
pub record AreArrivals : Type 0 where
  pub twice : all_arrived (piece 1 (codes "b") ∷ piece 1 (codes "b") ∷ []) (group (codes "a")) ≡ group (codes "ab")
  pub late : all_arrived (piece 2 (codes "c") ∷ piece 1 (codes "b") ∷ piece 2 (codes "c") ∷ []) (group (codes "a")) ≡ group (codes "abc")
  pub closed : may_take (record (group (codes "a")) { sealed = true }) (piece 1 (codes "b")) ≡ false
  pub closed_again : may_take (record (group (codes "a")) { sealed = true }) (record { at = 1; load = seal }) ≡ true
