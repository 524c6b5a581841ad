-- Worked examples of heads and texts.
use Rattle.std.specs.Prelude.{◌≡◌, ℕ, true, false, Some, None, List, [], ◌∷◌, ◌++◌, codes, replicate}
use Rattle.oc_select.specs.Values.{no_selectors}
use Rattle.oc_http.specs.Fields.{Named, closes, is_unusable, length_of, only_of, number_of, authorizations, macs, group_lengths, selectors_of}
use Rattle.oc_http.specs.Targets.{path_of, query_of}
use Rattle.oc_http.specs.Escapes.{decoded, path_text}
use Rattle.oc_http.specs.Requests.{head_fault, expects, begins_with_head}
use Rattle.oc_http.specs.Responses.{body_length, reply_head_fault, reply_head_of, reply_fault, is_chunked}
use Rattle.oc_http.specs.Writing.{request_text, request_with, get_text, follow_text, probe_text, head_text, to_head_text, response_text}
use Rattle.oc_http.specs.declared.content_type.ContentType.TheVariants.{Octets, Html, Text, Media}
use Rattle.oc_http.specs.declared.fault.HttpFault.TheVariants as faults
use Rattle.oc_http.specs.declared.framing.Persistence.TheVariants.{Close, Keep}
use Rattle.oc_http.specs.declared.framing.Framing.TheVariants as framings
use Rattle.oc_http.specs.declared.head.Method.TheVariants.{Get, Post}
use Rattle.oc_http.specs.declared.reply.Reply.{Reply}

abbrev host : Named
host = (codes "hOST", codes "a")

abbrev length_is : List ℕ → Named
length_is value = (codes "Content-Length", value)

abbrev coding_is : List ℕ → Named
coding_is value = (codes "Transfer-Encoding", value)

abbrev connection_is : List ℕ → Named
connection_is value = (codes "connection", value)

abbrev mac_is : List ℕ → Named
mac_is value = (codes "overcast-MAC", value)

abbrev tags_are : List ℕ → Named
tags_are value = (codes "if-none-MATCH", value)

abbrev range_is : List ℕ → Named
range_is value = (codes "Range", value)

abbrev group_length_is : List ℕ → Named
group_length_is value = (codes "Overcast-Length", value)

-- the faults of requests, each before those that follow it
pub record AreRefused : Type 0 where
  pub none : head_fault Get 1 (host ∷ []) ≡ None
  pub old : head_fault Get 0 [] ≡ None
  pub most_fields : head_fault Get 0 (replicate 64 (codes "a", [])) ≡ None
  pub too_many_fields : head_fault Get 1 (replicate 65 (codes "a", [])) ≡ Some faults.Fields
  pub no_host : head_fault Get 1 (coding_is (codes "chunked") ∷ []) ≡ Some faults.Host
  pub two_hosts : head_fault Get 0 (host ∷ host ∷ []) ≡ Some faults.Host
  pub coding : head_fault Get 1 (host ∷ coding_is (codes "chunked") ∷ []) ≡ Some (faults.Coding false)
  pub both : head_fault Get 1 (host ∷ length_is (codes "x") ∷ coding_is [] ∷ []) ≡ Some (faults.Coding true)
  pub no_number : head_fault Post 1 (host ∷ length_is (codes "+1") ∷ []) ≡ Some (faults.Length false)
  pub empty : head_fault Post 1 (host ∷ length_is [] ∷ []) ≡ Some (faults.Length false)
  pub too_great : head_fault Get 1 (host ∷ length_is (codes "18446744073709551616") ∷ []) ≡ Some (faults.Length false)
  pub twice : head_fault Post 1 (host ∷ length_is (codes "1") ∷ length_is (codes "1") ∷ []) ≡ Some (faults.Length false)
  pub no_length : head_fault Post 1 (host ∷ []) ≡ Some (faults.Length true)
  pub most : head_fault Post 1 (host ∷ length_is (codes "1000000") ∷ []) ≡ None
  pub too_long : head_fault Get 1 (host ∷ length_is (codes "1000001") ∷ []) ≡ Some faults.BodyLong

-- the faults of responses
pub record AreRepliesRefused : Type 0 where
  pub none : reply_fault [] ≡ None
  pub chunked : reply_head_fault (coding_is (codes "CHUNKED") ∷ []) ≡ None
  pub refused : reply_fault (coding_is (codes "chunked") ∷ []) ≡ Some (faults.Coding false)
  pub strange : reply_head_fault (coding_is (codes "gzip") ∷ []) ≡ Some (faults.Coding false)
  pub twice : reply_head_fault (coding_is (codes "chunked") ∷ coding_is (codes "chunked") ∷ []) ≡ Some (faults.Coding false)
  pub both : reply_head_fault (coding_is (codes "chunked") ∷ length_is (codes "1") ∷ []) ≡ Some (faults.Coding true)
  pub long : reply_head_fault (length_is (codes "1000001") ∷ []) ≡ None
  pub too_long : reply_fault (length_is (codes "1000001") ∷ []) ≡ Some faults.BodyLong

-- the parts of heads
pub record AreParts : Type 0 where
  pub path : path_of (codes "/a?b?c") ≡ codes "/a"
  pub query : query_of (codes "/a?b?c") ≡ codes "b?c"
  pub no_query : query_of (codes "/a") ≡ []
  pub absolute : path_of (codes "HTTP://h:1/a/b?c") ≡ codes "/a/b"
  pub authority : path_of (codes "http://h") ≡ codes "/"
  pub other_scheme : path_of (codes "https://h/a") ≡ codes "https://h/a"
  pub zeros : length_of (codes "007" ∷ []) ≡ Some 7
  pub greatest : is_unusable (codes "18446744073709551615" ∷ []) ≡ false
  pub closes_last : closes (connection_is (codes "keep-alive") ∷ connection_is (codes "a,\t Close ") ∷ []) ≡ true
  pub closes_not : closes (connection_is (codes "closed, clo se") ∷ []) ≡ false
  pub waits : expects 1 ((codes "Expect", codes "100-Continue") ∷ []) ≡ true
  pub waits_not : expects 0 ((codes "Expect", codes "100-continue") ∷ []) ≡ false
  pub chunked : is_chunked (coding_is (codes "Chunked") ∷ []) ≡ true
  pub no_mac : only_of (macs (host ∷ [])) ≡ None
  pub mac : only_of (macs (host ∷ mac_is (codes "0a") ∷ [])) ≡ Some (codes "0a")
  pub two_macs : only_of (macs (mac_is (codes "0a") ∷ mac_is (codes "0a") ∷ [])) ≡ None
  pub token : only_of (authorizations ((codes "AUTHORIZATION", codes "Bearer t") ∷ host ∷ [])) ≡ Some (codes "Bearer t")
  pub selectors : selectors_of (tags_are (codes "\"1\"") ∷ host ∷ range_is (codes "bytes=0-") ∷ tags_are (codes "*") ∷ [])
      ≡ record no_selectors { if_none_match = codes "\"1\"" ∷ codes "*" ∷ []; range = codes "bytes=0-" ∷ [] }
  pub no_body : body_length (reply_head_of 304 (length_is (codes "3") ∷ [])) ≡ Some 0
  pub body : body_length (reply_head_of 206 (length_is (codes "3") ∷ [])) ≡ Some 3
  pub group_length : number_of (group_lengths (group_length_is (codes "007") ∷ [])) ≡ Some 7
  pub no_group_length : number_of (group_lengths (group_length_is (codes "+7") ∷ [])) ≡ None
  pub two_group_lengths : number_of (group_lengths (group_length_is (codes "7") ∷ group_length_is (codes "7") ∷ [])) ≡ None

abbrev reply : ℕ → Reply
reply status = record { status = status; location = None; content_type = None; body = []; rule = None; content_range = None; etag = None; accepts_ranges = false; group_length = None; mac = None }

-- the texts
pub record AreTexts : Type 0 where
  pub request : request_text (codes "node2") (codes "ab")
      ≡ codes "POST /!overcast HTTP/1.1\r\nHost: node2\r\nContent-Type: application/octet-stream\r\nContent-Length: 2\r\n\r\nab"
  pub request_with_mac : request_with (Some (codes "0a")) (codes "[::1]:7001") (codes "ab")
      ≡ codes "POST /!overcast HTTP/1.1\r\nHost: [::1]:7001\r\nContent-Type: application/octet-stream\r\nContent-Length: 2\r\nOvercast-Mac: 0a\r\n\r\nab"
  pub get : get_text (codes "/a") (Some (codes "start=2")) (codes "h:80") ≡ codes "GET /a?start=2 HTTP/1.1\r\nHost: h:80\r\n\r\n"
  pub probe : probe_text (codes "h") ≡ codes "GET /!probe HTTP/1.1\r\nHost: h\r\n\r\n"
  pub follow : follow_text (codes "/a") 10 (Some (codes "4")) (codes "h") ≡ codes "GET /a?start=10&follow&area=4 HTTP/1.1\r\nHost: h\r\n\r\n"
  pub redirect : response_text (record (reply 302) { location = Some (codes "http://127.0.0.1:7002/news/a?start=2") }) Close
      ≡ codes "HTTP/1.1 302 Found\r\nLocation: http://127.0.0.1:7002/news/a?start=2\r\nContent-Length: 0\r\nConnection: close\r\n\r\n"
  pub content : response_text (record (reply 200) { content_type = Some Octets; body = codes "llo" }) Close
      ≡ codes "HTTP/1.1 200 OK\r\nContent-Type: application/octet-stream\r\nContent-Length: 3\r\nConnection: close\r\n\r\nllo"
  pub no_content : response_text (reply 204) Close ≡ codes "HTTP/1.1 204 No Content\r\nConnection: close\r\n\r\n"
  pub method : response_text (reply 405) Close ≡ codes "HTTP/1.1 405 Method Not Allowed\r\nAllow: GET, HEAD, POST\r\nContent-Length: 0\r\nConnection: close\r\n\r\n"
  pub denied : response_text (record (reply 403) { rule = Some 7 }) Close ≡ codes "HTTP/1.1 403 Forbidden\r\nOvercast-Rule: 7\r\nContent-Length: 0\r\nConnection: close\r\n\r\n"
  pub elsewhere : response_text (record (reply 409) { group_length = Some 12 }) Close ≡ codes "HTTP/1.1 409 Conflict\r\nOvercast-Length: 12\r\nContent-Length: 0\r\nConnection: close\r\n\r\n"
  pub unknown : response_text (record (reply 401) { rule = Some 2; content_type = Some Text; body = codes "a\n" }) Close
      ≡ codes "HTTP/1.1 401 Unauthorized\r\nWWW-Authenticate: Bearer\r\nOvercast-Rule: 2\r\nContent-Type: text/plain; charset=utf-8\r\nContent-Length: 2\r\nConnection: close\r\n\r\na\n"
  pub past_the_end : response_text (record (reply 416) { content_type = Some Text; content_range = Some (codes "bytes */12"); body = codes "a\n" }) Close
      ≡ codes "HTTP/1.1 416 Range Not Satisfiable\r\nContent-Type: text/plain; charset=utf-8\r\nContent-Range: bytes */12\r\nContent-Length: 2\r\nConnection: close\r\n\r\na\n"
  pub to_head : to_head_text (record (reply 404) { content_type = Some Text; body = codes "a\n" }) Close
      ≡ codes "HTTP/1.1 404 Not Found\r\nContent-Type: text/plain; charset=utf-8\r\nContent-Length: 2\r\nConnection: close\r\n\r\n"
  pub page : response_text (record (reply 200) { content_type = Some Html; body = codes "a" }) Close
      ≡ codes "HTTP/1.1 200 OK\r\nContent-Type: text/html; charset=utf-8\r\nContent-Length: 1\r\nConnection: close\r\n\r\na"
  pub message : response_text (record (reply 200) { content_type = Some Octets; body = codes "ab"; mac = Some (codes "0a") }) Close
      ≡ codes "HTTP/1.1 200 OK\r\nContent-Type: application/octet-stream\r\nContent-Length: 2\r\nConnection: close\r\nOvercast-Mac: 0a\r\n\r\nab"
  pub whole : response_text (record (reply 200) { content_type = Some (Media (codes "text/css")); etag = Some (codes "\"3\""); accepts_ranges = true; body = codes "abc" }) Keep
      ≡ codes "HTTP/1.1 200 OK\r\nContent-Type: text/css\r\nETag: \"3\"\r\nAccept-Ranges: bytes\r\nContent-Length: 3\r\n\r\nabc"
  pub part : response_text (record (reply 206) { content_type = Some (Media (codes "text/css")); content_range = Some (codes "bytes 1-2/3"); etag = Some (codes "\"3\""); accepts_ranges = true; body = codes "bc" }) Close
      ≡ codes "HTTP/1.1 206 Partial Content\r\nContent-Type: text/css\r\nContent-Range: bytes 1-2/3\r\nETag: \"3\"\r\nAccept-Ranges: bytes\r\nContent-Length: 2\r\nConnection: close\r\n\r\nbc"
  pub not_modified : response_text (record (reply 304) { etag = Some (codes "\"3\"") }) Keep ≡ codes "HTTP/1.1 304 Not Modified\r\nETag: \"3\"\r\n\r\n"
  pub changed : response_text (record (reply 412) { content_type = Some Text; body = codes "a\n" }) Keep
      ≡ codes "HTTP/1.1 412 Precondition Failed\r\nContent-Type: text/plain; charset=utf-8\r\nContent-Length: 2\r\n\r\na\n"
  pub kept : head_text (record (reply 200) { content_type = Some Octets }) framings.Chunked Keep
      ≡ codes "HTTP/1.1 200 OK\r\nContent-Type: application/octet-stream\r\nTransfer-Encoding: chunked\r\n\r\n"

-- paths and their texts
pub record ArePaths : Type 0 where
  pub plain : decoded (codes "/a+b") ≡ Some (codes "/a+b")
  pub either_case : decoded (codes "/%41%2b%2B%fF") ≡ Some (codes "/A++" ++ 255 ∷ [])
  pub once : decoded (codes "/%2541") ≡ Some (codes "/%41")
  pub empty : decoded [] ≡ Some []
  pub alone : decoded (codes "/a%") ≡ None
  pub one_digit : decoded (codes "/a%4") ≡ None
  pub no_digit : decoded (codes "/%4g/a") ≡ None
  pub no_first_digit : decoded (codes "/% 1") ≡ None
  pub two_marks : decoded (codes "/%%41") ≡ None
  pub nul : decoded (codes "/a%00") ≡ None
  pub slash : decoded (codes "/a%2Fb") ≡ None
  pub small_slash : decoded (codes "/a%2fb") ≡ None
  pub written : path_text (codes "/a.b-c_d~/+:=@,() %" ++ 127 ∷ 255 ∷ []) ≡ codes "/a.b-c_d~/%2B%3A%3D%40%2C%28%29%20%25%7F%FF"
  pub head : begins_with_head (codes "\r\n\nHEAD") ≡ true
  pub no_head : begins_with_head (codes "\r\rHEAD /a") ≡ false
  pub other : begins_with_head (codes "HEA") ≡ false
