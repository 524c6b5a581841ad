-- The texts of requests and replies.
use Rattle.std.specs.Prelude.{◌≡◌, ℕ, ◌≤◌, nat_le, Bool, true, false, ◌&&◌, ◌||◌, ◌==◌, if◌then◌else◌, Option, Some, None, IsSome, unwrap_or, List, [], ◌++◌, length, codes, decimal, IsTrue}
use Rattle.std.specs.Char.{is_ascii_alphanumeric, is_ascii_digit}
use Rattle.std.specs.List.{list_all}
use Rattle.std.specs.Str.{byte}
use Rattle.oc_http.specs.Paths.{probe_path}
use Rattle.oc_http.specs.Responses.{has_no_body}
use Rattle.oc_http.specs.declared.content_type.ContentType.{ContentType}
use Rattle.oc_http.specs.declared.content_type.ContentType.TheVariants.{Octets, Json, Metrics, Html, Text, Media}
use Rattle.oc_http.specs.declared.reply.Reply.{Reply}
use Rattle.oc_http.specs.declared.framing.Framing.{Framing}
use Rattle.oc_http.specs.declared.framing.Framing.TheVariants as framings
use Rattle.oc_http.specs.declared.framing.Persistence.{Persistence}
use Rattle.oc_http.specs.declared.framing.Persistence.TheVariants.{Close, Keep}

-- the end of a line
abbrev pub line_end : List ℕ
line_end = codes "\r\n"

-- a letter, a digit, `.`, `-`, `:`, or one of the brackets around an address of IPv6
abbrev pub is_host_byte : ℕ → Bool
is_host_byte b = is_ascii_alphanumeric b || b == byte "." || b == byte "-" || b == byte ":" || b == byte "[" || b == byte "]"

-- 1 to 255 such bytes
pub record IsHost (host : List ℕ) : Type 0 where
  pub some : 1 ≤ length host
  pub most : length host ≤ 255
  pub bytes : IsTrue (list_all is_host_byte host)

-- `0` to `9` or `a` to `f`
abbrev pub is_mac_digit : ℕ → Bool
is_mac_digit b = is_ascii_digit b || (nat_le 97 b && nat_le b 102)

-- the MAC of a body, as it is written in a head: 64 hexadecimal digits in lower case
pub record IsMac (mac : List ℕ) : Type 0 where
  pub long : length mac ≡ 64
  pub digits : IsTrue (list_all is_mac_digit mac)

-- `Host: H`
abbrev pub host_line : List ℕ → List ℕ
host_line host = codes "Host: " ++ host ++ line_end

-- `Content-Type: application/octet-stream`
abbrev pub type_line : List ℕ
type_line = codes "Content-Type: application/octet-stream\r\n"

-- `Content-Length: N`
abbrev pub length_line : ℕ → List ℕ
length_line count = codes "Content-Length: " ++ decimal count ++ line_end

-- `Connection: close`, except where the connection is kept
abbrev pub connection_line : Persistence → List ℕ
connection_line Close = codes "Connection: close\r\n"
connection_line Keep = []

-- a field with this name and this value, where there is one
abbrev pub text_line : List ℕ → Option (List ℕ) → List ℕ
text_line name None = []
text_line name (Some value) = name ++ value ++ line_end

-- `Overcast-Mac: M`, where there is a MAC
abbrev pub mac_line : Option (List ℕ) → List ℕ
mac_line = text_line (codes "Overcast-Mac: ")

-- the last lines of a head: the MAC, where there is one, and an empty line
abbrev pub head_end : Option (List ℕ) → List ℕ
head_end mac = mac_line mac ++ line_end

-- the head of a node's request with this MAC, where there is one, and with a body of `count` bytes
abbrev pub request_head_with : Option (List ℕ) → List ℕ → ℕ → List ℕ
request_head_with mac host count =
    codes "POST /!overcast HTTP/1.1\r\n" ++ host_line host ++ type_line ++ length_line count ++ head_end mac

-- a node's request with this MAC, where there is one, and with this body
abbrev pub request_with : Option (List ℕ) → List ℕ → List ℕ → List ℕ
request_with mac host body = request_head_with mac host (length body) ++ body

-- a node's request with this body, and without a MAC
abbrev pub request_text : List ℕ → List ℕ → List ℕ
request_text = request_with None

-- a GET request
abbrev pub get_request_text : List ℕ → List ℕ → List ℕ
get_request_text target host = codes "GET " ++ target ++ codes " HTTP/1.1\r\n" ++ host_line host ++ line_end

-- `?` and a query, where there is one
abbrev pub query_text : Option (List ℕ) → List ℕ
query_text None = []
query_text (Some query) = codes "?" ++ query

-- the request of a download
abbrev pub get_text : List ℕ → Option (List ℕ) → List ℕ → List ℕ
get_text path query host = get_request_text (path ++ query_text query) host

-- the request of a probe
abbrev pub probe_text : List ℕ → List ℕ
probe_text host = get_text probe_path None host

-- `&area=A`, where there is one
abbrev pub area_text : Option (List ℕ) → List ℕ
area_text None = []
area_text (Some area) = codes "&area=" ++ area

-- the request of a download that follows a group, from a byte on
abbrev pub follow_text : List ℕ → ℕ → Option (List ℕ) → List ℕ → List ℕ
follow_text path start area host =
    get_request_text (path ++ codes "?start=" ++ decimal start ++ codes "&follow" ++ area_text area) host

-- the name of a status
abbrev pub phrase : ℕ → Option (List ℕ)
phrase status =
    if status == 200 then Some (codes "OK")
    else if status == 204 then Some (codes "No Content")
    else if status == 206 then Some (codes "Partial Content")
    else if status == 302 then Some (codes "Found")
    else if status == 304 then Some (codes "Not Modified")
    else if status == 400 then Some (codes "Bad Request")
    else if status == 401 then Some (codes "Unauthorized")
    else if status == 403 then Some (codes "Forbidden")
    else if status == 404 then Some (codes "Not Found")
    else if status == 405 then Some (codes "Method Not Allowed")
    else if status == 409 then Some (codes "Conflict")
    else if status == 411 then Some (codes "Length Required")
    else if status == 412 then Some (codes "Precondition Failed")
    else if status == 413 then Some (codes "Content Too Large")
    else if status == 416 then Some (codes "Range Not Satisfiable")
    else if status == 431 then Some (codes "Request Header Fields Too Large")
    else if status == 501 then Some (codes "Not Implemented")
    else if status == 503 then Some (codes "Service Unavailable")
    else None

-- a status that has a name here
abbrev pub HasPhrase : ℕ → Type 0
HasPhrase status = IsSome (phrase status)

-- the name of a status, between the space before it and the end of its line
abbrev pub phrase_text : ℕ → List ℕ
phrase_text status = codes " " ++ unwrap_or (phrase status) [] ++ line_end

-- `HTTP/1.1 CODE PHRASE`
abbrev pub status_line : ℕ → List ℕ
status_line status = codes "HTTP/1.1 " ++ decimal status ++ codes " " ++ unwrap_or (phrase status) [] ++ line_end

-- `Location`, of a 302
abbrev pub location_line : ℕ → Option (List ℕ) → List ℕ
location_line status None = []
location_line status (Some location) = if status == 302 then codes "Location: " ++ location ++ line_end else []

-- `Allow`, of a 405
abbrev pub allow_line : ℕ → List ℕ
allow_line status = if status == 405 then codes "Allow: GET, HEAD, POST\r\n" else []

-- `WWW-Authenticate`, of a 401
abbrev pub challenge_line : ℕ → List ℕ
challenge_line status = if status == 401 then codes "WWW-Authenticate: Bearer\r\n" else []

-- `Overcast-Rule`, where a rule denied the request
abbrev pub rule_line : Option ℕ → List ℕ
rule_line None = []
rule_line (Some rule) = codes "Overcast-Rule: " ++ decimal rule ++ line_end

-- the name of a type of content
abbrev pub type_name : ContentType → List ℕ
type_name Octets = codes "application/octet-stream"
type_name Json = codes "application/json"
type_name Metrics = codes "text/plain; version=0.0.4"
type_name Html = codes "text/html; charset=utf-8"
type_name Text = codes "text/plain; charset=utf-8"
type_name (Media name) = name

-- `Content-Type`, where it is given
abbrev pub content_type_line : Option ContentType → List ℕ
content_type_line None = []
content_type_line (Some type) = codes "Content-Type: " ++ type_name type ++ line_end

-- `Content-Range`, where a part is told, or the length of a content without the asked part
abbrev pub content_range_line : Option (List ℕ) → List ℕ
content_range_line = text_line (codes "Content-Range: ")

-- `ETag`, where a tag is told
abbrev pub etag_line : Option (List ℕ) → List ℕ
etag_line = text_line (codes "ETag: ")

-- `Accept-Ranges`, where a client may ask for parts
abbrev pub accept_ranges_line : Bool → List ℕ
accept_ranges_line true = codes "Accept-Ranges: bytes\r\n"
accept_ranges_line false = []

-- `Overcast-Length`, where the length of a group is told
abbrev pub group_length_line : Option ℕ → List ℕ
group_length_line None = []
group_length_line (Some count) = codes "Overcast-Length: " ++ decimal count ++ line_end

-- the line that tells the end of the content
abbrev pub framing_line : Framing → List ℕ
framing_line (framings.Length count) = length_line count
framing_line framings.Chunked = codes "Transfer-Encoding: chunked\r\n"

-- the line that tells the end of the content, where there is a content
abbrev pub content_line : ℕ → Framing → List ℕ
content_line status framing = if has_no_body status then [] else framing_line framing

-- the head of a reply, with the empty line that ends it
abbrev pub head_text : Reply → Framing → Persistence → List ℕ
head_text reply framing connection =
    status_line reply.status ++ location_line reply.status reply.location ++ allow_line reply.status
    ++ challenge_line reply.status ++ rule_line reply.rule ++ content_type_line reply.content_type
    ++ content_range_line reply.content_range ++ etag_line reply.etag ++ accept_ranges_line reply.accepts_ranges
    ++ group_length_line reply.group_length ++ content_line reply.status framing ++ connection_line connection
    ++ head_end reply.mac

-- a reply to HEAD: the head with the length of the body, without the body
abbrev pub to_head_text : Reply → Persistence → List ℕ
to_head_text reply = head_text reply (framings.Length (length reply.body))

-- a reply with its body
abbrev pub response_text : Reply → Persistence → List ℕ
response_text reply connection = to_head_text reply connection ++ reply.body
