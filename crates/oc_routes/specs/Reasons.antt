-- The body of a reply of status 400 or above: one line with the cause and a remedy. The texts are no promise;
-- one promise is that each is made of the arguments here and of nothing else: the cause of a refusal, with the number
-- of the rule or the length of the group, or the answer of its step; the group's name and length; and the source's address.
use Rattle.std.specs.Prelude.{ℕ, ◌==◌, Bool, true, false, if◌then◌else◌, Some, None, List, [], ◌++◌, codes, decimal, length}
use Rattle.oc_http.specs.Writing.{response_text, to_head_text}
use Rattle.oc_http.specs.declared.content_type.ContentType.TheVariants.{Text}
use Rattle.oc_http.specs.declared.framing.Persistence.{Persistence}
use Rattle.oc_http.specs.declared.reply.Reply.{Reply}
use Rattle.oc_model.specs.declared.answer.Answer.{Answer}
use Rattle.oc_model.specs.declared.answer.Answer.TheVariants as answers
use Rattle.oc_routes.specs.declared.refused.Refused.{Refused}
use Rattle.oc_routes.specs.declared.refused.Refused.TheVariants.{Head, HeadLong, Fields, Host, Coding, Length, BodyLong, Method, Path, Query, Denied, Mac, Message, Body, At}

-- Replies

-- a reply without a body
abbrev pub bare : ℕ → Reply
bare status = record { status = status; location = None; content_type = None; body = []; rule = None; content_range = None; etag = None; accepts_ranges = false; group_length = None; mac = None }

-- a reply whose body is this line
abbrev pub telling : ℕ → List ℕ → Reply
telling status line = record (bare status) { content_type = Some Text; body = line }

-- the text of a reply with this fate of its connection: to a HEAD its head alone, with the length of the body
abbrev pub reply_text : Bool → Reply → Persistence → List ℕ
reply_text true reply connection = to_head_text reply connection
reply_text false reply connection = response_text reply connection

-- Lines of requests that are refused

-- the line for a body with a transfer coding, by whether a length is given too
abbrev pub coding_line : Bool → List ℕ
coding_line true = codes "the body has a transfer coding beside its length: give Content-Length alone\n"
coding_line false = codes "transfer codings are not read: give Content-Length\n"

-- the line for a Content-Length, by whether it is missing
abbrev pub length_line : Bool → List ℕ
length_line true = codes "the length of the body is missing: give Content-Length\n"
length_line false = codes "Content-Length is no number, or there are several: give one\n"

-- the line for a denied request, by whether a token would do
abbrev pub denied_line : ℕ → Bool → List ℕ
denied_line rule true = codes "access rule " ++ decimal rule ++ codes " denies this without a token: send the field Authorization: Bearer TOKEN\n"
denied_line rule false = codes "access rule " ++ decimal rule ++ codes " denies this: ask who runs this node\n"

-- a number of bytes
abbrev pub bytes_text : ℕ → List ℕ
bytes_text count = if count == 1 then codes "1 byte" else decimal count ++ codes " bytes"

-- the line for a condition that is not met: a group of this length can be appended to at this length
abbrev pub at_line : ℕ → List ℕ
at_line length = codes "the group has " ++ bytes_text length ++ codes ": at=" ++ decimal length ++ codes " appends\n"

-- the line for a request that is refused for this alone
abbrev pub plain_line : Refused → List ℕ
plain_line Head = codes "this is no request of HTTP/1.1 or 1.0: send a request line and fields as RFC 9112 has them\n"
plain_line HeadLong = codes "the head is too long: send at most 8192 bytes\n"
plain_line Fields = codes "the head has too many fields: send at most 64\n"
plain_line Host = codes "Host is missing, or there are several: send one\n"
plain_line BodyLong = codes "the body is too long: publish at most 1000000 bytes at a time\n"
plain_line Method = codes "there is no such method here: use GET, HEAD or POST\n"
plain_line Path = codes "no group can have this path, and no page has it: look at /-/status for the names of groups\n"
plain_line Query = codes "a number of the query is none, or too great: look at start, area, of and at\n"
plain_line Mac = codes "the message has not the MAC of this network's key: give all nodes the same key\n"
plain_line Message = codes "the body is no message to this node: only nodes of this network post here\n"
plain_line Body = codes "a request to seal has no body: publish first, then seal\n"
plain_line refused = []

-- the line for any refused request; one whose connection failed or ended gets none
abbrev pub refused_line : Refused → List ℕ
refused_line (Coding both) = coding_line both
refused_line (Length missing) = length_line missing
refused_line (Denied rule needs_token) = denied_line rule needs_token
refused_line (At length) = at_line length
refused_line refused = plain_line refused

-- Lines by the answer of a step

-- the URL of a group at the source, with a query after it; nothing where the source has no address
abbrev pub source_url : List ℕ → List ℕ → List ℕ → List ℕ
source_url source group query = if length source == 0 then [] else codes ", http://" ++ source ++ group ++ query

-- the line to a publish
abbrev pub publish_line : Answer → List ℕ → List ℕ → List ℕ
publish_line answers.NotSource source group = codes "this node is not the source: publish at the source" ++ source_url source group [] ++ codes "\n"
publish_line answers.Sealed source group = codes "the group is sealed, and takes no more: publish another group\n"
publish_line answers.Groups source group = codes "64 groups are held, the most: publish into a group that is held\n"
publish_line answers.TooLong source group = codes "the group would be too long: at most 1099511627776 bytes fit\n"
publish_line answer source group = []

-- the line to a seal
abbrev pub seal_line : Answer → List ℕ → List ℕ → List ℕ
seal_line answers.NotSource source group = codes "this node is not the source: seal at the source" ++ source_url source group (codes "?seal") ++ codes "\n"
seal_line answers.NoGroup source group = codes "there is no such group: publish it first\n"
seal_line answer source group = []

-- the line to a client
abbrev pub no_group_line : List ℕ
no_group_line = codes "there is no such group here: look at /-/status for the names of groups\n"

-- the line to a client that follows a group, where the node that has more bytes has no address
abbrev pub nowhere_line : List ℕ
nowhere_line = codes "the node that has more of this group has no address: ask again later, or ask another node\n"

-- the line to a client whose start is past the end of a sealed group of this length
abbrev pub past_line : ℕ → List ℕ
past_line length = codes "the group has " ++ bytes_text length ++ codes ", and is sealed: start=" ++ decimal length ++ codes " is the last start\n"

-- the line to a client whose condition does not hold
abbrev pub condition_line : List ℕ
condition_line = codes "the group is not what If-Match names: ask for it without this field\n"

-- the line to a client whose range has no byte of a group of this length
abbrev pub range_line : ℕ → List ℕ
range_line length = codes "the group has " ++ bytes_text length ++ codes ", and none of them is in the range: ask for one that begins before its end\n"
