-- The head of a response, its faults, and the length of its body.
use Rattle.std.specs.Prelude.{◌≡◌, ℕ, ◌≤◌, Bool, false, not, ◌&&◌, ◌||◌, ◌==◌, nat_lt, if◌then◌else◌, Option, Some, None, unwrap_or, Result, List, length, codes}
use Rattle.httparse.specs.Grammar.{ResponseHead, status_code}
use Rattle.oc_base.specs.declared.limits.TheConstants.{MAX_FIELDS, MAX_BODY_BYTES}
use Rattle.oc_http.specs.Fields.{Named, named, is_present, is_only, is_unusable, length_of, number_of, first_of, only_of, codings, lengths, locations, group_lengths, macs, closes}
use Rattle.oc_http.specs.Lengths.{fault_or}
use Rattle.oc_http.specs.declared.fault.HttpFault.{HttpFault}
use Rattle.oc_http.specs.declared.fault.HttpFault.TheVariants as faults
use Rattle.oc_http.specs.declared.reply.Reply.{Reply}
use Rattle.oc_http.specs.declared.reply.ReplyHead.{ReplyHead}

-- a body that is sent in chunks, with no length beside
abbrev pub is_chunked : List Named → Bool
is_chunked fields = is_only (codes "chunked") (codings fields) && not (is_present (lengths fields))

-- the first fault of a response's head, for a reader that understands chunks
abbrev pub reply_head_fault : List Named → Option HttpFault
reply_head_fault fields =
    if nat_lt MAX_FIELDS (length fields) then Some faults.Fields
    else if is_present (codings fields) && not (is_chunked fields) then Some (faults.Coding (is_present (lengths fields)))
    else if is_unusable (lengths fields) then Some (faults.Length false)
    else None

-- the first fault of a response's head, for a reader of whole messages, which understands no transfer coding
abbrev pub reply_fault : List Named → Option HttpFault
reply_fault fields =
    if nat_lt MAX_FIELDS (length fields) then Some faults.Fields
    else if is_present (codings fields) then Some (faults.Coding (is_present (lengths fields)))
    else if is_unusable (lengths fields) then Some (faults.Length false)
    else if nat_lt MAX_BODY_BYTES (unwrap_or (length_of (lengths fields)) 0) then Some faults.BodyLong
    else None

-- the fault that a head without any other can still have for a reader of whole messages
abbrev pub whole_fault : ReplyHead → Option HttpFault
whole_fault head =
    if head.chunked then Some (faults.Coding false)
    else if nat_lt MAX_BODY_BYTES (unwrap_or head.length 0) then Some faults.BodyLong
    else None

-- the head that a status and fields give
abbrev pub reply_head_of : ℕ → List Named → ReplyHead
reply_head_of status fields = record {
  status = status;
  location = first_of (locations fields);
  length = length_of (lengths fields);
  chunked = is_chunked fields;
  closes = closes fields;
  group_length = number_of (group_lengths fields);
  mac = only_of (macs fields);
}

-- the contents of a whole head, or its first fault
abbrev pub read_reply_head : ResponseHead → Result ReplyHead HttpFault
read_reply_head head =
    fault_or (reply_head_of (status_code head) (named head.fields)) (reply_head_fault (named head.fields))

-- the contents of a whole head, or its first fault, for a reader of whole messages
abbrev pub read_reply_start : ResponseHead → Result ReplyHead HttpFault
read_reply_start head =
    fault_or (reply_head_of (status_code head) (named head.fields)) (reply_fault (named head.fields))

-- a response with this status has no body, whatever its head tells
abbrev pub has_no_body : ℕ → Bool
has_no_body status = status == 204 || status == 304

-- the length of the body in bytes; none where it goes to the end of the source
abbrev pub body_length : ReplyHead → Option ℕ
body_length head = if has_no_body head.status then Some 0 else head.length

-- a body of the length that is told, or without one a body of at most `MAX_BODY_BYTES`
abbrev pub IsLong : Option ℕ → List ℕ → Type 0
IsLong (Some count) body = length body ≡ count
IsLong None body = length body ≤ MAX_BODY_BYTES

-- a response with this head and this body
abbrev pub reply_of : ReplyHead → List ℕ → Reply
reply_of head body = record {
  status = head.status;
  location = head.location;
  content_type = None;
  body = body;
  rule = None;
  content_range = None;
  etag = None;
  accepts_ranges = false;
  group_length = head.group_length;
  mac = head.mac;
}
