-- A GET or HEAD of a group: a client is given its bytes from a byte on, or a part of them, or is sent to another node.
use Rattle.std.specs.Prelude.{⊤, ℕ, Bool, true, false, not, ◌==◌, if◌then◌else◌, Option, Some, List, length}
use Rattle.oc_http.specs.Writing.{head_text}
use Rattle.oc_http.specs.declared.content_type.ContentType.TheVariants.{Media}
use Rattle.oc_http.specs.declared.framing.Framing.{Framing}
use Rattle.oc_http.specs.declared.framing.Framing.TheVariants as framings
use Rattle.oc_http.specs.declared.reply.Reply.{Reply}
use Rattle.oc_model.specs.declared.answer.Answer.{Answer}
use Rattle.oc_model.specs.declared.answer.Answer.TheVariants as answers
use Rattle.oc_select.specs.Media.{media_type}
use Rattle.oc_select.specs.Tags.{tag_of}
use Rattle.oc_select.specs.Texts.{no_range, part_range}
use Rattle.oc_select.specs.declared.content.Content.{Content}
use Rattle.oc_select.specs.declared.selection.Selection.{Selection}
use Rattle.oc_select.specs.declared.selection.Selection.TheVariants as selections
use Rattle.oc_routes.specs.Connections.{connection_for}
use Rattle.oc_routes.specs.Manners.{content_for}
use Rattle.oc_routes.specs.Reasons.{bare, condition_line, no_group_line, nowhere_line, past_line, range_line, telling}
use Rattle.oc_routes.specs.Responses.{address_of, whole, whole_for}
use Rattle.oc_routes.specs.Selections.{content_here, content_of, is_past}
use Rattle.oc_routes.specs.Shown.{here_answer, location_of, shown, told_text}
use Rattle.oc_routes.specs.declared.hint.Hint.{Hint}
use Rattle.oc_routes.specs.declared.hint.Hint.TheVariants.{Of}
use Rattle.oc_routes.specs.declared.holding.Holding.{Holding}
use Rattle.oc_routes.specs.declared.manner.Manner.{Manner}
use Rattle.oc_routes.specs.declared.manner.Manner.TheVariants.{Follow}
use Rattle.oc_routes.specs.declared.response.Response.{Response}
use Rattle.oc_routes.specs.declared.showing.Client.{Client}
use Rattle.oc_routes.specs.declared.showing.Shown.{Shown}

-- the answers of the step of a client
abbrev pub IsClientAnswer : Answer → Type 0
IsClientAnswer (answers.Redirect node) = ⊤
IsClientAnswer (answers.Serve count) = ⊤
IsClientAnswer answers.NoGroup = ⊤
IsClientAnswer answer = ⊥

-- Replies with content

-- a reply whose content is bytes of a group; the ending of the group's name tells their type
abbrev pub of_group : ℕ → List ℕ → Reply
of_group status group = record (bare status) { content_type = Some (Media (media_type group)) }

-- likewise of a content whose tag is told, and of which parts may be asked for
abbrev pub tagged : ℕ → List ℕ → Content → Reply
tagged status group content = record (of_group status group) { etag = Some (tag_of content); accepts_ranges = true }

-- the head of a content that is given whole; of one that is followed nothing but its type is told
abbrev pub whole_head : Manner → List ℕ → Content → Reply
whole_head Follow group content = of_group 200 group
whole_head manner group content = tagged 200 group content

-- the head of a part of a content
abbrev pub part_head : List ℕ → Content → ℕ → ℕ → Reply
part_head group content start count = record (tagged 206 group content) { content_range = Some (part_range content start count) }

-- whether a content is sent in chunks: to a client that follows a group which may still grow
abbrev pub is_chunked : Manner → Bool → Bool
is_chunked Follow sealed = not sealed
is_chunked manner sealed = false

-- the framing of a content: in chunks, or by its length
abbrev pub framing_for : Bool → ℕ → Framing
framing_for true count = framings.Chunked
framing_for false count = framings.Length count

-- `count` bytes of a group from a byte on
abbrev pub served : Client → Bool → ℕ → Content → Response
served c sealed count content = record {
  text = head_text (whole_head c.manner c.group content) (framing_for (is_chunked c.manner sealed) count) (connection_for c.last);
  content = content_for c.manner (record { start = c.start; count = count; chunked = is_chunked c.manner sealed });
  connection = connection_for c.last;
}

-- a part of a content
abbrev pub part_served : Client → Content → ℕ → ℕ → Response
part_served c content start count = record {
  text = head_text (part_head c.group content start count) (framings.Length count) (connection_for c.last);
  content = content_for c.manner (record { start = start; count = count; chunked = false });
  connection = connection_for c.last;
}

-- Replies without content

-- the reply to a client that has the content
abbrev pub known_reply : Content → Reply
known_reply content = record (bare 304) { etag = Some (tag_of content) }

-- the reply to a client whose range has no byte of a content
abbrev pub range_reply : ℕ → Reply
range_reply length = record (telling 416 (range_line length)) { content_range = Some (no_range length) }

-- the reply to a client whose start is past the end of a sealed group of this length
abbrev pub past_reply : ℕ → Reply
past_reply length = record (telling 416 (past_line length)) { content_range = Some (no_range length) }

-- the redirection of a client to this URL
abbrev pub redirection : List ℕ → Reply
redirection location = record (bare 302) { location = Some location }

-- The reply to a client

-- what the client selected of a content, `count` bytes of which it would be given
abbrev pub chosen : Client → Selection → Bool → ℕ → Content → Response
chosen c (selections.Part start size) sealed count content = part_served c content start size
chosen c selections.Unsatisfiable sealed count content = whole_for c.manner (range_reply content.length) c.last
chosen c selection sealed count content = served c sealed count content

-- what the client selected, or the reply to a start past the end of its group
abbrev pub served_or_past : Client → Bool → ℕ → Content → Holding → Response
served_or_past c sealed count content h =
    if is_past c.start h then whole_for c.manner (past_reply h.held) c.last else chosen c c.selection sealed count content

-- the reply to a client that is not sent elsewhere
abbrev pub given_response : Client → Answer → Bool → ℕ → Holding → Response
given_response c (answers.Serve count) sealed length h = served_or_past c sealed count (content_of length sealed) h
given_response c refusal sealed length h = whole_for c.manner (telling 404 no_group_line) c.last

-- of a group whose length the client told, and which is not sealed here, no part is given by a node that gives what it holds
abbrev pub selection_here : Hint → Bool → Selection → Selection
selection_here (Of length) false selection = selections.Whole
selection_here hint sealed selection = selection

-- the reply where the node to which the client would be sent has no address: the bytes that are here, but 503 to one that follows, which would ask without end
abbrev pub here_response : Client → Manner → Holding → Response
here_response c Follow h = whole_for Follow (telling 503 nowhere_line) c.last
here_response c manner h = given_response (record c { selection = selection_here c.hint h.sealed c.selection }) (here_answer h c.start) h.sealed h.held h

-- the reply to a client that is sent to the node at this address; an empty one is none
abbrev pub sent_response : Client → List ℕ → Holding → Response
sent_response c address h =
    if length address == 0 then here_response c c.manner h
    else whole (redirection (location_of address c.group c.start (told_text c.hint h) c.manner)) c.last

-- the reply to a client that is shown `Redirect`, `Serve` or `NoGroup`, and the group with this length, as sealed or not
abbrev pub client_response : Client → Answer → Bool → ℕ → Holding → List (Option (List ℕ)) → Response
client_response c (answers.Redirect node) sealed length h addresses = sent_response c (address_of addresses node) h
client_response c answer sealed length h addresses = given_response c answer sealed length h

abbrev pub shown_response : Client → Shown → Holding → List (Option (List ℕ)) → Response
shown_response c s h addresses = client_response c s.answer s.sealed s.length h addresses

-- the reply to a client, by what it selected, for this answer of the step
abbrev pub selected_response : Client → Selection → Answer → Holding → List (Option (List ℕ)) → Response
selected_response c selections.NotModified answer h addresses = whole (known_reply (content_here c.hint h c.start)) c.last
selected_response c selections.PreconditionFailed answer h addresses = whole_for c.manner (telling 412 condition_line) c.last
selected_response c selection answer h addresses = shown_response c (shown c.hint answer h c.start) h addresses

abbrev pub group_response : Client → Answer → Holding → List (Option (List ℕ)) → Response
group_response c answer h addresses = selected_response c c.selection answer h addresses
