-- The reply that brings a message back.
use Rattle.std.proofs.Common.{◌≡◌, ℕ, Bool, Some, None, Option, Result, Ok, Err, IfOk, List, [], ◌++◌, length, sym, ap, ◌∙◌}
use Rattle.oc_http.specs.Writing.{head_text}
use Rattle.oc_http.specs.declared.framing.Framing.TheVariants as framings
use Rattle.oc_http.specs.declared.framing.Persistence.{Persistence}
use Rattle.oc_http.specs.declared.reply.Reply.{Reply}
use Rattle.oc_model.specs.declared.message.Message.{Message}
use Rattle.oc_wire.specs.Macs.{mac_for}
use Rattle.oc_wire.specs.Spelling.{spelling}
use Rattle.oc_routes.specs.Connections.{connection_for}
use Rattle.oc_routes.specs.Message.{message_response}
use Rattle.oc_routes.specs.Responses.{typed, whole}
use Rattle.oc_routes.specs.declared.response.Response.{Response}

-- a response without a content from a group
abbrev pub sends : List ℕ → Persistence → Response
sends text connection = record { text = text; content = None; connection = connection }

-- the message is spelled, and its spelling has its MAC
pub brought : {M : Type 0} (r : Result Response M) (message : Message) (back : Option Message) (key : Option (List ℕ)) (body lent : List ℕ) (mac : Option (List ℕ)) (reply : Reply) (last : Bool)
    → back ≡ Some message → body ≡ spelling message → lent ≡ body → mac ≡ mac_for key lent → reply ≡ record (typed body) { mac = mac }
    → IfOk r (λ (x : Response). x ≡ whole reply last) → IfOk r (λ (x : Response). x ≡ message_response key back last)
brought (Ok x) message back key body lent mac reply last there spells lends macs is says =
    says
    ∙ ap (λ (y : Reply). whole y last) is
    ∙ ap (λ (m : Option (List ℕ)). whole (record (typed body) { mac = m }) last) (macs ∙ ap (mac_for key) (lends ∙ spells))
    ∙ ap (λ (b : List ℕ). whole (record (typed b) { mac = mac_for key (spelling message) }) last) spells
    ∙ ap (λ (m : Option Message). message_response key m last) (sym there)
brought (Err e) message back key body lent mac reply last there spells lends macs is says = tt

-- the reply without a MAC whose body is put after its head
pub put_after : (message : Message) (last : Bool) (count : ℕ) (connection : Persistence) (head text : List ℕ)
    → connection ≡ connection_for last → count ≡ length (spelling message) → head ≡ head_text (typed []) (framings.Length count) connection → text ≡ head ++ spelling message
    → sends text connection ≡ message_response None (Some message) last
put_after message last count connection head text kept long tells puts =
    ap (λ (t : List ℕ). sends t connection) (puts ∙ ap (λ (h : List ℕ). h ++ spelling message) tells)
    ∙ ap (λ (n : ℕ). sends (head_text (typed []) (framings.Length n) connection ++ spelling message) connection) long
    ∙ ap (λ (k : Persistence). sends (head_text (typed []) (framings.Length (length (spelling message))) k ++ spelling message) k) kept
