-- A GET or HEAD of `/!probe`: the content by which rates are measured.
use Rattle.std.specs.Prelude.{ℕ, Bool, None, List, [], ◌++◌, replicate}
use Rattle.std.specs.Str.{byte}
use Rattle.oc_http.specs.Writing.{head_text}
use Rattle.oc_http.specs.declared.framing.Framing.TheVariants as framings
use Rattle.oc_probe.specs.declared.rate.TheConstants.{PROBE_BYTES}
use Rattle.oc_routes.specs.Connections.{connection_for}
use Rattle.oc_routes.specs.Responses.{typed}
use Rattle.oc_routes.specs.declared.manner.Manner.{Manner}
use Rattle.oc_routes.specs.declared.manner.Manner.TheVariants.{HeadAlone}
use Rattle.oc_routes.specs.declared.response.Response.{Response}

-- a byte `count` times
unfoldable pub copies : ℕ → ℕ → List ℕ
copies count b = replicate count b

-- the content by which rates are measured
abbrev pub probe_content : List ℕ
probe_content = copies PROBE_BYTES (byte "x")

-- the body of the reply to a probe: this content, and none for a HEAD
abbrev pub probe_body : Manner → List ℕ
probe_body HeadAlone = []
probe_body manner = probe_content

-- the reply to a probe
abbrev pub probe_response : Manner → Bool → Response
probe_response manner last = record {
  text = head_text (typed []) (framings.Length PROBE_BYTES) (connection_for last) ++ probe_body manner;
  content = None;
  connection = connection_for last;
}
