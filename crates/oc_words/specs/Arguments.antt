-- The words given to the arguments of a subcommand, and the request that they make.
use Rattle.std.specs.Prelude.{◌≢◌, Bool, false, Some, Result, Ok, List, ok_or, slice_get, codes}
use Rattle.std.specs.Option.{option_map_or}
use Rattle.std.specs.Str.{byte, bytes_eq}
use Rattle.clap.specs.Words.{Row, Text, first_of}
use Rattle.oc_base.specs.Steps.{◌>>=◌}
use Rattle.oc_base.specs.declared.why.Why.{Why}
use Rattle.oc_base.specs.declared.why.Why.TheVariants.{Count}
use Rattle.oc_words.specs.Requests.{download_in, checked_node_without, onto_in, replay_in, sample_in, service_in}
use Rattle.oc_words.specs.declared.request.Download.{Download}
use Rattle.oc_words.specs.declared.request.CheckedNode.{CheckedNode}
use Rattle.oc_words.specs.declared.request.Paths.{Paths}
use Rattle.oc_words.specs.declared.request.Invocation.{Invocation}
use Rattle.oc_words.specs.declared.request.Sample.{Sample}
use Rattle.oc_words.specs.declared.request.Service.{Service}
use Rattle.oc_words.specs.declared.request.Upload.{Upload}

-- the word of an argument
abbrev pub word_of : Text → List Row → Result Text Why
word_of id rows = ok_or (first_of id rows) Count

-- whether a flag was given
abbrev pub is_flagged : Text → List Row → Bool
is_flagged id rows = option_map_or (λ word. bytes_eq word (codes "true")) (first_of id rows) false

-- a word that does not begin with `-`
abbrev pub IsNoFlag : Text → Type 0
IsNoFlag word = slice_get word 0 ≢ Some (byte "-")

-- the request of the arguments of `gen`
abbrev pub sample_of : List Row → Result Sample Why
sample_of rows = do
  seed_word ← word_of (codes "SEED") rows
  nodes_word ← word_of (codes "NODES") rows
  events_word ← word_of (codes "EVENTS") rows
  sample_in seed_word nodes_word events_word

-- the request of the arguments of `replay`
abbrev pub replay_of : List Row → Result Invocation Why
replay_of rows = replay_in (is_flagged (codes "large") rows) (is_flagged (codes "summary") rows) (first_of (codes "FILE") rows)

-- the request of the arguments of `node`
abbrev pub service_of : List Row → Result Service Why
service_of rows = do
  id_word ← word_of (codes "ID") rows
  service_in id_word (first_of (codes "turns") rows) (is_flagged (codes "probe") rows) (first_of (codes "log") rows)

-- the paths in the arguments of `node` and `check`
abbrev pub paths_of : List Row → Paths
paths_of rows = record { config = first_of (codes "config") rows; folder = first_of (codes "dir") rows }

-- the request of the arguments of `check`, with its id and the number of nodes
abbrev pub checked_node_of : Text → Text → List Row → Result CheckedNode Why
checked_node_of id nodes rows = checked_node_without id nodes (first_of (codes "CHAIN") rows) (first_of (codes "config") rows)

-- the request of the arguments of `get`
abbrev pub download_of : List Row → Result Download Why
download_of rows = do
  address ← word_of (codes "URL") rows
  download_in address (first_of (codes "follow") rows) (first_of (codes "from") rows) (first_of (codes "token-file") rows) (is_flagged (codes "progress") rows)

-- the request of the arguments of `put`
abbrev pub upload_of : List Row → Result Upload Why
upload_of rows = do
  address ← word_of (codes "URL") rows
  onto ← onto_in (is_flagged (codes "append") rows) (is_flagged (codes "resume") rows)
  Ok (record {
    address = address;
    onto = onto;
    seals = is_flagged (codes "seal") rows;
    live = is_flagged (codes "live") rows;
    token_file = first_of (codes "token-file") rows;
    progress = is_flagged (codes "progress") rows;
  })
