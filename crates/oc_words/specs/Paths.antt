-- The node, the files and the folder that a request names.
use Rattle.std.specs.Prelude.{ℕ, Option, Some, None}
use Rattle.clap.specs.Words.{Text}
use Rattle.oc_words.specs.declared.request.Invocation.{Invocation}
use Rattle.oc_words.specs.declared.request.Invocation.TheVariants.{Replay, Node, Check, CheckConfigured, Get, Put, Rules}

-- the id of the node to run
abbrev pub node_of : Invocation → Option ℕ
node_of (Node service paths) = Some service.id
node_of request = None

-- the file that takes the place of the input
abbrev pub file_of : Invocation → Option Text
file_of (Replay large summary file) = file
file_of (Node service paths) = paths.config
file_of (CheckConfigured id paths) = paths.config
file_of (Rules config) = config
file_of request = None

-- the folder of the three files of a node
abbrev pub folder_of : Invocation → Option Text
folder_of (Node service paths) = paths.folder
folder_of (Check member folder) = folder
folder_of (CheckConfigured id paths) = paths.folder
folder_of request = None

-- the file of a client's token
abbrev pub token_file_of : Invocation → Option Text
token_file_of (Get download) = download.token_file
token_file_of (Put upload) = upload.token_file
token_file_of request = None

-- the id of the node to run, for words that make this request, if they make one
abbrev pub node_asked : Option Invocation → Option ℕ
node_asked None = None
node_asked (Some request) = node_of request

-- the file that takes the place of the input, for such words
abbrev pub file_asked : Option Invocation → Option Text
file_asked None = None
file_asked (Some request) = file_of request

-- the folder of the three files of a node, for such words
abbrev pub folder_asked : Option Invocation → Option Text
folder_asked None = None
folder_asked (Some request) = folder_of request

-- the file of a client's token, for such words
abbrev pub token_file_asked : Option Invocation → Option Text
token_file_asked None = None
token_file_asked (Some request) = token_file_of request
