-- The requests of a client that publishes.
use Rattle.std.specs.Prelude.{ℕ, Bool, true, false, Option, List, [], ◌++◌, codes, decimal, length}
use Rattle.oc_client.specs.Addresses.{host_of}
use Rattle.oc_client.specs.Queries.{area_of}
use Rattle.oc_client.specs.Requests.{authorization_line}
use Rattle.oc_client.specs.declared.load.Load.{Load}
use Rattle.oc_http.specs.Writing.{area_text}
use Rattle.url.specs.Parts.{Parts}

-- bytes for a group
abbrev pub bytes : List ℕ → Load
bytes piece = record { piece = piece; seals = false }

-- the load of a query: nothing
abbrev pub nothing : Load
nothing = bytes []

-- the load that closes the group: no bytes
abbrev pub seal : Load
seal = record { piece = []; seals = true }

pub data PutRequest : Type 0 where
  -- the query for the length of the group
  ask : PutRequest
  -- the request to take this load, if the group has this length
  publish : ℕ → Load → PutRequest

abbrev pub seal_part : Bool → List ℕ
seal_part true = codes "seal&"
seal_part false = []

-- the Host of a request, and its token where it has one
abbrev pub from_lines : List ℕ → Option (List ℕ) → List ℕ
from_lines host token = codes "Host: " ++ host ++ codes "\r\n" ++ authorization_line token

-- the position of a load, as a query
abbrev pub place_query : Bool → ℕ → Option (List ℕ) → List ℕ
place_query seals at area = seal_part seals ++ codes "at=" ++ decimal at ++ area_text area

-- a query for the length of the group at a path, for an area
abbrev pub ask_lines : List ℕ → Option (List ℕ) → List ℕ → Option (List ℕ) → List ℕ
ask_lines path area host token =
    codes "HEAD " ++ path ++ codes "?here" ++ area_text area ++ codes " HTTP/1.1\r\n" ++ from_lines host token ++ codes "\r\n"

-- the head of a request with a load
abbrev pub publish_lines : List ℕ → Option (List ℕ) → List ℕ → Option (List ℕ) → ℕ → Load → List ℕ
publish_lines path area host token at load =
    codes "POST " ++ path ++ codes "?" ++ place_query load.seals at area ++ codes " HTTP/1.1\r\n" ++ from_lines host token
    ++ codes "Content-Type: application/octet-stream\r\nContent-Length: " ++ decimal (length load.piece) ++ codes "\r\n\r\n" ++ load.piece

-- the target of a publishing, and its token
pub record Goal : Type 0 where
  pub url : Parts
  pub token : Option (List ℕ)

-- a query sends only the first `area=` of the URL's query
abbrev pub ask_text : Goal → List ℕ
ask_text goal = ask_lines goal.url.path (area_of goal.url.query) (host_of goal.url) goal.token

abbrev pub publish_text : Goal → ℕ → Load → List ℕ
publish_text goal at load = publish_lines goal.url.path (area_of goal.url.query) (host_of goal.url) goal.token at load

abbrev pub request_text : Goal → PutRequest → List ℕ
request_text goal ask = ask_text goal
request_text goal (publish at load) = publish_text goal at load
