-- The requests of a client that gets.
use Rattle.std.specs.Prelude.{ℕ, Bool, true, false, Option, Some, None, List, [], ◌++◌, codes, decimal}
use Rattle.oc_client.specs.Queries.{knowledge_of}
use Rattle.oc_http.specs.Writing.{line_end, query_text, area_text}

-- `Authorization: Bearer T`, where there is a token
abbrev pub authorization_line : Option (List ℕ) → List ℕ
authorization_line None = []
authorization_line (Some token) = codes "Authorization: Bearer " ++ token ++ line_end

-- a GET of a path with a query
abbrev pub get_lines : List ℕ → List ℕ → List ℕ → Option (List ℕ) → List ℕ
get_lines path query host token =
    codes "GET " ++ path ++ query ++ codes " HTTP/1.1\r\nHost: " ++ host ++ codes "\r\n" ++ authorization_line token ++ codes "\r\n"

-- `&` and more of a query, where there is more
abbrev pub more_text : Option (List ℕ) → List ℕ
more_text None = []
more_text (Some more) = codes "&" ++ more

-- the query for a content, with the first byte to ask for or with that of the URL's query
abbrev pub query_from : Option ℕ → Option (List ℕ) → List ℕ
query_from None query = query_text query
query_from (Some from) query = codes "?start=" ++ decimal from ++ more_text query

-- the query for the news of a group: from a byte on, for an area, with the knowledge of the group
abbrev pub news_query : ℕ → Option (List ℕ) → Option (List ℕ) → List ℕ
news_query start area knowledge = codes "?start=" ++ decimal start ++ codes "&follow" ++ area_text area ++ more_text knowledge

-- the first byte to ask for; a Location gives its own
abbrev pub from_at : Bool → Option ℕ → Option ℕ
from_at true from = None
from_at false from = from

-- the knowledge of a group to ask with, which only a Location gives
abbrev pub knowledge_at : Bool → Option (List ℕ) → Option (List ℕ)
knowledge_at true query = knowledge_of query
knowledge_at false query = None
