-- The texts of Location fields.
use Rattle.std.specs.Prelude.{ℕ, ◌==◌, if◌then◌else◌, List, [], ◌++◌, codes, decimal}

-- the query of a download from a byte on
abbrev pub start_query : ℕ → List ℕ
start_query start = if start == 0 then [] else codes "?start=" ++ decimal start

-- the query of a download from a byte on that follows the group
abbrev pub follow_query : ℕ → List ℕ
follow_query start = if start == 0 then codes "?follow" else codes "?start=" ++ decimal start ++ codes "&follow"

-- the URL of a group at an address
abbrev pub group_url : List ℕ → List ℕ → List ℕ
group_url address group = codes "http://" ++ address ++ group

-- the URL of a group at an address, from a byte on
abbrev pub location_text : List ℕ → List ℕ → ℕ → List ℕ
location_text address group start = group_url address group ++ start_query start

-- the same for a client that follows the group
abbrev pub follow_location_text : List ℕ → List ℕ → ℕ → List ℕ
follow_location_text address group start = group_url address group ++ follow_query start
