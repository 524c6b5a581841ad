-- A line of words, and the lines of acts and of messages.
use Rattle.std.specs.Prelude.{ℕ, List, [], ◌∷◌, ◌++◌, codes, decimal}
use Rattle.std.specs.List.{flat_map}
use Rattle.hex.specs.Hex.{encode_lower}
use Rattle.oc_model.specs.declared.event.Act.{Act}
use Rattle.oc_schedule.specs.Acts.{act_words}

-- words with a space before each
abbrev pub fields_text : List (List ℕ) → List ℕ
fields_text words = flat_map (λ w. codes " " ++ w) words

-- words with a space between each two
abbrev pub spaced : List (List ℕ) → List ℕ
spaced [] = []
spaced (word ∷ words) = word ++ fields_text words

-- a line of these words
abbrev pub line_text : List (List ℕ) → List ℕ
line_text words = spaced words ++ codes "\n"

-- the line of an act
abbrev pub act_line : Act → List ℕ
act_line act = line_text (act_words act)

-- the line of a message that came to a node, by its bytes
abbrev pub recv_line : ℕ → List ℕ → List ℕ
recv_line node bytes = line_text (codes "recv" ∷ decimal node ∷ encode_lower bytes ∷ [])
