-- The answer that a client is shown by its hint, and the place to which it is sent.
use Rattle.std.specs.Prelude.{ℕ, ◌-◌, Bool, true, false, ◌==◌, if◌then◌else◌, List, [], ◌++◌, codes, decimal}
use Rattle.oc_http.specs.Escapes.{path_text}
use Rattle.oc_model.specs.declared.answer.Answer.{Answer}
use Rattle.oc_model.specs.declared.answer.Answer.TheVariants as answers
use Rattle.oc_routes.specs.declared.manner.Manner.{Manner}
use Rattle.oc_routes.specs.declared.manner.Manner.TheVariants as manners
use Rattle.oc_routes.specs.declared.hint.Hint.{Hint}
use Rattle.oc_routes.specs.declared.hint.Hint.TheVariants.{Plain, Here, Of, Known}
use Rattle.oc_routes.specs.declared.holding.Holding.{Holding}
use Rattle.oc_routes.specs.declared.showing.Shown.{Shown}

abbrev pub shown_as : Answer → Bool → ℕ → Shown
shown_as answer sealed length = record { answer = answer; sealed = sealed; length = length }

-- the answer of the node itself, without an input
abbrev pub here_answer : Holding → ℕ → Answer
here_answer h start = if h.there then answers.Serve (h.held - start) else answers.NoGroup

-- the answer where the client tells the length: a group that is not sealed here is given up to this length, as one that is sealed
abbrev pub of_shown : ℕ → Answer → Bool → ℕ → ℕ → Shown
of_shown length answer true held start = shown_as answer true held
of_shown length (answers.Serve count) false held start = shown_as (answers.Serve (length - start)) true length
of_shown length answers.NoGroup false held start = shown_as (answers.Serve (length - start)) true length
of_shown length answer false held start = shown_as answer false held

-- a group that is known and not held counts as an open one without a byte
abbrev pub known_shown : Answer → Bool → ℕ → Shown
known_shown answers.NoGroup sealed held = shown_as (answers.Serve 0) false held
known_shown answer sealed held = shown_as answer sealed held

-- the answer of a step, whether the group is sealed, and its length, as the client is shown them
abbrev pub shown : Hint → Answer → Holding → ℕ → Shown
shown Plain answer h start = shown_as answer h.sealed h.held
shown Here answer h start = shown_as (here_answer h start) h.sealed h.held
shown (Of length) answer h start = of_shown length answer h.sealed h.held start
shown Known answer h start = known_shown answer h.sealed h.held

-- Locations

-- the hint about a group for the next node, where it is not sealed here: its length, or `known`
abbrev pub hint_text : Hint → List ℕ
hint_text (Of length) = codes "of=" ++ decimal length
hint_text other = codes "known"

abbrev pub told_text : Hint → Holding → List ℕ
told_text hint h = if h.sealed then codes "of=" ++ decimal h.held else hint_text hint

abbrev pub start_text : ℕ → List ℕ
start_text start = if start == 0 then [] else codes "start=" ++ decimal start ++ codes "&"

abbrev pub follow_text : Manner → List ℕ
follow_text manners.Follow = codes "&follow"
follow_text manner = []

-- the URL to which a client is sent: the group's path, `start=N` where N is not 0, then the hint, then `follow`
abbrev pub location_of : List ℕ → List ℕ → ℕ → List ℕ → Manner → List ℕ
location_of address group start told manner =
    codes "http://" ++ address ++ path_text group ++ codes "?" ++ start_text start ++ told ++ follow_text manner
