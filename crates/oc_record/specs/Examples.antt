-- Worked examples of control records as bytes.
use Rattle.std.specs.Prelude.{ℕ, false, List, [], ◌∷◌}
use Rattle.oc_model.specs.declared.record.Record.{Record}
use Rattle.oc_model.specs.declared.record.Record.TheVariants.{Ask, OldEntry}

-- the bytes `01000000000000000100000001`
abbrev pub first_ask : List ℕ
first_ask = 1 ∷ 0 ∷ 0 ∷ 0 ∷ 0 ∷ 0 ∷ 0 ∷ 0 ∷ 1 ∷ 0 ∷ 0 ∷ 0 ∷ 1 ∷ []

-- a node's first ask, to node 1
abbrev pub first_ask_record : Record
first_ask_record = Ask 1 1

-- the bytes `060000000200000000000000010000000100`
abbrev pub old_entry : List ℕ
old_entry = 6 ∷ 0 ∷ 0 ∷ 0 ∷ 2 ∷ 0 ∷ 0 ∷ 0 ∷ 0 ∷ 0 ∷ 0 ∷ 0 ∷ 1 ∷ 0 ∷ 0 ∷ 0 ∷ 1 ∷ 0 ∷ []

-- an entry of the old form: node 2 asked node 1 by its ask number 1, and the lease lives
abbrev pub old_entry_record : Record
old_entry_record = OldEntry 2 1 1 false
