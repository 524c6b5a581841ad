use Rattle.std.specs.Prelude.{◌≡◌, ℕ, Some, None, Ok, Err, List, [], ◌∷◌, ◌++◌, map, codes}
use Rattle.oc_base.specs.declared.why.Why.{Why}
use Rattle.oc_base.specs.declared.why.Why.TheVariants as causes
use Rattle.oc_model.specs.declared.input.Input.TheVariants.{Tick, Publish}
use Rattle.oc_merge.specs.declared.fault.Cause.TheVariants.{Said, Areas}
use Rattle.oc_merge.specs.declared.fault.RecordsFault.TheVariants.{Line}
use Rattle.oc_merge.specs.Reading.{records_of}
use Rattle.oc_merge.specs.Recorded.{records_there}
use Rattle.oc_merge.specs.Told.{Records}
use Rattle.oc_base.specs.Groups.{shelf}
use Rattle.oc_model.specs.Node.{Node}
use Rattle.oc_merge.specs.declared.told.Told.{Told}
use Rattle.oc_merge.specs.declared.told.Told.TheVariants.{Started, Came, Took}
use Rattle.oc_merge.specs.declared.told.ToldLine.{ToldLine}

-- Worked examples: the meaning of some texts.

abbrev two_nodes : List ℕ
two_nodes = codes "#\novercast 1 nodes 2 chain 1\n"

abbrev digits : List ℕ
digits = codes "0123456789abcdef0123456789abcdef0123456789abcdef0123456789abcdef"

abbrev has_1 : List ℕ
has_1 = codes "# 1 has " ++ digits ++ codes "\n"

-- a line that tells this of node 1 or node 2
abbrev on : ℕ → ℕ → Told → ToldLine
on number node told = record { number = number; node = node; told = told }

-- two nodes in the area 0, with these lines
abbrev says : List ℕ → List ToldLine → Type 0
says text told = records_of text ≡ Ok (record { header = record { nodes = 2; chain = 1; chunk = 4096; areas = 0 ∷ 0 ∷ [] }; lines = told })

abbrev refuses : List ℕ → ℕ → Why → Type 0
refuses text line why = records_of text ≡ Err (Line line (Said why))

pub record AreRead : Type 0 where
  pub start : says (two_nodes ++ codes "up 1\n") (on 3 1 (Started None) ∷ [])
  pub start_with_files : says (two_nodes ++ codes "up 1\n" ++ has_1) (on 3 1 (Started (Some digits)) ∷ [])
  pub files_of_another : says (two_nodes ++ codes "up 2\n" ++ has_1) (on 3 2 (Started None) ∷ [])
  pub files_with_spaces : says (two_nodes ++ codes "up 1\n # 1 has " ++ digits ++ codes "\n") (on 3 1 (Started None) ∷ [])
  pub files_too_late : says (two_nodes ++ codes "up 1\ntick 1 5\n" ++ has_1) (on 3 1 (Started None) ∷ on 4 1 (Took (Tick 5)) ∷ [])
  pub inputs : says (two_nodes ++ codes "up 1\ntick 1 5\n! at 3\npublish 1 /a 6869\nrecv 1 00ff\n")
      (on 3 1 (Started None) ∷ on 4 1 (Took (Tick 5)) ∷ on 6 1 (Took (Publish (codes "/a") (codes "hi"))) ∷ on 7 1 (Came (0 ∷ 255 ∷ [])) ∷ [])
  pub two_records : says (two_nodes ++ codes "up 1\ntick 1 5\n" ++ two_nodes ++ codes "up 2\n")
      (on 3 1 (Started None) ∷ on 4 1 (Took (Tick 5)) ∷ on 7 2 (Started None) ∷ [])
  pub cut_off_line : says (two_nodes ++ codes "up 1\npublish 1 /a 68#\novercast 1 nodes 2 chain 1\nup 1\n") (on 3 1 (Started None) ∷ on 6 1 (Started None) ∷ [])
  pub cut_off_end : says (two_nodes ++ codes "up 1\ntick 1 5") (on 3 1 (Started None) ∷ [])
  pub no_start : says (two_nodes ++ two_nodes) []
  pub areas : records_of (codes "overcast 1 nodes 2 chain 1\narea 2 7\nup 1\n")
      ≡ Ok (record { header = record { nodes = 2; chain = 1; chunk = 4096; areas = 0 ∷ 7 ∷ [] }; lines = on 3 1 (Started None) ∷ [] })
  pub other_areas : records_of (two_nodes ++ codes "up 1\n" ++ two_nodes ++ codes "area 2 7\nup 2\n") ≡ Err (Line 7 Areas)
  pub other_numbers : refuses (two_nodes ++ codes "overcast 1 nodes 3 chain 1\n") 3 causes.Header
  pub empty : refuses [] 1 causes.Header
  pub only_cut_off : refuses (codes "overcast 1 nodes 2 chain 1") 2 causes.Header
  pub no_header : refuses (codes "up 1\n") 1 causes.Header
  pub no_up : refuses (two_nodes ++ codes "tick 1 5\n") 3 causes.Word
  pub second_up : refuses (two_nodes ++ codes "up 1\nup 1\n") 4 causes.Word
  pub other_node : refuses (two_nodes ++ codes "up 1\ntick 2 5\n") 4 causes.Word
  pub never_recorded : refuses (two_nodes ++ codes "up 1\npull 1 2\n") 4 causes.Word
  pub message_without_bytes : refuses (two_nodes ++ codes "up 1\nrecv 1\n") 4 causes.Count
  pub message_of_no_bytes : refuses (two_nodes ++ codes "up 1\nrecv 1 -\n") 4 causes.Hex
  pub message_of_odd_digits : refuses (two_nodes ++ codes "up 1\nrecv 1 000\n") 4 causes.Hex
  pub message_past_the_nodes : refuses (two_nodes ++ codes "up 1\nrecv 3 00\n") 4 causes.Range

-- The lines that are kept, for a record in which an input line comes before a start. The lengths of
-- all groups serve as the digest of the files.

abbrev lengths : Node → List ℕ
lengths n = map (λ l. l.held) (shelf n.groups)

abbrev between_starts : List ℕ → List ToldLine → Records
between_starts found inputs = record {
  header = record { nodes = 2; chain = 1; chunk = 4096; areas = 0 ∷ 0 ∷ [] };
  lines = on 3 1 (Started (Some [])) ∷ inputs ++ on 9 1 (Started (Some found)) ∷ [];
}

abbrev publishes : List ToldLine
publishes = on 4 1 (Took (Publish (codes "/a") (codes "hi"))) ∷ []

pub record AreThere : Type 0 where
  pub missed : records_there lengths (between_starts [] publishes) ≡ between_starts [] []
  pub taken : records_there lengths (between_starts (2 ∷ []) publishes) ≡ between_starts (2 ∷ []) publishes
  pub neither : records_there lengths (between_starts (3 ∷ []) publishes) ≡ between_starts (3 ∷ []) publishes
