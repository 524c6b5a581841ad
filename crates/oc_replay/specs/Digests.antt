-- A digest of a node's files: of its control part, and of the lengths and seals of its groups.
use Rattle.std.specs.Prelude.{ℕ, List, ◌++◌, codes, decimal}
use Rattle.hex.specs.Hex.{encode_lower}
use Rattle.sha2.specs.Sha256.{sha256}
use Rattle.oc_base.specs.declared.shelf.Shelf.{Shelf}
use Rattle.oc_model.specs.Node.{Durable}
use Rattle.oc_model.specs.Snapshot.{snapshot}
use Rattle.oc_record.specs.Spelling.{records_bytes}
use Rattle.oc_replay.specs.Lines.{held_text}

-- the records of its snapshot under the running number 1, and after them its block of `held`
abbrev pub files_text : Durable → List Shelf → List ℕ
files_text kept shelves = records_bytes (snapshot 1 kept) ++ held_text shelves

-- the SHA-256 of that, in lower case
abbrev pub digest_text : Durable → List Shelf → List ℕ
digest_text kept shelves = encode_lower (sha256 (files_text kept shelves))

-- `# ID has H`
abbrev pub has_line : ℕ → Durable → List Shelf → List ℕ
has_line me kept shelves = codes "# " ++ decimal me ++ codes " has " ++ digest_text kept shelves ++ codes "\n"
