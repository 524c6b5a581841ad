-- Answers that a mode and a search give about another node.
use Rattle.std.specs.Prelude.{ℕ, Bool, true, false, ◌==◌, if◌then◌else◌, Option, Some, None}
use Rattle.oc_base.specs.declared.rank.Rank.{Rank}
use Rattle.oc_base.specs.Rank.{beneath_of}
use Rattle.oc_model.specs.declared.mode.Mode.{Mode}
use Rattle.oc_model.specs.declared.mode.Mode.TheVariants as modes
use Rattle.oc_model.specs.declared.soft.Search.{Search}
use Rattle.oc_model.specs.declared.soft.Search.TheVariants as searches
use Rattle.oc_model.specs.Adoption.{is_better}

abbrev pub is_idle : Mode → Bool
is_idle modes.Idle = true
is_idle mode = false

-- whether the node is on a descent at p
abbrev pub is_descending : Option Search → ℕ → Bool
is_descending (Some (searches.Descend q)) p = q == p
is_descending search p = false

-- whether the node reviews its place
abbrev pub is_reviewing : Option Search → Bool
is_reviewing (Some searches.Review) = true
is_reviewing search = false

-- the rank beneath the told one, if that is better than the node's own
abbrev pub better_rank : Option Rank → Rank → Option Rank
better_rank own told = if is_better own told then Some (beneath_of told) else None
