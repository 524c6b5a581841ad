use Rattle.std.specs.Prelude.{◌≡◌, ℕ, true, false, Option, Some, None, option_map, List, [], ◌∷◌, codes}
use Rattle.oc_base.specs.declared.cert.Cert.{Cert}
use Rattle.oc_base.specs.declared.rank.Rank.{Rank}
use Rattle.oc_base.specs.declared.refusal.Refusal.TheVariants as refusals
use Rattle.oc_base.specs.declared.shelf.Shelf.{Shelf}
use Rattle.oc_model.specs.declared.mode.Mode.TheVariants as modes
use Rattle.oc_model.specs.declared.place.Candidate.{Candidate}
use Rattle.oc_model.specs.declared.place.Review.TheVariants as reviews
use Rattle.oc_model.specs.Adoption.{Host, take_rank, chain_child, adoption_refusal}
use Rattle.oc_model.specs.ChangeLog.{begun_with, note, ack}
use Rattle.oc_model.specs.Choice.{chosen, reviewed, ask_order}
use Rattle.oc_model.specs.Leases.{start_all, ended}
use Rattle.oc_model.specs.Node.{new_durable, Durable}
use Rattle.oc_model.specs.Numbers.{number_end, raise}
use Rattle.oc_model.specs.Records.{folded}
use Rattle.oc_model.specs.Selected.{selected}
use Rattle.oc_model.specs.Shelves.{next_behind}
use Rattle.oc_model.specs.Snapshot.{snapshot}
use Rattle.oc_model.specs.Table.{merge_all, leased_children, table_line, listed_in}

-- Worked examples of each decision of a node.

-- the certificate of a granted lease: ask s of x went to y, and the lease lives
abbrev alive : ℕ → ℕ → ℕ → Cert
alive x s y = record { subject = x; seq = s; parent = y; dead = false; number = 0; clients = 0 }

abbrev dead : ℕ → ℕ → ℕ → Cert
dead x s y = record { subject = x; seq = s; parent = y; dead = true; number = 0; clients = 0 }

abbrev ranked : ℕ → ℕ → Rank
ranked e d = record { epoch = e; depth = d }

-- the table of node 1, with 2 and 3 beneath it, 4 and 5 beneath 3, and 6 beneath a node that is dead
abbrev a_table : List Cert
a_table = alive 2 1 1 ∷ alive 3 4 1 ∷ alive 4 2 3 ∷ alive 5 1 3 ∷ alive 6 1 7 ∷ dead 7 2 2 ∷ []

abbrev a_host : Host
a_host = record { me = 2; in_tree = true; rank = ranked 1 1; ancestors = 1 ∷ []; chain = 4; chain_child = Some 3 }

abbrev a_candidate : ℕ → ℕ → ℕ → ℕ → Candidate
a_candidate id mine up hops = record { id = id; mine = mine; up = up; hops = hops }

-- a joined node that has the table, one certificate waiting, and a reading of node 1
abbrev a_state : Durable
a_state = record {
  seq = 3;
  mode = modes.Joined 2;
  rank = Some (ranked 1 2);
  number = 1;
  clients = 5;
  table = alive 4 1 3 ∷ dead 5 2 3 ∷ [];
  log = record { length = 7; acked = 6; waiting = dead 5 2 3 ∷ [] };
  ancestors = 2 ∷ 1 ∷ [];
  measures = record { rate = 10; hops = 2 } ∷ record { rate = 0; hops = 0 } ∷ record { rate = 0; hops = 0 } ∷ [];
}

-- a shelf of two groups with these lengths in bytes
abbrev two_groups : ℕ → ℕ → List Shelf
two_groups a b = record { group = codes "/a"; held = a; sealed = false } ∷ record { group = codes "/b"; held = b; sealed = false } ∷ []

-- the group of the next chunk of 10 bytes, from groups of 25 bytes each
abbrev next_group : List Shelf → Option (List ℕ)
next_group have = option_map (λ l. l.group) (next_behind 10 have (two_groups 25 25))

pub record DecisionsCompute : Type 0 where
  pub later_words : merge_all [] (alive 3 1 2 ∷ alive 2 1 1 ∷ dead 3 1 2 ∷ alive 3 2 1 ∷ dead 3 1 2 ∷ []) ≡ alive 2 1 1 ∷ alive 3 2 1 ∷ []
  pub children : leased_children a_table 3 ≡ 4 ∷ 5 ∷ []
  pub listing : listed_in a_table 1 ≡ 2 ∷ 3 ∷ 4 ∷ 5 ∷ []
  pub line : table_line a_table 1 5 ≡ Some 3
  pub no_line : table_line a_table 1 6 ≡ None
  pub acknowledged : ack (note (begun_with (alive 2 1 1 ∷ [])) (dead 2 1 1)) 1 ≡ record { length = 2; acked = 1; waiting = dead 2 1 1 ∷ [] }
  pub past_the_end : ack (begun_with (alive 2 1 1 ∷ [])) 2 ≡ begun_with (alive 2 1 1 ∷ [])
  pub leases : start_all a_table 1 (None ∷ Some 9 ∷ None ∷ None ∷ []) 5 ≡ None ∷ Some 9 ∷ Some 35 ∷ None ∷ []
  pub over : ended a_table 1 (None ∷ Some 9 ∷ Some 35 ∷ None ∷ []) 9 ≡ 2 ∷ []
  pub deeper : take_rank (Some (ranked 1 3)) (ranked 1 1) ≡ Some (ranked 1 2)
  pub no_better : take_rank (Some (ranked 2 3)) (ranked 1 1) ≡ Some (ranked 2 3)
  pub too_deep : take_rank None (ranked 1 1000) ≡ None
  pub last_epoch : raise number_end ≡ None
  pub own : adoption_refusal a_host 2 None ≡ Some refusals.Own
  pub ancestor : adoption_refusal a_host 1 None ≡ Some refusals.Ancestor
  pub in_line : adoption_refusal a_host 4 None ≡ Some (refusals.Chain 3)
  pub back_in_line : adoption_refusal (record a_host { chain_child = Some 4 }) 3 (Some (ranked 1 2)) ≡ None
  pub by_rank : adoption_refusal (record a_host { chain_child = None }) 9 (Some (ranked 1 1)) ≡ Some refusals.Rank
  pub next_in_line : chain_child a_table 1 4 2 ≡ Some 3
  pub chosen_way : chosen 100 (a_candidate 7 100 200 3 ∷ a_candidate 6 89 200 1 ∷ a_candidate 5 90 200 3 ∷ []) ≡ Some 5
  pub up_again : reviewed (record { direct = 80; up = 200; grand = Some (1, 100); siblings = a_candidate 5 90 200 3 ∷ [] }) ≡ reviews.Up 1
  pub beneath : reviewed (record { direct = 90; up = 200; grand = Some (1, 100); siblings = a_candidate 5 90 200 3 ∷ [] }) ≡ reviews.Beneath 5
  pub order_outside : ask_order 9 2 (5 ∷ 4 ∷ 1 ∷ []) (Some 4) ≡ 5 ∷ 1 ∷ 2 ∷ []
  pub order_in_the_chain : ask_order 4 4 (3 ∷ []) (Some 2) ≡ 3 ∷ 1 ∷ []
  pub near_client : selected a_table 1 2 (0 ∷ 0 ∷ 0 ∷ 7 ∷ 7 ∷ 0 ∷ 0 ∷ []) (0 ∷ 0 ∷ 0 ∷ 4 ∷ 3 ∷ 0 ∷ 0 ∷ []) 7 ≡ Some 5
  pub far_client : selected a_table 1 2 (0 ∷ 0 ∷ 0 ∷ 7 ∷ 7 ∷ 0 ∷ 0 ∷ []) (0 ∷ 0 ∷ 0 ∷ 4 ∷ 3 ∷ 0 ∷ 0 ∷ []) 8 ≡ Some 3
  pub snapshot_folds : folded (new_durable 3) (snapshot 9 a_state) ≡ a_state
  pub later_snapshot_folds : folded (record a_state { ancestors = []; number = 9 }) (snapshot 10 a_state) ≡ a_state
  pub first_turn : next_group [] ≡ Some (codes "/a")
  pub second_turn : next_group (two_groups 10 0) ≡ Some (codes "/b")
  pub turn_again : next_group (two_groups 10 10) ≡ Some (codes "/a")
  pub who_is_behind : next_group (two_groups 25 20) ≡ Some (codes "/b")
  pub none_is_behind : next_group (two_groups 25 25) ≡ None
