-- Dials in memory, one after another, of which one may be outgoing.
use Rattle.std.specs.Prelude.{ℕ, Option, None, option_to_list, List, [], ◌∷◌, ◌++◌, drop}
use Rattle.std.specs.Option.{option_map}
use Rattle.oc_link.specs.Story.{Connection, Dial, unused, broken}
use Rattle.oc_link.specs.ConnectionsView.{at}

-- the replies of the dials to come, the ended dials, the outgoing one, the number of dials refused after the last reply was taken,
-- and the number of bytes that may still be written
pub record DialsView : Type 0 where
  pub replies : List (List ℕ)
  pub past : List Dial
  pub outgoing : Option Dial
  pub refused : ℕ
  pub room : ℕ

-- the dials with these connections to these addresses, in order
abbrev pub dials_of : List Connection → List (List ℕ) → List Dial
dials_of [] addresses = []
dials_of (c ∷ cs) (a ∷ addresses) = record { address = a; connection = c } ∷ dials_of cs addresses
dials_of (c ∷ cs) [] = []

-- a failed dial, of which only its reply was kept
abbrev pub cut_dial : List ℕ → Dial
cut_dial reply = record { address = []; connection = broken (unused reply) }

-- a dial that failed since no reply was left
abbrev pub nowhere : Dial
nowhere = cut_dial []

-- the outgoing dial, which comes after the ended ones
abbrev pub outgoing_of : ℕ → Option Connection → List (List ℕ) → Option Dial
outgoing_of k current addresses = option_map (λ c. record { address = at addresses k; connection = c }) current

-- all dials so far
abbrev pub all_dials : DialsView → List Dial
all_dials v = v.past ++ option_to_list v.outgoing

-- the dials after the outgoing one ended
abbrev pub over : DialsView → DialsView
over v = record v { past = all_dials v; outgoing = None }

-- the dials after another one failed, in place of the outgoing one
abbrev pub with_failed : DialsView → DialsView
with_failed v = record (over v) {
  replies = drop 1 v.replies;
  past = all_dials v ++ cut_dial (at v.replies 0) ∷ [];
}
