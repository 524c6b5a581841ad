-- A story, and the calls after it.
use Rattle.std.proofs.Common.{◌≡◌, ℕ, ◌+◌, Option, None, Some, List, [], ◌∷◌, ◌++◌, refl, sym, ap, ◌∙◌, arith}
use Rattle.std.proofs.lemmas.List.{append_assoc, append-nil}
use Rattle.oc_link.specs.declared.call.Call.{Call}
use Rattle.oc_link.specs.declared.phase.Standing.{Standing}
use Rattle.oc_link.specs.Dials.{Dial, dials, dials_after}
use Rattle.oc_link.specs.Stands.{stands, stands_after}
use Rattle.oc_link.specs.Told.{AddsAll}
use Rattle.oc_link.specs.Traffic.{came_on, given, given_by, read, taken}

-- the bytes that a connection was given by calls, and by further calls
pub given-then : (c : ℕ) (old more : List Call) → given c (old ++ more) ≡ given c old ++ given c more
given-then c [] more = refl
given-then c (call ∷ old) more = ap (λ (bytes : List ℕ). given_by c call ++ bytes) (given-then c old more) ∙ sym (append_assoc (given_by c call) (given c old) (given c more))

-- the bytes that came on a connection
pub read-then : (c : ℕ) (old more : List Call) → read c (old ++ more) ≡ read c old ++ read c more
read-then c [] more = refl
read-then c (call ∷ old) more = ap (λ (bytes : List ℕ). came_on c call ++ bytes) (read-then c old more) ∙ sym (append_assoc (came_on c call) (read c old) (read c more))

-- the number of bytes of a connection that were taken
pub taken-then : (c : ℕ) (old more : List Call) → taken c (old ++ more) ≡ taken c old + taken c more
taken-then c [] more = omega arith
taken-then c (call ∷ old) more = omega (arith, taken-then c old more)

-- the state of a connection
pub stands-then : (c : ℕ) (old more : List Call) (s : Standing) → stands_after c (old ++ more) s ≡ stands_after c more (stands_after c old s)
stands-then c [] more s = refl
stands-then c (call ∷ old) more s = stands-then c old more (stands c call s)

-- a dial
pub dials-then : (d : ℕ) (old more : List Call) (dial : Option Dial) → dials_after d (old ++ more) dial ≡ dials_after d more (dials_after d old dial)
dials-then d [] more dial = refl
dials-then d (call ∷ old) more dial = dials-then d old more (dials d call dial)

-- calls one after another

pub adds-none : (story : Option (List Call)) → AddsAll [] story story
adds-none None = tt
adds-none (Some calls) = sym (append-nil calls)

pub adds-then : (x y : List Call) (a b c : Option (List Call)) → AddsAll x a b → AddsAll y b c → AddsAll (x ++ y) a c
adds-then x y a b None p q = tt
adds-then x y a None (Some c) p q = absurd q
adds-then x y None (Some b) (Some c) p q = absurd p
adds-then x y (Some a) (Some b) (Some c) p q = q ∙ ap (λ (front : List Call). front ++ y) p ∙ append_assoc a x y
