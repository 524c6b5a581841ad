-- Children and lines that follow one another are ascending lists.
use Rattle.std.proofs.Common.{◌≡◌, ℕ, ◌+◌, ◌<◌, ◌≤◌, true, Option, Some, None, List, [], ◌∷◌, length, Ordering, Less, Equal, Greater, nat_cmp, refl, ap, arith}
use Rattle.std.specs.List.{AllByRecursion}
use Rattle.std.specs.Ordering.{is_lt}
use Rattle.std.specs.Cmp.Lexicographic.{slice_cmp}
use Rattle.oc_base.specs.declared.cert.Child.{Child}
use Rattle.oc_base.specs.declared.shelf.Shelf.{Shelf}
use Rattle.oc_base.specs.Lawful.{IsRate, AreChildren}
use Rattle.oc_base.specs.Shelves.{IsLine, AreLines, AreLinesAbove}
use Rattle.oc_base.proofs.ListReads.{Follow}
use Rattle.oc_base.proofs.NameOrder.{names_rise}
use Rattle.oc_wire.specs.FieldReading.{is_after}

-- a lawful child of a greater id than the one before it
abbrev pub IsNextChild : ℕ → ℕ → Child → Type 0
IsNextChild nodes before c = ((before + 1 ≤ c.id) × (c.id ≤ nodes)) × IsRate c.rate

-- all these children have greater ids
abbrev AllAfter : ℕ → List Child → Type 0
AllAfter before cs = AllByRecursion (λ (d : Child). before < d.id) cs

all_lower : (a b : ℕ) (cs : List Child) → a < b → AllAfter b cs → AllAfter a cs
all_lower a b [] lt h = tt
all_lower a b (c ∷ cs) lt h = (omega (arith, lt, h.0), all_lower a b cs lt h.1)

children_follow : (nodes before : ℕ) (cs : List Child) → Follow (IsNextChild nodes) (λ child. child.id) before cs → AreChildren nodes cs × AllAfter before cs
children_follow nodes before [] h = (tt, tt)
children_follow nodes before (c ∷ cs) h =
    let ih = children_follow nodes c.id cs h.1 in
    (((omega (arith, h.0.0.0), h.0.0.1), h.0.1, ih.1, ih.0), (omega (arith, h.0.0.0), all_lower before c.id cs (omega (arith, h.0.0.0)) ih.1))

-- children that follow one another are lawful
pub are_children : (nodes : ℕ) (cs : List Child) → Follow (IsNextChild nodes) (λ child. child.id) 0 cs → AreChildren nodes cs
are_children nodes cs h = (children_follow nodes 0 cs h).0

next_children : (nodes before : ℕ) (cs : List Child) → AreChildren nodes cs → AllAfter before cs → Follow (IsNextChild nodes) (λ child. child.id) before cs
next_children nodes before [] h after = tt
next_children nodes before (c ∷ cs) h after = (((omega (arith, after.0), h.0.1), h.1), next_children nodes c.id cs h.3 h.2)

all_positive : (nodes : ℕ) (cs : List Child) → AreChildren nodes cs → AllAfter 0 cs
all_positive nodes [] h = tt
all_positive nodes (c ∷ cs) h = (omega (arith, h.0.0), all_positive nodes cs h.3)

-- lawful children follow one another
pub children_are_next : (nodes : ℕ) (cs : List Child) → AreChildren nodes cs → Follow (IsNextChild nodes) (λ child. child.id) 0 cs
children_are_next nodes cs h = next_children nodes 0 cs h (all_positive nodes cs h)

few_behind : (nodes before : ℕ) (cs : List Child) → before ≤ nodes → AreChildren nodes cs → AllAfter before cs → before + length cs ≤ nodes
few_behind nodes before [] le h after = omega (arith, le)
few_behind nodes before (c ∷ cs) le h after = omega (arith, after.0, few_behind nodes c.id cs h.0.1 h.3 h.2)

-- the lawful children are no more than the nodes
pub few_children : (nodes : ℕ) (cs : List Child) → AreChildren nodes cs → length cs ≤ nodes
few_children nodes cs h = omega (arith, few_behind nodes 0 cs (omega arith) h (all_positive nodes cs h))

-- a lawful line of a greater name than the one before it
abbrev pub IsNextLine : Option (List ℕ) → Shelf → Type 0
IsNextLine before l = IsLine l × (is_after before l.group ≡ true)

-- all these lines have greater names
abbrev AreBehind : Option (List ℕ) → List Shelf → Type 0
AreBehind None ls = Unit {0}
AreBehind (Some g) ls = AreLinesAbove g ls

is_less : (o : Ordering) → is_lt o ≡ true → o ≡ Less
is_less Less h = refl
is_less Equal h = absurd cc
is_less Greater h = absurd cc

above_lower : (a b : List ℕ) (ls : List Shelf) → slice_cmp nat_cmp a b ≡ Less → AreLinesAbove b ls → AreLinesAbove a ls
above_lower a b [] lt h = tt
above_lower a b (l ∷ ls) lt h = (names_rise a b l.group lt h.0, above_lower a b ls lt h.1)

behind_more : (before : Option (List ℕ)) (l : Shelf) (ls : List Shelf) → is_after before l.group ≡ true → AreLinesAbove l.group ls → AreBehind before (l ∷ ls)
behind_more None l ls is h = tt
behind_more (Some g) l ls is h = let lt = is_less (slice_cmp nat_cmp g l.group) is in (lt, above_lower g l.group ls lt h)

lines_follow : (before : Option (List ℕ)) (ls : List Shelf) → Follow IsNextLine (λ line. Some line.group) before ls → AreLines ls × AreBehind before ls
lines_follow None [] h = (tt, tt)
lines_follow (Some g) [] h = (tt, tt)
lines_follow before (l ∷ ls) h =
    let ih = lines_follow (Some l.group) ls h.1 in
    ((h.0.0, ih.1, ih.0), behind_more before l ls h.0.1 ih.1)

-- lines that follow one another are lawful
pub are_lines : (ls : List Shelf) → Follow IsNextLine (λ line. Some line.group) None ls → AreLines ls
are_lines ls h = (lines_follow None ls h).0

after_first : (before : Option (List ℕ)) (l : Shelf) (ls : List Shelf) → AreBehind before (l ∷ ls) → is_after before l.group ≡ true
after_first None l ls h = refl
after_first (Some g) l ls h = ap is_lt h.0

next_lines : (before : Option (List ℕ)) (ls : List Shelf) → AreLines ls → AreBehind before ls → Follow IsNextLine (λ line. Some line.group) before ls
next_lines before [] h behind = tt
next_lines before (l ∷ ls) h behind = ((h.0, after_first before l ls behind), next_lines (Some l.group) ls h.2 h.1)

-- lawful lines follow one another
pub lines_are_next : (ls : List Shelf) → AreLines ls → Follow IsNextLine (λ line. Some line.group) None ls
lines_are_next ls h = next_lines None ls h tt
