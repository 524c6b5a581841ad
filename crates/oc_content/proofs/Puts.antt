-- Bytes that may be put may be appended.
use Rattle.std.proofs.Common.{◌≡◌, ℕ, ◌+◌, ◌-◌, ◌<◌, ◌≤◌, Bool, true, false, ◌&&◌, ◌||◌, not, nat_lt, nat_le, ◌==◌, List, [], length, drop, get_or, Some, None, All, refl, sym, ap, subst, ◌∙◌, arith}
use Rattle.std.proofs.lemmas.List.{length-drop, get_or_default}
use Rattle.std.proofs.lemmas.Bool.Decides.{nat_tests}
use Rattle.oc_base.specs.declared.shelf.Shelf.{Shelf}
use Rattle.oc_content.specs.declared.errors.PutError.TheVariants.{Gap, Sealed, TooManyGroups, TooLong}
use Rattle.oc_base.specs.declared.named.Lookup.{Lookup}
use Rattle.oc_base.specs.declared.named.Lookup.TheVariants.{Found, Free}
use Rattle.oc_base.specs.Shelves.{line_of, LooksUpLine}
use Rattle.oc_content.specs.ContentFile.{fits}
use Rattle.oc_base.specs.declared.limits.TheConstants.{MAX_GROUP_BYTES, MAX_GROUPS}
use Rattle.oc_content.specs.Putting.{group_state, group_state_in, fault_of, put_entry}
use Rattle.oc_base.specs.Named.{IsThere, is_free}
use Rattle.oc_content.specs.declared.group_state.GroupState.{GroupState}
use Rattle.oc_content.specs.Entries.{Entry}
use Rattle.oc_content.specs.ContentView.{PieceView, IsReady}
use Rattle.oc_content.specs.Indexes.{IsWithin, HasGroupRoom, HasTrackRoom}
use Rattle.oc_content.proofs.Lines.{stands_within, goes_within, line_of-stands, line_of-goes}

-- the conditions under which bytes are not refused
pub record IsAllowed (s : GroupState) (start count : ℕ) : Type 0 where
  pub behind : start ≤ s.held
  pub unsealed : s.sealed ≡ true → start + count ≤ s.held
  pub few : s.one_too_many ≡ false
  pub short : start + count ≤ MAX_GROUP_BYTES

-- bytes without a reason to refuse them are allowed
pub allowed : (s : GroupState) (start count : ℕ) → fault_of s start count ≡ None → IsAllowed s start count
allowed s start count h = by_tests (nat_lt s.held start) s.sealed (nat_lt s.held (start + count)) s.one_too_many (nat_lt MAX_GROUP_BYTES (start + count)) refl refl refl refl refl where
  not_less : (a b : ℕ) → nat_lt a b ≡ false → b ≤ a
  not_less a b e = grind (arith, nat_tests)

  by_tests : (a b c d e : Bool) → nat_lt s.held start ≡ a → s.sealed ≡ b → nat_lt s.held (start + count) ≡ c → s.one_too_many ≡ d → nat_lt MAX_GROUP_BYTES (start + count) ≡ e → IsAllowed s start count
  by_tests true b c d e pa pb pc pd pe = let is : Some (Gap s.held) ≡ None = rw pa at h in absurd cc
  by_tests false true true d e pa pb pc pd pe = let is : Some Sealed ≡ None = rw (pa, pb, pc) at h in absurd cc
  by_tests false true false true e pa pb pc pd pe = let is : Some TooManyGroups ≡ None = rw (pa, pb, pc, pd) at h in absurd cc
  by_tests false true false false true pa pb pc pd pe = let is : Some TooLong ≡ None = rw (pa, pb, pc, pd, pe) at h in absurd cc
  by_tests false true false false false pa pb pc pd pe = record {
    behind = not_less s.held start pa;
    unsealed = λ _. not_less s.held (start + count) pc;
    few = pd;
    short = not_less MAX_GROUP_BYTES (start + count) pe;
  }
  by_tests false false c true e pa pb pc pd pe = let is : Some TooManyGroups ≡ None = rw (pa, pb, pd) at h in absurd cc
  by_tests false false c false true pa pb pc pd pe = let is : Some TooLong ≡ None = rw (pa, pb, pd, pe) at h in absurd cc
  by_tests false false c false false pa pb pc pd pe = record {
    behind = not_less s.held start pa;
    unsealed = λ e. let no_way : false ≡ true = sym pb ∙ e in absurd cc;
    few = pd;
    short = not_less MAX_GROUP_BYTES (start + count) pe;
  }

-- bytes put to a group that is there fit after it, if they add anything
fits_there : (line : Shelf) (groups start : ℕ) (bytes : List ℕ) (last : Bool) (name : List ℕ) → line.held ≤ MAX_GROUP_BYTES → IsAllowed (group_state (Some line) groups) start (length bytes) → (nat_lt 0 (length (drop (line.held - start) bytes)) || (last && not line.sealed && nat_le line.held (start + length bytes))) ≡ true → fits (Some line) groups line.held (length (drop (line.held - start) bytes)) (last && not line.sealed && nat_le line.held (start + length bytes)) ≡ true
fits_there line groups start bytes last name held ok adds = by_seal line.sealed refl where
  len : length (drop (line.held - start) bytes) ≡ length bytes - (line.held - start)
  len = length-drop (line.held - start) bytes

  same : (n : ℕ) → (n == n) ≡ true
  same n = grind (arith, nat_tests)

  within : nat_le (line.held + length (drop (line.held - start) bytes)) MAX_GROUP_BYTES ≡ true
  within = let fits : line.held + length (drop (line.held - start) bytes) ≤ MAX_GROUP_BYTES = omega (arith, len, held, ok.short, ok.behind) in grind (arith, nat_tests)

  swapped : (a b : Bool) → (a || b) ≡ true → (b || a) ≡ true
  swapped true true e = refl
  swapped true false e = refl
  swapped false true e = refl
  swapped false false e = e

  no_bytes : (n : ℕ) → n ≡ 0 → nat_lt 0 n ≡ false
  no_bytes n e = grind (arith, nat_tests)

  never : (a b : Bool) → (a && false && b) ≡ true → ⊥
  never true true e = absurd cc
  never true false e = absurd cc
  never false b e = absurd cc

  all_four : (a b c d : Bool) → a ≡ true → b ≡ true → c ≡ true → d ≡ true → (a && b && c && d) ≡ true
  all_four a b c d p q r s = rw (p, q, r, s)

  by_seal : (b : Bool) → line.sealed ≡ b → fits (Some line) groups line.held (length (drop (line.held - start) bytes)) (last && not line.sealed && nat_le line.held (start + length bytes)) ≡ true
  by_seal true e =
      let none : length (drop (line.held - start) bytes) ≡ 0 = omega (arith, len, ok.unsealed e, ok.behind) in
      let nothing : (last && false && nat_le line.held (start + length bytes)) ≡ true = rw (no_bytes _ none, e) at adds in
      absurd (never last (nat_le line.held (start + length bytes)) nothing)
  by_seal false e =
      let more = swapped (nat_lt 0 (length (drop (line.held - start) bytes))) (last && not line.sealed && nat_le line.held (start + length bytes)) adds in
      let unsealed : not line.sealed ≡ true = ap not e in
      all_four (line.held == line.held) (not line.sealed) (nat_le (line.held + length (drop (line.held - start) bytes)) MAX_GROUP_BYTES) _ (same line.held) unsealed within more

-- bytes put to a new group fit
fits_first : (groups start : ℕ) (bytes : List ℕ) (seals : Bool) → IsAllowed (group_state None groups) start (length bytes) → fits None groups 0 (length (drop (0 - start) bytes)) seals ≡ true
fits_first groups start bytes seals ok = all_three (0 == 0) (nat_lt groups MAX_GROUPS) (nat_le (length (drop (0 - start) bytes)) MAX_GROUP_BYTES) refl few within where
  few : nat_lt groups MAX_GROUPS ≡ true
  few = let e : nat_le MAX_GROUPS groups ≡ false = ok.few in grind (arith, nat_tests)

  within : nat_le (length (drop (0 - start) bytes)) MAX_GROUP_BYTES ≡ true
  within = let fits : length (drop (0 - start) bytes) ≤ MAX_GROUP_BYTES = omega (arith, length-drop (0 - start) bytes, ok.short) in grind (arith, nat_tests)

  all_three : (a b c : Bool) → a ≡ true → b ≡ true → c ≡ true → (a && b && c) ≡ true
  all_three a b c p q r = rw (p, q, r)

-- bytes that are put fit after the present content, if they add anything
pub put_fits : (ss : List Shelf) (name : List ℕ) (place : Lookup) (start : ℕ) (bytes : List ℕ) (last : Bool) → All (λ s. s.held ≤ MAX_GROUP_BYTES) ss → LooksUpLine ss name place → fault_of (group_state_in ss name) start (length bytes) ≡ None → (is_free place || nat_lt 0 (length (put_entry (group_state_in ss name) name start bytes last).bytes) || (put_entry (group_state_in ss name) name start bytes last).seals) ≡ true → fits (line_of name ss) (length ss) (put_entry (group_state_in ss name) name start bytes last).start (length (put_entry (group_state_in ss name) name start bytes last).bytes) (put_entry (group_state_in ss name) name start bytes last).seals ≡ true
put_fits ss name (Found i) start bytes last short at none adds =
    let d : Shelf = record { group = []; held = 0; sealed = false } in
    let inside = stands_within ss name i at in
    let s = get_or ss i d in
    let there : line_of name ss ≡ Some s = line_of-stands ss name i s at (get_or_default ss i d s inside) in
    let ok = allowed (group_state (Some s) (length ss)) start (length bytes) (rw there at none) in
    let more = rw there at adds in
    rw there (fits_there s (length ss) start bytes last name (short i d inside) ok more)
put_fits ss name (Free i) start bytes last short at none adds =
    let absent : line_of name ss ≡ None = line_of-goes ss name i at in
    let ok = allowed (group_state None (length ss)) start (length bytes) (rw absent at none) in
    rw absent (fits_first (length ss) start bytes (last && not false && nat_le 0 (start + length bytes)) ok)

-- where something may be put there is a place for it
pub put_within : (ss : List Shelf) (name : List ℕ) (place : Lookup) (start count : ℕ) → LooksUpLine ss name place → fault_of (group_state_in ss name) start count ≡ None → IsWithin place (length ss)
put_within ss name (Found i) start count at none = stands_within ss name i at
put_within ss name (Free i) start count at none =
    let absent : line_of name ss ≡ None = line_of-goes ss name i at in
    let ok = allowed (group_state None (length ss)) start count (rw absent at none) in
    let few : nat_le MAX_GROUPS (length ss) ≡ false = ok.few in
    (goes_within ss name i at, not_at_least MAX_GROUPS (length ss) few) where
      not_at_least : (a b : ℕ) → nat_le a b ≡ false → b < a
      not_at_least a b e = grind (arith, nat_tests)

-- a place is there
pub place_there : (ss : List Shelf) (name : List ℕ) (place : Lookup) → LooksUpLine ss name place → IsThere place (length ss)
place_there ss name (Found i) at = stands_within ss name i at
place_there ss name (Free i) at = tt

-- no group holds more than the most
pub state_short : (ss : List Shelf) (name : List ℕ) (place : Lookup) → All (λ s. s.held ≤ MAX_GROUP_BYTES) ss → LooksUpLine ss name place → (group_state_in ss name).held ≤ MAX_GROUP_BYTES
state_short ss name (Found i) short at =
    let d : Shelf = record { group = []; held = 0; sealed = false } in
    let inside = stands_within ss name i at in
    let s = get_or ss i d in
    let there : line_of name ss ≡ Some s = line_of-stands ss name i s at (get_or_default ss i d s inside) in
    rw there (short i d inside)
state_short ss name (Free i) short at =
    let absent : line_of name ss ≡ None = line_of-goes ss name i at in
    rw absent (omega arith)

-- a piece that was put is ready
pub ready_put : (ss : List Shelf) (rs : List ℕ) (memory spare : ℕ) (p : PieceView) (name : List ℕ) (start : ℕ) (bytes : List ℕ) (last : Bool) → All (λ s. s.held ≤ MAX_GROUP_BYTES) ss → LooksUpLine ss name p.place → fault_of (group_state_in ss name) start (length bytes) ≡ None → p.entry ≡ put_entry (group_state_in ss name) name start bytes last → HasTrackRoom rs p.room p.place → HasGroupRoom (length ss) memory p.place → 0 < spare → IsReady ss rs memory spare p
ready_put ss rs memory spare p name start bytes last short at none is room groups some = record {
  place = subst (λ (e : Entry). LooksUpLine ss e.group p.place) (sym is) at;
  fits = λ adds. subst (λ (e : Entry). fits (line_of e.group ss) (length ss) e.start (length e.bytes) e.seals ≡ true) (sym is) (put_fits ss name p.place start bytes last short at none (subst (λ (e : Entry). (is_free p.place || nat_lt 0 (length e.bytes) || e.seals) ≡ true) is adds));
  room = room;
  groups = groups;
  spare = some;
}
