-- The cases in which a content under way waits, and a client that has all.
use Rattle.std.proofs.Common.{◌≡◌, ℕ, ◌-◌, ◌<◌, ◌≤◌, Bool, true, false, Option, Some, None, List, refl, sym, arith}
use Rattle.std.specs.Prelude.{◌&&◌, ◌||◌, ◌==◌, not, nat_lt, nat_le, find, if◌then◌else◌}
use Rattle.std.specs.Str.{bytes_eq}
use Rattle.std.proofs.lemmas.Bool.{and_parts, eqb-true, leb-true, ltb-false, leb-false, lt-ltb, le-ltb, lt-leb, not-true, false≢true}
use Rattle.oc_base.specs.declared.shelf.Shelf.{Shelf}
use Rattle.oc_routes.specs.Shown.{here_answer}
use Rattle.oc_routes.specs.Waits.{gives_nothing, holding, holding_of, is_due, prospect}
use Rattle.oc_routes.specs.Stillness.{HasNothingNew, IsEarly}
use Rattle.oc_routes.specs.declared.content.UnderWay.{UnderWay}
use Rattle.oc_routes.specs.declared.hint.Hint.{Hint}
use Rattle.oc_routes.specs.declared.hint.Hint.TheVariants.{Plain, Here, Of, Known}
use Rattle.oc_routes.specs.declared.holding.Holding.{Holding}
use Rattle.oc_routes.specs.declared.waiting.Follower.{Follower}
use Rattle.oc_routes.specs.declared.waiting.Prospect.TheVariants.{Gives, Waits, Breaks}
use Rattle.oc_routes.specs.declared.waiting.TheConstants.{FOLLOW_MILLIS, IDLE_MILLIS}

waits_tests : (breaks gives idle : Bool) → (if breaks then Breaks else if gives then Gives else if idle then Breaks else Waits) ≡ Waits → (breaks ≡ false) × (gives ≡ false) × (idle ≡ false)
waits_tests true gives idle e = cc
waits_tests false true idle e = cc
waits_tests false false true e = cc
waits_tests false false false e = (refl, refl, refl)

open_group : (sealed shorter : Bool) → (sealed && shorter) ≡ false → shorter ≡ true → sealed ≡ false
open_group true shorter none is = is_not shorter none is
  where
    is_not : (b : Bool) → b ≡ false → b ≡ true → true ≡ false
    is_not true e f = e
    is_not false e f = absurd (false≢true f)
open_group false shorter none is = refl

-- a content waits where its group has nothing new for it, is open, and its time has not passed
pub waits_then : (u : UnderWay) (h : Holding) (idle : ℕ) → u.at < u.end → prospect u h idle ≡ Waits → HasNothingNew u.at h × (idle < IDLE_MILLIS)
waits_then u h idle some is =
    let t = waits_tests (h.sealed && nat_lt h.held u.end) (nat_lt u.at h.held) (nat_le IDLE_MILLIS idle) is in
    let held : h.held ≤ u.at = ltb-false u.at h.held (t.1) in
    (record { held = held; unsealed = open_group h.sealed (nat_lt h.held u.end) (t.0) (lt-ltb h.held u.end (omega (arith, held, some))) }, leb-false IDLE_MILLIS idle (t.2))

pub then_waits : (u : UnderWay) (h : Holding) (idle : ℕ) → HasNothingNew u.at h → idle < IDLE_MILLIS → prospect u h idle ≡ Waits
then_waits u h idle none early = rw (none.unsealed, le-ltb u.at h.held none.held, lt-leb IDLE_MILLIS idle early) refl

-- a content of which its group has all is given on
pub whole_gives : (u : UnderWay) (h : Holding) (idle : ℕ) → u.at < u.end → u.end ≤ h.held → prospect u h idle ≡ Gives
whole_gives u h idle some whole =
    by_seal h.sealed (nat_lt h.held u.end) (nat_lt u.at h.held) (le-ltb h.held u.end whole) (lt-ltb u.at h.held (omega (arith, some, whole)))
  where
    by_seal : (sealed shorter more : Bool) → shorter ≡ false → more ≡ true → (if sealed && shorter then Breaks else if more then Gives else if nat_le IDLE_MILLIS idle then Breaks else Waits) ≡ Gives
    by_seal true false true a b = refl
    by_seal false false true a b = refl
    by_seal sealed true more a b = absurd (false≢true (sym a))
    by_seal sealed shorter false a b = absurd (false≢true b)

due_tests : (more sealed late : Bool) → (more || sealed || late) ≡ false → (more ≡ false) × (sealed ≡ false) × (late ≡ false)
due_tests true true late e = absurd (false≢true (sym e))
due_tests true false late e = absurd (false≢true (sym e))
due_tests false true late e = absurd (false≢true (sym e))
due_tests false false late e = (refl, refl, e)

-- a client waits where its group has nothing new for it, is open, and its time has not passed
pub early_then : (f : Follower) (h : Holding) (now : ℕ) → is_due f h now ≡ false → HasNothingNew f.start h × IsEarly f now
early_then f h now is =
    let t = due_tests (nat_lt f.start h.held) h.sealed (nat_le FOLLOW_MILLIS (now - f.since)) is in
    (record { held = ltb-false f.start h.held (t.0); unsealed = t.1 }, leb-false FOLLOW_MILLIS (now - f.since) (t.2))

pub then_early : (f : Follower) (h : Holding) (now : ℕ) → HasNothingNew f.start h → IsEarly f now → is_due f h now ≡ false
then_early f h now none early = rw (le-ltb f.start h.held none.held, none.unsealed, lt-leb FOLLOW_MILLIS (now - f.since) early) refl

abbrev holds : Bool → ℕ → Bool → Holding
holds there held sealed = record { there = there; held = held; sealed = sealed }

-- nothing is given where nothing is new
none_given : (there : Bool) (held start : ℕ) (sealed : Bool) → ((held - start == 0) && not sealed) ≡ true → HasNothingNew start (holds there held sealed)
none_given there held start sealed none =
    let parts = and_parts (held - start == 0) (not sealed) none in
    let count : held - start ≡ 0 = eqb-true (held - start) 0 (parts.0) in
    record { held = omega (arith, count); unsealed = not-true sealed (parts.1) }

to_wait_parts : (hint : Hint) (there : Bool) (held : ℕ) (sealed : Bool) (start : ℕ) → (there ≡ false → (held ≡ 0) × (sealed ≡ false))
    → gives_nothing hint (here_answer (holds there held sealed) start) (holds there held sealed) start ≡ true → HasNothingNew start (holds there held sealed)
to_wait_parts Here true held sealed start absent none =
    let parts = and_parts (not sealed) (nat_le held start) none in
    record { held = leb-true held start (parts.1); unsealed = not-true sealed (parts.0) }
to_wait_parts Here false held sealed start absent none = absurd (false≢true none)
to_wait_parts (Of length) there held sealed start absent none = absurd (false≢true none)
to_wait_parts Plain true held sealed start absent none = none_given true held start sealed none
to_wait_parts Plain false held sealed start absent none = absurd (false≢true none)
to_wait_parts Known true held sealed start absent none = none_given true held start sealed none
to_wait_parts Known false held sealed start absent none =
    let both = absent refl in
    record { held = omega (arith, both.0); unsealed = both.1 }

-- a group that is not there has no bytes and no seal
absent_empty : (line : Option Shelf) → (holding_of line).there ≡ false → ((holding_of line).held ≡ 0) × ((holding_of line).sealed ≡ false)
absent_empty None is = (refl, refl)
absent_empty (Some line) is = absurd (false≢true (sym is))

-- a client is only let wait where its group has nothing new for it and is open
pub to_wait_then : (hint : Hint) (group : List ℕ) (lines : List Shelf) (start : ℕ) → gives_nothing hint (here_answer (holding group lines) start) (holding group lines) start ≡ true → HasNothingNew start (holding group lines)
to_wait_then hint group lines start none =
    let line = find (λ (line : Shelf). bytes_eq line.group group) lines in
    to_wait_parts hint (holding_of line).there (holding_of line).held (holding_of line).sealed start (absent_empty line) none
