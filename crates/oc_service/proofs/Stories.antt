-- The calls of a link until some moment, where the link tells them to the end.
use Rattle.std.proofs.Common.{◌≡◌, ℕ, Option, None, Some, List, ◌++◌, refl, ap}
use Rattle.std.specs.Option.{option_map}
use Rattle.oc_link.specs.Told.{AddsAll, Told as ToldBy}
use Rattle.oc_link.specs.declared.call.Call.{Call}
use Rattle.oc_link.specs.declared.event.LinkEvent.{LinkEvent}
use Rattle.oc_server.specs.Runs.{IsLent, after_reading}
use Rattle.oc_service.specs.WhatNodeHears.{until}

-- a link that still tells its story told it before
abbrev pub Follows : Option (List Call) → Option (List Call) → Type 0
Follows = ToldBy (λ x y. Unit {0})

pub follows_adds : (cs : List Call) (x y : Option (List Call)) → AddsAll cs x y → Follows x y
follows_adds cs x None adds = tt
follows_adds cs None (Some q) adds = absurd adds
follows_adds cs (Some p) (Some q) adds = tt

pub follows_then : (x y z : Option (List Call)) → Follows x y → Follows y z → Follows x z
follows_then x y None first second = tt
follows_then x None (Some r) first second = absurd second
follows_then None (Some q) (Some r) first second = absurd first
follows_then (Some p) (Some q) (Some r) first second = tt

pub follows_self : (x : Option (List Call)) → Follows x x
follows_self None = tt
follows_self (Some p) = tt

-- further calls until a later moment
pub until_then : (cs : List Call) (x y all : Option (List Call)) → AddsAll cs x y → Follows y all → until y all ≡ option_map (λ (c : List Call). c ++ cs) (until x all)
until_then cs None None None adds follows = refl
until_then cs (Some p) None None adds follows = refl
until_then cs None (Some q) None adds follows = absurd adds
until_then cs (Some p) (Some q) None adds follows = refl
until_then cs x None (Some all) adds follows = absurd follows
until_then cs None (Some q) (Some all) adds follows = absurd adds
until_then cs (Some p) (Some q) (Some all) adds follows = ap Some adds

-- the bytes lent, by the calls until then
pub lent_until : (before : ℕ) (x y all : Option (List Call)) (event : LinkEvent) (bytes lent : List ℕ) → Follows y all
    → IsLent (after_reading before x) y event bytes lent → IsLent (after_reading before (until x all)) (until x all) event bytes lent
lent_until before None y None event bytes lent follows is = tt
lent_until before None y (Some all) event bytes lent follows is = tt
lent_until before (Some p) y None event bytes lent follows is = tt
lent_until before (Some p) None (Some all) event bytes lent follows is = absurd follows
lent_until before (Some p) (Some q) (Some all) event bytes lent follows is = is
