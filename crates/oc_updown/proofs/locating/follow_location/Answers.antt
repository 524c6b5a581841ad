-- The URL for a client that begins with the first byte, and for one that does not.
use Rattle.std.proofs.Common.{List, ℕ, ◌++◌, ap, ◌∙◌}
use Rattle.std.specs.Prelude.{codes, decimal}
use Rattle.oc_updown.proofs.Locations.{follow_from_first, follow_from_later}
use Rattle.oc_updown.proofs.locating.follow_location.Goals as goal

pub returns-in_ok-format : goal.returns-in_ok-format
returns-in_ok-format c =
    c.in_ok-format.ensures.ok
    ∙ ap (λ (x : List ℕ). codes "http://" ++ (c.args.address.now ++ (x ++ codes "?follow"))) c.text_of-name.ensures
    ∙ follow_from_first c.args.address.now c.args.group.now c.args.start c.if-start-eq0.true

pub returns-in_ok-format-2 : goal.returns-in_ok-format-2
returns-in_ok-format-2 c =
    c.in_ok-format-2.ensures.ok
    ∙ ap (λ (x : List ℕ). codes "http://" ++ (c.args.address.now ++ (x ++ (codes "?start=" ++ (decimal c.args.start ++ codes "&follow"))))) c.text_of-name.ensures
    ∙ follow_from_later c.args.address.now c.args.group.now c.args.start c.if-start-eq0.false
