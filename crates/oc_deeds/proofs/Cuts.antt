-- Fronts of lists of deeds.
use Rattle.std.proofs.Common.{List, [], ◌∷◌, ◌++◌, refl, sym, ap, ◌∙◌}
use Rattle.std.proofs.lemmas.List.{append_assoc}
use Rattle.oc_deeds.specs.Deeds.{Deed}
use Rattle.oc_deeds.specs.Under.{Cuts, IsUnder}
use Rattle.oc_deeds.specs.Under.{Idle, Noting, Taking, Under}

-- an input or a line under way is the same with more deeds after it
under_more : (u : Under) (ds more : List Deed) → IsUnder u ds → IsUnder u (ds ++ more)
under_more Idle ds more is = tt
under_more (Taking i) [] more is = absurd is
under_more (Taking i) (d ∷ ds) more is = is
under_more (Noting line) [] more is = absurd is
under_more (Noting line) (d ∷ ds) more is = is

-- a front of deeds is one of these with more after it
pub cuts_more : (whole more deeds : List Deed) (u : Under) → Cuts whole deeds u → Cuts (whole ++ more) deeds u
cuts_more whole more deeds u cut = record {
  behind = cut.behind ++ more;
  front = ap (λ (ds : List Deed). ds ++ more) cut.front ∙ append_assoc deeds cut.behind more;
  next = under_more u cut.behind more cut.next;
}

-- a cut of deeds is one with deeds before too
pub cuts_behind : (before whole deeds : List Deed) (u : Under) → Cuts whole deeds u → Cuts (before ++ whole) (before ++ deeds) u
cuts_behind before whole deeds u cut = record {
  behind = cut.behind;
  front = ap (λ (ds : List Deed). before ++ ds) cut.front ∙ sym (append_assoc before deeds cut.behind);
  next = cut.next;
}

-- nothing was done yet
pub cuts_none : (whole : List Deed) (u : Under) → IsUnder u whole → Cuts whole [] u
cuts_none whole u is = record { behind = whole; front = refl; next = is }
