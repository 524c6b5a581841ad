-- The order of candidates: by hops, then by id.
use Rattle.std.proofs.Common.{◌≡◌, true, false, inl, inr, arith}
use Rattle.std.proofs.lemmas.Bool.Decides.{nat_tests}
use Rattle.oc_model.specs.declared.place.Candidate.{Candidate}
use Rattle.oc_model.specs.Choice.{is_nearer}
use Rattle.oc_place.specs.Chosen.{ComesBefore}

-- nearer than a nearer one is nearer
pub nearer_passes : (d c b : Candidate) → is_nearer d c ≡ true → is_nearer c b ≡ true → is_nearer d b ≡ true
nearer_passes d c b x y = grind (arith, nat_tests)

-- no nearer than one that is no nearer is no nearer
pub no_nearer_passes : (d c b : Candidate) → is_nearer d c ≡ false → is_nearer c b ≡ false → is_nearer d b ≡ false
no_nearer_passes d c b x y = grind (arith, nat_tests)

-- none is nearer than itself
pub not_nearer_itself : (c : Candidate) → is_nearer c c ≡ false
not_nearer_itself c = grind (arith, nat_tests)

-- at most one of two candidates is nearer
pub nearer_one_way : (c d : Candidate) → is_nearer c d ≡ true → is_nearer d c ≡ false
nearer_one_way c d h = grind (arith, nat_tests)

-- the test finds each that comes before
pub before_is_nearer : (c d : Candidate) → ComesBefore c d → is_nearer c d ≡ true
before_is_nearer c d (inl h) = grind (arith, nat_tests)
before_is_nearer c d (inr h) = grind (arith, nat_tests)
