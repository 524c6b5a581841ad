use Rattle.std.proofs.Common.{refl}
use Rattle.oc_laws_rest.proofs.examples.rounds_compute.Goals as goal

pub returns-clause-rests : goal.returns-clause-rests
returns-clause-rests c = record { before = refl; quiet = refl; settled = refl; again = refl; twice = refl; after_twice = refl }

pub returns-clause-leased : goal.returns-clause-leased
returns-clause-leased c = record { quiet = refl; lease = refl; end = refl; another = refl }

pub returns-clause-kept : goal.returns-clause-kept
returns-clause-kept c = record { past = refl; rate = refl; joined = refl; later = refl; seq = refl }

pub returns-clause-told : goal.returns-clause-told
returns-clause-told c = record { quiet = refl; root = refl; settled = refl }

pub returns-clause-untold : goal.returns-clause-untold
returns-clause-untold c = record { not_quiet = refl; asks = refl; not_settled = refl }

pub returns-clause-answered : goal.returns-clause-answered
returns-clause-answered c = record { quiet = refl; asks = refl; answered = refl }

pub returns-clause-left : goal.returns-clause-left
returns-clause-left c = record { met = refl; joined = refl; quiet = refl; root = refl; settled = refl }

pub returns-clause-clock : goal.returns-clause-clock
returns-clause-clock c = record { not_quiet = refl; joined = refl; seq = refl; asks_anew = refl }
