use Rattle.std.proofs.Common.{refl}
use Rattle.oc_keep.proofs.Ends.{append_too_long, done}
use Rattle.oc_keep.proofs.writing.put.Goals as goal

pub commit-requires : goal.commit-requires
commit-requires g c = rw c.in-Records.is at c.requires.ready

pub commit-requires-in-Content-clause-prepared : goal.commit-requires-in-Content-clause-prepared
commit-requires-in-Content-clause-prepared g c = (rw c.in-Content.is at c.requires.ready).0

pub commit-requires-in-Content-clause-adds : goal.commit-requires-in-Content-clause-adds
commit-requires-in-Content-clause-adds g c = (rw c.in-Content.is at c.requires.ready).1

pub returns-in-Nothing-clause-writes : goal.returns-in-Nothing-clause-writes
returns-in-Nothing-clause-writes g c = rw c.in-Nothing.is tt

pub returns-in-Nothing-clause-safely : goal.returns-in-Nothing-clause-safely
returns-in-Nothing-clause-safely g c = rw c.in-Nothing.is (refl, refl)

pub returns-in-Nothing-clause-lines : goal.returns-in-Nothing-clause-lines
returns-in-Nothing-clause-lines g c = λ shelved. shelved

pub returns-in-Nothing-clause-unchanged : goal.returns-in-Nothing-clause-unchanged
returns-in-Nothing-clause-unchanged g c = λ wrong. absurd (done _ _ wrong)

pub returns-in-Nothing-clause-disk : goal.returns-in-Nothing-clause-disk
returns-in-Nothing-clause-disk g c = λ wrong. absurd (done _ _ wrong)

pub returns-in-Ok-clause-writes : goal.returns-in-Ok-clause-writes
returns-in-Ok-clause-writes g c = rw c.in-Records.is c.in-Ok.ensures.commits

pub returns-in-Ok-clause-safely : goal.returns-in-Ok-clause-safely
returns-in-Ok-clause-safely g c = rw c.in-Records.is (c.commit.ensures.safely, refl)

pub returns-in-Ok-clause-lines : goal.returns-in-Ok-clause-lines
returns-in-Ok-clause-lines g c = λ shelved. shelved

pub returns-in-Ok-clause-unchanged : goal.returns-in-Ok-clause-unchanged
returns-in-Ok-clause-unchanged g c = λ wrong. absurd (done _ _ wrong)

pub returns-in-Ok-clause-disk : goal.returns-in-Ok-clause-disk
returns-in-Ok-clause-disk g c = λ wrong. absurd (done _ _ wrong)

pub returns-in-Records-clause-writes : goal.returns-in-Records-clause-writes
returns-in-Records-clause-writes g c = tt

pub returns-in-Records-clause-safely : goal.returns-in-Records-clause-safely
returns-in-Records-clause-safely g c = rw c.in-Records.is (c.commit.ensures.safely, refl)

pub returns-in-Records-clause-lines : goal.returns-in-Records-clause-lines
returns-in-Records-clause-lines g c = tt

pub returns-in-Ok-commit-clause-safely : goal.returns-in-Ok-commit-clause-safely
returns-in-Ok-commit-clause-safely g c = rw c.in-Content.is (c.commit-in-Content.ensures.safely, refl)

pub returns-in-Ok-commit-clause-unchanged : goal.returns-in-Ok-commit-clause-unchanged
returns-in-Ok-commit-clause-unchanged g c = λ wrong. absurd (done _ _ wrong)

pub returns-in-Ok-commit-clause-disk : goal.returns-in-Ok-commit-clause-disk
returns-in-Ok-commit-clause-disk g c = λ wrong. absurd (done _ _ wrong)

pub returns-clause-writes : goal.returns-clause-writes
returns-clause-writes g c = tt

pub returns-clause-safely : goal.returns-clause-safely
returns-clause-safely g c = rw c.in-Content.is (c.commit-in-Content.ensures.safely, refl)

pub returns-clause-lines : goal.returns-clause-lines
returns-clause-lines g c = tt

pub returns-in-Records-clause-full : goal.returns-in-Records-clause-full
returns-in-Records-clause-full g c = rw c.in-Records.is (append_too_long c.cause.result c.in-Err.error _ _ c.cause.ensures c.requires.open_store c.in-Err.ensures.full)
