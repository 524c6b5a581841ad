-- Why two control files are refused.
use Rattle.std.proofs.Common.{◌≡◌, ℕ, IsTrue, refl, arith}
use Rattle.oc_io.specs.DiskView.{DiskView, FailsToRead}
use Rattle.oc_journal.specs.declared.errors.FileError.{FileError}
use Rattle.oc_journal.specs.declared.errors.FileError.TheVariants as causes
use Rattle.oc_store.specs.declared.errors.Side.{Side}
use Rattle.oc_store.specs.declared.errors.Side.TheVariants.{First, Second}
use Rattle.oc_store.specs.ControlFiles.{IsGood}
use Rattle.oc_store.specs.Promises.{RefusesFile, RefusesSide}

-- a reliable disk does not fail to read
reads_surely : (old new : DiskView) → IsTrue old.reliable → ¬ FailsToRead old new
reads_surely old new reliable fails = fails.unsure (record { reliable = reliable; room = omega arith; calls = omega arith })

-- a good file on a reliable disk is refused for want of memory alone
refused_one : (nodes : ℕ) (old new : DiskView) (cause : FileError) → RefusesFile nodes old new cause → IsTrue old.reliable → IsTrue old.honest → IsGood nodes old.seen → cause ≡ causes.Memory
refused_one nodes old new causes.Disk why sure honest good = absurd (reads_surely old new sure why)
refused_one nodes old new causes.NotJournal why sure honest good = absurd (good.0 (why honest))
refused_one nodes old new (causes.BadFrame number) why sure honest good = let bad = why honest in absurd (cc (bad.1, good.1))
refused_one nodes old new causes.Memory why sure honest good = refl

-- two good files on reliable disks are refused only if memory runs out
pub refused_memory : (nodes : ℕ) (a b a2 b2 : DiskView) (side : Side) (cause : FileError) → RefusesSide nodes a b a2 b2 side cause
    → IsTrue a.reliable → IsTrue b.reliable → IsTrue a.honest → IsTrue b.honest → IsGood nodes a.seen → IsGood nodes b.seen
    → cause ≡ causes.Memory
refused_memory nodes a b a2 b2 First cause why sure_a sure_b honest_a honest_b good_a good_b = refused_one nodes a a2 cause why sure_a honest_a good_a
refused_memory nodes a b a2 b2 Second cause why sure_a sure_b honest_a honest_b good_a good_b = refused_one nodes b b2 cause why.1 sure_b honest_b good_b
