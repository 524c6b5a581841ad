-- The bytes that came from a reader, between two moments.
use Rattle.std.specs.Prelude.{◌≡◌, ℕ, IsTrue, Option, List, [], ◌++◌, length, refl}
use Rattle.std.specs.Io.KnownBytes.{Consumes, IsAtEnd}
use Rattle.std.proofs.Common.{◌∙◌, ap}
use Rattle.oc_io.specs.Tally.{counted}
use Rattle.oc_io.specs.Counts.{Rises, Rises-none, Rises-then}
use Rattle.oc_io.specs.Known.{Consumes-none, Consumes-then}
use Rattle.oc_io.specs.declared.reader_source.ReaderSource.{ReaderSource}

module _ {R : Type 0} (remaining : R → Option (List ℕ)) where
  -- these bytes came: a reader that tells its remaining bytes has lost them, and the counter rose by their
  -- number
  pub record Passed (old : ReaderSource R) (bytes : List ℕ) (new : ReaderSource R) : Type 0 where
    pub known : Consumes (remaining old.reader) (remaining new.reader) bytes
    pub counts : Rises old.passed (length bytes) new.passed

  -- these bytes came, and no call failed
  pub record Came (old : ReaderSource R) (bytes : List ℕ) (new : ReaderSource R) : Type 0 where
    pub passed : Passed old bytes new
    pub faults : new.faults ≡ old.faults

  -- these bytes came, and then one call failed
  pub record CameAndFailed (old : ReaderSource R) (bytes : List ℕ) (new : ReaderSource R) : Type 0 where
    pub passed : Passed old bytes new
    pub faults : new.faults ≡ counted old.faults

  -- the last read with room found nothing, and the reader knows of no bytes left
  pub record HasEnded (source : ReaderSource R) : Type 0 where
    pub found_nothing : IsTrue source.at_end
    pub known : IsAtEnd (remaining source.reader)

  passed_then : (a b c : ReaderSource R) (x y : List ℕ) → Passed a x b → Passed b y c → Passed a (x ++ y) c
  passed_then a b c x y p q = record {
    known = Consumes-then (remaining a.reader) (remaining b.reader) (remaining c.reader) x y p.known q.known;
    counts = Rises-then a.passed b.passed c.passed x y p.counts q.counts;
  }

  pub Came-nothing : (s : ReaderSource R) → Came s [] s
  Came-nothing s = record {
    passed = record { known = Consumes-none (remaining s.reader); counts = Rises-none s.passed };
    faults = refl;
  }

  pub Came-then : (a b c : ReaderSource R) (x y : List ℕ) → Came a x b → Came b y c → Came a (x ++ y) c
  Came-then a b c x y p q = record {
    passed = passed_then a b c x y p.passed q.passed;
    faults = q.faults ∙ p.faults;
  }

  pub Came-fails : (a b c : ReaderSource R) (x y : List ℕ) → Came a x b → CameAndFailed b y c → CameAndFailed a (x ++ y) c
  Came-fails a b c x y p q = record {
    passed = passed_then a b c x y p.passed q.passed;
    faults = q.faults ∙ ap counted p.faults;
  }
