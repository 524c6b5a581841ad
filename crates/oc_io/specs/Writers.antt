-- The bytes that went to a writer, between two moments.
use Rattle.std.specs.Prelude.{◌≡◌, ℕ, Option, List, [], ◌++◌, length, refl}
use Rattle.std.specs.Io.KnownBytes.{Appends}
use Rattle.std.proofs.Common.{◌∙◌, ap}
use Rattle.oc_io.specs.Tally.{counted}
use Rattle.oc_io.specs.Counts.{Rises, Rises-none, Rises-then}
use Rattle.oc_io.specs.Known.{Appends-none, Appends-then}
use Rattle.oc_io.specs.declared.writer_sink.WriterSink.{WriterSink}

module _ {W : Type 0} (contents : W → Option (List ℕ)) where
  -- these bytes went: a writer that tells its content has grown by them, and the counter rose by their
  -- number
  pub record Passed (old : WriterSink W) (bytes : List ℕ) (new : WriterSink W) : Type 0 where
    pub known : Appends (contents old.writer) (contents new.writer) bytes
    pub counts : Rises old.passed (length bytes) new.passed

  -- these bytes went, and no call failed
  pub record Went (old : WriterSink W) (bytes : List ℕ) (new : WriterSink W) : Type 0 where
    pub passed : Passed old bytes new
    pub faults : new.faults ≡ old.faults

  -- these bytes went, and then one call failed
  pub record WentAndFailed (old : WriterSink W) (bytes : List ℕ) (new : WriterSink W) : Type 0 where
    pub passed : Passed old bytes new
    pub faults : new.faults ≡ counted old.faults

  passed_then : (a b c : WriterSink W) (x y : List ℕ) → Passed a x b → Passed b y c → Passed a (x ++ y) c
  passed_then a b c x y p q = record {
    known = Appends-then (contents a.writer) (contents b.writer) (contents c.writer) x y p.known q.known;
    counts = Rises-then a.passed b.passed c.passed x y p.counts q.counts;
  }

  pub Went-nothing : (s : WriterSink W) → Went s [] s
  Went-nothing s = record {
    passed = record { known = Appends-none (contents s.writer); counts = Rises-none s.passed };
    faults = refl;
  }

  pub Went-then : (a b c : WriterSink W) (x y : List ℕ) → Went a x b → Went b y c → Went a (x ++ y) c
  Went-then a b c x y p q = record {
    passed = passed_then a b c x y p.passed q.passed;
    faults = q.faults ∙ p.faults;
  }

  pub Went-fails : (a b c : WriterSink W) (x y : List ℕ) → Went a x b → WentAndFailed b y c → WentAndFailed a (x ++ y) c
  Went-fails a b c x y p q = record {
    passed = passed_then a b c x y p.passed q.passed;
    faults = q.faults ∙ ap counted p.faults;
  }
