use Rattle.std.proofs.Common.{◌≡◌, ℕ, ◌+◌, ◌-◌, ◌++◌, min, List, length, take, drop, get_or, flat_map, sym, subst, arith}
use Rattle.std.proofs.lemmas.List.{get_or_default}
use Rattle.oc_io.proofs.DiskMoments.{still_honest}
use Rattle.oc_content.specs.declared.track.Span.{Span}
use Rattle.oc_content.specs.Indexes.{bytes_at}
use Rattle.oc_content.proofs.Across.{read_on, begins_first}
use Rattle.oc_journal.proofs.ReadRuns.{OnlyReads-then, NoneFailed-then}
use Rattle.oc_content.proofs.frame_reads.read_spans.Goals as goal

pub loop-span-preserved : goal.loop-span-preserved
loop-span-preserved g c =
    let so_far = c.loop-span.invariant in
    let view = g.D.Disk.view in
    let start = c.args.journal.now in
    let before = c.loop-span.journal in
    let spans = c.args.spans.now in
    let i = c.loop-span.span-index in
    let buf = c.loop-span.buf in
    let new = c.read_span.new.buf in
    let count = c.loop-span.count in
    let n = c.in_ok-count.count in
    let skip = c.loop-span.skip in
    let s : Span = get_or spans i (record { frame = 0; start = 0; skip = 0 }) in
    let len : length new ≡ length buf = omega (arith, c.read_span.auto.buf) in
    record {
      within = omega (arith, c.in_ok-count.ensures.within, len);
      skip = omega arith;
      begins = λ b. begins_first start.frames (drop (i + 1) spans);
      whole = λ honest b.
          let h = still_honest (view start.disk) (view before.disk) so_far.same.disk.goes_on honest in
          let frames = so_far.same.frames honest in
          let many = subst (λ (f : List (List ℕ)). n ≡ count + min (length buf - count) (length (bytes_at f s) - skip)) frames (c.in_ok-count.ensures.count h) in
          let read = subst (λ (f : List (List ℕ)). take n new ≡ take count buf ++ take (n - count) (drop skip (bytes_at f s))) frames (c.in_ok-count.ensures.bytes h) in
          subst (λ (most : ℕ). take n new ++ take (most - n) (flat_map (bytes_at start.frames) (drop (i + 1) spans)) ≡ take most (drop c.args.skip (flat_map (bytes_at start.frames) spans))) (sym len)
          (read_on start.frames spans i s (length buf) count n skip buf new (take (length buf) (drop c.args.skip (flat_map (bytes_at start.frames) spans))) c.loop-span-test.true (get_or_default spans i (record { frame = 0; start = 0; skip = 0 }) s c.loop-span-test.true) so_far.within (so_far.begins b) many read (so_far.whole honest b));
      none_failed = NoneFailed-then view start before c.read_span.new.journal so_far.none_failed c.in_ok-count.ensures.none_failed;
      same = OnlyReads-then view start before c.read_span.new.journal (λ h. g.met.D.Disk.consistent start.disk h) so_far.same c.in_ok-count.ensures.same;
    }
