use Rattle.std.proofs.Common.{◌≡◌, ℕ, ◌+◌, ◌-◌, ◌++◌, List, [], length, take, drop, get_or, sym, ap, ◌∙◌, arith}
use Rattle.std.proofs.lemmas.List.{drop-drop}
use Rattle.oc_content.specs.Indexes.{bytes_at}
use Rattle.oc_content.proofs.Across.{read_behind}
use Rattle.oc_content.proofs.frame_reads.read_span.Goals as goal

pub returns-clause-bytes : goal.returns-clause-bytes
returns-clause-bytes g c = λ honest.
    let count = c.args.count in
    let more = c.in_ok-more.more in
    let buf = c.args.buf.now in
    let part = c.peek.new.buf in
    let s = c.args.span.now in
    let body = get_or c.args.journal.now.frames s.frame [] in
    let plain : count + more - count ≡ more = omega arith in
    read_behind count (length buf - count) more buf part c.requires.count (omega (arith, c.in_ok-more.ensures.within, c.peek.auto.buf))
    ∙ ap (λ (l : List ℕ). take count buf ++ l) (c.in_ok-more.ensures.bytes honest ∙ (ap (take more) (ap (λ (n : ℕ). drop n body) (omega arith) ∙ sym (drop-drop c.args.skip s.skip body)) ∙ ap (λ (n : ℕ). take n (drop c.args.skip (bytes_at c.args.journal.now.frames s))) (sym plain)))
