-- The step at each byte of a size line.
use Rattle.std.proofs.Common.{ℕ, List, [], ◌∷◌, drop, subst}
use Rattle.httparse.specs.Grammar.{ReadsChunkLine}
use Rattle.oc_http.proofs.Heads.{IsUnfinished-more}
use Rattle.oc_chunked.proofs.Forms.{size_form}
use Rattle.oc_chunked.proofs.SizeSteps.{size_found}
use Rattle.oc_chunked.proofs.LineAnswers.{size_goes, open_size}
use Rattle.oc_chunked.proofs.lines.behind_size.Goals as goal

pub returns-then-byte-ne10 : goal.returns-then-byte-ne10
returns-then-byte-ne10 c before is =
    rw c.state_within.ensures (size_goes c.args.line.now before c.args.byte is (λ unfinished. IsUnfinished-more size_form before (c.args.byte ∷ []) unfinished (c.if-byte-ne10.true, tt)))

pub returns-in-Ok-Complete : goal.returns-in-Ok-Complete
returns-in-Ok-Complete c before is =
    let found = rw c.in-Ok-Complete.field-0-is at c.in-Ok-Complete.ensures in
    let line = found.complete in
    rw (c.behind_size_line.ensures, line.1.size_is)
    (size_found before c.args.byte line.0 (drop c.in-Ok-Complete.field-0-0-0 c.args.line.now)
    (subst (λ (x : List ℕ). ReadsChunkLine x line.0 (drop c.in-Ok-Complete.field-0-0-0 c.args.line.now)) is line.1.reads))

pub returns-in-Ok-Partial : goal.returns-in-Ok-Partial
returns-in-Ok-Partial c before is =
    let found = rw c.in-Ok-Partial.field-0-is at c.in-Ok-Partial.ensures in
    rw c.state_within-in-Ok-Partial.ensures (size_goes c.args.line.now before c.args.byte is (λ _. open_size c.args.line.now before c.args.byte is found.partial found.unfinished))
