-- The step at each byte of the trailer fields.
use Rattle.std.proofs.Common.{ℕ, [], ◌∷◌, length, ap, Result, Err}
use Rattle.httparse.specs.declared.Error.{Error}
use Rattle.httparse.specs.declared.Status.{Status}
use Rattle.oc_http.proofs.Heads.{IsUnfinished-more}
use Rattle.oc_chunked.proofs.Forms.{fields_form}
use Rattle.oc_chunked.proofs.LineAnswers.{trailer_goes, open_trailer, refused_trailer, found_trailer}
use Rattle.oc_chunked.proofs.lines.behind_trailer.Goals as goal

pub returns-then-byte-ne10 : goal.returns-then-byte-ne10
returns-then-byte-ne10 c before is =
    rw c.state_within.ensures (trailer_goes c.args.line.now before c.args.byte is (λ unfinished. IsUnfinished-more fields_form before (c.args.byte ∷ []) unfinished (c.if-byte-ne10.true, tt)))

pub returns-in-Ok-Complete : goal.returns-in-Ok-Complete
returns-in-Ok-Complete c before is =
    let found = rw c.in-Ok-Complete.field-0-is at c.in-Ok-Complete.ensures in
    rw c.behind_fields.ensures (found_trailer c.args.line.now before c.args.byte c.in-Ok-Complete.field-0-0-0 c.in-Ok-Complete.count c.parse_headers.new.headers is found.within found.complete)

pub returns-in-Ok-Partial : goal.returns-in-Ok-Partial
returns-in-Ok-Partial c before is =
    let found = rw c.in-Ok-Partial.field-0-is at c.in-Ok-Partial.ensures in
    rw c.state_within-in-Ok-Partial.ensures (trailer_goes c.args.line.now before c.args.byte is (λ _. open_trailer c.args.line.now before c.args.byte is found.partial found.unfinished))

pub returns-in-Err : goal.returns-in-Err
returns-in-Err c before is =
    let failed = λ (e : Error). let r : Result (Status (ℕ × ℕ)) Error = Err e in r in
    refused_trailer c.args.line.now before c.args.byte (length c.args.spans.now) c.in-Err.field-0 is c.if-byte-ne10.false c.requires c.in-Err.ensures.invalid (λ same. c.in-Err.ensures.too_many (ap failed same))
