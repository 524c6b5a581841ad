use Rattle.std.proofs.Common.{refl, arith}
use Rattle.oc_content.specs.declared.track.Span.{Span}
use Rattle.oc_content.specs.declared.track.Found.{Found}
use Rattle.oc_content.proofs.Halving.{found_none, found_some, spans_ascend}
use Rattle.oc_content.proofs.track.find_byte.Goals as goal

-- a span at no place
abbrev nowhere : Span
nowhere = record { frame = 0; start = 0; skip = 0 }

pub returns-in_err-span-clause-found : goal.returns-in_err-span-clause-found
returns-in_err-span-clause-found c = λ bodies k tracked within.
    absurd (found_none bodies k c.args.spans.now c.args.start tracked within c.in_err-span.ensures)

pub returns-in_err-skip-clause-found : goal.returns-in_err-skip-clause-found
returns-in_err-skip-clause-found c = λ bodies k tracked within.
    let spans = c.args.spans.now in
    let part = c.in_ok-span.ensures.1 (spans_ascend bodies k.name 0 spans tracked.spans) in
    absurd (c.in_err-skip.ensures (part.0 c.in_ok-span.span nowhere (omega arith) (omega arith)))

pub returns-clause-found : goal.returns-clause-found
returns-clause-found c = λ bodies k tracked within.
    let spans = c.args.spans.now in
    let found : Found = record { span = c.in_ok-span.span; skip = c.in_ok-skip.skip } in
    found_some bodies k spans c.args.start c.in_ok-span.span found nowhere tracked within c.in_ok-span.ensures refl (omega (arith, c.in_ok-skip.ensures.0, c.in_ok-skip.ensures.1))
