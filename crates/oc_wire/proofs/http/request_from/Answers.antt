use Rattle.std.proofs.Common.{[], refl, arith}
use Rattle.std.proofs.lemmas.Result.{err_from_is_err_and}
use Rattle.oc_wire.proofs.RequestReads.{over_is, head_read, head_refused, body_read, body_refused}
use Rattle.oc_wire.proofs.http.request_from.Goals as goal

pub returns-in_err-head : goal.returns-in_err-head
returns-in_err-head c bytes new =
    let p = err_from_is_err_and c.from_residual.result c.from_residual.ensures.1 in
    let over = over_is bytes bytes [] c.args.source.now refl refl new in
    rw (p.1, p.2) (head_refused bytes c.args.source.now c.read_head.new.source _ over c.in_err-head.ensures.refused)

pub returns-in_err-body : goal.returns-in_err-body
returns-in_err-body c bytes new =
    let p = err_from_is_err_and c.from_residual-in_err-body.result c.from_residual-in_err-body.ensures.1 in
    let over = over_is bytes bytes [] c.args.source.now refl refl new in
    let read = c.in_ok-head.ensures.read in
    let head = head_read bytes c.args.source.now c.read_head.new.source _ over read.0 read.1 read.2 in
    rw (p.1, p.2) (body_refused bytes c.read_head.new.source c.read_body.new.source _ _ head.0 head.1 c.in_err-body.ensures.refused)

pub returns : goal.returns
returns c bytes new =
    let over = over_is bytes bytes [] c.args.source.now refl refl new in
    let read = c.in_ok-head.ensures.read in
    let head = head_read bytes c.args.source.now c.read_head.new.source _ over read.0 read.1 read.2 in
    body_read bytes c.read_head.new.source c.read_body.new.source _ _ head.0 c.in_ok-body.ensures.gives (omega (arith, c.in_ok-body.ensures.whole))
