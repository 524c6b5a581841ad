use Rattle.std.proofs.Common.{Ok, subst, sym, arith}
use Rattle.oc_wire.specs.Requests.{Brings}
use Rattle.oc_wire.specs.Macs.{mac_for}
use Rattle.oc_wire.specs.Spelling.{spelling}
use Rattle.oc_wire.proofs.Authentic.{some_is_mac}
use Rattle.oc_wire.proofs.MessageReads.{is_read, is_its_spelling}
use Rattle.oc_wire.proofs.OneAnswer.{brings, is_given}
use Rattle.oc_wire.proofs.Sizes.{fits_a_request}
use Rattle.oc_wire.proofs.http.from_http.Goals as goal

pub returns-clause-again : goal.returns-clause-again
returns-clause-again c = λ key host m few is_host lawful e.
    let mac = mac_for key (spelling m) in
    let made = some_is_mac key (spelling m) c.macs_are_digits.ensures.count c.macs_are_digits.ensures.digits in
    let says = c.a_written_request_is_read.ensures.says mac host _ made is_host (fits_a_request c.args.nodes m few lawful) in
    let reads = is_read c.args.nodes (spelling m) m (omega (arith, few)) (is_its_spelling c.args.nodes m few lawful) in
    let there = brings c.args.nodes mac host m says reads in
    is_given c.requests_have_one_answer.ensures c.args.nodes c.args.bytes.now c.message_in.result m c.message_in.ensures (subst (λ bytes. Brings c.args.nodes bytes (Ok m)) (sym e) there)
