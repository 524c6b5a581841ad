use Rattle.std.proofs.Common.{List, ℕ, ap, sym, subst, ◌∙◌, arith}
use Rattle.oc_http.specs.Writing.{IsHost, request_text}
use Rattle.oc_wire.specs.Spelling.{spelling}
use Rattle.oc_world.proofs.ReadBack.{good_host}
use Rattle.oc_world.proofs.texts.text_of.Goals as goal

pub to_http-requires-clause-body : goal.to_http-requires-clause-body
to_http-requires-clause-body c = (c.spellings_are_read.ensures.spelled c.args.nodes c.args.message.now c.requires.few c.requires.lawful).fits

pub to_http-requires-clause-host : goal.to_http-requires-clause-host
to_http-requires-clause-host c =
    let is = c.as_str.ensures.value ∙ c.in_ok-host.ensures in
    subst IsHost (sym is) (good_host c.args.message.now.to (omega (arith, c.requires.few, c.requires.lawful.to.1)))

pub returns : goal.returns
returns c =
    let is = c.as_str.ensures.value ∙ c.in_ok-host.ensures in
    c.in_ok-text.ensures ∙ ap (λ (h : List ℕ). request_text h (spelling c.args.message.now)) is
