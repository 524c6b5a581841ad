use Rattle.std.proofs.Common.{codes, sym, ◌∙◌}
use Rattle.std.proofs.lemmas.Bool.Decides.{Decides-eqb}
use Rattle.std.proofs.lemmas.Slice.Eq.{strip_prefix_is}
use Rattle.oc_policy.proofs.Within.{starts-with_prefix, starts-without_prefix}
use Rattle.oc_policy.proofs.prefix.begins_with_segments.Goals as goal

pub returns-in-Some : goal.returns-in-Some
returns-in-Some c =
    let said = strip_prefix_is Decides-eqb c.args.name.now c.args.prefix.now c.strip_prefix.result c.strip_prefix.ensures.cases in
    let split = rw c.in-Some.is at said in
    c.begins_with_slash.ensures ∙ starts-with_prefix c.args.name.now c.args.prefix.now c.in-Some.rest.now split

pub returns-in-None : goal.returns-in-None
returns-in-None c =
    let said = strip_prefix_is Decides-eqb c.args.name.now c.args.prefix.now c.strip_prefix.result c.strip_prefix.ensures.cases in
    let none = rw c.in-None.is at said in
    sym (starts-without_prefix c.args.name.now c.args.prefix.now (codes "/") none)
