use Rattle.std.proofs.Common.{Some, None, lit<}
use Rattle.std.proofs.lemmas.Str.Pattern.{split_parts}
use Rattle.oc_client.proofs.Parts.{parts_first, parts_last}
use Rattle.oc_client.proofs.query.first_part.Goals as goal

pub returns-in-Some-clause-first : goal.returns-in-Some-clause-first
returns-in-Some-clause-first c =
    let split = split_parts 38 c.args.query.now (Some (c.in-Some.part, c.in-Some.rest)) c.in-Some.ensures.cases (lit< tt) in
    parts_first c.args.query.now c.in-Some.part.now c.in-Some.rest.now split.0 split.1

pub returns-in-None-clause-last : goal.returns-in-None-clause-last
returns-in-None-clause-last c =
    parts_last c.args.query.now (split_parts 38 c.args.query.now None c.in-None.ensures.cases (lit< tt))
