use Rattle.oc_routes.proofs.LineLaws.{condition_is, no_group_is, nowhere_is, past_is, publish_is, range_is, refused_is, seal_is}
use Rattle.oc_routes.proofs.law.a_refusal_is_one_line.Goals as goal

pub returns : goal.returns
returns c = record {
  refused = refused_is;
  publish = publish_is;
  seal = seal_is;
  absent = no_group_is;
  nowhere = nowhere_is;
  past = past_is;
  condition = condition_is;
  range = range_is;
}
