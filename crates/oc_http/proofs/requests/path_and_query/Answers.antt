-- The texts are the parts of the target.
use Rattle.oc_http.proofs.requests.path_and_query.Goals as goal

pub returns : goal.returns
returns c = (rw (c.in_ok-path.ensures, c.path_and_query.ensures.path), rw (c.in_ok-copy.ensures, c.path_and_query.ensures.query))
