use Rattle.oc_http.proofs.PathTexts.{read_again}
use Rattle.oc_http.proofs.PathTargets.{target_read_again}
use Rattle.oc_http.proofs.law.a_written_path_is_read.Goals as goal

pub returns-clause-path : goal.returns-clause-path
returns-clause-path c = read_again

pub returns-clause-target : goal.returns-clause-target
returns-clause-target c = target_read_again
