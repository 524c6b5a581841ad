use Rattle.oc_http.proofs.Written.{written_says, written_read}
use Rattle.oc_http.proofs.law.a_written_request_is_read.Goals as goal

pub returns-clause-says : goal.returns-clause-says
returns-clause-says c = written_says

pub returns-clause-read : goal.returns-clause-read
returns-clause-read c = written_read
