use Rattle.oc_store.specs.declared.errors.Side.TheVariants.{First, Second}
use Rattle.oc_store.proofs.Refusals.{refused_memory}
use Rattle.oc_store.proofs.store.Store.load.Goals as goal

-- the first file was refused
pub returns-in-Err-clause-works : goal.returns-in-Err-clause-works
returns-in-Err-clause-works g c = λ sure_a sure_b good_a good_b.
    let a = g.D.Disk.view c.args.first in
    let b = g.D.Disk.view c.args.second in
    let a2 = g.D.Disk.view c.in-Err.first in
    refused_memory c.args.nodes a b a2 b First c.in-Err.cause c.in-Err.ensures.refuses sure_a sure_b (g.met.D.Disk.reliable_keeps c.args.first sure_a).honest (g.met.D.Disk.reliable_keeps c.args.second sure_b).honest good_a good_b

-- the first file was good, and the second refused
pub returns-in-Err-load_file-clause-refuses : goal.returns-in-Err-load_file-clause-refuses
returns-in-Err-load_file-clause-refuses g c = (c.in-Ok.ensures.good, c.in-Err-load_file.ensures.refuses)

pub returns-in-Err-load_file-clause-works : goal.returns-in-Err-load_file-clause-works
returns-in-Err-load_file-clause-works g c = λ sure_a sure_b good_a good_b.
    let a = g.D.Disk.view c.args.first in
    let b = g.D.Disk.view c.args.second in
    let b2 = g.D.Disk.view c.in-Err-load_file.second in
    refused_memory c.args.nodes a b a b2 Second c.in-Err-load_file.cause (c.in-Ok.ensures.good, c.in-Err-load_file.ensures.refuses) sure_a sure_b (g.met.D.Disk.reliable_keeps c.args.first sure_a).honest (g.met.D.Disk.reliable_keeps c.args.second sure_b).honest good_a good_b
