use Rattle.oc_journal.proofs.Loads.{indexed-end, indexed-images}
use Rattle.oc_journal.proofs.journal.Journal.into_disk.Goals as goal

pub returns-clause-holds : goal.returns-clause-holds
returns-clause-holds g c =
    let j = c.self.inside in
    let v = g.D.Disk.view j.disk in
    rw (← c.self.view_is) (λ is_open honest. record {
      images = indexed-images v j.extents.items j.end j.closed c.self.invariant is_open honest;
      end = indexed-end v j.extents.items j.end j.closed c.self.invariant is_open honest;
    })
