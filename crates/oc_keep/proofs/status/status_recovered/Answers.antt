use Rattle.oc_keep.proofs.status.status_recovered.Goals as goal

pub returns : goal.returns
returns g c = c.status_of.ensures
