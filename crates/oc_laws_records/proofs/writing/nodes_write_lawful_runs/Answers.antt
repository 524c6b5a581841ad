use Rattle.oc_laws_records.proofs.Taken.{cut_run, whole_run}
use Rattle.oc_laws_records.proofs.writing.nodes_write_lawful_runs.Goals as goal

pub returns-clause-whole : goal.returns-clause-whole
returns-clause-whole g c = λ s task deeds old new link after sink written node log honest did.
    whole_run g.D.Disk.view g.L.Link.story g.L.Link.counts g.K.Sink.takes g.K.Sink.fails s task old new link after sink written node log honest deeds did

pub returns-clause-cut : goal.returns-clause-cut
returns-clause-cut g c = λ s task end d ds under old new link after sink written node log honest stopped.
    cut_run g.D.Disk.view g.L.Link.story g.L.Link.counts g.K.Sink.takes g.K.Sink.fails s task old new link after sink written node log honest end d ds under stopped
