use Rattle.std.proofs.Common.{◌∙◌, rules}
use Rattle.oc_server.proofs.Looking.{looked}
use Rattle.oc_server.proofs.Pieces.{no_piece}
use Rattle.oc_server.proofs.Turned.{read_stops}
use Rattle.oc_server.proofs.giving.read_piece.Goals as goal

pub returns-in-Ok-clause-looks : goal.returns-in-Ok-clause-looks
returns-in-Ok-clause-looks g c =
    let t = c.in-Ok.ensures in
    looked g.D.Disk.view c.args.kept.now c.read.new.self c.requires (t.stays_open (λ e. absurd cc) ∙ c.requires) t.same

pub returns-in-Err-NoGroup-clause-looks : goal.returns-in-Err-NoGroup-clause-looks
returns-in-Err-NoGroup-clause-looks g c =
    let t = c.in-Err-NoGroup.ensures in
    looked g.D.Disk.view c.args.kept.now c.read.new.self c.requires (t.stays_open (λ e. absurd cc) ∙ c.requires) t.same

pub returns-in-Err-NoGroup-clause-bytes : goal.returns-in-Err-NoGroup-clause-bytes
returns-in-Err-NoGroup-clause-bytes g c = λ honest.
    no_piece g.D.Disk.view c.args.kept.now c.args.group.now c.args.at _ c.args.kept.now.content.shelves (λ same. search rules) (search rules) honest

pub returns-in-Err-Disk-clause-stops : goal.returns-in-Err-Disk-clause-stops
returns-in-Err-Disk-clause-stops g c =
    let t = c.in-Err-Disk.ensures in
    read_stops g.D.Disk.view (λ x h. g.met.D.Disk.consistent x h) c.args.kept.now c.read.new.self c.requires t.same (t.disk (search rules))
