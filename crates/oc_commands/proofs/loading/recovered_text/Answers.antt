use Rattle.std.proofs.Common.{ap, subst, rules}
use Rattle.std.proofs.lemmas.Result.{IfErr-weaker, IfOk-weaker}
use Rattle.oc_schedule.specs.Lines.{header_without_areas}
use Rattle.oc_keep.specs.Errors.{cause_of}
use Rattle.oc_keep.specs.Files.{disks_in}
use Rattle.oc_keep.specs.KeptView.{header}
use Rattle.oc_keep.specs.Promises.{IsNodeOf}
use Rattle.oc_keep.proofs.Complete.{only_memory}
use Rattle.oc_commands.proofs.Headers.{lawful_header}
use Rattle.oc_commands.proofs.Shown.{shown}
use Rattle.oc_keep.proofs.Safely.{safely_same}
use Rattle.oc_commands.proofs.loading.recovered_text.Goals as goal

pub returns-in-Err-clause-safely : goal.returns-in-Err-clause-safely
returns-in-Err-clause-safely g c =
    safely_same g.D.Disk.view g.met.D.Disk.consistent (header_without_areas c.args.sizes) c.args.id (disks_in c.args.files)

pub load-requires-clause-header : goal.load-requires-clause-header
load-requires-clause-header g c =
    lawful_header c.args.sizes c.in-Ok.areas.items c.in-Ok.ensures c.requires.sizes

pub returns-in-Ok-load-clause-shows : goal.returns-in-Ok-load-clause-shows
returns-in-Ok-load-clause-shows g c =
    let n = c.args.sizes in
    let h = header_without_areas n in
    let d = disks_in c.args.files in
    let loaded : IsNodeOf g.D.Disk.view h c.args.id d c.in-Ok-load.kept = subst (λ areas. IsNodeOf g.D.Disk.view (header n.nodes n.chain n.chunk areas) c.args.id d c.in-Ok-load.kept) c.in-Ok.ensures c.in-Ok-load.ensures.loaded in
    let groups = c.text_of-text.ensures.groups in
    IfOk-weaker c.text_of-text.result _ _ (λ text is. shown g.D.Disk.view h c.args.id d c.in-Ok-load.kept loaded (search rules) groups text.items is) c.text_of-text.ensures.text

pub returns-in-Ok-load-clause-complete : goal.returns-in-Ok-load-clause-complete
returns-in-Ok-load-clause-complete g c =
    IfErr-weaker c.text_of-text.result _ _ (λ error memory honest files sound. ap cause_of memory) c.text_of-text.ensures.memory

pub returns-in-Err-load-clause-complete : goal.returns-in-Err-load-clause-complete
returns-in-Err-load-clause-complete g c = λ honest files sound. only_memory g.D.Disk.view c.args.sizes.nodes _ _ honest files sound _ c.in-Err-load.ensures.refuses
