use Rattle.std.proofs.Common.{◌≡◌, Bool, length, refl, sym, ap, subst, ◌∙◌, arith}
use Rattle.oc_config.specs.Settings.{Settings}
use Rattle.oc_keep.specs.Files.{disks_in}
use Rattle.oc_keep.specs.KeptView.{disks_of}
use Rattle.oc_keep.specs.Promises.{IsNodeOf, LoadsSafely}
use Rattle.oc_deeds.specs.Pace.{first_pace}
use Rattle.oc_deeds.specs.Records.{is_record}
use Rattle.oc_service.specs.OnSite.{header_for}
use Rattle.oc_model.specs.Node.{Header}
use Rattle.oc_service.proofs.Headers.{areas_count, lawful_header, settings_header}
use Rattle.oc_service.proofs.Loaded.{ready}
use Rattle.oc_keep.proofs.Safely.{safely_same}
use Rattle.oc_service.proofs.loading.load.Goals as goal

pub returns-in-Err-clause-unloaded : goal.returns-in-Err-clause-unloaded
returns-in-Err-clause-unloaded g c = record {
  refuses = tt;
  safely = safely_same g.D.Disk.view g.met.D.Disk.consistent (header_for c.args.task c.args.config) c.args.task.me (disks_in c.args.site.files);
  link = refl;
  sink = refl;
}

pub returns-in-Ok-load_among-clause-loaded : goal.returns-in-Ok-load_among-clause-loaded
returns-in-Ok-load_among-clause-loaded g c =
    let s = c.args.config in
    let recorded = is_record c.args.task.log in
    let same = settings_header recorded s c.room_for.result c.config.inside.chain c.chunk.result c.in-Ok.equipment.areas.items c.room_for.ensures.room (ap (λ (x : Settings). x.chain) c.config.view_is) c.chunk.ensures c.in-Ok.ensures.same in
    let node = subst (λ (h : Header). IsNodeOf g.D.Disk.view h c.args.task.me (disks_in c.args.site.files) c.in-Ok-load_among.kept) same c.in-Ok-load_among.ensures.loaded in
    let safely = subst (λ (h : Header). LoadsSafely g.D.Disk.view h c.args.task.me (disks_in c.args.site.files) (disks_of c.in-Ok-load_among.kept)) same c.in-Ok-load_among.ensures.safely in
    record {
      ready = ready g.D.Disk.view s c.args.task.me c.args.task.log c.args.task.probes c.args.site _ c.requires.config node safely c.in-Ok.ensures.empty c.new.ensures c.new-in-Ok-load_among.ensures c.in-Ok.ensures.made refl refl;
      node = node;
      safely = safely;
      outbox = c.in-Ok.ensures.empty;
      tally = c.in-Ok.ensures.uncounted;
      works = c.new.ensures;
      dials = c.new-in-Ok-load_among.ensures;
      pace = c.new-in-Ok-load_among-2.ensures ∙ ap (λ (whole : Bool). first_pace whole c.most_interval.result) c.is_record.ensures ∙ ap (first_pace (is_record c.args.task.log)) c.most_interval.ensures;
      probing = c.in-Ok.ensures.first;
      reading = refl;
      config = refl;
      log = refl;
      about = refl;
      link = refl;
      sink = refl;
    }

pub load_among-requires-clause-header : goal.load_among-requires-clause-header
load_among-requires-clause-header g c =
    let s = c.args.config in
    let recorded = is_record c.args.task.log in
    let chain : c.config.inside.chain ≡ s.chain = ap (λ (x : Settings). x.chain) c.config.view_is in
    let many : length c.in-Ok.equipment.areas.items ≡ c.room_for.result = areas_count recorded s c.requires.config c.in-Ok.equipment.areas.items c.in-Ok.ensures.same ∙ sym c.room_for.ensures.room in
    rw (chain, c.chunk.ensures) (lawful_header recorded s c.requires.config c.room_for.result c.in-Ok.equipment.areas.items c.room_for.ensures.room many c.in-Ok.ensures.bytes)

pub load_among-requires-clause-id : goal.load_among-requires-clause-id
load_among-requires-clause-id g c =
    (c.requires.me.0, omega (arith, c.requires.me.1, c.room_for.ensures.within))

pub load_among-requires-clause-ids : goal.load_among-requires-clause-ids
load_among-requires-clause-ids g c =
    omega (arith, c.nodes_of-ids.ensures, c.room_for.ensures.within)
