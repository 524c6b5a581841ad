-- A node that was loaded is ready to turn.
use Rattle.std.proofs.Common.{◌≡◌, ◌≤◌, ◌∙◌, ℕ, Bool, Option, List, [], length, refl, sym, ap, ap₂, subst}
use Rattle.std.specs.Prelude.{IfSome}
use Rattle.std.specs.List.{AllByRecursion}
use Rattle.oc_config.specs.Reading.{IsConfig}
use Rattle.oc_config.specs.Settings.{Settings}
use Rattle.oc_io.specs.DiskView.{DiskView}
use Rattle.oc_keep.specs.Files.{AreHonest, Disks, disks_in}
use Rattle.oc_keep.specs.KeptView.{KeptView, disks_of, node_of}
use Rattle.oc_keep.specs.Promises.{IsNodeOf, LoadsSafely}
use Rattle.oc_model.specs.Node.{Header, Node}
use Rattle.oc_model.specs.declared.message.Message.{Message}
use Rattle.oc_policy.specs.declared.deciding.TheConstants.{MAX_RULES}
use Rattle.oc_probe.specs.declared.probing.Probing.{Probing}
use Rattle.oc_deeds.specs.Lawful.{IsMadeFor}
use Rattle.oc_server.specs.Lawful.{IsReady}
use Rattle.oc_deeds.specs.Pace.{first_pace, most_interval}
use Rattle.oc_deeds.specs.Records.{is_record}
use Rattle.oc_deeds.specs.Lawful.{IsLawfulDial, IsLawfulWork, IsPlaced}
use Rattle.oc_server.specs.Scenes.{IsServing}
use Rattle.oc_deeds.specs.Sending.{AreSendable}
use Rattle.oc_deeds.specs.declared.dials.Dialling.{Dialling}
use Rattle.oc_deeds.specs.declared.pace.Pace.{Pace}
use Rattle.oc_server.specs.declared.turns.Turns.{Turns}
use Rattle.oc_routes.specs.Sights.{about_of}
use Rattle.oc_routes.specs.declared.about.About.{About}
use Rattle.oc_routes.specs.Tallies.{TallyView, first_tally}
use Rattle.oc_deeds.specs.declared.work.Work.{Work}
use Rattle.oc_service.specs.Loading.{IsLoaded}
use Rattle.oc_service.specs.OnSite.{header_by, header_for, machine_on, probing_at_first}
use Rattle.oc_service.specs.Running.{machine}
use Rattle.oc_service.specs.WhatNodeDoes.{at_first, node_at_first}
use Rattle.oc_service.specs.declared.running.Task.{Task}
use Rattle.oc_service.specs.declared.site.Site.{Site}
use Rattle.oc_server.proofs.Places.{placed}
use Rattle.oc_deeds.specs.Areas.{areas_among}
use Rattle.oc_deeds.specs.declared.log.Log.{Log}
use Rattle.oc_service.proofs.Headers.{areas_are, ids_within}
use Rattle.oc_service.proofs.Machines.{machine_of}

module _ {D L K : Type 0} (view : D → DiskView) (c : Settings) (me : ℕ) (log : Log) (probes : Bool) (site : Site D L K) (turns : Turns D L K) (lawful : IsConfig c)
    (node : IsNodeOf view (header_by (is_record log) c) me (disks_in site.files) turns.server.kept)
    (safely : LoadsSafely view (header_by (is_record log) c) me (disks_in site.files) (disks_of turns.server.kept))
    (outbox : turns.server.outbox ≡ []) (works : turns.server.works ≡ []) (dials : turns.server.dials ≡ [])
    (made : IfSome turns.probing (IsMadeFor (header_by (is_record log) c).nodes))
    (config : turns.server.config ≡ c) (logs : turns.server.log ≡ log) where
  abbrev nodes : ℕ
  nodes = turns.server.kept.node.control.nodes

  nodes_are : nodes ≡ (header_by (is_record log) c).nodes
  nodes_are = ap (λ (h : Header). h.nodes) node.header

  serving : IsServing turns.server
  serving = record {
    is_open = node.unclosed;
    set = record {
      placed = subst (λ (n : ℕ). IsPlaced n turns.server.config.addresses) (sym nodes_are)
          (subst (λ (x : Settings). IsPlaced (header_by (is_record log) c).nodes x.addresses) (sym config) (placed (header_by (is_record log) c).nodes c lawful (ids_within (is_record log) c lawful)));
      rules = subst (λ (x : Settings). length x.rules ≤ MAX_RULES) (sym config) lawful.rules;
      areas = ap (λ (h : Header). h.areas) node.header ∙ sym (areas_are (is_record log) c lawful) ∙ ap₂ (λ (n : ℕ) (x : Settings). areas_among n x.areas) (sym nodes_are) (sym config);
      roomy = λ unrecorded. nodes_are ∙ ap (λ (b : Bool). (header_by b c).nodes) (sym (ap is_record logs) ∙ unrecorded);
    };
    lawful = record {
      sendable = subst (λ (ms : List Message). AreSendable nodes ms) (sym outbox) refl;
      works = subst (λ (ws : List Work). AllByRecursion (IsLawfulWork nodes turns.server.kept.node.control.me) ws) (sym works) tt;
      dials = subst (λ (ds : List Dialling). AllByRecursion (IsLawfulDial nodes) ds) (sym dials) tt;
    };
  }

  pub ready : IsReady turns
  ready = record { serving = serving; probing = subst (λ (n : ℕ). IfSome turns.probing (IsMadeFor n)) (sym nodes_are) made }

-- the machine of the node's deeds is that of the node that was loaded
pub loaded_machine : {D L K : Type 0} (view : D → DiskView) (c : Settings) (task : Task) (site : Site D L K) (turns : Turns D L K) → IsLoaded view c task site turns → AreHonest view (disks_in site.files)
    → machine turns ≡ machine_on view c task (disks_in site.files)
loaded_machine view c task site turns loaded honest =
    let nodes_are : turns.server.kept.node.control.nodes ≡ (header_for task c).nodes = ap (λ (h : Header). h.nodes) loaded.node.header in
    ap (λ (ms : List Message). machine_of (record { node = node_of turns.server.kept; outbox = ms; works = turns.server.works; dials = turns.server.dials; config = turns.server.config; tally = turns.server.tally; about = about_of turns.server.about }) turns.pace turns.probing turns.reading) loaded.outbox
    ∙ ap (λ (ws : List Work). machine_of (record { node = node_of turns.server.kept; outbox = []; works = ws; dials = turns.server.dials; config = turns.server.config; tally = turns.server.tally; about = about_of turns.server.about }) turns.pace turns.probing turns.reading) loaded.works
    ∙ ap (λ (ds : List Dialling). machine_of (record { node = node_of turns.server.kept; outbox = []; works = []; dials = ds; config = turns.server.config; tally = turns.server.tally; about = about_of turns.server.about }) turns.pace turns.probing turns.reading) loaded.dials
    ∙ ap (λ (t : TallyView). machine_of (record { node = node_of turns.server.kept; outbox = []; works = []; dials = []; config = turns.server.config; tally = t; about = about_of turns.server.about }) turns.pace turns.probing turns.reading) (loaded.tally ∙ sym (ap first_tally nodes_are))
    ∙ ap (λ (x : Settings). machine_of (node_at_first x (about_of turns.server.about) (node_of turns.server.kept)) turns.pace turns.probing turns.reading) loaded.config
    ∙ ap (λ (x : About). machine_of (node_at_first c (about_of x) (node_of turns.server.kept)) turns.pace turns.probing turns.reading) loaded.about
    ∙ ap (λ (p : Pace). machine_of (node_at_first c (about_of task.about) (node_of turns.server.kept)) p turns.probing turns.reading) loaded.pace
    ∙ ap (λ (last : Option (List ℕ)). machine_of (node_at_first c (about_of task.about) (node_of turns.server.kept)) (first_pace (is_record task.log) (most_interval task.probes task.me)) turns.probing last) loaded.reading
    ∙ ap (λ (p : Option Probing). at_first (is_record task.log) (most_interval task.probes task.me) p task.text (node_at_first c (about_of task.about) (node_of turns.server.kept))) loaded.probing
    ∙ ap (λ (n : Node). at_first (is_record task.log) (most_interval task.probes task.me) (probing_at_first task.probes (header_for task c).nodes task.me c.addresses) task.text (node_at_first c (about_of task.about) n)) (loaded.node.node honest)
