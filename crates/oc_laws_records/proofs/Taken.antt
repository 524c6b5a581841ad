-- The record that a node writes is the text of a lawful run.
use Rattle.std.proofs.Common.{◌≡◌, ◌∙◌, ℕ, Bool, true, false, IfSome, Option, Some, None, List, [], ◌∷◌, ◌++◌, refl, sym, ap, subst, arith, codes, append-nil, length}
use Rattle.std.specs.List.{AllByRecursion}
use Rattle.oc_base.proofs.Each.{all_append}
use Rattle.oc_base.specs.Groups.{shelf}
use Rattle.oc_base.specs.Lawful.{IsNode}
use Rattle.oc_config.specs.Settings.{Settings}
use Rattle.oc_io.specs.DiskView.{DiskView}
use Rattle.oc_keep.specs.Files.{Disks, AreHonest}
use Rattle.oc_keep.specs.KeptView.{header_of}
use Rattle.oc_keep.specs.Trials.{first_node}
use Rattle.oc_link.specs.declared.call.Call.{Call}
use Rattle.oc_link.specs.declared.counts.LinkCounts.{LinkCounts}
use Rattle.oc_model.specs.declared.input.Input.{Input}
use Rattle.oc_model.specs.declared.input.Input.TheVariants as inputs
use Rattle.oc_model.specs.Node.{Header, Node}
use Rattle.oc_deeds.specs.Brief.{told_first}
use Rattle.oc_deeds.specs.Deeds.{Accepts, Deed, Drops, Notes, Refuses, Says, Setting, Takes, inputs_of, lines, with_input}
use Rattle.oc_deeds.specs.Recorded.{IsNext, IsRecorded, IsRecordOf, RecordLine, inputs_in, line_of_next, record_lines, record_text}
use Rattle.oc_deeds.specs.Under.{Under}
use Rattle.oc_deeds.specs.Within.{IsWithin}
use Rattle.oc_deeds.specs.declared.ends.TurnEnd.{TurnEnd}
use Rattle.oc_deeds.specs.Records.{is_record, record_head}
use Rattle.oc_deeds.specs.declared.log.Log.{Log}
use Rattle.oc_deeds.specs.declared.log.Log.TheVariants.{Record}
use Rattle.oc_deeds.specs.Turns.{terms_in}
use Rattle.oc_service.specs.OnSite.{DidOn, StoppedOn, header_by, header_for, heard_before, machine_on, setting_of}
use Rattle.oc_service.specs.WhatNodeDoes.{Machine, begun, own_measures, turns_deeds, machine_after}
use Rattle.oc_service.specs.WhatNodeHears.{all_calls_after}
use Rattle.oc_service.specs.declared.running.Task.{Task}
use Rattle.oc_routes.specs.Refusals.{why_text}
use Rattle.oc_laws_records.specs.Kinds.{ArePlain, IsOfRecord}
use Rattle.oc_laws_records.specs.Lawful.{IsLine, IsRun, IsTaken}
use Rattle.oc_laws_records.specs.Runs.{Run, run_text}
use Rattle.oc_laws_records.specs.Written.{IsCutRunOf, IsLawfulRunOf}
use Rattle.oc_laws_records.proofs.OneLine.{letters_one, why_one}
use Rattle.oc_laws_records.proofs.Plain.{front_plain, node_plain}
use Rattle.oc_laws_records.proofs.SpellingBytes.{spelled_bytes}
use Rattle.oc_laws_records.proofs.Written.{inputs_append, next_inputs}

module _ (nodes me : ℕ) where
  -- Inputs

  -- an input within its ranges, of a kind that records have, can be told by a line of a run
  taken_within : (i : Input) → IsWithin nodes me i → IsOfRecord i → IsTaken nodes me i
  taken_within (inputs.Tick t) within kind = (refl, kind, tt)
  taken_within inputs.CheckNow within kind = absurd kind
  taken_within (inputs.Relocate p) within kind = absurd kind
  taken_within (inputs.Unreachable p) within kind = (refl, within.lawful, tt)
  taken_within (inputs.Pull p) within kind = absurd kind
  taken_within (inputs.Measured p rate hops) within kind = (refl, within.lawful, tt)
  taken_within (inputs.Publish group bytes) within kind = (refl, within.lawful, within.bytes)
  taken_within (inputs.Seal group) within kind = (refl, within.lawful, tt)
  taken_within (inputs.Client area start group) within kind = (refl, within.lawful, tt)
  taken_within (inputs.Delivered m) within kind = (within.lawful, spelled_bytes nodes m within.lawful.0 within.bytes)

  -- Lines

  dropped : (told : Bool) (ds : List Deed) → AllByRecursion (IsLine nodes me) (record_lines ds) → AllByRecursion (IsLine nodes me) (record_lines (Drops 0 told ∷ ds))
  dropped true ds rest = ((codes "write", refl, letters_one (codes "write") refl), rest)
  dropped false ds rest = rest

  lines_of : (ds : List Deed) → AllByRecursion (IsWithin nodes me) (inputs_of ds) → ArePlain ds → AllByRecursion (IsLine nodes me) (record_lines ds)
  lines_of [] within plain = tt
  lines_of (Takes i ∷ ds) within plain = (taken_within i within.0 plain.0, lines_of ds within.1 plain.1)
  lines_of (Accepts i ∷ ds) within plain = (taken_within i within.0 plain.0, lines_of ds within.1 plain.1)
  lines_of (Notes why ∷ ds) within plain = ((why, refl, plain.0), lines_of ds within plain.1)
  lines_of (Refuses c count refusal ∷ ds) within plain = ((why_text refusal.why, refl, why_one refusal.why), lines_of ds within plain.1)
  lines_of (Drops c told ∷ ds) within plain = dropped told ds (lines_of ds within plain.1)
  lines_of (d ∷ ds) within plain = lines_of ds within plain.1

  next_line : (next : Option Input) → IfSome next (IsTaken nodes me) → AllByRecursion (IsLine nodes me) (line_of_next next)
  next_line None is = tt
  next_line (Some i) is = (is, tt)

-- a node of a network, with the lines of its deeds
module _ (h : Header) (s : Setting) (n : Node) (me : s.me ≡ n.control.me) (network : header_of n.control ≡ h) (node : IsNode h.nodes s.me) where
  abbrev run_of : List Deed → Option Input → Run
  run_of ds next = record { node = n; lines = record_lines ds ++ line_of_next next; cut = [] }

  abbrev IsOfThis : List Deed → List Deed → Type 0
  IsOfThis ds behind = IsRecorded s (record_head n.control (shelf n.groups)) ds behind

  text_is : (ds behind : List Deed) → (is : IsOfThis ds behind) → lines s ds ≡ run_text (run_of ds is.next)
  text_is ds behind is =
      let told : List RecordLine = record_lines ds ++ line_of_next is.next in
      let head : List ℕ = record_head n.control (shelf n.groups) in
      is.text ∙ (ap (λ (x : ℕ). head ++ record_text x told) me ∙ sym (append-nil (head ++ record_text n.control.me told)))

  inputs_are : (ds behind : List Deed) → (is : IsOfThis ds behind) → inputs_in (record_lines ds ++ line_of_next is.next) ≡ inputs_of ds ++ with_input is.next []
  inputs_are ds behind is =
      inputs_append (record_lines ds) (line_of_next is.next)
      ∙ (ap (λ (taken : List Input). taken ++ inputs_in (line_of_next is.next)) is.inputs ∙ ap (λ (more : List Input). inputs_of ds ++ more) (next_inputs is.next))

  lawful_run : (ds : List Deed) (next : Option Input) → AllByRecursion (IsWithin h.nodes s.me) (inputs_of ds) → ArePlain ds → IfSome next (IsTaken h.nodes s.me) → IsRun h (run_of ds next)
  lawful_run ds next within plain last = record {
    network = network;
    node = subst (λ (x : ℕ). IsNode h.nodes x) me node;
    each = subst (λ (x : ℕ). AllByRecursion (IsLine h.nodes x) (record_lines ds ++ line_of_next next)) me
        (all_append (IsLine h.nodes s.me) (record_lines ds) (line_of_next next) (lines_of h.nodes s.me ds within plain) (next_line h.nodes s.me next last));
    cut = (tt, λ e. let f : 0 ≡ 35 = e in omega (arith, f));
  }

  cut_run_of : (ds behind : List Deed) → IsOfThis ds behind → AllByRecursion (IsWithin h.nodes s.me) (inputs_of ds) → ArePlain ds → IsCutRunOf h s n ds behind
  cut_run_of ds behind is within plain = record {
    run = record { node = n; lines = record_lines ds; cut = [] };
    next = is.next;
    node = refl;
    lawful = subst (λ (ls : List RecordLine). IsRun h (record { node = n; lines = ls; cut = [] })) (append-nil (record_lines ds)) (lawful_run ds None within plain tt);
    inputs = is.inputs;
    text = text_is ds behind is;
    follows = is.follows;
    whole = λ last. lawful_run ds is.next within plain last;
  }

  -- no line of one more input was written where no deed follows
  whole_run_of : (ds : List Deed) → IsOfThis ds [] → AllByRecursion (IsWithin h.nodes s.me) (inputs_of ds) → ArePlain ds → IsLawfulRunOf h s n ds
  whole_run_of ds is within plain = by_next is.next refl
    where
      by_next : (next : Option Input) → is.next ≡ next → IsLawfulRunOf h s n ds
      by_next None none = record {
        is = record { run = run_of ds is.next; next = is.next; node = refl; text = text_is ds [] is; inputs = inputs_are ds [] is; follows = is.follows };
        lawful = lawful_run ds is.next within plain (subst (λ (o : Option Input). IfSome o (IsTaken h.nodes s.me)) (sym none) tt);
        all = inputs_are ds [] is ∙ (ap (λ (o : Option Input). inputs_of ds ++ with_input o []) none ∙ append-nil (inputs_of ds));
      }
      by_next (Some i) there = absurd (subst (λ (o : Option Input). IsNext o []) there is.follows)

-- The record of deeds, once there is one

recorded_of : (s : Setting) (n : Node) (ds behind : List Deed) (d : Deed) (more : List Deed) → s.log ≡ Record → ds ≡ d ∷ more → IsRecordOf s n ds behind → IsRecorded s (record_head n.control (shelf n.groups)) ds behind
recorded_of s n [] behind d more log begins is = let none : [] ≡ d ∷ more = begins in absurd (cc none)
recorded_of s n (x ∷ ds) behind d more log begins is = is log

-- The text of the run of a node

module _ {D L K : Type 0} (view : D → DiskView) (story : L → Option (List Call)) (counts : L → LinkCounts) (takes fails : K → List ℕ → K → Type 0) (c : Settings) (task : Task) (old new : Disks D) (link after : L) (sink written : K)
    (node : IsNode (length c.addresses) task.me) (log : task.log ≡ Record) (honest : AreHonest view old) where
  abbrev network : Header
  network = header_for task c

  -- it has the nodes of the configuration
  node_in : IsNode network.nodes task.me
  node_in = subst (λ (l : Log). IsNode (header_by (is_record l) c).nodes task.me) (sym log) node

  abbrev first : Node
  first = first_node view network task.me old

  abbrev s : Setting
  s = setting_of task

  abbrev heard_from : Option (List Call)
  heard_from = heard_before c task.me (story link) (story after)

  pub whole_run : (deeds : List Deed) → DidOn view story counts takes c task deeds old new link after sink written → IsLawfulRunOf network s first deeds
  whole_run deeds did =
      let m : Machine = machine_on view c task old in
      whole_run_of network s first refl refl node_in deeds
      (recorded_of s first deeds [] (Says (told_first s.log first.control (shelf first.groups))) (own_measures s c.measures ++ turns_deeds s did.told (begun s c.measures m)) log (did.are honest) (did.recorded honest))
      did.within (subst (λ (ds : List Deed). ArePlain ds) (sym (did.are honest)) (node_plain s heard_from c.measures did.told m (did.heard honest)))

  pub cut_run : (end : TurnEnd) (d : Deed) (ds : List Deed) (under : Under) → (stopped : StoppedOn view story counts takes fails c task end (d ∷ ds) under old new link after sink written)
      → IsCutRunOf network s first (d ∷ ds) (stopped.cut honest).behind
  cut_run end d ds under stopped =
      let m : Machine = machine_on view c task old in
      cut_run_of network s first refl refl node_in (d ∷ ds) (stopped.cut honest).behind (stopped.recorded honest log) stopped.within
      (front_plain s (terms_in s (machine_after s c.measures stopped.told m).running) heard_from c.measures stopped.told stopped.last m (stopped.heard honest) (d ∷ ds) (stopped.cut honest).behind
      (all_calls_after s stopped.told (begun s c.measures m) heard_from) (stopped.cut honest).front (stopped.last_heard honest))
