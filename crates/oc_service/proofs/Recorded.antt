-- A record of a node: its beginning, and the lines of the inputs that it takes.
use Rattle.std.proofs.Common.{◌≡◌, ℕ, Bool, true, false, Option, None, Some, List, [], ◌∷◌, ◌++◌, refl, sym, ap, ap₂, subst, ◌∙◌, append-nil}
use Rattle.std.specs.Prelude.{◌==◌, if◌then◌else◌}
use Rattle.oc_base.specs.Groups.{shelf}
use Rattle.oc_model.specs.declared.input.Input.{Input}
use Rattle.oc_model.specs.declared.input.Input.TheVariants.{Measured}
use Rattle.oc_model.specs.Node.{Node}
use Rattle.oc_deeds.specs.Brief.{told_first}
use Rattle.oc_deeds.specs.Deeds.{Deed, Says, Setting, Takes, lines}
use Rattle.oc_deeds.specs.Under.{Cuts}
use Rattle.oc_deeds.specs.Recorded.{IsRecordOf, IsRecorded}
use Rattle.oc_deeds.specs.Records.{record_head, told_ahead}
use Rattle.oc_deeds.specs.Under.{Under}
use Rattle.oc_deeds.specs.Turns.{Observation}
use Rattle.oc_deeds.specs.declared.log.Log.{Log}
use Rattle.oc_deeds.specs.declared.log.Log.TheVariants as logs
use Rattle.oc_deeds.proofs.Recorded.{Leads, inputs_told, leads_front, leads_taken, leads_text, leads_then, leads_turn, next_of}
use Rattle.oc_updown.specs.declared.measure_lines.Measure.{Measure}
use Rattle.oc_service.specs.WhatNodeDoes.{Machine, begins, begun, after_turn, machine_after, node_deeds, own_measure, own_measures, turn_deeds, turns_deeds}

module _ (s : Setting) (recorded : s.log ≡ logs.Record) where
  abbrev Whole : List Deed → Type 0
  Whole ds = Leads s None ds None

  own_one : (i : Input) (b : Bool) → Whole (if b then Says (told_ahead s.log s.me i) ∷ Takes i ∷ [] else [])
  own_one i true = leads_taken s recorded i [] refl
  own_one i false = refl

  own_whole : (ms : List Measure) → Whole (own_measures s ms)
  own_whole [] = refl
  own_whole (x ∷ ms) = leads_then s None None None (own_measure s x) (own_measures s ms) (own_one (Measured x.peer x.rate x.hops) (x.from == s.me)) (own_whole ms)

  turns_whole : (ts : List Observation) (m : Machine) → Whole (turns_deeds s ts m)
  turns_whole [] m = refl
  turns_whole (t ∷ ts) m =
      leads_then s None None None (turn_deeds s t m) (turns_deeds s ts (after_turn s t m)) (leads_turn s recorded m.pace m.probing t m.running) (turns_whole ts (after_turn s t m))

  -- all that is done after the beginning
  abbrev rest : List Measure → List Observation → Machine → List Deed
  rest ms ts m = own_measures s ms ++ turns_deeds s ts (begun s ms m)

  rest_whole : (ms : List Measure) (ts : List Observation) (m : Machine) → Whole (rest ms ts m)
  rest_whole ms ts m = leads_then s None None None (own_measures s ms) (turns_deeds s ts (begun s ms m)) (own_whole ms) (turns_whole ts (begun s ms m))

  -- the beginning, and a prefix of the deeds after it
  begun_record : (n : Node) (ds behind : List Deed) → Whole (ds ++ behind) → IsRecorded s (record_head n.control (shelf n.groups)) (Says (told_first s.log n.control (shelf n.groups)) ∷ ds) behind
  begun_record n ds behind whole =
      let front = leads_front s None None ds behind whole in
      record {
        next = front.0;
        follows = next_of s (front.0) behind (front.2);
        text =
            ap (λ (l : Log). told_first l n.control (shelf n.groups) ++ lines s ds) recorded
            ∙ ap (λ (t : List ℕ). record_head n.control (shelf n.groups) ++ t) (leads_text s recorded None (front.0) ds (front.1));
        inputs = inputs_told ds;
      }

-- a front of deeds with this beginning is a record
front_record : (s : Setting) (n : Node) (told deeds behind : List Deed) → (s.log ≡ logs.Record → Leads s None told None) → Says (told_first s.log n.control (shelf n.groups)) ∷ told ≡ deeds ++ behind
    → IsRecordOf s n deeds behind
front_record s n told [] behind whole is = tt
front_record s n told (d ∷ ds) behind whole is =
    let first : Says (told_first s.log n.control (shelf n.groups)) ≡ d = cc in
    let others : told ≡ ds ++ behind = cc in
    λ recorded.
    subst (λ (x : Deed). IsRecorded s (record_head n.control (shelf n.groups)) (x ∷ ds) behind) first
    (begun_record s recorded n ds behind (subst (λ (es : List Deed). Leads s None es None) others (whole recorded)))

-- all turns
pub node_record : (s : Setting) (ms : List Measure) (ts : List Observation) (m : Machine) (deeds : List Deed) → deeds ≡ node_deeds s ms ts m → IsRecordOf s m.running.node deeds []
node_record s ms ts m deeds are =
    front_record s m.running.node (own_measures s ms ++ turns_deeds s ts (begun s ms m)) deeds [] (λ recorded. rest_whole s recorded ms ts m) (sym are ∙ sym (append-nil deeds))

-- a front of the deeds, and of those of one more turn
pub cut_record : (s : Setting) (ms : List Measure) (ts : List Observation) (last : Observation) (m : Machine) (deeds : List Deed) (under : Under)
    → (cut : Cuts (node_deeds s ms ts m ++ turn_deeds s last (machine_after s ms ts m)) deeds under) → IsRecordOf s m.running.node deeds cut.behind
cut_record s ms ts last m deeds under cut =
    let behind : Machine = machine_after s ms ts m in
    let own : List Deed = own_measures s ms ++ turns_deeds s ts (begun s ms m) in
    front_record s m.running.node (own ++ turn_deeds s last behind) deeds cut.behind
    (λ recorded. leads_then s None None None own (turn_deeds s last behind) (rest_whole s recorded ms ts m) (leads_turn s recorded behind.pace behind.probing last behind.running)) cut.front
