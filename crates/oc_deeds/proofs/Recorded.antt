-- Turns of a node that writes a record: the line of each input is written before the input is taken, and no other line tells of the input.
use Rattle.std.proofs.Common.{◌≡◌, ◌⊎◌, ℕ, zero, suc, Bool, true, false, Option, None, Some, List, [], ◌∷◌, ◌++◌, slice_get, refl, sym, ap, ap₂, subst, ◌∙◌, Result, Ok, Err}
use Rattle.std.specs.Prelude.{◌==◌, if◌then◌else◌, is_some, is_none, codes}
use Rattle.std.proofs.lemmas.List.{append-nil, append_assoc}
use Rattle.oc_base.specs.Groups.{shelf}
use Rattle.oc_model.specs.declared.answer.Answer.{Answer}
use Rattle.oc_model.specs.declared.input.Input.{Input}
use Rattle.oc_model.specs.declared.input.Input.TheVariants as inputs
use Rattle.oc_model.specs.declared.message.Message.{Message}
use Rattle.oc_model.specs.Measures.{reading_of}
use Rattle.oc_model.specs.Node.{Node}
use Rattle.oc_model.specs.Step.{step}
use Rattle.oc_probe.specs.declared.fault.ProbeFault.{ProbeFault}
use Rattle.oc_probe.specs.declared.probing.Probing.{Probing}
use Rattle.oc_routes.specs.Conditions.{unmet}
use Rattle.oc_routes.specs.declared.verdict.Request.{Request}
use Rattle.oc_routes.specs.declared.verdict.Verdict.{Verdict}
use Rattle.oc_routes.specs.declared.verdict.Verdict.TheVariants as verdicts
use Rattle.oc_routes.specs.declared.waiting.Prospect.{Prospect}
use Rattle.oc_routes.specs.declared.waiting.Prospect.TheVariants as prospects
use Rattle.oc_routes.specs.Inputs.{input_line}
use Rattle.oc_routes.specs.declared.verdict.Refusal.{Refusal}
use Rattle.oc_routes.specs.declared.tally.MessageFault.{MessageFault}
use Rattle.oc_deeds.specs.Asks.{answers_or_waits, has_to_wait, obeys, refuses_or, replies, responds, settled_at, takes_on, takes_up, waiting}
use Rattle.oc_deeds.specs.Brief.{told_of}
use Rattle.oc_deeds.specs.Choices.{due_index, has_room, next_to_dial, prospect_of, wait_for}
use Rattle.oc_deeds.specs.Deeds.{Accepts, BreaksOff, Deed, Dials, Drops, Gives, Keeps, LaysAside, Looks, Notes, Permits, Probes, Reads, Refuses, Rejects, Replies, Rereads, Running, Says, Sees, Setting, Takes, Tells, Waits, after, after_all, back_to, inputs_of, line, lines, sender_of, taken_line, with_input}
use Rattle.oc_config.specs.Settings.{Settings}
use Rattle.oc_link.specs.declared.look.Look.{Look}
use Rattle.oc_updown.specs.declared.measure_lines.Measure.{Measure}
use Rattle.oc_deeds.specs.Rereading.{fitting, fresh, goes_by, looks_again, measured_by, settles, takes_measures}
use Rattle.oc_deeds.specs.declared.reread.Reread.{Reread}
use Rattle.oc_deeds.specs.declared.reread.Reread.TheVariants as rereads
use Rattle.oc_deeds.specs.declared.unfit.Unfit.{Unfit}
use Rattle.oc_deeds.specs.Hurries.{came_hurries}
use Rattle.oc_deeds.specs.Pace.{has_passed, wait_until}
use Rattle.oc_deeds.specs.Parts.{nothing, one, ◌>>◌}
use Rattle.oc_deeds.specs.Recorded.{IsNext, RecordLine, input_in, inputs_in, line_of_next, record_line_text, record_lines, record_lines_of, record_text}
use Rattle.oc_deeds.specs.Records.{told_ahead}
use Rattle.oc_deeds.specs.Rooms.{transfer_of, goes_on, moves, takes_room, room_for}
use Rattle.oc_deeds.specs.Sends.{dials_at, dials_it, dials_next, sends}
use Rattle.oc_deeds.specs.Telling.{takes_in, takes_ahead}
use Rattle.oc_deeds.specs.Turns.{Observation, takes_brought, takes_reply, deals, happens, measures, next_peer, probes_it, quickened, takes_at, takes_due, ticked, ticks, ticks_and_sends, ticks_if, turn, dealt}
use Rattle.oc_deeds.specs.Works.{client_input, pending, work_on}
use Rattle.oc_deeds.specs.declared.came.Came.{Came}
use Rattle.oc_deeds.specs.declared.came.Came.TheVariants as comes
use Rattle.oc_deeds.specs.declared.choosing.TheConstants.{MAX_DIALS}
use Rattle.oc_deeds.specs.declared.log.Log.{Log}
use Rattle.oc_deeds.specs.declared.log.Log.TheVariants as logs
use Rattle.oc_deeds.specs.declared.pace.Pace.{Pace}
use Rattle.oc_deeds.specs.declared.work.Pending.{Pending}
use Rattle.oc_deeds.specs.declared.work.Transfer.{Transfer}
use Rattle.oc_deeds.specs.declared.work.Work.{Work}
use Rattle.oc_deeds.specs.declared.work.Work.TheVariants as works
use Rattle.oc_deeds.proofs.Chains.{inputs_append, lines_append}

-- Inputs whose line was written

-- the line that was written of an input that is to be taken next, if one was
abbrev line_next : ℕ → Option Input → List ℕ
line_next me None = []
line_next me (Some i) = input_line me i

-- a deed takes the input whose line was written, or writes such a line, or has nothing to do with inputs
abbrev Moves : Setting → Option Input → Deed → Option Input → Type 0
Moves s None (Says text) next = text ≡ line_next s.me next
Moves s None (Takes j) next = ⊥
Moves s None (Accepts j) next = ⊥
Moves s None d next = next ≡ None
Moves s (Some i) (Takes j) next = (i ≡ j) × (next ≡ None)
Moves s (Some i) (Accepts j) next = (i ≡ j) × (next ≡ None)
Moves s (Some i) d next = ⊥

abbrev pub Leads : Setting → Option Input → List Deed → Option Input → Type 0
Leads s p [] q = p ≡ q
Leads s p (d ∷ ds) q = (next : Option Input) × Moves s p d next × Leads s next ds q

-- deeds after deeds
pub leads_then : (s : Setting) (p q r : Option Input) (ds es : List Deed) → Leads s p ds q → Leads s q es r → Leads s p (ds ++ es) r
leads_then s p q r [] es is more = subst (λ (o : Option Input). Leads s o es r) (sym is) more
leads_then s p q r (d ∷ ds) es (next, moves, rest) more = (next, moves, leads_then s next q r ds es rest more)

-- a front of deeds, and the deeds after it
pub leads_front : (s : Setting) (p r : Option Input) (ds es : List Deed) → Leads s p (ds ++ es) r → (q : Option Input) × Leads s p ds q × Leads s q es r
leads_front s p r [] es all = (p, refl, all)
leads_front s p r (d ∷ ds) es (next, moves, rest) =
    let front = leads_front s next r ds es rest in
    (front.0, (next, moves, front.1), front.2)

-- the input whose line was written is the one that the next deed takes
pub next_of : (s : Setting) (p : Option Input) (ds : List Deed) → Leads s p ds None → IsNext p ds
next_of s None ds leads = tt
next_of s (Some i) [] leads = let no : Some i ≡ None = leads in absurd (cc no)
next_of s (Some i) (Takes j ∷ ds) (next, moves, rest) = ap Some (sym moves.0)
next_of s (Some i) (Accepts j ∷ ds) (next, moves, rest) = ap Some (sym moves.0)
next_of s (Some i) (Sees e wait bytes ∷ ds) (next, moves, rest) = absurd moves
next_of s (Some i) (Reads t ∷ ds) (next, moves, rest) = absurd moves
next_of s (Some i) (Tells t ∷ ds) (next, moves, rest) = absurd moves
next_of s (Some i) (Says text ∷ ds) (next, moves, rest) = absurd moves
next_of s (Some i) (Notes why ∷ ds) (next, moves, rest) = absurd moves
next_of s (Some i) (Permits c ∷ ds) (next, moves, rest) = absurd moves
next_of s (Some i) (Waits w ∷ ds) (next, moves, rest) = absurd moves
next_of s (Some i) (Replies r response now ∷ ds) (next, moves, rest) = absurd moves
next_of s (Some i) (Refuses c count why ∷ ds) (next, moves, rest) = absurd moves
next_of s (Some i) (Rejects fault ∷ ds) (next, moves, rest) = absurd moves
next_of s (Some i) (BreaksOff c ∷ ds) (next, moves, rest) = absurd moves
next_of s (Some i) (Gives q now ∷ ds) (next, moves, rest) = absurd moves
next_of s (Some i) (LaysAside q ∷ ds) (next, moves, rest) = absurd moves
next_of s (Some i) (Drops c told ∷ ds) (next, moves, rest) = absurd moves
next_of s (Some i) (Dials place m d ∷ ds) (next, moves, rest) = absurd moves
next_of s (Some i) (Probes peer d now ∷ ds) (next, moves, rest) = absurd moves
next_of s (Some i) (Looks look ∷ ds) (next, moves, rest) = absurd moves
next_of s (Some i) (Rereads config ∷ ds) (next, moves, rest) = absurd moves
next_of s (Some i) (Keeps why ∷ ds) (next, moves, rest) = absurd moves

-- The text of deeds

text_append : (me : ℕ) (xs ys : List RecordLine) → record_text me (xs ++ ys) ≡ record_text me xs ++ record_text me ys
text_append me [] ys = refl
text_append me (x ∷ xs) ys = ap (λ (t : List ℕ). record_line_text me x ++ t) (text_append me xs ys) ∙ sym (append_assoc (record_line_text me x) (record_text me xs) (record_text me ys))

-- the text of a deed that has nothing to do with inputs is that of its lines in a record
abbrev IsSame : Setting → Deed → Type 0
IsSame s d = line s d ≡ record_text s.me (record_lines_of d)

dropped : (s : Setting) (c : ℕ) (told : Bool) → IsSame s (Drops c told)
dropped s c true = sym (append-nil _)
dropped s c false = refl

-- one deed before others
text_cons : (s : Setting) (d : Deed) (ds : List Deed) (next : Option Input) → IsSame s d → lines s ds ≡ record_text s.me (record_lines ds ++ line_of_next next)
    → lines s (d ∷ ds) ≡ record_text s.me (record_lines (d ∷ ds) ++ line_of_next next)
text_cons s d ds next same rest =
    ap₂ (λ (x y : List ℕ). x ++ y) same rest
    ∙ sym (text_append s.me (record_lines_of d) (record_lines ds ++ line_of_next next))
    ∙ ap (λ (ls : List RecordLine). record_text s.me ls) (sym (append_assoc (record_lines_of d) (record_lines ds) (line_of_next next)))

-- nothing is written of an input as it is taken
silent : (s : Setting) (i : Input) → s.log ≡ logs.Record → taken_line s.log s.me i ≡ []
silent s i is = ap (λ (l : Log). taken_line l s.me i) is

text_next : (me : ℕ) (o : Option Input) → line_next me o ++ [] ≡ record_text me (line_of_next o)
text_next me None = refl
text_next me (Some i) = refl

-- the lines of deeds, after the line of an input that is to be taken next
pub leads_text : (s : Setting) → s.log ≡ logs.Record → (p q : Option Input) (ds : List Deed) → Leads s p ds q → line_next s.me p ++ lines s ds ≡ record_text s.me (record_lines ds ++ line_of_next q)
leads_text s is p q [] leads = subst (λ (o : Option Input). line_next s.me p ++ [] ≡ record_text s.me (line_of_next o)) leads (text_next s.me p)
leads_text s is None q (Says text ∷ ds) (next, moves, rest) = ap (λ (t : List ℕ). t ++ lines s ds) moves ∙ leads_text s is next q ds rest
leads_text s is (Some i) q (Takes j ∷ ds) (next, moves, rest) =
    ap (λ (x : Input). input_line s.me x ++ (taken_line s.log s.me j ++ lines s ds)) moves.0
    ∙ ap (λ (t : List ℕ). input_line s.me j ++ (t ++ lines s ds)) (silent s j is)
    ∙ ap (λ (t : List ℕ). input_line s.me j ++ t) (leads_text s is None q ds (subst (λ (o : Option Input). Leads s o ds q) (moves.1) rest))
leads_text s is (Some i) q (Accepts j ∷ ds) (next, moves, rest) =
    ap (λ (x : Input). input_line s.me x ++ (taken_line s.log s.me j ++ lines s ds)) moves.0
    ∙ ap (λ (t : List ℕ). input_line s.me j ++ (t ++ lines s ds)) (silent s j is)
    ∙ ap (λ (t : List ℕ). input_line s.me j ++ t) (leads_text s is None q ds (subst (λ (o : Option Input). Leads s o ds q) (moves.1) rest))
leads_text s is None q (Takes j ∷ ds) (next, moves, rest) = absurd moves
leads_text s is None q (Accepts j ∷ ds) (next, moves, rest) = absurd moves
leads_text s is None q (Sees e wait bytes ∷ ds) (next, moves, rest) = text_cons s (Sees e wait bytes) ds q refl (leads_text s is None q ds (subst (λ (o : Option Input). Leads s o ds q) moves rest))
leads_text s is None q (Reads t ∷ ds) (next, moves, rest) = text_cons s (Reads t) ds q refl (leads_text s is None q ds (subst (λ (o : Option Input). Leads s o ds q) moves rest))
leads_text s is None q (Tells t ∷ ds) (next, moves, rest) = text_cons s (Tells t) ds q refl (leads_text s is None q ds (subst (λ (o : Option Input). Leads s o ds q) moves rest))
leads_text s is None q (Notes why ∷ ds) (next, moves, rest) = text_cons s (Notes why) ds q (sym (append-nil _)) (leads_text s is None q ds (subst (λ (o : Option Input). Leads s o ds q) moves rest))
leads_text s is None q (Permits c ∷ ds) (next, moves, rest) = text_cons s (Permits c) ds q refl (leads_text s is None q ds (subst (λ (o : Option Input). Leads s o ds q) moves rest))
leads_text s is None q (Waits w ∷ ds) (next, moves, rest) = text_cons s (Waits w) ds q refl (leads_text s is None q ds (subst (λ (o : Option Input). Leads s o ds q) moves rest))
leads_text s is None q (Replies r response now ∷ ds) (next, moves, rest) = text_cons s (Replies r response now) ds q refl (leads_text s is None q ds (subst (λ (o : Option Input). Leads s o ds q) moves rest))
leads_text s is None q (Refuses c count why ∷ ds) (next, moves, rest) = text_cons s (Refuses c count why) ds q (sym (append-nil _)) (leads_text s is None q ds (subst (λ (o : Option Input). Leads s o ds q) moves rest))
leads_text s is None q (Rejects fault ∷ ds) (next, moves, rest) = text_cons s (Rejects fault) ds q refl (leads_text s is None q ds (subst (λ (o : Option Input). Leads s o ds q) moves rest))
leads_text s is None q (BreaksOff c ∷ ds) (next, moves, rest) = text_cons s (BreaksOff c) ds q refl (leads_text s is None q ds (subst (λ (o : Option Input). Leads s o ds q) moves rest))
leads_text s is None q (Gives p now ∷ ds) (next, moves, rest) = text_cons s (Gives p now) ds q refl (leads_text s is None q ds (subst (λ (o : Option Input). Leads s o ds q) moves rest))
leads_text s is None q (LaysAside p ∷ ds) (next, moves, rest) = text_cons s (LaysAside p) ds q refl (leads_text s is None q ds (subst (λ (o : Option Input). Leads s o ds q) moves rest))
leads_text s is None q (Drops c told ∷ ds) (next, moves, rest) = text_cons s (Drops c told) ds q (dropped s c told) (leads_text s is None q ds (subst (λ (o : Option Input). Leads s o ds q) moves rest))
leads_text s is None q (Dials place m d ∷ ds) (next, moves, rest) = text_cons s (Dials place m d) ds q refl (leads_text s is None q ds (subst (λ (o : Option Input). Leads s o ds q) moves rest))
leads_text s is None q (Probes peer d now ∷ ds) (next, moves, rest) = text_cons s (Probes peer d now) ds q refl (leads_text s is None q ds (subst (λ (o : Option Input). Leads s o ds q) moves rest))
leads_text s is None q (Looks look ∷ ds) (next, moves, rest) = text_cons s (Looks look) ds q refl (leads_text s is None q ds (subst (λ (o : Option Input). Leads s o ds q) moves rest))
leads_text s is None q (Rereads config ∷ ds) (next, moves, rest) = text_cons s (Rereads config) ds q refl (leads_text s is None q ds (subst (λ (o : Option Input). Leads s o ds q) moves rest))
leads_text s is None q (Keeps why ∷ ds) (next, moves, rest) = text_cons s (Keeps why) ds q refl (leads_text s is None q ds (subst (λ (o : Option Input). Leads s o ds q) moves rest))
leads_text s is (Some i) q (Sees e wait bytes ∷ ds) (next, moves, rest) = absurd moves
leads_text s is (Some i) q (Reads t ∷ ds) (next, moves, rest) = absurd moves
leads_text s is (Some i) q (Tells t ∷ ds) (next, moves, rest) = absurd moves
leads_text s is (Some i) q (Says text ∷ ds) (next, moves, rest) = absurd moves
leads_text s is (Some i) q (Notes why ∷ ds) (next, moves, rest) = absurd moves
leads_text s is (Some i) q (Permits c ∷ ds) (next, moves, rest) = absurd moves
leads_text s is (Some i) q (Waits w ∷ ds) (next, moves, rest) = absurd moves
leads_text s is (Some i) q (Replies r response now ∷ ds) (next, moves, rest) = absurd moves
leads_text s is (Some i) q (Refuses c count why ∷ ds) (next, moves, rest) = absurd moves
leads_text s is (Some i) q (Rejects fault ∷ ds) (next, moves, rest) = absurd moves
leads_text s is (Some i) q (BreaksOff c ∷ ds) (next, moves, rest) = absurd moves
leads_text s is (Some i) q (Gives p now ∷ ds) (next, moves, rest) = absurd moves
leads_text s is (Some i) q (LaysAside p ∷ ds) (next, moves, rest) = absurd moves
leads_text s is (Some i) q (Drops c told ∷ ds) (next, moves, rest) = absurd moves
leads_text s is (Some i) q (Dials place m d ∷ ds) (next, moves, rest) = absurd moves
leads_text s is (Some i) q (Probes peer d now ∷ ds) (next, moves, rest) = absurd moves
leads_text s is (Some i) q (Looks look ∷ ds) (next, moves, rest) = absurd moves
leads_text s is (Some i) q (Rereads config ∷ ds) (next, moves, rest) = absurd moves
leads_text s is (Some i) q (Keeps why ∷ ds) (next, moves, rest) = absurd moves

-- the inputs that the lines of deeds tell are those of the deeds

drop_inputs : (told : Bool) (ds : List Deed) → inputs_in (record_lines_of (Drops 0 told) ++ record_lines ds) ≡ inputs_in (record_lines ds)
drop_inputs true ds = refl
drop_inputs false ds = refl

pub inputs_told : (ds : List Deed) → inputs_in (record_lines ds) ≡ inputs_of ds
inputs_told [] = refl
inputs_told (Takes i ∷ ds) = ap (λ (is : List Input). i ∷ is) (inputs_told ds)
inputs_told (Accepts i ∷ ds) = ap (λ (is : List Input). i ∷ is) (inputs_told ds)
inputs_told (Sees e wait bytes ∷ ds) = inputs_told ds
inputs_told (Reads t ∷ ds) = inputs_told ds
inputs_told (Tells t ∷ ds) = inputs_told ds
inputs_told (Says text ∷ ds) = inputs_told ds
inputs_told (Notes why ∷ ds) = inputs_told ds
inputs_told (Permits c ∷ ds) = inputs_told ds
inputs_told (Waits w ∷ ds) = inputs_told ds
inputs_told (Replies r response now ∷ ds) = inputs_told ds
inputs_told (Refuses c count why ∷ ds) = inputs_told ds
inputs_told (Rejects fault ∷ ds) = inputs_told ds
inputs_told (BreaksOff c ∷ ds) = inputs_told ds
inputs_told (Gives p now ∷ ds) = inputs_told ds
inputs_told (LaysAside p ∷ ds) = inputs_told ds
inputs_told (Drops c told ∷ ds) = drop_inputs told ds ∙ inputs_told ds
inputs_told (Dials place m d ∷ ds) = inputs_told ds
inputs_told (Probes peer d now ∷ ds) = inputs_told ds
inputs_told (Looks look ∷ ds) = inputs_told ds
inputs_told (Rereads config ∷ ds) = inputs_told ds
inputs_told (Keeps why ∷ ds) = inputs_told ds

-- Parts of turns

module _ (s : Setting) (recorded : s.log ≡ logs.Record) where
  abbrev Whole : List Deed → Type 0
  Whole ds = Leads s None ds None

  whole_then : (ds es : List Deed) → Whole ds → Whole es → Whole (ds ++ es)
  whole_then ds es first second = leads_then s None None None ds es first second

  ahead : (i : Input) → told_ahead s.log s.me i ≡ input_line s.me i
  ahead i = ap (λ (l : Log). told_ahead l s.me i) recorded

  behind : (i : Input) (n : Node) → told_of s.log n i ≡ []
  behind i n = ap (λ (l : Log). told_of l n i) recorded

  -- an input is taken
  pub leads_taken : (i : Input) (ds : List Deed) → Whole ds → Whole (Says (told_ahead s.log s.me i) ∷ Takes i ∷ ds)
  leads_taken i ds rest = (Some i, ahead i, (None, (refl, refl), rest))

  leads_in : (i : Input) (a : Running) → Whole (takes_in i s a)
  leads_in i a = leads_taken i (Says (told_of s.log a.node i) ∷ []) (None, behind i a.node, refl)

  -- Ticks and messages

  leads_ticks : (pace : Pace) (now seconds : ℕ) (a : Running) → Whole (ticks pace now seconds s a)
  leads_ticks pace now seconds a = by_test (wait_until pace now == 0)
    where
      by_second : (b : Bool) → Whole ((one (Tells seconds) >> ticks_if b seconds) s a)
      by_second true = (None, refl, leads_in _ a)
      by_second false = (None, refl, refl)

      by_test : (b : Bool) → Whole ((if b then ticked pace.second seconds else nothing) s a)
      by_test true = by_second (has_passed pace.second seconds)
      by_test false = refl

  leads_dial : (place : ℕ) (m : Option Message) (a : Running) → Whole (dials_it place m s a)
  leads_dial place None a = refl
  leads_dial place (Some m) a = (None, refl, refl)

  leads_at : (place : Option ℕ) (a : Running) → Whole (dials_at place s a)
  leads_at None a = refl
  leads_at (Some place) a = leads_dial place (slice_get a.outbox place) a

  leads_sends : (n : ℕ) (a : Running) → Whole (sends n s a)
  unfolding sends
  leads_sends zero a = refl
  leads_sends (suc n) a = whole_then (dials_next s a) (sends n s (after_all (dials_next s a) a)) (leads_at (next_to_dial a.outbox a.dials) a) (leads_sends n (after_all (dials_next s a) a))

  leads_end : (pace : Pace) (now seconds : ℕ) (a : Running) → Whole (ticks_and_sends pace now seconds s a)
  leads_end pace now seconds a =
      let ds : List Deed = ticks pace now seconds s a in
      whole_then ds (sends MAX_DIALS s (after_all ds a)) (leads_ticks pace now seconds a) (leads_sends MAX_DIALS (after_all ds a))

  -- Turns in which something came

  leads_moves : (p : Transfer) (now : ℕ) (what : Prospect) → Whole (moves p now what)
  leads_moves p now prospects.Gives = (None, refl, refl)
  leads_moves p now prospects.Waits = (None, refl, refl)
  leads_moves p now prospects.Breaks = (None, refl, refl)

  leads_room : (o : Option Work) (now : ℕ) (a : Running) → Whole (room_for (transfer_of o) now s a)
  leads_room None now a = refl
  leads_room (Some (works.Content p)) now a = leads_moves p now (prospect_of p (shelf a.node.groups) now)
  leads_room (Some (works.Aside p)) now a = refl
  leads_room (Some (works.Waits w)) now a = refl

  leads_measures : (probing : Option Probing) (peer : ℕ) (fault : Option ProbeFault) (median : ℕ) (a : Running) → Whole (measures probing peer fault median s a)
  leads_measures None peer None median a = refl
  leads_measures (Some probing) peer None median a = leads_taken _ [] refl
  leads_measures probing peer (Some fault) median a = (None, refl, refl)

  leads_brought : (input : Option Input) (a : Running) → Whole (takes_brought input s a)
  leads_brought None a = refl
  leads_brought (Some i) a = leads_in i a

  leads_reply : (input : Option Input) (refused : Option MessageFault) (a : Running) → Whole (takes_reply input refused s a)
  leads_reply input None a = leads_brought input a
  leads_reply input (Some fault) a = (None, refl, leads_brought input (after (Rejects fault) a))

  leads_probe : (peer : Option ℕ) (started : ℕ) (a : Running) → Whole (probes_it peer started s a)
  leads_probe None started a = refl
  leads_probe (Some peer) started a = (None, refl, (None, refl, refl))

  leads_responds : (r : Pending) (input : Option Input) (now : ℕ) (a : Running) → Whole (responds r input now s a)
  leads_responds r None now a = (None, refl, refl)
  leads_responds r (Some i) now a = (Some i, ahead i, (None, (refl, refl), (None, behind i a.node, (None, refl, refl))))

  leads_or_waits : (c : ℕ) (request : Request) (now : ℕ) (a : Running) → Whole (answers_or_waits c request now s a)
  leads_or_waits c request now a = by_test (has_to_wait request a.node)
    where
      by_test : (b : Bool) → Whole (if b then Waits (waiting c request now) ∷ [] else responds (pending c request (is_some request.input) false) request.input now s a)
      by_test true = (None, refl, refl)
      by_test false = leads_responds (pending c request (is_some request.input) false) request.input now a

  leads_on : (c : ℕ) (request : Request) (now : ℕ) (a : Running) → Whole (takes_on c request now s a)
  leads_on c request now a = by_condition (unmet request a.node.control.me (shelf a.node.groups))
    where
      by_condition : (why : Option Refusal) → Whole (refuses_or why c request now s a)
      by_condition (Some why) = (None, refl, refl)
      by_condition None = leads_or_waits c (settled_at a.node.groups request) now a

  leads_obeys : (c count : ℕ) (v : Verdict) (now : ℕ) (a : Running) → Whole (obeys c count v now s a)
  leads_obeys c count verdicts.Wait now a = refl
  leads_obeys c count verdicts.Leave now a = (None, refl, refl)
  leads_obeys c count verdicts.Permit now a = (None, refl, refl)
  leads_obeys c count (verdicts.Refuse why) now a = (None, refl, refl)
  leads_obeys c count (verdicts.Ask request) now a = leads_on c request now a

  leads_happens : (probing : Option Probing) (came : Came) (now median started : ℕ) (a : Running) → Whole (happens probing came now median started s a)
  leads_happens probing (comes.Request c count v) now median started a = leads_obeys c count v now a
  leads_happens probing (comes.Room c) now median started a = leads_room (work_on c a.works) now a
  leads_happens probing (comes.Gone c loss) now median started a = (None, refl, refl)
  leads_happens probing (comes.Reply input taken refused) now median started a = leads_reply input refused a
  leads_happens probing (comes.Probed peer since fault) now median started a = leads_measures probing peer fault median a
  leads_happens probing comes.Nothing now median started a = leads_probe (next_peer probing a.dials) started a

  leads_deals : (pace : Pace) (probing : Option Probing) (came : Came) (now median started seconds : ℕ) (a : Running) → Whole (deals pace probing came now median started seconds s a)
  leads_deals pace probing came now median started seconds a =
      let ds : List Deed = happens probing came now median started s a in
      let soon : Pace = quickened (came_hurries came a.node) pace in
      whole_then ds (ticks_and_sends soon now seconds s (after_all ds a)) (leads_happens probing came now median started a) (leads_end soon now seconds (after_all ds a))

  -- Turns in which some work was due

  leads_up : (o : Option Work) (now : ℕ) (a : Running) → Whole (takes_up o now s a)
  leads_up None now a = refl
  leads_up (Some (works.Content p)) now a = refl
  leads_up (Some (works.Aside p)) now a = leads_moves p now (prospect_of p (shelf a.node.groups) now)
  leads_up (Some (works.Waits w)) now a =
      leads_responds (pending w.connection w.request (is_some (client_input w.request.asked)) true) (client_input w.request.asked) now a

  leads_due : (pace : Pace) (o : Option Work) (before seconds : ℕ) (a : Running) → Whole (takes_due pace o before seconds s a)
  leads_due pace o before seconds a =
      let ds : List Deed = takes_up o before s a in
      whole_then ds (ticks_and_sends pace before seconds s (after_all ds a)) (leads_up o before a) (leads_end pace before seconds (after_all ds a))

  leads_place : (due : Option ℕ) (pace : Pace) (probing : Option Probing) (t : Observation) (a : Running) → Whole (takes_at due pace probing t s a)
  leads_place None pace probing t a =
      let seen : Running = after (Sees t.event (wait_for pace a.works t.before) t.bytes) a in
      (None, refl, (None, refl, leads_deals pace probing t.came t.now t.median t.started t.seconds seen))
  leads_place (Some place) pace probing t a = leads_due pace (slice_get a.works place) t.before t.seconds a

  -- A configuration that was read again

  leads_measured : (ms : List Measure) (a : Running) → Whole (takes_measures ms s a)
  unfolding takes_measures
  leads_measured [] a = refl
  leads_measured (m ∷ ms) a = leads_taken (measured_by m) (takes_measures ms s (after_all (takes_ahead (measured_by m) s a) a)) (leads_measured ms (after_all (takes_ahead (measured_by m) s a) a))

  leads_settled : (o : Result Settings Unfit) (old : Settings) (a : Running) → Whole (settles o old s a)
  leads_settled (Err why) old a = (None, refl, refl)
  leads_settled (Ok new) old a = (None, refl, leads_measured (fresh s.me old new) (after (Rereads new) a))

  leads_by : (r : Reread) (a : Running) → Whole (goes_by r s a)
  leads_by rereads.Nothing a = refl
  leads_by (rereads.Unfit why) a = (None, refl, refl)
  leads_by (rereads.Config new) a = leads_settled (fitting s a.config new) a.config a

  leads_looks : (look : Look) (r : Reread) (a : Running) → Whole (looks_again look r s a)
  leads_looks look r a = (None, refl, leads_by r (after (Looks look) a))

  -- A turn
  pub leads_turn : (pace : Pace) (probing : Option Probing) (t : Observation) (a : Running) → Whole (turn pace probing t s a)
  leads_turn pace probing t a =
      let ds : List Deed = dealt pace probing t s a in
      whole_then ds (looks_again t.look t.reread s (after_all ds a)) (None, refl, leads_place (due_index a.works (shelf a.node.groups) t.before) pace probing t a)
      (leads_looks t.look t.reread (after_all ds a))
