-- The rest of a node's record, as a merge and the laws of missed inputs define it.
use Rattle.std.proofs.Common.{◌≡◌, ℕ, Bool, true, false, not, ◌&&◌, ◌==◌, if◌then◌else◌, None, List, [], ◌∷◌, ◌++◌, map, refl, ap, sym, ◌∙◌}
use Rattle.std.specs.List.{AllByRecursion}
use Rattle.std.specs.Str.{bytes_eq}
use Rattle.std.proofs.lemmas.Bool.{eq-eqb}
use Rattle.std.proofs.lemmas.Map.Text.{is_eq-slice_cmp}
use Rattle.oc_base.specs.Named.{same_name}
use Rattle.oc_laws_world.specs.Merges.{Entry, Starts, Takes}
use Rattle.oc_laws_world.specs.Missed.{Finds, Tells, without_missed}
use Rattle.oc_laws_world.specs.Missed as missed
use Rattle.oc_merge.specs.declared.told.Told.{Told}
use Rattle.oc_merge.specs.Recorded.{entry_of, found_after, is_missed, message_of, message_or_none, own_there, picked}
use Rattle.oc_model.specs.declared.input.Input.{Input}
use Rattle.oc_model.specs.declared.input.Input.TheVariants as inputs
use Rattle.oc_model.specs.declared.message.Message.{Message}
use Rattle.oc_model.specs.Node.{Header, Node, new_node, restarted}
use Rattle.oc_model.specs.Step.{step}
use Rattle.oc_wire.specs.Spelling.{spelling}
use Rattle.oc_laws_records.specs.Lawful.{AreRuns}
use Rattle.oc_laws_records.specs.Replayed.{entries_there}
use Rattle.oc_laws_records.specs.Runs.{Run, told_by, told_input}
use Rattle.oc_laws_records.specs.Stories.{IsStoryOf, IsToldOf, told_of}
use Rattle.oc_laws_records.proofs.There.{AreReadBack, runs_entries}

-- no start comes next after an input
found_none : (i : Input) (ts : List Told) → found_after (told_input i ∷ ts) ≡ None
found_none (inputs.Tick t) ts = refl
found_none inputs.CheckNow ts = refl
found_none (inputs.Relocate p) ts = refl
found_none (inputs.Unreachable p) ts = refl
found_none (inputs.Pull p) ts = refl
found_none (inputs.Measured p rate hops) ts = refl
found_none (inputs.Publish g bs) ts = refl
found_none (inputs.Seal g) ts = refl
found_none (inputs.Client area start g) ts = refl
found_none (inputs.Delivered m) ts = refl

module _ (digest : Node → List ℕ) (nodes x : ℕ) (back : AreReadBack nodes) where
  -- both definitions of a missed input agree
  same_missed : (n : Node) (i : Input) (ms : List missed.Told) → is_missed digest n i (found_after (map told_of ms)) ≡ missed.is_missed digest n i ms
  same_missed n i [] = refl
  same_missed n i (Tells j ∷ ms) = ap (is_missed digest n i) (found_none j (map told_of ms))
  same_missed n i (Finds d ∷ ms) =
      ap (λ b. not b && bytes_eq d (digest n)) (sym (is_eq-slice_cmp d (digest (step n i).node)))
      ∙ ap (λ b. not (same_name d (digest (step n i).node)) && b) (sym (is_eq-slice_cmp d (digest n)))

  abbrev left : Node → List missed.Told → List Entry
  left n ms = picked (own_there digest nodes x n (map told_of ms)) (map (entry_of nodes) (map told_of ms))

  -- an input that was taken or missed
  abbrev either : Bool → Node → Input → Entry → List missed.Told → List Entry
  either b n i e ms =
      picked (if b then false ∷ own_there digest nodes x n (map told_of ms) else true ∷ own_there digest nodes x (step n i).node (map told_of ms)) (e ∷ map (entry_of nodes) (map told_of ms))

  input_left : (n : Node) (i : Input) (ms : List missed.Told) → left n ms ≡ without_missed digest n ms → left (step n i).node ms ≡ without_missed digest (step n i).node ms
      → either (is_missed digest n i (found_after (map told_of ms))) n i (Takes i) ms ≡ without_missed digest n (Tells i ∷ ms)
  input_left n i ms without with_it = ap (λ b. either b n i (Takes i) ms) (same_missed n i ms) ∙ by_test (missed.is_missed digest n i ms) where
    by_test : (b : Bool) → either b n i (Takes i) ms ≡ (if b then without_missed digest n ms else Takes i ∷ without_missed digest (step n i).node ms)
    by_test true = without
    by_test false = ap (λ es. Takes i ∷ es) with_it

  -- the flags of the inputs where the message m came
  abbrev message_flags : Node → List missed.Told → Message → List Bool
  message_flags n ms m =
      if is_missed digest n (inputs.Delivered m) (found_after (map told_of ms)) then false ∷ own_there digest nodes x n (map told_of ms)
      else true ∷ own_there digest nodes x (step n (inputs.Delivered m)).node (map told_of ms)

  abbrev message_left : Node → List missed.Told → Message → List Entry
  message_left n ms m = picked (if m.to == x then message_flags n ms m else true ∷ map (λ t. true) (map told_of ms)) (Takes (inputs.Delivered m) ∷ map (entry_of nodes) (map told_of ms))

  pub story_left : (n : Node) (ms : List missed.Told) → AllByRecursion (IsToldOf nodes x) ms → left n ms ≡ without_missed digest n ms
  story_left n [] all = refl
  story_left n (Finds d ∷ ms) all = ap (λ es. Starts ∷ es) (story_left (restarted n) ms all.1)
  story_left n (Tells (inputs.Tick t) ∷ ms) all = input_left n (inputs.Tick t) ms (story_left n ms all.1) (story_left (step n (inputs.Tick t)).node ms all.1)
  story_left n (Tells inputs.CheckNow ∷ ms) all = input_left n inputs.CheckNow ms (story_left n ms all.1) (story_left (step n inputs.CheckNow).node ms all.1)
  story_left n (Tells (inputs.Relocate p) ∷ ms) all = input_left n (inputs.Relocate p) ms (story_left n ms all.1) (story_left (step n (inputs.Relocate p)).node ms all.1)
  story_left n (Tells (inputs.Unreachable p) ∷ ms) all = input_left n (inputs.Unreachable p) ms (story_left n ms all.1) (story_left (step n (inputs.Unreachable p)).node ms all.1)
  story_left n (Tells (inputs.Pull p) ∷ ms) all = input_left n (inputs.Pull p) ms (story_left n ms all.1) (story_left (step n (inputs.Pull p)).node ms all.1)
  story_left n (Tells (inputs.Measured p rate hops) ∷ ms) all =
      input_left n (inputs.Measured p rate hops) ms (story_left n ms all.1) (story_left (step n (inputs.Measured p rate hops)).node ms all.1)
  story_left n (Tells (inputs.Publish g bs) ∷ ms) all = input_left n (inputs.Publish g bs) ms (story_left n ms all.1) (story_left (step n (inputs.Publish g bs)).node ms all.1)
  story_left n (Tells (inputs.Seal g) ∷ ms) all = input_left n (inputs.Seal g) ms (story_left n ms all.1) (story_left (step n (inputs.Seal g)).node ms all.1)
  story_left n (Tells (inputs.Client area start g) ∷ ms) all =
      input_left n (inputs.Client area start g) ms (story_left n ms all.1) (story_left (step n (inputs.Client area start g)).node ms all.1)
  story_left n (Tells (inputs.Delivered m) ∷ ms) all =
      let lawful = all.0.0 in
      let read : message_of nodes (spelling m) ≡ m = ap message_or_none (back m lawful.0) in
      let whole : left n (Tells (inputs.Delivered m) ∷ ms) ≡ message_left n ms m =
      ap (message_left n ms) read in
      whole ∙ (ap (λ b. picked (if b then message_flags n ms m else true ∷ map (λ t. true) (map told_of ms)) (Takes (inputs.Delivered m) ∷ map (entry_of nodes) (map told_of ms))) (eq-eqb m.to x lawful.1)
      ∙ input_left n (inputs.Delivered m) ms (story_left n ms all.1) (story_left (step n (inputs.Delivered m)).node ms all.1))

-- the entries of a node with a known history
pub story_entries : (digest : Node → List ℕ) (h : Header) (x : ℕ) (runs : List Run) (deeds : List missed.Deed) → AreRuns h runs → AreReadBack h.nodes → IsStoryOf digest h x runs deeds
    → entries_there digest h x runs ≡ without_missed digest (new_node h x) (missed.record_of digest (new_node h x) (deeds ++ missed.Started ∷ []))
story_entries digest h x runs deeds are back of =
    let n = new_node h x in
    ap (picked (own_there digest h.nodes x n (told_by x runs))) (sym (runs_entries h x runs back are.each))
    ∙ (ap (λ (ts : List Told). picked (own_there digest h.nodes x n ts) (map (entry_of h.nodes) ts)) of.told
    ∙ story_left digest h.nodes x back n (missed.record_of digest n (deeds ++ missed.Started ∷ [])) of.inputs)
