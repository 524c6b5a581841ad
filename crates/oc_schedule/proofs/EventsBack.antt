-- Lines of events are read as these events.
use Rattle.std.proofs.Common.{◌≡◌, ℕ, ◌≤◌, false, Ok, ◌∷◌, refl, ◌∙◌, arith, codes, decimal}
use Rattle.std.specs.Str.{bytes_eq}
use Rattle.oc_base.specs.Words.{node_in, number_in}
use Rattle.oc_base.specs.declared.limits.TheConstants.{MAX_NODES}
use Rattle.oc_model.specs.declared.event.Act.{Act}
use Rattle.oc_model.specs.declared.event.Act.TheVariants as acts
use Rattle.oc_model.specs.declared.event.Event.{Event}
use Rattle.oc_model.specs.declared.event.Event.TheVariants as events
use Rattle.oc_model.specs.declared.input.Input.{Input}
use Rattle.oc_model.specs.declared.input.Input.TheVariants as inputs
use Rattle.oc_model.specs.Lawful.{IsEvent}
use Rattle.oc_schedule.proofs.ActsBack.{act_are_words, act_back, node_back, node_word, then}
use Rattle.oc_schedule.proofs.FieldsBack.{decimal_word, number_back}
use Rattle.oc_schedule.proofs.LineBack.{AreWords}
use Rattle.oc_schedule.specs.Acts.{act_fields, act_in, act_word, input_fields, input_word, most_byte}
use Rattle.oc_schedule.specs.Lines.{act_alone_in, event_fields, event_in, event_word, event_words, most_calls}
use Rattle.oc_schedule.specs.Printing.{IsOfBytes}
use Rattle.oc_schedule.specs.Schedule.{is_comment}

-- an act line by itself is an event line
input_alone : (nodes x : ℕ) (i : Input) → event_in nodes (input_word i) (decimal x ∷ input_fields i) ≡ act_alone_in nodes (input_word i) (decimal x ∷ input_fields i)
input_alone nodes x (inputs.Tick t) = refl
input_alone nodes x inputs.CheckNow = refl
input_alone nodes x (inputs.Relocate p) = refl
input_alone nodes x (inputs.Unreachable p) = refl
input_alone nodes x (inputs.Pull p) = refl
input_alone nodes x (inputs.Measured p rate hops) = refl
input_alone nodes x (inputs.Publish g bs) = refl
input_alone nodes x (inputs.Seal g) = refl
input_alone nodes x (inputs.Client area start g) = refl
input_alone nodes x (inputs.Delivered m) = refl

act_alone : (nodes : ℕ) (act : Act) → event_in nodes (act_word act) (act_fields act) ≡ act_alone_in nodes (act_word act) (act_fields act)
act_alone nodes (acts.At x i) = input_alone nodes x i
act_alone nodes (acts.Deliver k) = refl

pub event_back : (nodes : ℕ) (e : Event) → nodes ≤ MAX_NODES → IsEvent nodes e → IsOfBytes e → event_in nodes (event_word e) (event_fields e) ≡ Ok e
event_back nodes (events.Up x) few h bytes = then (node_in nodes (decimal x)) _ x _ (node_back nodes x few h) refl
event_back nodes (events.Crash x) few h bytes = then (node_in nodes (decimal x)) _ x _ (node_back nodes x few h) refl
event_back nodes (events.Held x) few h bytes = then (node_in nodes (decimal x)) _ x _ (node_back nodes x few h) refl
event_back nodes (events.Show x) few h bytes = then (node_in nodes (decimal x)) _ x _ (node_back nodes x few h) refl
event_back nodes (events.Stop calls image act) few h bytes =
    then (number_in 0 most_calls (decimal calls)) _ calls _ (number_back 0 most_calls calls (omega (arith, h.0)) (omega arith) h.0)
    (then (number_in 0 most_byte (decimal image)) _ image _ (number_back 0 most_byte image (omega (arith, h.1)) (omega arith) h.1)
    (then (act_in nodes (act_word act) (act_fields act)) _ act _ (act_back nodes act few h.2 bytes) refl))
event_back nodes (events.Do act) few h bytes =
    act_alone nodes act ∙ then (act_in nodes (act_word act) (act_fields act)) _ act _ (act_back nodes act few h bytes) refl
event_back nodes events.Settle few h bytes = refl
event_back nodes events.Heal few h bytes = refl

pub event_are_words : (nodes : ℕ) (e : Event) → nodes ≤ MAX_NODES → IsEvent nodes e → IsOfBytes e → AreWords (event_words e)
event_are_words nodes (events.Up x) few h bytes = (refl, node_word nodes x few h)
event_are_words nodes (events.Crash x) few h bytes = (refl, node_word nodes x few h)
event_are_words nodes (events.Held x) few h bytes = (refl, node_word nodes x few h)
event_are_words nodes (events.Show x) few h bytes = (refl, node_word nodes x few h)
event_are_words nodes (events.Stop calls image act) few h bytes =
    (refl, (decimal_word calls (omega (arith, h.0)), (decimal_word image (omega (arith, h.1)), act_are_words nodes act few h.2 bytes)))
event_are_words nodes (events.Do act) few h bytes = act_are_words nodes act few h bytes
event_are_words nodes events.Settle few h bytes = (refl, tt)
event_are_words nodes events.Heal few h bytes = (refl, tt)

-- the word of an act line begins neither a comment nor an area line
input_is_no_other : (i : Input) → (is_comment (input_word i) ≡ false) × (bytes_eq (input_word i) (codes "area") ≡ false)
input_is_no_other (inputs.Tick t) = (refl, refl)
input_is_no_other inputs.CheckNow = (refl, refl)
input_is_no_other (inputs.Relocate p) = (refl, refl)
input_is_no_other (inputs.Unreachable p) = (refl, refl)
input_is_no_other (inputs.Pull p) = (refl, refl)
input_is_no_other (inputs.Measured p rate hops) = (refl, refl)
input_is_no_other (inputs.Publish g bs) = (refl, refl)
input_is_no_other (inputs.Seal g) = (refl, refl)
input_is_no_other (inputs.Client area start g) = (refl, refl)
input_is_no_other (inputs.Delivered m) = (refl, refl)

act_is_no_other : (act : Act) → (is_comment (act_word act) ≡ false) × (bytes_eq (act_word act) (codes "area") ≡ false)
act_is_no_other (acts.At x i) = input_is_no_other i
act_is_no_other (acts.Deliver k) = (refl, refl)

-- the word of an event line begins neither of these
pub event_is_no_other : (e : Event) → (is_comment (event_word e) ≡ false) × (bytes_eq (event_word e) (codes "area") ≡ false)
event_is_no_other (events.Up x) = (refl, refl)
event_is_no_other (events.Crash x) = (refl, refl)
event_is_no_other (events.Held x) = (refl, refl)
event_is_no_other (events.Show x) = (refl, refl)
event_is_no_other (events.Stop calls image act) = (refl, refl)
event_is_no_other (events.Do act) = act_is_no_other act
event_is_no_other events.Settle = (refl, refl)
event_is_no_other events.Heal = (refl, refl)
