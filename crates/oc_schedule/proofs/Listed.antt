-- The lines of the events of a list, one after another.
use Rattle.std.proofs.Common.{◌≡◌, ℕ, ◌+◌, ◌<◌, Some, List, ◌++◌, length, drop, get_or, slice_get, ap, sym, ◌∙◌, append_assoc}
use Rattle.std.proofs.lemmas.List.{at_drop_more}
use Rattle.std.proofs.lemmas.Option.{slice_get-get_or}
use Rattle.oc_model.specs.declared.event.Event.{Event}
use Rattle.oc_model.specs.declared.event.Event.TheVariants.{Settle}
use Rattle.oc_schedule.specs.Lines.{event_words}
use Rattle.oc_schedule.specs.Printing.{events_text}
use Rattle.oc_schedule.specs.Texts.{line_text}

-- the line of an event is put, and those of the events after it remain
pub line_put : (front put : List ℕ) (es : List Event) (i : ℕ) → i < length es → ((e : Event) → slice_get es i ≡ Some e → put ≡ front ++ line_text (event_words e)) → put ++ events_text (drop (i + 1) es) ≡ front ++ events_text (drop i es)
line_put front put es i within told =
    let e = get_or es i Settle in
    let rest = events_text (drop (i + 1) es) in
    ap (λ l. l ++ rest) (told e (slice_get-get_or es i Settle within))
    ∙ append_assoc front (line_text (event_words e)) rest
    ∙ sym (ap (λ t. front ++ t) (at_drop_more events_text es i Settle within))
