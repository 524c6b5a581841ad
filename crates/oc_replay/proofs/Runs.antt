-- A run, one event on.
use Rattle.std.proofs.Common.{◌≡◌, ℕ, ◌+◌, ◌<◌, ◌≤◌, List, [], ◌∷◌, ◌++◌, length, drop, get_or, sym, ap, ◌∙◌, subst, arith, append_assoc}
use Rattle.std.proofs.lemmas.List.{at_drop_more, at_drop_all}
use Rattle.oc_model.specs.declared.event.Event.{Event}
use Rattle.oc_model.specs.declared.word.Word.{Word}
use Rattle.oc_model.specs.NextWorld.{next_world, word_of}
use Rattle.oc_model.specs.World.{World}
use Rattle.oc_replay.specs.Lines.{end_line, event_line}
use Rattle.oc_replay.specs.Report.{block_text, event_text, sent_text, told_from}
use Rattle.oc_replay.proofs.Written.{IsWritten, gathers, gathers_all}

-- the line of an event, its messages and its block, one after the other, are its report
pub event_told : (a b c d : List ℕ) (i : ℕ) (said word : Word) (first : ℕ) (old new : World) (e : Event) → said ≡ word → first ≡ length old.net + 1 → b ≡ a ++ event_line i said → c ≡ b ++ sent_text first new e → d ≡ c ++ block_text new e → d ≡ a ++ event_text i word old new e
event_told a b c d i said word first old new e words firsts line sent block =
    let x = event_line i word in
    let y = sent_text (length old.net + 1) new e in
    let z = block_text new e in
    let line_put : b ≡ a ++ x = line ∙ ap (λ (w : Word). a ++ event_line i w) words in
    let sent_put : c ≡ a ++ (x ++ y) = sent ∙ ap (λ k. b ++ sent_text k new e) firsts ∙ ap (λ l. l ++ y) line_put ∙ append_assoc a x y in
    block ∙ ap (λ l. l ++ z) sent_put ∙ append_assoc a (x ++ y) z

-- the next event is told, and then the events after it
pub told_from-drop : (i : ℕ) (w new : World) (es : List Event) (e : Event) → i < length es → e ≡ get_or es i e → new ≡ next_world w e → told_from i w (drop i es) ≡ event_text (i + 1) (word_of w e) w new e ++ told_from (i + 1) new (drop (i + 1) es)
told_from-drop i w new es e within read next =
    at_drop_more (told_from i w) es i e within
    ∙ ap (λ (x : Event). told_from i w (x ∷ drop (i + 1) es)) (sym read)
    ∙ ap (λ (v : World). event_text (i + 1) (word_of w e) w v e ++ told_from (i + 1) v (drop (i + 1) es)) (sym next)

-- with one event more gathered, the events after it are left
pub written-next : {K : Type 0} (takes : K → List ℕ → K → Type 0) (old mid : K) (gathered put text : List ℕ) (i : ℕ) (w new : World) (es : List Event) (e : Event) → i < length es → e ≡ get_or es i e → new ≡ next_world w e → put ≡ gathered ++ event_text (i + 1) (word_of w e) w new e → IsWritten takes old mid gathered (told_from i w (drop i es)) text → IsWritten takes old mid put (told_from (i + 1) new (drop (i + 1) es)) text
written-next takes old mid gathered put text i w new es e within read next told written =
    let more = event_text (i + 1) (word_of w e) w new e in
    let rest = told_from (i + 1) new (drop (i + 1) es) in
    gathers takes old mid gathered more put rest text told (subst (λ left. IsWritten takes old mid gathered left text) (told_from-drop i w new es e within read next) written)

-- after the last event comes the end
pub written-end : {K : Type 0} (takes : K → List ℕ → K → Type 0) (old mid : K) (gathered put text : List ℕ) (i sent : ℕ) (w : World) (es : List Event) → length es ≤ i → i ≤ length es → sent ≡ length w.net → put ≡ gathered ++ end_line (length es) sent → IsWritten takes old mid gathered (told_from i w (drop i es)) text → IsWritten takes old mid put [] text
written-end takes old mid gathered put text i sent w es past within count told written =
    let last : i ≡ length es = omega arith in
    let rest : told_from i w (drop i es) ≡ end_line (length es) sent =
    at_drop_all (told_from i w) es i past ∙ ap (λ n. end_line n (length w.net)) last ∙ ap (end_line (length es)) (sym count) in
    gathers_all takes old mid gathered (end_line (length es) sent) put text told (subst (λ left. IsWritten takes old mid gathered left text) rest written)
