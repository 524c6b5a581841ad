-- The lines of a node's deeds are the text of a run.
use Rattle.std.proofs.Common.{◌≡◌, ℕ, Option, Some, None, List, [], ◌∷◌, ◌++◌, refl, ap, sym, ◌∙◌}
use Rattle.std.proofs.lemmas.List.{append-nil}
use Rattle.oc_base.specs.Groups.{shelf}
use Rattle.oc_model.specs.declared.input.Input.{Input}
use Rattle.oc_model.specs.Node.{Node}
use Rattle.oc_deeds.specs.Deeds.{Deed, Setting, inputs_of, with_input}
use Rattle.oc_deeds.specs.Recorded.{IsRecordOf, RecordLine, Taken, Noted, inputs_in, line_of_next, record_lines, record_text}
use Rattle.oc_deeds.specs.Records.{record_head}
use Rattle.oc_deeds.specs.declared.log.Log.TheVariants.{Record}
use Rattle.oc_laws_records.specs.Written.{IsRunOf}

pub inputs_append : (ls more : List RecordLine) → inputs_in (ls ++ more) ≡ inputs_in ls ++ inputs_in more
inputs_append [] more = refl
inputs_append (Taken i ∷ ls) more = ap (λ (is : List Input). i ∷ is) (inputs_append ls more)
inputs_append (Noted text ∷ ls) more = inputs_append ls more

pub next_inputs : (next : Option Input) → inputs_in (line_of_next next) ≡ with_input next []
next_inputs None = refl
next_inputs (Some i) = refl

pub written_run : (s : Setting) (n : Node) (d : Deed) (ds behind : List Deed) → s.me ≡ n.control.me → s.log ≡ Record → IsRecordOf s n (d ∷ ds) behind → IsRunOf s n (d ∷ ds) behind
written_run s n d ds behind me log record_of =
    let is = record_of log in
    let told = record_lines (d ∷ ds) ++ line_of_next is.next in
    let head = record_head n.control (shelf n.groups) in
    record {
      run = record { node = n; lines = told; cut = [] };
      next = is.next;
      node = refl;
      text = is.text ∙ (ap (λ (x : ℕ). head ++ record_text x told) me ∙ sym (append-nil (head ++ record_text n.control.me told)));
      inputs = inputs_append (record_lines (d ∷ ds)) (line_of_next is.next) ∙ (ap (λ (taken : List Input). taken ++ inputs_in (line_of_next is.next)) is.inputs ∙ ap (λ (more : List Input). inputs_of (d ∷ ds) ++ more) (next_inputs is.next));
      follows = is.follows;
    }
