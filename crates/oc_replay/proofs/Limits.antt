-- A text that is refused for the limit on bytes is too long: no other fault is called so.
use Rattle.std.proofs.Common.{◌≡◌, ℕ, ◌+◌, ◌<◌, Option, Some, None, Result, Ok, Err, List, [], ◌∷◌, length, nat_lt, subst}
use Rattle.std.proofs.lemmas.Bool.{cond_both, ltb-true}
use Rattle.std.specs.Str.Lines.{lines}
use Rattle.oc_base.specs.declared.why.Why.{Why}
use Rattle.oc_schedule.specs.declared.fault.ScheduleFault.{ScheduleFault}
use Rattle.oc_schedule.specs.declared.fault.ScheduleFault.TheVariants.{Line, Limit, Memory}
use Rattle.oc_schedule.specs.declared.fault.What.{What}
use Rattle.oc_schedule.specs.declared.fault.What.TheVariants.{Lines, Bytes, Published, Settles}
use Rattle.oc_base.specs.Words.{words}
use Rattle.oc_base.specs.declared.limits.TheConstants.{MAX_SCHEDULE_SETTLES}
use Rattle.oc_schedule.specs.declared.scale.Scale.{Scale}
use Rattle.oc_schedule.specs.Limits.{most_of}
use Rattle.oc_schedule.specs.Reading.{at_line, Gives}
use Rattle.oc_base.specs.Steps.{◌>>=◌}
use Rattle.oc_schedule.specs.Schedule.{schedule_of, read_lines, read_line, read_words, read_statement, within_limits, script_after, is_comment}
use Rattle.oc_schedule.specs.Script.{Script, published_in, settles_in}
use Rattle.oc_replay.specs.Ends.{IfLimit, end_of_schedule}
use Rattle.oc_replay.specs.Replay.{IsInput, PassesLimit}

-- a result other than a refusal for the limit on bytes
abbrev IsOther : {A : Type 0} → Result A ScheduleFault → Type 0
IsOther (Err (Limit Bytes)) = ⊥
IsOther read = Unit {0}

-- two steps in a row give no such refusal, where neither does
IsOther-bind : {A B : Type 0} (r : Result A ScheduleFault) (f : A → Result B ScheduleFault) → IsOther r → ((x : A) → IsOther (f x)) → IsOther (r >>= f)
IsOther-bind (Ok x) f first next = next x
IsOther-bind (Err (Limit Bytes)) f first next = first
IsOther-bind (Err (Limit Lines)) f first next = tt
IsOther-bind (Err (Limit Published)) f first next = tt
IsOther-bind (Err (Limit Settles)) f first next = tt
IsOther-bind (Err (Line i why)) f first next = tt
IsOther-bind (Err Memory) f first next = tt

IsOther-at_line : {A : Type 0} (i : ℕ) (r : Result A Why) → IsOther (at_line i r)
IsOther-at_line i (Ok x) = tt
IsOther-at_line i (Err why) = tt

IsOther-statement : (scale : Scale) (i : ℕ) (so_far : Option Script) (word : List ℕ) (fields : List (List ℕ)) → IsOther (read_statement scale i so_far word fields)
IsOther-statement scale i so_far word fields =
    let said = script_after scale so_far word fields in
    IsOther-bind (at_line i said) (within_limits scale) (IsOther-at_line i said)
    (λ s. cond_both (nat_lt (most_of scale Published) (published_in s.events)) (Err (Limit Published)) _ IsOther (λ _. tt)
    (λ _. cond_both (nat_lt MAX_SCHEDULE_SETTLES (settles_in s.events)) (Err (Limit Settles)) (Ok s) IsOther (λ _. tt) (λ _. tt)))

IsOther-words : (scale : Scale) (i : ℕ) (so_far : Option Script) (ws : List (List ℕ)) → IsOther (read_words scale i so_far ws)
IsOther-words scale i so_far [] = tt
IsOther-words scale i so_far (word ∷ fields) =
    cond_both (is_comment word) _ _ IsOther (λ _. tt)
    (λ _. IsOther-bind (read_statement scale i so_far word fields) (λ s. Ok (Some s)) (IsOther-statement scale i so_far word fields) (λ s. tt))

IsOther-line : (scale : Scale) (i : ℕ) (so_far : Option Script) (line : List ℕ) → IsOther (read_line scale i so_far line)
IsOther-line scale i so_far line =
    cond_both (nat_lt (most_of scale Lines) i) (Err (Limit Lines)) (read_words scale i so_far (words line)) IsOther (λ _. tt) (λ _. IsOther-words scale i so_far (words line))

IsOther-lines : (scale : Scale) (i : ℕ) (so_far : Option Script) (ls : List (List ℕ)) → IsOther (read_lines scale i so_far ls)
IsOther-lines scale i None [] = tt
IsOther-lines scale i (Some s) [] = tt
IsOther-lines scale i so_far (line ∷ rest) =
    IsOther-bind (read_line scale i so_far line) (λ next. read_lines scale (i + 1) next rest) (IsOther-line scale i so_far line) (λ next. IsOther-lines scale (i + 1) next rest)

-- a text that is refused for the limit on bytes is too long
too_long : (scale : Scale) (bytes : List ℕ) → schedule_of scale bytes ≡ Err (Limit Bytes) → most_of scale Bytes < length bytes
too_long scale bytes =
    cond_both (nat_lt (most_of scale Bytes) (length bytes)) (Err (Limit Bytes)) (read_lines scale 1 None (lines bytes)) (λ (read : Result Script ScheduleFault). read ≡ Err (Limit Bytes) → most_of scale Bytes < length bytes)
    (λ long _. ltb-true (most_of scale Bytes) (length bytes) long)
    (λ _ e. absurd (subst IsOther e (IsOther-lines scale 1 None (lines bytes))))

limit-passed : {S : Type 0} (scale : Scale) (gives : S → List ℕ → S → Type 0) (ended : S → Type 0) (old new : S) (what : What) → IsInput scale gives ended old new (Err (Limit what)) → PassesLimit scale gives ended old new what
limit-passed scale gives ended old new Bytes input = (input.bytes, input.came, too_long scale input.bytes input.read)
limit-passed scale gives ended old new Lines input = input
limit-passed scale gives ended old new Published input = input
limit-passed scale gives ended old new Settles input = input

-- an input that is refused for a limit passes it
pub limit-at : {S : Type 0} (scale : Scale) (gives : S → List ℕ → S → Type 0) (ended : S → Type 0) (old new : S) (bytes : List ℕ) (fault : ScheduleFault) → gives old bytes new → ended new → Gives {A = Script} (Err fault) (schedule_of scale bytes) → IfLimit (end_of_schedule fault) (PassesLimit scale gives ended old new)
limit-at scale gives ended old new bytes (Limit what) came whole read = limit-passed scale gives ended old new what (record { bytes = bytes; came = came; whole = whole; read = read })
limit-at scale gives ended old new bytes (Line i why) came whole read = tt
limit-at scale gives ended old new bytes Memory came whole read = tt
