-- The answer of the program to the words is the request that they make.
use Rattle.std.proofs.Common.{◌≡◌, ◌≢◌, ◌⊎◌, ◌∙◌, ap, ap₂, refl, sym, subst, inl, inr, true, List, [], Option, None, Result, Ok, Err, ⊎_elim}
use Rattle.std.specs.Prelude.{ok_or}
use Rattle.std.specs.Result.{result_ok}
use Rattle.clap.specs.Words.{App, HasKind, Row, Text, fault_of, is_simple, is_simple_and_free, kind_of, subcommand_of}
use Rattle.clap.specs.Simple.{built}
use Rattle.clap.specs.declared.error.Error.{Error}
use Rattle.clap.specs.declared.error.kind.ErrorKind.{ErrorKind}
use Rattle.clap.specs.declared.error.kind.ErrorKind.TheVariants as kind
use Rattle.oc_base.specs.declared.why.Why.{Why}
use Rattle.oc_words.specs.declared.request.Invocation.{Invocation}
use Rattle.oc_words.specs.declared.words.WordsFault.{WordsFault}
use Rattle.oc_words.specs.declared.words.WordsFault.TheVariants.{Usage, Memory}
use Rattle.oc_words.specs.Command.{command}
use Rattle.oc_words.specs.Words.{Answers, ParseOutcome, asked, asked_by, asking, request_of, verdict_among, verdict_by, verdict_of}
use Rattle.oc_words.proofs.PureKinds.{pure_faults}

-- memory is answered by memory, and each other kind by its verdict
abbrev pub AnswersKind : ErrorKind → Result Invocation WordsFault → Type 0
AnswersKind k r = (k ≡ kind.OutOfMemory → r ≡ Err Memory) × (k ≢ kind.OutOfMemory → r ≡ ok_or (asked_by (verdict_by k) None) Usage)

-- words that are not accepted make the same request, whichever words follow the name of a
-- subcommand
not_accepted : (k : ErrorKind) (named : Option (Text × List Row)) → asked_by (verdict_by k) None ≡ asked_by (verdict_by k) named
not_accepted kind.DisplayHelp named = refl
not_accepted k named = refl

-- an answer to a kind of error is an answer to its verdict
by_kind : (v : ParseOutcome) (named : Option (Text × List Row)) (k : ErrorKind) (r : Result Invocation WordsFault) → AnswersKind k r
    → (k ≡ kind.OutOfMemory) ⊎ (verdict_by k ≡ v) → Answers (asked_by v named) r
by_kind v named kind.OutOfMemory r a h = inr (a.0 refl)
by_kind v named k r a (inl e) = cc
by_kind v named k r a (inr e) = inl (a.1 (λ m. cc) ∙ ap (λ (o : Option Invocation). ok_or o Usage) (not_accepted k named ∙ ap (λ w. asked_by w named) e))

-- an answer to the words of a command's fields is one to those of the command
abbrev over : {A : Type 0} → (A → Invocation) → Result A WordsFault → Result Invocation WordsFault
over make (Ok fields) = Ok (make fields)
over make (Err why) = Err why

pub asks_with : {A : Type 0} (make : A → Invocation) (said : Result A Why) (fields : A)
    → Answers (result_ok said) (Ok fields) → Answers (result_ok (asking make said)) (Ok (make fields))
asks_with make (Ok x) fields (inl same) = inl (ap (over make) same)
asks_with make (Err why) fields (inl same) = inl (ap (over make) same)
asks_with make said fields (inr memory) = inr (ap (over make) memory)

-- all that `clap` says of its answers holds of the command
is_exact : is_simple_and_free command ≡ true
unfolding command
is_exact = refl

-- all that `clap` says of the matches of a command holds of those of this one
has_exact_matches : is_simple command ≡ true
unfolding command
has_exact_matches = refl

-- the command has no subcommand `help`
has_no_help : (built command).top.disable_help_subcommand ≡ true
unfolding command
has_no_help = refl

module _ (a : App) (is : a ≡ command) (words : List Text) where
  -- no error came, so that none can come, and the words make the request of their subcommand
  pub passed : (named : Option (Text × List Row)) → (is_simple_and_free a ≡ true → fault_of a words ≡ [])
      → (is_simple a ≡ true → named ≡ subcommand_of a words) → asked words ≡ result_ok (request_of named)
  unfolding verdict_of asked
  passed named none same =
      let no_fault : fault_of command words ≡ [] = ap (λ x. fault_of x words) (sym is) ∙ none (ap is_simple_and_free is ∙ is_exact) in
      let same_named : subcommand_of command words ≡ named = ap (λ x. subcommand_of x words) (sym is) ∙ sym (same (ap is_simple is ∙ has_exact_matches)) in
      ap₂ asked_by (ap verdict_among no_fault) same_named

  -- an error came, which is of one of the kinds that can
  pub failed : (e : Error) (r : Result Invocation WordsFault)
      → (is_simple_and_free a ≡ true → HasKind (fault_of a words) e) → AnswersKind (kind_of e) r → Answers (asked words) r
  unfolding verdict_of asked
  failed e r h answer =
      let among = subst (λ (x : App). HasKind (fault_of x words) e) is (h (ap is_simple_and_free is ∙ is_exact)) in
      by_kind (verdict_of words) (subcommand_of command words) (kind_of e) r answer
      (⊎_elim (λ m. inl m) (λ i. inr ((pure_faults command words has_no_help).one (kind_of e) i)) among)
