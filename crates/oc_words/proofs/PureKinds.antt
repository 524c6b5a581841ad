-- A command without the subcommand `help` never leaves open whether it answers with help: for each
-- list of words all possible kinds of error have one verdict. The same is true of each part of a
-- parse, and `pure_x` says it of the part x.
use Rattle.std.proofs.Common.{codes, ◌≡◌, ◌⊎◌, ◌&&◌, ◌||◌, ℕ, Bool, true, false, zero, suc, refl, ap, List, [], ◌∷◌, length, Option, Some, None, is_some, not, inl, inr, cond}
use Rattle.std.specs.Option.{option_map_or}
use Rattle.std.specs.List.{list_any}
use Rattle.std.specs.Prelude.{◌==◌, ◌+◌, find, min, nat_lt, slice_get}
use Rattle.std.specs.Str.{bytes_eq, chars}
use Rattle.clap.specs.Lexer.{long_of, short_of}
use Rattle.clap.specs.Kinds.{IsAmong, Kinds, check_kinds, or_else, range_kinds, request_kinds, value_kinds, values_kinds}
use Rattle.clap.specs.Values.{refused_kind}
use Rattle.clap.specs.ValueTests.{accepts}
use Rattle.clap.specs.Facts.{explicit_source, parser_of_value, unwrap_or_range}
use Rattle.clap.specs.Matches.{count_text}
use Rattle.clap.specs.Walk.{Held, Names, Row, Rule, Step, Text, Waiting, Walk, is_pending, takes_several, idle, option, positional, next, trailing, subcommand, value, action_of, arg_by_id, arg_by_index, arg_by_long, arg_by_short, attached_value, count_of, has_row, is_empty, most_values, settled, takes_values, walked, with_default, finished, nothing_held, walk, walk_from, word_met, answers_to, subcommand_met, values_or_missing}
use Rattle.clap.specs.Simple.{App, Shape, argument_words, built, entered, label_of, names_of}
use Rattle.clap.specs.Takes.{is_given}
use Rattle.clap.specs.Faults.{action_fault, bundle_step_fault, count_fault, fault_of, flag_word_fault, flags_fault, long_fault, option_fault, other_fault, positional_fault, react_fault, set_fault, settle_fault, short_fault, stray_fault, use_fault, walk_fault, word_fault, step_fault, turn_fault, default_fault, defaults_fault, check_fault, level_fault, entered_fault}
use Rattle.clap.specs.declared.builder.action.ArgAction.{ArgAction}
use Rattle.clap.specs.declared.builder.action.ArgAction.TheVariants as action
use Rattle.clap.specs.declared.builder.value_parser.ValueParser.{ValueParser}
use Rattle.clap.specs.declared.error.kind.ErrorKind.{ErrorKind}
use Rattle.clap.specs.declared.error.kind.ErrorKind.TheVariants as kind
use Rattle.oc_words.specs.Words.{verdict_by, verdict_among}

-- all kinds in the list have the same verdict
pub record IsPure (kinds : Kinds) : Type 0 where
  pub one : (k : ErrorKind) → IsAmong k kinds → verdict_by k ≡ verdict_among kinds

-- no kind
pure_none : IsPure []
pure_none = record { one = λ k h. absurd h }

-- one kind
pure_kind : (k : ErrorKind) → IsPure (k ∷ [])
pure_kind k = record { one = λ x h. elim h [ inl e ↦ ap verdict_by e | inr none ↦ absurd none ] }

-- the first list that is not empty
pure_or_else : (a b : Kinds) → IsPure a → IsPure b → IsPure (or_else a b)
pure_or_else [] b h g = g
pure_or_else (k ∷ ks) b h g = h

-- a choice of two lists
pure_cond : (c : Bool) (a b : Kinds) → IsPure a → IsPure b → IsPure (cond c a b)
pure_cond true a b h g = h
pure_cond false a b h g = g

-- the list of the value, if there is one
pure_option : {X : Type 0} (f : X → Kinds) → ((x : X) → IsPure (f x)) → (o : Option X) → IsPure (option_map_or f o [])
pure_option f each None = pure_none
pure_option f each (Some x) = each x

-- One use of an argument

-- a value that its parser refuses
pure_value : (i : Bool) (p : ValueParser) (t : Text) → IsPure (value_kinds i p t)
pure_value i p t = pure_cond (accepts i p t) _ _ pure_none (pure_kind (refused_kind p))

-- the first of these values
pure_values : (i : Bool) (p : ValueParser) (ts : List Text) → IsPure (values_kinds i p ts)
pure_values i p [] = pure_none
pure_values i p (t ∷ ts) = pure_or_else _ _ (pure_value i p t) (pure_values i p ts)

-- a number of values out of range
pure_range : (least most n : ℕ) → IsPure (range_kinds least most n)
pure_range least most n =
    pure_cond (nat_lt 0 least && n == 0) _ _ (pure_kind kind.InvalidValue)
    (pure_cond (least == most) _ _ (pure_cond (least == n) _ _ pure_none (pure_kind kind.WrongNumberOfValues))
    (pure_cond (nat_lt n least) _ _ (pure_kind kind.TooFewValues)
    (pure_cond (nat_lt most n) _ _ (pure_kind kind.TooManyValues) pure_none)))

-- a use that is counted
pure_count : (a : Rule) (values : List Text) (rows : List Row) → IsPure (count_fault a values rows)
pure_count a [] rows = pure_value a.ignore_case (parser_of_value a.parser) (count_text (min (count_of a.id rows + 1) 255))
pure_count a (v ∷ vs) rows = pure_values _ _ (v ∷ vs)

-- a use that may not be repeated
pure_set : (again : Bool) (a : Rule) (values : List Text) (rows : List Row) → IsPure (set_fault again a values rows)
pure_set again a values rows =
    pure_or_else _ _ (pure_cond _ _ _ (pure_kind _) pure_none) (pure_values _ _ values)

-- a use that asks for help or the version
pure_request : (x : ArgAction) → IsPure (request_kinds x)
pure_request action.Help = pure_kind _
pure_request action.HelpShort = pure_kind _
pure_request action.HelpLong = pure_kind _
pure_request action.Version = pure_kind _
pure_request action.Set = pure_none
pure_request action.Append = pure_none
pure_request action.SetTrue = pure_none
pure_request action.SetFalse = pure_none
pure_request action.Count = pure_none

-- a use, by its effect
pure_action : (x : ArgAction) (again : Bool) (a : Rule) (values : List Text) (rows : List Row) → IsPure (action_fault x again a values rows)
pure_action action.Set again a values rows = pure_set again a values rows
pure_action action.SetTrue again a values rows = pure_set again a values rows
pure_action action.SetFalse again a values rows = pure_set again a values rows
pure_action action.Append again a values rows = pure_values _ _ values
pure_action action.Count again a values rows = pure_count a values rows
pure_action action.Help again a values rows = pure_kind _
pure_action action.HelpShort again a values rows = pure_kind _
pure_action action.HelpLong again a values rows = pure_kind _
pure_action action.Version again a values rows = pure_kind _

-- a use
pure_use : (again : Bool) (a : Rule) (values : List Text) (rows : List Row) → IsPure (use_fault again a values rows)
pure_use again a values rows =
    pure_or_else _ _ (pure_range (unwrap_or_range a.range).start_inclusive (most_values a) (length values))
    (pure_action (action_of a) again a (values_or_missing a values) rows)

-- A word

module _ (c : List Rule) (again : Bool) where
  -- the use that was begun before
  pure_settle : (h : Held) → IsPure (settle_fault c again h)
  pure_settle h = pure_option _ (λ p. pure_option _ (λ a. pure_use again a p.1 h.rows) (arg_by_id c p.0)) h.pending

  -- the use that was begun before, and then the use of this rule
  pure_react : (a : Rule) (values : List Text) (h : Held) → IsPure (react_fault c again a values h)
  pure_react a values h = pure_or_else _ _ (pure_settle h) (pure_use again a values (settled c h).rows)

  -- an option, with or without its value
  pure_value_of : (a : Rule) (v : Option Text) (h : Held) → IsPure (option_fault c again a v h)
  pure_value_of a (Some v) h = pure_react a (v ∷ []) h
  pure_value_of a None h = pure_settle h

  -- `--name`
  pure_long : (found : Option Rule) (v : Option Text) (h : Held) → IsPure (long_fault c again found v h)
  pure_long None v h = pure_kind kind.UnknownArgument
  pure_long (Some a) v h =
      pure_cond (takes_values a) _ _ (pure_value_of a v h)
      (pure_cond (is_some v) _ _ (pure_kind kind.TooManyValues) (pure_react a [] h))

  -- `-c`, and the flags after it in its word
  pure_short : (found : Option Rule) (rest : Text) (h : Held) (after : Held → Kinds)
      → ((h' : Held) → IsPure (after h')) → IsPure (short_fault c again found rest h after)
  pure_short None rest h after each = pure_kind kind.UnknownArgument
  pure_short (Some a) rest h after each =
      pure_cond (takes_values a) _ _ (pure_value_of a (attached_value rest) h)
      (pure_or_else _ _ (pure_react a [] h) (each _))

  -- one flag of this word
  pure_step_of : (x : Option ℕ) (flags : Text) (skip : ℕ) (h : Held) (after : Text → ℕ → Held → Kinds)
      → ((t : Text) (n : ℕ) (h' : Held) → IsPure (after t n h')) → IsPure (bundle_step_fault c again x flags skip h after)
  pure_step_of None flags skip h after each = pure_none
  pure_step_of (Some x) flags zero h after each = pure_short (arg_by_short c x) _ h _ (each _ 0)
  pure_step_of (Some x) flags (suc skip) h after each = each _ skip h

  -- all flags of this word
  pure_flags : (k : ℕ) (flags : Text) (skip : ℕ) (h : Held) → IsPure (flags_fault c again k flags skip h)
  unfolding flags_fault
  pure_flags zero flags skip h = pure_none
  pure_flags (suc k) flags skip h =
      pure_step_of (slice_get (chars flags) 0) flags skip h (flags_fault c again k) (pure_flags k)

  -- a word of flags
  pure_flag_word : (long : Option (Text × Option Text)) (word : Text) (h : Held)
      → IsPure (flag_word_fault c again long word h)
  pure_flag_word (Some p) word h = pure_long (arg_by_long c p.0) p.1 h
  pure_flag_word None word h =
      pure_option _ (λ flags. pure_flags (length flags) flags h.skip (record h { skip = 0 })) (short_of word)

-- the word `help`, where it is no subcommand
pure_help : (named off : Bool) → off ≡ true
    → IsPure (cond (named && not off) (kind.DisplayHelp ∷ kind.InvalidSubcommand ∷ []) [])
pure_help false off h = pure_none
pure_help true true h = pure_none
pure_help true false h = cc

-- a word that names no subcommand, or one where `help` is none
pure_other : (s : Shape) (named : Option Text) (word : Text) (h : Held)
    → (s.disable_help_subcommand ≡ true) ⊎ (named ≡ None) → IsPure (other_fault s named word h)
pure_other s None word h quiet =
    pure_cond _ _ _ pure_none (pure_flag_word s.rules s.args_override_self (long_of word) word h)
pure_other s (Some name) word h (inr none) = cc
pure_other s (Some name) word h (inl off) =
    pure_help (bytes_eq name (codes "help")) s.disable_help_subcommand off

-- The walk

-- no word is met as the subcommand `help`
abbrev HasNoHelp : Shape → Names → Type 0
HasNoHelp s names = (waiting : Waiting) (word : Text)
    → (s.disable_help_subcommand ≡ true) ⊎ (subcommand_met names waiting word ≡ None)

module _ (s : Shape) (names : Names) (quiet : HasNoHelp s names) where
  -- a word, before it goes to a positional
  pure_word : (is_trailing : Bool) (waiting : Waiting) (word : Text) (h : Held) → IsPure (word_fault s names is_trailing waiting word h)
  pure_word is_trailing waiting word h =
      pure_cond is_trailing _ _ pure_none
      (pure_other s (subcommand_met names waiting word) word h (quiet waiting word))

  -- a word that a positional takes
  pure_positional : (a : Rule) (h : Held) → IsPure (positional_fault s.rules s.args_override_self a h)
  pure_positional a h =
      pure_cond (is_pending a h.pending && takes_several a) _ _ pure_none (pure_settle s.rules s.args_override_self h)

  -- a word that nothing takes
  pure_stray : IsPure (stray_fault s)
  pure_stray = pure_cond s.is_leaf _ _ (pure_kind kind.UnknownArgument) (record {
    one = λ k h. elim h [
      | inl e ↦ ap verdict_by e
      | inr t ↦ elim t [ inl e ↦ ap verdict_by e | inr none ↦ absurd none ]
    ];
  })

  -- the step that a word takes
  pure_step : (position : ℕ) (h : Held) (step : Step) → IsPure (step_fault s position h step)
  pure_step position h value = found (arg_by_index s.rules position)
    where
      found : (o : Option Rule)
          → IsPure (option_map_or (λ a. positional_fault s.rules s.args_override_self a h) o (stray_fault s))
      found None = pure_stray
      found (Some a) = pure_positional a h
  pure_step position h (next waiting) = pure_none
  pure_step position h (trailing p) = pure_none
  pure_step position h (subcommand name) = pure_none

  -- one word
  pure_turn : (w : Walk) (word : Text) → IsPure (turn_fault s names w word)
  pure_turn w word =
      let met = word_met s.rules names w.is_trailing w.waiting w.position word w.held in
      pure_cond (is_some w.stopped) _ _ pure_none
      (pure_or_else _ _ (pure_word w.is_trailing w.waiting word w.held) (pure_step w.position met.0 met.1))

  -- all words
  pure_walk : (w : Walk) (words : List Text) → IsPure (walk_fault s names w words)
  unfolding walk_fault
  pure_walk w [] = pure_none
  pure_walk w (word ∷ rest) =
      pure_or_else _ _ (pure_turn w word) (pure_walk (walked s.rules names w word) rest)

-- The end of the walk

-- the default of an argument
pure_default : (rows : List Row) (a : Rule) → IsPure (default_fault rows a)
pure_default rows a =
    pure_cond (has_row a.id rows || is_empty a.defaults) _ _ pure_none
    (pure_or_else _ _ (pure_request (action_of a)) (pure_values a.ignore_case (parser_of_value a.parser) a.defaults))

-- all defaults
pure_defaults : (rows : List Row) (rules : List Rule) → IsPure (defaults_fault rows rules)
unfolding defaults_fault
pure_defaults rows [] = pure_none
pure_defaults rows (a ∷ rest) =
    pure_or_else _ _ (pure_default rows a) (pure_defaults (with_default rows a) rest)

-- the last checks, by their tests
pure_check_kinds : (help command argument : Bool) → IsPure (check_kinds help command argument)
pure_check_kinds help command argument =
    pure_cond help _ _ (pure_kind kind.DisplayHelpOnMissingArgumentOrSubcommand)
    (pure_cond command _ _ (pure_kind kind.MissingSubcommand)
    (pure_cond argument _ _ (pure_kind kind.MissingRequiredArgument) pure_none))

-- the last checks
pure_check : (s : Shape) (rows : List Row) (has_subcommand : Bool) → IsPure (check_fault s rows has_subcommand)
pure_check s rows has_subcommand = pure_check_kinds
    (not has_subcommand && (s.arg_required_else_help && not (list_any (λ r. explicit_source r.source) rows)))
    (not has_subcommand && s.subcommand_required)
    (not (s.subcommand_negates_reqs && has_subcommand) && list_any (λ a. a.required && not (is_given a.id rows)) s.rules)

-- one level of the parse
pure_level : (s : Shape) (names : Names) (h : Held) (words : List Text) (has_subcommand : Bool) (below : Kinds)
    → HasNoHelp s names → IsPure below → IsPure (level_fault s names h words has_subcommand below)
pure_level s names h words has_subcommand below quiet under =
    let end = (walk s.rules names h words).held in
    pure_or_else _ _ (pure_walk s names quiet (walk_from h) words)
    (pure_or_else _ _ under (pure_or_else _ _ (pure_settle s.rules s.args_override_self end)
    (pure_or_else _ _ (pure_defaults (settled s.rules end).rows s.rules)
    (pure_check s (finished s.rules end) has_subcommand))))

-- a command with no subcommand meets none
none_met : (s : Shape) → HasNoHelp s []
none_met s idle word = inr refl
none_met s (option id) word = inr refl
none_met s positional word = inr refl

-- the subcommand that the words enter
pure_entered : (a : App) (stop : Option (Text × List Text)) → IsPure (entered_fault a stop)
pure_entered a stop = pure_option _ (λ p.
    pure_option _ (λ s. pure_level s [] nothing_held p.1 false [] (none_met s) pure_none)
    (find (λ s. answers_to p.0 (label_of s)) a.subs)) stop

-- all kinds of error at the words have one verdict, where `help` is no subcommand
pub pure_faults : (a : App) (words : List Text) → (built a).top.disable_help_subcommand ≡ true → IsPure (fault_of a words)
pure_faults a words off =
    let app = built a in
    let rest = argument_words a words in
    let stop = (walk app.top.rules (names_of app) nothing_held rest).stopped in
    pure_level app.top (names_of app) nothing_held rest (is_some (entered app stop)) (entered_fault app stop)
    (λ _ _. inl off) (pure_entered app stop)
