-- The tables of access rules.
use Rattle.std.specs.Prelude.{ℕ, Bool, if◌then◌else◌, Option, Some, None, Result, Ok, List, [], ◌∷◌, ◌++◌, codes}
use Rattle.std.specs.Result.{result_ok}
use Rattle.std.specs.Str.{bytes_eq}
use Rattle.toml.specs.Data.{Data, as_str, as_bool}
use Rattle.oc_base.specs.Steps.{◌>>=◌}
use Rattle.oc_policy.specs.Prefixes.{parsed_prefix}
use Rattle.oc_policy.specs.Tokens.{parsed_token}
use Rattle.oc_policy.specs.declared.deciding.TheConstants.{MAX_RULES}
use Rattle.oc_policy.specs.declared.rule.Action.{Action}
use Rattle.oc_policy.specs.declared.rule.Action.TheVariants.{Get, Post}
use Rattle.oc_policy.specs.declared.rule.Rule.{Rule}
use Rattle.oc_config.specs.Values.{Section, value_in, required, read_as, read_if, area_in, tables_in}
use Rattle.oc_config.specs.declared.fault.ConfigFault.{ConfigFault}
use Rattle.oc_config.specs.declared.config_key.ConfigKey.TheVariants.{Rule as RuleKey, Allow, Prefix, Method, Token}
use Rattle.oc_config.specs.declared.section_name.Kind.TheVariants as kinds

abbrev pub allow_in : Section → Result Bool ConfigFault
allow_in s = do
  d ← required Allow s
  read_as Allow s (as_bool d)

-- the text, where it is a prefix
abbrev pub prefix_of : Option (List ℕ) → Option (List ℕ)
prefix_of None = None
prefix_of (Some text) = result_ok (parsed_prefix text)

abbrev pub prefix_in : Section → Result (List ℕ) ConfigFault
prefix_in s = do
  d ← required Prefix s
  read_as Prefix s (prefix_of (as_str d))

-- the action that a text names
abbrev pub action_of : Option (List ℕ) → Option Action
action_of None = None
action_of (Some text) =
    if bytes_eq text (codes "get") then Some Get
    else if bytes_eq text (codes "post") then Some Post
    else None

abbrev pub method_of : Data → Option Action
method_of d = action_of (as_str d)

abbrev pub method_in : Section → Result (Option Action) ConfigFault
method_in s = read_if Method s method_of (value_in Method s)

-- the text, where it is a token
abbrev pub lawful_token : Option (List ℕ) → Option (List ℕ)
lawful_token None = None
lawful_token (Some text) = result_ok (parsed_token text)

abbrev pub token_of : Data → Option (List ℕ)
token_of d = lawful_token (as_str d)

abbrev pub token_in : Section → Result (Option (List ℕ)) ConfigFault
token_in s = read_if Token s token_of (value_in Token s)

-- the rule of a table
abbrev pub rule_in : Section → Result Rule ConfigFault
rule_in s = do
  allow ← allow_in s
  prefix ← prefix_in s
  action ← method_in s
  area ← area_in s
  token ← token_in s
  Ok (record { allow = allow; action = action; prefix = prefix; area = area; token = token })

-- the rules so far and those of these tables, in their order
abbrev pub rules_from : List Rule → List Section → Result (List Rule) ConfigFault
rules_from so_far [] = Ok so_far
rules_from so_far (s ∷ rest) = do
  rule ← rule_in s
  rules_from (so_far ++ rule ∷ []) rest

-- the tables of an array of rules; none where there is no such key
abbrev pub rule_tables_at : Section → Option Data → Result (List Section) ConfigFault
rule_tables_at s None = Ok []
rule_tables_at s (Some d) = read_as RuleKey s (tables_in kinds.Rule 0 MAX_RULES d)

abbrev pub rule_tables_in : Section → Result (List Section) ConfigFault
rule_tables_in s = rule_tables_at s (value_in RuleKey s)
