-- The command with which `clap` parses the words, as a term: the result of its builders.
use Rattle.std.specs.Prelude.{◌≡◌, [], ◌∷◌, ◌++◌, Some, true, false, codes}
use Rattle.clap.specs.Words.{App, Rule, Shape, Text, new_app, new_rule, rule_of, shape_of, with_subcommand}
use Rattle.clap.specs.Simple.{new_shape, on_top}
use Rattle.clap.specs.declared.builder.action.ArgAction.TheVariants.{SetTrue}
use Rattle.clap.specs.declared.builder.arg.Arg.{Arg}
use Rattle.clap.specs.declared.builder.command.Command.{Command}
use Rattle.clap.specs.declared.builder.command.Command.TheViews.{out-Command as fields_of}

-- the command without its subcommands: its words begin after the program's name, one of them has to
-- be a subcommand unless they ask for help or the version, and there is no subcommand `help`
abbrev pub bare_command : App
bare_command = on_top (λ s. record s {
  has_version = true;
  no_binary_name = true;
  disable_help_subcommand = true;
  subcommand_required = true;
}) (new_app (codes "overcast"))

-- a required argument: one word in its place
abbrev pub required_rule : Text → Rule
required_rule id = record (new_rule id) { required = true }

-- a flag, which is given by two hyphens and its id
abbrev pub flag_rule : Text → Rule
flag_rule id = record (new_rule id) { long = Some id; action = Some SetTrue }

-- an option, which is given by two hyphens and its id, and one word after them
abbrev pub option_rule : Text → Rule
option_rule id = record (new_rule id) { long = Some id }

-- an argument that may be given, by one word in its place
abbrev pub optional_rule : Text → Rule
optional_rule id = new_rule id

-- a command with one more argument, the last
abbrev pub with_argument : Shape → Rule → Shape
with_argument shape rule = record shape { rules = shape.rules ++ rule ∷ [] }

-- `replay` and `replay FILE`, with the flags `--summary` and `--large`
abbrev pub replay_shape : Shape
replay_shape = record (new_shape (codes "replay")) { rules = flag_rule (codes "summary") ∷ flag_rule (codes "large") ∷ optional_rule (codes "FILE") ∷ [] }

-- `merge`
abbrev pub merge_shape : Shape
merge_shape = new_shape (codes "merge")

-- `gen SEED NODES EVENTS`
abbrev pub gen_shape : Shape
gen_shape = record (new_shape (codes "gen")) {
  rules = required_rule (codes "SEED") ∷ required_rule (codes "NODES") ∷ required_rule (codes "EVENTS") ∷ [];
}

-- `node ID`, with the options `--turns N`, `--config FILE`, `--dir FOLDER` and `--log WORD` and the flag `--probe`
abbrev pub node_shape : Shape
node_shape = record (new_shape (codes "node")) {
  rules = required_rule (codes "ID") ∷ option_rule (codes "turns") ∷ flag_rule (codes "probe") ∷ option_rule (codes "config") ∷ option_rule (codes "dir") ∷ option_rule (codes "log") ∷ [];
}

-- `check ID` and `check ID NODES CHAIN`, with the options `--config FILE` and `--dir FOLDER`
abbrev pub check_shape : Shape
check_shape = record (new_shape (codes "check")) {
  rules = required_rule (codes "ID") ∷ optional_rule (codes "NODES") ∷ optional_rule (codes "CHAIN") ∷ option_rule (codes "config") ∷ option_rule (codes "dir") ∷ [];
}

-- `get URL`, with the options `--follow N`, `--from N` and `--token-file FILE` and the flag `--progress`
abbrev pub get_shape : Shape
get_shape = record (new_shape (codes "get")) {
  rules = required_rule (codes "URL") ∷ option_rule (codes "follow") ∷ option_rule (codes "from") ∷ option_rule (codes "token-file") ∷ flag_rule (codes "progress") ∷ [];
}

-- `put URL`, with the flags `--append`, `--resume`, `--seal`, `--live` and `--progress` and the option `--token-file FILE`
abbrev pub put_shape : Shape
put_shape = record (new_shape (codes "put")) {
  rules = required_rule (codes "URL") ∷ flag_rule (codes "append") ∷ flag_rule (codes "resume") ∷ flag_rule (codes "seal") ∷ flag_rule (codes "live") ∷ option_rule (codes "token-file") ∷ flag_rule (codes "progress") ∷ [];
}

-- `rules`, with the option `--config FILE`
abbrev pub rules_shape : Shape
rules_shape = record (new_shape (codes "rules")) { rules = option_rule (codes "config") ∷ [] }

-- the command with the subcommands that take no part in a network
abbrev pub stateless_command : App
stateless_command = with_subcommand (with_subcommand (with_subcommand bare_command replay_shape) gen_shape) merge_shape

-- the command with the subcommands that make no connection, too
abbrev pub local_command : App
local_command = with_subcommand (with_subcommand stateless_command check_shape) rules_shape

-- the command with all subcommands except those of a client
abbrev pub serving_command : App
serving_command = with_subcommand local_command node_shape

-- the command with each of its subcommands
unfoldable pub command : App
command = with_subcommand (with_subcommand serving_command get_shape) put_shape

-- a is an argument of this rule, and reaches no subcommand
pub record IsArgument (rule : Rule) (a : Arg) : Type 0 where
  pub reads : rule_of a ≡ rule
  pub is_local : a.global ≡ false

-- the command is a subcommand of this shape, and none of its arguments is global
pub record IsSubcommand (shape : Shape) (c : Command) : Type 0 where
  pub reads : shape_of c ≡ shape
  pub is_local : (fields_of c).has_globals ≡ false
