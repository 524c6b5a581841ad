-- The paths of the input, the token and the three files of a run.
use Rattle.std.specs.Prelude.{◌≡◌, List, ℕ, ◌++◌, codes, Option, option_map, string_bytes, unwrap_or}
use Rattle.oc_words.specs.Paths.{file_asked, folder_asked, node_asked, token_file_asked}
use Rattle.oc_words.specs.declared.request.Invocation.{Invocation}
use Rattle.oc_program.specs.declared.places.Places.{Places}

-- the path of a file in a folder
abbrev pub path_in : List ℕ → List ℕ → List ℕ
path_in folder file = folder ++ codes "/" ++ file

-- the places for this node, this file instead of the input, that of a token, and the files of this
-- folder, or of the present one
pub record AreNamed (node : Option ℕ) (named shown inside : Option (List ℕ)) (p : Places) : Type 0 where
  pub node_is : p.node ≡ node
  pub input : option_map string_bytes p.input ≡ named
  pub token : option_map string_bytes p.token ≡ shown
  pub folder : string_bytes p.folder ≡ unwrap_or inside (codes ".")
  pub control : string_bytes p.control ≡ path_in (unwrap_or inside (codes ".")) (codes "control.log")
  pub alternate : string_bytes p.alternate ≡ path_in (unwrap_or inside (codes ".")) (codes "control.alt")
  pub content : string_bytes p.content ≡ path_in (unwrap_or inside (codes ".")) (codes "content.log")

-- the places named by words with this request, if they make one
abbrev pub AreAsked : Option Invocation → Places → Type 0
AreAsked asked p = AreNamed (node_asked asked) (file_asked asked) (token_file_asked asked) (folder_asked asked) p
