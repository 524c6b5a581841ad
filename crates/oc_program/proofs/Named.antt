-- The file that the line of an end names is the one that the words name.
use Rattle.std.proofs.Common.{◌≡◌, ◌∙◌, ℕ, Bool, true, false, List, Option, Some, None, Result, Err, inl, inr, refl, sym, ap}
use Rattle.std.specs.Prelude.{ok_or}
use Rattle.oc_commands.specs.Ends.{lacks_token}
use Rattle.oc_commands.specs.Lines.{file_by, file_in, file_known, file_told, line_of}
use Rattle.oc_commands.specs.declared.ending.End.{End}
use Rattle.oc_commands.specs.declared.ending.End.TheVariants.{NoMemory}
use Rattle.oc_words.specs.Words.{Answers}
use Rattle.oc_words.specs.declared.request.Invocation.{Invocation}
use Rattle.oc_words.specs.declared.words.WordsFault.{WordsFault}
use Rattle.oc_words.specs.declared.words.WordsFault.TheVariants.{Usage, Memory}

-- the request that was read names the files that the words name
read_asked : (untokened : Bool) (asked : Option Invocation) → file_in untokened (ok_or asked Usage) ≡ file_by untokened asked
read_asked true None = refl
read_asked true (Some request) = refl
read_asked false None = refl
read_asked false (Some request) = refl

-- the line of an end names the same file, whether or not the words were read
pub line_named : (given : Result Invocation WordsFault) (asked : Option Invocation) (end : End) (usage : List ℕ) → Answers asked given → (given ≡ Err Memory → end ≡ NoMemory)
    → line_of end (file_known given end) usage ≡ line_of end (file_told asked end) usage
line_named given asked end usage (inl is) none = ap (λ file. line_of end file usage) (ap (file_in (lacks_token end)) is ∙ read_asked (lacks_token end) asked)
line_named given asked end usage (inr memory) none = ap (λ e. line_of e (file_known given end) usage) (none memory) ∙ sym (ap (λ e. line_of e (file_told asked end) usage) (none memory))
