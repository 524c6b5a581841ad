use Rattle.std.specs.Prelude.{ℕ, List, codes}
use Rattle.oc_base.specs.declared.why.Why.{Why}
use Rattle.oc_base.specs.declared.why.Why.TheVariants.{Header, Word, Count, Number, Range, Group, Hex}

-- the word for a cause in an error line
abbrev pub why_text : Why → List ℕ
why_text Header = codes "header"
why_text Word = codes "word"
why_text Count = codes "count"
why_text Number = codes "number"
why_text Range = codes "range"
why_text Group = codes "group"
why_text Hex = codes "hex"
