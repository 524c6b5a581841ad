use Rattle.std.specs.Prelude.{ℕ, List, codes}
use Rattle.oc_merge.specs.declared.fault.Most.{Most}
use Rattle.oc_merge.specs.declared.fault.Most.TheVariants.{Lines, Bytes, Published}
use Rattle.oc_merge.specs.declared.fault.TheConstants.{MAX_RECORD_LINES, MAX_RECORD_BYTES, MAX_RECORD_PUBLISHED}

-- The limits on records.

-- the greatest number that is allowed by each limit
abbrev pub most_of : Most → ℕ
most_of Lines = MAX_RECORD_LINES
most_of Bytes = MAX_RECORD_BYTES
most_of Published = MAX_RECORD_PUBLISHED

-- the word that names each
abbrev pub most_text : Most → List ℕ
most_text Lines = codes "lines"
most_text Bytes = codes "bytes"
most_text Published = codes "published"
