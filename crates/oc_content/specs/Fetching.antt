-- The reasons why a fetch fails.
use Rattle.oc_content.specs.declared.errors.FetchError.{FetchError}
use Rattle.oc_content.specs.declared.errors.FetchError.TheVariants as fetches
use Rattle.oc_content.specs.declared.errors.ReadError.{ReadError}
use Rattle.oc_content.specs.declared.errors.ReadError.TheVariants as reads

-- the reason of the read that the fetch makes
abbrev pub of_read : ReadError → FetchError
of_read reads.NoGroup = fetches.NoGroup
of_read reads.Disk = fetches.Disk
