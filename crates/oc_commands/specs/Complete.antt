-- The cases in which a command can only do its work, or run out of memory.
use Rattle.std.specs.Prelude.{◌≡◌, ◌⊎◌, ℕ, Bool, Option, Some, None, List, ◌++◌, map}
use Rattle.oc_client.specs.Addresses.{IsAddressOf}
use Rattle.oc_client.specs.Completeness.{LeadToContent, text_of}
use Rattle.oc_client.specs.Downloads.{first_state}
use Rattle.oc_client.specs.FetchOptions.{FetchOptions}
use Rattle.oc_link.specs.Story.{Dial, Story, dials}
use Rattle.url.specs.Parts.{Parts}
use Rattle.oc_words.specs.declared.request.Download.{Download}

-- the work was done, or memory ran out
abbrev pub IsDoneOrMemory : ℕ → Type 0
IsDoneOrMemory status = (status ≡ 0) ⊎ (status ≡ 4)

-- one download of an address, with the first byte if given, and with progress lines or without
abbrev pub once : List ℕ → Option ℕ → Bool → Download
once address start progress = record { address = address; times = None; start = start; token_file = None; progress = progress }

-- the options of a client without a token
abbrev pub plainly : Option ℕ → FetchOptions
plainly start = record { from = start; token = None }

-- the address is a URL, and the dials gave replies each of which led to the next, up to a 200 with
-- a whole content
pub record IsServed (address : List ℕ) (start : Option ℕ) (old new : Option Story) : Type 0 where
  pub url : Parts
  pub address_is : IsAddressOf address url
  pub before : Story
  pub after : Story
  pub told_before : old ≡ Some before
  pub told_after : new ≡ Some after
  pub made : List Dial
  pub dials_are : dials after ≡ dials before ++ made
  pub lead : LeadToContent (plainly start) (first_state start url 1) (map text_of made)
