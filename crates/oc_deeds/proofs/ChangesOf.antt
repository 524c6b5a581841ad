-- The changes of one deed, and deeds that leave the areas of a node as they are.
use Rattle.std.proofs.Common.{◌≡◌, ◌∙◌, ℕ, Option, None, Some, List, [], ◌∷◌, ◌++◌, refl, ap, subst, sym}
use Rattle.oc_model.specs.declared.input.Input.{Input}
use Rattle.oc_model.specs.Node.{Control}
use Rattle.oc_deeds.specs.Areas.{areas_among}
use Rattle.oc_deeds.specs.Changes.{ByInput, KeepAreas, KeepsAreas, deed_change}
use Rattle.oc_deeds.specs.Deeds.{Accepts, Deed, Rereads, Takes, deed_input, reread_of}

-- a deed that takes no input and reads no configuration changes nothing of the node
pub change_none : (d : Deed) → deed_input d ≡ None → reread_of d ≡ None → deed_change d ≡ None
change_none (Takes i) none unread = absurd cc
change_none (Accepts i) none unread = absurd cc
change_none (Rereads config) none unread = absurd cc
change_none d none unread = refl

abbrev an_input : Input → Option Input
an_input i = Some i

input_is : (i j : Input) → an_input i ≡ an_input j → i ≡ j
input_is i j e = cc

-- one that takes an input changes it by that
pub change_input : (d : Deed) (i : Input) → deed_input d ≡ Some i → deed_change d ≡ Some (ByInput i)
change_input (Takes j) i is = ap (λ (x : Input). Some (ByInput x)) (input_is j i is)
change_input (Accepts j) i is = ap (λ (x : Input). Some (ByInput x)) (input_is j i is)
change_input d i is = absurd cc

-- a deed that reads no configuration keeps the areas
pub keeps_areas : (n : Control) (d : Deed) → reread_of d ≡ None → KeepsAreas n d
keeps_areas n (Rereads config) unread = absurd cc
keeps_areas n d unread = tt

keeps_same : (n m : Control) → n.nodes ≡ m.nodes → n.areas ≡ m.areas → (d : Deed) → KeepsAreas m d → KeepsAreas n d
keeps_same n m nodes areas (Rereads config) keeps = ap (λ (x : ℕ). areas_among x config.areas) nodes ∙ (keeps ∙ sym areas)
keeps_same n m nodes areas d keeps = tt

-- the areas are those of another moment of the node
pub keep_same : (n m : Control) → n.nodes ≡ m.nodes → n.areas ≡ m.areas → (ds : List Deed) → KeepAreas m ds → KeepAreas n ds
keep_same n m nodes areas [] keep = tt
keep_same n m nodes areas (d ∷ ds) keep = (keeps_same n m nodes areas d keep.0, keep_same n m nodes areas ds keep.1)
