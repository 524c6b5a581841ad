-- Nodes of which none has an area.
use Rattle.std.proofs.Common.{◌≡◌, ◌≤◌, ℕ, zero, suc, arith, replicate, subst, sym, List}
use Rattle.std.proofs.lemmas.List.{length-replicate}
use Rattle.std.specs.List.{AllByRecursion}
use Rattle.oc_base.specs.declared.limits.TheConstants.{MAX_AREA}
use Rattle.oc_keep.specs.KeptView.{header}
use Rattle.oc_model.specs.Lawful.{IsHeader}
use Rattle.oc_commands.specs.Checks.{AreSizes}
use Rattle.oc_model.specs.declared.header.Sizes.{Sizes}

-- areas of 0 are areas
zeros : (n : ℕ) → AllByRecursion (λ a. a ≤ MAX_AREA) (replicate n 0)
zeros zero = tt
zeros (suc n) = (omega arith, zeros n)

pub lawful_header : (n : Sizes) (areas : List ℕ) → areas ≡ replicate n.nodes 0 → AreSizes n → IsHeader (header n.nodes n.chain n.chunk areas)
lawful_header n areas is lawful = subst (λ a. IsHeader (header n.nodes n.chain n.chunk a)) (sym is) (record {
  some = lawful.some;
  few = lawful.few;
  chain = lawful.chained;
  short = lawful.short;
  within = lawful.within;
  chunk = lawful.sends;
  fits = lawful.fits;
  areas = length-replicate n.nodes 0;
  bytes = zeros n.nodes;
})
