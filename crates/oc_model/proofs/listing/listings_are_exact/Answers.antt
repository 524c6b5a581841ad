use Rattle.oc_model.proofs.Walks.{is_listed-exact}
use Rattle.oc_model.proofs.listing.listings_are_exact.Goals as goal

pub returns : goal.returns
returns c = is_listed-exact
