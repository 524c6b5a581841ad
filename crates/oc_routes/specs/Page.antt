-- The page at `/!`.
use Rattle.std.specs.Prelude.{ℕ, List}
use Rattle.oc_routes.specs.declared.routes.page.TheConstants.{PAGE}

-- the text of this crate; nothing is said of the drawing that it makes
unfoldable pub page_text : List ℕ
page_text = PAGE.now
