-- The lines of rows, one row after another.
use Rattle.std.proofs.Common.{◌≡◌, ℕ, zero, suc, ◌+◌, ◌<◌, Option, Some, None, IfSome, List, [], ◌∷◌, ◌++◌, length, drop, get_or, refl, ap, sym, subst, ◌∙◌, append_assoc, arith, Bool, true, false, not, ◌==◌, map, filter}
use Rattle.std.proofs.lemmas.Bool.{and_parts}
use Rattle.oc_model.specs.Table.{parent_in, reaches, is_listed, listed_in}
use Rattle.oc_model.proofs.Walks.{walk_ends}
use Rattle.std.specs.List.{filter_map}
use Rattle.oc_base.specs.declared.cert.Cert.{Cert}
use Rattle.oc_base.specs.declared.cert.Line.{Line}
use Rattle.oc_model.specs.Status.{listing}
use Rattle.oc_updown.specs.Listing.{subjects, line_in, lines_of_row}
use Rattle.oc_updown.specs.TableView.{AreRowsFrom, entries_of}
use Rattle.oc_base.specs.Lawful.{IsNode}

-- the lines that these rows give
abbrev pub lines_among : List Cert → ℕ → List (Option Cert) → List Line
lines_among t r rows = filter_map (line_in t r) (subjects (entries_of rows))

-- the first row gives its line, and the rest the others
pub lines_cons : (t : List Cert) (r : ℕ) (row : Option Cert) (rows : List (Option Cert)) → lines_among t r (row ∷ rows) ≡ lines_of_row t r row ++ lines_among t r rows
lines_cons t r None rows = refl
lines_cons t r (Some k) rows = by_line (line_in t r k.subject) refl where
  by_line : (line : Option Line) → line_in t r k.subject ≡ line → lines_among t r (Some k ∷ rows) ≡ lines_of_row t r (Some k) ++ lines_among t r rows
  by_line None e = rw e
  by_line (Some line) e = rw e

-- the rest from a row on is that row and the rest after it
pub rows_at : (rows : List (Option Cert)) (i : ℕ) (row : Option Cert) → i < length rows → row ≡ get_or rows i row → drop i rows ≡ row ∷ drop (i + 1) rows
rows_at [] i row within e = absurd (omega arith)
rows_at (x ∷ rows) zero row within e = ap (λ (y : Option Cert). y ∷ rows) (sym e)
rows_at (x ∷ rows) (suc i) row within e = let more : suc i + 1 ≡ suc (i + 1) = omega arith in rw more (rows_at rows i row (omega arith) e)

-- the rest still completes the whole after the line of a row was added
pub lines_go_on : (t : List Cert) (r : ℕ) (rows : List (Option Cert)) (i : ℕ) (row : Option Cert) (before after whole : List Line) → i < length rows → row ≡ get_or rows i row → after ≡ before ++ lines_of_row t r row → before ++ lines_among t r (drop i rows) ≡ whole → after ++ lines_among t r (drop (i + 1) rows) ≡ whole
lines_go_on t r rows i row before after whole within e put so =
    let here : lines_among t r (drop i rows) ≡ lines_of_row t r row ++ lines_among t r (drop (i + 1) rows) = ap (lines_among t r) (rows_at rows i row within e) ∙ lines_cons t r row (drop (i + 1) rows) in
    rw put (append_assoc before (lines_of_row t r row) (lines_among t r (drop (i + 1) rows)) ∙ (sym (ap (λ (ls : List Line). before ++ ls) here) ∙ so))

-- the rows after a row are of the nodes after its node
pub rows_go_on : (nodes i : ℕ) (rows : List (Option Cert)) (row : Option Cert) → i < length rows → row ≡ get_or rows i row → AreRowsFrom nodes (i + 1) (drop i rows) → AreRowsFrom nodes ((i + 1) + 1) (drop (i + 1) rows)
rows_go_on nodes i rows row within e fit = by_row row (subst (λ (rs : List (Option Cert)). AreRowsFrom nodes (i + 1) rs) (rows_at rows i row within e) fit) where
  by_row : (row : Option Cert) → AreRowsFrom nodes (i + 1) (row ∷ drop (i + 1) rows) → AreRowsFrom nodes ((i + 1) + 1) (drop (i + 1) rows)
  by_row None fit = fit
  by_row (Some k) fit = fit.2

-- a row is of a node
pub row_is_of_node : (nodes i : ℕ) (rows : List (Option Cert)) (row : Option Cert) → i < length rows → row ≡ get_or rows i row → AreRowsFrom nodes (i + 1) (drop i rows) → IfSome row (λ k. IsNode nodes k.subject)
row_is_of_node nodes i rows row within e fit = by_row row (subst (λ (rs : List (Option Cert)). AreRowsFrom nodes (i + 1) rs) (rows_at rows i row within e) fit) where
  by_row : (row : Option Cert) → AreRowsFrom nodes (i + 1) (row ∷ drop (i + 1) rows) → IfSome row (λ k. IsNode nodes k.subject)
  by_row None fit = tt
  by_row (Some k) fit = fit.1.subject

-- a listed node has a parent
listed_parent : (t : List Cert) (r x : ℕ) → is_listed t r x ≡ true → parent_in t x ≡ None → ⊥
listed_parent t r x listed none =
    let walk : reaches (length t) t r (parent_in t x) ≡ true = (and_parts (not (x == r)) (reaches (length t) t r (parent_in t x)) listed).1 in
    let ends : reaches (length t) t r (parent_in t x) ≡ false = ap (reaches (length t) t r) none ∙ walk_ends (length t) t r in
    let no : true ≡ false = sym walk ∙ ends in
    absurd cc

-- the nodes of the lines are those of the nodes that are listed
lines_nodes_of : (t : List Cert) (r : ℕ) (xs : List ℕ) → map (λ (l : Line). l.node) (filter_map (line_in t r) xs) ≡ filter (is_listed t r) xs
lines_nodes_of t r [] = refl
lines_nodes_of t r (x ∷ xs) = by_test (lines_nodes_of t r xs) (is_listed t r x) refl (parent_in t x) refl where
  by_test : map (λ (l : Line). l.node) (filter_map (line_in t r) xs) ≡ filter (is_listed t r) xs → (b : Bool) → is_listed t r x ≡ b → (p : Option ℕ) → parent_in t x ≡ p → map (λ (l : Line). l.node) (filter_map (line_in t r) (x ∷ xs)) ≡ filter (is_listed t r) (x ∷ xs)
  by_test rest true e None h = absurd (listed_parent t r x e h)
  by_test rest true e (Some y) h = rw (e, h) (ap (λ (zs : List ℕ). x ∷ zs) rest)
  by_test rest false e p h = rw e rest

pub lines_nodes : (t : List Cert) (r : ℕ) → map (λ (l : Line). l.node) (listing t r) ≡ listed_in t r
lines_nodes t r = lines_nodes_of t r (subjects t)
