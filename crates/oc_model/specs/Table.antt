use Rattle.std.specs.Prelude.{◌≡◌, ℕ, zero, suc, Bool, true, false, not, ◌&&◌, ◌||◌, ◌==◌, nat_lt, if◌then◌else◌, Option, Some, None, List, [], ◌∷◌, length, map, filter}
use Rattle.oc_base.specs.declared.cert.Cert.{Cert}
use Rattle.oc_model.specs.Certificates.{outranks}

-- Tables: one row per subject, ascending by subject.

-- the last word of a table on x
abbrev pub newest : List Cert → ℕ → Option Cert
newest [] x = None
newest (k ∷ ks) x = if k.subject == x then Some k else newest ks x

-- the table with this row in place of the row of the same subject
abbrev pub put : List Cert → Cert → List Cert
put [] c = c ∷ []
put (k ∷ ks) c = if k.subject == c.subject then c ∷ ks else if nat_lt c.subject k.subject then c ∷ k ∷ ks else k ∷ put ks c

abbrev pub is_news_to : Option Cert → Cert → Bool
is_news_to None c = true
is_news_to (Some k) c = outranks c k

-- whether merging the certificate changes the table: its subject has no row, or the certificate outranks that row
abbrev pub is_news : List Cert → Cert → Bool
is_news t c = is_news_to (newest t c.subject) c

-- the table after merging the certificate
abbrev pub merge : List Cert → Cert → List Cert
merge t c = if is_news t c then put t c else t

-- the table after merging these certificates, one after another
abbrev pub merge_all : List Cert → List Cert → List Cert
merge_all t [] = t
merge_all t (c ∷ cs) = merge_all (merge t c) cs

-- whether a certificate says that its subject is a child of y
abbrev pub is_lease_of : ℕ → Cert → Bool
is_lease_of y k = not k.dead && k.parent == y

abbrev pub lease_number : ℕ → Option Cert → Option ℕ
lease_number y None = None
lease_number y (Some k) = if is_lease_of y k then Some k.seq else None

-- the ask number at which x has a lease of y, by this table
abbrev pub leased_by : List Cert → ℕ → ℕ → Option ℕ
leased_by t y x = lease_number y (newest t x)

-- y, the owner of this table, holds the lease of x at ask number s
abbrev pub HasLease : List Cert → ℕ → ℕ → ℕ → Type 0
HasLease t y x s = leased_by t y x ≡ Some s

-- the leased children of y, ascending
abbrev pub leased_children : List Cert → ℕ → List ℕ
leased_children t y = map (λ k. k.subject) (filter (is_lease_of y) t)

abbrev pub live_parent : Option Cert → Option ℕ
live_parent None = None
live_parent (Some k) = if k.dead then None else Some k.parent

-- the parent of x, if the last word on x is alive
abbrev pub parent_in : List Cert → ℕ → Option ℕ
parent_in t x = live_parent (newest t x)

-- the nodes between x and r, on the way from x upwards by parents
abbrev pub IsWay : List Cert → ℕ → ℕ → List ℕ → Type 0
IsWay t r x [] = parent_in t x ≡ Some r
IsWay t r x (y ∷ ys) = (parent_in t x ≡ Some y) × IsWay t r y ys

-- x is another node than r, and has a way up to r
abbrev pub IsListed : List Cert → ℕ → ℕ → Type 0
IsListed t r x = (x ≡ r → ⊥) × ((ys : List ℕ) × IsWay t r x ys)

-- whether r is this node or one above it, at most this many steps up
abbrev pub reaches : ℕ → List Cert → ℕ → Option ℕ → Bool
reaches zero t r p = false
reaches (suc steps) t r None = false
reaches (suc steps) t r (Some y) = y == r || reaches steps t r (parent_in t y)

-- whether x is listed; a way passes each row at most once, so as many steps as rows are enough
abbrev pub is_listed : List Cert → ℕ → ℕ → Bool
is_listed t r x = not (x == r) && reaches (length t) t r (parent_in t x)

-- the parent of x, if x is listed beneath r
abbrev pub table_line : List Cert → ℕ → ℕ → Option ℕ
table_line t r x = if is_listed t r x then parent_in t x else None

-- the nodes listed beneath r, ascending
abbrev pub listed_in : List Cert → ℕ → List ℕ
listed_in t r = filter (is_listed t r) (map (λ k. k.subject) t)
