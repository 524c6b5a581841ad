-- The current control file and the other one, as the first and the second.
use Rattle.std.proofs.Common.{IsTrue}
use Rattle.oc_io.specs.DiskView.{DiskView}
use Rattle.oc_store.specs.ControlFiles.{at_side}
use Rattle.oc_store.specs.declared.errors.Side.{Side}
use Rattle.oc_store.specs.declared.errors.Side.TheVariants.{First, Second}
use Rattle.oc_store.specs.StoreView.{StoreView, first_disk, second_disk}
use Rattle.oc_store.specs.StoreView as stores

-- a property of both sides holds of both files
pub sides_both : {A : Type 0} (P : A → Type 0) (side : Side) (x y : A) → P (at_side side x y) → P (at_side side y x) → P x × P y
sides_both P First x y h k = (h, k)
sides_both P Second x y h k = (k, h)

-- a property of both files holds of both sides
pub both_sides : {A : Type 0} (P : A → Type 0) (side : Side) (x y : A) → P x → P y → P (at_side side x y) × P (at_side side y x)
both_sides P First x y h k = (h, k)
both_sides P Second x y h k = (k, h)

-- the same for a relation between two pairs of files
pub related_sides : {A : Type 0} (R : A → A → Type 0) (side : Side) (x y x2 y2 : A) → R x x2 → R y y2 → R (at_side side x y) (at_side side x2 y2) × R (at_side side y x) (at_side side y2 x2)
related_sides R First x y x2 y2 h k = (h, k)
related_sides R Second x y x2 y2 h k = (k, h)

-- both disks of a store are honest
pub honest_store : {D : Type 0} (view : D → DiskView) (s : StoreView D) → IsTrue (view (first_disk s)).honest → IsTrue (view (second_disk s)).honest → stores.AreHonest view s
honest_store view s h k = sides_both (λ d. IsTrue (view d).honest) s.side s.current.disk s.other.disk h k

-- both disks of a store are reliable
pub reliable_store : {D : Type 0} (view : D → DiskView) (s : StoreView D) → IsTrue (view (first_disk s)).reliable → IsTrue (view (second_disk s)).reliable → IsTrue (view s.current.disk).reliable × IsTrue (view s.other.disk).reliable
reliable_store view s h k = sides_both (λ d. IsTrue (view d).reliable) s.side s.current.disk s.other.disk h k
