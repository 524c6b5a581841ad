-- A node whose control files were turned over, or should have been.
use Rattle.std.proofs.Common.{◌≡◌, ◌+◌, ◌-◌, ◌<◌, ◌^◌, Bool, false, refl, sym, subst, ⊎_elim}
use Rattle.oc_io.specs.DiskView.{DiskView}
use Rattle.oc_io.proofs.DiskMoments.{StaysAsItWas-none}
use Rattle.oc_model.specs.Snapshot.{snapshot}
use Rattle.oc_store.specs.StoreView.{StoreView}
use Rattle.oc_keep.specs.Files.{AllGoOn, SameDurable}
use Rattle.oc_keep.specs.KeptView.{AtAnyMoment, IsHonest, IsKept, KeptView, disks_of, node_of}
use Rattle.oc_keep.specs.Promises.{ChangesNothing}
use Rattle.oc_keep.specs.Turning.{IsShort, StoreGoesOn}
use Rattle.oc_keep.specs.Writing.{KeepsStore}
use Rattle.oc_keep.proofs.Committing.{Goods, Reads}
use Rattle.oc_keep.proofs.Replacing.{Stands, next_count, turned_kept, turned_moments}
use Rattle.oc_keep.proofs.Settled.{Turned}
use Rattle.oc_keep.proofs.Stays.{Law, all_go_on, closed_kept, nothing_kept, nothing_moments, nothing_stays, puts_none}

module _ {D : Type 0} (view : D → DiskView) (k : KeptView D) (s2 : StoreView D) (b : Bool) where
  -- the node after the call
  abbrev k2 : KeptView D
  k2 = record k { store = s2; closed = b }

  -- nothing was written
  unwritten : KeepsStore view k.store s2 → ChangesNothing view k k2
  unwritten keeps = record { control = refl; store = keeps; content = puts_none view k.content }

  -- the disks go on where those of the store do
  gone_on : StoreGoesOn view k.store s2 → AllGoOn view (disks_of k) (disks_of k2)
  gone_on on = record { control = on.first; alternate = on.second; content = (StaysAsItWas-none (view k.content.journal.disk)).goes_on }

  -- the control files were turned over, were left, or a disk failed
  abbrev pub Tidied : Type 0
  Tidied = Turned view (snapshot (k.store.generation + 1) k.node.control.kept) (IsShort (k.store.generation + 1) k.node.control.kept) k.store s2 b

  -- the disks go on after each of these
  pub tidied_goes_on : Tidied → AllGoOn view (disks_of k) (disks_of k2)
  tidied_goes_on so = ⊎_elim (λ h. gone_on h.0.1.goes_on) (λ rest. ⊎_elim (λ h. all_go_on view (disks_of k) (disks_of k2) (nothing_stays view k k2 (unwritten h.0))) (λ h. gone_on h.0.1.goes_on) rest) so

  module _ (reads : Reads) (stands : Stands) (is : IsKept view k) (was_open : k.closed ≡ false) (next : k.store.generation < 2 ^ 64 - 1) (so : Tidied) where
    -- the node stays on its files after each of these
    pub tidied_kept : Goods → IsKept view k2
    tidied_kept goods =
        ⊎_elim (λ h. turned_kept view reads stands k is was_open (next_count k.store.generation next) h.0.0.based goods s2 b h.0.1)
        (λ rest. ⊎_elim (λ h. nothing_kept view k k2 is (unwritten h.0) (λ _. (was_open, refl)))
        (λ h. subst (λ (closed : Bool). IsKept view (record k { store = s2; closed = closed })) (sym h.1) (closed_kept view k s2 is)) rest) so

    -- a crash at any moment leaves the same node
    pub tidied_moments : Law view → IsHonest view k → AtAnyMoment view k k2 (SameDurable (node_of k))
    tidied_moments law honest =
        ⊎_elim (λ h. turned_moments view reads stands k is was_open (next_count k.store.generation next) h.0.0.based law s2 b h.0.1.later h.0.1.any_moment honest)
        (λ rest. ⊎_elim (λ h. nothing_moments view k k2 law is (unwritten h.0) was_open honest)
        (λ h. turned_moments view reads stands k is was_open (next_count k.store.generation next) h.0.0.based law s2 b h.0.1.later h.0.1.any_moment honest) rest) so
