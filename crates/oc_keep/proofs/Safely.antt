-- Disks that are left unchanged.
use Rattle.std.proofs.Common.{ℕ, IsTrue, refl, arith}
use Rattle.oc_keep.specs.Files.{Disks}
use Rattle.oc_keep.specs.Promises.{LoadsSafely}
use Rattle.oc_model.specs.Node.{Header}
use Rattle.oc_io.specs.DiskView.{DiskView, GoesOn, IsConsistent}

-- an unchanged disk goes on
pub goes_on_same : (v : DiskView) → GoesOn v v
goes_on_same v = record { honest = refl; reliable = refl; name = refl; listed = refl; count = omega arith }

-- unchanged disks are left by a crash as before
pub safely_same : {D : Type 0} (view : D → DiskView) → ((x : D) → IsTrue (view x).honest → IsConsistent (view x)) → (h : Header) (me : ℕ) (d : Disks D) → LoadsSafely view h me d d
safely_same view consistent h me d = record {
  goes_on = record { control = goes_on_same (view d.control); alternate = goes_on_same (view d.alternate); content = goes_on_same (view d.content) };
  any_moment = λ honest. record {
    later = record { control = omega arith; alternate = omega arith; content = omega arith };
    each = λ a b c had. record {
      a = a;
      b = b;
      c = c;
      left = record {
        control = (consistent d.control honest.control).only_now a had.control;
        alternate = (consistent d.alternate honest.alternate).only_now b had.alternate;
        content = (consistent d.content honest.content).only_now c had.content;
      };
      is = refl;
    };
  };
}
