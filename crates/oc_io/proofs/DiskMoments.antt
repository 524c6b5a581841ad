-- Runs of calls of a disk, one call after another.
use Rattle.std.proofs.Common.{inl, inr, ⊎_elim, ℕ, ◌+◌, ◌≤◌, IsTrue, Bool, List, refl, sym, ◌∙◌, subst, arith}
use Rattle.oc_io.specs.DiskView.{DiskView, Elapses, GoesOn, StaysAsItWas, Takes, CannotFail, Fails, LeavesOnly, IsConsistent}
use Rattle.oc_io.proofs.Counts.{Rose-after}

-- a run before its first call
pub LeavesOnly-start : (v : DiskView) (P : List ℕ → Type 0) → IsConsistent v → ((c : List ℕ) → v.may_leave c → P c) → LeavesOnly v v P
LeavesOnly-start v P law here = record {
  later = omega arith;
  each = λ c left. here c (law.only_now c left);
  before = λ t c earlier left. inl left;
}

-- one more call, after which each crash leaves a file with P
pub LeavesOnly-on : (u v w : DiskView) (P : List ℕ → Type 0) → LeavesOnly u v P → Elapses v w → ((c : List ℕ) → w.may_leave c → P c) → LeavesOnly u w P
LeavesOnly-on u v w P so_far time here = record {
  later = omega (arith, so_far.later, time.later);
  each = λ c left. ⊎_elim (so_far.each c) (here c) (time.nothing_else u.moment c so_far.later left);
  before = λ t c earlier left. ⊎_elim (so_far.before t c earlier) (λ now. inr (here c now)) (time.nothing_else t c (omega (arith, so_far.later)) left);
}

-- one run after another
pub LeavesOnly-then : (u v w : DiskView) (P : List ℕ → Type 0) → LeavesOnly u v P → LeavesOnly v w P → LeavesOnly u w P
LeavesOnly-then u v w P first second = record {
  later = omega (arith, first.later, second.later);
  each = λ c left. ⊎_elim (first.each c) (λ p. p) (second.before u.moment c first.later left);
  before = λ t c earlier left. ⊎_elim (first.before t c earlier) (λ p. inr p) (second.before t c (omega (arith, first.later)) left);
}

-- a weaker property of each image holds too
pub LeavesOnly-weaker : (u v : DiskView) (P Q : List ℕ → Type 0) → ((c : List ℕ) → P c → Q c) → LeavesOnly u v P → LeavesOnly u v Q
LeavesOnly-weaker u v P Q weaker run = record {
  later = run.later;
  each = λ c left. weaker c (run.each c left);
  before = λ t c earlier left. ⊎_elim (λ was. inl was) (λ p. inr (weaker c p)) (run.before t c earlier left);
}

-- the images of a crash after the run
pub LeavesOnly-now : (u v : DiskView) (P : List ℕ → Type 0) → LeavesOnly u v P → IsConsistent v → (c : List ℕ) → v.may_leave c → P c
LeavesOnly-now u v P run law c left = run.each c (law.counts_now u.moment c run.later left)

-- a call that wrote nothing
pub LeavesOnly-stays : (u v : DiskView) (P : List ℕ → Type 0) → IsConsistent u → IsTrue u.honest → StaysAsItWas u v → ((c : List ℕ) → u.may_leave c → P c) → LeavesOnly u v P
LeavesOnly-stays u v P law honest stays here =
    LeavesOnly-on u u v P (LeavesOnly-start u P law here) (stays.time honest) (λ c left. here c (stays.images honest c left))

-- a disk stays honest
pub still_honest : (u v : DiskView) → GoesOn u v → IsTrue u.honest → IsTrue v.honest
still_honest u v goes honest = subst (λ (b : Bool). IsTrue b) (sym goes.honest) honest

-- the same disk later, and later still
pub GoesOn-then : (u v w : DiskView) → GoesOn u v → GoesOn v w → GoesOn u w
GoesOn-then u v w first second = record {
  honest = second.honest ∙ first.honest;
  reliable = second.reliable ∙ first.reliable;
  name = second.name ∙ first.name;
  listed = second.listed ∙ first.listed;
  count = omega (arith, first.count, second.count);
}

-- calls after calls take the room of both
pub Takes-then : (u v w : DiskView) (m n k j : ℕ) → Takes m k u v → Takes n j v w → Takes (m + n) (k + j) u w
Takes-then u v w m n k j first second = record {
  goes_on = GoesOn-then u v w first.goes_on second.goes_on;
  moment = λ h. omega (arith, first.moment h, second.moment (still_honest u v first.goes_on h));
  room = omega (arith, first.room, second.room);
  calls = omega (arith, first.calls, second.calls);
}

-- a disk stays reliable
pub still_reliable : (u v : DiskView) → GoesOn u v → IsTrue u.reliable → IsTrue v.reliable
still_reliable u v goes reliable = subst (λ (b : Bool). IsTrue b) (sym goes.reliable) reliable

-- calls after some of a run that cannot fail
pub CannotFail-then : (u v : DiskView) (m n k j : ℕ) → Takes m k u v → CannotFail (m + n) (k + j) u → CannotFail n j v
CannotFail-then u v m n k j first sure = record {
  reliable = still_reliable u v first.goes_on sure.reliable;
  room = omega (arith, first.room, sure.room);
  calls = omega (arith, first.calls, sure.calls);
}

-- a run that fails after reads
pub Fails-later : (u v w : DiskView) (n j : ℕ) → StaysAsItWas u v → Fails n j v w → Fails n j u w
Fails-later u v w n j stays failed = record {
  count = Rose-after _ _ _ stays.goes_on.count failed.count;
  unsure = λ sure. failed.unsure (record {
    reliable = still_reliable u v stays.goes_on sure.reliable;
    room = omega (arith, stays.room, sure.room);
    calls = omega (arith, stays.calls, sure.calls);
  });
}

-- no call at all
pub StaysAsItWas-none : (v : DiskView) → StaysAsItWas v v
StaysAsItWas-none v = record {
  goes_on = record { honest = refl; reliable = refl; name = refl; listed = refl; count = omega arith };
  time = λ _. record { later = omega arith; nothing_else = λ t c earlier left. inl left; keeps = λ t c earlier left. left };
  seen = λ _. refl;
  images = λ _ c left. left;
  moment = λ _. refl;
  room = omega arith;
  calls = omega arith;
}

-- reads after reads
pub StaysAsItWas-then : (u v w : DiskView) → (IsTrue u.honest → IsConsistent u) → StaysAsItWas u v → StaysAsItWas v w → StaysAsItWas u w
StaysAsItWas-then u v w law first second = record {
  goes_on = GoesOn-then u v w first.goes_on second.goes_on;
  time = λ h.
      let k = still_honest u v first.goes_on h in
      record {
        later = omega (arith, first.moment h, second.moment k);
        nothing_else = λ t c earlier left. ⊎_elim (λ was. inl (before t c earlier h was)) (λ now. inr now) ((second.time k).nothing_else t c (omega (arith, first.moment h)) left);
        keeps = λ t c earlier left. (second.time k).keeps t c (omega (arith, first.moment h)) ((first.time h).keeps t c earlier left);
      };
  seen = λ h. second.seen (still_honest u v first.goes_on h) ∙ first.seen h;
  images = λ h c left. first.images h c (second.images (still_honest u v first.goes_on h) c left);
  moment = λ h. second.moment (still_honest u v first.goes_on h) ∙ first.moment h;
  room = omega (arith, first.room, second.room);
  calls = omega (arith, first.calls, second.calls);
}
  where
    before : (t : ℕ) (c : List ℕ) → t ≤ u.moment → IsTrue u.honest → v.since t c → u.since t c
    before t c earlier h left = ⊎_elim (λ was. was) (λ now. (law h).counts_now t c earlier (first.images h c now)) ((first.time h).nothing_else t c earlier left)
