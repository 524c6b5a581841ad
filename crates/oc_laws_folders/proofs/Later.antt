-- A reading that goes on is no older than it was.
use Rattle.std.proofs.Common.{◌≡◌, ℕ, zero, suc, ◌+◌, ◌≤◌, List, ◌++◌, length, take, drop, refl, sym, ap, ◌∙◌, subst, arith, take-append-drop, take-take}
use Rattle.oc_folder.specs.declared.state.State.{State}
use Rattle.oc_folder.specs.Reading.{start, step, read_on, Passes, IsReading}
use Rattle.oc_folder.specs.Forward.{ShowsBatch}
use Rattle.oc_folder.proofs.Courses.{read_sum, rests, passes_longer}
use Rattle.oc_folder.proofs.Forward.{step_advances, end_within}
use Rattle.oc_folder.proofs.Whole.{shows_batch}
use Rattle.oc_laws_world.proofs.Fronts.{IsFront}
use Rattle.oc_laws_folders.specs.Folders.{IsNoOlder, IsSnapshot}

itself : (s : State) → IsNoOlder s s
itself s = record { batches = omega arith; end = omega arith; same = λ h. (refl, refl) }

both : (s t u : State) → IsNoOlder s t → IsNoOlder t u → IsNoOlder s u
both s t u a b = record {
  batches = omega (arith, a.batches, b.batches);
  end = omega (arith, a.end, b.end);
  same = λ h. all h;
}
  where
    all : u.batches ≡ s.batches → (u.shown ≡ s.shown) × (u.end ≡ s.end)
    all h =
        let low : t.batches ≡ s.batches = omega (arith, a.batches, b.batches, h) in
        let high : u.batches ≡ t.batches = omega (arith, low, h) in
        ((b.same high).0 ∙ (a.same low).0, (b.same high).1 ∙ (a.same low).1)

-- any number of blocks later
read_later : (turns : ℕ) (bytes : List ℕ) (s : State) → s.end ≤ s.at → IsNoOlder s (read_on turns bytes s)
unfolding read_on
read_later zero bytes s h = itself s
read_later (suc turns) bytes s h =
    let a = step_advances bytes s in
    let first : IsNoOlder s (step bytes s) = record { batches = a.batches; end = (a.end h).0; same = a.same } in
    both s (step bytes s) (read_on turns bytes (step bytes s)) first (read_later turns bytes (step bytes s) (a.end h).1)

-- what more bytes are read as is no older than what the reading of some comes through
pub later : (bytes more : List ℕ) (s t : State) → Passes bytes s → IsReading (bytes ++ more) t → IsNoOlder s t
later bytes more s t p q =
    let through = passes_longer bytes more s p in
    let k = through.turns in
    let n = q.passes.turns in
    let on : read_on (k + n) (bytes ++ more) start ≡ read_on n (bytes ++ more) s = read_sum k n (bytes ++ more) start ∙ ap (read_on n (bytes ++ more)) through.is in
    let done : read_on (n + k) (bytes ++ more) start ≡ t = read_sum n k (bytes ++ more) start ∙ ap (read_on k (bytes ++ more)) q.passes.is ∙ rests k (bytes ++ more) t q.done in
    let same : n + k ≡ k + n = omega arith in
    let is : read_on n (bytes ++ more) s ≡ t = sym on ∙ ap (λ m. read_on m (bytes ++ more) start) (sym same) ∙ done in
    subst (λ u. IsNoOlder s u) is (read_later n (bytes ++ more) s (end_within bytes s p))

-- and is a snapshot of the folder of more bytes
pub snapshot : (bytes more : List ℕ) (s : State) → Passes bytes s → IsSnapshot (bytes ++ more) s
snapshot bytes more s p =
    let batch = shows_batch (bytes ++ more) s (passes_longer bytes more s p) in
    let through = passes_longer (take s.end (bytes ++ more)) (drop s.end (bytes ++ more)) batch.last batch.reading.passes in
    record {
      batch = batch;
      came = subst (λ xs. Passes xs batch.last) (take-append-drop s.end (bytes ++ more)) through;
      passed = λ t q. later bytes more s t p q;
    }

-- what a beginning of these bytes is read as, where the last batch that is shown has come whole, is no older
pub keeps_up : (bytes xs : List ℕ) (s t : State) → IsFront xs bytes → ShowsBatch bytes s → IsReading xs t → s.end ≤ length xs → IsNoOlder s t
keeps_up bytes xs s t front batch q within =
    let same : take s.end bytes ≡ take s.end xs = sym (ap (take s.end) front ∙ take-take s.end (length xs) bytes within) in
    let last : IsReading (take s.end xs) batch.last = subst (λ ys. IsReading ys batch.last) same batch.reading in
    let whole : IsReading (take s.end xs ++ drop s.end xs) t = subst (λ ys. IsReading ys t) (sym (take-append-drop s.end xs)) q in
    let on : IsNoOlder batch.last t = later (take s.end xs) (drop s.end xs) batch.last t last.passes whole in
    record {
      batches = omega (arith, on.batches, batch.batches);
      end = omega (arith, on.end, batch.end);
      same = λ h. let again = on.same (h ∙ batch.batches) in (again.0 ∙ sym batch.shown, again.1 ∙ sym batch.end);
    }
