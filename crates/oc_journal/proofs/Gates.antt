-- The result of a read at a gate, and of a scan from gate to gate.
use Rattle.std.proofs.Common.{◌≡◌, ◌⊎◌, inl, inr, ℕ, suc, ◌+◌, ◌-◌, ◌^◌, ◌<◌, ◌≤◌, min, IsTrue, Option, None, Some, List, [], ◌∷◌, ◌++◌, length, take, drop, get_or, refl, sym, ◌∙◌, ap, subst, arith, take-append-drop, add-zero}
use Rattle.std.specs.Int.{w32, to_be_bytes}
use Rattle.std.specs.List.{All}
use Rattle.std.proofs.lemmas.Bool.{cases_lt, le-ltb}
use Rattle.std.proofs.lemmas.List.{append-nil, append_assoc, drop-drop, drop_more, get_or-take, get_or-drop, length-drop, length-take-le, map-append, take_all}
use Rattle.std.proofs.Math.Seq.{take-add}
use Rattle.oc_io.specs.DiskView.{DiskView, StaysAsItWas}
use Rattle.oc_io.proofs.DiskMoments.{still_honest}
use Rattle.oc_journal.specs.JournalFile.{magic, length_in, blocks, AreShort, IsNoJournal}
use Rattle.oc_journal.specs.JournalView.{at_extent, at_extents}
use Rattle.oc_journal.specs.Scanning.{IsScanned, IsFound, IsGate, IsBrokenAt}
use Rattle.oc_journal.specs.declared.extent.Extent.{Extent}
use Rattle.oc_journal.proofs.Blocks.{blocks-push, AreShort-push, length_in-number, broken_file}
use Rattle.oc_journal.proofs.Extents.{within_push, snoc_some}

-- a head of five bytes is a gate and a length
head_is : (head : List ℕ) (len : ℕ) → length head ≡ 5 → get_or head 0 0 ≡ 1 → drop 1 head ≡ to_be_bytes w32 len → head ≡ 1 ∷ to_be_bytes w32 len
head_is [] len long one is = absurd (omega arith)
head_is (byte ∷ rest) len long one is = ap (λ (x : ℕ). x ∷ rest) one ∙ ap (λ (l : List ℕ). 1 ∷ l) is

-- the head that was read
module _ (file head : List ℕ) (gate n len : ℕ) (long : length head ≡ 5) (count : n ≡ min 5 (length file - gate)) (inside : gate < length file) (read : take n head ≡ take n (drop gate file)) where
  -- the gate is its first byte
  pub gate_byte : get_or head 0 0 ≡ get_or file gate 0
  gate_byte =
      sym (get_or-take n head 0 0 (omega arith)) ∙ ap (λ (l : List ℕ). get_or l 0 0) read ∙ get_or-take n (drop gate file) 0 0 (omega arith)
      ∙ get_or-drop gate file 0 0 ∙ ap (λ (i : ℕ). get_or file i 0) (add-zero gate)

  pub gate_whole : n ≡ 5 → get_or head 0 0 ≡ 1 → drop 1 head ≡ to_be_bytes w32 len → drop gate file ≡ 1 ∷ (to_be_bytes w32 len ++ drop (gate + 5) file)
  gate_whole five one is =
      let front : take 5 (drop gate file) ≡ head = sym (ap (λ (k : ℕ). take k (drop gate file)) five) ∙ sym read ∙ take_all n head (omega arith) in
      sym (take-append-drop 5 (drop gate file))
      ∙ ap (λ (l : List ℕ). l ++ drop 5 (drop gate file)) (front ∙ head_is head len long one is)
      ∙ ap (λ (l : List ℕ). (1 ∷ to_be_bytes w32 len) ++ l) (drop-drop 5 gate file)

  pub gate_broken : get_or head 0 0 ≡ 1 → drop 1 head ≡ to_be_bytes w32 len → (n < 5) ⊎ (length file - gate - 5 ≤ len) → len < 2 ^ 32 → IsBrokenAt file gate
  gate_broken one is short fits =
      let rest = drop (gate + 1) file in
      let rest_long : length rest ≡ length file - (gate + 1) = length-drop (gate + 1) file in
      record {
        rest = rest;
        gate_open = drop_more file gate 0 inside ∙ ap (λ (x : ℕ). x ∷ rest) (sym gate_byte ∙ one);
        cut = le-ltb (4 + length_in rest) (length rest) (elim (cases_lt n 5) [
          | inl few ↦ omega (arith, rest_long)
          | inr all ↦
              let five : n ≡ 5 = omega arith in
              let parts : rest ≡ to_be_bytes w32 len ++ drop (gate + 5) file = sym (drop-drop 1 gate file) ∙ ap (drop 1) (gate_whole five one is) in
              let reads : length_in rest ≡ len = ap length_in parts ∙ length_in-number len (drop (gate + 5) file) fits in
              omega (arith, rest_long, reads, short)
        ]);
      }

-- the part of a file before the next gate
scanned_front : (file : List ℕ) (gate len : ℕ) → drop gate file ≡ 1 ∷ (to_be_bytes w32 len ++ drop (gate + 5) file) → take (gate + (5 + len)) file ≡ take gate file ++ (1 ∷ (to_be_bytes w32 len ++ take len (drop (gate + 5) file)))
scanned_front file gate len parts =
    let rest = to_be_bytes w32 len ++ drop (gate + 5) file in
    let count : 5 + len ≡ suc (suc (suc (suc (suc len)))) = omega arith in
    take-add gate (5 + len) file
    ∙ ap (λ (l : List ℕ). take gate file ++ take (5 + len) l) parts
    ∙ ap (λ (k : ℕ). take gate file ++ take k (1 ∷ rest)) count

-- one frame more was found
pub IsScanned-more : (v : DiskView) (extents : List Extent) (gate len size next : ℕ) → IsScanned v extents gate → (IsTrue v.honest → v.size ≡ length v.seen) → len < 2 ^ 32 → size ≡ v.size → gate + 5 + len < size → (IsTrue v.honest → IsGate v.seen gate (Some len)) → next ≡ gate + 5 + len → IsScanned v (extents ++ record { at = gate + 5; len = len } ∷ []) next
IsScanned-more v extents gate len size next scanned law short same_size whole found is =
    let extent : Extent = record { at = gate + 5; len = len } in
    let start = scanned.start in
    let file = v.seen in
    let body = take len (drop (gate + 5) file) in
    let bodies = at_extents file extents in
    let pushed : at_extents file (extents ++ extent ∷ []) ≡ bodies ++ body ∷ [] = map-append (at_extent file) extents (extent ∷ []) in
    let long : IsTrue v.honest → length body ≡ len = λ h. length-take-le len (drop (gate + 5) file) (omega (arith, length-drop (gate + 5) file, law h)) in
    record {
      within = within_push extents extent gate next scanned.within (omega arith) (omega arith) (omega arith);
      start = omega arith;
      first = λ none. absurd (snoc_some extents extent none);
      size = omega arith;
      front = λ h.
          ap (λ (k : ℕ). take k file) (let e : next ≡ gate + (5 + len) = omega arith in e)
          ∙ scanned_front file gate len (found h)
          ∙ ap (λ (l : List ℕ). l ++ (1 ∷ (to_be_bytes w32 len ++ body))) (scanned.front h)
          ∙ append_assoc magic (blocks bodies) (1 ∷ (to_be_bytes w32 len ++ body))
          ∙ ap (λ (n : ℕ). magic ++ (blocks bodies ++ (1 ∷ (to_be_bytes w32 n ++ body)))) (sym (long h))
          ∙ ap (λ (l : List ℕ). magic ++ (blocks bodies ++ (1 ∷ (to_be_bytes w32 (length body) ++ l)))) (sym (append-nil body))
          ∙ ap (λ (l : List ℕ). magic ++ l) (sym (blocks-push bodies body []) ∙ append-nil (blocks (bodies ++ body ∷ [])))
          ∙ ap (λ (fs : List (List ℕ)). magic ++ blocks fs) (sym pushed);
      short = λ h. subst AreShort (sym pushed) (AreShort-push bodies body (scanned.short h) (omega (arith, long h)));
    }

-- the first gate of a file with the magic
pub IsScanned-start : (v : DiskView) (extents : List Extent) → extents ≡ [] → 9 < v.size → (IsTrue v.honest → take 8 v.seen ≡ magic) → IsScanned v extents 8
IsScanned-start v extents empty long begins = record {
  within = subst (λ (s : List Extent). All (λ extent. (9 ≤ extent.at) × (extent.at + extent.len ≤ 8)) s) (sym empty) (λ k d inside. absurd (omega arith));
  start = omega arith;
  first = λ _. refl;
  size = omega arith;
  front = λ h. begins h ∙ ap (λ (s : List Extent). magic ++ blocks (at_extents v.seen s)) (sym empty);
  short = λ h. subst (λ (s : List Extent). AreShort (at_extents v.seen s)) (sym empty) tt;
}

-- the gate that was reached is not open
pub IsFound-shut : (v : DiskView) (extents : List Extent) (gate : ℕ) → IsScanned v extents gate → (IsTrue v.honest → v.size ≡ length v.seen) → (IsTrue v.honest → IsGate v.seen gate None) → IsFound v extents gate
IsFound-shut v extents gate scanned law shut = record {
  within = scanned.within;
  start = scanned.start;
  first = scanned.first;
  size = scanned.size;
  ends = λ h. record {
    gate = get_or v.seen gate 0;
    stale = drop (gate + 1) v.seen;
    parts = sym (take-append-drop gate v.seen) ∙ ap (λ (l : List ℕ). l ++ drop gate v.seen) (scanned.front h) ∙ ap (λ (l : List ℕ). (magic ++ blocks (at_extents v.seen extents)) ++ l) (drop_more v.seen gate 0 (omega (arith, law h, scanned.size)));
    shut = shut h;
    end = sym (length-take-le gate v.seen (omega (arith, law h, scanned.size))) ∙ ap length (scanned.front h);
    short = scanned.short h;
  };
}

-- the gate that was reached has no whole frame after it
pub IsNoJournal-broken : (v : DiskView) (extents : List Extent) (gate : ℕ) → IsScanned v extents gate → v.size ≡ length v.seen → 9 < v.size → IsTrue v.honest → IsBrokenAt v.seen gate → IsNoJournal v.seen
IsNoJournal-broken v extents gate scanned law long h broken =
    let parts : v.seen ≡ (magic ++ blocks (at_extents v.seen extents)) ++ (1 ∷ broken.rest) = sym (take-append-drop gate v.seen) ∙ ap (λ (l : List ℕ). l ++ drop gate v.seen) (scanned.front h) ∙ ap (λ (l : List ℕ). (magic ++ blocks (at_extents v.seen extents)) ++ l) broken.gate_open in
    subst IsNoJournal (sym parts) (broken_file (at_extents v.seen extents) broken.rest (scanned.short h) broken.cut (omega (arith, ap length parts, law, long)))

-- a gate that was read after other reads was the same before them
pub IsGate-earlier : (u v : DiskView) (gate : ℕ) (found : Option ℕ) → StaysAsItWas u v → (IsTrue v.honest → IsGate v.seen gate found) → IsTrue u.honest → IsGate u.seen gate found
IsGate-earlier u v gate found stays now h =
    subst (λ (file : List ℕ). IsGate file gate found) (stays.seen h) (now (still_honest u v stays.goes_on h))
