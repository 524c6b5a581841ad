-- A file of frames after a write, complete or torn.
use Rattle.std.proofs.Common.{◌≡◌, ◌≢◌, cond, Bool, inl, inr, ℕ, ◌+◌, ◌^◌, ◌<◌, ◌≤◌, List, [], ◌∷◌, ◌++◌, length, get_or, take, drop, refl, sym, ◌∙◌, ap, arith, length-append, take-append-drop}
use Rattle.std.proofs.lemmas.List.{append_assoc, take_at, drop_at, drop_all, drop_more}
use Rattle.std.proofs.lemmas.Bool.{cases_eq, le-ltb}
use Rattle.std.specs.Int.{w32, to_be_bytes}
use Rattle.oc_io.specs.DiskView.{Holds, IsTorn}
use Rattle.oc_journal.specs.JournalFile.{magic, header, frames_of, frames_within, encoded, blocks, AreShort, EndsAt, IsBeforeOrAfter, IsAllOrNone}
use Rattle.oc_journal.proofs.Blocks.{frames_of-ended, blocks-push, length-blocks_push, AreShort-push}

-- a prefix, one byte, and the rest
at_byte : (c p q : List ℕ) (n : ℕ) → length p ≡ n → n < length c → take n c ≡ p → drop (n + 1) c ≡ q → c ≡ p ++ (get_or c n 0 ∷ q)
at_byte c p q n long inside front back =
    sym (take-append-drop n c) ∙ ap (λ (l : List ℕ). l ++ drop n c) front
    ∙ ap (λ (l : List ℕ). p ++ l) (drop_more c n 0 inside ∙ ap (λ (l : List ℕ). get_or c n 0 ∷ l) back)

-- the byte of a list with these parts, and the parts before and after it
pub front_of : (p q : List ℕ) (x n : ℕ) → length p ≡ n → take n (p ++ (x ∷ q)) ≡ p
front_of p q x n long = take_at p (x ∷ q) n long

-- the rest after a byte
pub back_of : (p q : List ℕ) (x n : ℕ) → length p ≡ n → drop (n + 1) (p ++ (x ∷ q)) ≡ q
back_of p q x n long =
    ap (λ (l : List ℕ). drop (n + 1) l) (sym (append_assoc p (x ∷ []) q)) ∙ drop_at (p ++ (x ∷ [])) q (n + 1) (omega (arith, length-append p (x ∷ [])))

-- the part before a byte, and the byte
front_with : (p q : List ℕ) (x n : ℕ) → length p ≡ n → take (n + 1) (p ++ (x ∷ q)) ≡ p ++ (x ∷ [])
front_with p q x n long =
    ap (λ (l : List ℕ). take (n + 1) l) (sym (append_assoc p (x ∷ []) q)) ∙ take_at (p ++ (x ∷ [])) q (n + 1) (omega (arith, length-append p (x ∷ [])))

-- one byte of a list was torn
torn_byte : (c old p q : List ℕ) (x n : ℕ) → length p ≡ n → old ≡ p ++ (x ∷ q) → IsTorn n 1 old c → c ≡ p ++ (get_or c n 0 ∷ q)
torn_byte c old p q x n long is torn =
    at_byte c p q n long
    (omega (arith, torn.no_shorter, ap length is, length-append p (x ∷ q)))
    (torn.before ∙ ap (λ (l : List ℕ). take n l) is ∙ front_of p q x n long)
    (torn.after ∙ ap (λ (l : List ℕ). drop (n + 1) l) is ∙ back_of p q x n long)

-- one byte of a list was written
pub written_byte : (new old p q : List ℕ) (x y n : ℕ) → length p ≡ n → old ≡ p ++ (x ∷ q) → Holds old n (y ∷ []) new → new ≡ p ++ (y ∷ q)
written_byte new old p q x y n long is holds =
    holds
    ∙ ap (λ (l : List ℕ). take n l ++ (y ∷ []) ++ drop (n + 1) l) is
    ∙ ap (λ (l : List ℕ). l ++ (y ∷ []) ++ drop (n + 1) (p ++ (x ∷ q))) (front_of p q x n long)
    ∙ ap (λ (l : List ℕ). p ++ (y ∷ []) ++ l) (back_of p q x n long)
    ∙ append_assoc p (y ∷ []) q

-- the frames end within the file
pub EndsAt-within : (file : List ℕ) (bodies : List (List ℕ)) (offset : ℕ) → EndsAt file bodies offset → offset < length file
EndsAt-within file bodies offset e =
    omega (arith, e.end, ap length e.parts, length-append (magic ++ blocks bodies) (e.gate ∷ e.stale))

-- the file ends at the same offset of the frames before the last gate
pub EndsAt-same_front : (file c : List ℕ) (bodies : List (List ℕ)) (offset : ℕ) → EndsAt file bodies offset → take (offset + 1) c ≡ take (offset + 1) file → EndsAt c bodies offset
EndsAt-same_front file c bodies offset e same =
    let base = magic ++ blocks bodies in
    let front = same ∙ ap (λ (l : List ℕ). take (offset + 1) l) e.parts ∙ front_with base e.stale e.gate offset (sym e.end) in
    record {
      gate = e.gate;
      stale = drop (offset + 1) c;
      parts = sym (take-append-drop (offset + 1) c) ∙ ap (λ (l : List ℕ). l ++ drop (offset + 1) c) front ∙ append_assoc base (e.gate ∷ []) (drop (offset + 1) c);
      shut = e.shut;
      end = e.end;
      short = e.short;
    }

-- a frame is whole after the gate that is not open
pub record IsStaged (file : List ℕ) (bodies : List (List ℕ)) (offset : ℕ) (body : List ℕ) : Type 0 where
  pub gate : ℕ
  pub stale : List ℕ
  pub parts : file ≡ (magic ++ blocks bodies) ++ (gate ∷ (encoded body ++ stale))
  pub shut : gate ≢ 1
  pub end : offset ≡ length (magic ++ blocks bodies)
  pub short : AreShort bodies

-- the frame does not count
pub EndsAt-staged : (file : List ℕ) (bodies : List (List ℕ)) (offset : ℕ) (body : List ℕ) → IsStaged file bodies offset body → EndsAt file bodies offset
EndsAt-staged file bodies offset body s = record {
  gate = s.gate;
  stale = encoded body ++ s.stale;
  parts = s.parts;
  shut = s.shut;
  end = s.end;
  short = s.short;
}

-- a torn write after the gate leaves the frames
pub torn_behind : (file c : List ℕ) (bodies : List (List ℕ)) (offset n : ℕ) → EndsAt file bodies offset → IsTorn (offset + 1) n file c → frames_of c ≡ bodies
torn_behind file c bodies offset n e torn =
    frames_of-ended c bodies offset (EndsAt-same_front file c bodies offset e torn.before)

-- a frame was written after the gate
pub written_behind : (file new : List ℕ) (bodies : List (List ℕ)) (offset : ℕ) (body : List ℕ) → EndsAt file bodies offset → Holds file (offset + 1) (encoded body) new → IsStaged new bodies offset body
written_behind file new bodies offset body e holds =
    let base = magic ++ blocks bodies in
    let stale = drop (offset + 1 + length (encoded body)) file in
    record {
      gate = e.gate;
      stale = stale;
      parts =
          holds
          ∙ ap (λ (l : List ℕ). l ++ encoded body ++ stale) (ap (λ (l : List ℕ). take (offset + 1) l) e.parts ∙ front_with base e.stale e.gate offset (sym e.end))
          ∙ append_assoc (base ++ (e.gate ∷ [])) (encoded body) stale
          ∙ append_assoc base (e.gate ∷ []) (encoded body ++ stale);
      shut = e.shut;
      end = e.end;
      short = e.short;
    }

-- with the gate open it is one of the frames
pub opened : (file : List ℕ) (bodies : List (List ℕ)) (offset gate : ℕ) (body stale : List ℕ) → gate ≡ 1 → file ≡ (magic ++ blocks bodies) ++ (gate ∷ (encoded body ++ stale)) → offset ≡ length (magic ++ blocks bodies) → AreShort bodies → length body < 2 ^ 32 → EndsAt file (bodies ++ body ∷ []) (offset + 5 + length body)
opened file bodies offset gate body stale is_open is end short one =
    record {
      gate = 0;
      stale = stale;
      parts =
          is
          ∙ ap (λ (g : ℕ). (magic ++ blocks bodies) ++ (g ∷ (encoded body ++ stale))) is_open
          ∙ append_assoc magic (blocks bodies) (1 ∷ (encoded body ++ stale))
          ∙ ap (λ (l : List ℕ). magic ++ (blocks bodies ++ (1 ∷ (to_be_bytes w32 (length body) ++ l)))) (append_assoc body (0 ∷ []) stale)
          ∙ ap (λ (l : List ℕ). magic ++ l) (sym (blocks-push bodies body (0 ∷ stale)))
          ∙ sym (append_assoc magic (blocks (bodies ++ body ∷ [])) (0 ∷ stale));
      shut = omega arith;
      end = omega (arith, end, length-blocks_push bodies body);
      short = AreShort-push bodies body short one;
    }

-- the body of a frame is after its gate and its length
pub body_there : (file p body rest : List ℕ) (offset gate : ℕ) → length p ≡ offset → file ≡ p ++ (gate ∷ (to_be_bytes w32 (length body) ++ (body ++ rest))) → take (length body) (drop (offset + 5) file) ≡ body
body_there file p body rest offset gate long is =
    let head = gate ∷ to_be_bytes w32 (length body) in
    ap (λ (l : List ℕ). take (length body) (drop (offset + 5) l)) (is ∙ sym (append_assoc p head (body ++ rest)))
    ∙ ap (take (length body)) (drop_at (p ++ head) (body ++ rest) (offset + 5) (omega (arith, length-append p head)))
    ∙ take_at body rest (length body) refl

-- the file with the gate opened
pub opened_parts : (file new : List ℕ) (bodies : List (List ℕ)) (offset : ℕ) (body : List ℕ) (s : IsStaged file bodies offset body) → Holds file offset (1 ∷ []) new → new ≡ (magic ++ blocks bodies) ++ (1 ∷ (to_be_bytes w32 (length body) ++ (body ++ (0 ∷ s.stale))))
opened_parts file new bodies offset body s holds =
    let base = magic ++ blocks bodies in
    written_byte new file base (encoded body ++ s.stale) s.gate 1 offset (sym s.end) s.parts holds
    ∙ ap (λ (l : List ℕ). base ++ (1 ∷ (to_be_bytes w32 (length body) ++ l))) (append_assoc body (0 ∷ []) s.stale)

-- a torn write of the gate leaves the frames, or those and the new one
pub torn_gate : (file c : List ℕ) (bodies : List (List ℕ)) (offset : ℕ) (body : List ℕ) → IsStaged file bodies offset body → length body < 2 ^ 32 → IsTorn offset 1 file c → IsBeforeOrAfter bodies body c
torn_gate file c bodies offset body s one torn =
    let base = magic ++ blocks bodies in
    let gate = get_or c offset 0 in
    let parts = torn_byte c file base (encoded body ++ s.stale) s.gate offset (sym s.end) s.parts torn in
    elim (cases_eq gate 1) [
      | inl is_open ↦ inr (frames_of-ended c (bodies ++ body ∷ []) (offset + 5 + length body) (opened c bodies offset gate body s.stale is_open parts s.end s.short one))
      | inr shut ↦ inl (frames_of-ended c bodies offset (record { gate = gate; stale = encoded body ++ s.stale; parts = parts; shut = shut; end = s.end; short = s.short }))
    ]

-- the gate was opened
pub written_gate : (file new : List ℕ) (bodies : List (List ℕ)) (offset : ℕ) (body : List ℕ) → IsStaged file bodies offset body → length body < 2 ^ 32 → Holds file offset (1 ∷ []) new → EndsAt new (bodies ++ body ∷ []) (offset + 5 + length body)
written_gate file new bodies offset body s one holds =
    let base = magic ++ blocks bodies in
    opened new bodies offset 1 body s.stale refl (written_byte new file base (encoded body ++ s.stale) s.gate 1 offset (sym s.end) s.parts holds) s.end s.short one

-- a closed first gate
no_frame : (file rest : List ℕ) (gate : ℕ) → gate ≢ 1 → file ≡ magic ++ (gate ∷ rest) → EndsAt file [] 8
no_frame file rest gate shut parts = record {
  gate = gate;
  stale = rest;
  parts = parts;
  shut = shut;
  end = refl;
  short = tt;
}

-- a torn write of the first gate, which was open, leaves the frames or none
pub torn_first_gate : (file c : List ℕ) (bodies : List (List ℕ)) (offset : ℕ) → 0 < length bodies → EndsAt file bodies offset → IsTorn 8 1 file c → IsAllOrNone bodies c
torn_first_gate file c [] offset some e torn = absurd (omega arith)
torn_first_gate file c (body ∷ bodies) offset some e torn =
    let rest = (to_be_bytes w32 (length body) ++ (body ++ blocks bodies)) ++ (e.gate ∷ e.stale) in
    let gate = get_or c 8 0 in
    let parts : c ≡ magic ++ (gate ∷ rest) = torn_byte c file magic rest 1 8 refl e.parts torn in
    elim (cases_eq gate 1) [
      | inl is_open ↦
          let same : c ≡ file = parts ∙ ap (λ (g : ℕ). magic ++ (g ∷ rest)) is_open ∙ sym e.parts in
          inl (ap frames_of same ∙ frames_of-ended file (body ∷ bodies) offset e)
      | inr shut ↦ inr (frames_of-ended c [] 8 (no_frame c rest gate shut parts))
    ]

-- with the first gate closed there is no frame
pub written_first_gate : (file new : List ℕ) (bodies : List (List ℕ)) (offset : ℕ) → 0 < length bodies → EndsAt file bodies offset → Holds file 8 (0 ∷ []) new → EndsAt new [] 8
written_first_gate file new [] offset some e holds = absurd (omega arith)
written_first_gate file new (body ∷ bodies) offset some e holds =
    let rest = (to_be_bytes w32 (length body) ++ (body ++ blocks bodies)) ++ (e.gate ∷ e.stale) in
    no_frame new rest 0 (omega arith) (written_byte new file magic rest 1 0 8 refl e.parts holds)

-- a file no longer than a header has no frame
pub frames_of-small : (file : List ℕ) → length file ≤ 9 → frames_of file ≡ []
frames_of-small file small =
    ap (λ (b : Bool). cond b (frames_within (length file) (drop 8 file)) []) (le-ltb 9 (length file) small)

-- a torn header leaves no frame
pub torn_header : (file c : List ℕ) → length file ≤ 9 → IsTorn 0 9 file c → frames_of c ≡ []
torn_header file c small torn = frames_of-small c (omega (arith, torn.no_longer))

-- a header has no frame after it
pub written_header : (file new : List ℕ) → length file ≤ 9 → Holds file 0 header new → EndsAt new [] 8
written_header file new small holds = record {
  gate = 0;
  stale = [];
  parts = holds ∙ ap (λ (l : List ℕ). header ++ l) (drop_all 9 file small);
  shut = omega arith;
  end = refl;
  short = tt;
}
