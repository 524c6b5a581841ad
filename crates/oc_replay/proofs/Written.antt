-- A text that is gathered and written piece by piece.
use Rattle.std.proofs.Common.{◌≡◌, ℕ, List, [], ◌++◌, length, take, drop, refl, sym, ap, ◌∙◌, subst}
use Rattle.std.proofs.lemmas.List.{append_assoc, append-nil, take_at, take-append-drop}
use Rattle.oc_replay.specs.Pieces.{PassesOn, SomeFront}

-- a prefix of the text was taken, the gathered bytes are after it, and then comes the rest
pub record IsWritten {K : Type 0} (takes : K → List ℕ → K → Type 0) (old new : K) (gathered rest text : List ℕ) : Type 0 where
  pub front : List ℕ
  pub taken : takes old front new
  pub whole : front ++ (gathered ++ rest) ≡ text

-- a prefix is as many bytes of the text
front-is : (front rest text : List ℕ) → front ++ rest ≡ text → front ≡ take (length front) text
front-is front rest text e = sym (ap (take (length front)) (sym e) ∙ take_at front rest (length front) refl)

-- one after another, bytes are taken, and then a call fails or not
abbrev pub Joins : {K : Type 0} → (K → List ℕ → K → Type 0) → (K → List ℕ → K → Type 0) → Type 0
Joins {K} takes ends = (a b c : K) (x y : List ℕ) → takes a x b → ends b y c → ends a (x ++ y) c

module _ {K : Type 0} (takes : K → List ℕ → K → Type 0) where
  -- at first nothing is gathered
  pub written_none : (old : K) → takes old [] old → (gathered : List ℕ) → gathered ≡ [] → (text : List ℕ) → IsWritten takes old old gathered text text
  written_none old nothing gathered none text = record {
    front = [];
    taken = nothing;
    whole = ap (λ g. g ++ text) none;
  }

  -- bytes appended at the end are gathered, too
  pub gathers : (old new : K) (gathered more put rest text : List ℕ) → put ≡ gathered ++ more → IsWritten takes old new gathered (more ++ rest) text → IsWritten takes old new put rest text
  gathers old new gathered more put rest text e w = record {
    front = w.front;
    taken = w.taken;
    whole = rw (e, append_assoc) w.whole;
  }

  -- bytes appended at the end are the whole rest
  pub gathers_all : (old new : K) (gathered rest put text : List ℕ) → put ≡ gathered ++ rest → IsWritten takes old new gathered rest text → IsWritten takes old new put [] text
  gathers_all old new gathered rest put text e w = record {
    front = w.front;
    taken = w.taken;
    whole = rw (append-nil, e) w.whole;
  }

  -- a prefix of the gathered bytes is passed on
  pub passes : Joins takes takes → (old mid new : K) (gathered left rest text : List ℕ) → PassesOn (λ bytes. takes mid bytes new) gathered left → IsWritten takes old mid gathered rest text → IsWritten takes old new left rest text
  passes joins old mid new gathered left rest text p w = record {
    front = w.front ++ p.front;
    taken = joins old mid new w.front p.front w.taken p.taken;
    whole = rw (append_assoc, ← append_assoc p.front left rest, ← p.whole) w.whole;
  }

  -- all that is gathered is passed on, and nothing is left
  pub ends : Joins takes takes → (old mid new : K) (gathered text : List ℕ) → IsWritten takes old mid gathered [] text → takes mid gathered new → takes old text new
  ends joins old mid new gathered text w taken =
      let whole : w.front ++ gathered ≡ text = ap (λ g. w.front ++ g) (sym (append-nil gathered)) ∙ w.whole in
      subst (λ bytes. takes old bytes new) whole (joins old mid new w.front gathered w.taken taken)

  -- a prefix of the text was taken
  pub stops : (old new : K) (gathered rest text : List ℕ) → IsWritten takes old new gathered rest text → SomeFront text (λ front. takes old front new)
  stops old new gathered rest text w =
      (length w.front, subst (λ bytes. takes old bytes new) (front-is w.front (gathered ++ rest) text w.whole) w.taken)

  -- a call fails when a prefix of the gathered bytes was taken
  pub fails_on : (fails : K → List ℕ → K → Type 0) → Joins takes fails → (old mid new : K) (gathered rest text : List ℕ) → IsWritten takes old mid gathered rest text → SomeFront gathered (λ front. fails mid front new) → SomeFront text (λ front. fails old front new)
  fails_on fails joins old mid new gathered rest text w (n, failed) =
      let part = take n gathered in
      let left = drop n gathered in
      let whole : (w.front ++ part) ++ (left ++ rest) ≡ text = rw (append_assoc, ← append_assoc part left rest, take-append-drop) w.whole in
      (length (w.front ++ part), subst (λ bytes. fails old bytes new) (front-is (w.front ++ part) (left ++ rest) text whole) (joins old mid new w.front part w.taken failed))
