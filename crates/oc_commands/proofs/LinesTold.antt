-- The progress lines of a client, one after another.
use Rattle.std.proofs.Common.{◌≡◌, ◌∙◌, ℕ, Bool, true, false, List, ◌++◌, length, take, sym, ap, subst, inl, inr, arith}
use Rattle.std.proofs.lemmas.List.{append_assoc, take-append-le, take_all}
use Rattle.oc_client.specs.Lines.{Tells, lines_between}
use Rattle.oc_client.specs.ProgressLines.{Grows}
use Rattle.oc_client.specs.declared.progress_lines.ProgressLines.{ProgressLines}
use Rattle.oc_io.specs.Counts.{Rises}
use Rattle.oc_io.specs.Faults.{NoFall}
use Rattle.oc_link.specs.Calls.{IsFront}
use Rattle.oc_commands.specs.Counting.{Fails, Takes, takes_fails, takes_then}
use Rattle.oc_commands.specs.Run.{IsWrittenOrCut}
use Rattle.oc_commands.specs.Telling.{IsToldOf, last_line}
use Rattle.oc_commands.specs.declared.progress.Counting.{Counting}

-- a front of a text is as many of its first bytes
front_is : (front text : List ℕ) → IsFront front text → take (length front) text ≡ front
front_is front text (rest, is) =
    ap (take (length front)) is ∙ take-append-le (length front) front rest (omega arith) ∙ take_all (length front) front (omega arith)

module _ {E : Type 0} (writes breaks : E → List ℕ → E → Type 0) (faults : E → ℕ)
    (then : (a b c : E) (x y : List ℕ) → writes a x b → writes b y c → writes a (x ++ y) c) (then_breaks : (a b c : E) (x y : List ℕ) → writes a x b → breaks b y c → breaks a (x ++ y) c) where
  abbrev T : Counting E → List ℕ → Counting E → Type 0
  T = Takes writes faults

  abbrev F : Counting E → List ℕ → Counting E → Type 0
  F = Fails breaks faults

  -- lines after lines
  tells_then : (a b c : Counting E) (p q r : Bool) (x y : List ℕ) → Tells T F a b p q x → Tells T F b c q r y → Tells T F a c p r (x ++ y)
  tells_then a b c false true r x y f s = absurd (let wrong : true ≡ false = f.1 in cc)
  tells_then a b c false false r x y f s = (s.0 ∙ f.0, s.1)
  tells_then a b c true true true x y f s = takes_then writes faults then a b c x y f s
  tells_then a b c true true false x y f (front, (rest, e), broke) =
      (x ++ front, (rest, ap (λ (t : List ℕ). x ++ t) e ∙ sym (append_assoc x front rest)), takes_fails writes breaks faults then_breaks a b c x front f broke)
  tells_then a b c true false true x y f s = absurd (let wrong : true ≡ false = s.1 in cc)
  tells_then a b c true false false x y (front, (rest, e), broke) s =
      (front, (rest ++ y, ap (λ (t : List ℕ). t ++ y) e ∙ append_assoc front rest y), subst (λ (k : Counting E). F a front k) (sym s.0) broke)

  -- the lines were written, or a prefix and then a call failed
  written_of : (a c : Counting E) (active : Bool) (text : List ℕ) → Tells T F a c true active text → IsWrittenOrCut writes breaks faults a.sink c.sink text
  written_of a c true text told = inl told.0
  written_of a c false text (front, is, broke) = inr ((length front, subst (λ (t : List ℕ). breaks a.sink t c.sink) (sym (front_is front text is)) broke.0), broke.2)

  falls_not : (a c : Counting E) (wanted active : Bool) (text : List ℕ) → Tells T F a c wanted active text → NoFall (faults a.sink) (faults c.sink)
  falls_not a c false active text told = subst (λ (k : Counting E). NoFall (faults a.sink) (faults k.sink)) (sym told.0) (omega arith)
  falls_not a c true true text told = told.1
  falls_not a c true false text (front, is, broke) = broke.1

  -- the lines of a count that grew, and the last line at the end
  module _ (a b : ProgressLines (Counting E)) (c : Counting E) (active whole : Bool) (bytes : ℕ) (grows : Grows T F a bytes b) (last : Tells T F b.sink c b.active active (last_line whole b.count)) where
    all : Tells T F a.sink c a.active active (lines_between a.count b.count ++ last_line whole b.count)
    all = tells_then a.sink b.sink c a.active b.active active (lines_between a.count b.count) (last_line whole b.count) grows.told last

    pub never_falls : NoFall (faults a.sink.sink) (faults c.sink)
    never_falls = falls_not a.sink c a.active active (lines_between a.count b.count ++ last_line whole b.count) all

    pub silent_of : a.active ≡ false → c.sink ≡ a.sink.sink
    silent_of is =
        let told : Tells T F a.sink c false active (lines_between a.count b.count ++ last_line whole b.count) =
        subst (λ (wanted : Bool). Tells T F a.sink c wanted active (lines_between a.count b.count ++ last_line whole b.count)) is all in
        ap (λ (k : Counting E). k.sink) told.0

    pub told_of : a.count ≡ 0 → a.active ≡ true → IsToldOf (λ (text : List ℕ). IsWrittenOrCut writes breaks faults a.sink.sink c.sink text) whole bytes
    told_of first is =
        let told : Tells T F a.sink c true active (lines_between 0 b.count ++ last_line whole b.count) =
        subst (λ (n : ℕ). Tells T F a.sink c true active (lines_between n b.count ++ last_line whole b.count)) first
        (subst (λ (wanted : Bool). Tells T F a.sink c wanted active (lines_between a.count b.count ++ last_line whole b.count)) is all) in (
          b.count,
          subst (λ (n : ℕ). Rises n bytes b.count) first grows.rises,
          written_of a.sink c active (lines_between 0 b.count ++ last_line whole b.count) told,
        )
