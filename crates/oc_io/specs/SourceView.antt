-- A source in memory: its remaining bytes, and its calls.
use Rattle.std.specs.Prelude.{◌≡◌, ℕ, List, [], ◌++◌, Contains, refl}
use Rattle.std.proofs.Common.{sym, subst, ◌∙◌, ap}
use Rattle.std.proofs.lemmas.List.{append_assoc}
use Rattle.oc_io.specs.Tally.{Tally, Passes, Stops, Passes-none, Passes-then, Passes-stops, fresh}

-- the remaining bytes, and the calls
pub record SourceView : Type 0 where
  pub left : List ℕ
  pub calls : Tally

-- a new source of these bytes
abbrev pub source_of : List ℕ → List ℕ → SourceView
source_of bytes listed = record { left = bytes; calls = fresh listed }

-- these bytes came from the front of the remaining ones, and no call failed
pub record GivesFront (old : SourceView) (bytes : List ℕ) (new : SourceView) : Type 0 where
  pub front : old.left ≡ bytes ++ new.left
  pub calls : Passes old.calls new.calls

-- these bytes came from the front of the remaining ones, and then a listed call failed
pub record FailsBehind (old : SourceView) (bytes : List ℕ) (new : SourceView) : Type 0 where
  pub front : old.left ≡ bytes ++ new.left
  pub calls : Stops old.calls new.calls
  pub listed : Contains old.calls.listed new.calls.made

-- no bytes are left
abbrev pub IsEmptied : SourceView → Type 0
IsEmptied s = s.left ≡ []

-- a prefix, and a prefix of the rest, are one prefix
pub fronts : (a b c x y : List ℕ) → a ≡ x ++ b → b ≡ y ++ c → a ≡ (x ++ y) ++ c
fronts a b c x y e f = e ∙ ap (λ rest. x ++ rest) f ∙ sym (append_assoc x y c)

-- no bytes came
pub GivesFront-nothing : (s : SourceView) → GivesFront s [] s
GivesFront-nothing s = record { front = refl; calls = Passes-none s.calls }

-- bytes came, and then further bytes
pub GivesFront-then : (a b c : SourceView) (x y : List ℕ) → GivesFront a x b → GivesFront b y c → GivesFront a (x ++ y) c
GivesFront-then a b c x y p q = record {
  front = fronts a.left b.left c.left x y p.front q.front;
  calls = Passes-then a.calls b.calls c.calls p.calls q.calls;
}

-- bytes came, and then a call failed
pub GivesFront-fails : (a b c : SourceView) (x y : List ℕ) → GivesFront a x b → FailsBehind b y c → FailsBehind a (x ++ y) c
GivesFront-fails a b c x y p q = record {
  front = fronts a.left b.left c.left x y p.front q.front;
  calls = Passes-stops a.calls b.calls c.calls p.calls q.calls;
  listed = subst (λ listed. Contains listed c.calls.made) p.calls.listed q.listed;
}
