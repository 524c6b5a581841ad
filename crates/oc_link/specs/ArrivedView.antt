-- The bytes that an event lends, as a source.
use Rattle.std.specs.Prelude.{◌≡◌, ℕ, Bool, true, false, List, [], ◌++◌, refl}
use Rattle.std.proofs.Common.{sym, ◌∙◌, ap}
use Rattle.oc_io.specs.SourceView.{fronts}
use Rattle.oc_io.specs.Tally.{counted}
use Rattle.oc_link.specs.declared.event.Coming.{Coming}
use Rattle.oc_link.specs.Failures.{has_failed}

pub record ArrivedView : Type 0 where
  -- the remaining bytes
  pub left : List ℕ
  -- whether a call fails at their end
  pub fails : Bool
  -- the number of failed calls
  pub faults : ℕ

-- the source before its first read
abbrev pub arrived : List ℕ → Coming → ArrivedView
arrived bytes coming = record { left = bytes; fails = has_failed coming; faults = 0 }

-- these bytes came from the front of the remaining ones
pub record GivesFront (old : ArrivedView) (bytes : List ℕ) (new : ArrivedView) : Type 0 where
  pub front : old.left ≡ bytes ++ new.left
  pub fails : new.fails ≡ old.fails
  pub faults : new.faults ≡ old.faults

-- all remaining bytes came, and then a call failed
pub record FailsBehind (old : ArrivedView) (bytes : List ℕ) (new : ArrivedView) : Type 0 where
  pub whole : old.left ≡ bytes
  pub none : new.left ≡ []
  pub fails : old.fails ≡ true
  pub same : new.fails ≡ old.fails
  pub faults : new.faults ≡ counted old.faults

-- no bytes are left, and no call is to fail
pub record IsAtEnd (s : ArrivedView) : Type 0 where
  pub none : s.left ≡ []
  pub passes : s.fails ≡ false

pub GivesFront-nothing : (s : ArrivedView) → GivesFront s [] s
GivesFront-nothing s = record { front = refl; fails = refl; faults = refl }

pub GivesFront-then : (a b c : ArrivedView) (x y : List ℕ) → GivesFront a x b → GivesFront b y c → GivesFront a (x ++ y) c
GivesFront-then a b c x y p q = record {
  front = fronts a.left b.left c.left x y p.front q.front;
  fails = q.fails ∙ p.fails;
  faults = q.faults ∙ p.faults;
}

pub GivesFront-fails : (a b c : ArrivedView) (x y : List ℕ) → GivesFront a x b → FailsBehind b y c → FailsBehind a (x ++ y) c
GivesFront-fails a b c x y p q = record {
  whole = p.front ∙ ap (λ (rest : List ℕ). x ++ rest) q.whole;
  none = q.none;
  fails = sym p.fails ∙ q.fails;
  same = q.same ∙ p.fails;
  faults = q.faults ∙ ap counted p.faults;
}
