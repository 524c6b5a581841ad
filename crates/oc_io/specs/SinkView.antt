-- A sink in memory: its text, its room in bytes, and its calls.
use Rattle.std.specs.Prelude.{◌≡◌, ℕ, ◌⊎◌, List, [], ◌++◌, Contains, length, refl}
use Rattle.std.proofs.Common.{sym, subst, ◌∙◌, ap, inl, inr}
use Rattle.std.proofs.lemmas.List.{append-nil, append_assoc}
use Rattle.oc_io.specs.Tally.{Tally, Passes, Stops, Passes-none, Passes-then, Passes-stops, fresh}

-- the text, the number of bytes that can be kept, and the calls
pub record SinkView : Type 0 where
  pub text : List ℕ
  pub room : ℕ
  pub calls : Tally

-- a new sink with this room in bytes
abbrev pub sink_of : ℕ → List ℕ → SinkView
sink_of room listed = record { text = []; room = room; calls = fresh listed }

-- the room is full
abbrev pub IsFull : SinkView → Type 0
IsFull s = length s.text ≡ s.room

-- these bytes were added after the text, and no call failed
pub record TakesBehind (old : SinkView) (bytes : List ℕ) (new : SinkView) : Type 0 where
  pub text : new.text ≡ old.text ++ bytes
  pub room : new.room ≡ old.room
  pub calls : Passes old.calls new.calls

-- these bytes were added after the text, and then a call failed, which was listed or found the room full
pub record FailsFull (old : SinkView) (bytes : List ℕ) (new : SinkView) : Type 0 where
  pub text : new.text ≡ old.text ++ bytes
  pub room : new.room ≡ old.room
  pub calls : Stops old.calls new.calls
  pub cause : Contains old.calls.listed new.calls.made ⊎ IsFull new

-- two additions, one after another, are one
adds : (a b c x y : List ℕ) → b ≡ a ++ x → c ≡ b ++ y → c ≡ a ++ (x ++ y)
adds a b c x y e f = f ∙ ap (λ front. front ++ y) e ∙ append_assoc a x y

-- the cause of a failure also holds for an earlier list of the same calls
earlier_cause : (a b c : SinkView) → b.calls.listed ≡ a.calls.listed → Contains b.calls.listed c.calls.made ⊎ IsFull c → Contains a.calls.listed c.calls.made ⊎ IsFull c
earlier_cause a b c same (inl listed) = inl (subst (λ xs. Contains xs c.calls.made) same listed)
earlier_cause a b c same (inr full) = inr full

-- no bytes were added
pub TakesBehind-nothing : (s : SinkView) → TakesBehind s [] s
TakesBehind-nothing s = record {
  text = sym (append-nil s.text);
  room = refl;
  calls = Passes-none s.calls;
}

-- two additions, one after another, are one
pub TakesBehind-then : (a b c : SinkView) (x y : List ℕ) → TakesBehind a x b → TakesBehind b y c → TakesBehind a (x ++ y) c
TakesBehind-then a b c x y p q = record {
  text = adds a.text b.text c.text x y p.text q.text;
  room = q.room ∙ p.room;
  calls = Passes-then a.calls b.calls c.calls p.calls q.calls;
}

-- an addition, and a failure after it
pub TakesBehind-fails : (a b c : SinkView) (x y : List ℕ) → TakesBehind a x b → FailsFull b y c → FailsFull a (x ++ y) c
TakesBehind-fails a b c x y p q = record {
  text = adds a.text b.text c.text x y p.text q.text;
  room = q.room ∙ p.room;
  calls = Passes-stops a.calls b.calls c.calls p.calls q.calls;
  cause = earlier_cause a b c p.calls.listed q.cause;
}
