-- Events on one connection, if there is one.
use Rattle.std.specs.Prelude.{◌≡◌, ℕ, Option, None, Some, List, [], ◌++◌, refl}
use Rattle.std.specs.Option.{option_map}
use Rattle.std.proofs.Common.{sym, ◌∙◌, ap}
use Rattle.std.proofs.lemmas.List.{append-nil, append_assoc}
use Rattle.oc_io.specs.SourceView.{fronts}
use Rattle.oc_link.specs.Story.{Connection, wrote, broken}

-- these bytes were read from the front of the remaining ones
pub record ReadsFront (bytes : List ℕ) (old new : Connection) : Type 0 where
  pub left : old.left ≡ bytes ++ new.left
  pub read : new.read ≡ old.read ++ bytes
  pub written : new.written ≡ old.written
  pub failed : new.failed ≡ old.failed

-- these bytes were read; none where there is no connection
abbrev pub Hears : List ℕ → Option Connection → Option Connection → Type 0
Hears bytes (Some old) (Some new) = ReadsFront bytes old new
Hears bytes None None = bytes ≡ []
Hears bytes old new = ⊥

-- these bytes were written; none where there is no connection
abbrev pub Says : List ℕ → Option Connection → Option Connection → Type 0
Says bytes (Some old) (Some new) = new ≡ wrote bytes old
Says bytes None None = bytes ≡ []
Says bytes old new = ⊥

-- a call on the connection failed
abbrev pub Breaks : Option Connection → Option Connection → Type 0
Breaks old new = new ≡ option_map broken old

-- these bytes were read, and then a call failed
abbrev pub HearsThenBreaks : List ℕ → Option Connection → Option Connection → Type 0
HearsThenBreaks bytes old new = (between : Option Connection) × Hears bytes old between × Breaks between new

-- these bytes were written, and then a call failed
abbrev pub SaysThenBreaks : List ℕ → Option Connection → Option Connection → Type 0
SaysThenBreaks bytes old new = (between : Option Connection) × Says bytes old between × Breaks between new

-- a prefix of these bytes was written, and then a call failed
abbrev pub SaysFrontThenBreaks : List ℕ → Option Connection → Option Connection → Type 0
SaysFrontThenBreaks bytes old new =
    (front : List ℕ) × (rest : List ℕ) × (bytes ≡ front ++ rest) × SaysThenBreaks front old new

-- No bytes, and bytes one after another

-- nothing was read
pub Hears-nothing : (c : Option Connection) → Hears [] c c
Hears-nothing None = refl
Hears-nothing (Some c) = record { left = refl; read = sym (append-nil c.read); written = refl; failed = refl }

-- nothing was written
pub Says-nothing : (c : Option Connection) → Says [] c c
Says-nothing None = refl
Says-nothing (Some c) = ap (λ (written : List ℕ). record c { written = written }) (sym (append-nil c.written))

-- two additions, one after another, are one
adds : (a b c x y : List ℕ) → b ≡ a ++ x → c ≡ b ++ y → c ≡ a ++ (x ++ y)
adds a b c x y e f = f ∙ ap (λ (front : List ℕ). front ++ y) e ∙ append_assoc a x y

-- no bytes after no bytes are none
nothing : (x y : List ℕ) → x ≡ [] → y ≡ [] → x ++ y ≡ []
nothing x y e f = ap (λ (front : List ℕ). front ++ y) e ∙ f

-- bytes were read, and then further bytes
pub Hears-then : (x y : List ℕ) (a b c : Option Connection) → Hears x a b → Hears y b c → Hears (x ++ y) a c
Hears-then x y None None None p q = nothing x y p q
Hears-then x y None None (Some c) p q = absurd q
Hears-then x y None (Some b) c p q = absurd p
Hears-then x y (Some a) None c p q = absurd p
Hears-then x y (Some a) (Some b) None p q = absurd q
Hears-then x y (Some a) (Some b) (Some c) p q = record {
  left = fronts a.left b.left c.left x y p.left q.left;
  read = adds a.read b.read c.read x y p.read q.read;
  written = q.written ∙ p.written;
  failed = q.failed ∙ p.failed;
}

-- bytes were read, further bytes, and then a call failed
pub Hears-breaks : (x y : List ℕ) (a b c : Option Connection) → Hears x a b → HearsThenBreaks y b c → HearsThenBreaks (x ++ y) a c
Hears-breaks x y a b c p (between, q, breaks) = (between, Hears-then x y a b between p q, breaks)
