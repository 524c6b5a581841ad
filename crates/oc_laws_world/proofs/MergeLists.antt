-- The entries of one node in a longer merge, their fold, and the messages of their steps.
use Rattle.std.proofs.Common.{◌≡◌, ℕ, suc, Bool, true, false, ◌==◌, if◌then◌else◌, Some, List, [], ◌∷◌, ◌++◌, slice_get, inl, inr, ⊎_elim, refl, ap, sym, ◌∙◌, append_assoc, append-nil, eq-eqb, ne_eqb}
use Rattle.oc_model.specs.declared.message.Message.{Message}
use Rattle.oc_model.specs.Node.{Node}
use Rattle.oc_model.specs.Numbers.{IsAmong}
use Rattle.oc_laws_step.proofs.Merges.{among_left}
use Rattle.oc_laws_world.specs.Merges.{Entry, Line, after_entry, sent_by, after_entries, sent_by_all, entries_of, is_any}
use Rattle.oc_laws_world.proofs.Listed.{among_either}

-- an item of the second of two lists is an item of both in a row
pub among_right : {X : Type 0} (x : X) (xs ys : List X) → IsAmong x ys → IsAmong x (xs ++ ys)
among_right x [] ys h = h
among_right x (z ∷ zs) ys h = inr (among_right x zs ys h)

-- an item of a list has a place in it
pub place_of : {X : Type 0} (x : X) (xs : List X) → IsAmong x xs → (k : ℕ) × (slice_get xs k ≡ Some x)
place_of x [] none = absurd none
place_of x (y ∷ ys) (inl e) = (0, ap Some e)
place_of x (y ∷ ys) (inr later) = let found = place_of x ys later in (suc found.0, found.1)

-- Entries

-- two parts of a merge in a row have the entries of both
pub entries-append : (x : ℕ) (ls more : List Line) → entries_of x (ls ++ more) ≡ entries_of x ls ++ entries_of x more
entries-append x [] more = refl
entries-append x (l ∷ ls) more = by_test (l.node == x) (entries-append x ls more) where
  by_test : (b : Bool) → entries_of x (ls ++ more) ≡ entries_of x ls ++ entries_of x more
      → (if b then l.entry ∷ entries_of x (ls ++ more) else entries_of x (ls ++ more)) ≡ (if b then l.entry ∷ entries_of x ls else entries_of x ls) ++ entries_of x more
  by_test true rest = ap (λ es. l.entry ∷ es) rest
  by_test false rest = rest

-- one line more is one entry more of its node
pub entries_here : (ls : List Line) (l : Line) → entries_of l.node (ls ++ l ∷ []) ≡ entries_of l.node ls ++ l.entry ∷ []
entries_here ls l = entries-append l.node ls (l ∷ []) ∙ ap (λ b. entries_of l.node ls ++ (if b then l.entry ∷ [] else [])) (eq-eqb l.node l.node refl)

-- one line more is no entry of any other node
pub entries_there : (ls : List Line) (l : Line) (x : ℕ) → (l.node ≡ x → ⊥) → entries_of x (ls ++ l ∷ []) ≡ entries_of x ls
entries_there ls l x apart = entries-append x ls (l ∷ []) ∙ (ap (λ b. entries_of x ls ++ (if b then l.entry ∷ [] else [])) (ne_eqb l.node x apart) ∙ append-nil (entries_of x ls))

pub any_last : (es : List Entry) (e : Entry) → is_any (es ++ e ∷ []) ≡ true
any_last [] e = refl
any_last (d ∷ es) e = refl

-- The fold of entries, and the sent messages

pub after_last : (n : Node) (es : List Entry) (e : Entry) → after_entries n (es ++ e ∷ []) ≡ after_entry (after_entries n es) e
after_last n [] e = refl
after_last n (d ∷ es) e = after_last (after_entry n d) es e

pub sent_last : (n : Node) (es : List Entry) (e : Entry) → sent_by_all n (es ++ e ∷ []) ≡ sent_by_all n es ++ sent_by (after_entries n es) e
sent_last n [] e = append-nil (sent_by n e)
sent_last n (d ∷ es) e = ap (λ ms. sent_by n d ++ ms) (sent_last (after_entry n d) es e) ∙ sym (append_assoc (sent_by n d) (sent_by_all (after_entry n d) es) (sent_by (after_entries (after_entry n d) es) e))

-- sent messages stay sent
pub sent_longer : (n : Node) (es more : List Entry) (m : Message) → IsAmong m (sent_by_all n es) → IsAmong m (sent_by_all n (es ++ more))
sent_longer n [] more m h = absurd h
sent_longer n (d ∷ es) more m h =
    ⊎_elim (λ now. among_left m (sent_by n d) (sent_by_all (after_entry n d) (es ++ more)) now)
    (λ later. among_right m (sent_by n d) (sent_by_all (after_entry n d) (es ++ more)) (sent_longer (after_entry n d) es more m later))
    (among_either m (sent_by n d) (sent_by_all (after_entry n d) es) h)
