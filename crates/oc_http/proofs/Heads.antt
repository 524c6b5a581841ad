-- Texts that come line by line and are not whole yet: heads of either form, and others that end in a line feed.
use Rattle.std.proofs.Common.{◌≡◌, ℕ, inl, inr, List, [], ◌∷◌, ◌++◌, sym, ap, ◌∙◌, subst}
use Rattle.std.proofs.lemmas.List.{append_assoc}
use Rattle.httparse.specs.Ascii.{line_feed}
use Rattle.oc_http.specs.Lines.{HasNoLineEnd}
use Rattle.oc_http.specs.Unfinished.{CanBecome, IsUnfinished, IsHopeless}
use Rattle.oc_http.proofs.LineEnds.{ended, ended-some, ends_before, ends_or_whole}

-- the needs of a form: each text ends in a line feed, bytes after it do not matter, and bytes begin with one at most
pub record IsForm {H : Type 0} (Reads : List ℕ → H → List ℕ → Type 0) : Type 0 where
  pub line : H → List ℕ
  pub front : (bytes : List ℕ) (head : H) (rest : List ℕ) → Reads bytes head rest → bytes ≡ ended (line head) ++ rest
  pub again : (bytes other : List ℕ) (head : H) (rest behind : List ℕ) → Reads bytes head rest → other ≡ ended (line head) ++ behind → Reads other head behind
  pub unique : (bytes : List ℕ) (h k : H) (r q : List ℕ) → Reads bytes h r → Reads bytes k q → (h ≡ k) × (r ≡ q)

-- an empty text is unfinished
pub IsUnfinished-none : {H : Type 0} {Reads : List ℕ → H → List ℕ → Type 0} → IsForm Reads → IsUnfinished Reads []
IsUnfinished-none form = record {
  no_tree = λ head rest reads. ended-some (form.line head) rest (sym (form.front [] head rest reads));
  goes_on = λ line rest e. absurd (ended-some line rest (append_assoc line (line_feed ∷ []) rest ∙ sym e));
}

-- a line that has not ended changes nothing
pub IsUnfinished-more : {H : Type 0} {Reads : List ℕ → H → List ℕ → Type 0} → IsForm Reads → (before piece : List ℕ) → IsUnfinished Reads before → HasNoLineEnd piece → IsUnfinished Reads (before ++ piece)
IsUnfinished-more form before piece unfinished none = record {
  no_tree = λ head rest reads.
      let found = ends_before (form.line head) rest before piece none (sym (form.front (before ++ piece) head rest reads)) in
      unfinished.no_tree head found.0 (form.again (before ++ piece) before head rest found.0 reads found.1);
  goes_on = λ line rest e.
      let found = ends_before line rest before piece none (append_assoc line (line_feed ∷ []) rest ∙ sym e) in
      unfinished.goes_on line found.0 (found.1 ∙ append_assoc line (line_feed ∷ []) found.0);
}

-- bytes that can become a whole and begin with none are unfinished
pub IsUnfinished-open : {H : Type 0} {Reads : List ℕ → H → List ℕ → Type 0} (bytes : List ℕ) → ((head : H) (rest : List ℕ) → ¬ (Reads bytes head rest)) → CanBecome Reads bytes → IsUnfinished Reads bytes
IsUnfinished-open {H} {Reads} bytes none can = record {
  no_tree = none;
  goes_on = λ line rest e.
      let text : bytes ++ can.0 ≡ ended line ++ (rest ++ can.0) = ap (λ (x : List ℕ). x ++ can.0) (e ∙ sym (append_assoc line (line_feed ∷ []) rest)) ∙ append_assoc (ended line) rest can.0 in
      (rest ++ can.0, can.1, subst (λ (x : List ℕ). Reads x can.1 []) text can.2);
}

-- a whole is found at the end of its last line
pub whole_at_end : {H : Type 0} {Reads : List ℕ → H → List ℕ → Type 0} → IsForm Reads → (before piece : List ℕ) (head : H) (rest : List ℕ) → IsUnfinished Reads before → HasNoLineEnd piece → Reads (before ++ ended piece) head rest → rest ≡ []
whole_at_end form before piece head rest unfinished none reads =
    elim (ends_or_whole (form.line head) rest before piece none (sym (form.front (before ++ ended piece) head rest reads))) [
      | inl e ↦ e
      | inr found ↦ absurd (unfinished.no_tree head found.0 (form.again (before ++ ended piece) before head rest found.0 reads found.1))
    ]

-- bytes whose last line has just ended, and which begin no whole any more, are hopeless
pub IsHopeless-line : {H : Type 0} {Reads : List ℕ → H → List ℕ → Type 0} → IsForm Reads → (before piece : List ℕ) → IsUnfinished Reads before → HasNoLineEnd piece → ((more : List ℕ) (head : H) (rest : List ℕ) → ¬ (Reads ((before ++ ended piece) ++ more) head rest)) → IsHopeless Reads (before ++ ended piece)
IsHopeless-line form before piece unfinished none never = record {
  before = before ++ piece;
  ends = sym (append_assoc before piece (line_feed ∷ []));
  unfinished = IsUnfinished-more form before piece unfinished none;
  never = never;
}
