-- Turns do alike with the same bytes of a request, however they were cut.
use Rattle.std.proofs.Common.{◌≡◌, ◌∙◌, ℕ, ◌+◌, Bool, true, false, Option, None, Some, List, [], ◌∷◌, ◌++◌, length, drop, refl, sym, ap, ap₂, subst}
use Rattle.std.specs.Prelude.{◌==◌, if◌then◌else◌, is_some, unwrap_or}
use Rattle.std.proofs.lemmas.List.{append_assoc}
use Rattle.oc_base.specs.Groups.{shelf}
use Rattle.oc_link.proofs.Stories.{read-then, taken-then, given-then}
use Rattle.oc_link.specs.Traffic.{given, held, read, taken}
use Rattle.oc_link.specs.declared.call.Call.{Call}
use Rattle.oc_link.specs.declared.call.Call.TheVariants.{Next}
use Rattle.oc_link.specs.declared.event.Arrival.{Arrival}
use Rattle.oc_link.specs.declared.event.Coming.{Coming}
use Rattle.oc_link.specs.declared.event.Coming.TheVariants.{Open}
use Rattle.oc_link.specs.declared.event.LinkEvent.TheVariants.{Request}
use Rattle.oc_probe.specs.declared.probing.Probing.{Probing}
use Rattle.oc_routes.specs.Verdicts.{IsVerdict, NodeTerms, arrival}
use Rattle.oc_routes.specs.declared.verdict.Verdict.{Verdict}
use Rattle.oc_routes.specs.declared.verdict.Verdict.TheVariants as verdicts
use Rattle.oc_routes.specs.Refusals.{refusal_text}
use Rattle.oc_deeds.specs.Choices.{due_index}
use Rattle.oc_deeds.specs.Deeds.{Reads, Refuses, Running, Setting, after, calls_of, refuses, Deed, after_all, lines}
use Rattle.oc_deeds.specs.Parts.{Part}
use Rattle.oc_deeds.specs.Rereading.{looks_again}
use Rattle.oc_deeds.proofs.Chains.{after_append, calls_append, lines_append}
use Rattle.oc_deeds.specs.Turns.{Means, Observation, takes_at, ticks_and_sends, turn, dealt}
use Rattle.oc_deeds.specs.declared.came.Came.{Came}
use Rattle.oc_deeds.specs.declared.came.Came.TheVariants as comes
use Rattle.oc_deeds.specs.declared.dials.Errand.{Errand}
use Rattle.oc_deeds.specs.declared.pace.Pace.{Pace}
use Rattle.oc_service.specs.Alike.{AreAlike, told_request}

-- Bytes that a link lends

two_pieces : (b : Bool) (first more : List ℕ) → (if b then first else []) ++ ((if b then more else []) ++ []) ≡ (if b then first ++ more else []) ++ []
two_pieces true first more = sym (append_assoc first more [])
two_pieces false first more = refl

-- two pieces of a request that came one after another
pub held_cut : (c d number next : ℕ) (permitted permits : Bool) (coming later : Coming) (calls : List Call) (first more : List ℕ)
    → held c (calls ++ (Next (Request (arrival d number permitted coming)) first ∷ Next (Request (arrival d next permits later)) more ∷ []))
    ≡ held c (calls ++ (Next (Request (arrival d next permits later)) (first ++ more) ∷ []))
held_cut c d number next permitted permits coming later calls first more =
    let two : List Call = Next (Request (arrival d number permitted coming)) first ∷ Next (Request (arrival d next permits later)) more ∷ [] in
    let one : List Call = Next (Request (arrival d next permits later)) (first ++ more) ∷ [] in
    ap₂ (λ (n : ℕ) (bytes : List ℕ). drop n bytes)
    (taken-then c calls two ∙ sym (taken-then c calls one))
    (read-then c calls two ∙ ap (λ (bytes : List ℕ). read c calls ++ bytes) (two_pieces (d == c) first more) ∙ sym (read-then c calls one))

-- Turns

-- the number of refused bytes makes no difference to the bytes given
refused_alike : (c d count more : ℕ) (keep : Bool) (text : Option (List ℕ)) (calls : List Call) → given c (refuses d count keep text ++ calls) ≡ given c (refuses d more keep text ++ calls)
refused_alike c d count more keep None calls = refl
refused_alike c d count more keep (Some text) calls = refl

alike_at : (due : Option ℕ) (pace : Pace) (probing : Option Probing) (t : Observation) (a b : Arrival) (bytes other : List ℕ) (d count more : ℕ) (v : Verdict) (s : Setting) (r : Running)
    → AreAlike s (Reads t.before ∷ takes_at due pace probing (told_request t a bytes (comes.Request d count v)) s r) (Reads t.before ∷ takes_at due pace probing (told_request t b other (comes.Request d more v)) s r) r
alike_at (Some place) pace probing t a b bytes other d count more v s r = record { lines_are = refl; given_are = λ c. refl; node_is = refl }
alike_at None pace probing t a b bytes other d count more verdicts.Wait s r = record { lines_are = refl; given_are = λ c. refl; node_is = refl }
alike_at None pace probing t a b bytes other d count more verdicts.Leave s r = record { lines_are = refl; given_are = λ c. refl; node_is = refl }
alike_at None pace probing t a b bytes other d count more verdicts.Permit s r = record { lines_are = refl; given_are = λ c. refl; node_is = refl }
alike_at None pace probing t a b bytes other d count more (verdicts.Ask request) s r = record { lines_are = refl; given_are = λ c. refl; node_is = refl }
alike_at None pace probing t a b bytes other d count more (verdicts.Refuse why) s r = record {
  lines_are = refl;
  given_are = λ (c : ℕ).
      let after_it : Running = after (Refuses d count why) r in
      refused_alike c d (unwrap_or why.kept count) (unwrap_or why.kept more) (is_some why.kept) (refusal_text why) (calls_of s (ticks_and_sends pace t.now t.seconds s after_it) after_it);
  node_is = refl;
}

-- and then the same part
alike_then : (s : Setting) (ds es : List Deed) (p : Part) (r : Running) → AreAlike s ds es r → AreAlike s (ds ++ p s (after_all ds r)) (es ++ p s (after_all es r)) r
alike_then s ds es p r alike = record {
  lines_are =
      lines_append s ds (p s (after_all ds r))
      ∙ ap₂ (λ (x y : List ℕ). x ++ y) alike.lines_are (ap (λ (q : Running). lines s (p s q)) alike.node_is)
      ∙ sym (lines_append s es (p s (after_all es r)));
  given_are = λ c.
      ap (given c) (calls_append s ds (p s (after_all ds r)) r)
      ∙ given-then c (calls_of s ds r) (calls_of s (p s (after_all ds r)) (after_all ds r))
      ∙ ap₂ (λ (x y : List ℕ). x ++ y) (alike.given_are c) (ap (λ (q : Running). given c (calls_of s (p s q) q)) alike.node_is)
      ∙ sym (given-then c (calls_of s es r) (calls_of s (p s (after_all es r)) (after_all es r)))
      ∙ ap (given c) (sym (calls_append s es (p s (after_all es r)) r));
  node_is =
      after_append ds (p s (after_all ds r)) r
      ∙ ap (λ (q : Running). after_all (p s q) q) alike.node_is
      ∙ sym (after_append es (p s (after_all es r)) r);
}

alike_turn : (pace : Pace) (probing : Option Probing) (t : Observation) (a b : Arrival) (bytes other : List ℕ) (d count more : ℕ) (v w : Verdict) (x y : Came) (s : Setting) (r : Running)
    → x ≡ comes.Request d count v → y ≡ comes.Request d more w → v ≡ w → AreAlike s (turn pace probing (told_request t a bytes x) s r) (turn pace probing (told_request t b other y) s r) r
alike_turn pace probing t a b bytes other d count more v w x y s r first second same =
    subst (λ (p : Came). AreAlike s (turn pace probing (told_request t a bytes p) s r) (turn pace probing (told_request t b other y) s r) r) (sym first)
    (subst (λ (p : Came). AreAlike s (turn pace probing (told_request t a bytes (comes.Request d count v)) s r) (turn pace probing (told_request t b other p) s r) r) (sym second)
    (subst (λ (u : Verdict). AreAlike s (turn pace probing (told_request t a bytes (comes.Request d count v)) s r) (turn pace probing (told_request t b other (comes.Request d more u)) s r) r) same
    (alike_then s (dealt pace probing (told_request t a bytes (comes.Request d count v)) s r) (dealt pace probing (told_request t b other (comes.Request d more v)) s r) (looks_again t.look t.reread) r
    (alike_at (due_index r.works (shelf r.node.groups) t.before) pace probing t a b bytes other d count more v s r))))

module _ (one : (t : NodeTerms) (a : Arrival) (bytes : List ℕ) (v w : Verdict) → IsVerdict t a bytes v → IsVerdict t a bytes w → v ≡ w) where
  -- the same bytes of a request, told with other new bytes
  pub same_alike : (n : NodeTerms) (pace : Pace) (probing : Option Probing) (t : Observation) (s : Setting) (r : Running) (a : Arrival) (lent bytes other : List ℕ) (e f : Option Errand) (x y : Came)
      → Means n lent e (Request a) x → Means n lent f (Request a) y → AreAlike s (turn pace probing (told_request t a bytes x) s r) (turn pace probing (told_request t a other y) s r) r
  same_alike n pace probing t s r a lent bytes other e f x y first second =
      alike_turn pace probing t a a bytes other a.connection (length lent) (length lent) (first.0) (second.0) x y s r (first.2) (second.2)
      (one n a lent (first.0) (second.0) (first.1) (second.1))

  -- a front of the bytes, which is answered already, and all of them
  pub early_alike : ((t : NodeTerms) (c number : ℕ) (permitted : Bool) (coming : Coming) (bytes more : List ℕ) (v : Verdict)
      → IsVerdict t (arrival c number permitted Open) bytes v → (v ≡ verdicts.Wait → ⊥) → IsVerdict t (arrival c number permitted coming) (bytes ++ more) v)
      → (n : NodeTerms) (pace : Pace) (probing : Option Probing) (t : Observation) (s : Setting) (r : Running) (c number : ℕ) (permitted : Bool) (coming : Coming) (lent more bytes other : List ℕ) (e f : Option Errand) (x y : Came)
      → Means n lent e (Request (arrival c number permitted Open)) x → (x ≡ comes.Request c (length lent) verdicts.Wait → ⊥) → Means n (lent ++ more) f (Request (arrival c number permitted coming)) y
      → AreAlike s (turn pace probing (told_request t (arrival c number permitted Open) bytes x) s r) (turn pace probing (told_request t (arrival c number permitted coming) other y) s r) r
  early_alike cut n pace probing t s r c number permitted coming lent more bytes other e f x y first decided second =
      alike_turn pace probing t (arrival c number permitted Open) (arrival c number permitted coming) bytes other c (length lent) (length (lent ++ more)) (first.0) (second.0) x y s r (first.2) (second.2)
      (one n (arrival c number permitted coming) (lent ++ more) (first.0) (second.0)
      (cut n c number permitted coming lent more (first.0) (first.1) (λ wait. decided (first.2 ∙ ap (λ (v : Verdict). comes.Request c (length lent) v) wait)))
      (second.1))
