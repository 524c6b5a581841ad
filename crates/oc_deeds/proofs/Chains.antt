-- Deeds after deeds.
use Rattle.std.proofs.Common.{◌≡◌, ℕ, Option, None, Some, List, [], ◌∷◌, ◌++◌, refl, sym, ap, subst, ◌∙◌}
use Rattle.std.proofs.lemmas.List.{append_assoc}
use Rattle.oc_link.specs.declared.call.Call.{Call}
use Rattle.oc_link.specs.declared.counts.LinkCounts.{LinkCounts}
use Rattle.oc_model.specs.declared.input.Input.{Input}
use Rattle.std.specs.Prelude.{unwrap_or}
use Rattle.oc_config.specs.Settings.{Settings}
use Rattle.oc_deeds.specs.Changes.{Change, changes_of, deed_change, with_change}
use Rattle.oc_deeds.specs.Deeds.{Deed, Running, Setting, after, after_all, calls, calls_of, config_behind, deed_input, inputs_of, line, lines, reread_of, with_input}
use Rattle.oc_deeds.specs.Deeds as deeds
use Rattle.oc_deeds.specs.Done.{CountsAll}

-- Lists

-- the lines of deeds after deeds
pub lines_append : (s : Setting) (ds es : List Deed) → lines s (ds ++ es) ≡ lines s ds ++ lines s es
lines_append s [] es = refl
lines_append s (d ∷ ds) es = ap (λ (t : List ℕ). line s d ++ t) (lines_append s ds es) ∙ sym (append_assoc (line s d) (lines s ds) (lines s es))

-- an input before inputs
with_append : (o : Option Input) (is js : List Input) → with_input o (is ++ js) ≡ with_input o is ++ js
with_append None is js = refl
with_append (Some i) is js = refl

-- the inputs of deeds
pub inputs_append : (ds es : List Deed) → inputs_of (ds ++ es) ≡ inputs_of ds ++ inputs_of es
inputs_append [] es = refl
inputs_append (d ∷ ds) es = ap (λ (is : List Input). with_input (deed_input d) is) (inputs_append ds es) ∙ with_append (deed_input d) (inputs_of ds) (inputs_of es)

-- their changes of the node
changes_with : (o : Option Change) (cs more : List Change) → with_change o (cs ++ more) ≡ with_change o cs ++ more
changes_with None cs more = refl
changes_with (Some c) cs more = refl

pub changes_append : (ds es : List Deed) → changes_of (ds ++ es) ≡ changes_of ds ++ changes_of es
changes_append [] es = refl
changes_append (d ∷ ds) es = ap (λ (cs : List Change). with_change (deed_change d) cs) (changes_append ds es) ∙ changes_with (deed_change d) (changes_of ds) (changes_of es)

-- a running node after deeds
pub after_append : (ds es : List Deed) (a : Running) → after_all (ds ++ es) a ≡ after_all es (after_all ds a)
after_append [] es a = refl
after_append (d ∷ ds) es a = after_append ds es (after d a)

-- the configuration that they leave
pub config_append : (ds es : List Deed) (c : Settings) → config_behind (ds ++ es) c ≡ config_behind es (config_behind ds c)
config_append [] es c = refl
config_append (d ∷ ds) es c = config_append ds es (unwrap_or (reread_of d) c)

-- it is that of the running node
config_after : (d : Deed) (a : Running) → (after d a).config ≡ unwrap_or (reread_of d) a.config
config_after (deeds.Sees e wait bytes) a = refl
config_after (deeds.Reads t) a = refl
config_after (deeds.Tells t) a = refl
config_after (deeds.Takes i) a = refl
config_after (deeds.Accepts i) a = refl
config_after (deeds.Says text) a = refl
config_after (deeds.Notes why) a = refl
config_after (deeds.Permits c) a = refl
config_after (deeds.Waits w) a = refl
config_after (deeds.Replies r response now) a = refl
config_after (deeds.Refuses c count why) a = refl
config_after (deeds.Rejects fault) a = refl
config_after (deeds.BreaksOff c) a = refl
config_after (deeds.Gives p now) a = refl
config_after (deeds.LaysAside p) a = refl
config_after (deeds.Drops c told) a = refl
config_after (deeds.Dials place m d) a = refl
config_after (deeds.Probes peer d now) a = refl
config_after (deeds.Looks look) a = refl
config_after (deeds.Rereads config) a = refl
config_after (deeds.Keeps why) a = refl

pub config_after_all : (ds : List Deed) (a : Running) → (after_all ds a).config ≡ config_behind ds a.config
config_after_all [] a = refl
config_after_all (d ∷ ds) a = config_after_all ds (after d a) ∙ ap (config_behind ds) (config_after d a)

-- their calls
pub calls_append : (s : Setting) (ds es : List Deed) (a : Running) → calls_of s (ds ++ es) a ≡ calls_of s ds a ++ calls_of s es (after_all ds a)
calls_append s [] es a = refl
calls_append s (d ∷ ds) es a =
    ap (λ (cs : List Call). calls s d a ++ cs) (calls_append s ds es (after d a))
    ∙ sym (append_assoc (calls s d a) (calls_of s ds (after d a)) (calls_of s es (after_all ds (after d a))))

-- Counts

-- the counts after deeds and further ones
pub counts_append : (ds es : List Deed) (a b c : LinkCounts) → CountsAll ds a b → CountsAll es b c → CountsAll (ds ++ es) a c
counts_append [] es a b c first second = subst (λ (x : LinkCounts). CountsAll es x c) first second
counts_append (deeds.Sees e wait bytes ∷ ds) es a b c (at, one, first) second = (at, one, counts_append ds es at b c first second)
counts_append (deeds.Reads t ∷ ds) es a b c first second = counts_append ds es a b c first second
counts_append (deeds.Tells t ∷ ds) es a b c first second = counts_append ds es a b c first second
counts_append (deeds.Takes i ∷ ds) es a b c first second = counts_append ds es a b c first second
counts_append (deeds.Accepts i ∷ ds) es a b c first second = counts_append ds es a b c first second
counts_append (deeds.Says text ∷ ds) es a b c first second = counts_append ds es a b c first second
counts_append (deeds.Notes why ∷ ds) es a b c first second = counts_append ds es a b c first second
counts_append (deeds.Permits x ∷ ds) es a b c first second = counts_append ds es a b c first second
counts_append (deeds.Waits w ∷ ds) es a b c first second = counts_append ds es a b c first second
counts_append (deeds.Replies r response now ∷ ds) es a b c first second = counts_append ds es a b c first second
counts_append (deeds.Refuses x count why ∷ ds) es a b c first second = counts_append ds es a b c first second
counts_append (deeds.Rejects fault ∷ ds) es a b c first second = counts_append ds es a b c first second
counts_append (deeds.BreaksOff x ∷ ds) es a b c first second = counts_append ds es a b c first second
counts_append (deeds.Gives p now ∷ ds) es a b c first second = counts_append ds es a b c first second
counts_append (deeds.LaysAside p ∷ ds) es a b c first second = counts_append ds es a b c first second
counts_append (deeds.Drops x told ∷ ds) es a b c first second = counts_append ds es a b c first second
counts_append (deeds.Dials place m d ∷ ds) es a b c first second = counts_append ds es a b c first second
counts_append (deeds.Probes peer d now ∷ ds) es a b c first second = counts_append ds es a b c first second
counts_append (deeds.Looks look ∷ ds) es a b c first second = counts_append ds es a b c first second
counts_append (deeds.Rereads config ∷ ds) es a b c first second = counts_append ds es a b c first second
counts_append (deeds.Keeps why ∷ ds) es a b c first second = counts_append ds es a b c first second

-- deeds never raise the count of failures of `next`
pub counts_listening : (ds : List Deed) (a b : LinkCounts) → CountsAll ds a b → b.listening ≡ a.listening
counts_listening [] a b done = ap (λ (x : LinkCounts). x.listening) done
counts_listening (deeds.Sees e wait bytes ∷ ds) a b (at, one, done) = counts_listening ds at b done ∙ one.listening
counts_listening (deeds.Reads t ∷ ds) a b done = counts_listening ds a b done
counts_listening (deeds.Tells t ∷ ds) a b done = counts_listening ds a b done
counts_listening (deeds.Takes i ∷ ds) a b done = counts_listening ds a b done
counts_listening (deeds.Accepts i ∷ ds) a b done = counts_listening ds a b done
counts_listening (deeds.Says text ∷ ds) a b done = counts_listening ds a b done
counts_listening (deeds.Notes why ∷ ds) a b done = counts_listening ds a b done
counts_listening (deeds.Permits x ∷ ds) a b done = counts_listening ds a b done
counts_listening (deeds.Waits w ∷ ds) a b done = counts_listening ds a b done
counts_listening (deeds.Replies r response now ∷ ds) a b done = counts_listening ds a b done
counts_listening (deeds.Refuses x count why ∷ ds) a b done = counts_listening ds a b done
counts_listening (deeds.Rejects fault ∷ ds) a b done = counts_listening ds a b done
counts_listening (deeds.BreaksOff x ∷ ds) a b done = counts_listening ds a b done
counts_listening (deeds.Gives p now ∷ ds) a b done = counts_listening ds a b done
counts_listening (deeds.LaysAside p ∷ ds) a b done = counts_listening ds a b done
counts_listening (deeds.Drops x told ∷ ds) a b done = counts_listening ds a b done
counts_listening (deeds.Dials place m d ∷ ds) a b done = counts_listening ds a b done
counts_listening (deeds.Probes peer d now ∷ ds) a b done = counts_listening ds a b done
counts_listening (deeds.Looks look ∷ ds) a b done = counts_listening ds a b done
counts_listening (deeds.Rereads config ∷ ds) a b done = counts_listening ds a b done
counts_listening (deeds.Keeps why ∷ ds) a b done = counts_listening ds a b done
