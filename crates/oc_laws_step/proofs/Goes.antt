-- A step under way that goes on by its records: the parts of each rule.
use Rattle.std.proofs.Common.{◌≡◌, ℕ, ◌+◌, ◌≤◌, Bool, true, false, if◌then◌else◌, List, [], ◌∷◌, ◌++◌, length, refl, ap, sym, ◌∙◌, arith, append_assoc, append-nil}
use Rattle.std.specs.List.{AllByRecursion}
use Rattle.oc_model.specs.declared.answer.Answer.{Answer}
use Rattle.oc_model.specs.declared.message.Body.{Body}
use Rattle.oc_model.specs.declared.record.Record.{Record}
use Rattle.oc_model.specs.declared.record.Record.TheVariants as records
use Rattle.oc_model.specs.declared.soft.Soft.{Soft}
use Rattle.oc_model.specs.Node.{Control, Durable}
use Rattle.oc_model.specs.Plan.{Plan, write, send, answers, with_soft}
use Rattle.oc_model.specs.Records.{fold_one, folded}
use Rattle.oc_model.proofs.Lists.{all_append}
use Rattle.oc_laws_step.specs.Sizes.{total}
use Rattle.oc_laws_step.specs.Sound.{IsSoundRecord}

-- Choices between steps

-- a property of both steps holds of the one that a test chooses
pub either : (b : Bool) (P : Plan → Type 0) (o q : Plan) → P o → P q → P (if b then o else q)
either true P o q h k = h
either false P o q h k = k

-- the same, where a step is looked at only if the test chooses it
pub either_by : (b : Bool) (P : Plan → Type 0) (o q : Plan) → (b ≡ true → P o) → (b ≡ false → P q) → P (if b then o else q)
either_by true P o q h k = h refl
either_by false P o q h k = k refl

-- Counting records: entries by themselves, since they are many and small

abbrev pub as_entry : Record → ℕ
as_entry (records.Entry c) = 1
as_entry r = 0

abbrev pub as_other : Record → ℕ
as_other (records.Entry c) = 0
as_other r = 1

pub as_other-most : (r : Record) → as_other r ≤ 1
as_other-most (records.Entry c) = omega arith
as_other-most r = omega arith

-- a sum over two lists in a row
pub total-append : (f : Record → ℕ) (rs qs : List Record) → total f (rs ++ qs) ≡ total f rs + total f qs
total-append f [] qs = omega arith
total-append f (r ∷ rs) qs = let rest = total-append f rs qs in omega arith

-- records in a row are folded one list after another
pub folded-append : (d : Durable) (rs qs : List Record) → folded d (rs ++ qs) ≡ folded (folded d rs) qs
folded-append d [] qs = refl
folded-append d (r ∷ rs) qs = folded-append (fold_one d r) rs qs

-- The relation

-- the same node, whose lists have as many items as before
pub record IsSame (n m : Control) : Type 0 where
  pub me : m.me ≡ n.me
  pub nodes : m.nodes ≡ n.nodes
  pub chain : m.chain ≡ n.chain
  pub chunk : m.chunk ≡ n.chunk
  pub areas : m.areas ≡ n.areas
  pub leases : length m.leases ≡ length n.leases
  pub rates : length m.rates ≡ length n.rates
  pub counts : length m.counts ≡ length n.counts

pub same_itself : (n : Control) → IsSame n n
same_itself n = record { me = refl; nodes = refl; chain = refl; chunk = refl; areas = refl; leases = refl; rates = refl; counts = refl }

pub same_then : (a b c : Control) → IsSame a b → IsSame b c → IsSame a c
same_then a b c h k = record {
  me = k.me ∙ h.me;
  nodes = k.nodes ∙ h.nodes;
  chain = k.chain ∙ h.chain;
  chunk = k.chunk ∙ h.chunk;
  areas = k.areas ∙ h.areas;
  leases = k.leases ∙ h.leases;
  rates = k.rates ∙ h.rates;
  counts = k.counts ∙ h.counts;
}

-- from o to q these records are written, which lead from the durable state before to the one after
pub record GoesBy (o q : Plan) (rs : List Record) : Type 0 where
  pub records : q.records ≡ o.records ++ rs
  pub kept : q.node.kept ≡ folded o.node.kept rs
  pub sound : AllByRecursion IsSoundRecord rs
  pub same : IsSame o.node q.node
  pub keeps : q.keeps ≡ o.keeps
  pub wants : q.wants ≡ o.wants

-- from o to q some records are written, at most `entries` entries and `others` others
pub record Goes (entries others : ℕ) (o q : Plan) : Type 0 where
  pub written : List Record
  pub by : GoesBy o q written
  pub few : total as_entry written ≤ entries
  pub rest : total as_other written ≤ others

-- no record and no kept bytes: a change of the part that a start clears, messages, or an answer
pub goes_still : (o q : Plan) → q.records ≡ o.records → q.node.kept ≡ o.node.kept → IsSame o.node q.node → q.keeps ≡ o.keeps → q.wants ≡ o.wants → Goes 0 0 o q
goes_still o q records kept same keeps wants = record {
  written = [];
  by = record { records = records ∙ sym (append-nil o.records); kept = kept; sound = tt; same = same; keeps = keeps; wants = wants };
  few = omega arith;
  rest = omega arith;
}

pub goes_itself : (o : Plan) → Goes 0 0 o o
goes_itself o = goes_still o o refl refl (same_itself o.node) refl refl

-- one after another
pub goes_then : (e k e' k' : ℕ) (o p q : Plan) → Goes e k o p → Goes e' k' p q → Goes (e + e') (k + k') o q
goes_then e k e' k' o p q h g = record {
  written = h.written ++ g.written;
  by = record {
    records = g.by.records ∙ (ap (λ rs. rs ++ g.written) h.by.records ∙ append_assoc o.records h.written g.written);
    kept = g.by.kept ∙ (ap (λ d. folded d g.written) h.by.kept ∙ sym (folded-append o.node.kept h.written g.written));
    sound = all_append IsSoundRecord h.written g.written h.by.sound g.by.sound;
    same = same_then o.node p.node q.node h.by.same g.by.same;
    keeps = g.by.keeps ∙ h.by.keeps;
    wants = g.by.wants ∙ h.by.wants;
  };
  few = omega (arith, total-append as_entry h.written g.written, h.few, g.few);
  rest = omega (arith, total-append as_other h.written g.written, h.rest, g.rest);
}

-- within a greater bound
pub goes_within : (e k e' k' : ℕ) (o q : Plan) → e ≤ e' → k ≤ k' → Goes e k o q → Goes e' k' o q
goes_within e k e' k' o q more others h = record { written = h.written; by = h.by; few = omega (arith, h.few); rest = omega (arith, h.rest) }

-- one record
pub goes_write : (o : Plan) (r : Record) → IsSoundRecord r → Goes (as_entry r) (as_other r) o (write o r)
goes_write o r sound = record {
  written = r ∷ [];
  by = record { records = refl; kept = refl; sound = (sound, tt); same = record { me = refl; nodes = refl; chain = refl; chunk = refl; areas = refl; leases = refl; rates = refl; counts = refl }; keeps = refl; wants = refl };
  few = omega arith;
  rest = omega arith;
}

pub goes_send : (o : Plan) (p : ℕ) (b : Body) → Goes 0 0 o (send o p b)
goes_send o p b = goes_still o (send o p b) refl refl (same_itself o.node) refl refl

pub goes_answers : (o : Plan) (a : Answer) → Goes 0 0 o (answers o a)
goes_answers o a = goes_still o (answers o a) refl refl (same_itself o.node) refl refl

pub goes_soft : (o : Plan) (s : Soft) → Goes 0 0 o (with_soft o s)
goes_soft o s = goes_still o (with_soft o s) refl refl (record { me = refl; nodes = refl; chain = refl; chunk = refl; areas = refl; leases = refl; rates = refl; counts = refl }) refl refl

-- What follows on a step that goes

-- further on with no record
pub then_still : (e k : ℕ) (o p q : Plan) → Goes e k o p → Goes 0 0 p q → Goes e k o q
then_still e k o p q h g = goes_within (e + 0) (k + 0) e k o q (omega arith) (omega arith) (goes_then e k 0 0 o p q h g)

pub then_send : (e k : ℕ) (o q : Plan) (p : ℕ) (b : Body) → Goes e k o q → Goes e k o (send q p b)
then_send e k o q p b h = then_still e k o q (send q p b) h (goes_send q p b)

pub then_answers : (e k : ℕ) (o q : Plan) (a : Answer) → Goes e k o q → Goes e k o (answers q a)
then_answers e k o q a h = then_still e k o q (answers q a) h (goes_answers q a)

pub then_soft : (e k : ℕ) (o q : Plan) (s : Soft) → Goes e k o q → Goes e k o (with_soft q s)
then_soft e k o q s h = then_still e k o q (with_soft q s) h (goes_soft q s)

-- one more record that is no entry
pub then_other : (k : ℕ) (o q : Plan) (r : Record) → as_entry r ≡ 0 → IsSoundRecord r → Goes 0 k o q → Goes 0 (k + 1) o (write q r)
then_other k o q r other sound h =
    goes_within (0 + as_entry r) (k + as_other r) 0 (k + 1) o (write q r) (omega (arith, other)) (omega (arith, as_other-most r))
    (goes_then 0 k (as_entry r) (as_other r) o q (write q r) h (goes_write q r sound))

-- where nothing is written, any bound holds
pub goes_free : (e k : ℕ) (o q : Plan) → Goes 0 0 o q → Goes e k o q
goes_free e k o q h = goes_within 0 0 e k o q (omega arith) (omega arith) h

-- only an answer
pub goes_says : (e k : ℕ) (o : Plan) (a : Answer) → Goes e k o (answers o a)
goes_says e k o a = goes_free e k o (answers o a) (goes_answers o a)
