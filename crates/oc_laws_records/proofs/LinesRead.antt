-- A line that tells something of a node may cost no more than its words.
use Rattle.std.proofs.Common.{◌≡◌, ℕ, ◌≤◌, Bool, true, false, cond, ◌==◌, nat_lt, Result, Ok, Err, List, ◌∷◌, length, inl, inr, refl, subst, arith, codes}
use Rattle.std.specs.Str.{bytes_eq}
use Rattle.std.proofs.lemmas.Bool.{eqb-true}
use Rattle.hex.proofs.HexLemmas.{decode_of-ok}
use Rattle.hex.specs.Hex.{decode_of}
use Rattle.oc_base.specs.declared.limits.TheConstants.{MAX_NODES, MAX_PUBLISH_BYTES}
use Rattle.oc_base.specs.declared.why.Why.TheVariants as causes
use Rattle.oc_base.specs.Steps.{with_fault}
use Rattle.oc_base.specs.Words.{node_in, two}
use Rattle.oc_model.specs.declared.event.Act.{Act}
use Rattle.oc_model.specs.declared.event.Act.TheVariants.{At, Deliver}
use Rattle.oc_model.specs.declared.input.Input.{Input}
use Rattle.oc_model.specs.declared.input.Input.TheVariants.{Tick, CheckNow, Relocate, Unreachable, Pull, Measured, Publish, Seal, Client, Delivered}
use Rattle.oc_model.specs.declared.message.Message.{Message}
use Rattle.oc_schedule.proofs.ActRanges.{number_range}
use Rattle.oc_schedule.proofs.Steps.{behind_guard, chosen, steps, within_guard}
use Rattle.oc_schedule.specs.Acts.{PublishesBytes, act_in}
use Rattle.oc_wire.specs.declared.fault.WireFault.{WireFault}
use Rattle.oc_wire.specs.MessageReading.{decoded}
use Rattle.oc_merge.specs.declared.told.Told.{Told}
use Rattle.oc_merge.specs.declared.told.Told.TheVariants.{Came, Took}
use Rattle.oc_merge.specs.Lines.{came_in, is_recorded, of_own, own_input, told_in, took_in}
use Rattle.oc_merge.specs.Recorded.{entry_of, message_of, message_or_none}
use Rattle.oc_merge.specs.Told.{published_by}
use Rattle.oc_laws_records.proofs.Numbers.{decimal_some}
use Rattle.oc_laws_records.proofs.ScheduleCosts.{entry_cost}
use Rattle.oc_laws_records.proofs.Totals.{deliver_bytes, total}
use Rattle.oc_laws_records.proofs.WordsRead.{IsPrintedIn, act_printed, decoded_long, node_length, same_length, two_total, without_fault}

-- the content that a line publishes is bytes
abbrev pub IsOfBytes : ℕ → Told → Type 0
IsOfBytes x (Took i) = PublishesBytes (At x i)
IsOfBytes x told = Unit {0}

-- a message that comes to a node is eight bytes at least
received_long : (nodes x : ℕ) (bytes : List ℕ) → 1 ≤ x → (message_of nodes bytes).to ≡ x → 8 ≤ length bytes
received_long nodes x bytes some to = by_result (decoded nodes bytes) refl to where
  by_result : (r : Result Message WireFault) → decoded nodes bytes ≡ r → (message_or_none r).to ≡ x → 8 ≤ length bytes
  by_result (Ok m) e to = decoded_long nodes bytes m e
  by_result (Err fault) e to = let none : 0 ≡ x = to in absurd (omega (arith, none, some))

module _ (price : ℕ → ℕ) (more : (a b : ℕ) → a ≤ b → price a ≤ price b) (nodes : ℕ) where
  -- the line costs at most this number of bytes, and its content is bytes
  pub record Costs (x n : ℕ) (t : Told) : Type 0 where
    pub cost : entry_cost price x (entry_of nodes t) ≤ price n
    pub bytes : IsOfBytes x t

  came_costs : (x n : ℕ) (bytes : List ℕ) → 1 ≤ x → (8 ≤ length bytes → deliver_bytes ≤ n) → Costs x n (Came bytes)
  came_costs x n bytes some long = record { cost = by_test ((message_of nodes bytes).to == x) refl; bytes = tt } where
    by_test : (b : Bool) → ((message_of nodes bytes).to == x) ≡ b → cond b (price deliver_bytes) 0 ≤ price n
    by_test true e = more deliver_bytes n (long (received_long nodes x bytes some (eqb-true (message_of nodes bytes).to x e)))
    by_test false e = omega arith

  took_costs : (x n : ℕ) (i : Input) → IsPrintedIn n (At x i) → Costs x n (Took i)
  took_costs x n (Tick t) is = record { cost = more _ n (omega (arith, is.0)); bytes = is.1 }
  took_costs x n CheckNow is = record { cost = more _ n (omega (arith, is.0)); bytes = is.1 }
  took_costs x n (Relocate p) is = record { cost = more _ n (omega (arith, is.0)); bytes = is.1 }
  took_costs x n (Unreachable p) is = record { cost = more _ n (omega (arith, is.0)); bytes = is.1 }
  took_costs x n (Pull p) is = record { cost = more _ n (omega (arith, is.0)); bytes = is.1 }
  took_costs x n (Measured p rate hops) is = record { cost = more _ n (omega (arith, is.0)); bytes = is.1 }
  took_costs x n (Publish g bytes) is = record { cost = more _ n (omega (arith, is.0)); bytes = is.1 }
  took_costs x n (Seal g) is = record { cost = more _ n (omega (arith, is.0)); bytes = is.1 }
  took_costs x n (Client area start g) is = record { cost = more _ n (omega (arith, is.0)); bytes = is.1 }
  took_costs x n (Delivered m) is = absurd is

  own_costs : (me x n : ℕ) (t u : Told) → Costs x n t → of_own me x t ≡ Ok u → Costs me n u
  own_costs me x n t u costs h =
      let own = within_guard (x == me) causes.Word (Ok t) u h in
      let same : t ≡ u = cc own.1 in
      let here : x ≡ me = eqb-true x me own.0 in
      subst (Costs me n) same (subst (λ (y : ℕ). Costs y n t) here costs)

  module _ (among : ℕ) (few : among ≤ MAX_NODES) (me : ℕ) (word : List ℕ) (fields : List (List ℕ)) (t : Told) where
    abbrev Cheap : Type 0
    Cheap = Costs me (total (word ∷ fields)) t

    came_cheap : length word ≡ 4 → came_in among me fields ≡ Ok t → Cheap
    came_cheap long h =
        steps (two fields) _ _ h λ f is_two then.
        steps (node_in among f.0) _ _ then λ x is_node then.
        steps (with_fault causes.Hex (decode_of f.1)) _ _ then λ bytes is_hex end.
        let range = number_range 1 among f.0 x is_node in
        let digits = decode_of-ok f.1 bytes (without_fault causes.Hex (decode_of f.1) bytes is_hex) in
        let enough : 8 ≤ length bytes → deliver_bytes ≤ total (word ∷ fields) = λ eight. omega (arith, eight, long, two_total fields f is_two, digits.2, node_length among f.0 x few is_node, decimal_some x (omega (arith, range.1, few))) in
        own_costs me x (total (word ∷ fields)) (Came bytes) t (came_costs x (total (word ∷ fields)) bytes range.0 enough) end

    input_cheap : (act : Act) → IsPrintedIn (total (word ∷ fields)) act → own_input me act ≡ Ok t → Cheap
    input_cheap (At x i) is h =
        let own = behind_guard (nat_lt MAX_PUBLISH_BYTES (published_by (Took i))) causes.Range (of_own me x (Took i)) t h in
        own_costs me x (total (word ∷ fields)) (Took i) t (took_costs x (total (word ∷ fields)) i is) own.1
    input_cheap (Deliver number) is h = absurd (cc h)

    took_cheap : took_in among me word fields ≡ Ok t → Cheap
    took_cheap h = steps (act_in among word fields) _ _ h λ act is_act end. input_cheap act (act_printed among few word fields act is_act) end

    pub told_cheap : told_in among me word fields ≡ Ok t → Cheap
    told_cheap h = elim (chosen (bytes_eq word (codes "recv")) _ _ _ h) [
      | inl came ↦ came_cheap (same_length word (codes "recv") came.0) came.1
      | inr other ↦ took_cheap (within_guard (is_recorded word) causes.Word (took_in among me word fields) t other.1).1
    ]
