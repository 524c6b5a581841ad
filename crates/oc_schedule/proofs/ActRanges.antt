-- The ranges of the values that act lines give.
use Rattle.std.proofs.Common.{◌≡◌, ℕ, ◌≤◌, Bool, true, false, cond, not, ◌&&◌, Option, Some, None, Result, Ok, List, refl, subst, arith, nat_le, codes}
use Rattle.std.specs.Str.{bytes_eq}
use Rattle.std.specs.Str.Parse.{digits_value}
use Rattle.std.proofs.lemmas.Bool.{and_parts}
use Rattle.std.proofs.lemmas.Bool.Decides.{nat_tests}
use Rattle.oc_base.specs.Names.{IsGroupName, name_fault, name_or}
use Rattle.oc_base.specs.declared.group_name.NameFault.{NameFault}
use Rattle.oc_base.specs.declared.why.Why.{Why}
use Rattle.oc_base.specs.declared.why.Why.TheVariants as causes
use Rattle.oc_model.specs.declared.event.Act.{Act}
use Rattle.oc_model.specs.declared.event.Act.TheVariants.{At, Deliver}
use Rattle.oc_model.specs.declared.input.Input.TheVariants.{Tick, CheckNow, Relocate, Unreachable, Pull, Measured, Publish, Seal, Client}
use Rattle.oc_model.specs.Numbers.{number_end}
use Rattle.oc_base.specs.Lawful.{IsNode}
use Rattle.oc_model.specs.Lawful.{IsAct}
use Rattle.oc_schedule.proofs.Steps.{steps, behind_guard, within_guard}
use Rattle.oc_base.specs.Words.{one, two, three, four, is_number, number_in, node_in}
use Rattle.oc_base.specs.declared.limits.TheConstants.{MAX_RATE, MAX_START, MAX_TIME}
use Rattle.oc_schedule.specs.Fields.{group_in, bytes_in}
use Rattle.oc_schedule.specs.Acts.{ticked_in, tick_in, check_in, pair_in, move_in, fail_in, pull_in, measure_in, publish_in, seal_in, client_in, delivered_in, deliver_in, act_in, bytes_of_act, most_byte}
use Rattle.oc_base.specs.Steps.{with_fault}

-- a number between the least and the greatest one
pub number_range : (least most : ℕ) (field : List ℕ) (n : ℕ) → number_in least most field ≡ Ok n → (least ≤ n) × (n ≤ most)
number_range least most field n h =
    let spelled = behind_guard (not (is_number field)) causes.Number _ n h in
    let within = within_guard (nat_le least (digits_value 10 field) && nat_le (digits_value 10 field) most) causes.Range _ n spelled.1 in
    let same : digits_value 10 field ≡ n = cc within.1 in
    let parts = and_parts (nat_le least (digits_value 10 field)) (nat_le (digits_value 10 field) most) within.0 in
    grind (arith, nat_tests)

named : (bytes : List ℕ) (o : Option NameFault) (g : List ℕ) → with_fault causes.Group (name_or bytes o) ≡ Ok g → (o ≡ None) × (bytes ≡ g)
named bytes None g h = (refl, cc h)
named bytes (Some fault) g h = cc h

-- a group has a name
pub group_range : (field g : List ℕ) → group_in field ≡ Ok g → IsGroupName g
group_range field g h =
    let name = named field (name_fault field) g h in
    subst (λ (bytes : List ℕ). name_fault bytes ≡ None) name.1 name.0

-- An act that is read is within its ranges, unless it publishes too many bytes.

abbrev pub IsActIfFew : ℕ → Act → Type 0
IsActIfFew nodes act = bytes_of_act act ≤ 1000000 → IsAct nodes act

-- a node and a second
ticked_range : (nodes : ℕ) (fields : List (List ℕ)) (ticked : ℕ × ℕ) → ticked_in nodes fields ≡ Ok ticked → IsNode nodes ticked.0 × (ticked.1 ≤ MAX_TIME)
ticked_range nodes fields ticked h =
    steps (two fields) _ _ h λ f is_two then.
    steps (node_in nodes f.0) _ _ then λ node is_node then.
    steps (number_in 0 MAX_TIME f.1) _ _ then λ now is_now end.
    let same : (node, now) ≡ ticked = cc end in
    subst (λ (x : ℕ × ℕ). IsNode nodes x.0 × (x.1 ≤ MAX_TIME)) same
    (number_range 1 nodes f.0 node is_node, (number_range 0 MAX_TIME f.1 now is_now).1)

tick_range : (nodes : ℕ) (fields : List (List ℕ)) (act : Act) → tick_in nodes fields ≡ Ok act → IsActIfFew nodes act
tick_range nodes fields act h =
    steps (ticked_in nodes fields) _ _ h λ ticked is_ticked end.
    let same : At ticked.0 (Tick ticked.1) ≡ act = cc end in
    subst (IsActIfFew nodes) same λ few. ticked_range nodes fields ticked is_ticked

check_range : (nodes : ℕ) (fields : List (List ℕ)) (act : Act) → check_in nodes fields ≡ Ok act → IsActIfFew nodes act
check_range nodes fields act h =
    steps (one fields) _ _ h λ n is_one then.
    steps (node_in nodes n) _ _ then λ node is_node end.
    let same : At node CheckNow ≡ act = cc end in
    subst (IsActIfFew nodes) same λ few. (number_range 1 nodes n node is_node, tt)

-- a node and a peer
pair_range : (nodes : ℕ) (fields : List (List ℕ)) (pair : ℕ × ℕ) → pair_in nodes fields ≡ Ok pair → IsNode nodes pair.0 × IsNode nodes pair.1
pair_range nodes fields pair h =
    steps (two fields) _ _ h λ f is_two then.
    steps (node_in nodes f.0) _ _ then λ node is_node then.
    steps (node_in nodes f.1) _ _ then λ peer is_peer end.
    let same : (node, peer) ≡ pair = cc end in
    subst (λ (x : ℕ × ℕ). IsNode nodes x.0 × IsNode nodes x.1) same
    (number_range 1 nodes f.0 node is_node, number_range 1 nodes f.1 peer is_peer)

move_range : (nodes : ℕ) (fields : List (List ℕ)) (act : Act) → move_in nodes fields ≡ Ok act → IsActIfFew nodes act
move_range nodes fields act h =
    steps (pair_in nodes fields) _ _ h λ pair is_pair end.
    let same : At pair.0 (Relocate pair.1) ≡ act = cc end in
    subst (IsActIfFew nodes) same λ few. pair_range nodes fields pair is_pair

fail_range : (nodes : ℕ) (fields : List (List ℕ)) (act : Act) → fail_in nodes fields ≡ Ok act → IsActIfFew nodes act
fail_range nodes fields act h =
    steps (pair_in nodes fields) _ _ h λ pair is_pair end.
    let same : At pair.0 (Unreachable pair.1) ≡ act = cc end in
    subst (IsActIfFew nodes) same λ few. pair_range nodes fields pair is_pair

pull_range : (nodes : ℕ) (fields : List (List ℕ)) (act : Act) → pull_in nodes fields ≡ Ok act → IsActIfFew nodes act
pull_range nodes fields act h =
    steps (pair_in nodes fields) _ _ h λ pair is_pair end.
    let same : At pair.0 (Pull pair.1) ≡ act = cc end in
    subst (IsActIfFew nodes) same λ few. pair_range nodes fields pair is_pair

measure_range : (nodes : ℕ) (fields : List (List ℕ)) (act : Act) → measure_in nodes fields ≡ Ok act → IsActIfFew nodes act
measure_range nodes fields act h =
    steps (four fields) _ _ h λ f is_four then.
    steps (node_in nodes f.0) _ _ then λ node is_node then.
    steps (node_in nodes f.1) _ _ then λ peer is_peer then.
    steps (number_in 0 MAX_RATE f.2) _ _ then λ rate is_rate then.
    steps (number_in 0 most_byte f.3) _ _ then λ hops is_hops end.
    let same : At node (Measured peer rate hops) ≡ act = cc end in
    subst (IsActIfFew nodes) same λ few.
    (number_range 1 nodes f.0 node is_node, (number_range 1 nodes f.1 peer is_peer, (number_range 0 MAX_RATE f.2 rate is_rate).1, (number_range 0 most_byte f.3 hops is_hops).1))

publish_range : (nodes : ℕ) (fields : List (List ℕ)) (act : Act) → publish_in nodes fields ≡ Ok act → IsActIfFew nodes act
publish_range nodes fields act h =
    steps (three fields) _ _ h λ f is_three then.
    steps (node_in nodes f.0) _ _ then λ node is_node then.
    steps (group_in f.1) _ _ then λ group is_group then.
    steps (bytes_in f.2) _ _ then λ bytes is_bytes end.
    let same : At node (Publish group bytes) ≡ act = cc end in
    subst (IsActIfFew nodes) same λ few. (number_range 1 nodes f.0 node is_node, (group_range f.1 group is_group, few))

seal_range : (nodes : ℕ) (fields : List (List ℕ)) (act : Act) → seal_in nodes fields ≡ Ok act → IsActIfFew nodes act
seal_range nodes fields act h =
    steps (two fields) _ _ h λ f is_two then.
    steps (node_in nodes f.0) _ _ then λ node is_node then.
    steps (group_in f.1) _ _ then λ group is_group end.
    let same : At node (Seal group) ≡ act = cc end in
    subst (IsActIfFew nodes) same λ few. (number_range 1 nodes f.0 node is_node, group_range f.1 group is_group)

client_range : (nodes : ℕ) (fields : List (List ℕ)) (act : Act) → client_in nodes fields ≡ Ok act → IsActIfFew nodes act
client_range nodes fields act h =
    steps (four fields) _ _ h λ f is_four then.
    steps (node_in nodes f.0) _ _ then λ node is_node then.
    steps (number_in 0 most_byte f.1) _ _ then λ area is_area then.
    steps (number_in 0 MAX_START f.2) _ _ then λ start is_start then.
    steps (group_in f.3) _ _ then λ group is_group end.
    let same : At node (Client area start group) ≡ act = cc end in
    subst (IsActIfFew nodes) same λ few.
    (number_range 1 nodes f.0 node is_node, ((number_range 0 most_byte f.1 area is_area).1, (number_range 0 MAX_START f.2 start is_start).1, group_range f.3 group is_group))

-- the number of a message
delivered_range : (fields : List (List ℕ)) (number : ℕ) → delivered_in fields ≡ Ok number → (1 ≤ number) × (number ≤ number_end)
delivered_range fields number h = steps (one fields) _ _ h λ k is_one then. number_range 1 number_end k number then

deliver_range : (nodes : ℕ) (fields : List (List ℕ)) (act : Act) → deliver_in fields ≡ Ok act → IsActIfFew nodes act
deliver_range nodes fields act h =
    steps (delivered_in fields) _ _ h λ number is_delivered end.
    let same : Deliver number ≡ act = cc end in
    let range = delivered_range fields number is_delivered in
    subst (IsActIfFew nodes) same λ few. (range.0, omega arith)

-- one of two readings, by a test of the word
pub either : {A : Type 0} (P : Type 0) (b : Bool) (x y z : Result A Why) → cond b x y ≡ z → (x ≡ z → P) → (y ≡ z → P) → P
either P true x y z h first second = first h
either P false x y z h first second = second h

pub act_range : (nodes : ℕ) (word : List ℕ) (fields : List (List ℕ)) (act : Act) → act_in nodes word fields ≡ Ok act → IsActIfFew nodes act
act_range nodes word fields act h =
    let P = IsActIfFew nodes act in
    either P (bytes_eq word (codes "tick")) _ _ _ h (tick_range nodes fields act) λ h.
    either P (bytes_eq word (codes "deliver")) _ _ _ h (deliver_range nodes fields act) λ h.
    either P (bytes_eq word (codes "check")) _ _ _ h (check_range nodes fields act) λ h.
    either P (bytes_eq word (codes "move")) _ _ _ h (move_range nodes fields act) λ h.
    either P (bytes_eq word (codes "fail")) _ _ _ h (fail_range nodes fields act) λ h.
    either P (bytes_eq word (codes "pull")) _ _ _ h (pull_range nodes fields act) λ h.
    either P (bytes_eq word (codes "measure")) _ _ _ h (measure_range nodes fields act) λ h.
    either P (bytes_eq word (codes "publish")) _ _ _ h (publish_range nodes fields act) λ h.
    either P (bytes_eq word (codes "seal")) _ _ _ h (seal_range nodes fields act) λ h.
    either P (bytes_eq word (codes "client")) _ _ _ h (client_range nodes fields act) λ h. absurd (cc h)
