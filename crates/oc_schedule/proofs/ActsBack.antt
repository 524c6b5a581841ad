-- Lines of acts are read as these acts.
use Rattle.std.proofs.Common.{◌≡◌, ℕ, ◌^◌, ◌<◌, ◌≤◌, Result, Ok, [], ◌∷◌, refl, ap, ◌∙◌, arith, decimal}
use Rattle.oc_base.specs.Lawful.{IsNode}
use Rattle.oc_base.specs.Steps.{◌>>=◌}
use Rattle.oc_base.specs.Words.{node_in, number_in}
use Rattle.oc_base.specs.declared.limits.TheConstants.{MAX_NODES, MAX_RATE, MAX_START, MAX_TIME}
use Rattle.oc_model.specs.declared.event.Act.{Act}
use Rattle.oc_model.specs.declared.event.Act.TheVariants as acts
use Rattle.oc_model.specs.declared.input.Input.{Input}
use Rattle.oc_model.specs.declared.input.Input.TheVariants as inputs
use Rattle.oc_model.specs.Lawful.{IsAct, IsGiven}
use Rattle.oc_model.specs.Numbers.{number_end}
use Rattle.oc_schedule.proofs.FieldsBack.{bytes_back, bytes_word, decimal_word, group_back, name_word, number_back}
use Rattle.oc_schedule.proofs.LineBack.{AreWords}
use Rattle.oc_schedule.specs.Acts.{act_fields, act_in, act_word, act_words, input_fields, input_word, pair_in, ticked_in, most_byte, PublishesBytes}
use Rattle.oc_schedule.specs.Fields.{group_in}

-- a first step that gives x, and a second that gives y
pub then : {A B E : Type 0} (r : Result A E) (f : A → Result B E) (x : A) (y : B) → r ≡ Ok x → f x ≡ Ok y → (r >>= f) ≡ Ok y
then r f x y is next = ap (λ s. s >>= f) is ∙ next

-- Nodes

node_small : (nodes x : ℕ) → nodes ≤ MAX_NODES → IsNode nodes x → x < 2 ^ 64
node_small nodes x few node = omega (arith, few, node.1)

pub node_word : (nodes x : ℕ) → nodes ≤ MAX_NODES → IsNode nodes x → AreWords (decimal x ∷ [])
node_word nodes x few node = (decimal_word x (node_small nodes x few node), tt)

pub node_back : (nodes x : ℕ) → nodes ≤ MAX_NODES → IsNode nodes x → node_in nodes (decimal x) ≡ Ok x
node_back nodes x few node = number_back 1 nodes x (node_small nodes x few node) node.0 node.1

-- Acts

-- a node and a peer
pair_back : (nodes x p : ℕ) → nodes ≤ MAX_NODES → IsNode nodes x → IsNode nodes p → pair_in nodes (decimal x ∷ decimal p ∷ []) ≡ Ok (x, p)
pair_back nodes x p few node peer =
    then (node_in nodes (decimal x)) _ x _ (node_back nodes x few node) (then (node_in nodes (decimal p)) _ p _ (node_back nodes p few peer) refl)

-- a node and a second
ticked_back : (nodes x t : ℕ) → nodes ≤ MAX_NODES → IsNode nodes x → t ≤ MAX_TIME → ticked_in nodes (decimal x ∷ decimal t ∷ []) ≡ Ok (x, t)
ticked_back nodes x t few node least =
    then (node_in nodes (decimal x)) _ x _ (node_back nodes x few node)
    (then (number_in 0 MAX_TIME (decimal t)) _ t _ (number_back 0 MAX_TIME t (omega (arith, least)) (omega arith) least) refl)

input_back : (nodes x : ℕ) (i : Input) → nodes ≤ MAX_NODES → IsNode nodes x → IsGiven nodes x i → PublishesBytes (acts.At x i) → act_in nodes (input_word i) (decimal x ∷ input_fields i) ≡ Ok (acts.At x i)
input_back nodes x (inputs.Tick t) few node h bytes =
    then (ticked_in nodes (decimal x ∷ decimal t ∷ [])) _ (x, t) _ (ticked_back nodes x t few node h) refl
input_back nodes x inputs.CheckNow few node h bytes = then (node_in nodes (decimal x)) _ x _ (node_back nodes x few node) refl
input_back nodes x (inputs.Relocate p) few node h bytes = then (pair_in nodes (decimal x ∷ decimal p ∷ [])) _ (x, p) _ (pair_back nodes x p few node h) refl
input_back nodes x (inputs.Unreachable p) few node h bytes = then (pair_in nodes (decimal x ∷ decimal p ∷ [])) _ (x, p) _ (pair_back nodes x p few node h) refl
input_back nodes x (inputs.Pull p) few node h bytes = then (pair_in nodes (decimal x ∷ decimal p ∷ [])) _ (x, p) _ (pair_back nodes x p few node h) refl
input_back nodes x (inputs.Measured p rate hops) few node h bytes =
    then (node_in nodes (decimal x)) _ x _ (node_back nodes x few node)
    (then (node_in nodes (decimal p)) _ p _ (node_back nodes p few h.0)
    (then (number_in 0 MAX_RATE (decimal rate)) _ rate _ (number_back 0 MAX_RATE rate (omega (arith, h.1)) (omega arith) h.1)
    (then (number_in 0 most_byte (decimal hops)) _ hops _ (number_back 0 most_byte hops (omega (arith, h.2)) (omega arith) h.2) refl)))
input_back nodes x (inputs.Publish g bs) few node h bytes =
    then (node_in nodes (decimal x)) _ x _ (node_back nodes x few node)
    (then (group_in g) _ g _ (group_back g h.0) (ap (λ r. r >>= λ b. Ok (acts.At x (inputs.Publish g b))) (bytes_back bs bytes)))
input_back nodes x (inputs.Seal g) few node h bytes =
    then (node_in nodes (decimal x)) _ x _ (node_back nodes x few node) (then (group_in g) _ g _ (group_back g h) refl)
input_back nodes x (inputs.Client area start g) few node h bytes =
    then (node_in nodes (decimal x)) _ x _ (node_back nodes x few node)
    (then (number_in 0 most_byte (decimal area)) _ area _ (number_back 0 most_byte area (omega (arith, h.0)) (omega arith) h.0)
    (then (number_in 0 MAX_START (decimal start)) _ start _ (number_back 0 MAX_START start (omega (arith, h.1)) (omega arith) h.1)
    (then (group_in g) _ g _ (group_back g h.2) refl)))
input_back nodes x (inputs.Delivered m) few node h bytes = absurd h

pub act_back : (nodes : ℕ) (act : Act) → nodes ≤ MAX_NODES → IsAct nodes act → PublishesBytes act → act_in nodes (act_word act) (act_fields act) ≡ Ok act
act_back nodes (acts.At x i) few h bytes = input_back nodes x i few h.0 h.1 bytes
act_back nodes (acts.Deliver k) few h bytes =
    then (number_in 1 number_end (decimal k)) _ k _ (number_back 1 number_end k (omega (arith, h.1)) h.0 (omega (arith, h.1))) refl

-- the word of an input and its fields are words
word_of_input : (i : Input) → AreWords (input_word i ∷ [])
word_of_input (inputs.Tick t) = (refl, tt)
word_of_input inputs.CheckNow = (refl, tt)
word_of_input (inputs.Relocate p) = (refl, tt)
word_of_input (inputs.Unreachable p) = (refl, tt)
word_of_input (inputs.Pull p) = (refl, tt)
word_of_input (inputs.Measured p rate hops) = (refl, tt)
word_of_input (inputs.Publish g bs) = (refl, tt)
word_of_input (inputs.Seal g) = (refl, tt)
word_of_input (inputs.Client area start g) = (refl, tt)
word_of_input (inputs.Delivered m) = (refl, tt)

fields_are_words : (nodes x : ℕ) (i : Input) → nodes ≤ MAX_NODES → IsGiven nodes x i → PublishesBytes (acts.At x i) → AreWords (input_fields i)
fields_are_words nodes x (inputs.Tick t) few h bytes = (decimal_word t (omega (arith, h)), tt)
fields_are_words nodes x inputs.CheckNow few h bytes = tt
fields_are_words nodes x (inputs.Relocate p) few h bytes = node_word nodes p few h
fields_are_words nodes x (inputs.Unreachable p) few h bytes = node_word nodes p few h
fields_are_words nodes x (inputs.Pull p) few h bytes = node_word nodes p few h
fields_are_words nodes x (inputs.Measured p rate hops) few h bytes =
    ((node_word nodes p few h.0).0, (decimal_word rate (omega (arith, h.1)), (decimal_word hops (omega (arith, h.2)), tt)))
fields_are_words nodes x (inputs.Publish g bs) few h bytes = (name_word g h.0, (bytes_word bs bytes, tt))
fields_are_words nodes x (inputs.Seal g) few h bytes = (name_word g h, tt)
fields_are_words nodes x (inputs.Client area start g) few h bytes = (decimal_word area (omega (arith, h.0)), (decimal_word start (omega (arith, h.1)), (name_word g h.2, tt)))
fields_are_words nodes x (inputs.Delivered m) few h bytes = tt

pub act_are_words : (nodes : ℕ) (act : Act) → nodes ≤ MAX_NODES → IsAct nodes act → PublishesBytes act → AreWords (act_words act)
act_are_words nodes (acts.At x i) few h bytes = ((word_of_input i).0, ((node_word nodes x few h.0).0, fields_are_words nodes x i few h.1 bytes))
act_are_words nodes (acts.Deliver k) few h bytes = (refl, (decimal_word k (omega (arith, h.1)), tt))
