-- The lists of a net.
use Rattle.std.proofs.Common.{◌≡◌, ℕ, zero, suc, ◌<◌, ◌≤◌, Bool, false, Option, Some, List, [], ◌∷◌, ◌++◌, length, take, get_or, map, refl, sym, ap, ◌∙◌, subst, arith, length-take}
use Rattle.std.specs.List.{AllByRecursion}
use Rattle.std.specs.Prelude.{option_map, slice_get}
use Rattle.std.proofs.lemmas.List.{map-append, take-append-le, take-map}
use Rattle.std.proofs.lemmas.Option.{slice_get-map, slice_get_read}
use Rattle.oc_model.specs.declared.message.Body.{Body}
use Rattle.oc_model.specs.declared.message.Message.{Message}
use Rattle.oc_world.specs.declared.letter.Letter.{Letter}
use Rattle.oc_world.specs.declared.letter.Letter.TheVariants.{Alone, Shared}
use Rattle.oc_world.specs.Letters.{IsPlaced, KeepsPlaces, whole}
use Rattle.oc_world.specs.Net.{IsLetter, IsSpelled, brought, ends_with_ack, is_ack_body, message_in}

-- a property of all and of one more
pub all_more : (P : Letter → Type 0) (xs : List Letter) (x : Letter) → AllByRecursion P xs → P x → AllByRecursion P (xs ++ x ∷ [])
all_more P [] x all here = (here, tt)
all_more P (y ∷ ys) x all here = (all.0, all_more P ys x all.1 here)

-- the last of messages and of one more
ends_joined : (b : Bool) (ms : List Message) (m : Message) → ends_with_ack b (ms ++ m ∷ []) ≡ is_ack_body m.body
ends_joined b [] m = refl
ends_joined b (x ∷ xs) m = ends_joined (is_ack_body x.body) xs m

-- one more letter
pub ends_more : (nodes : ℕ) (pools : List (List ℕ)) (ls : List Letter) (l : Letter) (b : Body) → (brought nodes pools l).body ≡ b → is_ack_body b ≡ ends_with_ack false (map (brought nodes pools) (ls ++ l ∷ []))
ends_more nodes pools ls l b is =
    ap is_ack_body (sym is) ∙ sym (ends_joined false (map (brought nodes pools) ls) (brought nodes pools l)) ∙ ap (ends_with_ack false) (sym (map-append (brought nodes pools) ls (l ∷ [])))

-- Letters are unchanged while their bytes keep their places

kept_whole : (old new : List (List ℕ)) → KeepsPlaces old new → (l : Letter) → IsPlaced old l → IsPlaced new l × (whole new l ≡ whole old l)
kept_whole old new keeps (Alone bytes) placed = (tt, refl)
kept_whole old new keeps (Shared s) placed =
    let stays = keeps s.value.place placed in
    (stays.0, ap (λ (bytes : List ℕ). s.value.front ++ bytes) stays.1)

kept_letter : (nodes : ℕ) (old new : List (List ℕ)) → KeepsPlaces old new → (l : Letter) → IsLetter nodes old l → IsLetter nodes new l
kept_letter nodes old new keeps l is =
    let stays = kept_whole old new keeps l is.placed in
    record { placed = stays.0; spelled = subst (IsSpelled nodes) (sym stays.1) is.spelled }

pub kept_letters : (nodes : ℕ) (old new : List (List ℕ)) → KeepsPlaces old new → (ls : List Letter) → AllByRecursion (IsLetter nodes old) ls → AllByRecursion (IsLetter nodes new) ls
kept_letters nodes old new keeps [] all = tt
kept_letters nodes old new keeps (l ∷ ls) all = (kept_letter nodes old new keeps l all.0, kept_letters nodes old new keeps ls all.1)

-- letters whose bytes keep their places bring the same messages
pub kept_messages : (nodes : ℕ) (old new : List (List ℕ)) → KeepsPlaces old new → (ls : List Letter) → AllByRecursion (IsLetter nodes old) ls → map (brought nodes new) ls ≡ map (brought nodes old) ls
kept_messages nodes old new keeps [] all = refl
kept_messages nodes old new keeps (l ∷ ls) all =
    ap (λ (bytes : List ℕ). message_in nodes bytes ∷ map (brought nodes new) ls) (kept_whole old new keeps l all.0.placed).1
    ∙ ap (λ (ms : List Message). brought nodes old l ∷ ms) (kept_messages nodes old new keeps ls all.1)

-- with one letter more, one message more was sent
pub sent_more : (nodes : ℕ) (old new : List (List ℕ)) → KeepsPlaces old new → (ls : List Letter) (l : Letter) (m : Message) → AllByRecursion (IsLetter nodes old) ls → brought nodes new l ≡ m
    → map (brought nodes new) (ls ++ l ∷ []) ≡ map (brought nodes old) ls ++ m ∷ []
sent_more nodes old new keeps ls l m all is =
    map-append (brought nodes new) ls (l ∷ [])
    ∙ ap (λ (ms : List Message). ms ++ brought nodes new l ∷ []) (kept_messages nodes old new keeps ls all)
    ∙ ap (λ (x : Message). map (brought nodes old) ls ++ x ∷ []) is

-- messages that were sent stay the first, with one message more
pub first_stay : (old now : List Message) (m : Message) → take (length old) now ≡ old → take (length old) (now ++ m ∷ []) ≡ old
first_stay old now m before =
    let long : length old ≤ length now = omega (arith, ap (λ (l : List Message). length l) before, length-take (length old) now) in
    take-append-le (length old) now (m ∷ []) long ∙ before

-- without the added part, the earlier messages are left
pub cut_back : (nodes : ℕ) (pools : List (List ℕ)) (ls cut : List Letter) (now old : List Message) (n : ℕ) → map (brought nodes pools) ls ≡ now → take (length old) now ≡ old → n ≡ length old → cut ≡ take n ls → map (brought nodes pools) cut ≡ old
cut_back nodes pools ls cut now old n seen before count is =
    ap (map (brought nodes pools)) is ∙ sym (take-map (brought nodes pools) n ls) ∙ ap (take n) seen ∙ ap (λ k. take k now) count ∙ before

-- The letter at a place

pub letter_at : (nodes : ℕ) (pools : List (List ℕ)) (ls : List Letter) (i : ℕ) (l : Letter) → AllByRecursion (IsLetter nodes pools) ls → i < length ls → l ≡ get_or ls i l → IsLetter nodes pools l
letter_at nodes pools [] i l all within is = absurd (omega (arith, within))
letter_at nodes pools (x ∷ ls) zero l all within is = subst (IsLetter nodes pools) (sym is) all.0
letter_at nodes pools (x ∷ ls) (suc i) l all within is = letter_at nodes pools ls i l all.1 (omega (arith, within)) is

-- the letter brings the message of that place
pub message_here : (nodes : ℕ) (pools : List (List ℕ)) (ls : List Letter) (i : ℕ) (l : Letter) (m : Message) → i < length ls → l ≡ get_or ls i l → slice_get (map (brought nodes pools) ls) i ≡ Some m → brought nodes pools l ≡ m
message_here nodes pools ls i l m within is there =
    let read : slice_get (map (brought nodes pools) ls) i ≡ Some (brought nodes pools l) = slice_get-map (brought nodes pools) ls i ∙ ap (λ (o : Option Letter). option_map (brought nodes pools) o) (slice_get_read ls (length ls) i l refl within is) in
    let both : Some (brought nodes pools l) ≡ Some m = sym read ∙ there in cc
