-- Dials in memory, one after another.
use Rattle.std.proofs.Common.{◌≡◌, ℕ, ◌+◌, ◌-◌, ◌<◌, ◌≤◌, zero, suc, Option, None, Some, List, [], ◌∷◌, ◌++◌, length, drop, refl, sym, ap, ◌∙◌, arith, length-append, replicate, length-drop}
use Rattle.std.proofs.lemmas.List.{append-nil, length-replicate}
use Rattle.std.proofs.lemmas.Option.{slice_get_past}
use Rattle.std.specs.List.{slice_get}
use Rattle.std.specs.Option.{option_map, option_to_list}
use Rattle.oc_link.specs.DialsView.{DialsView, dials_of, nowhere, outgoing_of, all_dials, over}
use Rattle.oc_link.specs.Calls.{connection_of}
use Rattle.oc_link.specs.ByteStrings.{grown}
use Rattle.oc_link.specs.Story.{Connection, Dial, unused, wrote, through}
use Rattle.oc_link.specs.ConnectionsView.{ConnectionsView, at, ended, begun, further}
use Rattle.oc_link.proofs.ConnectionLists.{at-grown, at-push, length-grown}

-- the view, by its parts
abbrev pub view : ConnectionsView → List (List ℕ) → ℕ → ℕ → DialsView
view connections strings refused room = record {
  replies = connections.waiting;
  past = dials_of connections.past strings ++ replicate refused nowhere;
  outgoing = outgoing_of (length connections.past) connections.current strings;
  refused = refused;
  room = room;
}

-- one dial more at the end
dials_of-push : (cs : List Connection) (strings : List (List ℕ)) (c : Connection) → length cs < length strings → dials_of (cs ++ c ∷ []) strings ≡ dials_of cs strings ++ record { address = at strings (length cs); connection = c } ∷ []
dials_of-push [] [] c some = absurd (omega (arith, some))
dials_of-push [] (a ∷ strings) c some = refl
dials_of-push (d ∷ cs) [] c some = absurd (omega (arith, some))
dials_of-push (d ∷ cs) (a ∷ strings) c some =
    ap (λ (ds : List Dial). record { address = a; connection = d } ∷ ds) (dials_of-push cs strings c (omega (arith, some)))

-- later addresses do not matter
dials_of-more : (cs : List Connection) (strings more : List (List ℕ)) → length cs ≤ length strings → dials_of cs (strings ++ more) ≡ dials_of cs strings
dials_of-more [] strings more some = refl
dials_of-more (d ∷ cs) [] more some = absurd (omega (arith, some))
dials_of-more (d ∷ cs) (a ∷ strings) more some =
    ap (λ (ds : List Dial). record { address = a; connection = d } ∷ ds) (dials_of-more cs strings more (omega (arith, some)))

-- a longer last address, of a dial that comes later, does not change these dials
dials_of-grown : (cs : List Connection) (strings : List (List ℕ)) (more : List ℕ) → length cs < length strings → dials_of cs (grown strings more) ≡ dials_of cs strings
dials_of-grown [] strings more some = refl
dials_of-grown (d ∷ cs) [] more some = absurd (omega (arith, some))
dials_of-grown (d ∷ cs) (a ∷ []) more some = absurd (omega (arith, some))
dials_of-grown (d ∷ cs) (a ∷ next ∷ strings) more some =
    ap (λ (ds : List Dial). record { address = a; connection = d } ∷ ds) (dials_of-grown cs (next ∷ strings) more (omega (arith, some)))

-- the outgoing dial joins those that ended
over-past : (past : List Connection) (current : Option Connection) (strings : List (List ℕ)) (refused : ℕ) → length strings ≡ length past + length (option_to_list current) → (0 < refused → length (option_to_list current) ≡ 0) → dials_of (past ++ option_to_list current) strings ++ replicate refused nowhere ≡ (dials_of past strings ++ replicate refused nowhere) ++ option_to_list (outgoing_of (length past) current strings)
over-past past None strings refused full none = rw (append-nil past) (sym (append-nil (dials_of past strings ++ replicate refused nowhere)))
over-past past (Some c) strings zero full none =
    rw (dials_of-push past strings c (omega (arith, full))) (append-nil _ ∙ ap (λ (ds : List Dial). ds ++ record { address = at strings (length past); connection = c } ∷ []) (sym (append-nil (dials_of past strings))))
over-past past (Some c) strings (suc refused) full none = absurd (omega (arith, none (omega arith)))

-- The view after each call

-- the outgoing dial ended
pub over_view : (connections next : ConnectionsView) (strings : List (List ℕ)) (refused room : ℕ) (old : DialsView) → next ≡ ended connections → length strings ≡ length connections.past + length (option_to_list connections.current) → (0 < refused → length connections.waiting + length (option_to_list connections.current) ≡ 0) → view connections strings refused room ≡ old → view next strings refused room ≡ over old
over_view connections next strings refused room old is full none same =
    let now : view (ended connections) strings refused room ≡ over (view connections strings refused room) =
    ap (λ (past : List Dial). record { replies = connections.waiting; past = past; outgoing = None; refused = refused; room = room })
    (over-past connections.past connections.current strings refused full (λ some. omega (arith, none some))) in
    ap (λ (t : ConnectionsView). view t strings refused room) is ∙ now ∙ ap over same

-- the address of a new dial
new-address : (strings : List (List ℕ)) (k : ℕ) (address : List ℕ) → length strings ≡ k → at (grown (strings ++ [] ∷ []) address) k ≡ address
new-address strings k address full = at-grown (strings ++ [] ∷ []) k address (omega (arith, length-append strings ([] ∷ []), full)) ∙ ap (λ (front : List ℕ). front ++ address) (at-push strings k full)

-- the dials before a new one
old-dials : (past : List Connection) (strings : List (List ℕ)) (address : List ℕ) → length strings ≡ length past → dials_of past (grown (strings ++ [] ∷ []) address) ≡ dials_of past strings
old-dials past strings address full = dials_of-grown past (strings ++ [] ∷ []) address (omega (arith, length-append strings ([] ∷ []), full)) ∙ dials_of-more past strings ([] ∷ []) (omega (arith, full))

-- a connection of a dial after its bytes were written
abbrev begun_with : ConnectionsView → List ℕ → ℕ → ConnectionsView
begun_with connections bytes room = record (begun connections) { current = Some (wrote bytes (unused (at connections.waiting 0))); room = room }

-- another dial in the place of the outgoing one
pub begin_view : (connections : ConnectionsView) (strings : List (List ℕ)) (refused room kept other : ℕ) (address bytes : List ℕ) (old : DialsView) → length strings ≡ length connections.past + length (option_to_list connections.current) → (0 < refused → length connections.waiting + length (option_to_list connections.current) ≡ 0) → view connections strings refused room ≡ old → view (begun_with connections bytes other) (grown (strings ++ [] ∷ []) address) refused (room - kept) ≡ record (over old) { replies = drop 1 old.replies; outgoing = Some (record { address = address; connection = wrote bytes (unused (at old.replies 0)) }); room = old.room - kept }
begin_view connections strings refused room kept other address bytes old full none same =
    let past = connections.past ++ option_to_list connections.current in
    let as_many : length strings ≡ length (connections.past ++ option_to_list connections.current) = omega (arith, length-append connections.past (option_to_list connections.current), full) in
    let now : view (begun_with connections bytes other) (grown (strings ++ [] ∷ []) address) refused (room - kept) ≡ record (over (view connections strings refused room)) { replies = drop 1 connections.waiting; outgoing = Some (record { address = address; connection = wrote bytes (unused (at connections.waiting 0)) }); room = room - kept } =
    rw (old-dials (connections.past ++ option_to_list connections.current) strings address as_many, new-address strings (length (connections.past ++ option_to_list connections.current)) address as_many, over-past connections.past connections.current strings refused full (λ some. omega (arith, none some))) refl in
    now ∙ ap (λ (v : DialsView). record (over v) { replies = drop 1 v.replies; outgoing = Some (record { address = address; connection = wrote bytes (unused (at v.replies 0)) }); room = v.room - kept }) same

-- one refused dial more
replicate-end : (n : ℕ) → replicate n nowhere ++ nowhere ∷ [] ≡ replicate (suc n) nowhere
replicate-end zero = refl
replicate-end (suc n) = ap (λ (ds : List Dial). nowhere ∷ ds) (replicate-end n)

-- the properties that a new dial keeps
pub record Keeps (connections : ConnectionsView) (strings : List (List ℕ)) (string_room refused : ℕ) (address bytes : List ℕ) : Type 0 where
  pub full : length (grown (strings ++ [] ∷ []) address) ≡ length (connections.past ++ option_to_list connections.current) + 1
  pub fewer : string_room - 1 ≡ length (drop 1 connections.waiting)
  pub none : 0 < refused → length (drop 1 connections.waiting) + 1 ≡ 0

-- the numbers of addresses and of connections are equal after another dial, too
pub begin_keeps : (connections : ConnectionsView) (strings : List (List ℕ)) (string_room refused : ℕ) (address bytes : List ℕ) → length strings ≡ length connections.past + length (option_to_list connections.current) → string_room ≡ length connections.waiting → 0 < length connections.waiting → (0 < refused → length connections.waiting + length (option_to_list connections.current) ≡ 0) → Keeps connections strings string_room refused address bytes
begin_keeps connections strings string_room refused address bytes full as_many some none = record {
  full = length-grown (strings ++ [] ∷ []) address ∙ omega (arith, length-append strings ([] ∷ []), length-append connections.past (option_to_list connections.current), full);
  fewer = omega (arith, length-drop 1 connections.waiting, as_many);
  none = λ some_refused. absurd (omega (arith, none some_refused, some));
}

-- a change of a dial's connection is the same change of the dial
outgoing-through : (k : ℕ) (f : Connection → Connection) (o : Option Connection) (strings : List (List ℕ)) → outgoing_of k (option_map f o) strings ≡ option_map (through f) (outgoing_of k o strings)
outgoing-through k f None strings = refl
outgoing-through k f (Some c) strings = refl

-- the outgoing dial's connection is the current one
outgoing-connection : (k : ℕ) (o : Option Connection) (strings : List (List ℕ)) → connection_of (outgoing_of k o strings) ≡ o
outgoing-connection k None strings = refl
outgoing-connection k (Some c) strings = refl

-- the connection of the outgoing dial is the current one
pub same-connection : (connections : ConnectionsView) (strings : List (List ℕ)) (refused room : ℕ) (old : DialsView) → view connections strings refused room ≡ old → connections.current ≡ connection_of old.outgoing
same-connection connections strings refused room old same = sym (outgoing-connection (length connections.past) connections.current strings) ∙ ap (λ (v : DialsView). connection_of v.outgoing) same

-- more of the outgoing dial was read
pub heard_view : (n : ℕ) (connections next : ConnectionsView) (strings : List (List ℕ)) (refused room : ℕ) (old : DialsView) → view connections strings refused room ≡ old → next ≡ record connections { current = option_map (further n) connections.current } → view next strings refused room ≡ record old { outgoing = option_map (through (further n)) old.outgoing }
heard_view n connections next strings refused room old same is =
    ap (λ (t : ConnectionsView). view t strings refused room) is
    ∙ ap (λ (o : Option Dial). record (view connections strings refused room) { outgoing = o }) (outgoing-through (length connections.past) (further n) connections.current strings)
    ∙ ap (λ (v : DialsView). record v { outgoing = option_map (through (further n)) v.outgoing }) same

-- The dial at a place

-- an element of the first list
get-front : (xs ys : List Dial) (k : ℕ) → k < length xs → slice_get (xs ++ ys) k ≡ slice_get xs k
get-front [] ys k within = absurd (omega (arith, within))
get-front (x ∷ xs) ys zero within = refl
get-front (x ∷ xs) ys (suc k) within = get-front xs ys k (omega (arith, within))

-- an element of the second list
get-behind : (xs ys : List Dial) (k j : ℕ) → k ≡ length xs + j → slice_get (xs ++ ys) k ≡ slice_get ys j
get-behind [] ys k j is = ap (slice_get ys) (omega (arith, is))
get-behind (x ∷ xs) ys zero j is = absurd (omega (arith, is))
get-behind (x ∷ xs) ys (suc k) j is = get-behind xs ys k j (omega (arith, is))

-- each of the refused dials
get-nowhere : (n j : ℕ) → j < n → slice_get (replicate n nowhere) j ≡ Some nowhere
get-nowhere zero j within = absurd (omega (arith, within))
get-nowhere (suc n) zero within = refl
get-nowhere (suc n) (suc j) within = get-nowhere n j (omega (arith, within))

-- the bytes written on the dial at an index, and on its connection
written-at : (cs : List Connection) (strings : List (List ℕ)) (k : ℕ) → length strings ≡ length cs → option_map (λ (d : Dial). d.connection.written) (slice_get (dials_of cs strings) k) ≡ option_map (λ (c : Connection). c.written) (slice_get cs k)
written-at [] strings k full = refl
written-at (c ∷ cs) [] k full = absurd (omega (arith, full))
written-at (c ∷ cs) (a ∷ strings) zero full = refl
written-at (c ∷ cs) (a ∷ strings) (suc k) full = written-at cs strings k (omega (arith, full))

-- the numbers of dials and of connections are equal
length-dials_of : (cs : List Connection) (strings : List (List ℕ)) → length strings ≡ length cs → length (dials_of cs strings) ≡ length strings
length-dials_of [] [] full = refl
length-dials_of [] (a ∷ strings) full = absurd (omega (arith, full))
length-dials_of (c ∷ cs) [] full = refl
length-dials_of (c ∷ cs) (a ∷ strings) full = ap (λ (n : ℕ). suc n) (length-dials_of cs strings (omega (arith, full)))

-- the dials, in the order in which they were made: those that took a reply, and those that found none
pub record Placed (old : DialsView) (cs : List Connection) (strings : List (List ℕ)) (refused : ℕ) : Type 0 where
  pub all : all_dials old ≡ dials_of cs strings ++ replicate refused nowhere
  pub full : length strings ≡ length cs
  pub many : length (dials_of cs strings) ≡ length strings

-- the connections and dials are at the same indices
pub placed : (connections : ConnectionsView) (strings : List (List ℕ)) (refused room : ℕ) (old : DialsView) → length strings ≡ length connections.past + length (option_to_list connections.current) → (0 < refused → length connections.waiting + length (option_to_list connections.current) ≡ 0) → view connections strings refused room ≡ old → Placed old (connections.past ++ option_to_list connections.current) strings refused
placed connections strings refused room old full none same =
    let as_many : length strings ≡ length (connections.past ++ option_to_list connections.current) = omega (arith, length-append connections.past (option_to_list connections.current), full) in
    record {
      all = ap all_dials (sym same) ∙ sym (over-past connections.past connections.current strings refused full (λ some. omega (arith, none some)));
      full = as_many;
      many = length-dials_of (connections.past ++ option_to_list connections.current) strings as_many;
    }

-- the bytes written on a dial that took a reply
pub written-first : (old : DialsView) (cs : List Connection) (strings : List (List ℕ)) (refused k : ℕ) → Placed old cs strings refused → k < length strings → option_map (λ (d : Dial). d.connection.written) (slice_get (all_dials old) k) ≡ option_map (λ (c : Connection). c.written) (slice_get cs k)
written-first old cs strings refused k p within =
    rw (p.all, get-front (dials_of cs strings) (replicate refused nowhere) k (omega (arith, p.many, within))) (written-at cs strings k p.full)

-- the bytes written on a dial that was refused
pub written-refused : (old : DialsView) (cs : List Connection) (strings : List (List ℕ)) (refused k : ℕ) → Placed old cs strings refused → length strings ≤ k → k - length strings < refused → Some [] ≡ option_map (λ (d : Dial). d.connection.written) (slice_get (all_dials old) k)
written-refused old cs strings refused k p past within =
    rw (p.all, get-behind (dials_of cs strings) (replicate refused nowhere) k (k - length strings) (omega (arith, p.many, past)), get-nowhere refused (k - length strings) within) refl

-- no bytes were written past the last dial with a reply
pub written-nowhere : (old : DialsView) (cs : List Connection) (strings : List (List ℕ)) (refused k : ℕ) → Placed old cs strings refused → length strings ≤ k → refused ≤ k - length strings → None ≡ option_map (λ (d : Dial). d.connection.written) (slice_get (all_dials old) k)
written-nowhere old cs strings refused k p past over =
    rw (p.all, slice_get_past (dials_of cs strings ++ replicate refused nowhere) k (omega (arith, length-append (dials_of cs strings) (replicate refused nowhere), length-replicate refused nowhere, p.many, past, over))) refl
