-- Connections in memory, one after another.
use Rattle.std.proofs.Common.{◌≡◌, ℕ, ◌+◌, ◌-◌, ◌<◌, ◌≤◌, zero, suc, Option, None, Some, List, [], ◌∷◌, ◌++◌, length, drop, refl, sym, ap, subst, ◌∙◌, arith, length-append, false}
use Rattle.std.proofs.Math.Seq.{take-add}
use Rattle.std.proofs.lemmas.List.{drop-drop, get_or-drop}
use Rattle.std.specs.List.{slice_get}
use Rattle.std.specs.Option.{option_map, option_to_list, IsSome}
use Rattle.oc_link.specs.ByteStrings.{grown}
use Rattle.oc_link.specs.Connection.{Connection, unused, wrote}
use Rattle.oc_link.specs.ConnectionsView.{ConnectionsView, connection_of, connections_of, count_of, at, current_of, ended, begun, further}
use Rattle.oc_link.specs.declared.connections.ConnectionProgress.{ConnectionProgress}

-- the view, by its parts
abbrev pub view : List (List ℕ) → List ConnectionProgress → Option ConnectionProgress → List (List ℕ) → ℕ → ConnectionsView
view given past current strings room = record {
  waiting = drop (length past + count_of current) given;
  past = connections_of past given strings;
  current = current_of given (length past) current strings;
  room = room;
}

-- one connection more at the end
connections_of-push : (past : List ConnectionProgress) (given strings : List (List ℕ)) (progress : ConnectionProgress) → length past < length given → length past < length strings → connections_of (past ++ progress ∷ []) given strings ≡ connections_of past given strings ++ connection_of (at given (length past)) progress (at strings (length past)) ∷ []
connections_of-push [] [] strings progress some_given some_rows = absurd (omega (arith, some_given))
connections_of-push [] (b ∷ given) [] progress some_given some_rows = absurd (omega (arith, some_rows))
connections_of-push [] (b ∷ given) (w ∷ strings) progress some_given some_rows = refl
connections_of-push (t ∷ past) [] strings progress some_given some_rows = absurd (omega (arith, some_given))
connections_of-push (t ∷ past) (b ∷ given) [] progress some_given some_rows = absurd (omega (arith, some_rows))
connections_of-push (t ∷ past) (b ∷ given) (w ∷ strings) progress some_given some_rows =
    ap (λ (cs : List Connection). connection_of b t w ∷ cs) (connections_of-push past given strings progress (omega (arith, some_given)) (omega (arith, some_rows)))

-- later strings do not matter
connections_of-more : (past : List ConnectionProgress) (given strings more : List (List ℕ)) → length past ≤ length strings → connections_of past given (strings ++ more) ≡ connections_of past given strings
connections_of-more [] given strings more some = refl
connections_of-more (t ∷ past) [] [] more some = absurd (omega (arith, some))
connections_of-more (t ∷ past) [] (w ∷ strings) more some = refl
connections_of-more (t ∷ past) (b ∷ given) [] more some = absurd (omega (arith, some))
connections_of-more (t ∷ past) (b ∷ given) (w ∷ strings) more some =
    ap (λ (cs : List Connection). connection_of b t w ∷ cs) (connections_of-more past given strings more (omega (arith, some)))

-- a longer last string, of a connection that comes later, does not change these connections
connections_of-grown : (past : List ConnectionProgress) (given strings : List (List ℕ)) (more : List ℕ) → length past < length strings → connections_of past given (grown strings more) ≡ connections_of past given strings
connections_of-grown [] given strings more some = refl
connections_of-grown (t ∷ past) given [] more some = absurd (omega (arith, some))
connections_of-grown (t ∷ past) given (w ∷ []) more some = absurd (omega (arith, some))
connections_of-grown (t ∷ past) [] (w ∷ next ∷ strings) more some = refl
connections_of-grown (t ∷ past) (b ∷ given) (w ∷ next ∷ strings) more some =
    ap (λ (cs : List Connection). connection_of b t w ∷ cs) (connections_of-grown past given (next ∷ strings) more (omega (arith, some)))

-- the last string grew
pub at-grown : (strings : List (List ℕ)) (k : ℕ) (more : List ℕ) → length strings ≡ k + 1 → at (grown strings more) k ≡ at strings k ++ more
at-grown [] k more last = absurd (omega (arith, last))
at-grown (w ∷ []) zero more last = refl
at-grown (w ∷ []) (suc k) more last = absurd (omega (arith, last))
at-grown (w ∷ next ∷ strings) zero more last = absurd (omega (arith, last))
at-grown (w ∷ next ∷ strings) (suc k) more last = at-grown (next ∷ strings) k more (omega (arith, last))

-- a new string is empty
pub at-push : (strings : List (List ℕ)) (k : ℕ) → length strings ≡ k → at (strings ++ [] ∷ []) k ≡ []
at-push [] zero last = refl
at-push [] (suc k) last = refl
at-push (w ∷ strings) zero last = absurd (omega (arith, last))
at-push (w ∷ strings) (suc k) last = at-push strings k (omega (arith, last))

-- The view after each call

-- the current connection ended
pub ended_view : (given : List (List ℕ)) (past next : List ConnectionProgress) (current : Option ConnectionProgress) (strings : List (List ℕ)) (progress : ConnectionProgress) (room : ℕ) (old : ConnectionsView) → length past < length given → length past < length strings → next ≡ past ++ progress ∷ [] → current ≡ Some progress → view given past current strings room ≡ old → view given next None strings room ≡ ended old
ended_view given past next current strings progress room old some_given some_rows is there same =
    let one : length (past ++ progress ∷ []) + 0 ≡ length past + 1 = omega (arith, length-append past (progress ∷ [])) in
    let now : view given (past ++ progress ∷ []) None strings room ≡ ended (view given past (Some progress) strings room) =
    rw (one, connections_of-push past given strings progress some_given some_rows) refl in
    ap (λ (xs : List ConnectionProgress). view given xs None strings room) is ∙ now ∙ ap (λ (o : Option ConnectionProgress). ended (view given past o strings room)) (sym there) ∙ ap ended same

-- a connection on which nothing happened
fresh_connection : (bytes string : List ℕ) → string ≡ [] → connection_of bytes (record { read = 0; failed = false }) string ≡ unused bytes
fresh_connection bytes string none = ap (λ (r : List ℕ). connection_of bytes (record { read = 0; failed = false }) r) none

-- a new connection is current
pub begun_view : (given : List (List ℕ)) (past : List ConnectionProgress) (current : Option ConnectionProgress) (strings next : List (List ℕ)) (room : ℕ) (mid old : ConnectionsView) → mid ≡ ended old → length strings ≡ length past + count_of current → view given past current strings room ≡ mid → next ≡ strings ++ [] ∷ [] → view given past (Some (record { read = 0; failed = false })) next room ≡ begun old
begun_view given past (Some progress) strings next room mid old is full same grows = let clash : Some (connection_of (at given (length past)) progress (at strings (length past))) ≡ None = ap (λ (v : ConnectionsView). v.current) (same ∙ is) in absurd (cc clash)
begun_view given past None strings next room mid old is full same grows =
    let before = same ∙ is in
    let first : connection_of (at given (length past)) (record { read = 0; failed = false }) (at (strings ++ [] ∷ []) (length past)) ≡ unused (at given (length past)) =
    fresh_connection (at given (length past)) (at (strings ++ [] ∷ []) (length past)) (at-push strings (length past) (omega (arith, full))) in
    let one : length past + 0 + 1 ≡ length past + 1 = omega arith in
    let none : length past + 0 + 0 ≡ length past = omega arith in
    let now : view given past (Some (record { read = 0; failed = false })) (strings ++ [] ∷ []) room ≡ record (view given past None strings room) { waiting = drop 1 (drop (length past + 0) given); current = Some (unused (at (drop (length past + 0) given) 0)) } =
    rw (drop-drop 1 (length past + 0) given, get_or-drop (length past + 0) given 0 [], one, none, connections_of-more past given strings ([] ∷ []) (omega (arith, full)), first) refl in
    ap (λ (r : List (List ℕ)). view given past (Some (record { read = 0; failed = false })) r room) grows
    ∙ now ∙ ap (λ (v : ConnectionsView). record v { waiting = drop 1 v.waiting; current = Some (unused (at v.waiting 0)) }) before

-- more of the current connection was read
pub further-read : (bytes string : List ℕ) (progress : ConnectionProgress) (n : ℕ) → connection_of bytes (record { read = progress.read + n; failed = progress.failed }) string ≡ further n (connection_of bytes progress string)
further-read bytes string progress n = rw (take-add progress.read n bytes, sym (drop-drop n progress.read bytes)) refl

-- the current connection was written on
pub written_view : (given : List (List ℕ)) (past : List ConnectionProgress) (current : Option ConnectionProgress) (strings : List (List ℕ)) (room : ℕ) (more : List ℕ) (old : ConnectionsView) → length strings ≡ length past + count_of current → IsSome old.current → view given past current strings room ≡ old → view given past current (grown strings more) (room - length more) ≡ record old { current = option_map (wrote more) old.current; room = old.room - length more }
written_view given past None strings room more old full there same = let none = subst (λ (v : ConnectionsView). IsSome v.current) (sym same) there in absurd (cc none)
written_view given past (Some progress) strings room more old full there same =
    let now : view given past (Some progress) (grown strings more) (room - length more) ≡ record (view given past (Some progress) strings room) { current = Some (wrote more (connection_of (at given (length past)) progress (at strings (length past)))); room = room - length more } =
    rw (connections_of-grown past given strings more (omega (arith, full)), at-grown strings (length past) more full) refl in
    now ∙ ap (λ (v : ConnectionsView). record v { current = option_map (wrote more) v.current; room = v.room - length more }) same

-- the number of strings is the same after the last one grew
pub length-grown : (strings : List (List ℕ)) (more : List ℕ) → length (grown strings more) ≡ length strings
length-grown [] more = refl
length-grown (w ∷ []) more = refl
length-grown (w ∷ next ∷ strings) more = ap (λ (n : ℕ). suc n) (length-grown (next ∷ strings) more)

-- the bytes written on each connection
pub written_at : (past : List ConnectionProgress) (given strings : List (List ℕ)) (current : Option ConnectionProgress) (k : ℕ) → length strings ≡ length past + count_of current → length strings ≤ length given → slice_get strings k ≡ option_map (λ (c : Connection). c.written) (slice_get (connections_of past given strings ++ option_to_list (current_of given (length past) current strings)) k)
written_at [] given [] None k full some = refl
written_at [] given (w ∷ strings) None k full some = absurd (omega (arith, full))
written_at [] given [] (Some progress) k full some = absurd (omega (arith, full))
written_at [] given (w ∷ []) (Some progress) zero full some = refl
written_at [] given (w ∷ []) (Some progress) (suc k) full some = refl
written_at [] given (w ∷ v ∷ strings) (Some progress) k full some = absurd (omega (arith, full))
written_at (t ∷ past) given [] current k full some = absurd (omega (arith, full))
written_at (t ∷ past) [] (w ∷ strings) current k full some = absurd (omega (arith, some))
written_at (t ∷ past) (b ∷ given) (w ∷ strings) None zero full some = refl
written_at (t ∷ past) (b ∷ given) (w ∷ strings) (Some progress) zero full some = refl
written_at (t ∷ past) (b ∷ given) (w ∷ strings) None (suc k) full some = written_at past given strings None k (omega (arith, full)) (omega (arith, some))
written_at (t ∷ past) (b ∷ given) (w ∷ strings) (Some progress) (suc k) full some = written_at past given strings (Some progress) k (omega (arith, full)) (omega (arith, some))

-- a read took bytes from the front of the current connection's remaining ones
pub record Reads (given : List (List ℕ)) (past : List ConnectionProgress) (progress : ConnectionProgress) (strings : List (List ℕ)) (room : ℕ) (old : ConnectionsView) (n : ℕ) : Type 0 where
  pub current : old.current ≡ Some (connection_of (at given (length past)) progress (at strings (length past)))
  pub after : view given past (Some (record { read = progress.read + n; failed = progress.failed })) strings room ≡ record old { current = Some (further n (connection_of (at given (length past)) progress (at strings (length past)))) }

-- the view of the connections after the read
pub read_view : (given : List (List ℕ)) (past : List ConnectionProgress) (current : Option ConnectionProgress) (progress : ConnectionProgress) (strings : List (List ℕ)) (room : ℕ) (old : ConnectionsView) (n : ℕ) → current ≡ Some progress → view given past current strings room ≡ old → Reads given past progress strings room old n
read_view given past current progress strings room old n is same =
    let now : view given past (Some progress) strings room ≡ old = ap (λ (o : Option ConnectionProgress). view given past o strings room) (sym is) ∙ same in
    record {
      current = sym (ap (λ (v : ConnectionsView). v.current) now);
      after = rw (further-read (at given (length past)) (at strings (length past)) progress n) (ap (λ (v : ConnectionsView). record v { current = Some (further n (connection_of (at given (length past)) progress (at strings (length past)))) }) now);
    }
