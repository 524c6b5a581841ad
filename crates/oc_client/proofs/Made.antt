-- Turns one after another, and the dials that they make.
use Rattle.std.proofs.Common.{◌≡◌, ℕ, Bool, Option, Some, None, List, [], ◌∷◌, ◌++◌, option_to_list, inr, refl, sym, ap, ◌∙◌, subst}
use Rattle.std.proofs.lemmas.List.{append-nil, append_assoc}
use Rattle.oc_client.specs.Turns.{Turn, Talk, Talks, begun, went_on, ended_by, last_by, after_turn, after_turns, no_talks, IsTold, AreTold, Makes, Carries, ready_for, Speaks}
use Rattle.oc_link.specs.Story.{Dial, Story, dials, hung_up}

-- the connections so far, where the last one may go on
pub record ShowsLast (talk : Talk) (ended : List Talk) (old new : Story) : Type 0 where
  pub made : List Dial
  pub last : Dial
  pub told : AreTold ended made
  pub last_told : IsTold talk last
  pub new_is : new ≡ record (hung_up old) { ended = dials old ++ made; outgoing = Some last }

abbrev pub ShowsBy : Option Talk → List Talk → Story → Story → Type 0
ShowsBy None ended old new = (ended ≡ []) × (new ≡ old)
ShowsBy (Some talk) ended old new = ShowsLast talk ended old new

-- these connections were made from the old story to the new one, and nothing else happened
abbrev pub Shows : Talks → Story → Story → Type 0
Shows talks old new = ShowsBy talks.last talks.ended old new

-- a turn that does not dial goes on a connection
abbrev pub IsReady : Option (List ℕ) → Option Talk → Type 0
IsReady (Some address) last = Unit {0}
IsReady None (Some talk) = Unit {0}
IsReady None None = ⊥

told_push : (talks : List Talk) (ds : List Dial) (talk : Talk) (d : Dial) → AreTold talks ds → IsTold talk d → AreTold (talks ++ talk ∷ []) (ds ++ d ∷ [])
told_push [] [] talk d all one = (one, tt)
told_push [] (e ∷ ds) talk d all one = absurd all
told_push (t ∷ talks) [] talk d all one = absurd all
told_push (t ∷ talks) (e ∷ ds) talk d all one = (all.0, told_push talks ds talk d all.1 one)

told_none : (talks : List Talk) (ds : List Dial) → AreTold talks ds → AreTold (talks ++ []) ds
told_none talks ds all = subst (λ (ts : List Talk). AreTold ts ds) (sym (append-nil talks)) all

-- the dial that a turn made
began : (turn : Turn) (address : List ℕ) (old new : Option Dial) → Carries turn (Some address) old new → (d : Dial) × (new ≡ Some d) × IsTold (begun address turn) d
began turn address old None c = absurd c
began turn address old (Some d) c = (d, refl, c)

-- the dial on which a turn went on
continued : (turn : Turn) (old : Dial) (new : Option Dial) → Carries turn None (Some old) new → (d : Dial) × (new ≡ Some d) × ((talk : Talk) → IsTold talk old → IsTold (went_on turn talk) d)
continued turn old None c = absurd c
continued turn old (Some d) c = (d, refl, c)

shows_by : (at : Option (List ℕ)) (request reply : List ℕ) (over : Bool) (last : Option Talk) (ended : List Talk) (old mid new : Story) → IsReady at last → ShowsBy last ended old mid → Carries (record { dialled = at; request = request; reply = reply; over = over }) at mid.outgoing new.outgoing → new ≡ record (ready_for at mid) { outgoing = new.outgoing } → ShowsBy (last_by at (record { dialled = at; request = request; reply = reply; over = over }) last) (ended ++ ended_by at last) old new
shows_by None request reply over None ended old mid new ready shows carries rest = absurd ready
shows_by None request reply over (Some talk) ended old mid new ready shows carries rest =
    let turn : Turn = record { dialled = None; request = request; reply = reply; over = over } in
    let at_last = subst (λ (o : Option Dial). Carries turn None o new.outgoing) (ap (λ (s : Story). s.outgoing) shows.new_is) carries in
    let found = continued turn shows.last new.outgoing at_last in
    record {
      made = shows.made;
      last = found.0;
      told = told_none ended shows.made shows.told;
      last_told = found.2 talk shows.last_told;
      new_is = rest ∙ ap (λ (o : Option Dial). record mid { outgoing = o }) found.1 ∙ ap (λ (s : Story). record s { outgoing = Some found.0 }) shows.new_is;
    }
shows_by (Some address) request reply over None ended old mid new ready (none, same) carries rest =
    let turn : Turn = record { dialled = Some address; request = request; reply = reply; over = over } in
    let found = began turn address mid.outgoing new.outgoing carries in
    record {
      made = [];
      last = found.0;
      told = subst (λ (ts : List Talk). AreTold (ts ++ []) []) (sym none) tt;
      last_told = found.2;
      new_is = rest ∙ ap (λ (o : Option Dial). record (hung_up mid) { outgoing = o }) found.1 ∙ ap (λ (s : Story). record (hung_up s) { outgoing = Some found.0 }) same ∙ ap (λ (ds : List Dial). record (hung_up old) { ended = ds; outgoing = Some found.0 }) (sym (append-nil (dials old)));
    }
shows_by (Some address) request reply over (Some talk) ended old mid new ready shows carries rest =
    let turn : Turn = record { dialled = Some address; request = request; reply = reply; over = over } in
    let found = began turn address mid.outgoing new.outgoing carries in
    record {
      made = shows.made ++ shows.last ∷ [];
      last = found.0;
      told = told_push ended shows.made talk shows.last shows.told shows.last_told;
      last_told = found.2;
      new_is = rest ∙ ap (λ (o : Option Dial). record (hung_up mid) { outgoing = o }) found.1 ∙ ap (λ (s : Story). record (hung_up s) { outgoing = Some found.0 }) shows.new_is ∙ ap (λ (ds : List Dial). record (hung_up old) { ended = ds; outgoing = Some found.0 }) (append_assoc (dials old) shows.made (shows.last ∷ []));
    }

-- one turn more
pub shows_then : (talks : Talks) (turn : Turn) (old mid new : Story) → IsReady turn.dialled talks.last → Shows talks old mid → Speaks turn mid new → Shows (after_turn talks turn) old new
shows_then talks turn old mid new ready shows speaks =
    shows_by turn.dialled turn.request turn.reply turn.over talks.last talks.ended old mid new ready shows speaks.carries speaks.rest

-- a turn at the end of others
pub after_turns-push : (talks : Talks) (turns : List Turn) (turn : Turn) → after_turns talks (turns ++ turn ∷ []) ≡ after_turn (after_turns talks turns) turn
after_turns-push talks [] turn = refl
after_turns-push talks (t ∷ turns) turn = after_turns-push (after_turn talks t) turns turn

-- a connection is there after a turn
pub last_behind : (at : Option (List ℕ)) (turn : Turn) (last : Option Talk) → IsReady at last → IsReady None (last_by at turn last)
last_behind None turn None ready = absurd ready
last_behind None turn (Some talk) ready = tt
last_behind (Some address) turn last ready = tt

made_by : (last : Option Talk) (ended : List Talk) (old new end : Story) → ShowsBy last ended old new → end ≡ hung_up new → (made : List Dial) × AreTold (ended ++ option_to_list last) made × (end ≡ record (hung_up old) { ended = dials old ++ made })
made_by None ended old new end (none, same) hung = (
  [],
  subst (λ (ts : List Talk). AreTold (ts ++ []) []) (sym none) tt,
  hung ∙ ap hung_up same ∙ ap (λ (ds : List Dial). record (hung_up old) { ended = ds }) (sym (append-nil (dials old))),
)
made_by (Some talk) ended old new end shows hung = (
  shows.made ++ shows.last ∷ [],
  told_push ended shows.made talk shows.last shows.told shows.last_told,
  hung ∙ ap hung_up shows.new_is ∙ ap (λ (ds : List Dial). record (hung_up old) { ended = ds }) (append_assoc (dials old) shows.made (shows.last ∷ [])),
)

-- the dials of all turns, once the last connection is ended
pub shows_makes : (turns : List Turn) (old new end : Story) → Shows (after_turns no_talks turns) old new → end ≡ hung_up new → Makes turns old end
shows_makes turns old new end shows hung =
    let talks = after_turns no_talks turns in
    let by = made_by talks.last talks.ended old new end shows hung in
    record {
      made = by.0;
      told = by.1;
      dials_are = ap dials by.2 ∙ append-nil (dials old ++ by.0);
      hung = inr (ap (λ (s : Story). s.outgoing) hung);
    }
