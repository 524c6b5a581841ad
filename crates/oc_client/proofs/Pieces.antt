-- Pieces that are carried, one after another.
use Rattle.std.proofs.Common.{◌≡◌, ◌≢◌, ◌⊎◌, ℕ, ◌≤◌, true, false, Option, List, [], ◌∷◌, ◌++◌, length, map, refl, sym, ap, ◌∙◌, subst, append-nil}
use Rattle.oc_link.specs.Story.{Story}
use Rattle.oc_client.specs.Carrying.{IsSent, IsRefused, HasCarried, IsCarried, IsCutBetween, IsRefusedAt}
use Rattle.oc_client.specs.Inputs.{IsPieceCut}
use Rattle.oc_client.specs.Places.{sends_empty}
use Rattle.oc_client.specs.Publishing.{joined, IsPart, Sends}
use Rattle.oc_client.specs.PutRequests.{Goal, bytes}
use Rattle.oc_client.specs.PutTurns.{PutTurn}
use Rattle.oc_client.specs.declared.effort.Progress.{Progress}
use Rattle.oc_client.specs.declared.put_end.PutEnd.{PutEnd}
use Rattle.oc_client.specs.declared.put_end.PutEnd.TheVariants as ends
use Rattle.oc_client.specs.declared.load.Load.{Load}
use Rattle.oc_client.specs.declared.publication.Publication.{Publication}
use Rattle.oc_client.specs.declared.input.TheConstants.{PUT_PIECE_BYTES}
use Rattle.oc_client.proofs.Carried.{sends_then, bytes_more, joined_more, part_more, cut_more, cut_end}
use Rattle.oc_client.proofs.Making.{made_none, made_then}

pub carried_none : {S : Type 0} (gives : S → List ℕ → S → Type 0) → ((s : S) → gives s [] s) → (plan : Publication) (goal : Goal) (found : Progress) (o : Option Story) (s : S) → HasCarried gives plan goal found o o s s found []
carried_none gives none plan goal found o s = record { turns = []; sends = (refl, refl); parts = tt; made = made_none goal o; came = none s }

-- one piece after others
sends_piece : (found reached next : Progress) (pieces : List (List ℕ)) (piece : List ℕ) (first rest : List PutTurn) → Sends found (map bytes pieces) first reached → Sends reached (bytes piece ∷ []) rest next → Sends found (map bytes (pieces ++ piece ∷ [])) (first ++ rest) next
sends_piece found reached next pieces piece first rest p q =
    subst (λ (loads : List Load). Sends found loads (first ++ rest) next) (sym (bytes_more pieces piece)) (sends_then found (map bytes pieces) (bytes piece ∷ []) first rest reached next p q)

came_piece : {S : Type 0} (gives : S → List ℕ → S → Type 0) → ((a b c : S) (x y : List ℕ) → gives a x b → gives b y c → gives a (x ++ y) c) → (s t u : S) (pieces : List (List ℕ)) (piece : List ℕ) → gives s (joined pieces) t → gives t piece u → gives s (joined (pieces ++ piece ∷ [])) u
came_piece gives both s t u pieces piece p q =
    subst (λ (x : List ℕ). gives s x u) (sym (joined_more pieces piece)) (both s t u (joined pieces) piece p q)

pub carried_more : {S : Type 0} (gives : S → List ℕ → S → Type 0) → ((a b c : S) (x y : List ℕ) → gives a x b → gives b y c → gives a (x ++ y) c) → (plan : Publication) (goal : Goal) (found reached next : Progress) (a b c : Option Story) (s t u : S) (pieces : List (List ℕ)) (piece : List ℕ) → HasCarried gives plan goal found a b s t reached pieces → gives t piece u → IsPart plan.live piece → IsSent goal (bytes piece) reached b c next → HasCarried gives plan goal found a c s u next (pieces ++ piece ∷ [])
carried_more gives both plan goal found reached next a b c s t u pieces piece has came part sent = record {
  turns = has.turns ++ sent.turns;
  sends = sends_piece found reached next pieces piece has.turns sent.turns has.sends sent.sends;
  parts = part_more plan.live pieces piece has.parts part;
  made = made_then goal has.turns sent.turns a b c has.made sent.made;
  came = came_piece gives both s t u pieces piece has.came came;
}

-- the input ended after these pieces
pub carried_all : {S : Type 0} (gives : S → List ℕ → S → Type 0) (ended : S → Type 0) → ((a b c : S) (x y : List ℕ) → gives a x b → gives b y c → gives a (x ++ y) c) → (plan : Publication) (goal : Goal) (found reached : Progress) (a b : Option Story) (s t u : S) (pieces : List (List ℕ)) (piece : List ℕ) → HasCarried gives plan goal found a b s t reached pieces → gives t piece u → piece ≡ [] → ended u → (sends_empty plan.place ≡ false) ⊎ (pieces ≢ []) → IsCarried gives ended plan goal found a b s u reached
carried_all gives ended both plan goal found reached a b s t u pieces piece has came none end later = record {
  pieces = pieces;
  turns = has.turns;
  sends = has.sends;
  cut = cut_end plan pieces has.parts later;
  made = has.made;
  came = subst (λ (x : List ℕ). gives s x u) (ap (λ (x : List ℕ). joined pieces ++ x) none ∙ append-nil (joined pieces)) (both s t u (joined pieces) piece has.came came);
  over = end;
}

-- an input carried with a last piece
pub carried_last : {S : Type 0} (gives : S → List ℕ → S → Type 0) (ended : S → Type 0) → ((a b c : S) (x y : List ℕ) → gives a x b → gives b y c → gives a (x ++ y) c) → (plan : Publication) (goal : Goal) (found reached next : Progress) (a b c : Option Story) (s t u : S) (pieces : List (List ℕ)) (piece : List ℕ) → HasCarried gives plan goal found a b s t reached pieces → gives t piece u → length piece ≤ PUT_PIECE_BYTES → (length piece ≡ 0 → (sends_empty plan.place ≡ true) × (pieces ≡ [])) → ended u → IsSent goal (bytes piece) reached b c next → IsCarried gives ended plan goal found a c s u next
carried_last gives ended both plan goal found reached next a b c s t u pieces piece has came most first end sent = record {
  pieces = pieces ++ piece ∷ [];
  turns = has.turns ++ sent.turns;
  sends = sends_piece found reached next pieces piece has.turns sent.turns has.sends sent.sends;
  cut = cut_more plan pieces piece has.parts most first;
  made = made_then goal has.turns sent.turns a b c has.made sent.made;
  came = came_piece gives both s t u pieces piece has.came came;
  over = end;
}

-- no further piece comes
pub cut_between : {S : Type 0} (gives fails : S → List ℕ → S → Type 0) → ((a b c : S) (x y : List ℕ) → gives a x b → gives b y c → gives a (x ++ y) c) → ((a b c : S) (x y : List ℕ) → gives a x b → fails b y c → fails a (x ++ y) c) → (plan : Publication) (goal : Goal) (found reached : Progress) (a b : Option Story) (s t u : S) (pieces : List (List ℕ)) (end : PutEnd) → HasCarried gives plan goal found a b s t reached pieces → IsPieceCut gives fails t u end → IsCutBetween gives fails plan goal found a b s u end
cut_between gives fails both last plan goal found reached a b s t u pieces ends.Input has cut = record {
  pieces = pieces;
  reached = reached;
  turns = has.turns;
  part = cut.0;
  sends = has.sends;
  parts = has.parts;
  made = has.made;
  came = last s t u (joined pieces) cut.0 has.came cut.1;
  missing = tt;
}
cut_between gives fails both last plan goal found reached a b s t u pieces ends.Memory has cut = record {
  pieces = pieces;
  reached = reached;
  turns = has.turns;
  part = [];
  sends = has.sends;
  parts = has.parts;
  made = has.made;
  came = both s t u (joined pieces) [] has.came cut;
  missing = refl;
}
cut_between gives fails both last plan goal found reached a b s t u pieces ends.Done has cut = absurd cut
cut_between gives fails both last plan goal found reached a b s t u pieces ends.BadUrl has cut = absurd cut
cut_between gives fails both last plan goal found reached a b s t u pieces (ends.Refused status) has cut = absurd cut
cut_between gives fails both last plan goal found reached a b s t u pieces (ends.Length told) has cut = absurd cut
cut_between gives fails both last plan goal found reached a b s t u pieces ends.Short has cut = absurd cut
cut_between gives fails both last plan goal found reached a b s t u pieces ends.Reply has cut = absurd cut
cut_between gives fails both last plan goal found reached a b s t u pieces ends.Link has cut = absurd cut

-- the next piece is not taken
pub refused_at : {S : Type 0} (gives : S → List ℕ → S → Type 0) → ((a b c : S) (x y : List ℕ) → gives a x b → gives b y c → gives a (x ++ y) c) → (plan : Publication) (goal : Goal) (found reached : Progress) (a b c : Option Story) (s t u : S) (pieces : List (List ℕ)) (piece : List ℕ) (end : PutEnd) → HasCarried gives plan goal found a b s t reached pieces → gives t piece u → length piece ≤ PUT_PIECE_BYTES → (length piece ≡ 0 → (sends_empty plan.place ≡ true) × (pieces ≡ [])) → IsRefused goal (bytes piece) reached b c end → IsRefusedAt gives plan goal found a c s u end
refused_at gives both plan goal found reached a b c s t u pieces piece end has came most first refused = record {
  pieces = pieces;
  reached = reached;
  piece = piece;
  turns = has.turns;
  last = refused.turns;
  sends = has.sends;
  cut = cut_more plan pieces piece has.parts most first;
  refuses = refused.refuses;
  made = made_then goal has.turns refused.turns a b c has.made refused.made;
  came = both s t u (joined pieces) piece has.came came;
}
