-- The bytes that a deed gives the connection that it names, and any other one.
use Rattle.std.proofs.Common.{◌≡◌, ℕ, Bool, true, false, Option, None, Some, List, [], ◌∷◌, ◌++◌, drop, refl, sym, ap, subst, ◌∙◌}
use Rattle.std.specs.Prelude.{◌==◌, if◌then◌else◌, length}
use Rattle.std.specs.Option.{option_map}
use Rattle.std.proofs.lemmas.Bool.{eqb-true}
use Rattle.std.proofs.lemmas.List.{append-nil}
use Rattle.oc_base.specs.declared.group.Group.{Group}
use Rattle.oc_link.specs.Calls.{IsFront}
use Rattle.oc_link.specs.Stands.{stands_after, standing_of}
use Rattle.oc_link.specs.Traffic.{given}
use Rattle.oc_link.specs.declared.call.Call.{Call}
use Rattle.oc_link.specs.declared.call.Call.TheVariants as acts
use Rattle.oc_link.specs.declared.phase.Phase.{Phase}
use Rattle.oc_link.specs.declared.phase.Phase.TheVariants.{Awaiting, Answering, Whole}
use Rattle.oc_link.specs.declared.phase.Standing.{Standing}
use Rattle.oc_routes.specs.Contents.{rest_after, owed, piece_of}
use Rattle.oc_routes.specs.declared.content.UnderWay.{UnderWay}
use Rattle.oc_routes.specs.declared.connections.TheConstants.{CONTINUE}
use Rattle.oc_routes.specs.declared.response.Response.{Response}
use Rattle.oc_deeds.proofs.Givings.{Holds, IsGiving, content_left, content_under, finished, front_of, holds_still, place_from, works_left}
use Rattle.oc_deeds.proofs.Grown.{grows_none}
use Rattle.oc_deeds.proofs.WorksOn.{other_pushed, own_pushed, own_without}
use Rattle.oc_deeds.specs.Deeds.{Running, finish, first_rest, keeps, refuses, takes_request, with_content}
use Rattle.oc_deeds.specs.Replying.{IsGivable, MayAnswer, phase_on, text_or_none, works_on}
use Rattle.oc_deeds.specs.Works.{without_work}
use Rattle.oc_deeds.specs.declared.work.Pending.{Pending}
use Rattle.oc_deeds.specs.declared.work.Transfer.{Transfer}
use Rattle.oc_deeds.specs.declared.work.Waiting.{Waiting}
use Rattle.oc_deeds.specs.declared.work.Work.{Work}
use Rattle.oc_deeds.specs.declared.work.Work.TheVariants as works

-- the phase of the connection that a deed names is that of this one
pub phase_here : (c d : ℕ) (made : List Call) (phase : Phase) → (d == c) ≡ true → phase_on d made ≡ phase → phase_on c made ≡ phase
phase_here c d made phase own is = ap (λ (x : ℕ). phase_on x made) (sym (eqb-true d c own)) ∙ is

-- the bytes that were given, with more after them
more_given : (g w text : List ℕ) → w ≡ g → w ++ text ≡ g ++ text
more_given g w text is = ap (λ (x : List ℕ). x ++ text) is

-- A permission, a wait, a refusal, and the end of a connection

pub permitted : (c : ℕ) (ws : List Work) (now later : List Group) (g w : List ℕ) (st : Standing) → st.phase ≡ Awaiting → Holds st.phase ws now later g w
    → Holds st.phase ws now later (g ++ (CONTINUE.now ++ [])) (w ++ CONTINUE.now)
permitted c ws now later g w st phase h =
    let held : (ws ≡ []) × (w ≡ g) = subst (λ (x : Phase). Holds x ws now later g w) phase h in
    subst (λ (x : Phase). Holds x ws now later (g ++ (CONTINUE.now ++ [])) (w ++ CONTINUE.now)) (sym phase)
    (held.0, more_given g w CONTINUE.now (held.1) ∙ ap (λ (x : List ℕ). g ++ x) (sym (append-nil CONTINUE.now)))

pub waiting : (c : ℕ) (a : Running) (x : Waiting) (now later : List Group) (g w : List ℕ) (st : Standing) → (x.connection == c) ≡ true → st.phase ≡ Awaiting → Holds st.phase (works_on c a.works) now later g w
    → IsGiving (works_on c (a.works ++ works.Waits x ∷ [])) now later (g ++ []) (w ++ [])
waiting c a x now later g w st own phase h =
    let held : (works_on c a.works ≡ []) × (w ≡ g) = subst (λ (y : Phase). Holds y (works_on c a.works) now later g w) phase h in
    record {
      work = works.Waits x;
      under_way = own_pushed c a.works (works.Waits x) own ∙ ap (λ (y : List Work). y ++ works.Waits x ∷ []) (held.0);
      givable = tt;
      left = append-nil w ∙ held.1 ∙ sym (append-nil g) ∙ sym (append-nil (g ++ []));
    }

-- the connection of a refusal that was given whole ends, or its next request is awaited
refused_end : (keep : Bool) (ws : List Work) (now later : List Group) (g w : List ℕ) → ws ≡ [] → w ≡ g → Holds (if keep then Awaiting else Whole) ws now later g w
refused_end true ws now later g w none is = (none, is)
refused_end false ws now later g w none is = is

pub refused : (c d count : ℕ) (keep : Bool) (text : Option (List ℕ)) (ws : List Work) (now later : List Group) (g w : List ℕ) (st : Standing) → (d == c) ≡ true → st.phase ≡ Awaiting → Holds st.phase ws now later g w
    → Holds (stands_after c (refuses d count keep text) st).phase ws now later (g ++ given c (refuses d count keep text)) (w ++ text_or_none text)
refused c d count keep None ws now later g w st own phase h =
    let held : (ws ≡ []) × (w ≡ g) = subst (λ (x : Phase). Holds x ws now later g w) phase h in
    rw own ([], append-nil w ∙ held.1 ∙ sym (append-nil g) ∙ sym (append-nil (g ++ [])))
refused c d count keep (Some text) ws now later g w st own phase h =
    let held : (ws ≡ []) × (w ≡ g) = subst (λ (x : Phase). Holds x ws now later g w) phase h in
    rw own (refused_end keep ws now later (g ++ (text ++ [])) (w ++ text) (held.0) (more_given g w text (held.1) ∙ ap (λ (x : List ℕ). g ++ x) (sym (append-nil text))))

-- the bytes given to a connection that is over are a beginning of its replies
pub over : (phase : Phase) (ws : List Work) (now later : List Group) (g w : List ℕ) → Holds phase ws now later g w → IsFront (g ++ []) (w ++ [])
over phase ws now later g w h =
    let f = front_of phase ws now later g w h in
    (f.0, append-nil w ∙ f.1 ∙ ap (λ (x : List ℕ). x ++ f.0) (sym (append-nil g)))

-- Replies

-- no work is under way after the request that is answered, and all before was given
pub taken : (r : Pending) (c : ℕ) (a : Running) (made : List Call) (now later : List Group) (g w : List ℕ) (waited : Bool) → r.waited ≡ waited → (r.connection == c) ≡ true
    → MayAnswer waited c made a.works → Holds (phase_on c made) (works_on c a.works) now later g w
    → ((stands_after c (takes_request r) (standing_of c made)).phase ≡ Answering) × (drop 1 (works_on c a.works) ≡ []) × (given c (takes_request r) ≡ []) × (w ≡ g)
taken r c a made now later g w true has own may h =
    let held : IsGiving (works_on c a.works) now later g w = subst (λ (x : Phase). Holds x (works_on c a.works) now later g w) (may.0) h in
    let one : held.work ∷ [] ≡ works.Waits (may.1) ∷ [] = sym held.under_way ∙ may.2 in
    let same : held.work ≡ works.Waits (may.1) = cc in
    rw has (may.0, ap (λ (x : List Work). drop 1 x) (may.2), refl, held.left ∙ ap (λ (x : Work). g ++ owed (content_under x) later) same ∙ append-nil g)
taken r c a made now later g w false has own may h =
    let held : (works_on c a.works ≡ []) × (w ≡ g) = subst (λ (x : Phase). Holds x (works_on c a.works) now later g w) may h in
    rw (has, own) (refl, ap (λ (x : List Work). drop 1 x) (held.0), refl, held.1)

-- a request of another connection is taken
pub taken_other : (r : Pending) (c : ℕ) (st : Standing) (waited : Bool) → r.waited ≡ waited → (r.connection == c) ≡ false
    → (stands_after c (takes_request r) st ≡ st) × (given c (takes_request r) ≡ [])
taken_other r c st true has apart = rw has (refl, refl)
taken_other r c st false has apart = rw (has, apart) (refl, refl)

-- the rest of a content is on the connection, or on another one
abbrev pub IsAt : Bool → ℕ → Option Transfer → Type 0
IsAt b c None = Unit {0}
IsAt b c (Some p) = (p.connection == c) ≡ b

pub rest_at : (b : Bool) (c : ℕ) (p : Transfer) (t : ℕ) (o : Option UnderWay) → (p.connection == c) ≡ b → IsAt b c (option_map (λ (u : UnderWay). record p { content = u; since = t }) o)
rest_at b c p t None is = tt
rest_at b c p t (Some u) is = is

pub first_at : (b : Bool) (c : ℕ) (r : Pending) (response : Response) (t : ℕ) (o : Option UnderWay) (now : List Group) → (r.connection == c) ≡ b → IsAt b c (first_rest (place_from r response t o) t now)
first_at b c r response t None now is = tt
first_at b c r response t (Some u) now is =
    let p : Transfer = record { connection = r.connection; content = u; keeps = keeps response.connection; told = r.told; since = t } in
    rest_at b c p t (rest_after u (length (piece_of u now))) is

-- the work on a connection after a piece
pub left_on : (c : ℕ) (ws : List Work) (left : Option Transfer) → works_on c ws ≡ [] → IsAt true c left → works_on c (with_content left ws) ≡ works_left left
left_on c ws None none own = none
left_on c ws (Some p) none own = own_pushed c ws (works.Content p) own ∙ ap (λ (x : List Work). x ++ works.Content p ∷ []) none

pub other_left : (c : ℕ) (ws : List Work) (left : Option Transfer) → IsAt false c left → works_on c (with_content left ws) ≡ works_on c ws
other_left c ws None apart = refl
other_left c ws (Some p) apart = other_pushed c ws (works.Content p) apart

-- the work of this connection is taken out
pub taken_out : (c d : ℕ) (ws : List Work) → (d == c) ≡ true → works_on c (without_work d ws) ≡ drop 1 (works_on c ws)
taken_out c d ws own = ap (λ (x : ℕ). works_on c (without_work x ws)) (eqb-true d c own) ∙ own_without c ws

finish_gives : (c d : ℕ) (keep watched : Bool) (left : Option Transfer) → given c (finish d keep watched left) ≡ []
finish_gives c d keep watched None = refl
finish_gives c d keep watched (Some p) = refl

finish_other : (c d : ℕ) (keep watched : Bool) (left : Option Transfer) (st : Standing) → (d == c) ≡ false → stands_after c (finish d keep watched left) st ≡ st
finish_other c d keep watched None st apart = rw apart refl
finish_other c d keep watched (Some p) st apart = refl

-- the state after a text and the rest
pub text_given : (c d : ℕ) (text : List ℕ) (keep watched : Bool) (left : Option Transfer) (st : Standing) (ws : List Work) (now later : List Group) (g w : List ℕ)
    → (d == c) ≡ true → st.phase ≡ Answering → ws ≡ works_left left → IsGivable (content_left left) now → w ≡ (g ++ text) ++ owed (content_left left) later
    → Holds (stands_after c (acts.Give d text ∷ finish d keep watched left) st).phase ws now later (g ++ given c (acts.Give d text ∷ finish d keep watched left)) w
text_given c d text keep watched left st ws now later g w own phase under there is =
    let fed : Standing = record st { fed = true } in
    let stands : (if d == c then fed else st) ≡ fed = ap (λ (b : Bool). if b then fed else st) own in
    let all : given c (acts.Give d text ∷ finish d keep watched left) ≡ text =
    ap (λ (b : Bool). (if b then text else []) ++ given c (finish d keep watched left)) own
    ∙ ap (λ (x : List ℕ). text ++ x) (finish_gives c d keep watched left) ∙ append-nil text in
    subst (λ (x : Standing). Holds (stands_after c (finish d keep watched left) x).phase ws now later (g ++ given c (acts.Give d text ∷ finish d keep watched left)) w) (sym stands)
    (subst (λ (x : List ℕ). Holds (stands_after c (finish d keep watched left) fed).phase ws now later (g ++ x) w) (sym all)
    (finished c d keep watched left fed ws now later (g ++ text) w own phase under there is))

pub text_other : (c d : ℕ) (text : List ℕ) (keep watched : Bool) (left : Option Transfer) (st : Standing) (ws : List Work) (now later : List Group) (g w : List ℕ)
    → (d == c) ≡ false → Holds st.phase ws now later g w
    → Holds (stands_after c (acts.Give d text ∷ finish d keep watched left) st).phase ws now later (g ++ given c (acts.Give d text ∷ finish d keep watched left)) (w ++ [])
text_other c d text keep watched left st ws now later g w apart h =
    let fed : Standing = record st { fed = true } in
    let stands : (if d == c then fed else st) ≡ st = ap (λ (b : Bool). if b then fed else st) apart in
    let all : given c (acts.Give d text ∷ finish d keep watched left) ≡ [] =
    ap (λ (b : Bool). (if b then text else []) ++ given c (finish d keep watched left)) apart ∙ finish_gives c d keep watched left in
    subst (λ (x : Standing). Holds (stands_after c (finish d keep watched left) x).phase ws now later (g ++ given c (acts.Give d text ∷ finish d keep watched left)) (w ++ [])) (sym stands)
    (subst (λ (x : Standing). Holds x.phase ws now later (g ++ given c (acts.Give d text ∷ finish d keep watched left)) (w ++ [])) (sym (finish_other c d keep watched left st apart))
    (subst (λ (x : List ℕ). Holds st.phase ws now later (g ++ x) (w ++ [])) (sym all)
    (holds_still st.phase ws now now later g w (grows_none now) h)))
