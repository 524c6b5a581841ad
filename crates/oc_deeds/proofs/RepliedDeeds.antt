-- Deed by deed, each connection is given the replies to its requests.
use Rattle.std.proofs.Common.{◌≡◌, ◌⊎◌, ℕ, Bool, true, false, Option, None, Some, List, [], ◌∷◌, ◌++◌, drop, inl, inr, refl, sym, ap, subst, ◌∙◌}
use Rattle.std.specs.Prelude.{◌==◌, if◌then◌else◌, is_some, length, unwrap_or}
use Rattle.std.proofs.lemmas.Bool.{eqb-true}
use Rattle.std.proofs.lemmas.List.{append_assoc, append-nil}
use Rattle.oc_base.specs.declared.group.Group.{Group}
use Rattle.oc_link.specs.Calls.{IsFront}
use Rattle.oc_link.proofs.Stories.{given-then, stands-then}
use Rattle.oc_link.specs.Stands.{after_loss, after_room, sees, stands_after, standing_of, untouched}
use Rattle.oc_link.specs.Traffic.{given}
use Rattle.oc_link.specs.declared.call.Call.{Call}
use Rattle.oc_link.specs.declared.call.Call.TheVariants as acts
use Rattle.oc_link.specs.declared.event.LinkEvent.{LinkEvent}
use Rattle.oc_link.specs.declared.event.LinkEvent.TheVariants as events
use Rattle.oc_link.specs.declared.phase.Phase.{Phase}
use Rattle.oc_link.specs.declared.phase.Phase.TheVariants.{Awaiting, Answering, Whole, Broken, Gone}
use Rattle.oc_link.specs.declared.phase.Standing.{Standing}
use Rattle.oc_routes.specs.Contents.{rest_after, owed, piece_of}
use Rattle.oc_routes.specs.declared.content.UnderWay.{UnderWay}
use Rattle.oc_routes.specs.Refusals.{refusal_text}
use Rattle.oc_routes.specs.declared.connections.TheConstants.{CONTINUE}
use Rattle.oc_routes.specs.declared.response.Response.{Response}
use Rattle.oc_deeds.proofs.Givings.{Holds, IsGiving, content_left, content_under, first_givable, first_given, front_of, holds_still, piece_given, rest_givable}
use Rattle.oc_deeds.proofs.Grown.{Grows, grows_after, grows_all, grows_none, grows_then}
use Rattle.oc_deeds.proofs.Replying.{first_at, left_on, other_left, over, permitted, phase_here, refused, rest_at, taken, taken_other, taken_out, text_given, text_other, waiting}
use Rattle.oc_deeds.proofs.WorksOn.{other_pushed, other_without, own_pushed}
use Rattle.oc_deeds.specs.Deeds.{Accepts, BreaksOff, Deed, Dials, Drops, Gives, Keeps, LaysAside, Looks, Notes, Permits, Probes, Reads, Refuses, Rejects, Replies, Rereads, Running, Says, Sees, Setting, Takes, Tells, Waits, after, after_all, calls, calls_of, content_in, finish, first_piece, first_rest, keeps, piece, transfer_for, refuses, rest, takes_request, with_content}
use Rattle.oc_deeds.specs.Replying.{HasContent, IsGivable, IsOrdered, MayAnswer, MayDo, replied, replied_all, phase_on, text_or_none, whole_reply, works_on}
use Rattle.oc_deeds.specs.Works.{without_work}
use Rattle.oc_deeds.specs.declared.work.Pending.{Pending}
use Rattle.oc_deeds.specs.declared.work.Transfer.{Transfer}
use Rattle.oc_deeds.specs.declared.work.Waiting.{Waiting}
use Rattle.oc_deeds.specs.declared.work.Work.{Work}
use Rattle.oc_deeds.specs.declared.work.Work.TheVariants as works

-- Events

seen_still : (b : Bool) (x : Standing) (st : Standing) (ws : List Work) (now later : List Group) (g w : List ℕ) → x.phase ≡ st.phase → Holds st.phase ws now later g w
    → Holds (if b then x else st).phase ws now later (g ++ []) (w ++ [])
seen_still true x st ws now later g w same h = subst (λ (y : Phase). Holds y ws now later (g ++ []) (w ++ [])) (sym same) (holds_still st.phase ws now now later g w (grows_none now) h)
seen_still false x st ws now later g w same h = holds_still st.phase ws now now later g w (grows_none now) h

seen_gone : (b : Bool) (st : Standing) (ws : List Work) (now later : List Group) (g w : List ℕ) → Holds st.phase ws now later g w
    → Holds (if b then after_loss st else st).phase ws now later (g ++ []) (w ++ [])
seen_gone true st ws now later g w h = over st.phase ws now later g w h
seen_gone false st ws now later g w h = holds_still st.phase ws now now later g w (grows_none now) h

-- an event gives nothing, and may tell that the connection is gone
seen_holds : (c : ℕ) (e : LinkEvent) (st : Standing) (ws : List Work) (now later : List Group) (g w : List ℕ) → Holds st.phase ws now later g w
    → Holds (sees c e st).phase ws now later (g ++ []) (w ++ [])
seen_holds c (events.Request x) st ws now later g w h = holds_still st.phase ws now now later g w (grows_none now) h
seen_holds c (events.Room d) st ws now later g w h = seen_still (d == c) (after_room st) st ws now later g w refl h
seen_holds c (events.Gone d loss) st ws now later g w h = seen_gone (d == c) st ws now later g w h
seen_holds c (events.Reply d coming) st ws now later g w h = holds_still st.phase ws now now later g w (grows_none now) h
seen_holds c events.Quiet st ws now later g w h = holds_still st.phase ws now now later g w (grows_none now) h

-- One deed

-- the state of the connection c after calls with these replies
abbrev Behind : ℕ → List Call → List ℕ → Standing → List Work → List Group → List Group → List ℕ → List ℕ → Type 0
Behind c made text st ws now later g w = Holds (stands_after c made st).phase ws now later (g ++ given c made) (w ++ text)

permits : (c d : ℕ) (a : Running) (made : List Call) (later : List Group) (g w : List ℕ) → phase_on d made ≡ Awaiting → Holds (phase_on c made) (works_on c a.works) a.node.groups later g w
    → Behind c (acts.Give d CONTINUE.now ∷ []) (if d == c then CONTINUE.now else []) (standing_of c made) (works_on c a.works) a.node.groups later g w
permits c d a made later g w may h = by_test (d == c) refl
  where
    by_test : (b : Bool) → (d == c) ≡ b → Behind c (acts.Give d CONTINUE.now ∷ []) (if d == c then CONTINUE.now else []) (standing_of c made) (works_on c a.works) a.node.groups later g w
    by_test true own = rw own (permitted c (works_on c a.works) a.node.groups later g w (standing_of c made) (phase_here c d made Awaiting own may) h)
    by_test false apart = rw apart (holds_still (phase_on c made) (works_on c a.works) a.node.groups a.node.groups later g w (grows_none a.node.groups) h)

waits : (c : ℕ) (x : Waiting) (a : Running) (made : List Call) (later : List Group) (g w : List ℕ) → phase_on x.connection made ≡ Awaiting → Holds (phase_on c made) (works_on c a.works) a.node.groups later g w
    → Behind c (acts.Take x.connection x.request.count ∷ []) [] (standing_of c made) (works_on c (a.works ++ works.Waits x ∷ [])) a.node.groups later g w
waits c x a made later g w may h = by_test (x.connection == c) refl
  where
    by_test : (b : Bool) → (x.connection == c) ≡ b → Behind c (acts.Take x.connection x.request.count ∷ []) [] (standing_of c made) (works_on c (a.works ++ works.Waits x ∷ [])) a.node.groups later g w
    by_test true own = rw own (waiting c a x a.node.groups later g w (standing_of c made) own (phase_here c x.connection made Awaiting own may) h)
    by_test false apart =
        rw apart
        (subst (λ (ws : List Work). Holds (phase_on c made) ws a.node.groups later (g ++ []) (w ++ [])) (sym (other_pushed c a.works (works.Waits x) apart))
        (holds_still (phase_on c made) (works_on c a.works) a.node.groups a.node.groups later g w (grows_none a.node.groups) h))

refused_other : (c d count : ℕ) (keep : Bool) (text : Option (List ℕ)) (st : Standing) (ws : List Work) (now later : List Group) (g w : List ℕ) → (d == c) ≡ false → Holds st.phase ws now later g w
    → Behind c (refuses d count keep text) [] st ws now later g w
refused_other c d count keep None st ws now later g w apart h = rw apart (holds_still st.phase ws now now later g w (grows_none now) h)
refused_other c d count keep (Some text) st ws now later g w apart h = rw apart (holds_still st.phase ws now now later g w (grows_none now) h)

refuses_request : (c d count : ℕ) (keep : Bool) (text : Option (List ℕ)) (a : Running) (made : List Call) (later : List Group) (g w : List ℕ) → phase_on d made ≡ Awaiting → Holds (phase_on c made) (works_on c a.works) a.node.groups later g w
    → Behind c (refuses d count keep text) (if d == c then text_or_none text else []) (standing_of c made) (works_on c a.works) a.node.groups later g w
refuses_request c d count keep text a made later g w may h = by_test (d == c) refl
  where
    by_test : (b : Bool) → (d == c) ≡ b → Behind c (refuses d count keep text) (if b then text_or_none text else []) (standing_of c made) (works_on c a.works) a.node.groups later g w
    by_test true own = refused c d count keep text (works_on c a.works) a.node.groups later g w (standing_of c made) own (phase_here c d made Awaiting own may) h
    by_test false apart = refused_other c d count keep text (standing_of c made) (works_on c a.works) a.node.groups later g w apart h

breaks : (c d : ℕ) (a : Running) (made : List Call) (later : List Group) (g w : List ℕ) → Holds (phase_on c made) (works_on c a.works) a.node.groups later g w
    → Behind c (acts.BreakOff d ∷ []) [] (standing_of c made) (works_on c (without_work d a.works)) a.node.groups later g w
breaks c d a made later g w h = by_test (d == c) refl
  where
    by_test : (b : Bool) → (d == c) ≡ b → Behind c (acts.BreakOff d ∷ []) [] (standing_of c made) (works_on c (without_work d a.works)) a.node.groups later g w
    by_test true own = rw own (over (phase_on c made) (works_on c a.works) a.node.groups later g w h)
    by_test false apart =
        rw apart
        (subst (λ (ws : List Work). Holds (phase_on c made) ws a.node.groups later (g ++ []) (w ++ [])) (sym (other_without c d a.works apart))
        (holds_still (phase_on c made) (works_on c a.works) a.node.groups a.node.groups later g w (grows_none a.node.groups) h))

drops : (c d : ℕ) (a : Running) (made : List Call) (later : List Group) (g w : List ℕ) → phase_on d made ≡ Gone → Holds (phase_on c made) (works_on c a.works) a.node.groups later g w
    → Behind c [] [] (standing_of c made) (works_on c (without_work d a.works)) a.node.groups later g w
drops c d a made later g w may h = by_test (d == c) refl
  where
    by_test : (b : Bool) → (d == c) ≡ b → Behind c [] [] (standing_of c made) (works_on c (without_work d a.works)) a.node.groups later g w
    by_test true own =
        subst (λ (x : Phase). Holds x (works_on c (without_work d a.works)) a.node.groups later (g ++ []) (w ++ [])) (sym (phase_here c d made Gone own may))
        (over (phase_on c made) (works_on c a.works) a.node.groups later g w h)
    by_test false apart =
        subst (λ (ws : List Work). Holds (phase_on c made) ws a.node.groups later (g ++ []) (w ++ [])) (sym (other_without c d a.works apart))
        (holds_still (phase_on c made) (works_on c a.works) a.node.groups a.node.groups later g w (grows_none a.node.groups) h)

-- Contents

-- the content that is under way is this one
content_is : (p : Transfer) (ws : List Work) (work : Work) → (ws ≡ works.Content p ∷ []) ⊎ (ws ≡ works.Aside p ∷ []) → ws ≡ work ∷ [] → content_under work ≡ Some p.content
content_is p ws work (inl is) one =
    let both : work ∷ [] ≡ works.Content p ∷ [] = sym one ∙ is in
    let same : work ≡ works.Content p = cc in
    ap content_under same
content_is p ws work (inr is) one =
    let both : work ∷ [] ≡ works.Aside p ∷ [] = sym one ∙ is in
    let same : work ≡ works.Aside p = cc in
    ap content_under same

-- a content that is under way here, and the bytes given
pub record IsUnderWay (c : ℕ) (p : Transfer) (a : Running) (later : List Group) (g w : List ℕ) : Type 0 where
  pub none : works_on c (without_work p.connection a.works) ≡ []
  pub givable : IsGivable (Some p.content) a.node.groups
  pub left : w ≡ g ++ owed (Some p.content) later

under_way : (c : ℕ) (p : Transfer) (a : Running) (made : List Call) (later : List Group) (g w : List ℕ) → (p.connection == c) ≡ true → HasContent p made a.works → Holds (phase_on c made) (works_on c a.works) a.node.groups later g w
    → (phase_on c made ≡ Answering) × IsUnderWay c p a later g w
under_way c p a made later g w own has h =
    let phase : phase_on c made ≡ Answering = phase_here c p.connection made Answering own has.phase in
    let held : IsGiving (works_on c a.works) a.node.groups later g w = subst (λ (x : Phase). Holds x (works_on c a.works) a.node.groups later g w) phase h in
    let here : (works_on c a.works ≡ works.Content p ∷ []) ⊎ (works_on c a.works ≡ works.Aside p ∷ []) =
    subst (λ (x : ℕ). (works_on x a.works ≡ works.Content p ∷ []) ⊎ (works_on x a.works ≡ works.Aside p ∷ [])) (eqb-true p.connection c own) has.works in
    let content : content_under held.work ≡ Some p.content = content_is p (works_on c a.works) held.work here held.under_way in (
      phase,
      record {
        none = taken_out c p.connection a.works own ∙ ap (λ (x : List Work). drop 1 x) held.under_way;
        givable = subst (λ (o : Option UnderWay). IsGivable o a.node.groups) content held.givable;
        left = held.left ∙ ap (λ (o : Option UnderWay). g ++ owed o later) content;
      },
    )

gives : (c : ℕ) (p : Transfer) (t : ℕ) (a : Running) (made : List Call) (later : List Group) (g w : List ℕ) → Grows a.node.groups later → HasContent p made a.works → Holds (phase_on c made) (works_on c a.works) a.node.groups later g w
    → Behind c (acts.Give p.connection (piece p a.node.groups) ∷ finish p.connection p.keeps p.told (rest p t a.node.groups)) [] (standing_of c made)
    (works_on c (with_content (rest p t a.node.groups) (without_work p.connection a.works))) a.node.groups later g w
gives c p t a made later g w grows has h = by_test (p.connection == c) refl
  where
    left : Option Transfer
    left = rest p t a.node.groups

    by_test : (b : Bool) → (p.connection == c) ≡ b
        → Behind c (acts.Give p.connection (piece p a.node.groups) ∷ finish p.connection p.keeps p.told left) [] (standing_of c made) (works_on c (with_content left (without_work p.connection a.works))) a.node.groups later g w
    by_test true own =
        let u = under_way c p a made later g w own has h in
        let is : w ++ [] ≡ (g ++ piece p a.node.groups) ++ owed (content_left left) later =
        append-nil w ∙ (u.1).left ∙ ap (λ (x : List ℕ). g ++ x) (piece_given p t a.node.groups later grows (u.1).givable)
        ∙ sym (append_assoc g (piece p a.node.groups) (owed (content_left left) later)) in
        text_given c p.connection (piece p a.node.groups) p.keeps p.told left (standing_of c made) (works_on c (with_content left (without_work p.connection a.works))) a.node.groups later g (w ++ []) own (u.0)
        (left_on c (without_work p.connection a.works) left (u.1).none (rest_at true c p t (rest_after p.content (length (piece_of p.content a.node.groups))) own))
        (rest_givable p t a.node.groups (u.1).givable) is
    by_test false apart =
        let same : works_on c (with_content left (without_work p.connection a.works)) ≡ works_on c a.works =
        other_left c (without_work p.connection a.works) left (rest_at false c p t (rest_after p.content (length (piece_of p.content a.node.groups))) apart) ∙ other_without c p.connection a.works apart in
        text_other c p.connection (piece p a.node.groups) p.keeps p.told left (standing_of c made) (works_on c (with_content left (without_work p.connection a.works))) a.node.groups later g w apart
        (subst (λ (ws : List Work). Holds (phase_on c made) ws a.node.groups later g w) (sym same) h)

lays : (c : ℕ) (p : Transfer) (a : Running) (made : List Call) (later : List Group) (g w : List ℕ) → HasContent p made a.works → Holds (phase_on c made) (works_on c a.works) a.node.groups later g w
    → Behind c [] [] (standing_of c made) (works_on c (without_work p.connection a.works ++ works.Aside p ∷ [])) a.node.groups later g w
lays c p a made later g w has h = by_test (p.connection == c) refl
  where
    by_test : (b : Bool) → (p.connection == c) ≡ b → Behind c [] [] (standing_of c made) (works_on c (without_work p.connection a.works ++ works.Aside p ∷ [])) a.node.groups later g w
    by_test true own =
        let u = under_way c p a made later g w own has h in
        let giving : IsGiving (works_on c (without_work p.connection a.works ++ works.Aside p ∷ [])) a.node.groups later g w = record {
          work = works.Aside p;
          under_way = own_pushed c (without_work p.connection a.works) (works.Aside p) own ∙ ap (λ (x : List Work). x ++ works.Aside p ∷ []) (u.1).none;
          givable = (u.1).givable;
          left = (u.1).left;
        } in
        holds_still (phase_on c made) (works_on c (without_work p.connection a.works ++ works.Aside p ∷ [])) a.node.groups a.node.groups later g w (grows_none a.node.groups)
        (subst (λ (x : Phase). Holds x (works_on c (without_work p.connection a.works ++ works.Aside p ∷ [])) a.node.groups later g w) (sym (u.0)) giving)
    by_test false apart =
        let same : works_on c (without_work p.connection a.works ++ works.Aside p ∷ []) ≡ works_on c a.works =
        other_pushed c (without_work p.connection a.works) (works.Aside p) apart ∙ other_without c p.connection a.works apart in
        holds_still (phase_on c made) (works_on c (without_work p.connection a.works ++ works.Aside p ∷ [])) a.node.groups a.node.groups later g w (grows_none a.node.groups)
        (subst (λ (ws : List Work). Holds (phase_on c made) ws a.node.groups later g w) (sym same) h)

-- Requests that are answered

-- the calls that give a reply
abbrev texts : Pending → Response → ℕ → List Group → List Call
texts r response t groups =
    acts.Give r.connection (response.text ++ first_piece (transfer_for r response t) groups)
    ∷ finish r.connection (keeps response.connection) r.told (first_rest (transfer_for r response t) t groups)

-- the state after the request that was taken
request_taken : (c : ℕ) (takes more : List Call) (st : Standing) (ws : List Work) (now later : List Group) (g w : List ℕ) → given c takes ≡ []
    → Holds (stands_after c more (stands_after c takes st)).phase ws now later (g ++ given c more) w
    → Holds (stands_after c (takes ++ more) st).phase ws now later (g ++ given c (takes ++ more)) w
request_taken c takes more st ws now later g w none h =
    let all : given c (takes ++ more) ≡ given c more = given-then c takes more ∙ ap (λ (x : List ℕ). x ++ given c more) none in
    subst (λ (x : Standing). Holds x.phase ws now later (g ++ given c (takes ++ more)) w) (sym (stands-then c takes more st))
    (subst (λ (x : List ℕ). Holds (stands_after c more (stands_after c takes st)).phase ws now later (g ++ x) w) (sym all) h)

replies_request : (c : ℕ) (r : Pending) (response : Response) (t : ℕ) (a : Running) (made : List Call) (later : List Group) (g w : List ℕ) → Grows a.node.groups later
    → MayAnswer r.waited r.connection made a.works → IsGivable (content_in r.asked.operation response.content) a.node.groups → Holds (phase_on c made) (works_on c a.works) a.node.groups later g w
    → Behind c (takes_request r ++ texts r response t a.node.groups) (if r.connection == c then whole_reply r response later else []) (standing_of c made)
    (works_on c (with_content (first_rest (transfer_for r response t) t a.node.groups) (without_work r.connection a.works))) a.node.groups later g w
replies_request c r response t a made later g w grows may there h = by_test (r.connection == c) refl
  where
    content : Option UnderWay
    content = content_in r.asked.operation response.content

    first : List ℕ
    first = first_piece (transfer_for r response t) a.node.groups

    left : Option Transfer
    left = first_rest (transfer_for r response t) t a.node.groups

    ws : List Work
    ws = works_on c (with_content left (without_work r.connection a.works))

    by_test : (b : Bool) → (r.connection == c) ≡ b → Behind c (takes_request r ++ texts r response t a.node.groups) (if b then whole_reply r response later else []) (standing_of c made) ws a.node.groups later g w
    by_test true own =
        let here : MayAnswer r.waited c made a.works = subst (λ (x : ℕ). MayAnswer r.waited x made a.works) (eqb-true r.connection c own) may in
        let before = taken r c a made a.node.groups later g w r.waited refl own here h in
        let none : works_on c (without_work r.connection a.works) ≡ [] = taken_out c r.connection a.works own ∙ before.1 in
        let is : w ++ whole_reply r response later ≡ (g ++ (response.text ++ first)) ++ owed (content_left left) later =
        ap (λ (x : List ℕ). x ++ whole_reply r response later) (before.3)
        ∙ ap (λ (x : List ℕ). g ++ (response.text ++ x)) (first_given r response t content a.node.groups later grows there)
        ∙ ap (λ (x : List ℕ). g ++ x) (sym (append_assoc response.text first (owed (content_left left) later)))
        ∙ sym (append_assoc g (response.text ++ first) (owed (content_left left) later)) in
        request_taken c (takes_request r) (texts r response t a.node.groups) (standing_of c made) ws a.node.groups later g (w ++ whole_reply r response later) (before.2)
        (text_given c r.connection (response.text ++ first) (keeps response.connection) r.told left (stands_after c (takes_request r) (standing_of c made)) ws a.node.groups later g (w ++ whole_reply r response later) own (before.0)
        (left_on c (without_work r.connection a.works) left none (first_at true c r response t content a.node.groups own))
        (first_givable r response t content a.node.groups there) is)
    by_test false apart =
        let before = taken_other r c (standing_of c made) r.waited refl apart in
        let same : ws ≡ works_on c a.works =
        other_left c (without_work r.connection a.works) left (first_at false c r response t content a.node.groups apart) ∙ other_without c r.connection a.works apart in
        request_taken c (takes_request r) (texts r response t a.node.groups) (standing_of c made) ws a.node.groups later g (w ++ []) (before.1)
        (subst (λ (x : Standing). Holds (stands_after c (texts r response t a.node.groups) x).phase ws a.node.groups later (g ++ given c (texts r response t a.node.groups)) (w ++ [])) (sym (before.0))
        (text_other c r.connection (response.text ++ first) (keeps response.connection) r.told left (standing_of c made) ws a.node.groups later g w apart
        (subst (λ (x : List Work). Holds (phase_on c made) x a.node.groups later g w) (sym same) h)))

-- Any deed, and one after another

done : (s : Setting) (d : Deed) (c : ℕ) (a : Running) (made : List Call) (later : List Group) (g w : List ℕ) → Grows (after d a).node.groups later → MayDo d made a
    → Holds (phase_on c made) (works_on c a.works) a.node.groups later g w
    → Behind c (calls s d a) (replied c d later) (standing_of c made) (works_on c (after d a).works) (after d a).node.groups later g w
done s (Sees e wait bytes) c a made later g w grows may h = seen_holds c e (standing_of c made) (works_on c a.works) a.node.groups later g w h
done s (Reads t) c a made later g w grows may h = holds_still (phase_on c made) (works_on c a.works) a.node.groups a.node.groups later g w (grows_none a.node.groups) h
done s (Tells t) c a made later g w grows may h = holds_still (phase_on c made) (works_on c a.works) a.node.groups a.node.groups later g w (grows_none a.node.groups) h
done s (Takes i) c a made later g w grows may h = holds_still (phase_on c made) (works_on c a.works) a.node.groups (after (Takes i) a).node.groups later g w (grows_after (Takes i) a) h
done s (Accepts i) c a made later g w grows may h = holds_still (phase_on c made) (works_on c a.works) a.node.groups (after (Accepts i) a).node.groups later g w (grows_after (Accepts i) a) h
done s (Says text) c a made later g w grows may h = holds_still (phase_on c made) (works_on c a.works) a.node.groups a.node.groups later g w (grows_none a.node.groups) h
done s (Notes why) c a made later g w grows may h = holds_still (phase_on c made) (works_on c a.works) a.node.groups a.node.groups later g w (grows_none a.node.groups) h
done s (Permits d) c a made later g w grows may h = permits c d a made later g w may h
done s (Waits x) c a made later g w grows may h = waits c x a made later g w may h
done s (Replies r response t) c a made later g w grows may h = replies_request c r response t a made later g w grows (may.0) (may.1) h
done s (Refuses d count refusal) c a made later g w grows may h = refuses_request c d (unwrap_or refusal.kept count) (is_some refusal.kept) (refusal_text refusal) a made later g w may h
done s (Rejects fault) c a made later g w grows may h = holds_still (phase_on c made) (works_on c a.works) a.node.groups a.node.groups later g w (grows_none a.node.groups) h
done s (BreaksOff d) c a made later g w grows may h = breaks c d a made later g w h
done s (Gives p t) c a made later g w grows may h = gives c p t a made later g w grows may h
done s (LaysAside p) c a made later g w grows may h = lays c p a made later g w may h
done s (Drops d told) c a made later g w grows may h = drops c d a made later g w may h
done s (Dials place m d) c a made later g w grows may h = holds_still (phase_on c made) (works_on c a.works) a.node.groups a.node.groups later g w (grows_none a.node.groups) h
done s (Probes peer d t) c a made later g w grows may h = holds_still (phase_on c made) (works_on c a.works) a.node.groups a.node.groups later g w (grows_none a.node.groups) h
done s (Looks look) c a made later g w grows may h = holds_still (phase_on c made) (works_on c a.works) a.node.groups a.node.groups later g w (grows_none a.node.groups) h
done s (Rereads config) c a made later g w grows may h = holds_still (phase_on c made) (works_on c a.works) a.node.groups a.node.groups later g w (grows_none a.node.groups) h
done s (Keeps why) c a made later g w grows may h = holds_still (phase_on c made) (works_on c a.works) a.node.groups a.node.groups later g w (grows_none a.node.groups) h

all_done : (s : Setting) (ds : List Deed) (c : ℕ) (a : Running) (made : List Call) (later : List Group) (g w : List ℕ) → Grows (after_all ds a).node.groups later → IsOrdered s made ds a
    → Holds (phase_on c made) (works_on c a.works) a.node.groups later g w
    → Behind c (calls_of s ds a) (replied_all c ds later) (standing_of c made) (works_on c (after_all ds a).works) (after_all ds a).node.groups later g w
all_done s [] c a made later g w grows may h = holds_still (phase_on c made) (works_on c a.works) a.node.groups a.node.groups later g w (grows_none a.node.groups) h
all_done s (d ∷ ds) c a made later g w grows may h =
    let onward : Running = after d a in
    let mine : List Call = calls s d a in
    let more : List Call = calls_of s ds onward in
    let from : Grows onward.node.groups later = grows_then onward.node.groups (after_all ds onward).node.groups later (grows_all ds onward) grows in
    let one = done s d c a made later g w from (may.0) h in
    let stands : standing_of c (made ++ mine) ≡ stands_after c mine (standing_of c made) = stands-then c made mine untouched in
    let next = all_done s ds c onward (made ++ mine) later (g ++ given c mine) (w ++ replied c d later) grows (may.1)
    (subst (λ (x : Standing). Holds x.phase (works_on c onward.works) onward.node.groups later (g ++ given c mine) (w ++ replied c d later)) (sym stands) one) in
    let end : stands_after c more (standing_of c (made ++ mine)) ≡ stands_after c (mine ++ more) (standing_of c made) =
    ap (λ (x : Standing). stands_after c more x) stands ∙ sym (stands-then c mine more (standing_of c made)) in
    let gave : (g ++ given c mine) ++ given c more ≡ g ++ given c (mine ++ more) = append_assoc g (given c mine) (given c more) ∙ ap (λ (x : List ℕ). g ++ x) (sym (given-then c mine more)) in
    let owes : (w ++ replied c d later) ++ replied_all c ds later ≡ w ++ (replied c d later ++ replied_all c ds later) = append_assoc w (replied c d later) (replied_all c ds later) in
    subst (λ (x : Standing). Holds x.phase (works_on c (after_all ds onward).works) (after_all ds onward).node.groups later (g ++ given c (mine ++ more)) (w ++ (replied c d later ++ replied_all c ds later))) end
    (subst (λ (x : List ℕ). Holds (stands_after c more (standing_of c (made ++ mine))).phase (works_on c (after_all ds onward).works) (after_all ds onward).node.groups later x (w ++ (replied c d later ++ replied_all c ds later))) gave
    (subst (λ (x : List ℕ). Holds (stands_after c more (standing_of c (made ++ mine))).phase (works_on c (after_all ds onward).works) (after_all ds onward).node.groups later ((g ++ given c mine) ++ given c more) x) owes next))

-- From a moment without works

begun_holds : (phase : Phase) (ws : List Work) (now later : List Group) → ws ≡ [] → (phase ≡ Answering → ⊥) → Holds phase ws now later [] []
begun_holds Awaiting ws now later none idle = (none, refl)
begun_holds Answering ws now later none idle = absurd (idle refl)
begun_holds Whole ws now later none idle = refl
begun_holds Broken ws now later none idle = ([], refl)
begun_holds Gone ws now later none idle = ([], refl)

run_holds : (s : Setting) (made : List Call) (ds : List Deed) (a : Running) (c : ℕ) → a.works ≡ [] → (phase_on c made ≡ Answering → ⊥) → IsOrdered s made ds a
    → Behind c (calls_of s ds a) (replied_all c ds (after_all ds a).node.groups) (standing_of c made) (works_on c (after_all ds a).works) (after_all ds a).node.groups (after_all ds a).node.groups [] []
run_holds s made ds a c none idle ordered =
    all_done s ds c a made (after_all ds a).node.groups [] [] (grows_none (after_all ds a).node.groups) ordered
    (begun_holds (phase_on c made) (works_on c a.works) a.node.groups (after_all ds a).node.groups (ap (works_on c) none) idle)

-- each connection was given a beginning of its replies
pub given_front : (s : Setting) (made : List Call) (ds : List Deed) (a : Running) (c : ℕ) → a.works ≡ [] → (phase_on c made ≡ Answering → ⊥) → IsOrdered s made ds a
    → IsFront (given c (calls_of s ds a)) (replied_all c ds (after_all ds a).node.groups)
given_front s made ds a c none idle ordered =
    front_of (stands_after c (calls_of s ds a) (standing_of c made)).phase (works_on c (after_all ds a).works) (after_all ds a).node.groups (after_all ds a).node.groups
    (given c (calls_of s ds a)) (replied_all c ds (after_all ds a).node.groups) (run_holds s made ds a c none idle ordered)

whole_at : (phase : Phase) (ws : List Work) (now later : List Group) (g w : List ℕ) → (phase ≡ Awaiting) ⊎ (phase ≡ Whole) → Holds phase ws now later g w → g ≡ w
whole_at phase ws now later g w (inl is) h =
    let held : (ws ≡ []) × (w ≡ g) = subst (λ (x : Phase). Holds x ws now later g w) is h in
    sym (held.1)
whole_at phase ws now later g w (inr is) h =
    let held : w ≡ g = subst (λ (x : Phase). Holds x ws now later g w) is h in
    sym held

-- all replies are given where none is under way and none was cut off
pub given_whole : (s : Setting) (made : List Call) (ds : List Deed) (a : Running) (c : ℕ) → a.works ≡ [] → (phase_on c made ≡ Answering → ⊥) → IsOrdered s made ds a
    → (phase_on c (made ++ calls_of s ds a) ≡ Awaiting) ⊎ (phase_on c (made ++ calls_of s ds a) ≡ Whole)
    → given c (calls_of s ds a) ≡ replied_all c ds (after_all ds a).node.groups
given_whole s made ds a c none idle ordered ended =
    whole_at (phase_on c (made ++ calls_of s ds a)) (works_on c (after_all ds a).works) (after_all ds a).node.groups (after_all ds a).node.groups
    (given c (calls_of s ds a)) (replied_all c ds (after_all ds a).node.groups) ended
    (subst (λ (x : Standing). Holds x.phase (works_on c (after_all ds a).works) (after_all ds a).node.groups (after_all ds a).node.groups (given c (calls_of s ds a)) (replied_all c ds (after_all ds a).node.groups))
    (sym (stands-then c made (calls_of s ds a) untouched)) (run_holds s made ds a c none idle ordered))
