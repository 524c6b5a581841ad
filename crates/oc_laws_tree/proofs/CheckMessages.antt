-- Check-ins and acknowledgements among messages, before and after a node has sent one more.
use Rattle.std.proofs.Common.{◌≡◌, ℕ, List, [], ◌∷◌, ◌++◌, ◌⊎◌, inl, inr, ap, sym, subst, ⊎_elim}
use Rattle.std.specs.List.{AllByRecursion}
use Rattle.oc_base.specs.declared.cert.Cert.{Cert}
use Rattle.oc_base.specs.declared.rank.Rank.{Rank}
use Rattle.oc_model.specs.declared.message.Body.{Body}
use Rattle.oc_model.specs.declared.message.Body.TheVariants as bodies
use Rattle.oc_model.specs.declared.message.Message.{Message}
use Rattle.oc_model.specs.Numbers.{IsAmong}
use Rattle.oc_model.specs.World.{World}
use Rattle.oc_laws_step.proofs.Merges.{among_left, among_split}
use Rattle.oc_laws_world.proofs.Listed.{all_among, among_either}
use Rattle.oc_laws_world.proofs.Machine.{IsLoose}
use Rattle.oc_laws_tree.specs.Sessions.{HasCheckedInAmong, HasCheckedIn, HasAcknowledgedAmong, HasAcknowledged}

-- a check-in was sent before, or is one of these messages; the same of an acknowledgement
abbrev pub HasCheckedInNow : World → List Message → ℕ → ℕ → ℕ → ℕ → List Cert → Type 0
HasCheckedInNow w ms x y s upto certs = HasCheckedIn w x y s upto certs ⊎ HasCheckedInAmong ms x y s upto certs

abbrev pub HasAcknowledgedNow : World → List Message → ℕ → ℕ → ℕ → ℕ → Type 0
HasAcknowledgedNow w ms y x s upto = HasAcknowledged w y x s upto ⊎ HasAcknowledgedAmong ms y x s upto

-- a message is that check-in; a message is that acknowledgement
abbrev pub IsCheckIn : Message → ℕ → ℕ → ℕ → ℕ → List Cert → Type 0
IsCheckIn m x y s upto certs = (rate number clients : ℕ) × (m ≡ record { from = x; to = y; body = bodies.CheckIn s upto rate number clients certs })

abbrev pub IsAck : Message → ℕ → ℕ → ℕ → ℕ → Type 0
IsAck m y x s upto = (r : Rank) × (ancestors : List ℕ) × (m ≡ record { from = y; to = x; body = bodies.CheckAck s upto r ancestors })

-- a check-in among messages and one more is among them or is the last
pub check_in_split : (ms : List Message) (m : Message) (x y s upto : ℕ) (certs : List Cert) → HasCheckedInAmong (ms ++ m ∷ []) x y s upto certs → HasCheckedInAmong ms x y s upto certs ⊎ IsCheckIn m x y s upto certs
check_in_split ms m x y s upto certs a =
    let said : Message = record { from = x; to = y; body = bodies.CheckIn s upto a.0 a.1 a.2 certs } in
    ⊎_elim (λ (old : IsAmong said ms). inl (a.0, a.1, a.2, old)) (λ (e : m ≡ said). inr (a.0, a.1, a.2, e)) (among_split said m ms a.3)

pub ack_split : (ms : List Message) (m : Message) (y x s upto : ℕ) → HasAcknowledgedAmong (ms ++ m ∷ []) y x s upto → HasAcknowledgedAmong ms y x s upto ⊎ IsAck m y x s upto
ack_split ms m y x s upto a =
    let said : Message = record { from = y; to = x; body = bodies.CheckAck s upto a.0 a.1 } in
    ⊎_elim (λ (old : IsAmong said ms). inl (a.0, a.1, old)) (λ (e : m ≡ said). inr (a.0, a.1, e)) (among_split said m ms a.2)

-- the same where the messages come after those sent before
pub check_in_now : (w : World) (ms : List Message) (m : Message) (x y s upto : ℕ) (certs : List Cert) → HasCheckedInNow w (ms ++ m ∷ []) x y s upto certs
    → HasCheckedInNow w ms x y s upto certs ⊎ IsCheckIn m x y s upto certs
check_in_now w ms m x y s upto certs (inl old) = inl (inl old)
check_in_now w ms m x y s upto certs (inr a) = ⊎_elim (λ h. inl (inr h)) (λ h. inr h) (check_in_split ms m x y s upto certs a)

pub ack_now : (w : World) (ms : List Message) (m : Message) (y x s upto : ℕ) → HasAcknowledgedNow w (ms ++ m ∷ []) y x s upto → HasAcknowledgedNow w ms y x s upto ⊎ IsAck m y x s upto
ack_now w ms m y x s upto (inl old) = inl (inl old)
ack_now w ms m y x s upto (inr a) = ⊎_elim (λ h. inl (inr h)) (λ h. inr h) (ack_split ms m y x s upto a)

-- a message that is no check-in, and one that is no acknowledgement
abbrev pub IsNoCheckIn : Body → Type 0
IsNoCheckIn (bodies.CheckIn seq upto rate number clients certs) = ⊥
IsNoCheckIn body = Unit {0}

abbrev pub IsNoAck : Body → Type 0
IsNoAck (bodies.CheckAck seq upto rank ancestors) = ⊥
IsNoAck body = Unit {0}

-- one more message of another kind adds no check-in
pub check_in_before : (w : World) (ms : List Message) (m : Message) → IsNoCheckIn m.body → (x y s upto : ℕ) (certs : List Cert)
    → HasCheckedInNow w (ms ++ m ∷ []) x y s upto certs → HasCheckedInNow w ms x y s upto certs
check_in_before w ms m none x y s upto certs a = ⊎_elim (λ old. old) (λ (new : IsCheckIn m x y s upto certs). absurd (subst (λ (l : Message). IsNoCheckIn l.body) new.3 none)) (check_in_now w ms m x y s upto certs a)

pub ack_before : (w : World) (ms : List Message) (m : Message) → IsNoAck m.body → (y x s upto : ℕ) → HasAcknowledgedNow w (ms ++ m ∷ []) y x s upto → HasAcknowledgedNow w ms y x s upto
ack_before w ms m none y x s upto a = ⊎_elim (λ old. old) (λ (new : IsAck m y x s upto). absurd (subst (λ (l : Message). IsNoAck l.body) new.2 none)) (ack_now w ms m y x s upto a)

pub ack_among : (ms : List Message) (m : Message) → IsNoAck m.body → (y x s upto : ℕ) → HasAcknowledgedAmong (ms ++ m ∷ []) y x s upto → HasAcknowledgedAmong ms y x s upto
ack_among ms m none y x s upto a = ⊎_elim (λ old. old) (λ (new : IsAck m y x s upto). absurd (subst (λ (l : Message). IsNoAck l.body) new.2 none)) (ack_split ms m y x s upto a)

-- a message of which the tree's laws do not speak
pub loose_no_check_in : (b : Body) → IsLoose b → IsNoCheckIn b
loose_no_check_in (bodies.CheckIn seq upto rate number clients certs) loose = absurd loose
loose_no_check_in b loose = tt

pub loose_no_ack : (b : Body) → IsLoose b → IsNoAck b
loose_no_ack (bodies.CheckAck seq upto rank ancestors) loose = absurd loose
loose_no_ack b loose = tt

-- the number, the place and the certificates of which a check-in or an acknowledgement speaks
abbrev pub number_in : Body → ℕ
number_in (bodies.CheckIn s upto rate number clients certs) = s
number_in (bodies.CheckAck s upto r ancestors) = s
number_in body = 0

abbrev pub place_in : Body → ℕ
place_in (bodies.CheckIn s upto rate number clients certs) = upto
place_in (bodies.CheckAck s upto r ancestors) = upto
place_in body = 0

abbrev pub certs_in : Body → List Cert
certs_in (bodies.CheckIn s upto rate number clients certs) = certs
certs_in body = []

-- a message that is this check-in has its number, its place and its certificates
pub check_in_says : (m : Message) (x y s upto : ℕ) (certs : List Cert) → IsCheckIn m x y s upto certs → (number_in m.body ≡ s) × (place_in m.body ≡ upto) × (certs_in m.body ≡ certs)
check_in_says m x y s upto certs e = (ap (λ (l : Message). number_in l.body) e.3, ap (λ (l : Message). place_in l.body) e.3, ap (λ (l : Message). certs_in l.body) e.3)

-- the check-in that an acknowledgement answers, with the values of the acknowledgement
pub answers : (w : World) (m : Message) (certs : List Cert) (y z s upto : ℕ) → HasCheckedIn w m.to m.from (number_in m.body) (place_in m.body) certs → IsAck m y z s upto → HasCheckedIn w z y s upto certs
answers w m certs y z s upto sent e = subst (λ (l : Message). HasCheckedIn w l.to l.from (number_in l.body) (place_in l.body) certs) e.2 sent

-- the sender of these messages, where one node sent all of them
pub check_in_own : (x : ℕ) (ms : List Message) → AllByRecursion (λ m. m.from ≡ x) ms → (y z s upto : ℕ) (certs : List Cert) → HasCheckedInAmong ms y z s upto certs → y ≡ x
check_in_own x ms own y z s upto certs a = all_among (λ (m : Message). m.from ≡ x) ms (record { from = y; to = z; body = bodies.CheckIn s upto a.0 a.1 a.2 certs }) own a.3

pub ack_own : (x : ℕ) (ms : List Message) → AllByRecursion (λ m. m.from ≡ x) ms → (y z s upto : ℕ) → HasAcknowledgedAmong ms y z s upto → y ≡ x
ack_own x ms own y z s upto a = all_among (λ (m : Message). m.from ≡ x) ms (record { from = y; to = z; body = bodies.CheckAck s upto a.0 a.1 }) own a.2

-- sent messages stay sent, and each message in the net was sent before or now
pub check_in_later : (w : World) (ms net : List Message) → net ≡ w.net ++ ms → (x y s upto : ℕ) (certs : List Cert) → HasCheckedIn w x y s upto certs → HasCheckedInAmong net x y s upto certs
check_in_later w ms net e x y s upto certs a =
    let said : Message = record { from = x; to = y; body = bodies.CheckIn s upto a.0 a.1 a.2 certs } in
    (a.0, a.1, a.2, subst (λ (l : List Message). IsAmong said l) (sym e) (among_left said w.net ms a.3))

pub check_in_either : (w : World) (ms net : List Message) → net ≡ w.net ++ ms → (x y s upto : ℕ) (certs : List Cert) → HasCheckedInAmong net x y s upto certs → HasCheckedInNow w ms x y s upto certs
check_in_either w ms net e x y s upto certs a =
    let said : Message = record { from = x; to = y; body = bodies.CheckIn s upto a.0 a.1 a.2 certs } in
    ⊎_elim (λ (old : IsAmong said w.net). inl (a.0, a.1, a.2, old)) (λ (new : IsAmong said ms). inr (a.0, a.1, a.2, new)) (among_either said w.net ms (subst (λ (l : List Message). IsAmong said l) e a.3))

pub ack_either : (w : World) (ms net : List Message) → net ≡ w.net ++ ms → (y x s upto : ℕ) → HasAcknowledgedAmong net y x s upto → HasAcknowledgedNow w ms y x s upto
ack_either w ms net e y x s upto a =
    let said : Message = record { from = y; to = x; body = bodies.CheckAck s upto a.0 a.1 } in
    ⊎_elim (λ (old : IsAmong said w.net). inl (a.0, a.1, old)) (λ (new : IsAmong said ms). inr (a.0, a.1, new)) (among_either said w.net ms (subst (λ (l : List Message). IsAmong said l) e a.2))
