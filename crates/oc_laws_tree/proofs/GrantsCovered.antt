-- Known facts are covered facts: a row that is even with a fact is that fact, since one ask number has one peer and one own
-- number one count.
use Rattle.std.proofs.Common.{◌≡◌, ℕ, Bool, inl, inr, refl, ap, ap₂, ◌∙◌}
use Rattle.oc_base.specs.declared.cert.Cert.{Cert}
use Rattle.oc_model.specs.declared.message.Body.TheVariants as bodies
use Rattle.oc_model.specs.Adopting.{birth}
use Rattle.oc_model.specs.Certificates.{IsCovered}
use Rattle.oc_model.specs.ClaimsTree.{table_of, seq_of}
use Rattle.oc_model.specs.Numbers.{IsAmong}
use Rattle.oc_model.specs.World.{World}
use Rattle.oc_laws_step.specs.Order.{AreEven}
use Rattle.oc_laws_world.specs.Numbers.{HasAsked, IsAnywhere, GoesWith, HaveOnePeer}
use Rattle.oc_laws_world.proofs.Listed.{all_among}
use Rattle.oc_laws_world.proofs.NumbersKept.{IsAskedSend, NumbersHold, one_peer}
use Rattle.oc_laws_tree.specs.Clients.{HaveOneCount, ZeroCountsNone}
use Rattle.oc_laws_tree.specs.Grants.{HasSaidYes, FactsAreGranted, YesesAreGranted, ParentsAreGranted}
use Rattle.oc_laws_tree.proofs.Known.{Knows, covered_known}
use Rattle.oc_laws_tree.proofs.GrantsKept.{GrantsHold, facts_granted, yes_granted, joined_granted}

-- a fact with the parts of another fact is that fact
same_fact : (k f : Cert) → k.subject ≡ f.subject → AreEven k f → k.parent ≡ f.parent → k.clients ≡ f.clients → k ≡ f
same_fact k f subject even parent clients =
    ap (λ (x : ℕ). of_parts x k.seq k.parent k.dead k.number k.clients) subject
    ∙ ap₂ (λ (s : ℕ) (d : Bool). of_parts f.subject s k.parent d k.number k.clients) even.0 even.1
    ∙ ap₂ (λ (y n : ℕ). of_parts f.subject f.seq y f.dead n k.clients) parent even.2
    ∙ ap (λ (c : ℕ). of_parts f.subject f.seq f.parent f.dead f.number c) clients where
      of_parts : ℕ → ℕ → ℕ → Bool → ℕ → ℕ → Cert
      of_parts x s y d n c = record { subject = x; seq = s; parent = y; dead = d; number = n; clients = c }

-- a table covers each fact that it knows, if the fact is anywhere
pub fact_covered : (w : World) → HaveOnePeer w → HaveOneCount w → (y : ℕ) (f : Cert) → IsAnywhere w f → Knows (table_of w y) f → IsCovered (table_of w y) f
fact_covered w peers counts y f anywhere known = covered_known (table_of w y) f same known where
  same : (k : Cert) → IsAmong k (table_of w y) → k.subject ≡ f.subject → AreEven k f → k ≡ f
  same k among subject even =
      let peer : k.parent ≡ f.parent = peers f.subject f.seq k.parent f.parent (inr (inr (k, inl (y, among), subject, even.0, refl))) (inr (inr (f, anywhere, refl, refl, refl))) in
      let count : k.clients ≡ f.clients = counts f.subject f.number k.clients f.clients (inr (inr (k, inl (y, among), subject, even.2, refl))) (inr (inr (f, anywhere, refl, refl, refl))) in
      same_fact k f subject even peer count

-- a table covers each lease at its beginning that it knows, if the number of the lease goes with its parent
pub birth_covered : (w : World) → HaveOnePeer w → ZeroCountsNone w → (z x s y : ℕ) → GoesWith w x s y → Knows (table_of w z) (birth x s y) → IsCovered (table_of w z) (birth x s y)
birth_covered w peers counts z x s y goes known = covered_known (table_of w z) (birth x s y) same known where
  same : (k : Cert) → IsAmong k (table_of w z) → k.subject ≡ x → AreEven k (birth x s y) → k ≡ birth x s y
  same k among subject even =
      let peer : k.parent ≡ y = peers x s k.parent y (inr (inr (k, inl (z, among), subject, even.0, refl))) goes in
      let count : k.clients ≡ 0 = counts x k.clients (inr (inr (k, inl (z, among), subject, even.2, refl))) in
      same_fact k (birth x s y) subject even peer count

-- an ask that got a yes was sent
pub yes_asked : (w : World) → NumbersHold w → (y x s : ℕ) → HasSaidYes w y x s → HasAsked w x s y
yes_asked w holds y x s said = all_among (λ m. IsAskedSend w m m.body) w.net (record { from = y; to = x; body = bodies.Yes s said.0 said.1 }) holds.told said.2

-- The law of grants in terms of covered facts

pub grants_covered : (w : World) → HaveOnePeer w → HaveOneCount w → GrantsHold w → FactsAreGranted w
grants_covered w peers counts holds f anywhere = fact_covered w peers counts f.parent f anywhere (facts_granted w holds f anywhere)

pub yeses_covered : (w : World) → NumbersHold w → ZeroCountsNone w → GrantsHold w → YesesAreGranted w
yeses_covered w numbers counts holds y x s said = birth_covered w (one_peer w numbers) counts y x s y (inr (inl (yes_asked w numbers y x s said))) (yes_granted w holds y x s said)

pub parents_covered : (w : World) → HaveOnePeer w → ZeroCountsNone w → GrantsHold w → ParentsAreGranted w
parents_covered w peers counts holds x y joined = birth_covered w peers counts y x (seq_of w x) y (inl (refl, inr joined)) (joined_granted w holds x y joined)
