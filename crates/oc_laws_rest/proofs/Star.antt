-- A star that forms under m: what holds while messages arrive.
use Rattle.std.proofs.Common.{◌≡◌, ℕ, ◌+◌, ◌≤◌, ◌<◌, max, Bool, true, Option, Some, None, List, [], ◌∷◌, ◌++◌, ◌⊎◌, inl, inr, length, refl, ap, sym, subst, ◌∙◌, ⊎_elim, arith, length-append, append_assoc}
use Rattle.std.specs.List.{AllByRecursion}
use Rattle.std.proofs.lemmas.Bool.{cases_eq}
use Rattle.oc_base.specs.declared.cert.Cert.{Cert}
use Rattle.oc_base.specs.declared.cert.Child.{Child}
use Rattle.oc_base.specs.declared.rank.Rank.{Rank}
use Rattle.oc_base.specs.declared.shelf.Shelf.{Shelf}
use Rattle.oc_model.specs.declared.message.Body.{Body}
use Rattle.oc_model.specs.declared.message.Body.TheVariants.{Look, LookIs, Ask, Yes, CheckIn, CheckAck, Fetch}
use Rattle.oc_model.specs.declared.message.Message.{Message}
use Rattle.oc_model.specs.declared.mode.Mode.TheVariants.{Acting}
use Rattle.oc_model.specs.declared.soft.Soft.{Soft}
use Rattle.oc_model.specs.ClaimsTree.{table_of, seq_of}
use Rattle.oc_model.specs.Node.{Header, Node}
use Rattle.oc_model.specs.World.{World, Process, process, is_up, mode_of, message_at}
use Rattle.oc_model.specs.WorldBounds.{IsOneOf}
use Rattle.oc_model.proofs.Lists.{all_weaker, all_append}
use Rattle.oc_laws_rest.proofs.Forms.{root_node, Going, rising_node, looking_node, idle_node, asking_node, joined_node, top, letter, search_of, AreEarlier, AreMembers, LooksEarlier}
use Rattle.oc_laws_rest.proofs.Moves.{Is, Turned, Waits, AreSent, waits_on}
use Rattle.oc_laws_rest.proofs.Rows.{IsLeaf, Row, AreRows, end_of}

-- a message has one kind
abbrev pub tag : Body → ℕ
tag Look = 0
tag (LookIs is_in parent rate children) = 1
tag (Ask seq rank) = 2
tag (Yes seq rank ancestors) = 3
tag (CheckIn seq upto rate number clients certs) = 4
tag (CheckAck seq upto rank ancestors) = 5
tag body = 6

-- the greater of the two ends of a message, which tells of whom it is: nodes past the chain send to chain members, and these to them
abbrev pub greater : Message → ℕ
greater s = max s.from s.to

-- What each process was, it is

-- the table of m has the lease of x
abbrev pub HasRow : ℕ → World → ℕ → Type 0
HasRow m w x = Row m (table_of w m) x

abbrev pub Acts : ℕ → World → Type 0
Acts m w = mode_of w m ≡ Acting

-- x has asked once
abbrev pub HasAsked : World → ℕ → Type 0
HasAsked w x = seq_of w x ≡ 1

-- rows stay, and come only for nodes that have asked; a root stays so
pub record Keeps (m : ℕ) (w v : World) : Type 0 where
  pub rows : (y : ℕ) → HasRow m w y → HasRow m v y
  pub fewer : (y : ℕ) → HasRow m v y → HasRow m w y ⊎ HasAsked w y
  pub acts : Acts m w → Acts m v
  pub asked : (y : ℕ) → (m ≡ y → ⊥) → HasAsked w y → HasAsked v y

module _ (h : Header) (up : ℕ → Bool) (m : ℕ) (within : m ≤ h.chain) (Early : Type 0) where
  -- m is no node past the chain
  pub top_apart : (y : ℕ) → IsLeaf h up y → m ≡ y → ⊥
  top_apart y leaf e = omega (arith, within, leaf.past, e)

  -- Messages of and to x

  abbrev pub LooksAt : ℕ → ℕ → Message → Type 0
  LooksAt x p s = s ≡ letter x p Look

  -- a position of m, which is in the tree but for the first round
  pub record Sees (x : ℕ) (s : Message) : Type 0 where
    pub in_tree : Bool
    pub rate : ℕ
    pub children : List Child
    pub when : (in_tree ≡ true) ⊎ Early
    pub is : s ≡ letter m x (LookIs in_tree None rate children)

  abbrev pub AsksFor : ℕ → Message → Type 0
  AsksFor x s = s ≡ letter x m (Ask 1 None)

  abbrev pub Accepts : ℕ → Message → Type 0
  Accepts x s = (e : ℕ) × (s ≡ letter m x (Yes 1 (top e) []))

  abbrev pub ChecksIn : ℕ → Message → Type 0
  ChecksIn x s = (rate : ℕ) × (s ≡ letter x m (CheckIn 1 0 rate 0 0 []))

  abbrev pub Acks : ℕ → Message → Type 0
  Acks x s = (e : ℕ) × (s ≡ letter m x (CheckAck 1 0 (top e) []))

  abbrev pub Fetches : ℕ → Message → Type 0
  Fetches x s = (have : List Shelf) × (s ≡ letter x m (Fetch have))

  -- m asks p
  abbrev pub RootAsks : ℕ → Message → Type 0
  RootAsks p s = (q : ℕ) × (s ≡ letter m p (Ask q None))

  -- The nodes

  pub record Looks (w : World) (old : ℕ) (done : List ℕ) (x : ℕ) : Type 0 where
    pub target : ℕ
    pub going : Going
    pub is : Is w x (looking_node h x target going)
    pub members : AreMembers h.chain (target ∷ going.tries)
    pub hope : Early ⊎ IsOneOf m (target ∷ going.tries)
    pub none : HasRow m w x → ⊥
    pub waits : Waits w old done (LooksAt x target) ⊎ ((target ≡ m) × Waits w old done (Sees x))

  pub record Idles (w : World) (x : ℕ) : Type 0 where
    pub going : Going
    pub is : Is w x (idle_node h x going)
    pub none : HasRow m w x → ⊥
    pub early : Early

  pub record Asks (w : World) (old : ℕ) (done : List ℕ) (x : ℕ) : Type 0 where
    pub going : Going
    pub is : Is w x (asking_node h m x going)
    pub waits : Waits w old done (AsksFor x) ⊎ Waits w old done (Accepts x)

  pub record Joins (w : World) (x : ℕ) : Type 0 where
    pub going : Going
    pub rank : Rank
    pub review : Bool
    pub is : Is w x (joined_node h m x going rank (search_of review))
    pub row : HasRow m w x

  -- a node past the chain looks for a place, found none for now, asks m, or is its child
  abbrev pub LeafIs : World → ℕ → List ℕ → ℕ → Type 0
  LeafIs w old done x = Looks w old done x ⊎ (Idles w x ⊎ (Asks w old done x ⊎ Joins w x))

  -- m is the root
  pub record RootIs (w : World) : Type 0 where
    pub asks : ℕ
    pub epoch : ℕ
    pub table : List Cert
    pub soft : Soft
    pub ends : List (Option ℕ)
    pub rates : List ℕ
    pub is : Is w m (root_node h m asks epoch table soft ends rates)
    pub search : soft.search ≡ None
    pub some : 1 ≤ epoch
    pub rows : AreRows h up m table
    pub size : length ends ≡ h.nodes

  -- m asks the earlier members
  pub record Rising (w : World) (old : ℕ) (done : List ℕ) : Type 0 where
    pub asks : ℕ
    pub peer : ℕ
    pub going : Going
    pub is : Is w m (rising_node h m asks peer going)
    pub silent : going.silent ≡ true
    pub earlier : AreEarlier m (peer ∷ going.tries)
    pub few : asks + length going.tries ≤ 64
    pub early : Early
    pub waits : Waits w old done (RootAsks peer)

  -- each lease was renewed, or its check-in still has to arrive
  abbrev pub AreFresh : (w : World) → ℕ → List ℕ → RootIs w → Type 0
  AreFresh w old done r = (y : ℕ) → IsLeaf h up y → Row m r.table y → (end_of r.ends y ≡ Some (r.soft.clock + 30)) ⊎ Waits w old done (ChecksIn y)

  abbrev pub TopIs : World → ℕ → List ℕ → Type 0
  TopIs w old done = ((r : RootIs w) × AreFresh w old done r) ⊎ Rising w old done

  -- The messages

  -- x looks at p
  pub record LooksSomewhere (x : ℕ) (s : Message) : Type 0 where
    pub target : ℕ
    pub least : 1 ≤ target
    pub most : target ≤ h.chain
    pub is : LooksAt x target s

  abbrev pub IsSaid : World → ℕ → Message → Type 0
  IsSaid w x s =
      LooksSomewhere x s ⊎ (((e : Sees x s) × (e.in_tree ≡ true → Acts m w)) ⊎ ((AsksFor x s × Acts m w × HasAsked w x) ⊎ ((Accepts x s × HasRow m w x) ⊎ ((ChecksIn x s × HasRow m w x) ⊎ (Acks x s ⊎ (Fetches x s × Acts m w))))))

  pub record OfLeaf (w : World) (s : Message) : Type 0 where
    pub node : ℕ
    pub leaf : IsLeaf h up node
    pub said : IsSaid w node s

  -- m asks an earlier member
  pub record OfTop (s : Message) : Type 0 where
    pub peer : ℕ
    pub least : 1 ≤ peer
    pub most : peer < m
    pub is : RootAsks peer s

  -- a message that is sent in a star
  abbrev pub IsKnown : World → Message → Type 0
  IsKnown w s = OfLeaf w s ⊎ (OfTop s ⊎ (LooksEarlier m s × Acts m w))

  pub known_on : (w v : World) → Keeps m w v → (s : Message) → IsKnown w s → IsKnown v s
  known_on w v keeps s (inl known) = inl record { node = known.node; leaf = known.leaf; said = by_kind known.said } where
    by_kind : IsSaid w known.node s → IsSaid v known.node s
    by_kind (inl a) = inl a
    by_kind (inr (inl a)) = inr (inl (a.0, λ e. keeps.acts (a.1 e)))
    by_kind (inr (inr (inl a))) = inr (inr (inl (a.0, keeps.acts a.1, keeps.asked known.node (top_apart known.node known.leaf) a.2)))
    by_kind (inr (inr (inr (inl a)))) = inr (inr (inr (inl (a.0, keeps.rows known.node a.1))))
    by_kind (inr (inr (inr (inr (inl a))))) = inr (inr (inr (inr (inl (a.0, keeps.rows known.node a.1)))))
    by_kind (inr (inr (inr (inr (inr (inl a)))))) = inr (inr (inr (inr (inr (inl a)))))
    by_kind (inr (inr (inr (inr (inr (inr a)))))) = inr (inr (inr (inr (inr (inr (a.0, keeps.acts a.1))))))
  known_on w v keeps s (inr (inl known)) = inr (inl known)
  known_on w v keeps s (inr (inr known)) = inr (inr (known.0, keeps.acts known.1))

  -- what holds while messages arrive; these have arrived, and those past the front were sent in this round
  pub record Arriving (w : World) (front : List Message) (done : List ℕ) : Type 0 where
    pub ups : (y : ℕ) → is_up w y ≡ up y
    pub root : TopIs w (length front) done
    pub leaves : (y : ℕ) → IsLeaf h up y → LeafIs w (length front) done y
    pub later : List Message
    pub net : w.net ≡ front ++ later
    pub known : AllByRecursion (IsKnown w) later
    pub sent : AreSent w done

  pub ups_on : (w v : World) (z : ℕ) (n k : Node) (ms : List Message) → Is w z n → Turned w z k ms v → (y : ℕ) → is_up v y ≡ is_up w y
  ups_on w v z n k ms is turn y = ⊎_elim
      (λ (same : z ≡ y). subst (λ (u : ℕ). is_up v u ≡ is_up w u) same (ap (λ (p : Process). p.up) turn.here ∙ sym (ap (λ (p : Process). p.up) is)))
      (λ apart. ap (λ (p : Process). p.up) (turn.others y apart))
      (cases_eq z y)

  -- a node that has not asked has no row later
  pub none_on : (w v : World) → Keeps m w v → (y : ℕ) → seq_of w y ≡ 0 → (HasRow m w y → ⊥) → HasRow m v y → ⊥
  none_on w v keeps y zero_seq none row = ⊎_elim none (λ asked. let clash : 0 ≡ 1 = sym zero_seq ∙ asked in omega (arith, clash)) (keeps.fewer y row)

  -- One message arrives

  module _ (w v : World) (old : ℕ) (done : List ℕ) (k : ℕ) (s : Message) (ms : List Message) (found : message_at w.net k ≡ Some s) (net : v.net ≡ w.net ++ ms) (keeps : Keeps m w v) where
    pub on : (P : Message → Type 0) → Waits w old done P → Waits v old (k ∷ done) P ⊎ P s
    on P waits = waits_on w v old done P ms k s net found waits

    pub joins_stay : (y : ℕ) → process v y ≡ process w y → Joins w y → Joins v y
    joins_stay y same joins = record { going = joins.going; rank = joins.rank; review = joins.review; is = same ∙ joins.is; row = keeps.rows y joins.row }

    pub idles_stay : (y : ℕ) → process v y ≡ process w y → Idles w y → Idles v y
    idles_stay y same idles = record {
      going = idles.going;
      is = same ∙ idles.is;
      none = none_on w v keeps y (ap (λ (p : Process). p.node.control.kept.seq) idles.is) idles.none;
      early = idles.early;
    }

    -- a node that did not change looks on
    pub looks_stay : (y : ℕ) → process v y ≡ process w y → (l : Looks w old done y) → Waits v old (k ∷ done) (LooksAt y l.target) ⊎ ((l.target ≡ m) × Waits v old (k ∷ done) (Sees y)) → Looks v old (k ∷ done) y
    looks_stay y same l waits = record {
      target = l.target;
      going = l.going;
      is = same ∙ l.is;
      members = l.members;
      hope = l.hope;
      none = none_on w v keeps y (ap (λ (p : Process). p.node.control.kept.seq) l.is) l.none;
      waits = waits;
    }

    -- a node that did not change waits on, unless that was the message for which it waits
    pub leaf_stays : (y : ℕ) → process v y ≡ process w y → LeafIs w old done y
        → ((l : Looks w old done y) → LooksAt y l.target s → Waits v old (k ∷ done) (LooksAt y l.target) ⊎ ((l.target ≡ m) × Waits v old (k ∷ done) (Sees y)))
        → ((l : Looks w old done y) → l.target ≡ m → Sees y s → ⊥)
        → (AsksFor y s → Waits v old (k ∷ done) (AsksFor y) ⊎ Waits v old (k ∷ done) (Accepts y)) → (Accepts y s → ⊥)
        → LeafIs v old (k ∷ done) y
    leaf_stays y same (inl l) looked seen asked accepted =
        inl (looks_stay y same l (⊎_elim
        (λ a. ⊎_elim (λ b. inl b) (looked l) (on (LooksAt y l.target) a))
        (λ a. ⊎_elim (λ b. inr (a.0, b)) (λ b. absurd (seen l a.0 b)) (on (Sees y) a.1))
        l.waits))
    leaf_stays y same (inr (inl idles)) looked seen asked accepted = inr (inl (idles_stay y same idles))
    leaf_stays y same (inr (inr (inl asks))) looked seen asked accepted = inr (inr (inl record {
      going = asks.going;
      is = same ∙ asks.is;
      waits = ⊎_elim
          (λ a. ⊎_elim (λ b. inl b) asked (on (AsksFor y) a))
          (λ a. ⊎_elim (λ b. inr b) (λ b. absurd (accepted b)) (on (Accepts y) a))
          asks.waits;
    }))
    leaf_stays y same (inr (inr (inr joins))) looked seen asked accepted = inr (inr (inr (joins_stay y same joins)))

    -- a message of another node changes nothing here
    pub other_stays : (z y : ℕ) → IsLeaf h up y → greater s ≡ z → (z ≡ y → ⊥) → process v y ≡ process w y → LeafIs w old done y → LeafIs v old (k ∷ done) y
    other_stays z y is of_z apart same leaf =
        leaf_stays y same leaf
        (λ l e. let low = l.members l.target (inl refl) in absurd (apart (omega (arith, of_z, ap greater e, low.1, is.past))))
        (λ l at_m e. apart (omega (arith, of_z, ap greater e.is, within, is.past)))
        (λ e. absurd (apart (omega (arith, of_z, ap greater e, within, is.past))))
        (λ e. apart (omega (arith, of_z, ap greater e.1, within, is.past)))

    -- the root stays as it is
    pub root_stays : RootIs w → process v m ≡ process w m → RootIs v
    root_stays r same = record {
      asks = r.asks;
      epoch = r.epoch;
      table = r.table;
      soft = r.soft;
      ends = r.ends;
      rates = r.rates;
      is = same ∙ r.is;
      search = r.search;
      some = r.some;
      rows = r.rows;
      size = r.size;
    }

    pub fresh_stays : (r : RootIs w) → AreFresh w old done r → (same : process v m ≡ process w m) → ((y : ℕ) → ChecksIn y s → ⊥) → AreFresh v old (k ∷ done) (root_stays r same)
    unfolding root_stays
    fresh_stays r fresh same none y leaf row = ⊎_elim (λ a. inl a) (λ a. ⊎_elim (λ b. inr b) (λ b. absurd (none y b)) (on (ChecksIn y) a)) (fresh y leaf row)

    pub top_stays : TopIs w old done → process v m ≡ process w m → ((y : ℕ) → ChecksIn y s → ⊥) → ((r : Rising w old done) → RootAsks r.peer s → ⊥) → TopIs v old (k ∷ done)
    top_stays (inl (r, fresh)) same none asked = inl (root_stays r same, fresh_stays r fresh same none)
    top_stays (inr r) same none asked = inr record {
      asks = r.asks;
      peer = r.peer;
      going = r.going;
      is = same ∙ r.is;
      silent = r.silent;
      earlier = r.earlier;
      few = r.few;
      early = r.early;
      waits = ⊎_elim (λ b. b) (λ b. absurd (asked r b)) (on (RootAsks r.peer) r.waits);
    }

  -- the whole, from its parts
  pub assemble : (w v : World) (front : List Message) (done : List ℕ) (k : ℕ) (s : Message) (ms : List Message) → message_at w.net k ≡ Some s → v.net ≡ w.net ++ ms → Keeps m w v
      → Arriving w front done → (z : ℕ) → greater s ≡ z → ((y : ℕ) → is_up v y ≡ is_up w y) → ((y : ℕ) → IsLeaf h up y → (z ≡ y → ⊥) → process v y ≡ process w y)
      → TopIs v (length front) (k ∷ done) → (IsLeaf h up z → LeafIs v (length front) (k ∷ done) z) → AllByRecursion (IsKnown v) ms → k ≤ length w.net → Arriving v front (k ∷ done)
  assemble w v front done k s ms found net keeps a z of_z ups others root leaf new low = record {
    ups = λ y. ups y ∙ a.ups y;
    root = root;
    leaves = λ y is. ⊎_elim
        (λ (same : z ≡ y). subst (LeafIs v (length front) (k ∷ done)) same (leaf (subst (IsLeaf h up) (sym same) is)))
        (λ apart. other_stays w v (length front) done k s ms found net keeps z y is of_z apart (others y is apart) (a.leaves y is))
        (cases_eq z y);
    later = a.later ++ ms;
    net = net ∙ (ap (λ (all : List Message). all ++ ms) a.net ∙ append_assoc front a.later ms);
    known = all_append (IsKnown v) a.later ms (all_weaker (IsKnown w) (IsKnown v) (known_on w v keeps) a.later a.known) new;
    sent = λ j one. longer j (⊎_elim (λ (e : j ≡ k). subst (λ (i : ℕ). i ≤ length w.net) (sym e) low) (a.sent j) one);
  } where
    longer : (j : ℕ) → j ≤ length w.net → j ≤ length v.net
    longer j few = omega (arith, few, ap length net, length-append w.net ms)
