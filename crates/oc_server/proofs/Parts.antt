-- Parts of a turn, one after another.
use Rattle.std.proofs.Common.{◌≡◌, ℕ, false, Option, List, [], ◌∷◌, ◌++◌, refl, sym, ap, subst, ◌∙◌}
use Rattle.oc_link.specs.declared.call.Call.{Call}
use Rattle.oc_link.specs.declared.counts.LinkCounts.{LinkCounts}
use Rattle.oc_io.specs.DiskView.{DiskView}
use Rattle.oc_keep.specs.KeptView.{IsHonest}
use Rattle.oc_deeds.specs.Deeds.{Deed, Running, Setting, after_all}
use Rattle.oc_deeds.specs.Under.{Cuts, IsUnder}
use Rattle.oc_server.specs.Parts.{Does, Stops}
use Rattle.oc_deeds.specs.Parts.{Part, one, ◌>>◌}
use Rattle.oc_server.specs.Scenes.{Breaks, Did, IsServing, running, setting}
use Rattle.oc_deeds.specs.Under.{Under}
use Rattle.oc_deeds.specs.declared.ends.TurnEnd.{TurnEnd}
use Rattle.oc_server.specs.declared.server.Server.{Server}
use Rattle.oc_server.proofs.Scenes.{breaks_first, breaks_then, did_none, did_then, setting_stays, still_honest, still_serving}
use Rattle.oc_deeds.proofs.Cuts.{cuts_behind, cuts_more, cuts_none}

module _ {D L K : Type 0} (view : D → DiskView) (takes fails : K → List ℕ → K → Type 0) (faults : K → ℕ) (story : L → Option (List Call)) (counts : L → LinkCounts) where
  -- Parts that were done

  -- nothing was done
  pub does_nothing : (takes_nothing : (k : K) → takes k [] k) (p : Part) (a : Server D L K) → a.kept.closed ≡ false
      → (IsHonest view a.kept → p (setting a) (running a) ≡ []) → Does view takes faults story counts p a a
  does_nothing takes_nothing p a is_open is =
      record { deeds = []; did = did_none view takes fails faults story counts takes_nothing a is_open; are = λ honest. sym (is honest) }

  -- one deed was done
  pub does_one : (d : Deed) (p : Part) (a b : Server D L K) → (IsHonest view a.kept → p (setting a) (running a) ≡ d ∷ [])
      → Did view takes faults story counts (d ∷ []) a b → Does view takes faults story counts p a b
  does_one d p a b is did = record { deeds = d ∷ []; did = did; are = λ honest. sym (is honest) }

  -- the node after a part
  pub behind_part : (p : Part) (a b : Server D L K) → (does : Does view takes faults story counts p a b) → IsHonest view a.kept
      → running b ≡ after_all (p (setting a) (running a)) (running a)
  behind_part p a b does honest = (does.did.done honest).after ∙ ap (λ (ds : List Deed). after_all ds (running a)) (does.are honest)

  -- the deeds of a part after another
  deeds_behind : (p q : Part) (a b : Server D L K) → Does view takes faults story counts p a b → IsHonest view a.kept
      → q (setting b) (running b) ≡ q (setting a) (after_all (p (setting a) (running a)) (running a))
  deeds_behind p q a b does honest =
      ap (λ (s : Setting). q s (running b)) (setting_stays view takes fails faults story counts a b does.did.same does.did.log)
      ∙ ap (λ (r : Running). q (setting a) r) (behind_part p a b does honest)

  -- one part after another, where the second was decided by the facts at its beginning
  pub does_after : (takes_then : (a b c : K) (x y : List ℕ) → takes a x b → takes b y c → takes a (x ++ y) c) (p q r : Part) (a b c : Server D L K)
      → Does view takes faults story counts p a b → (IsHonest view a.kept → r (setting b) (running b) ≡ q (setting b) (running b))
      → Does view takes faults story counts r b c → Does view takes faults story counts (p >> q) a c
  does_after takes_then p q r a b c first same second = record {
    deeds = first.deeds ++ second.deeds;
    did = did_then view takes fails faults story counts takes_then first.deeds second.deeds a b c first.did second.did;
    are = λ honest.
        ap (λ (ds : List Deed). ds ++ second.deeds) (first.are honest)
        ∙ ap (λ (es : List Deed). p (setting a) (running a) ++ es)
        (second.are (still_honest view takes fails faults story counts first.deeds a b first.did honest) ∙ same honest ∙ deeds_behind p q a b first honest);
  }

  -- one part after another
  pub does_then : (takes_then : (a b c : K) (x y : List ℕ) → takes a x b → takes b y c → takes a (x ++ y) c) (p q : Part) (a b c : Server D L K)
      → Does view takes faults story counts p a b → Does view takes faults story counts q b c → Does view takes faults story counts (p >> q) a c
  does_then takes_then p q a b c first second = does_after takes_then p q q a b c first (λ honest. refl) second

  -- a part is done where another with the same deeds is
  pub does_as : (p q : Part) (a b : Server D L K) → (IsHonest view a.kept → q (setting a) (running a) ≡ p (setting a) (running a))
      → Does view takes faults story counts p a b → Does view takes faults story counts q a b
  does_as p q a b same does = record { deeds = does.deeds; did = does.did; are = λ honest. does.are honest ∙ sym (same honest) }

  -- the facts between any two calls hold after a part
  pub does_serve : (p : Part) (a b : Server D L K) → Does view takes faults story counts p a b → IsServing a → IsServing b
  does_serve p a b does serving = still_serving view takes fails faults story counts does.deeds a b does.did serving

  pub does_honest : (p : Part) (a b : Server D L K) → Does view takes faults story counts p a b → IsHonest view a.kept → IsHonest view b.kept
  does_honest p a b does honest = still_honest view takes fails faults story counts does.deeds a b does.did honest

  -- Parts that ended partway through

  -- a part that stops at once
  pub stops_first : (takes_nothing : (k : K) → takes k [] k) (end : TurnEnd) (under : Under) (p : Part) (a c : Server D L K) → a.kept.closed ≡ false
      → (IsHonest view a.kept → IsUnder under (p (setting a) (running a))) → Breaks view takes fails faults story counts end under a c
      → Stops view takes fails faults story counts end p a c
  stops_first takes_nothing end under p a c is_open is breaks = record {
    deeds = [];
    under = under;
    breaks = breaks_first view takes fails faults story counts takes_nothing under end a c is_open breaks;
    cut = λ honest. cuts_none (p (setting a) (running a)) under (is honest);
  }

  -- a part that stops in the first of two parts
  pub stops_in : (end : TurnEnd) (p q : Part) (a c : Server D L K) → Stops view takes fails faults story counts end p a c
      → Stops view takes fails faults story counts end (p >> q) a c
  stops_in end p q a c stops = record {
    deeds = stops.deeds;
    under = stops.under;
    breaks = stops.breaks;
    cut = λ honest. cuts_more (p (setting a) (running a)) (q (setting a) (after_all (p (setting a) (running a)) (running a))) stops.deeds stops.under (stops.cut honest);
  }

  cut_after : (end : TurnEnd) (p q r : Part) (a b c : Server D L K) → (does : Does view takes faults story counts p a b) → (IsHonest view a.kept → r (setting b) (running b) ≡ q (setting b) (running b))
      → (stops : Stops view takes fails faults story counts end r b c) → IsHonest view a.kept → Cuts ((p >> q) (setting a) (running a)) (does.deeds ++ stops.deeds) stops.under
  cut_after end p q r a b c does same stops honest =
      subst (λ (ds : List Deed). Cuts ((p >> q) (setting a) (running a)) (ds ++ stops.deeds) stops.under) (sym (does.are honest))
      (cuts_behind (p (setting a) (running a)) (q (setting a) (after_all (p (setting a) (running a)) (running a))) stops.deeds stops.under
      (subst (λ (ds : List Deed). Cuts ds stops.deeds stops.under) (same honest ∙ deeds_behind p q a b does honest) (stops.cut (does_honest p a b does honest))))

  -- a part that stops in the second of two parts, where the second was decided by the facts at its beginning
  pub stops_after : (takes_then : (a b c : K) (x y : List ℕ) → takes a x b → takes b y c → takes a (x ++ y) c) (end : TurnEnd) (p q r : Part) (a b c : Server D L K)
      → Does view takes faults story counts p a b → (IsHonest view a.kept → r (setting b) (running b) ≡ q (setting b) (running b))
      → Stops view takes fails faults story counts end r b c → Stops view takes fails faults story counts end (p >> q) a c
  stops_after takes_then end p q r a b c does same stops = record {
    deeds = does.deeds ++ stops.deeds;
    under = stops.under;
    breaks = breaks_then view takes fails faults story counts takes_then does.deeds stops.deeds stops.under end a b c does.did stops.breaks;
    cut = λ honest. cut_after end p q r a b c does same stops honest;
  }

  -- a part that stops after its first deed, in the rest of the part
  pub one_then : (takes_then : (a b c : K) (x y : List ℕ) → takes a x b → takes b y c → takes a (x ++ y) c) (end : TurnEnd) (d : Deed) (p q r : Part) (a b c : Server D L K)
      → Did view takes faults story counts (d ∷ []) a b → (IsHonest view a.kept → p (setting a) (running a) ≡ (one d >> q) (setting a) (running a)) → (IsHonest view a.kept → r (setting b) (running b) ≡ q (setting b) (running b))
      → (stops : Stops view takes fails faults story counts end r b c) → (whole : Stops view takes fails faults story counts end p a c) × (whole.deeds ≡ d ∷ stops.deeds)
  one_then takes_then end d p q r a b c did is same stops = (
    record {
      deeds = d ∷ stops.deeds;
      under = stops.under;
      breaks = breaks_then view takes fails faults story counts takes_then (d ∷ []) stops.deeds stops.under end a b c did stops.breaks;
      cut = λ honest.
          subst (λ (ds : List Deed). Cuts ds (d ∷ stops.deeds) stops.under) (sym (is honest))
          (cut_after end (one d) q r a b c (record { deeds = d ∷ []; did = did; are = λ h. refl }) same stops honest);
    },
    refl,
  )

  -- a part that stops in the second of two parts
  pub stops_behind : (takes_then : (a b c : K) (x y : List ℕ) → takes a x b → takes b y c → takes a (x ++ y) c) (end : TurnEnd) (p q : Part) (a b c : Server D L K)
      → Does view takes faults story counts p a b → Stops view takes fails faults story counts end q b c
      → Stops view takes fails faults story counts end (p >> q) a c
  stops_behind takes_then end p q a b c does stops = stops_after takes_then end p q q a b c does (λ honest. refl) stops

  -- a part ends partway through where another with the same deeds does
  pub stops_as : (end : TurnEnd) (p q : Part) (a c : Server D L K) → (IsHonest view a.kept → q (setting a) (running a) ≡ p (setting a) (running a))
      → Stops view takes fails faults story counts end p a c → Stops view takes fails faults story counts end q a c
  stops_as end p q a c same stops = record {
    deeds = stops.deeds;
    under = stops.under;
    breaks = stops.breaks;
    cut = λ honest. subst (λ (ds : List Deed). Cuts ds stops.deeds stops.under) (sym (same honest)) (stops.cut honest);
  }
