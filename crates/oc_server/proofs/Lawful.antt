-- What is lawful of servers.
use Rattle.std.proofs.Common.{◌≡◌, ◌≤◌, ◌∙◌, ℕ, false, [], length, sym, ap, ap₂, subst}
use Rattle.oc_config.specs.Settings.{Settings}
use Rattle.oc_policy.specs.declared.deciding.TheConstants.{MAX_RULES}
use Rattle.std.specs.List.{AllByRecursion}
use Rattle.oc_keep.specs.Promises.{IsSameNode, IsSameSeat}
use Rattle.oc_model.specs.Node.{Control, Header}
use Rattle.oc_server.specs.Scenes.{IsLawful, IsSet}
use Rattle.oc_deeds.specs.Areas.{areas_among}
use Rattle.oc_deeds.specs.Records.{is_record}
use Rattle.oc_deeds.specs.declared.log.Log.{Log}
use Rattle.oc_deeds.specs.Lawful.{IsLawfulDial, IsLawfulWork, IsPlaced}
use Rattle.oc_deeds.specs.Sending.{AreSendable}
use Rattle.oc_server.specs.declared.server.Server.{Server}

-- the same node is at the same seat
pub seat_of : (old new : Control) → IsSameNode old new → IsSameSeat old new
seat_of old new same = record { me = same.me; header = ap (λ (h : Header). record h { areas = [] }) same.header }

-- a server that is lawful among some nodes is lawful at another moment of the same node
pub lawful_of : {D L K : Type 0} (old new : Server D L K) → IsSameSeat old.kept.node.control new.kept.node.control
    → (AreSendable old.kept.node.control.nodes old.outbox → AreSendable old.kept.node.control.nodes new.outbox)
    → (AllByRecursion (IsLawfulWork old.kept.node.control.nodes old.kept.node.control.me) old.works → AllByRecursion (IsLawfulWork old.kept.node.control.nodes old.kept.node.control.me) new.works)
    → (AllByRecursion (IsLawfulDial old.kept.node.control.nodes) old.dials → AllByRecursion (IsLawfulDial old.kept.node.control.nodes) new.dials)
    → IsLawful old → IsLawful new
lawful_of old new same sends work dial lawful = record {
  sendable = subst (λ (h : Header). AreSendable h.nodes new.outbox) (sym same.header) (sends lawful.sendable);
  works = subst (λ (h : Header). AllByRecursion (IsLawfulWork h.nodes new.kept.node.control.me) new.works) (sym same.header)
      (subst (λ (me : ℕ). AllByRecursion (IsLawfulWork old.kept.node.control.nodes me) new.works) (sym same.me) (work lawful.works));
  dials = subst (λ (h : Header). AllByRecursion (IsLawfulDial h.nodes) new.dials) (sym same.header) (dial lawful.dials);
}

-- with the same configuration it is set as it was
pub set_of : {D L K : Type 0} (old new : Server D L K) → IsSameNode old.kept.node.control new.kept.node.control → new.config ≡ old.config → new.log ≡ old.log → IsSet old → IsSet new
set_of old new same config log set =
    let nodes : new.kept.node.control.nodes ≡ old.kept.node.control.nodes = ap (λ (h : Header). h.nodes) same.header in
    record {
      placed = subst (λ (c : Settings). IsPlaced new.kept.node.control.nodes c.addresses) (sym config)
          (subst (λ (n : ℕ). IsPlaced n old.config.addresses) (sym nodes) set.placed);
      rules = subst (λ (c : Settings). length c.rules ≤ MAX_RULES) (sym config) set.rules;
      areas = ap (λ (h : Header). h.areas) same.header ∙ set.areas ∙ ap₂ (λ (n : ℕ) (c : Settings). areas_among n c.areas) (sym nodes) (sym config);
      roomy = λ unrecorded. nodes ∙ set.roomy (subst (λ (l : Log). is_record l ≡ false) log unrecorded);
    }
