use Rattle.std.proofs.Common.{◌≡◌, Option, Some, Global, IfSome, length, map, sym, ap, subst, ◌∙◌}
use Rattle.std.specs.Prelude.{option_map, string_bytes}
use Rattle.oc_config.specs.Settings.{Settings}
use Rattle.oc_probe.specs.Turns.{RotationView, peers_of}
use Rattle.oc_probe.specs.declared.probing.Probing.{Probing}
use Rattle.oc_deeds.specs.Lawful.{IsMadeFor}
use Rattle.oc_deeds.specs.Rereading.{rotated_to}
use Rattle.oc_deeds.proofs.Peers.{made_rerouted, peers_read, rotation_of}
use Rattle.oc_deeds.proofs.rereading.reroute.Goals as goal

pub returns-in_ok-probing-clause-rerouted : goal.returns-in_ok-probing-clause-rerouted
returns-in_ok-probing-clause-rerouted c =
    let me = c.args.me in
    let config = c.args.config.now in
    let places = c.deref.result.now in
    let shown : config.addresses ≡ map (option_map (string_bytes {Z = Global})) places =
    sym (ap (λ (s : Settings). s.addresses) c.config.view_is) ∙ ap (map (option_map (string_bytes {Z = Global}))) (sym c.deref.ensures.value) in
    let is : c.in_ok-probing.field-0 ≡ rotation_of (peers_of me config.addresses) =
    c.in_ok-probing.ensures ∙ ap rotation_of (peers_read (string_bytes {Z = Global}) me places config.addresses shown) in
    ap (λ (r : RotationView). Some (record c.in-Some.probing { rotation = r })) is ∙ ap (λ (o : Option Probing). option_map (rotated_to me config) o) (sym c.in-Some.is)

pub returns-in_ok-probing-clause-made : goal.returns-in_ok-probing-clause-made
returns-in_ok-probing-clause-made c =
    let me = c.args.me in
    let config = c.args.config.now in
    let places = c.deref.result.now in
    let shown : config.addresses ≡ map (option_map (string_bytes {Z = Global})) places =
    sym (ap (λ (s : Settings). s.addresses) c.config.view_is) ∙ ap (map (option_map (string_bytes {Z = Global}))) (sym c.deref.ensures.value) in
    let is : c.in_ok-probing.field-0 ≡ rotation_of (peers_of me config.addresses) =
    c.in_ok-probing.ensures ∙ ap rotation_of (peers_read (string_bytes {Z = Global}) me places config.addresses shown) in
    λ nodes within made. made_rerouted me nodes config.addresses c.in-Some.probing c.in_ok-probing.field-0 within is (subst (λ (o : Option Probing). IfSome o (IsMadeFor nodes)) c.in-Some.is made)
