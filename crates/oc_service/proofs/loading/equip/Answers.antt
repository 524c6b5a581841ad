use Rattle.std.proofs.Common.{rules, ◌≡◌, ℕ, Option, IfSome, List, Global, length, map, sym, ap, subst, ◌∙◌, arith}
use Rattle.std.specs.Prelude.{option_map, string_bytes}
use Rattle.std.proofs.lemmas.List.{length-map}
use Rattle.oc_deeds.specs.Areas.{areas_among}
use Rattle.oc_deeds.specs.Lawful.{IsMadeFor}
use Rattle.oc_deeds.specs.Records.{is_record}
use Rattle.oc_routes.specs.Tallies.{first_tally}
use Rattle.oc_service.proofs.Headers.{areas_are}
use Rattle.oc_service.specs.OnSite.{probing_at_first}
use Rattle.oc_service.proofs.loading.equip.Goals as goal

pub areas_for-requires : goal.areas_for-requires
areas_for-requires c = omega (arith, c.requires.config.places.areas, c.room_for-nodes.ensures.within)

pub first_probing-requires-clause-few : goal.first_probing-requires-clause-few
first_probing-requires-clause-few c =
    let places : map (option_map (string_bytes {Z = Global})) c.deref.result.now ≡ c.args.config.now.addresses = search rules in
    let same : length c.deref.result.now ≡ length c.args.config.now.addresses = sym (length-map c.deref.result.now (option_map (string_bytes {Z = Global}))) ∙ ap length places in
    omega (arith, same, c.requires.config.nodes.1)

pub returns : goal.returns
returns c =
    let s = c.args.config.now in
    let task = c.args.task.now in
    let room = c.room_for-nodes.ensures.room in
    let places : map (option_map (string_bytes {Z = Global})) c.deref.result.now ≡ s.addresses = search rules in
    record {
      same = c.in_ok-areas_for.ensures.same ∙ ap (λ (n : ℕ). areas_among n s.areas) room ∙ areas_are (is_record task.log) s c.requires.config;
      bytes = c.in_ok-areas_for.ensures.bytes;
      empty = c.in_ok-new.ensures;
      uncounted = c.in_ok-new-2.ensures ∙ ap first_tally room;
      first = c.in_ok-first_probing.ensures.first
          ∙ ap (λ (xs : List (Option (List ℕ))). probing_at_first task.probes c.room_for-nodes.result task.me xs) places
          ∙ ap (λ (n : ℕ). probing_at_first task.probes n task.me s.addresses) room;
      made = subst (λ (n : ℕ). IfSome c.in_ok-first_probing.field-0 (IsMadeFor n)) room c.in_ok-first_probing.ensures.made;
    }
