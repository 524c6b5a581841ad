use Rattle.std.proofs.Common.{◌∙◌, ℕ, List, ap, refl, rules, subst}
use Rattle.oc_link.specs.Told.{Adds}
use Rattle.oc_link.specs.declared.call.Call.TheVariants as acts
use Rattle.oc_routes.specs.Responses.{address_of}
use Rattle.oc_service.proofs.running.listen.Goals as goal

pub returns-in-Ok-clause-listens : goal.returns-in-Ok-clause-listens
returns-in-Ok-clause-listens g c =
    let s = c.args.server.now in
    record {
      rest = refl;
      calls = subst (λ (a : List ℕ). Adds (acts.Listen a) (g.L.Link.story s.link) (g.L.Link.story c.listen.new.self))
          (c.listen_of-address.ensures ∙ ap (λ (x : ℕ). address_of s.config.listens x) (search rules)) c.in-Ok.ensures.listens;
      counted = search rules;
    }
