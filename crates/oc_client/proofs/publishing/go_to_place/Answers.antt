use Rattle.std.proofs.Common.{◌≡◌, false, true, [], refl, sym, subst, arith}
use Rattle.oc_client.specs.Publishing.{DoesNotBegin}
use Rattle.oc_client.specs.declared.put_end.PutEnd.TheVariants as ends
use Rattle.oc_client.specs.declared.publication.WriteMode.{WriteMode}
use Rattle.oc_client.proofs.publishing.go_to_place.Goals as goal

pub returns-in-New-clause-placed : goal.returns-in-New-clause-placed
returns-in-New-clause-placed g c = record {
  input = [];
  over = false;
  came = g.met.S.Source.gives_nothing c.args.input.now;
  is_over = λ e. absurd (let x : false ≡ true = e in cc);
  why = subst (λ (p : WriteMode). DoesNotBegin p c.args.found [] false (ends.Length c.args.found)) (sym c.in-New.is) (refl, omega arith, refl);
}
