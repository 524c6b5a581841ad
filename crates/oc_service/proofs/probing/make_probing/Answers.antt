use Rattle.std.proofs.Common.{Global}
use Rattle.std.specs.Prelude.{string_bytes}
use Rattle.oc_service.proofs.Probes.{first_is, made_for}
use Rattle.oc_service.proofs.probing.make_probing.Goals as goal

pub returns-clause-made : goal.returns-clause-made
returns-clause-made c = made_for c.args.me c.args.nodes c.args.addresses.now (record { gauge = c.in_ok-new.field-0; rotation = c.in_ok-new-2.field-0 }) c.requires.within c.in_ok-new.ensures c.in_ok-new-2.ensures

pub returns-clause-first : goal.returns-clause-first
returns-clause-first c = first_is (string_bytes {Z = Global}) c.args.me c.args.nodes c.args.addresses.now (record { gauge = c.in_ok-new.field-0; rotation = c.in_ok-new-2.field-0 }) c.in_ok-new.ensures c.in_ok-new-2.ensures
