use Rattle.std.proofs.Common.{◌≡◌, ◌++◌, codes, decimal, subst}
use Rattle.std.specs.Prelude.{OnOk}
use Rattle.oc_policy.proofs.Texts.{last_part}
use Rattle.oc_policy.proofs.listing.put_shadow.Goals as goal

pub returns-in_ok-put-in-Some : goal.returns-in_ok-put-in-Some
returns-in_ok-put-in-Some c = rw c.in-Some.is
    (last_part c.put_number.result c.args.out.now.items c.put.new.out.items c.put_number.new.out.items (codes " shadowed by ") (decimal c.in-Some.number) c.in_ok-put-in-Some.ensures.ok
    (subst (λ n. OnOk c.put_number.result (c.put_number.new.out.items ≡ c.put.new.out.items ++ decimal n)) c.from.ensures c.put_number.ensures.ok))
