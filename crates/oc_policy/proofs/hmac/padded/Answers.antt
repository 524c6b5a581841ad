use Rattle.std.proofs.Common.{◌≡◌, ℕ, true, List, ◌++◌, length, ap, arith, ◌∙◌}
use Rattle.std.specs.Prelude.{nat_le}
use Rattle.std.proofs.lemmas.List.{drop-replicate}
use Rattle.oc_policy.proofs.hmac.padded.Goals as goal

pub returns-then-key-le-BLOCK_BYTES : goal.returns-then-key-le-BLOCK_BYTES
returns-then-key-le-BLOCK_BYTES c =
    let short : nat_le (length c.args.key.now) 64 ≡ true = grind (arith, c.if-key-le-BLOCK_BYTES.true) in
    rw short (c.put_in_front.ensures ∙ ap (λ (zeros : List ℕ). c.args.key.now ++ zeros) (drop-replicate (length c.args.key.now) 64 0))
