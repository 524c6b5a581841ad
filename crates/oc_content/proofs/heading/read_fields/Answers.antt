use Rattle.std.proofs.Common.{◌≡◌, ℕ, ◌+◌, ◌-◌, ◌≤◌, get_or, List, ◌∷◌, length, drop, take, Some, sym, ap, subst, ◌∙◌, arith}
use Rattle.std.specs.Int.{w64, from_be_bytes}
use Rattle.oc_base.specs.Names.{parsed_name}
use Rattle.oc_content.specs.Entries.{fields}
use Rattle.oc_content.proofs.Spelling.{fields_read, bytes_behind}
use Rattle.oc_content.proofs.heading.read_fields.Goals as goal

pub returns : goal.returns
returns c =
    let n = c.from-count.result in
    let rest = c.in_ok-count.rest.now in
    let bytes = c.args.bytes.now in
    let whole : bytes ≡ n ∷ rest = c.in_ok-count.ensures.cases.0 ∙ ap (λ (x : ℕ). x ∷ rest) (sym c.from-count.ensures) in
    let name = sym (subst (λ (l : List ℕ). c.parse.result ≡ parsed_name l) c.split_at.ensures.front c.parse.ensures) ∙ c.in-Ok.is in
    let start = subst (λ (l : List ℕ). c.start_in.result ≡ from_be_bytes w64 (take 8 l)) c.split_at.ensures.back c.start_in.ensures in
    let small : get_or bytes 0 0 ≡ n = ap (λ (l : List ℕ). get_or l 0 0) whole in
    let long : n + 8 ≤ length rest = omega (arith, c.if-rest-count.false) in (
      ap (fields c.args.seals) whole ∙ (fields_read c.args.seals n rest c.in-Ok.group c.start_in.result long name start ∙ ap (λ (b : List ℕ). Some (record { group = c.in-Ok.group; start = c.start_in.result; bytes = b; seals = c.args.seals })) (sym (ap (drop (c.args.before + 9 + n - c.args.before)) whole ∙ bytes_behind c.args.before n rest))),
      omega arith,
      omega (arith, ap length whole, long),
      omega (arith, c.type_inv.bytes 0, small),
    )
