use Rattle.std.proofs.Common.{ℕ, ◌≡◌, ◌+◌, ◌-◌, ◌++◌, List, length, take, drop, replicate, ◌∙◌, ap, sym, arith}
use Rattle.std.proofs.lemmas.List.{length-drop, length-take-le, drop-drop}
use Rattle.oc_io.proofs.LogBlots.{blotted-is}
use Rattle.oc_io.proofs.disk_log.fill.Goals as goal

pub returns : goal.returns
returns c =
    let bytes = c.args.bytes.now in
    let at = c.args.at in
    let count = c.args.count in
    let same : at + count - at ≡ count = omega arith in
    let long : length (take (at + count - at) (drop at bytes)) ≡ count = ap (λ (k : ℕ). length (take k (drop at bytes))) same ∙ length-take-le count (drop at bytes) (omega (arith, length-drop at bytes)) in
    let filled : c.fill.new.self ≡ replicate count c.args.image = c.fill.ensures.after (λ y e. e) ∙ ap (λ (k : ℕ). replicate k c.args.image) long in
    let behind : drop (at + count - at) (drop at bytes) ≡ drop (at + count) bytes = ap (λ (k : ℕ). drop k (drop at bytes)) same ∙ drop-drop count at bytes in
    ap (λ (l : List ℕ). take at bytes ++ (l ++ drop (at + count - at) (drop at bytes))) filled
    ∙ ap (λ (l : List ℕ). take at bytes ++ (replicate count c.args.image ++ l)) behind
    ∙ sym (blotted-is at count c.args.image bytes c.requires)
