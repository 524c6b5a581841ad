use Rattle.std.proofs.Common.{◌≡◌, ◌-◌, ◌++◌, Bool, true, false, length, take, refl, sym, ap, ◌∙◌, rules}
use Rattle.oc_routes.specs.Contents.{ending, pieces}
use Rattle.oc_deeds.proofs.Pieces.{without_end}
use Rattle.oc_deeds.proofs.contents.with_end.Goals as goal

pub returns : goal.returns
returns c = λ bytes is.
    let text = c.args.text.items in
    let cut : c.truncate.new.self.items ≡ take (length text - 5) text = search rules in
    let off : c.args.last ≡ false = search rules in
    cut ∙ without_end bytes text (length text - 5) is refl ∙ ap (λ (last : Bool). pieces true bytes ++ ending true last) (sym off)
