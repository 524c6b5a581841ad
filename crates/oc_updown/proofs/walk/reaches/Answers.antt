use Rattle.std.proofs.Common.{◌≡◌, ◌-◌, ◌∙◌, ap, arith, length}
use Rattle.oc_model.specs.Table.{reaches}
use Rattle.oc_updown.specs.TableView.{entries_of}
use Rattle.oc_updown.proofs.walk.reaches.Goals as goal

pub loop-init : goal.loop-init
loop-init c =
    let rows = c.args.rows.now.items in
    let all : length rows - 0 ≡ length rows = omega arith in
    ap (λ n. reaches n (entries_of rows) c.args.root c.parent_of-above.result) all ∙ ap (reaches (length rows) (entries_of rows) c.args.root) c.parent_of-above.ensures.parent
