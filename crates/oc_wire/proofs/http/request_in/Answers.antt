use Rattle.std.proofs.Common.{List, ℕ, ap, ◌∙◌}
use Rattle.oc_io.specs.SourceView.{source_of}
use Rattle.oc_wire.proofs.http.request_in.Goals as goal

pub returns : goal.returns
returns c =
    let copied = c.in_ok-to_vec.ensures.items_if_clones_equal (λ x y e. e) in
    c.request_from.ensures c.args.bytes.now (c.new-source.ensures ∙ ap (λ (items : List ℕ). source_of items c.new.result.items) copied ∙ ap (source_of c.args.bytes.now) c.new.ensures.items)
