use Rattle.std.proofs.Common.{◌∙◌, ◌++◌, ap, codes, decimal}
use Rattle.oc_replay.specs.Bodies.{cert_text}
use Rattle.oc_replay.specs.Shows.{list_line, listed_text, node_line}
use Rattle.oc_replay.proofs.Shown.{four_parts}
use Rattle.oc_replay.proofs.show.put_show.Goals as goal

-- one line after the other
pub returns : goal.returns
returns c =
    four_parts c.args.out.now.items c.put_node_line.new.out.items c.put_list_line.new.out.items c.put_list_line-2.new.out.items c.put_list_line-3.new.out.items
    (node_line c.args.node c.args.status.now)
    (list_line (codes "ancestors") decimal c.args.status.now.ancestors)
    (list_line (codes "table") cert_text c.args.status.now.table)
    (list_line (codes "listed") listed_text c.args.status.now.listed)
    c.in_ok-put_node_line.ensures
    (c.in_ok-put_list_line.ensures ∙ ap (λ l. c.put_node_line.new.out.items ++ list_line (codes "ancestors") decimal l) c.items.ensures)
    (c.in_ok-put_list_line-2.ensures ∙ ap (λ l. c.put_list_line.new.out.items ++ list_line (codes "table") cert_text l) c.items-2.ensures)
    (c.in_ok-put_list_line-3.ensures ∙ ap (λ l. c.put_list_line-2.new.out.items ++ list_line (codes "listed") listed_text l) c.items-3.ensures)
