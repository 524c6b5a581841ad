use Rattle.std.proofs.Common.{◌≡◌, ◌∙◌, ◌++◌, List, ℕ, ap}
use Rattle.std.specs.Prelude.{codes}
use Rattle.std.proofs.lemmas.List.{append_assoc}
use Rattle.oc_replay.specs.Digests.{has_line}
use Rattle.oc_deeds.specs.Records.{network_of, network_text, up_line}
use Rattle.oc_deeds.proofs.Results.{done_then}
use Rattle.oc_deeds.proofs.record.put_head.Goals as goal

-- one text after others
more : (a b c x y : List ℕ) → b ≡ a ++ x → c ≡ b ++ y → c ≡ a ++ (x ++ y)
more a b c x y front last = last ∙ ap (λ (t : List ℕ). t ++ y) front ∙ append_assoc a x y

pub returns : goal.returns
returns c =
    let out = c.args.out.now.items in
    let n = c.args.node.now.control in
    let network = network_text (network_of n) in
    let first : c.put.new.out.items ≡ out ++ codes "#\n" = c.in_ok-put.ensures.ok in
    let second = more out c.put.new.out.items c.put_network.new.out.items (codes "#\n") network first c.in_ok-put_network.ensures in
    let up : c.put_up_line.new.out.items ≡ c.put_network.new.out.items ++ up_line n.me = c.in_ok-put_up_line.ensures ∙ ap (λ (me : ℕ). c.put_network.new.out.items ++ up_line me) c.id.ensures in
    let third = more out c.put_network.new.out.items c.put_up_line.new.out.items (codes "#\n" ++ network) (up_line n.me) second up in
    done_then c.put_has_line.result (λ last. more out c.put_up_line.new.out.items c.put_has_line.new.out.items (codes "#\n" ++ network ++ up_line n.me) (has_line n.me n.kept c.args.shelf.now) third last) c.put_has_line.ensures
