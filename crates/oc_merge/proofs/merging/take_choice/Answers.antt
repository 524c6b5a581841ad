use Rattle.std.proofs.Common.{rules, ◌≡◌, ℕ, ◌<◌, true, Some, None, length, get_or, slice_set, refl, ap, sym, subst, ◌∙◌, arith}
use Rattle.oc_model.specs.World.{ids}
use Rattle.oc_merge.specs.declared.heads.Head.{Head}
use Rattle.oc_merge.specs.Heads.{IsWay, lines_left, no_head}
use Rattle.oc_merge.specs.Records.{IsLine}
use Rattle.oc_merge.specs.Told.{Records}
use Rattle.oc_merge.proofs.Looking.{looked_same, same_along, same_in, same_left, same_on}
use Rattle.oc_merge.proofs.OneMore.{heads_in, ids_on}
use Rattle.oc_merge.proofs.Taken.{chosen, head_read, line_lawful, line_started, line_way, moved}
use Rattle.oc_merge.proofs.Ways.{if_ok}
use Rattle.oc_merge.proofs.merging.take_choice.Goals as goal

pub index-line-requires : goal.index-line-requires
index-line-requires g c =
    let r = c.args.records.now in
    let w = g.N.Nodes.world c.args.nodes.now in
    let heads = c.args.fronts.now.heads.items in
    let within = (chosen g.N.Nodes.digest r heads w c.args.events.now c.requires.on_the_way c.requires.records c.requires.ways c.args.choice c.requires.chosen).within in
    let below : c.args.choice.place < length c.records.inside.lines.items = omega (arith, within, ap (λ (q : Records). length q.lines) c.records.view_is) in
    search rules

pub index-at-requires : goal.index-at-requires
index-at-requires g c =
    let r = c.args.records.now in
    let w = g.N.Nodes.world c.args.nodes.now in
    let heads = c.args.fronts.now.heads.items in
    let line = c.index-line.result.now in
    let read : line ≡ get_or r.lines c.args.choice.place line = c.index-line.ensures ∙ ap (λ (q : Records). get_or q.lines c.args.choice.place c.index-line.result.now) c.records.view_is in
    let lawful = line_lawful g.N.Nodes.digest r heads w c.args.events.now c.requires.on_the_way c.requires.records c.requires.ways c.args.choice c.requires.chosen line read in
    lawful.0.0

pub index-requires : goal.index-requires
index-requires g c =
    let r = c.args.records.now in
    let w = g.N.Nodes.world c.args.nodes.now in
    let heads = c.args.fronts.now.heads.items in
    let line = c.index-line.result.now in
    let read : line ≡ get_or r.lines c.args.choice.place line = c.index-line.ensures ∙ ap (λ (q : Records). get_or q.lines c.args.choice.place c.index-line.result.now) c.records.view_is in
    let lawful = line_lawful g.N.Nodes.digest r heads w c.args.events.now c.requires.on_the_way c.requires.records c.requires.ways c.args.choice c.requires.chosen line read in
    let below : c.index-at.result < length heads = omega (arith, c.index-at.ensures.next, lawful.0.1, c.requires.on_the_way.heads_are.all) in
    search rules

pub take-requires-clause-line : goal.take-requires-clause-line
take-requires-clause-line g c =
    let r = c.args.records.now in
    let w = g.N.Nodes.world c.args.nodes.now in
    let heads = c.args.fronts.now.heads.items in
    let line = c.index-line.result.now in
    let read : line ≡ get_or r.lines c.args.choice.place line = c.index-line.ensures ∙ ap (λ (q : Records). get_or q.lines c.args.choice.place c.index-line.result.now) c.records.view_is in
    let lawful = line_lawful g.N.Nodes.digest r heads w c.args.events.now c.requires.on_the_way c.requires.records c.requires.ways c.args.choice c.requires.chosen line read in
    let ids_are : length (ids w) ≡ r.header.nodes = ids_on g.N.Nodes.digest r heads w c.args.events.now c.requires.on_the_way in
    subst (λ (n : ℕ). IsLine n line) (sym ids_are) lawful

pub take-requires-clause-started : goal.take-requires-clause-started
take-requires-clause-started g c =
    let r = c.args.records.now in
    let w = g.N.Nodes.world c.args.nodes.now in
    let heads = c.args.fronts.now.heads.items in
    let line = c.index-line.result.now in
    let read : line ≡ get_or r.lines c.args.choice.place line = c.index-line.ensures ∙ ap (λ (q : Records). get_or q.lines c.args.choice.place c.index-line.result.now) c.records.view_is in
    let lawful = line_lawful g.N.Nodes.digest r heads w c.args.events.now c.requires.on_the_way c.requires.records c.requires.ways c.args.choice c.requires.chosen line read in
    let below : c.index-at.result < length heads = omega (arith, c.index-at.ensures.next, lawful.0.1, c.requires.on_the_way.heads_are.all) in
    ap (λ (h : Head). h.started) (head_read heads c.index-at.result c.index.result.now below c.index.ensures ∙ ap (λ i. get_or heads i no_head) c.index-at.ensures.index)
    ∙ line_started g.N.Nodes.digest r heads w c.args.events.now c.requires.on_the_way c.requires.records c.requires.ways c.args.choice c.requires.chosen line read

pub take-requires-clause-way : goal.take-requires-clause-way
take-requires-clause-way g c =
    let r = c.args.records.now in
    let w = g.N.Nodes.world c.args.nodes.now in
    let heads = c.args.fronts.now.heads.items in
    let line = c.index-line.result.now in
    let read : line ≡ get_or r.lines c.args.choice.place line = c.index-line.ensures ∙ ap (λ (q : Records). get_or q.lines c.args.choice.place c.index-line.result.now) c.records.view_is in
    let lawful = line_lawful g.N.Nodes.digest r heads w c.args.events.now c.requires.on_the_way c.requires.records c.requires.ways c.args.choice c.requires.chosen line read in
    let ids_are : length (ids w) ≡ r.header.nodes = ids_on g.N.Nodes.digest r heads w c.args.events.now c.requires.on_the_way in
    subst (λ (n : ℕ). IsWay g.N.Nodes.digest n w line.node line.told (Some c.args.choice.way)) (sym ids_are)
    (line_way g.N.Nodes.digest r heads w c.args.events.now c.requires.on_the_way c.requires.records c.requires.ways c.args.choice c.requires.chosen line read)

pub index-requires-2 : goal.index-requires-2
index-requires-2 g c =
    let r = c.args.records.now in
    let w = g.N.Nodes.world c.args.nodes.now in
    let heads = c.args.fronts.now.heads.items in
    let within = (chosen g.N.Nodes.digest r heads w c.args.events.now c.requires.on_the_way c.requires.records c.requires.ways c.args.choice c.requires.chosen).within in
    let below : c.args.choice.place < length c.args.fronts.now.next.items = omega (arith, within, c.requires.next.0) in
    search rules

pub index_mut-requires : goal.index_mut-requires
index_mut-requires g c =
    let r = c.args.records.now in
    let w = g.N.Nodes.world c.args.nodes.now in
    let heads = c.args.fronts.now.heads.items in
    let line = c.index-line.result.now in
    let read : line ≡ get_or r.lines c.args.choice.place line = c.index-line.ensures ∙ ap (λ (q : Records). get_or q.lines c.args.choice.place c.index-line.result.now) c.records.view_is in
    let lawful = line_lawful g.N.Nodes.digest r heads w c.args.events.now c.requires.on_the_way c.requires.records c.requires.ways c.args.choice c.requires.chosen line read in
    let below : c.index-at.result < length heads = omega (arith, c.index-at.ensures.next, lawful.0.1, c.requires.on_the_way.heads_are.all) in
    search rules

pub look_at-requires-clause-heads : goal.look_at-requires-clause-heads
look_at-requires-clause-heads g c =
    let r = c.args.records.now in
    let w = g.N.Nodes.world c.args.nodes.now in
    let heads = c.args.fronts.now.heads.items in
    let line = c.index-line.result.now in
    let read : line ≡ get_or r.lines c.args.choice.place line = c.index-line.ensures ∙ ap (λ (q : Records). get_or q.lines c.args.choice.place c.index-line.result.now) c.records.view_is in
    let lawful = line_lawful g.N.Nodes.digest r heads w c.args.events.now c.requires.on_the_way c.requires.records c.requires.ways c.args.choice c.requires.chosen line read in
    let ids_are : length (ids w) ≡ r.header.nodes = ids_on g.N.Nodes.digest r heads w c.args.events.now c.requires.on_the_way in
    let v = g.N.Nodes.world c.take.new.nodes in
    let h : Head = record { place = c.index-2.result.now; started = true; way = None } in
    let mid = slice_set heads c.index-at.result h in
    let go = moved g.N.Nodes.digest r heads w c.args.events.now c.requires.on_the_way c.requires.records c.requires.ways c.args.choice c.requires.chosen line read c.args.fronts.now.next.items c.requires.next v c.take.new.events (length (ids w)) ids_are c.in_ok-take.ensures h c.index-2.ensures refl c.index-at.result c.sent-sent.result c.index-at.ensures.index c.sent-sent.ensures in
    heads_in g.N.Nodes.digest r mid v c.take.new.events go.on

pub look_at-requires-clause-node : goal.look_at-requires-clause-node
look_at-requires-clause-node g c =
    let r = c.args.records.now in
    let w = g.N.Nodes.world c.args.nodes.now in
    let heads = c.args.fronts.now.heads.items in
    let line = c.index-line.result.now in
    let read : line ≡ get_or r.lines c.args.choice.place line = c.index-line.ensures ∙ ap (λ (q : Records). get_or q.lines c.args.choice.place c.index-line.result.now) c.records.view_is in
    let lawful = line_lawful g.N.Nodes.digest r heads w c.args.events.now c.requires.on_the_way c.requires.records c.requires.ways c.args.choice c.requires.chosen line read in
    lawful.0

pub look_at_receivers-requires-clause-heads : goal.look_at_receivers-requires-clause-heads
look_at_receivers-requires-clause-heads g c =
    let r = c.args.records.now in
    let w = g.N.Nodes.world c.args.nodes.now in
    let heads = c.args.fronts.now.heads.items in
    let line = c.index-line.result.now in
    let read : line ≡ get_or r.lines c.args.choice.place line = c.index-line.ensures ∙ ap (λ (q : Records). get_or q.lines c.args.choice.place c.index-line.result.now) c.records.view_is in
    let lawful = line_lawful g.N.Nodes.digest r heads w c.args.events.now c.requires.on_the_way c.requires.records c.requires.ways c.args.choice c.requires.chosen line read in
    let ids_are : length (ids w) ≡ r.header.nodes = ids_on g.N.Nodes.digest r heads w c.args.events.now c.requires.on_the_way in
    let v = g.N.Nodes.world c.take.new.nodes in
    let h : Head = record { place = c.index-2.result.now; started = true; way = None } in
    let mid = slice_set heads c.index-at.result h in
    let go = moved g.N.Nodes.digest r heads w c.args.events.now c.requires.on_the_way c.requires.records c.requires.ways c.args.choice c.requires.chosen line read c.args.fronts.now.next.items c.requires.next v c.take.new.events (length (ids w)) ids_are c.in_ok-take.ensures h c.index-2.ensures refl c.index-at.result c.sent-sent.result c.index-at.ensures.index c.sent-sent.ensures in
    let bs = c.look_at.new.heads.items in
    same_in mid bs (looked_same g.N.Nodes.digest r v line.node mid bs c.in_ok-look_at.ensures) v r (heads_in g.N.Nodes.digest r mid v c.take.new.events go.on)

pub look_at_receivers-requires-clause-ways : goal.look_at_receivers-requires-clause-ways
look_at_receivers-requires-clause-ways g c =
    let r = c.args.records.now in
    let w = g.N.Nodes.world c.args.nodes.now in
    let heads = c.args.fronts.now.heads.items in
    let line = c.index-line.result.now in
    let read : line ≡ get_or r.lines c.args.choice.place line = c.index-line.ensures ∙ ap (λ (q : Records). get_or q.lines c.args.choice.place c.index-line.result.now) c.records.view_is in
    let lawful = line_lawful g.N.Nodes.digest r heads w c.args.events.now c.requires.on_the_way c.requires.records c.requires.ways c.args.choice c.requires.chosen line read in
    let ids_are : length (ids w) ≡ r.header.nodes = ids_on g.N.Nodes.digest r heads w c.args.events.now c.requires.on_the_way in
    let v = g.N.Nodes.world c.take.new.nodes in
    let h : Head = record { place = c.index-2.result.now; started = true; way = None } in
    let mid = slice_set heads c.index-at.result h in
    let go = moved g.N.Nodes.digest r heads w c.args.events.now c.requires.on_the_way c.requires.records c.requires.ways c.args.choice c.requires.chosen line read c.args.fronts.now.next.items c.requires.next v c.take.new.events (length (ids w)) ids_are c.in_ok-take.ensures h c.index-2.ensures refl c.index-at.result c.sent-sent.result c.index-at.ensures.index c.sent-sent.ensures in
    go.ways c.look_at.new.heads.items c.in_ok-look_at.ensures

pub returns-clause-on_the_way : goal.returns-clause-on_the_way
returns-clause-on_the_way g c =
    let r = c.args.records.now in
    let w = g.N.Nodes.world c.args.nodes.now in
    let heads = c.args.fronts.now.heads.items in
    let line = c.index-line.result.now in
    let read : line ≡ get_or r.lines c.args.choice.place line = c.index-line.ensures ∙ ap (λ (q : Records). get_or q.lines c.args.choice.place c.index-line.result.now) c.records.view_is in
    let lawful = line_lawful g.N.Nodes.digest r heads w c.args.events.now c.requires.on_the_way c.requires.records c.requires.ways c.args.choice c.requires.chosen line read in
    let ids_are : length (ids w) ≡ r.header.nodes = ids_on g.N.Nodes.digest r heads w c.args.events.now c.requires.on_the_way in
    let v = g.N.Nodes.world c.take.new.nodes in
    let h : Head = record { place = c.index-2.result.now; started = true; way = None } in
    let mid = slice_set heads c.index-at.result h in
    let go = moved g.N.Nodes.digest r heads w c.args.events.now c.requires.on_the_way c.requires.records c.requires.ways c.args.choice c.requires.chosen line read c.args.fronts.now.next.items c.requires.next v c.take.new.events (length (ids w)) ids_are c.in_ok-take.ensures h c.index-2.ensures refl c.index-at.result c.sent-sent.result c.index-at.ensures.index c.sent-sent.ensures in
    let bs = c.look_at.new.heads.items in
    let cs = c.look_at_receivers.new.heads.items in
    if_ok c.look_at_receivers.result c.look_at_receivers.ensures.places
    (λ same. same_on mid cs (same_along mid bs cs (looked_same g.N.Nodes.digest r v line.node mid bs c.in_ok-look_at.ensures) same) g.N.Nodes.digest r v c.take.new.events go.on)

pub returns-clause-fewer : goal.returns-clause-fewer
returns-clause-fewer g c =
    let r = c.args.records.now in
    let w = g.N.Nodes.world c.args.nodes.now in
    let heads = c.args.fronts.now.heads.items in
    let line = c.index-line.result.now in
    let read : line ≡ get_or r.lines c.args.choice.place line = c.index-line.ensures ∙ ap (λ (q : Records). get_or q.lines c.args.choice.place c.index-line.result.now) c.records.view_is in
    let lawful = line_lawful g.N.Nodes.digest r heads w c.args.events.now c.requires.on_the_way c.requires.records c.requires.ways c.args.choice c.requires.chosen line read in
    let ids_are : length (ids w) ≡ r.header.nodes = ids_on g.N.Nodes.digest r heads w c.args.events.now c.requires.on_the_way in
    let v = g.N.Nodes.world c.take.new.nodes in
    let h : Head = record { place = c.index-2.result.now; started = true; way = None } in
    let mid = slice_set heads c.index-at.result h in
    let go = moved g.N.Nodes.digest r heads w c.args.events.now c.requires.on_the_way c.requires.records c.requires.ways c.args.choice c.requires.chosen line read c.args.fronts.now.next.items c.requires.next v c.take.new.events (length (ids w)) ids_are c.in_ok-take.ensures h c.index-2.ensures refl c.index-at.result c.sent-sent.result c.index-at.ensures.index c.sent-sent.ensures in
    let bs = c.look_at.new.heads.items in
    let cs = c.look_at_receivers.new.heads.items in
    if_ok c.look_at_receivers.result c.look_at_receivers.ensures.places
    (λ same. subst (λ (n : ℕ). n < lines_left (length r.lines) heads) (sym (same_left mid cs (length r.lines) (same_along mid bs cs (looked_same g.N.Nodes.digest r v line.node mid bs c.in_ok-look_at.ensures) same))) go.fewer)
