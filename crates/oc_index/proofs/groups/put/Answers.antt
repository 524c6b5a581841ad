-- A group that is found grows in its place, and a new one goes where it would be.
use Rattle.std.proofs.Common.{◌∙◌, ℕ, None, List, ap, arith}
use Rattle.oc_base.specs.Groups.{or_empty}
use Rattle.oc_model.specs.Step.{grown}
use Rattle.oc_index.proofs.GroupLists.{found_within, free_within, put_found, put_free}
use Rattle.oc_index.proofs.groups.put.Goals as goal

pub index_mut-requires : goal.index_mut-requires
index_mut-requires c =
    let within = found_within c.deref.result.now c.args.group.now c.in-Found.at c.in-Found.ensures in
    omega (arith, within, c.deref.ensures.len)

pub insert-requires : goal.insert-requires
insert-requires c =
    let within = free_within c.deref.result.now c.args.group.now c.in-Free.at c.in-Free.ensures in
    omega (arith, within, c.deref.ensures.len)

pub returns-in_ok-grow-in-Found-clause-ok : goal.returns-in_ok-grow-in-Found-clause-ok
returns-in_ok-grow-in-Found-clause-ok c =
    put_found c.args.groups.now.items c.args.group.now c.in-Found.at c.index_mut.result.now c.grow.new.group c.args.start c.args.bytes.now c.args.closes
    (rw c.deref.ensures.value at c.in-Found.ensures) c.index_mut.ensures.value c.in_ok-grow-in-Found.ensures.ok

pub returns-in_ok-insert-in-Free-clause-ok : goal.returns-in_ok-insert-in-Free-clause-ok
returns-in_ok-insert-in-Free-clause-ok c =
    c.in_ok-insert-in-Free.ensures.items
    ∙ put_free c.args.groups.now.items c.args.group.now c.in-Free.at c.grow-in-Free.new.group c.args.start c.args.bytes.now c.args.closes
    (rw c.deref.ensures.value at c.in-Free.ensures)
    (c.in_ok-grow-in-Free.ensures.ok ∙ ap (λ (bytes : List ℕ). grown (record (or_empty c.args.group.now None) { bytes = bytes }) c.args.start c.args.bytes.now c.args.closes) (c.of.ensures ∙ c.new.ensures.items))
