use Rattle.std.proofs.Common.{◌≡◌, ◌≤◌, ℕ, List, length, sym, ap, subst, ◌∙◌}
use Rattle.oc_base.specs.declared.shelf.Shelf.{Shelf}
use Rattle.oc_content.specs.declared.group_state.GroupState.{GroupState}
use Rattle.oc_base.specs.declared.limits.TheConstants.{MAX_GROUP_BYTES}
use Rattle.oc_base.specs.Shelves.{LooksUpLine}
use Rattle.oc_content.specs.Putting.{group_state_in, fault_of}
use Rattle.oc_content.specs.Indexes.{IsWithin}
use Rattle.oc_content.proofs.Puts.{put_within, place_there, state_short}
use Rattle.oc_content.proofs.putting.piece_for.Goals as goal

pub state_at-state-requires : goal.state_at-state-requires
state_at-state-requires c =
    let at = subst (λ (l : List Shelf). LooksUpLine l c.args.added.now.group.now c.look_up-place.result) (c.deref.ensures.value ∙ sym c.deref-2.ensures.value) c.look_up-place.ensures in
    place_there c.deref-2.result.now c.args.added.now.group.now c.look_up-place.result at

pub refusal-requires-clause-held : goal.refusal-requires-clause-held
refusal-requires-clause-held c =
    let ss = c.args.index.now.shelves.items in
    let name = c.args.added.now.group.now in
    let at = subst (λ (l : List Shelf). LooksUpLine l name c.look_up-place.result) c.deref.ensures.value c.look_up-place.ensures in
    let is = subst (λ (l : List Shelf). LooksUpLine l name c.look_up-place.result → c.state_at-state.result ≡ group_state_in l name) c.deref-2.ensures.value (c.state_at-state.ensures name) at in
    subst (λ (s : GroupState). s.held ≤ MAX_GROUP_BYTES) (sym is) (state_short ss name c.look_up-place.result c.requires.sized.short at)

pub reserve-requires-clause-within : goal.reserve-requires-clause-within
reserve-requires-clause-within c =
    let ss = c.args.index.now.shelves.items in
    let name = c.args.added.now.group.now in
    let at = subst (λ (l : List Shelf). LooksUpLine l name c.look_up-place.result) c.deref.ensures.value c.look_up-place.ensures in
    let is = subst (λ (l : List Shelf). LooksUpLine l name c.look_up-place.result → c.state_at-state.result ≡ group_state_in l name) c.deref-2.ensures.value (c.state_at-state.ensures name) at in
    let none = ap (λ (s : GroupState). fault_of s c.args.added.now.start (length c.args.added.now.bytes.now)) (sym is) ∙ sym c.in_default.ensures in
    subst (λ (n : ℕ). IsWithin c.look_up-place.result n) (sym c.requires.sized.rows) (put_within ss name c.look_up-place.result c.args.added.now.start (length c.args.added.now.bytes.now) at none)
