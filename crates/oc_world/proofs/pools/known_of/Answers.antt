use Rattle.std.proofs.Common.{◌≡◌, ◌-◌, ◌++◌, length, take, drop, arith}
use Rattle.std.proofs.lemmas.Bool.Decides.{Decides-eqb}
use Rattle.std.proofs.lemmas.Slice.Eq.{starts_is}
use Rattle.oc_world.proofs.Shared.{all_behind, all_held, some_held}
use Rattle.oc_world.proofs.pools.known_of.Goals as goal

-- the stored bytes from there on begin with the bytes
pub returns-then-starts_with : goal.returns-then-starts_with
returns-then-starts_with c =
    let held = c.args.held.now in
    let bytes = c.args.bytes.now in
    let behind = take (length held - c.args.start) (drop c.args.start held) in
    let begins : behind ≡ bytes ++ drop (length bytes) behind = (starts_is Decides-eqb behind bytes c.starts_with.result c.starts_with.ensures.value).0 c.if-starts_with.true in
    all_held held behind bytes c.args.start (omega arith) (all_behind held c.args.start) begins

-- the bytes begin with it
pub returns-then-starts_with-2 : goal.returns-then-starts_with-2
returns-then-starts_with-2 c =
    let held = c.args.held.now in
    let bytes = c.args.bytes.now in
    let behind = take (length held - c.args.start) (drop c.args.start held) in
    let begins : bytes ≡ behind ++ drop (length behind) bytes = (starts_is Decides-eqb bytes behind c.starts_with-else-starts_with.result c.starts_with-else-starts_with.ensures.value).0 c.if-starts_with-2.true in
    some_held held behind bytes c.args.start (omega arith) (all_behind held c.args.start) begins
