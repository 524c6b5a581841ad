-- Weaker facts of a result.
use Rattle.std.proofs.Common.{Result, Ok, Err, IfOk, IfErr, OnOk}

pub ok_then : {X Y : Type 0} {P Q : X → Type 0} (r : Result X Y) → ((x : X) → P x → Q x) → IfOk r P → IfOk r Q
ok_then (Ok x) so p = so x p
ok_then (Err y) so p = tt

pub done_then : {X Y : Type 0} {P Q : Type 0} (r : Result X Y) → (P → Q) → OnOk r P → OnOk r Q
done_then (Ok x) so p = so p
done_then (Err y) so p = tt

pub err_then : {X Y : Type 0} {P Q : Y → Type 0} (r : Result X Y) → ((y : Y) → P y → Q y) → IfErr r P → IfErr r Q
err_then (Ok x) so p = tt
err_then (Err y) so p = so y p
