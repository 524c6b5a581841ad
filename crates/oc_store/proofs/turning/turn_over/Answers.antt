use Rattle.std.proofs.Common.{refl}
use Rattle.std.proofs.lemmas.Result.{err_from_is_err_and}
use Rattle.oc_store.proofs.turning.turn_over.Goals as goal

-- if the snapshot was not written, the current journal is unchanged, since the calls were made on the other
pub returns-in_err-put_in_place-clause-stays : goal.returns-in_err-put_in_place-clause-stays
returns-in_err-put_in_place-clause-stays g c =
    let p = err_from_is_err_and c.from_residual.result c.from_residual.ensures.1 in
    rw p.1 refl

pub returns-in_err-put_in_place-clause-safely_err : goal.returns-in_err-put_in_place-clause-safely_err
returns-in_err-put_in_place-clause-safely_err g c =
    let p = err_from_is_err_and c.from_residual.result c.from_residual.ensures.1 in
    rw p.1 c.put_in_place.ensures.safely

pub returns-in_err-put_in_place-clause-fails : goal.returns-in_err-put_in_place-clause-fails
returns-in_err-put_in_place-clause-fails g c =
    let p = err_from_is_err_and c.from_residual.result c.from_residual.ensures.1 in
    rw p.1 c.in_err-put_in_place.ensures.fails
