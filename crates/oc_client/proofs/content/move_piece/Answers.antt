use Rattle.std.proofs.Common.{◌≤◌, length, take, drop, sym, arith, take-append-drop}
use Rattle.std.proofs.lemmas.List.{length-take-le}
use Rattle.oc_client.proofs.content.move_piece.Goals as goal

-- a prefix of the piece was taken, and then a call failed
pub returns-in-Err-clause-halted : goal.returns-in-Err-clause-halted
returns-in-Err-clause-halted g c =
    let piece = take c.in-Ok.count c.read.new.buf in
    let fits : c.in-Ok.count ≤ length c.read.new.buf = omega (arith, c.in-Ok.ensures.within, c.read.auto.buf) in
    let taken = c.in-Err.ensures.fails in
    record {
      bytes = piece;
      written = take taken.0 piece;
      came = c.in-Ok.ensures.gives;
      sent = taken.2;
      front = (drop taken.0 piece, sym (take-append-drop taken.0 piece));
      fits = omega (arith, c.in-Ok.ensures.within, length-take-le c.in-Ok.count c.read.new.buf fits);
      cause = tt;
    }
