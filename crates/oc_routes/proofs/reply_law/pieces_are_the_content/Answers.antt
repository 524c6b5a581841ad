use Rattle.oc_routes.proofs.PieceLaws.{owed_begun, owed_grown, piece_owed}
use Rattle.oc_routes.proofs.reply_law.pieces_are_the_content.Goals as goal

pub returns : goal.returns
returns c = record { begun = owed_begun; piece = piece_owed; stays = owed_grown }
