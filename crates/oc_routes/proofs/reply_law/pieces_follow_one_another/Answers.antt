use Rattle.oc_routes.proofs.PieceLaws.{given_grown, owed_then, piece_follows}
use Rattle.oc_routes.proofs.reply_law.pieces_follow_one_another.Goals as goal

pub returns : goal.returns
returns c = record { follows = piece_follows; stays = given_grown; told = owed_then }
