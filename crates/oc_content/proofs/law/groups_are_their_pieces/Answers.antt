use Rattle.oc_content.proofs.ByPieces.{bytes_are_pieces, sealed_by_zero, held_by_bodies}
use Rattle.oc_content.proofs.law.groups_are_their_pieces.Goals as goal

pub returns-clause-bytes : goal.returns-clause-bytes
returns-clause-bytes c = bytes_are_pieces

pub returns-clause-sealed : goal.returns-clause-sealed
returns-clause-sealed c = sealed_by_zero

pub returns-clause-held : goal.returns-clause-held
returns-clause-held c = held_by_bodies
