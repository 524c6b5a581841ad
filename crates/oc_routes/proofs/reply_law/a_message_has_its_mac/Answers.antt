use Rattle.oc_routes.proofs.MacLaws.{have_mac, read_mac}
use Rattle.oc_routes.proofs.reply_law.a_message_has_its_mac.Goals as goal

pub returns : goal.returns
returns c = record { taken = have_mac; read = read_mac }
