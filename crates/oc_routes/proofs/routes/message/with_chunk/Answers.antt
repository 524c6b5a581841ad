use Rattle.std.proofs.Common.{◌∙◌}
use Rattle.oc_routes.proofs.Brought.{put_after}
use Rattle.oc_routes.proofs.routes.message.with_chunk.Goals as goal

pub returns : goal.returns
returns c =
    put_after c.args.message.now c.args.last c.args.length_in_bytes c.connection_for-connection.result c.in_ok-text.text.items c.of.result
    c.connection_for-connection.ensures c.requires.length c.in_ok-text.ensures (c.of.ensures ∙ c.in_ok-put_message.ensures)
