-- The digest of a node's files.
use Rattle.std.specs.Prelude.{ℕ, List}
use Rattle.oc_base.specs.Groups.{shelf}
use Rattle.oc_model.specs.Node.{Node}
use Rattle.oc_replay.specs.Digests.{digest_text}

abbrev pub digest : Node → List ℕ
digest n = digest_text n.control.kept (shelf n.groups)
