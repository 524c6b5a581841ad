-- Worked examples of a client's progress lines.
use Rattle.std.specs.Prelude.{◌≡◌, true, false, [], codes}
use Rattle.oc_commands.specs.Telling.{progress_text}

pub record AreTold : Type 0 where
  pub nothing : progress_text true 0 ≡ codes "overcast: 0 bytes\n"
  pub less : progress_text false 16777215 ≡ []
  pub reached : progress_text true 16777216 ≡ codes "overcast: 16777216 bytes\novercast: 16777216 bytes\n"
  pub passed : progress_text true 50000000 ≡ codes "overcast: 16777216 bytes\novercast: 33554432 bytes\novercast: 50000000 bytes\n"
  pub undone : progress_text false 33554432 ≡ codes "overcast: 16777216 bytes\novercast: 33554432 bytes\n"
