use Rattle.std.proofs.Common.{◌≡◌, ◌++◌, codes}
use Rattle.oc_base.specs.declared.limits.TheConstants.{MAX_GROUPS}
use Rattle.oc_routes.specs.Json.{number_text, quoted}
use Rattle.oc_routes.proofs.Texts.{last_field, then_field, then_put}
use Rattle.oc_routes.proofs.routes.status.put_program.Goals as goal

-- one field after the other
pub returns : goal.returns
returns c =
    let about = c.args.about.now in
    let out = c.args.out.now.items in
    let version : c.put_quoted.new.out.items ≡ c.put.new.out.items ++ quoted about.version.now = rw c.as_bytes.ensures.value at c.in_ok-put_quoted.ensures in
    last_field _ out _ _ _ (codes ",\"groups_limit\":") (number_text MAX_GROUPS)
    (then_field out _ _ _ (codes ",\"started\":") (number_text about.started)
    (then_put out _ _ (codes ",\"version\":") (quoted about.version.now) c.in_ok-put.ensures.ok version)
    c.in_ok-put_field.ensures) c.put_field-2.ensures
