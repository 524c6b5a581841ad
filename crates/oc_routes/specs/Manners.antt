-- The manners in which a content is asked for, and their effects.
use Rattle.std.specs.Prelude.{ℕ, Bool, ◌&&◌, ◌==◌, if◌then◌else◌, Option, Some, None, List, []}
use Rattle.oc_http.specs.declared.head.Method.{Method}
use Rattle.oc_http.specs.declared.head.Method.TheVariants as methods
use Rattle.oc_routes.specs.declared.manner.Manner.{Manner}
use Rattle.oc_routes.specs.declared.manner.Manner.TheVariants.{HeadAlone, Once, Follow}

-- the manner in which a content is asked for: a part `follow` counts in a GET of version 1.1 alone
abbrev pub manner_of : Method → ℕ → Bool → Manner
manner_of methods.Get minor follow = if follow && minor == 1 then Follow else Once
manner_of method minor follow = HeadAlone

-- the content that is sent in this manner: none for a HEAD
abbrev pub content_for : {A : Type 0} → Manner → A → Option A
content_for HeadAlone content = None
content_for manner content = Some content

-- a body, except for a HEAD
abbrev pub body_for : Manner → List ℕ → List ℕ
body_for HeadAlone text = []
body_for manner text = text
