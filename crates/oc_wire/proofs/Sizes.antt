-- A lawful message fits in the body of a request.
use Rattle.std.proofs.Common.{◌≡◌, ℕ, ◌*◌, ◌≤◌, Bool, true, false, Some, None, List, [], ◌∷◌, length, refl, ap, ◌∙◌, arith}
use Rattle.std.specs.List.{flat_map}
use Rattle.std.proofs.lemmas.List.{length-append}
use Rattle.std.proofs.lemmas.List.Concat.{flat_map-cons}
use Rattle.oc_base.specs.declared.cert.Cert.{Cert}
use Rattle.oc_base.specs.declared.cert.Child.{Child}
use Rattle.oc_base.specs.declared.limits.TheConstants.{MAX_NODES, MAX_BODY_BYTES}
use Rattle.oc_base.specs.declared.refusal.Refusal.TheVariants as refusals
use Rattle.oc_base.specs.declared.shelf.Shelf.{Shelf}
use Rattle.oc_base.specs.Shelves.{IsLine, AreLines}
use Rattle.oc_base.specs.Spelling.{four, cert_bytes}
use Rattle.oc_model.specs.Lawful.{IsBody, IsMessage}
use Rattle.oc_model.specs.declared.message.Body.{Body}
use Rattle.oc_model.specs.declared.message.Body.TheVariants.{Look, LookIs, Ask, Yes, No, CheckIn, CheckAck, Rejoin, Fetch, Chunk}
use Rattle.oc_model.specs.declared.message.Message.{Message}
use Rattle.oc_wire.specs.Spelling.{child_bytes, line_bytes, is_large, length_bytes, fields_bytes, spelling}
use Rattle.oc_wire.proofs.Ascending.{few_children}
use Rattle.oc_wire.proofs.NameReads.{name_size}

-- the texts of ids have four bytes for each
ids_size : (ids : List ℕ) → length (flat_map four ids) ≡ 4 * length ids
ids_size [] = refl
ids_size (id ∷ ids) = ap (λ (x : List ℕ). length x) (flat_map-cons four id ids) ∙ omega (arith, ids_size ids)

children_size : (cs : List Child) → length (flat_map child_bytes cs) ≡ 12 * length cs
children_size [] = refl
children_size (c ∷ cs) = ap (λ (x : List ℕ). length x) (flat_map-cons child_bytes c cs) ∙ omega (arith, children_size cs)

certs_size : (cs : List Cert) → length (flat_map cert_bytes cs) ≡ 33 * length cs
certs_size [] = refl
certs_size (c ∷ cs) = ap (λ (x : List ℕ). length x) (flat_map-cons cert_bytes c cs) ∙ omega (arith, certs_size cs)

line_size : (l : Shelf) → IsLine l → length (line_bytes l) ≤ 210
line_size l is = simp length-append (omega (arith, (name_size l.group is.0).1))

lines_size : (ls : List Shelf) → AreLines ls → length (flat_map line_bytes ls) ≤ 210 * length ls
lines_size [] h = omega arith
lines_size (l ∷ ls) h = omega (arith, ap (λ (x : List ℕ). length x) (flat_map-cons line_bytes l ls), length-append (line_bytes l) (flat_map line_bytes ls), line_size l h.0, lines_size ls h.2)

-- the length of a text takes at most four bytes
length_size : (large : Bool) (n : ℕ) → length (length_bytes large n) ≤ 4
length_size true n = omega arith
length_size false n = omega arith

-- the fields of a lawful body have at most 600,000 bytes
fields_size : (nodes : ℕ) (b : Body) → nodes ≤ MAX_NODES → IsBody nodes b → length (fields_bytes b) ≤ 600000
fields_size nodes Look few h = omega arith
fields_size nodes (LookIs in_tree None rate children) few h = omega (arith, children_size children, few_children nodes children h.2, few)
fields_size nodes (LookIs in_tree (Some id) rate children) few h = omega (arith, children_size children, few_children nodes children h.2, few)
fields_size nodes (Ask seq None) few h = omega arith
fields_size nodes (Ask seq (Some rank)) few h = omega arith
fields_size nodes (Yes seq rank ancestors) few h = omega (arith, ids_size ancestors, h.2.1)
fields_size nodes (No seq refusals.Own) few h = omega arith
fields_size nodes (No seq refusals.NotJoined) few h = omega arith
fields_size nodes (No seq refusals.Ancestor) few h = omega arith
fields_size nodes (No seq refusals.Depth) few h = omega arith
fields_size nodes (No seq (refusals.Chain k)) few h = omega arith
fields_size nodes (No seq refusals.Rank) few h = omega arith
fields_size nodes (CheckIn seq upto rate number clients certs) few h = omega (arith, certs_size certs, h.6)
fields_size nodes (CheckAck seq upto rank ancestors) few h = omega (arith, ids_size ancestors, h.3.1)
fields_size nodes (Rejoin seq) few h = omega arith
fields_size nodes (Fetch have) few h = omega (arith, lines_size have h.0, h.1)
fields_size nodes (Chunk group start piece last) few h = simp length-append (omega (arith, (name_size group h.0).1, length_size (is_large piece) (length piece), h.2))

-- a message fits in a request
pub fits_a_request : (nodes : ℕ) (m : Message) → nodes ≤ MAX_NODES → IsMessage nodes m → length (spelling m) ≤ MAX_BODY_BYTES
fits_a_request nodes m few h = omega (arith, fields_size nodes m.body few h.body)
