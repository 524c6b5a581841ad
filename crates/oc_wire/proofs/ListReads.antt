-- Children, certificates, shelves and chunks are read exactly where their texts are there.
use Rattle.std.proofs.Common.{ℕ, ◌+◌, ◌-◌, ◌^◌, ◌<◌, ◌≤◌, ◌≡◌, ◌++◌, Bool, true, false, Option, Some, None, List, [], ◌∷◌, length, sym, subst, ◌∙◌, arith}
use Rattle.std.proofs.lemmas.Bool.{le-leb, lt-leb, leb-true, leb-false}
use Rattle.std.specs.List.{flat_map}
use Rattle.std.specs.Int.{w8, w16, w32, w64}
use Rattle.oc_base.specs.declared.cert.Child.{Child}
use Rattle.oc_base.specs.declared.limits.TheConstants.{MAX_CHECK_IN_CERTS, MAX_CHUNK_BYTES, MAX_GROUPS, MAX_GROUP_BYTES}
use Rattle.oc_base.specs.declared.shelf.Shelf.{Shelf}
use Rattle.oc_base.specs.Lawful.{IsCert, AreCerts, AreChildren}
use Rattle.oc_base.specs.Shelves.{IsShelf}
use Rattle.oc_base.specs.Spelling.{two, cert_bytes}
use Rattle.oc_base.specs.Reading.{within_at, rate_at, flag_at, cert_at, text_at, items_at, each_at}
use Rattle.oc_base.proofs.TextsAt.{Takes, wide16, wide32, wide64}
use Rattle.oc_base.proofs.FieldReads.{Reads, reads_within, reads_byte_within, reads_rate, reads_flag, reads_text}
use Rattle.oc_base.proofs.PairReads.{reads_pair, two_are, three_are, made_takes, made_again, reads_cert}
use Rattle.oc_base.proofs.ListReads.{Follow, reads_items, reads_each, reads_list}
use Rattle.oc_wire.specs.Spelling.{child_bytes, children_bytes, certs_bytes, line_bytes, have_bytes, is_large, length_bytes, text_bytes}
use Rattle.oc_wire.specs.FieldReading.{next_name_at, child_at, children_at, certs_at, line_at, have_at, chunk_length_at, chunk_bytes_at}
use Rattle.oc_wire.proofs.Ascending.{IsNextChild, are_children, children_are_next, IsNextLine, are_lines, lines_are_next}
use Rattle.oc_wire.proofs.NameReads.{reads_next_name}

-- a child after another
pub reads_child : (nodes : ℕ) (bytes : List ℕ) → (before : ℕ) → Reads nodes bytes (child_at before nodes bytes) child_bytes (IsNextChild nodes before)
unfolding child_at
reads_child nodes bytes before =
    let both = reads_pair (reads_within w32 (2 ^ 32) wide32 (before + 1) nodes nodes bytes (λ few. few)) (reads_rate nodes bytes) in
    let make : ℕ × ℕ → Child = λ x. record { id = x.0; rate = x.1 } in
    let are = two_are (within_at w32 (before + 1) nodes bytes) (rate_at bytes) (λ id rate. make (id, rate)) in
    let Q : ℕ → Child → ℕ → Type 0 = λ at child next. IsNextChild nodes before child × Takes bytes at (child_bytes child) next in
    record {
      takes = λ fits at child next e. made_takes both make (Q at) fits at child next (λ x next h t. (h, t)) (sym (are at) ∙ e);
      again = λ few at child next h t. are at ∙ made_again both make few at (child.id, child.rate) next h t;
    }

-- children
pub reads_children : (nodes : ℕ) (bytes : List ℕ) → Reads nodes bytes (children_at nodes bytes) children_bytes (λ cs. (length cs < 2 ^ 16) × AreChildren nodes cs)
unfolding children_at
reads_children nodes bytes =
    let size = reads_within w16 (2 ^ 16) wide16 0 (2 ^ 16 - 1) nodes bytes (λ few. omega arith) in
    let items = reads_items nodes bytes (λ before. child_at before nodes bytes) child_bytes (IsNextChild nodes) (λ child. child.id) (reads_child nodes bytes) 0 in
    let all = reads_list nodes bytes (within_at w16 0 (2 ^ 16 - 1) bytes) two (λ n. (0 ≤ n) × (n ≤ 2 ^ 16 - 1)) (items_at (λ before. child_at before nodes bytes) (λ child. child.id) 0) (flat_map child_bytes) (Follow (IsNextChild nodes) (λ child. child.id) 0) (λ n. omega arith) size items in
    record {
      takes = λ fits at cs next e. let t = all.takes fits at cs next e in ((omega (arith, t.0.0.1), are_children nodes cs t.0.1), t.1);
      again = λ few at cs next h t. all.again few at cs next ((omega arith, omega (arith, h.0)), children_are_next nodes cs h.1) t;
    }

-- certificates of a check-in
pub reads_certs : (nodes : ℕ) (bytes : List ℕ) → Reads nodes bytes (certs_at nodes bytes) certs_bytes (λ cs. AreCerts nodes cs × (length cs ≤ MAX_CHECK_IN_CERTS))
unfolding certs_at
reads_certs nodes bytes =
    let size = reads_byte_within 0 MAX_CHECK_IN_CERTS nodes bytes (omega arith) in
    let items = reads_each nodes bytes (cert_at nodes bytes) cert_bytes (IsCert nodes) (reads_cert nodes bytes) in
    let all = reads_list nodes bytes (within_at w8 0 MAX_CHECK_IN_CERTS bytes) (λ n. n ∷ []) (λ n. (0 ≤ n) × (n ≤ MAX_CHECK_IN_CERTS)) (each_at (cert_at nodes bytes)) (flat_map cert_bytes) (AreCerts nodes) (λ n. omega arith) size items in
    record {
      takes = λ fits at cs next e. let t = all.takes fits at cs next e in ((t.0.1, t.0.0.1), t.1);
      again = λ few at cs next h t. all.again few at cs next ((omega arith, h.1), h.0) t;
    }

-- a line after another
pub reads_line : (nodes : ℕ) (bytes : List ℕ) → (before : Option (List ℕ)) → Reads nodes bytes (line_at before bytes) line_bytes (IsNextLine before)
unfolding line_at
reads_line nodes bytes before =
    let held = reads_within w64 (2 ^ 64) wide64 0 MAX_GROUP_BYTES nodes bytes (λ few. omega arith) in
    let all = reads_pair (reads_pair (reads_next_name before nodes bytes) held) (reads_flag nodes bytes) in
    let make : ((List ℕ × ℕ) × Bool) → Shelf = λ x. record { group = x.0.0; held = x.0.1; sealed = x.1 } in
    let are = three_are (next_name_at before bytes) (within_at w64 0 MAX_GROUP_BYTES bytes) (flag_at bytes) (λ group held sealed. make ((group, held), sealed)) in
    let Q : ℕ → Shelf → ℕ → Type 0 = λ at line next. IsNextLine before line × Takes bytes at (line_bytes line) next in
    record {
      takes = λ fits at line next e. made_takes all make (Q at) fits at line next (λ x next h t. (((h.0.0.0, h.0.1.1), h.0.0.1), t)) (sym (are at) ∙ e);
      again = λ few at line next h t. are at ∙ made_again all make few at ((line.group, line.held), line.sealed) next (((h.0.0, h.1), (omega arith, h.0.1)), tt) t;
    }

-- a shelf
pub reads_have : (nodes : ℕ) (bytes : List ℕ) → Reads nodes bytes (have_at bytes) have_bytes IsShelf
unfolding have_at
reads_have nodes bytes =
    let size = reads_byte_within 0 MAX_GROUPS nodes bytes (omega arith) in
    let items = reads_items nodes bytes (λ before. line_at before bytes) line_bytes IsNextLine (λ line. Some line.group) (reads_line nodes bytes) None in
    let all = reads_list nodes bytes (within_at w8 0 MAX_GROUPS bytes) (λ n. n ∷ []) (λ n. (0 ≤ n) × (n ≤ MAX_GROUPS)) (items_at (λ before. line_at before bytes) (λ line. Some line.group) None) (flat_map line_bytes) (Follow IsNextLine (λ line. Some line.group) None) (λ n. omega arith) size items in
    record {
      takes = λ fits at ls next e. let t = all.takes fits at ls next e in ((are_lines ls t.0.1, t.0.0.1), t.1);
      again = λ few at ls next h t. all.again few at ls next ((omega arith, h.1), lines_are_next ls h.0) t;
    }

-- the length of a chunk in bytes, of many or of few
abbrev IsChunkLength : Bool → ℕ → Type 0
IsChunkLength true n = (2 ^ 16 ≤ n) × (n ≤ MAX_CHUNK_BYTES)
IsChunkLength false n = (0 ≤ n) × (n ≤ 2 ^ 16 - 1)

reads_chunk_length : (large : Bool) (nodes : ℕ) (bytes : List ℕ) → Reads nodes bytes (chunk_length_at large bytes) (length_bytes large) (IsChunkLength large)
reads_chunk_length true nodes bytes = reads_within w32 (2 ^ 32) wide32 (2 ^ 16) MAX_CHUNK_BYTES nodes bytes (λ few. omega arith)
reads_chunk_length false nodes bytes = reads_within w16 (2 ^ 16) wide16 0 (2 ^ 16 - 1) nodes bytes (λ few. omega arith)

length_some : (large : Bool) (n : ℕ) → 0 < length (length_bytes large n)
length_some true n = omega arith
length_some false n = omega arith

-- a length is that of many bytes or of few, and of no more than a chunk has
length_is : (large : Bool) (text : List ℕ) → IsChunkLength large (length text) → (is_large text ≡ large) × (length text ≤ MAX_CHUNK_BYTES)
length_is true text h = (le-leb (2 ^ 16) (length text) h.0, h.1)
length_is false text h = (lt-leb (2 ^ 16) (length text) (omega (arith, h.1)), omega (arith, h.1))

is_length : (large : Bool) (text : List ℕ) → is_large text ≡ large → length text ≤ MAX_CHUNK_BYTES → IsChunkLength large (length text)
is_length true text is few = (leb-true (2 ^ 16) (length text) is, few)
is_length false text is few = (omega arith, omega (arith, leb-false (2 ^ 16) (length text) is))

-- the bytes of a chunk, of many bytes or of few
pub reads_chunk_bytes : (large : Bool) (nodes : ℕ) (bytes : List ℕ) → Reads nodes bytes (chunk_bytes_at large bytes) text_bytes (λ text. (is_large text ≡ large) × (length text ≤ MAX_CHUNK_BYTES))
unfolding chunk_bytes_at
reads_chunk_bytes large nodes bytes =
    let all = reads_list nodes bytes (chunk_length_at large bytes) (length_bytes large) (IsChunkLength large) (text_at bytes) (λ text. text) (λ text. Unit {0}) (length_some large) (reads_chunk_length large nodes bytes) (reads_text nodes bytes) in
    record {
      takes = λ fits at text next e.
          let t = all.takes fits at text next e in
          let is = length_is large text t.0.0 in
          (is, subst (λ (b : Bool). Takes bytes at (length_bytes b (length text) ++ text) next) (sym is.0) t.1);
      again = λ few at text next h t.
          all.again few at text next (is_length large text h.0 h.1, tt) (subst (λ (b : Bool). Takes bytes at (length_bytes b (length text) ++ text) next) h.0 t);
    }
