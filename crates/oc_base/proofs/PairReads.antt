-- Fields one after the other are read exactly where their texts are there, one after the other.
use Rattle.std.proofs.Common.{◌≡◌, ℕ, Bool, ◌+◌, ◌^◌, ◌<◌, List, ◌++◌, length, Result, Ok, Err, refl, sym, subst, ◌∙◌, arith}
use Rattle.std.specs.Int.{w32}
use Rattle.oc_base.specs.declared.cert.Cert.{Cert}
use Rattle.oc_base.specs.declared.rank.Rank.{Rank}
use Rattle.oc_base.specs.declared.limits.TheConstants.{MAX_DEPTH}
use Rattle.oc_base.specs.Lawful.{IsRank, IsCert}
use Rattle.oc_base.specs.Spelling.{rank_bytes, cert_bytes}
use Rattle.oc_base.specs.Steps.{◌>>=◌}
use Rattle.oc_base.specs.Reading.{Reading, one_field, two_fields, three_fields, four_fields, six_fields, within_at, id_at, count_at, long_at, flag_at, rank_at, cert_at}
use Rattle.oc_base.proofs.TextsAt.{IsBytes, Takes, takes_both, takes_first, takes_second, bind_ok, ok_is, wide32}
use Rattle.oc_base.proofs.FieldReads.{Reads, reads_within, reads_id, reads_count, reads_long, reads_flag}

-- two readings one after the other, as a reading of the pair
abbrev pub pair_at : {A B : Type 0} → (ℕ → Reading A) → (ℕ → Reading B) → ℕ → Reading (A × B)
pair_at first second at = two_fields first second (λ a b. (a, b)) at

-- reading a pair gives exactly the lawful pairs that are there
pub reads_pair : {A B : Type 0} {nodes : ℕ} {bytes : List ℕ} {first : ℕ → Reading A} {second : ℕ → Reading B} {ta : A → List ℕ} {tb : B → List ℕ} {P : A → Type 0} {Q : B → Type 0} → Reads nodes bytes first ta P → Reads nodes bytes second tb Q
    → Reads nodes bytes (pair_at first second) (λ x. ta x.0 ++ tb x.1) (λ x. P x.0 × Q x.1)
reads_pair {A = A} {B = B} {bytes = bytes} {first = first} {second = second} {ta = ta} {tb = tb} {P = P} {Q = Q} r s = record {
  takes = λ fits at x next e.
      let a = bind_ok (first at) (λ a. second a.1 >>= λ b. Ok ((a.0, b.0), b.1)) (x, next) e in
      let b = bind_ok (second a.0.1) (λ b. Ok ((a.0.0, b.0), b.1)) (x, next) a.2 in
      let t = r.takes fits at a.0.0 a.0.1 a.1 in
      let u = s.takes fits a.0.1 b.0.0 b.0.1 b.1 in
      let made : (A × B) × ℕ = ((a.0.0, b.0.0), b.0.1) in
      let whole = takes_both bytes at (ta a.0.0) a.0.1 (tb b.0.0) b.0.1 t.1 u.1 in
      subst (λ (y : (A × B) × ℕ). (P y.0.0 × Q y.0.1) × Takes bytes at (ta y.0.0 ++ tb y.0.1) y.1) (ok_is made (x, next) b.2) ((t.0, u.0), whole);
  again = λ few at x next h t.
      let one = r.again few at x.0 (at + length (ta x.0)) h.0 (takes_first bytes at (ta x.0) (tb x.1) next t) in
      let two = s.again few (at + length (ta x.0)) x.1 next h.1 (takes_second bytes at (ta x.0) (tb x.1) next t) in
      rw (one, two) refl;
}

-- steps regrouped
pub bind_assoc : {A B C F : Type 0} (r : Result A F) (f : A → Result B F) (g : B → Result C F) → ((r >>= f) >>= g) ≡ (r >>= λ x. f x >>= g)
bind_assoc (Ok x) f g = refl
bind_assoc (Err fault) f g = refl

-- fields are pairs of pairs
pub two_are : {A B Y : Type 0} (r : ℕ → Reading A) (s : ℕ → Reading B) (make : A → B → Y) (at : ℕ) → two_fields r s make at ≡ one_field (pair_at r s) (λ x. make x.0 x.1) at
two_are r s make at = sym (simp bind_assoc)

-- the same with three fields
pub three_are : {A B C Y : Type 0} (r : ℕ → Reading A) (s : ℕ → Reading B) (t : ℕ → Reading C) (make : A → B → C → Y) (at : ℕ) → three_fields r s t make at ≡ one_field (pair_at (pair_at r s) t) (λ x. make x.0.0 x.0.1 x.1) at
three_are r s t make at = sym (simp bind_assoc)

-- with four
pub four_are : {A B C D Y : Type 0} (r : ℕ → Reading A) (s : ℕ → Reading B) (t : ℕ → Reading C) (u : ℕ → Reading D) (make : A → B → C → D → Y) (at : ℕ) → four_fields r s t u make at ≡ one_field (pair_at (pair_at (pair_at r s) t) u) (λ x. make x.0.0.0 x.0.0.1 x.0.1 x.1) at
four_are r s t u make at = sym (simp bind_assoc)

-- the same with six fields
pub six_are : {A B C D E G Y : Type 0} (r : ℕ → Reading A) (s : ℕ → Reading B) (t : ℕ → Reading C) (u : ℕ → Reading D) (v : ℕ → Reading E) (w : ℕ → Reading G) (make : A → B → C → D → E → G → Y) (at : ℕ)
    → six_fields r s t u v w make at ≡ one_field (pair_at (pair_at (pair_at (pair_at (pair_at r s) t) u) v) w) (λ x. make x.0.0.0.0.0 x.0.0.0.0.1 x.0.0.0.1 x.0.0.1 x.0.1 x.1) at
six_are r s t u v w make at = sym (simp bind_assoc)

-- a value that was made has the fields that were read
pub made_takes : {A Y : Type 0} {nodes : ℕ} {bytes : List ℕ} {read : ℕ → Reading A} {text : A → List ℕ} {P : A → Type 0} → Reads nodes bytes read text P → (make : A → Y) (Q : Y → ℕ → Type 0) → IsBytes bytes → (at : ℕ) (y : Y) (next : ℕ)
    → ((x : A) (next : ℕ) → P x → Takes bytes at (text x) next → Q (make x) next) → one_field read make at ≡ Ok (y, next) → Q y next
made_takes {A = A} {Y = Y} {read = read} r make Q fits at y next has e =
    let a = bind_ok (read at) (λ a. Ok (make a.0, a.1)) (y, next) e in
    let t = r.takes fits at a.0.0 a.0.1 a.1 in
    let made : Y × ℕ = (make a.0.0, a.0.1) in
    subst (λ (z : Y × ℕ). Q z.0 z.1) (ok_is made (y, next) a.2) (has a.0.0 a.0.1 t.0 t.1)

-- fields that are there are read, and the value is made
pub made_again : {A Y : Type 0} {nodes : ℕ} {bytes : List ℕ} {read : ℕ → Reading A} {text : A → List ℕ} {P : A → Type 0} → Reads nodes bytes read text P → (make : A → Y) → nodes < 2 ^ 32 → (at : ℕ) (x : A) (next : ℕ)
    → P x → Takes bytes at (text x) next → one_field read make at ≡ Ok (make x, next)
made_again r make few at x next h t = rw (r.again few at x next h t) refl

-- a rank
pub reads_rank : (nodes : ℕ) (bytes : List ℕ) → Reads nodes bytes (rank_at bytes) rank_bytes IsRank
unfolding rank_at
reads_rank nodes bytes =
    let depth = reads_within w32 (2 ^ 32) wide32 0 MAX_DEPTH nodes bytes (λ few. omega arith) in
    let both = reads_pair (reads_long nodes bytes) depth in
    let make : ℕ × ℕ → Rank = λ x. record { epoch = x.0; depth = x.1 } in
    let Q : ℕ → Rank → ℕ → Type 0 = λ at rank next. IsRank rank × Takes bytes at (rank_bytes rank) next in
    let are = two_are (long_at bytes) (within_at w32 0 MAX_DEPTH bytes) (λ epoch depth. make (epoch, depth)) in
    record {
      takes = λ fits at rank next e. made_takes both make (Q at) fits at rank next (λ x next h t. ((h.0, h.1.1), t)) (sym (are at) ∙ e);
      again = λ few at rank next h t. are at ∙ made_again both make few at (rank.epoch, rank.depth) next (h.0, (omega arith, h.1)) t;
    }

-- a certificate
pub reads_cert : (nodes : ℕ) (bytes : List ℕ) → Reads nodes bytes (cert_at nodes bytes) cert_bytes (IsCert nodes)
unfolding cert_at
reads_cert nodes bytes =
    let id = reads_id nodes bytes in
    let long = reads_long nodes bytes in
    let lease = reads_pair (reads_pair (reads_pair id (reads_count nodes bytes)) id) (reads_flag nodes bytes) in
    let all = reads_pair (reads_pair lease long) long in
    let make : (((((ℕ × ℕ) × ℕ) × Bool) × ℕ) × ℕ) → Cert = λ x. record { subject = x.0.0.0.0.0; seq = x.0.0.0.0.1; parent = x.0.0.0.1; dead = x.0.0.1; number = x.0.1; clients = x.1 } in
    let Q : ℕ → Cert → ℕ → Type 0 = λ at cert next. IsCert nodes cert × Takes bytes at (cert_bytes cert) next in
    let are = six_are (id_at nodes bytes) (count_at bytes) (id_at nodes bytes) (flag_at bytes) (long_at bytes) (long_at bytes) (λ subject seq parent dead number clients. make (((((subject, seq), parent), dead), number), clients)) in
    record {
      takes = λ fits at cert next e. made_takes all make (Q at) fits at cert next (λ x next h t. (record { subject = h.0.0.0.0.0; seq = h.0.0.0.0.1; parent = h.0.0.0.1; number = h.0.1; clients = h.1 }, t)) (sym (are at) ∙ e);
      again = λ few at cert next h t. are at ∙ made_again all make few at (((((cert.subject, cert.seq), cert.parent), cert.dead), cert.number), cert.clients) next (((((h.subject, h.seq), h.parent), tt), h.number), h.clients) t;
    }
