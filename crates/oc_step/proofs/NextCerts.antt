-- The certificates of the next check-in, one record after another.
use Rattle.std.proofs.Common.{◌≡◌, ℕ, ◌+◌, ◌<◌, ◌≤◌, zero, suc, Bool, ◌||◌, nat_lt, List, [], ◌∷◌, ◌++◌, length, take, drop, get_or, refl, ap, sym, ◌∙◌, append_assoc, append-nil, arith, length-append}
use Rattle.std.specs.List.{list_any}
use Rattle.std.proofs.lemmas.Bool.{lt-ltb, le-ltb}
use Rattle.std.proofs.Math.ListN.{drop_of_length-le}
use Rattle.oc_base.specs.declared.cert.Cert.{Cert}
use Rattle.oc_model.specs.declared.record.Record.{Record}
use Rattle.oc_model.specs.ChangeLog.{waits}
use Rattle.oc_step.specs.Since.{certs_of, certs_in}
use Rattle.oc_state.proofs.Lists.{drop_at, take_again, take_all}

-- no more are put than may be
pub pushed_full : (n : ℕ) (cs ds : List Cert) → length cs ≤ n → n ≤ length cs → cs ≡ take n (cs ++ ds)
pushed_full n cs ds few full = sym (take_front n cs ds few full) where
  take_front : (n : ℕ) (cs ds : List Cert) → length cs ≤ n → n ≤ length cs → take n (cs ++ ds) ≡ cs
  take_front zero [] ds few full = refl
  take_front zero (c ∷ cs) ds few full = absurd (omega arith)
  take_front (suc n) [] ds few full = absurd (omega arith)
  take_front (suc n) (c ∷ cs) ds few full = ap (λ (zs : List Cert). c ∷ zs) (take_front n cs ds (omega arith) (omega arith))

-- nothing to put
pub pushed_none : (n : ℕ) (cs : List Cert) → length cs ≤ n → cs ≡ take n (cs ++ [])
pushed_none n cs few = sym (ap (λ (zs : List Cert). take n zs) (append-nil cs) ∙ take_all n cs few)

-- one more, where there is room
pub pushed_one : (n : ℕ) (cs : List Cert) (c : Cert) → length cs < n → cs ++ c ∷ [] ≡ take n (cs ++ c ∷ [])
pushed_one n cs c room = sym (take_all n (cs ++ c ∷ []) (omega (arith, length-append cs (c ∷ []))))

-- the rest still completes the whole after the certificate of a record was added
pub certs_go_on : (n : ℕ) (rs : List Record) (i : ℕ) (r : Record) (before after whole : List Cert) → i < length rs → r ≡ get_or rs i r → after ≡ take n (before ++ certs_of r) → take n (before ++ certs_in (drop i rs)) ≡ whole → take n (after ++ certs_in (drop (i + 1) rs)) ≡ whole
certs_go_on n rs i r before after whole within e put so =
    let rest = certs_in (drop (i + 1) rs) in
    let here : certs_in (drop i rs) ≡ certs_of r ++ rest = ap certs_in (drop_at rs i r within e) in
    rw put (take_again n (before ++ certs_of r) rest ∙ ap (λ (zs : List Cert). take n zs) (append_assoc before (certs_of r) rest) ∙ sym (ap (λ (zs : List Cert). take n (before ++ zs)) here) ∙ so)

-- no more are taken than may be
pub taken_few : (n : ℕ) (cs ds : List Cert) → cs ≡ take n ds → length cs ≤ n
taken_few n cs ds e = rw e (length_take n ds) where
  length_take : (n : ℕ) (ds : List Cert) → length (take n ds) ≤ n
  length_take zero ds = omega arith
  length_take (suc n) [] = omega arith
  length_take (suc n) (d ∷ ds) = let rest : length (take n ds) ≤ n = length_take n ds in omega arith

-- nothing is left at the end
pub certs_end : (n : ℕ) (rs : List Record) (i : ℕ) (cs whole : List Cert) → length cs ≤ n → length rs ≤ i → take n (cs ++ certs_in (drop i rs)) ≡ whole → cs ≡ whole
certs_end n rs i cs whole few over so =
    let none : drop i rs ≡ [] = drop_of_length-le rs over in
    pushed_none n cs few ∙ sym (ap (λ (qs : List Record). take n (cs ++ certs_in qs)) none) ∙ so

-- the certificates that wait, and those of the records, no more than may be
pub take_twice : (n : ℕ) (first rest made all : List Cert) → all ≡ first ++ rest → made ≡ take n (([] ++ take n first) ++ rest) → made ≡ take n all
take_twice n first rest made all e put = put ∙ take_again n first rest ∙ ap (λ (zs : List Cert). take n zs) (sym e)

-- certificates wait if the log is longer than its acknowledged part
pub waits_length : (cs : List Cert) (acked length_of : ℕ) → length_of ≡ acked + length cs → nat_lt acked length_of ≡ waits cs
waits_length [] acked length_of e = le-ltb acked length_of (omega (arith, e))
waits_length (c ∷ cs) acked length_of e = lt-ltb acked length_of (omega (arith, e))

-- certificates wait in two lists if some wait in one of them
pub waits-append : (cs ds : List Cert) → waits (cs ++ ds) ≡ (waits cs || waits ds)
waits-append [] ds = refl
waits-append (c ∷ cs) ds = refl

-- some wait among those of records where one of these has one
pub any_waits : (rs : List Record) → list_any (λ r. waits (certs_of r)) rs ≡ waits (certs_in rs)
any_waits [] = refl
any_waits (r ∷ rs) = ap (λ (b : Bool). waits (certs_of r) || b) (any_waits rs) ∙ sym (waits-append (certs_of r) (certs_in rs))
