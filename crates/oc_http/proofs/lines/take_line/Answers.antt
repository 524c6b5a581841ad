use Rattle.std.proofs.Common.{ℕ, ◌≡◌, ◌≢◌, ◌+◌, ◌<◌, List, [], ◌∷◌, ◌++◌, length, Option, vec_len, subst, sym, ap, ◌∙◌, arith, length-append, append_assoc}
use Rattle.std.proofs.lemmas.List.{append-nil}
use Rattle.std.proofs.lemmas.Result.{err_from_is_err_and}
use Rattle.oc_base.specs.declared.limits.TheConstants.{MAX_HEAD_BYTES}
use Rattle.httparse.specs.Ascii.{line_feed}
use Rattle.oc_http.specs.Bytes.{bytes_of}
use Rattle.oc_http.specs.Lines.{HasNoLineEnd}
use Rattle.oc_http.proofs.Faults.{Rose-later}
use Rattle.oc_http.proofs.lines.take_line.Goals as goal

-- the bytes before a piece and the piece are fewer than the most
short : (before piece after : List ℕ) (n : ℕ) → after ≡ before ++ piece → n ≡ length after → n < MAX_HEAD_BYTES → length before + length piece < MAX_HEAD_BYTES
short before piece after n grown long less = omega (arith, length-append before piece, ap length grown)

-- a piece came, and then a call failed
pub returns-in_err-byte-clause-cut : goal.returns-in_err-byte-clause-cut
returns-in_err-byte-clause-cut g c =
    let before = c.bytes.invariant in
    let failed = g.met.S.Source.gives_fails c.args.source.now c.bytes.source c.take_byte.new.source before.piece [] before.came c.in_err-byte.ensures.fails in
    let p = err_from_is_err_and c.from_residual.result c.from_residual.ensures.1 in
    rw (p.1, p.2) (record {
      piece = before.piece;
      one = before.one;
      came = subst (λ (x : List ℕ). g.S.Source.fails c.args.source.now x c.take_byte.new.source) (append-nil before.piece) failed;
      cause = short c.args.bytes.now.items before.piece c.bytes.bytes.items (vec_len c.bytes.bytes) before.grown c.bytes.bytes.ok.0 (omega arith);
    })

-- a piece came, and then the end
pub returns-in_default-clause-cut : goal.returns-in_default-clause-cut
returns-in_default-clause-cut g c =
    let before = c.bytes.invariant in
    let nothing = subst (λ (byte : Option ℕ). g.S.Source.gives c.bytes.source (bytes_of byte) c.take_byte.new.source) c.in_default.is c.in_ok-byte.ensures.gives in
    let both = g.met.S.Source.gives_then c.args.source.now c.bytes.source c.take_byte.new.source before.piece [] before.came nothing in
    record {
      piece = before.piece;
      one = before.one;
      came = subst (λ (x : List ℕ). g.S.Source.gives c.args.source.now x c.take_byte.new.source) (append-nil before.piece) both;
      cause = (short c.args.bytes.now.items before.piece c.bytes.bytes.items (vec_len c.bytes.bytes) before.grown c.bytes.bytes.ok.0 (omega arith), c.in_ok-byte.ensures.end c.in_default.is);
    }

-- a byte that ends no line is one more of the piece
one_more : (piece : List ℕ) (b : ℕ) → HasNoLineEnd piece → b ≢ line_feed → HasNoLineEnd (piece ++ b ∷ [])
one_more [] b one none = (none, tt)
one_more (x ∷ piece) b one none = (one.0, one_more piece b one.1 none)

pub bytes-preserved : goal.bytes-preserved
bytes-preserved g c =
    let before = c.bytes.invariant in
    let byte = c.in-Some.byte in
    let came = subst (λ (next : Option ℕ). g.S.Source.gives c.bytes.source (bytes_of next) c.take_byte.new.source) c.in-Some.is c.in_ok-byte.ensures.gives in
    record {
      piece = before.piece ++ byte ∷ [];
      one = one_more before.piece byte before.one c.if-byte-eq10.false;
      came = g.met.S.Source.gives_then c.args.source.now c.bytes.source c.take_byte.new.source before.piece (byte ∷ []) before.came came;
      grown = c.in_ok-push.ensures.items ∙ (ap (λ (x : List ℕ). x ++ byte ∷ []) before.grown ∙ append_assoc c.args.bytes.now.items before.piece (byte ∷ []));
      fits = omega (arith, c.in_ok-push.ensures.len);
      room = omega (arith, before.room);
      count = omega (arith, before.count);
    }

-- the line feed ends the line
pub returns-then-byte-eq10-clause-line : goal.returns-then-byte-eq10-clause-line
returns-then-byte-eq10-clause-line g c =
    let before = c.bytes.invariant in
    let byte = c.in-Some.byte in
    let came = subst (λ (next : Option ℕ). g.S.Source.gives c.bytes.source (bytes_of next) c.take_byte.new.source) c.in-Some.is c.in_ok-byte.ensures.gives in
    let both = g.met.S.Source.gives_then c.args.source.now c.bytes.source c.take_byte.new.source before.piece (byte ∷ []) before.came came in
    let grown = c.in_ok-push.ensures.items ∙ (ap (λ (x : List ℕ). x ++ byte ∷ []) before.grown ∙ append_assoc c.args.bytes.now.items before.piece (byte ∷ [])) in
    record {
      line = before.piece;
      one = before.one;
      came = subst (λ (b : ℕ). g.S.Source.gives c.args.source.now (before.piece ++ b ∷ []) c.take_byte.new.source) c.if-byte-eq10.true both;
      grown = subst (λ (b : ℕ). c.push.new.self.items ≡ c.args.bytes.now.items ++ (before.piece ++ b ∷ [])) c.if-byte-eq10.true grown;
      fits = omega (arith, c.push.new.self.ok.0, c.in_ok-push.ensures.len);
    }

-- no byte came yet
pub bytes-init : goal.bytes-init
bytes-init g c = record {
  piece = [];
  one = tt;
  came = g.met.S.Source.gives_nothing c.args.source.now;
  grown = sym (append-nil c.args.bytes.now.items);
  fits = c.requires.short;
  room = c.requires.room;
  count = omega arith;
}

pub bytes-smaller : goal.bytes-smaller
bytes-smaller g c = omega (arith, c.in_ok-push.ensures.len, c.bytes-test.true, c.len.ensures)

-- the room stays
pub returns-in_err-byte-clause-room : goal.returns-in_err-byte-clause-room
returns-in_err-byte-clause-room g c = c.bytes.invariant.room

pub returns-in_default-clause-room : goal.returns-in_default-clause-room
returns-in_default-clause-room g c = c.bytes.invariant.room

pub returns-then-byte-eq10-clause-room : goal.returns-then-byte-eq10-clause-room
returns-then-byte-eq10-clause-room g c = omega (arith, c.bytes.invariant.room)

pub returns-clause-room : goal.returns-clause-room
returns-clause-room g c = c.bytes.invariant.room

-- calls that failed
pub returns-in_err-byte-clause-count : goal.returns-in_err-byte-clause-count
returns-in_err-byte-clause-count g c = omega (arith, c.bytes.invariant.count, c.take_byte.ensures.count)

pub returns-in_default-clause-count : goal.returns-in_default-clause-count
returns-in_default-clause-count g c = omega (arith, c.bytes.invariant.count, c.take_byte.ensures.count)

pub returns-then-byte-eq10-clause-count : goal.returns-then-byte-eq10-clause-count
returns-then-byte-eq10-clause-count g c = omega (arith, c.bytes.invariant.count, c.take_byte.ensures.count)

pub returns-clause-count : goal.returns-clause-count
returns-clause-count g c = c.bytes.invariant.count

pub returns-in_err-byte-clause-cause : goal.returns-in_err-byte-clause-cause
returns-in_err-byte-clause-cause g c = λ is. Rose-later _ _ _ c.bytes.invariant.count c.in_err-byte.ensures.cause

pub returns-in_default-clause-cause : goal.returns-in_default-clause-cause
returns-in_default-clause-cause g c = λ is. cc

-- as many bytes as a head may have, without the end of the line
pub returns-clause-cut : goal.returns-clause-cut
returns-clause-cut g c =
    let before = c.bytes.invariant in
    record {
      piece = before.piece;
      one = before.one;
      came = before.came;
      cause = omega (arith, ap length before.grown, length-append c.args.bytes.now.items before.piece, c.bytes.bytes.ok.0, c.bytes-test.false, c.len.ensures, before.fits);
    }
