-- A head is cut off where one of its lines is.
use Rattle.std.proofs.Common.{ℕ, ◌<◌, List, ◌++◌, subst, sym, ◌∙◌, length-append}
use Rattle.oc_base.specs.declared.limits.TheConstants.{MAX_HEAD_BYTES}
use Rattle.oc_http.specs.Lines.{IsLineCut}
use Rattle.oc_http.specs.Taking.{Took, StopsInHead}
use Rattle.oc_http.specs.Unfinished.{IsUnfinished}
use Rattle.oc_http.specs.declared.fault.HttpFault.{HttpFault}
use Rattle.oc_http.specs.declared.fault.HttpFault.TheVariants.{Source, Ended, HeadLong}
use Rattle.oc_http.proofs.Heads.{IsForm, IsUnfinished-more}

-- bytes after bytes, and a failure after bytes
pub record Joins {S : Type 0} (gives fails : S → List ℕ → S → Type 0) : Type 0 where
  pub both : (a b c : S) (x y : List ℕ) → gives a x b → gives b y c → gives a (x ++ y) c
  pub last : (a b c : S) (x y : List ℕ) → gives a x b → fails b y c → fails a (x ++ y) c

-- the bytes that were taken of a head that was cut off, and the cause
pub record IsHeadCut {S H : Type 0} (gives fails : S → List ℕ → S → Type 0) (Reads : List ℕ → H → List ℕ → Type 0) (old new : S) (done : Type 0) (fault : HttpFault) : Type 0 where
  pub taken : List ℕ
  pub took : Took gives fails old taken new fault
  pub stops : StopsInHead Reads taken done fault

pub cut_head : {S H : Type 0} {gives fails : S → List ℕ → S → Type 0} {Reads : List ℕ → H → List ℕ → Type 0} → Joins gives fails → IsForm Reads → (old middle new : S) (before : List ℕ) (done : Type 0) → gives old before middle → IsUnfinished Reads before → (fault : HttpFault) → IsLineCut gives fails middle new before done fault → IsHeadCut gives fails Reads old new done fault
cut_head joins form old middle new before done came unfinished Source cut = record {
  taken = before ++ cut.piece;
  took = joins.last old middle new before cut.piece came cut.came;
  stops = (IsUnfinished-more form before cut.piece unfinished cut.one, subst (λ (n : ℕ). n < MAX_HEAD_BYTES) (sym (length-append before cut.piece)) cut.cause);
}
cut_head joins form old middle new before done came unfinished Ended cut = record {
  taken = before ++ cut.piece;
  took = joins.both old middle new before cut.piece came cut.came;
  stops = (IsUnfinished-more form before cut.piece unfinished cut.one, subst (λ (n : ℕ). n < MAX_HEAD_BYTES) (sym (length-append before cut.piece)) cut.cause.0, cut.cause.1);
}
cut_head joins form old middle new before done came unfinished HeadLong cut = record {
  taken = before ++ cut.piece;
  took = joins.both old middle new before cut.piece came cut.came;
  stops = (IsUnfinished-more form before cut.piece unfinished cut.one, length-append before cut.piece ∙ cut.cause);
}
cut_head joins form old middle new before done came unfinished fault cut = absurd cut.cause
