-- A chunk more, and the end.
use Rattle.std.proofs.Common.{◌≡◌, ◌<◌, ℕ, List, length, min, arith, sym, ◌∙◌, subst}
use Rattle.std.proofs.lemmas.Bool.{eqb-true, eqb-false}
use Rattle.oc_chunked.specs.declared.limits.TheConstants.{WRITTEN_BYTES}
use Rattle.oc_chunked.specs.Chunked.{IsChunked}
use Rattle.oc_chunked.specs.Texts.{chunks_written}
use Rattle.oc_chunked.proofs.Written.{chunk_more, chunks_done, chunked_text-IsChunked}
use Rattle.oc_chunked.proofs.writing.chunk_text.Goals as goal

pub chunks-preserved : goal.chunks-preserved
chunks-preserved c =
    let some : 0 < length c.chunks.rest.now = omega (arith, eqb-false _ _ (sym c.is_empty.ensures ∙ c.chunks-test.true)) in
    let cut : c.min.result ≡ min (length c.chunks.rest.now) WRITTEN_BYTES = c.min.ensures in
    let step = chunk_more c.min.result c.chunks.text.items c.chunks.rest.now (chunks_written (length c.args.bytes.now) c.args.bytes.now) some cut c.chunks.invariant in
    rw (c.in_ok-put_chunk.ensures, c.split_at.ensures.front, c.split_at.ensures.back) step

pub returns-clause-text : goal.returns-clause-text
returns-clause-text c =
    let none : length c.chunks.rest.now ≡ 0 = eqb-true _ _ (sym c.is_empty.ensures ∙ c.chunks-test.false) in
    c.in_ok-put.ensures.ok ∙ chunks_done c.chunks.text.items c.chunks.rest.now c.args.bytes.now none c.chunks.invariant

pub returns-clause-chunked : goal.returns-clause-chunked
returns-clause-chunked c = subst (λ (x : List ℕ). IsChunked x c.args.bytes.now) (sym (returns-clause-text c)) (chunked_text-IsChunked c.args.bytes.now)
