-- A buffer that is filled piece by piece.
use Rattle.std.proofs.Common.{◌≡◌, ℕ, ◌+◌, ◌≤◌, List, ◌++◌, length, take, drop, ap, ◌∙◌}
use Rattle.std.proofs.lemmas.List.{length-take-le, take-append-le, take_at, drop_at}
use Rattle.std.proofs.Math.Seq.{take-add}
use borrow.Rule.Slice.PartMut.{put_mid, post_of}

-- the content of the buffer after a read that follows the bytes there
pub read_behind : (done k more : ℕ) (buf part : List ℕ) → done ≤ length buf → more ≤ length part → take (done + more) (put_mid done k buf part) ≡ take done buf ++ take more part
read_behind done k more buf part within inside =
    let front = take done buf in
    let long = length-take-le done buf within in
    let behind = part ++ post_of done k buf in
    take-add done more (front ++ behind)
    ∙ ap (λ (x : List ℕ). x ++ take more (drop done (front ++ behind))) (take_at front behind done long)
    ∙ ap (λ (x : List ℕ). front ++ take more x) (drop_at front behind done long)
    ∙ ap (λ (x : List ℕ). front ++ x) (take-append-le more part (post_of done k buf) inside)
