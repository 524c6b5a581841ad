use Rattle.std.proofs.Common.{ℕ, List, [], inl, inr, refl, sym, subst}
use Rattle.std.proofs.lemmas.List.{append-nil}
use Rattle.oc_chunked.specs.Taken.{IsTaken}
use Rattle.oc_chunked.proofs.OneWay.{taken_once}
use Rattle.oc_chunked.proofs.law.a_text_is_read_in_one_way.Goals as goal

pub returns-clause-one : goal.returns-clause-one
returns-clause-one c bytes content other s t first second =
    let agrees = taken_once bytes [] content other s t first (subst (λ (x : List ℕ). IsTaken x other t) (sym (append-nil bytes)) second) (inl refl) in
    (agrees.stage, agrees.content)

pub returns-clause-last : goal.returns-clause-last
returns-clause-last c bytes more content other s t first final second =
    (taken_once bytes more content other s t first second (inr final)).none
