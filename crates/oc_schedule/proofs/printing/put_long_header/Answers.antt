use Rattle.std.proofs.Common.{◌≡◌, ℕ, [], ◌∷◌, ◌++◌, List, OnOk, refl, ap, subst, sym, ◌∙◌, codes, decimal, append_assoc}
use Rattle.std.proofs.lemmas.List.{append-nil}
use Rattle.oc_base.proofs.Puts.{more, more_on_ok}
use Rattle.oc_schedule.specs.Lines.{header_with}
use Rattle.oc_schedule.specs.Texts.{fields_text, spaced}
use Rattle.oc_schedule.proofs.printing.put_long_header.Goals as goal

-- the fields of two lists of words in a row
fields_behind : (xs ys : List (List ℕ)) → fields_text (xs ++ ys) ≡ fields_text xs ++ fields_text ys
fields_behind [] ys = refl
fields_behind (x ∷ xs) ys = ap (λ t. (codes " " ++ x) ++ t) (fields_behind xs ys) ∙ sym (append_assoc (codes " " ++ x) (fields_text xs) (fields_text ys))

-- a line of words with more words at its end
spaced_on : (w : List ℕ) (xs ys : List (List ℕ)) → spaced (w ∷ xs ++ ys) ≡ spaced (w ∷ xs) ++ fields_text ys
spaced_on w xs ys = ap (λ t. w ++ t) (fields_behind xs ys) ∙ sym (append_assoc w (fields_text xs) (fields_text ys))

header_on : (nodes chain : ℕ) (ys : List (List ℕ)) → spaced (header_with nodes chain ys) ≡ spaced (header_with nodes chain []) ++ fields_text ys
header_on nodes chain ys = spaced_on (codes "overcast") (codes "1" ∷ codes "nodes" ∷ decimal nodes ∷ codes "chain" ∷ decimal chain ∷ []) ys

-- two more fields
two_fields : (a b : List ℕ) → fields_text (a ∷ b ∷ []) ≡ (codes " " ++ a) ++ (codes " " ++ b)
two_fields a b = ap (λ t. (codes " " ++ a) ++ t) (append-nil (codes " " ++ b))

pub returns : goal.returns
returns c =
    let front = spaced (header_with c.args.sizes.nodes c.args.sizes.chain []) in
    let name = codes " chunk" in
    let number : ℕ → List ℕ = λ n. codes " " ++ decimal n in
    let chunk = codes "chunk" ∷ decimal c.args.sizes.chunk ∷ [] in
    let second = more _ front name _ _ c.in_ok-put_front.ensures c.in_ok-put.ensures.ok in
    let third = more _ (front ++ name) (number c.from.result) _ _ second c.in_ok-put_number_field.ensures in
    let fields : fields_text chunk ≡ name ++ number c.args.sizes.chunk = two_fields (codes "chunk") (decimal c.args.sizes.chunk) in
    let words : (front ++ name) ++ number c.args.sizes.chunk ≡ spaced (header_with c.args.sizes.nodes c.args.sizes.chain chunk) =
    append_assoc front name (number c.args.sizes.chunk) ∙ ap (λ t. front ++ t) (sym fields) ∙ sym (header_on c.args.sizes.nodes c.args.sizes.chain chunk) in
    subst (λ (t : List ℕ). OnOk c.put-2.result (c.put-2.new.out.items ≡ c.args.out.now.items ++ t))
    (ap (λ (n : ℕ). ((front ++ name) ++ number n) ++ codes "\n") c.from.ensures ∙ ap (λ t. t ++ codes "\n") words)
    (more_on_ok c.put-2.result _ ((front ++ name) ++ number c.from.result) (codes "\n") _ _ third c.put-2.ensures.ok)
