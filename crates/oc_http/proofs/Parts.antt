-- Parts of a text, one after the other.
use Rattle.std.proofs.Common.{◌≡◌, ℕ, ◌+◌, ◌<◌, List, [], ◌∷◌, ◌++◌, length, take, get_or, refl, sym, ap, ◌∙◌, append_assoc, append-nil}
use Rattle.std.specs.Borrow.{Bor}
use Rattle.std.proofs.lemmas.List.{take_more}
use Rattle.oc_http.specs.Parts.{joined}

joined-append : (xs ys : List (Bor (List ℕ))) → joined (xs ++ ys) ≡ joined xs ++ joined ys
joined-append [] ys = refl
joined-append (x ∷ xs) ys = ap (λ (l : List ℕ). x.now ++ l) (joined-append xs ys) ∙ sym (append_assoc x.now (joined xs) (joined ys))

-- one part more
pub joined_more : (parts : List (Bor (List ℕ))) (i : ℕ) (d : Bor (List ℕ)) → i < length parts → joined (take i parts) ++ (get_or parts i d).now ≡ joined (take (i + 1) parts)
joined_more parts i d inside =
    ap (λ (l : List ℕ). joined (take i parts) ++ l) (sym (append-nil (get_or parts i d).now))
    ∙ (sym (joined-append (take i parts) (get_or parts i d ∷ [])) ∙ ap joined (sym (take_more parts i d inside)))

-- a request in parts, of which some are several texts
pub request_joined : (first name end type count host digits m1 m2 m3 mac body one two : List ℕ) → one ≡ first ++ name → two ≡ end ++ type ++ count → m1 ++ m2 ++ m3 ≡ mac →
    one ++ (host ++ (two ++ (digits ++ (end ++ (m1 ++ (m2 ++ (m3 ++ (end ++ (body ++ []))))))))) ≡ (first ++ (name ++ host ++ end) ++ type ++ (count ++ digits ++ end) ++ (mac ++ end)) ++ body
request_joined first name end type count host digits m1 m2 m3 mac body one two a b c = rw (a, b, ← c) (simp (append_assoc, append-nil))

-- a download's request in parts
pub get_joined : (get path mark query version name host end target two three : List ℕ) → two ≡ version ++ name → three ≡ end ++ end → target ≡ mark ++ query →
    get ++ (path ++ (mark ++ (query ++ (two ++ (host ++ (three ++ [])))))) ≡ get ++ (path ++ target) ++ version ++ (name ++ host ++ end) ++ end
get_joined get path mark query version name host end target two three a b c = rw (a, b, c) (simp (append_assoc, append-nil))

-- a request that follows a group, in parts
pub follow_joined : (get path start digits follow mark area version name host end target two three : List ℕ) → two ≡ version ++ name → three ≡ end ++ end → target ≡ mark ++ area →
    get ++ (path ++ (start ++ (digits ++ (follow ++ (mark ++ (area ++ (two ++ (host ++ (three ++ []))))))))) ≡ get ++ (path ++ start ++ digits ++ follow ++ target) ++ version ++ (name ++ host ++ end) ++ end
follow_joined get path start digits follow mark area version name host end target two three a b c = rw (a, b, c) (simp (append_assoc, append-nil))

-- a reply's head in parts
head_joined : (v d s n e l1 l2 l3 a h r1 r2 r3 t1 t2 t3 q1 q2 q3 w1 w2 w3 x g1 g2 g3 c1 c2 c3 k m1 m2 m3 : List ℕ) →
    v ++ (d ++ ((s ++ n ++ e) ++ (l1 ++ (l2 ++ (l3 ++ (a ++ (h ++ (r1 ++ (r2 ++ (r3 ++ (t1 ++ (t2 ++ (t3 ++ (q1 ++ (q2 ++ (q3 ++ (w1 ++ (w2 ++ (w3 ++ (x ++ (g1 ++ (g2 ++ (g3 ++ (c1 ++ (c2 ++ (c3 ++ (k ++ (m1 ++ (m2 ++ (m3 ++ (e ++ []))))))))))))))))))))))))))))))) ≡ (v ++ d ++ s ++ n ++ e) ++ (l1 ++ l2 ++ l3) ++ a ++ h ++ (r1 ++ r2 ++ r3) ++ (t1 ++ t2 ++ t3) ++ (q1 ++ q2 ++ q3) ++ (w1 ++ w2 ++ w3) ++ x ++ (g1 ++ g2 ++ g3) ++ (c1 ++ c2 ++ c3) ++ k ++ ((m1 ++ m2 ++ m3) ++ e)
head_joined v d s n e l1 l2 l3 a h r1 r2 r3 t1 t2 t3 q1 q2 q3 w1 w2 w3 x g1 g2 g3 c1 c2 c3 k m1 m2 m3 = simp (append_assoc, append-nil)

-- a reply's head in the lines that the parts make
pub head_is : (v d s p e l1 l2 l3 a h r1 r2 r3 t1 t2 t3 q1 q2 q3 w1 w2 w3 x g1 g2 g3 c1 c2 c3 k m1 m2 m3 number phrase location allow challenge rule type range tag accepts group content connection mac : List ℕ) →
    d ≡ number → p ≡ s ++ phrase ++ e → l1 ++ l2 ++ l3 ≡ location → a ≡ allow → h ≡ challenge → r1 ++ r2 ++ r3 ≡ rule → t1 ++ t2 ++ t3 ≡ type → q1 ++ q2 ++ q3 ≡ range → w1 ++ w2 ++ w3 ≡ tag → x ≡ accepts → g1 ++ g2 ++ g3 ≡ group → c1 ++ c2 ++ c3 ≡ content → k ≡ connection → m1 ++ m2 ++ m3 ≡ mac →
    v ++ (d ++ (p ++ (l1 ++ (l2 ++ (l3 ++ (a ++ (h ++ (r1 ++ (r2 ++ (r3 ++ (t1 ++ (t2 ++ (t3 ++ (q1 ++ (q2 ++ (q3 ++ (w1 ++ (w2 ++ (w3 ++ (x ++ (g1 ++ (g2 ++ (g3 ++ (c1 ++ (c2 ++ (c3 ++ (k ++ (m1 ++ (m2 ++ (m3 ++ (e ++ []))))))))))))))))))))))))))))))) ≡ (v ++ number ++ s ++ phrase ++ e) ++ location ++ allow ++ challenge ++ rule ++ type ++ range ++ tag ++ accepts ++ group ++ content ++ connection ++ (mac ++ e)
head_is v d s p e l1 l2 l3 a h r1 r2 r3 t1 t2 t3 q1 q2 q3 w1 w2 w3 x g1 g2 g3 c1 c2 c3 k m1 m2 m3 number phrase location allow challenge rule type range tag accepts group content connection mac e1 e2 e3 e4 e5 e6 e7 e8 e9 e10 e11 e12 e13 e14 =
    rw e2 (head_joined v d s phrase e l1 l2 l3 a h r1 r2 r3 t1 t2 t3 q1 q2 q3 w1 w2 w3 x g1 g2 g3 c1 c2 c3 k m1 m2 m3 ∙ rw (e1, e3, e4, e5, e6, e7, e8, e9, e10, e11, e12, e13, e14))
