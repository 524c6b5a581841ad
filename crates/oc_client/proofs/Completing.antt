-- Replies that lead to a whole content are not refused.
use Rattle.std.proofs.Common.{◌≡◌, ℕ, Bool, true, Option, Some, None, List, [], ◌∷◌, ◌++◌, length, option_to_list, inl, inr, refl, sym, ap, ◌∙◌, subst, arith, length-append}
use Rattle.oc_client.specs.Addresses.{LeadsTo}
use Rattle.oc_client.specs.Completeness.{HoldsWhole, LeadToContent, IsUnrefused}
use Rattle.oc_client.specs.Conversations.{Replied, Redirects, Serves, EndsWith, EndsIn, Leads, EndsAt, wanted_after}
use Rattle.oc_client.specs.Redirecting.{IsLost, sent_to}
use Rattle.oc_client.specs.Replies.{IsBodiless, framing_of}
use Rattle.oc_client.specs.Turns.{Turn}
use Rattle.oc_client.specs.FetchOptions.{FetchOptions}
use Rattle.oc_client.specs.Wishes.{Wish, whole}
use Rattle.oc_client.specs.declared.end.GetEnd.{GetEnd}
use Rattle.oc_client.specs.declared.end.GetEnd.TheVariants as ends
use Rattle.oc_client.specs.declared.reply_framing.ReplyFraming.{ReplyFraming}
use Rattle.oc_client.specs.declared.reply_framing.ReplyFraming.TheVariants.{Counted, Chunked, ToTheEnd}
use Rattle.oc_client.specs.declared.client_state.ClientState.{ClientState}
use Rattle.oc_client.proofs.OneHead.{OneAnswer, same_head, says_more, not_headless}
use Rattle.oc_client.proofs.Spoken.{some_is}
use Rattle.oc_http.specs.declared.reply.ReplyHead.{ReplyHead}
use Rattle.url.specs.Parser.{parse_url}
use Rattle.url.specs.Parts.{Parts}

-- the reply of a turn is a prefix of all that its connection gave
pub record IsFrontOf (turn : Turn) (text : List ℕ) : Type 0 where
  pub left : List ℕ
  pub split : text ≡ turn.reply ++ left
  pub end : turn.over ≡ true → left ≡ []

abbrev pub AreFronts : List Turn → List (List ℕ) → Type 0
AreFronts [] [] = Unit {0}
AreFronts [] (text ∷ texts) = ⊥
AreFronts (turn ∷ turns) [] = ⊥
AreFronts (turn ∷ turns) (text ∷ texts) = IsFrontOf turn text × AreFronts turns texts

-- a Location leads to one URL
pub one_url : (asked : Parts) (a b : List ℕ) (u v : Parts) → a ≡ b → LeadsTo asked a u → LeadsTo asked b v → u ≡ v
one_url asked a b u v e p q = let parsed = sym p.joined ∙ ap (λ (x : List ℕ). parse_url (Some asked) x) e ∙ q.joined in cc

-- a status is one number
pub not_both : (n : ℕ) → n ≡ 200 → n ≡ 302 → ⊥
not_both n a b = absurd (omega (arith, a, b))

-- a head of a whole 200 is a 200
abbrev IsContent : FetchOptions → ReplyHead → List ℕ → Type 0
IsContent manner head behind = Serves (whole manner) head × HoldsWhole (framing_of head) behind

-- The state to which a turn led on

-- two redirections of one reply lead to one state
one_state : (state : ClientState) (h k : ReplyHead) (p q : ClientState) → h ≡ k → Redirects state h p → Redirects state k q → p ≡ q
one_state state h k p q e r s =
    let location : Some r.follows.points.text ≡ Some s.follows.points.text = sym r.follows.points.is ∙ ap (λ (x : ReplyHead). x.location) e ∙ s.follows.points.is in
    let url = one_url state.target r.follows.points.text s.follows.points.text r.follows.url s.follows.url (some_is _ _ location) r.follows.points.leads s.follows.points.leads in
    r.follows.next_is ∙ ap (λ (u : Parts). sent_to u state) url ∙ sym s.follows.next_is

-- no content is wanted after the only one
none_wanted : (length : Option ℕ) (replies : ℕ) → replies ≡ 1 → wanted_after length replies ≡ 0
none_wanted None replies one = omega arith
none_wanted (Some count) replies one = refl

-- the conversation is done where no content is wanted
none_goes_on : (wish : Wish) (state : ClientState) (through : List Turn) (content : List ℕ) (reached : ClientState) (last : Option Turn) (rest : List ℕ) (end : GetEnd) → state.replies ≡ 0 → Leads wish state through content reached → EndsAt wish reached last rest end → IsUnrefused end
none_goes_on wish state (t ∷ through) content reached last rest end none leads ends = absurd (omega (arith, leads.0, none))
none_goes_on wish state [] content reached None rest ends.Done none leads ends = tt
none_goes_on wish state [] content reached None rest ends.Memory none leads ends = tt
none_goes_on wish state [] content reached None rest ends.Link none leads ends = tt
none_goes_on wish state [] content reached None rest ends.Sink none leads ends = tt
none_goes_on wish state [] content reached None rest ends.BadUrl none leads ends = absurd ends
none_goes_on wish state [] content reached None rest (ends.Refused status) none leads ends = absurd ends
none_goes_on wish state [] content reached None rest ends.Redirects none leads ends = absurd ends
none_goes_on wish state [] content reached None rest ends.Reply none leads ends = absurd ends
none_goes_on wish state [] content reached (Some turn) rest end none leads ends =
    let same : reached.replies ≡ state.replies = ap (λ (p : ClientState). p.replies) leads.1 in
    absurd (omega (arith, ends.0, same, none))

-- The end of the last turn

-- the first bytes of a whole content after a head do not rule that content out
not_cut : (framing : ReplyFraming) (behind left : List ℕ) (over : Bool) → (over ≡ true → left ≡ []) → HoldsWhole framing (behind ++ left) → IsBodiless framing behind over → ⊥
not_cut (Counted count) behind left over end holds none =
    let nothing : length left ≡ 0 = ap length (end none.1) in
    absurd (omega (arith, length-append behind left, nothing, holds, none.0))
not_cut Chunked behind left over end holds none = absurd holds
not_cut ToTheEnd behind left over end holds none = absurd (omega (arith, length-append behind left, holds, none))

-- a 200 with a whole content
content_unrefused : OneAnswer → (manner : FetchOptions) (state : ClientState) (turn : Turn) (text : List ℕ) (written : List ℕ) (end : GetEnd) → IsFrontOf turn text → Replied text (IsContent manner) → EndsWith (whole manner) state turn.reply turn.over written end → IsUnrefused end
content_unrefused one manner state turn text written ends.Link front said ends = tt
content_unrefused one manner state turn text written ends.Sink front said ends = tt
content_unrefused one manner state turn text written ends.Memory front said ends = tt
content_unrefused one manner state turn text written ends.Done front said ends = tt
content_unrefused one manner state turn text written ends.BadUrl front said ends = absurd ends
content_unrefused one manner state turn text written (ends.Refused status) front said ends =
    let was = ends.1 in
    let same = same_head one text was.head said.head _ _ (says_more turn.reply front.left text was.head was.behind front.split was.says) said.says in
    absurd (was.so.1 (sym was.so.0 ∙ ap (λ (h : ReplyHead). h.status) same.0 ∙ said.so.0.status))
content_unrefused one manner state turn text written ends.Redirects front said ends =
    let was = ends.2 in
    let same = same_head one text was.head said.head _ _ (says_more turn.reply front.left text was.head was.behind front.split was.says) said.says in
    absurd (not_both said.head.status said.so.0.status (sym (ap (λ (h : ReplyHead). h.status) same.0) ∙ was.so.1.status))
content_unrefused one manner state turn text written ends.Reply front said (inl none) = absurd (not_headless one turn.reply front.left text turn.over said.head said.behind front.split front.end said.says none.0)
content_unrefused one manner state turn text written ends.Reply front said (inr was) =
    let same = same_head one text was.head said.head _ _ (says_more turn.reply front.left text was.head was.behind front.split was.says) said.says in
    absurd (elim was.so [
      | inl nowhere ↦ not_both said.head.status said.so.0.status (sym (ap (λ (h : ReplyHead). h.status) same.0) ∙ nowhere.0.status)
      | inr stops ↦ elim stops [
        | inl untaken ↦ untaken.0.untaken (ap (λ (h : ReplyHead). h.chunked) same.0 ∙ said.so.0.taken)
        | inr cut ↦
            let holds : HoldsWhole (framing_of was.head) (was.behind ++ front.left) = subst (λ (h : ReplyHead). HoldsWhole (framing_of h) (was.behind ++ front.left)) (sym same.0) (subst (λ (b : List ℕ). HoldsWhole (framing_of said.head) b) (sym same.1) said.so.1) in
            not_cut (framing_of was.head) was.behind front.left turn.over front.end holds cut.bodiless
      ]
    ])

-- a redirection that leads on
redirection_unrefused : OneAnswer → (manner : FetchOptions) (state next : ClientState) (turn : Turn) (text : List ℕ) (written : List ℕ) (end : GetEnd) → IsFrontOf turn text → Replied text (λ head behind. Redirects state head next) → EndsWith (whole manner) state turn.reply turn.over written end → IsUnrefused end
redirection_unrefused one manner state next turn text written ends.Link front said ends = tt
redirection_unrefused one manner state next turn text written ends.Sink front said ends = tt
redirection_unrefused one manner state next turn text written ends.Memory front said ends = tt
redirection_unrefused one manner state next turn text written ends.Done front said ends = tt
redirection_unrefused one manner state next turn text written ends.BadUrl front said ends = absurd ends
redirection_unrefused one manner state next turn text written (ends.Refused status) front said ends =
    let was = ends.1 in
    let same = same_head one text was.head said.head _ _ (says_more turn.reply front.left text was.head was.behind front.split was.says) said.says in
    absurd (was.so.2 (sym was.so.0 ∙ ap (λ (h : ReplyHead). h.status) same.0 ∙ said.so.status))
redirection_unrefused one manner state next turn text written ends.Redirects front said ends = absurd (omega (arith, ends.1, said.so.follows.may))
redirection_unrefused one manner state next turn text written ends.Reply front said (inl none) = absurd (not_headless one turn.reply front.left text turn.over said.head said.behind front.split front.end said.says none.0)
redirection_unrefused one manner state next turn text written ends.Reply front said (inr was) =
    let same = same_head one text was.head said.head _ _ (says_more turn.reply front.left text was.head was.behind front.split was.says) said.says in
    let status = ap (λ (h : ReplyHead). h.status) same.0 in
    absurd (elim was.so [
      | inl nowhere ↦
          let lost : IsLost state.target (Some said.so.follows.points.text) = subst (λ (l : Option (List ℕ)). IsLost state.target l) (ap (λ (h : ReplyHead). h.location) same.0 ∙ said.so.follows.points.is) nowhere.0.lost in
          lost said.so.follows.url said.so.follows.points.leads
      | inr stops ↦ elim stops [
        | inl untaken ↦ not_both was.head.status untaken.0.status (status ∙ said.so.status)
        | inr cut ↦ not_both was.head.status cut.passes.serves.status (status ∙ said.so.status)
      ]
    ])

-- a last turn
last_unrefused : OneAnswer → (manner : FetchOptions) (state : ClientState) (turn : Turn) (text : List ℕ) (texts : List (List ℕ)) (written : List ℕ) (end : GetEnd) → IsFrontOf turn text → LeadToContent manner state (text ∷ texts) → EndsIn (whole manner) state turn written end → IsUnrefused end
last_unrefused one manner state turn text texts written end front leads (inr cut) = subst IsUnrefused (sym cut.2) tt
last_unrefused one manner state turn text texts written end front (inl content) (inl asked) = content_unrefused one manner state turn text written end front content asked.1
last_unrefused one manner state turn text texts written end front (inr (next, said, more)) (inl asked) = redirection_unrefused one manner state next turn text written end front said asked.1

-- the end at a state
at_unrefused : OneAnswer → (manner : FetchOptions) (state : ClientState) (last : Option Turn) (texts : List (List ℕ)) (written : List ℕ) (end : GetEnd) → AreFronts (option_to_list last) texts → LeadToContent manner state texts → EndsAt (whole manner) state last written end → IsUnrefused end
at_unrefused one manner state None texts written ends.Done fronts leads ends = tt
at_unrefused one manner state None texts written ends.Memory fronts leads ends = tt
at_unrefused one manner state None texts written ends.Link fronts leads ends = tt
at_unrefused one manner state None texts written ends.Sink fronts leads ends = tt
at_unrefused one manner state None texts written ends.BadUrl fronts leads ends = absurd ends
at_unrefused one manner state None texts written (ends.Refused status) fronts leads ends = absurd ends
at_unrefused one manner state None texts written ends.Redirects fronts leads ends = absurd ends
at_unrefused one manner state None texts written ends.Reply fronts leads ends = absurd ends
at_unrefused one manner state (Some turn) [] written end fronts leads ends = absurd fronts
at_unrefused one manner state (Some turn) (text ∷ texts) written end fronts leads ends = last_unrefused one manner state turn text texts written end fronts.0 leads ends.1

-- The whole

pub unrefused : OneAnswer → (manner : FetchOptions) (state : ClientState) (through : List Turn) (content : List ℕ) (reached : ClientState) (last : Option Turn) (texts : List (List ℕ)) (rest : List ℕ) (end : GetEnd) → state.replies ≡ 1 → Leads (whole manner) state through content reached → EndsAt (whole manner) reached last rest end → AreFronts (through ++ option_to_list last) texts → LeadToContent manner state texts → IsUnrefused end
unrefused one manner state [] content reached last texts rest end wanted leads ends fronts lead =
    at_unrefused one manner state last texts rest end fronts lead (subst (λ (p : ClientState). EndsAt (whole manner) p last rest end) leads.1 ends)
unrefused one manner state (turn ∷ through) content reached last [] rest end wanted leads ends fronts lead = absurd fronts
unrefused one manner state (turn ∷ through) content reached last (text ∷ texts) rest end wanted (some, (next, first, more, goes, split, leads)) ends fronts lead =
    let was = goes.leads in
    let front = fronts.0 in
    let longer = says_more turn.reply front.left text was.head was.behind front.split was.says in
    elim was.so [
      | inr brings ↦ none_goes_on (whole manner) next through more reached last rest end (ap (λ (p : ClientState). p.replies) brings.next_is ∙ none_wanted was.head.length state.replies wanted) leads ends
      | inl redirects ↦ elim lead [
        | inl said ↦
            let same = same_head one text was.head said.head _ _ longer said.says in
            absurd (not_both said.head.status said.so.0.status (sym (ap (λ (h : ReplyHead). h.status) same.0) ∙ redirects.0.status))
        | inr led ↦
            let same = same_head one text was.head led.1.head _ _ longer led.1.says in
            let state_is = one_state state was.head led.1.head next led.0 same.0 redirects.0 led.1.so in
            let still : next.replies ≡ 1 = ap (λ (p : ClientState). p.replies) redirects.0.follows.next_is ∙ wanted in
            unrefused one manner next through more reached last texts rest end still leads ends fronts.1 (subst (λ (p : ClientState). LeadToContent manner p texts) (sym state_is) led.2)
      ]
    ]
