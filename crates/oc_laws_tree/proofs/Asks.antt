-- The effect of a move, an ask and a yes, each on the node that takes it.
use Rattle.std.proofs.Common.{◌≡◌, ℕ, ◌+◌, ◌≤◌, ◌<◌, Bool, true, false, not, ◌&&◌, ◌||◌, ◌==◌, nat_lt, nat_le, if◌then◌else◌, Option, Some, None, List, [], ◌∷◌, ◌++◌, refl, ap, sym, subst, ◌∙◌, arith, eq-eqb, ne_eqb, lt-ltb}
use Rattle.std.specs.Option.{option_or}
use Rattle.oc_base.specs.declared.cert.Cert.{Cert}
use Rattle.oc_base.specs.declared.rank.Rank.{Rank}
use Rattle.oc_base.specs.declared.refusal.Refusal.{Refusal}
use Rattle.oc_base.specs.declared.refusal.Refusal.TheVariants as refusals
use Rattle.oc_base.specs.Rank.{beneath_of}
use Rattle.oc_base.specs.declared.limits.TheConstants.{MAX_DEPTH}
use Rattle.oc_model.specs.declared.answer.Answer.TheVariants as words
use Rattle.oc_model.specs.declared.message.Body.TheVariants.{Ask, Yes}
use Rattle.oc_model.specs.declared.mode.Mode.TheVariants.{Asking, Joined}
use Rattle.oc_model.specs.declared.record.Record.TheVariants as records
use Rattle.oc_model.specs.Adopting.{in_tree, is_acting, raises, raises_over, host, birth, has_lease, grants, sends_rejoin, adopts, answers_ask, asked_at, asked}
use Rattle.oc_model.specs.Adoption.{precedes, rank_or_last, precedes_any, chain_child, chain_refusal, rank_refusal, adoption_refusal}
use Rattle.oc_model.specs.Asking.{lost, send_ask, set_tries, ask_before, is_asking, ancestors_by, joins, took_yes, notes_parent, relocate}
use Rattle.oc_model.specs.Heal.{epoch_in}
use Rattle.oc_model.specs.ChangeLog.{begun_with}
use Rattle.oc_model.specs.Node.{Control, Durable}
use Rattle.oc_model.specs.Numbers.{number_end, raise, has}
use Rattle.oc_model.specs.Plan.{Plan, begun, write, answers, searching, is_member}
use Rattle.oc_model.specs.Table.{is_news, merge}
use Rattle.oc_laws_tree.proofs.Checks.{from_to, HasSameRest}
use Rattle.oc_laws_tree.proofs.Core.{core_of, asking}
use Rattle.oc_laws_tree.proofs.Line.{IsTop}

-- The move

-- a node asks q under its next number
pub record SendsAsk (n : Control) (q : ℕ) (o : Plan) : Type 0 where
  pub core : core_of o.node ≡ asking (core_of n) q
  pub rest : HasSameRest n o.node
  pub sends : o.sends ≡ from_to n.me q (Ask (n.kept.seq + 1) n.kept.rank) ∷ []

-- a node that may go beneath q and has a number left asks q
pub move_sends : (n : Control) (q : ℕ) → (q ≡ n.me → ⊥) → (n.me ≡ 1 → ⊥) → (is_member n ≡ true → nat_lt n.me q ≡ false) → (n.kept.seq ≡ number_end → ⊥) → SendsAsk n q (relocate (begun n) q)
move_sends n q other first earlier more =
    let o : Plan = begun n in
    let not_own : (q == n.me) ≡ false = ne_eqb q n.me other in
    let not_first : (n.me == 1) ≡ false = ne_eqb n.me 1 first in
    let room : (n.kept.seq == number_end) ≡ false = ne_eqb n.kept.seq number_end more in
    let free : (n.me == 1 || (is_member n && nat_lt n.me q)) ≡ false = ap (λ b. b || (is_member n && nat_lt n.me q)) not_first ∙ by_member (is_member n) earlier in
    let goes : relocate o q ≡ ask_before (notes_parent o) q =
    ap (λ b. if b then answers o words.Own else if n.me == 1 || (is_member n && nat_lt n.me q) then answers o words.Fixed else ask_before (notes_parent o) q) not_own
    ∙ ap (λ b. if b then answers o words.Fixed else ask_before (notes_parent o) q) free in
    let tried : Plan = set_tries (notes_parent o) (Some q) in
    let asks : ask_before (notes_parent o) q ≡ send_ask (searching (write tried (records.Ask (n.kept.seq + 1) q)) None) q =
    ap (λ b. if b then answers (lost tried) words.Spent else send_ask (searching (write tried (records.Ask (n.kept.seq + 1) q)) None) q) room in
    subst (SendsAsk n q) (sym (goes ∙ asks)) record { core = refl; rest = record { table = refl; leases = refl; clock = refl }; sends = refl } where
      by_member : (b : Bool) → (b ≡ true → nat_lt n.me q ≡ false) → (b && nat_lt n.me q) ≡ false
      by_member true less = less refl
      by_member false less = refl

-- The ask

-- the host before it answers: a root may have raised its epoch over the asker's
abbrev pub raised_host : Control → ℕ → Option Rank → Plan
raised_host n x r = raises_over (begun n) x (rank_or_last r)

-- the same node with another rank
pub record HasRaised (n : Control) (o : Plan) : Type 0 where
  pub core : core_of o.node ≡ record (core_of n) { rank = o.node.kept.rank }
  pub rest : HasSameRest n o.node
  pub sends : o.sends ≡ []

-- a node that is no root raises nothing
pub raised_none : (n : Control) (x : ℕ) (r : Option Rank) → is_acting n.kept.mode ≡ false → raised_host n x r ≡ begun n
raised_none n x r other = ap (λ b. if b && not (precedes (rank_or_last n.kept.rank) (rank_or_last r)) && not (x == n.me) then raises (begun n) (raise (rank_or_last r).epoch) else begun n) other

pub begun_raised : (n : Control) → HasRaised n (begun n)
begun_raised n = record { core = refl; rest = record { table = refl; leases = refl; clock = refl }; sends = refl }

-- a root has risen over the asker
pub record HasRisenOver (n : Control) (r : Option Rank) (most : ℕ) (o : Plan) : Type 0 where
  pub raised : HasRaised n o
  pub top : IsTop o.node.kept.rank
  pub above : precedes_any (rank_or_last o.node.kept.rank) r ≡ true
  pub epoch : epoch_in o.node.kept.rank ≤ most

-- a rank that precedes another one precedes it too where none counts as the last
any_of : (a : Rank) (r : Option Rank) → precedes a (rank_or_last r) ≡ true → precedes_any a r ≡ true
any_of a None e = refl
any_of a (Some b) e = e

pub root_raised : (n : Control) (x : ℕ) (r : Option Rank) (most : ℕ) → is_acting n.kept.mode ≡ true → IsTop n.kept.rank → (x ≡ n.me → ⊥) → (rank_or_last r).epoch < number_end → epoch_in n.kept.rank ≤ most → (rank_or_last r).epoch + 1 ≤ most
    → HasRisenOver n r most (raised_host n x r)
root_raised n x r most acts top other room own more = by_test (precedes (rank_or_last n.kept.rank) (rank_or_last r)) refl where
  o : Plan
  o = begun n

  by_test : (b : Bool) → precedes (rank_or_last n.kept.rank) (rank_or_last r) ≡ b → HasRisenOver n r most (raised_host n x r)
  by_test true e =
      let still : raised_host n x r ≡ begun n =
      ap (λ b. if is_acting n.kept.mode && not b && not (x == n.me) then raises (begun n) (raise (rank_or_last r).epoch) else begun n) e
      ∙ ap (λ b. if b && false && not (x == n.me) then raises (begun n) (raise (rank_or_last r).epoch) else begun n) acts in
      subst (HasRisenOver n r most) (sym still) record { raised = begun_raised n; top = top; above = any_of (rank_or_last n.kept.rank) r e; epoch = own }
  by_test false e =
      let last : ((rank_or_last r).epoch == number_end) ≡ false = ne_eqb (rank_or_last r).epoch number_end (λ f. omega (arith, f, room)) in
      let next : raise (rank_or_last r).epoch ≡ Some ((rank_or_last r).epoch + 1) = ap (λ b. if b then None else Some ((rank_or_last r).epoch + 1)) last in
      let higher : raised_host n x r ≡ write (begun n) (records.Epoch ((rank_or_last r).epoch + 1)) =
      ap (λ b. if is_acting n.kept.mode && not b && not (x == n.me) then raises (begun n) (raise (rank_or_last r).epoch) else begun n) e
      ∙ (ap (λ b. if b && true && not (x == n.me) then raises (begun n) (raise (rank_or_last r).epoch) else begun n) acts
      ∙ (ap (λ b. if true && true && not b then raises (begun n) (raise (rank_or_last r).epoch) else begun n) (ne_eqb x n.me other) ∙ ap (raises (begun n)) next)) in
      let new : Rank = record { epoch = (rank_or_last r).epoch + 1; depth = 0 } in
      let over : precedes new (rank_or_last r) ≡ true = ap (λ b. b || ((rank_or_last r).epoch + 1 == (rank_or_last r).epoch && nat_lt 0 (rank_or_last r).depth)) (lt-ltb (rank_or_last r).epoch ((rank_or_last r).epoch + 1) (omega arith)) in
      subst (HasRisenOver n r most) (sym higher) record {
        raised = record { core = refl; rest = record { table = refl; leases = refl; clock = refl }; sends = refl };
        top = (new, refl, refl);
        above = any_of new r over;
        epoch = more;
      }

-- the host adopts the asker
pub record MayAdopt (n : Control) (x : ℕ) (r : Option Rank) : Type 0 where
  pub other : x ≡ n.me → ⊥
  pub placed : in_tree n.kept.mode ≡ true
  pub stranger : has n.kept.ancestors x ≡ false
  pub shallow : nat_le MAX_DEPTH (rank_or_last n.kept.rank).depth ≡ false
  pub line : chain_refusal (host n x) x (chain_child n.kept.table n.me n.chain x) ≡ None
  pub above : precedes_any (rank_or_last n.kept.rank) r ≡ true

not_refused : (n : Control) (x : ℕ) (r : Option Rank) → MayAdopt n x r → adoption_refusal (host n x) x r ≡ None
not_refused n x r may =
    let own : Rank = rank_or_last n.kept.rank in
    let line : Option Refusal = option_or (chain_refusal (host n x) x (chain_child n.kept.table n.me n.chain x)) (rank_refusal own r) in
    ap (λ b. if b then Some refusals.Own else if not (in_tree n.kept.mode) then Some refusals.NotJoined else if has n.kept.ancestors x then Some refusals.Ancestor else if nat_le MAX_DEPTH own.depth then Some refusals.Depth else line) (ne_eqb x n.me may.other)
    ∙ (ap (λ b. if not b then Some refusals.NotJoined else if has n.kept.ancestors x then Some refusals.Ancestor else if nat_le MAX_DEPTH own.depth then Some refusals.Depth else line) may.placed
    ∙ (ap (λ b. if b then Some refusals.Ancestor else if nat_le MAX_DEPTH own.depth then Some refusals.Depth else line) may.stranger
    ∙ (ap (λ b. if b then Some refusals.Depth else line) may.shallow
    ∙ (ap (λ c. option_or c (rank_refusal own r)) may.line ∙ ap (λ b. if b then None else Some refusals.Rank) may.above))))

-- the lease is granted, and the yes is sent
pub record TakesAsk (n : Control) (x seq : ℕ) (o : Plan) : Type 0 where
  pub core : core_of o.node ≡ core_of n
  pub table : o.node.kept.table ≡ merge n.kept.table (birth x seq n.me)
  pub sends : o.sends ≡ from_to n.me x (Yes seq (rank_or_last n.kept.rank) n.kept.ancestors) ∷ []

adopted : (o : Plan) (x seq : ℕ) → o.sends ≡ [] → has_lease o.node x seq ≡ false → is_news o.node.kept.table (birth x seq o.node.me) ≡ true → TakesAsk o.node x seq (adopts o x seq)
adopted o x seq none fresh news =
    let born : Cert = birth x seq o.node.me in
    let entered : Plan = write o (records.Entry born) in
    let goes : adopts o x seq ≡ grants entered x seq =
    ap (λ b. if b then grants o x seq else if is_news o.node.kept.table born then grants entered x seq else sends_rejoin o x seq) fresh
    ∙ ap (λ b. if b then grants entered x seq else sends_rejoin o x seq) news in
    subst (TakesAsk o.node x seq) (sym goes) record { core = refl; table = refl; sends = ap (λ ms. ms ++ from_to o.node.me x (Yes seq (rank_or_last o.node.kept.rank) o.node.kept.ancestors) ∷ []) none }

pub ask_taken : (n : Control) (x seq : ℕ) (r : Option Rank) (o : Plan) → raised_host n x r ≡ o → o.sends ≡ [] → MayAdopt o.node x r → has_lease o.node x seq ≡ false → is_news o.node.kept.table (birth x seq o.node.me) ≡ true
    → TakesAsk o.node x seq (asked (begun n) x seq r)
ask_taken n x seq r o raised none may fresh news =
    let goes : asked (begun n) x seq r ≡ adopts o x seq = ap (λ q. asked_at q x seq r) raised ∙ ap (λ why. answers_ask why o x seq) (not_refused o.node x r may) in
    subst (TakesAsk o.node x seq) (sym goes) (adopted o x seq none fresh news)

-- a host that refuses stays as it is
pub ask_refused : (n : Control) (x seq : ℕ) (r : Option Rank) (o : Plan) → raised_host n x r ≡ o → (adoption_refusal (host o.node x) x r ≡ None → ⊥) → (asked (begun n) x seq r).node ≡ o.node
ask_refused n x seq r o raised refuses = ap (λ q. (asked_at q x seq r).node) raised ∙ by_answer (adoption_refusal (host o.node x) x r) refl where
  by_answer : (why : Option Refusal) → adoption_refusal (host o.node x) x r ≡ why → (answers_ask why o x seq).node ≡ o.node
  by_answer None e = absurd (refuses e)
  by_answer (Some why) e = refl

-- a refusal for the order of the chain is a refusal
pub line_refuses : (n : Control) (x k : ℕ) (r : Option Rank) → chain_refusal (host n x) x (chain_child n.kept.table n.me n.chain x) ≡ Some (refusals.Chain k) → adoption_refusal (host n x) x r ≡ None → ⊥
line_refuses n x k r line none = by_tests (x == n.me) (not (in_tree n.kept.mode)) (has n.kept.ancestors x) (nat_le MAX_DEPTH (rank_or_last n.kept.rank).depth) none where
  own : Rank
  own = rank_or_last n.kept.rank

  by_tests : (a b c d : Bool) → (if a then Some refusals.Own else if b then Some refusals.NotJoined else if c then Some refusals.Ancestor else if d then Some refusals.Depth
      else option_or (chain_refusal (host n x) x (chain_child n.kept.table n.me n.chain x)) (rank_refusal (rank_or_last n.kept.rank) r)) ≡ None → ⊥
  by_tests true b c d e = absurd cc
  by_tests false true c d e = absurd cc
  by_tests false false true d e = absurd cc
  by_tests false false false true e = absurd cc
  by_tests false false false false e =
      let clash : Some (refusals.Chain k) ≡ None = ap (λ o. option_or o (rank_refusal (rank_or_last n.kept.rank) r)) (sym line) ∙ e in
      absurd cc

-- The yes

-- the asker is joined to its parent
pub record TakesYes (n : Control) (q : ℕ) (told : Rank) (xs : List ℕ) (o : Plan) : Type 0 where
  pub core : core_of o.node ≡ record (core_of n) { mode = Joined q; rank = Some (beneath_of told); ancestors = ancestors_by q xs; wish = None }
  pub rest : HasSameRest n o.node

pub yes_taken : (n : Control) (q : ℕ) (told : Rank) (xs : List ℕ) → n.kept.mode ≡ Asking q → (n.kept.seq ≡ 0 → ⊥) → told.depth < MAX_DEPTH → precedes_any told n.kept.rank ≡ true → TakesYes n q told xs (took_yes (begun n) q n.kept.seq told xs)
yes_taken n q told xs asks some shallow above =
    let here : (is_asking n.kept.mode q && n.kept.seq == n.kept.seq && nat_lt told.depth MAX_DEPTH && precedes_any told n.kept.rank) ≡ true =
    rw (asks, eq-eqb q q refl, eq-eqb n.kept.seq n.kept.seq refl, lt-ltb told.depth MAX_DEPTH shallow, above) refl in
    let number : (n.kept.seq == 0) ≡ false = ne_eqb n.kept.seq 0 some in
    subst (λ (b : Bool). TakesYes n q told xs (if b then joins (begun n) q told xs else answers (begun n) words.Ignored)) (sym here)
    record {
      core = ap (λ b. core_of (record n { kept = record (kept_if b) { ancestors = ancestors_by q xs }; soft = record n.soft { wish = None } })) number;
      rest = record { table = ap (λ b. (kept_if b).table) number; leases = refl; clock = refl };
    } where
      kept_if : Bool → Durable
      kept_if b = if b then n.kept else record n.kept { mode = Joined q; rank = Some (beneath_of told); log = begun_with n.kept.table }
