use Rattle.std.proofs.Common.{◌≡◌, ℕ, ◌+◌, ◌-◌, Some, option_map, List, drop, get_or, slice_get, Bor, refl, ap, sym, subst, ◌∙◌}
use Rattle.oc_base.specs.Lawful.{IsNode}
use Rattle.oc_merge.specs.declared.told.ToldLine.{ToldLine}
use Rattle.oc_merge.specs.AfterLineView.{view_of}
use Rattle.oc_merge.specs.Folds.{after_line}
use Rattle.oc_merge.specs.Recorded.{found_after, own_told}
use Rattle.oc_merge.specs.Records.{IsLine}
use Rattle.oc_merge.specs.Told.{Records}
use Rattle.oc_merge.proofs.Chosen.{all_at}
use Rattle.oc_merge.proofs.LinesThere.{lost_there, lost_on, some_at, taken_there, taken_on}
use Rattle.oc_merge.proofs.Taken.{read_is}
use Rattle.oc_merge.proofs.there.fold_line.Goals as goal

pub returns-in_default-clause-there : goal.returns-in_default-clause-there
returns-in_default-clause-there g c = λ l there.
    let r = c.args.records.now in
    let line = c.index-line.result.now in
    let read : line ≡ get_or r.lines c.args.place line = c.index-line.ensures ∙ ap (λ (q : Records). get_or q.lines c.args.place c.index-line.result.now) c.records.view_is in
    let same : line ≡ l = read_is r.lines c.args.place l line there read in
    let is : IsNode r.header.nodes l.node = (all_at (IsLine r.header.nodes) r.lines c.args.place l c.requires.records.lines there).0 in
    let index : c.index-at.result ≡ l.node - 1 = c.index-at.ensures.index ∙ ap (λ (k : ToldLine). k.node - 1) same in
    lost_there g.A.Alone.node g.A.Alone.digest r c.args.place c.args.folds.now c.requires.folds l there is c.index-at.result c.index-folds-at.result index (sym c.take.ensures.value ∙ c.in_default.is)

pub returns-in_default-clause-folds : goal.returns-in_default-clause-folds
returns-in_default-clause-folds g c =
    let r = c.args.records.now in
    let line = c.index-line.result.now in
    let read : line ≡ get_or r.lines c.args.place line = c.index-line.ensures ∙ ap (λ (q : Records). get_or q.lines c.args.place c.index-line.result.now) c.records.view_is in
    let at = some_at r.lines c.args.place c.requires.place in
    let l = at.0 in
    let there = at.1 in
    let same : line ≡ l = read_is r.lines c.args.place l line there read in
    let is : IsNode r.header.nodes l.node = (all_at (IsLine r.header.nodes) r.lines c.args.place l c.requires.records.lines there).0 in
    let index : c.index-at.result ≡ l.node - 1 = c.index-at.ensures.index ∙ ap (λ (k : ToldLine). k.node - 1) same in
    lost_on g.A.Alone.node g.A.Alone.digest r c.args.place c.args.folds.now c.requires.folds l there is c.index-at.result c.index-folds-at.result index c.take.new.self (sym c.take.ensures.value ∙ c.in_default.is) c.take.ensures.after

pub returns-clause-there : goal.returns-clause-there
returns-clause-there g c = λ l there.
    let r = c.args.records.now in
    let line = c.index-line.result.now in
    let read : line ≡ get_or r.lines c.args.place line = c.index-line.ensures ∙ ap (λ (q : Records). get_or q.lines c.args.place c.index-line.result.now) c.records.view_is in
    let same : line ≡ l = read_is r.lines c.args.place l line there read in
    let is : IsNode r.header.nodes l.node = (all_at (IsLine r.header.nodes) r.lines c.args.place l c.requires.records.lines there).0 in
    let index : c.index-at.result ≡ l.node - 1 = c.index-at.ensures.index ∙ ap (λ (k : ToldLine). k.node - 1) same in
    let node = g.A.Alone.node in
    let digest = g.A.Alone.digest in
    let lines_are : c.deref.result.now ≡ r.lines = c.deref.ensures.value ∙ ap (λ (q : Records). q.lines) c.records.view_is in
    let nodes_are : c.nodes.result ≡ r.header.nodes = c.nodes.ensures in
    let digits = option_map {T = Bor (List ℕ)} {U = List ℕ} (λ digits. digits.now) c.found_after-found.result in
    let found_is : digits ≡ found_after (own_told l.node (drop (c.args.place + 1) r.lines)) =
    subst (λ (ls : List ToldLine). (k : ToldLine) → slice_get ls c.args.place ≡ Some k → digits ≡ found_after (own_told k.node (drop (c.args.place + 1) ls))) lines_are c.found_after-found.ensures l there in
    let b = view_of node c.in_ok-behind.behind in
    let of : b ≡ after_line digest r.header.nodes l.node (node c.in-Some.one) l.told (found_after (own_told l.node (drop (c.args.place + 1) r.lines))) =
    c.in_ok-behind.ensures
    ∙ (ap (λ (k : ToldLine). after_line digest c.nodes.result k.node (node c.in-Some.one) k.told digits) same
    ∙ (ap (λ n. after_line digest n l.node (node c.in-Some.one) l.told digits) nodes_are
    ∙ ap (after_line digest r.header.nodes l.node (node c.in-Some.one) l.told) found_is)) in
    taken_there g.A.Alone.node g.A.Alone.digest r c.args.place c.args.folds.now c.requires.folds l there is c.index-at.result c.index-folds-at.result index c.in-Some.one (sym c.take.ensures.value ∙ c.in-Some.is) b of

pub returns-clause-folds : goal.returns-clause-folds
returns-clause-folds g c =
    let r = c.args.records.now in
    let line = c.index-line.result.now in
    let read : line ≡ get_or r.lines c.args.place line = c.index-line.ensures ∙ ap (λ (q : Records). get_or q.lines c.args.place c.index-line.result.now) c.records.view_is in
    let at = some_at r.lines c.args.place c.requires.place in
    let l = at.0 in
    let there = at.1 in
    let same : line ≡ l = read_is r.lines c.args.place l line there read in
    let is : IsNode r.header.nodes l.node = (all_at (IsLine r.header.nodes) r.lines c.args.place l c.requires.records.lines there).0 in
    let index : c.index-at.result ≡ l.node - 1 = c.index-at.ensures.index ∙ ap (λ (k : ToldLine). k.node - 1) same in
    let node = g.A.Alone.node in
    let digest = g.A.Alone.digest in
    let lines_are : c.deref.result.now ≡ r.lines = c.deref.ensures.value ∙ ap (λ (q : Records). q.lines) c.records.view_is in
    let nodes_are : c.nodes.result ≡ r.header.nodes = c.nodes.ensures in
    let digits = option_map {T = Bor (List ℕ)} {U = List ℕ} (λ digits. digits.now) c.found_after-found.result in
    let found_is : digits ≡ found_after (own_told l.node (drop (c.args.place + 1) r.lines)) =
    subst (λ (ls : List ToldLine). (k : ToldLine) → slice_get ls c.args.place ≡ Some k → digits ≡ found_after (own_told k.node (drop (c.args.place + 1) ls))) lines_are c.found_after-found.ensures l there in
    let b = view_of node c.in_ok-behind.behind in
    let of : b ≡ after_line digest r.header.nodes l.node (node c.in-Some.one) l.told (found_after (own_told l.node (drop (c.args.place + 1) r.lines))) =
    c.in_ok-behind.ensures
    ∙ (ap (λ (k : ToldLine). after_line digest c.nodes.result k.node (node c.in-Some.one) k.told digits) same
    ∙ (ap (λ n. after_line digest n l.node (node c.in-Some.one) l.told digits) nodes_are
    ∙ ap (after_line digest r.header.nodes l.node (node c.in-Some.one) l.told) found_is)) in
    taken_on g.A.Alone.node g.A.Alone.digest r c.args.place c.args.folds.now c.requires.folds l there is c.index-at.result c.index-folds-at.result index c.in-Some.one (sym c.take.ensures.value ∙ c.in-Some.is) b of c.take.new.self c.in_ok-behind.behind.node refl
