-- Rules 12 (look), 15 (client) and 16 (measured) consist of the small changes.
use Rattle.std.proofs.Common.{ℕ, ◌+◌, ◌-◌, Bool, not, ◌&&◌, ◌==◌, nat_lt, nat_le, if◌then◌else◌, Option, Some, None, List}
use Rattle.std.proofs.lemmas.Bool.{cond_both}
use Rattle.oc_base.specs.declared.shelf.Shelf.{Shelf}
use Rattle.oc_model.specs.declared.answer.Answer.TheVariants as words
use Rattle.oc_model.specs.declared.message.Body.{Body}
use Rattle.oc_model.specs.declared.message.Body.TheVariants as bodies
use Rattle.oc_model.specs.declared.message.Message.{Message}
use Rattle.oc_model.specs.declared.mode.Mode.{Mode}
use Rattle.oc_model.specs.declared.mode.Mode.TheVariants as modes
use Rattle.oc_model.specs.declared.record.Record.TheVariants as records
use Rattle.oc_model.specs.declared.soft.Search.{Search}
use Rattle.oc_model.specs.declared.soft.Search.TheVariants as searches
use Rattle.oc_model.specs.declared.soft.Soft.{Soft}
use Rattle.oc_model.specs.declared.soft.TheConstants.{MAX_MOVES}
use Rattle.oc_model.specs.Adopting.{in_tree}
use Rattle.oc_model.specs.Asking.{ask_before, next_try}
use Rattle.oc_model.specs.Choice.{chosen, reviewed}
use Rattle.oc_model.specs.Looking.{Stand, parent_of, rate_to_some, children, looked, goes_down, candidates, descends, place_in, is_place, wishes, leaves_for, goes_where, weighs, view, reviews_place, prefers, keeps_line, sees_as, sees}
use Rattle.oc_model.specs.Measures.{reading_of, same_reading, with_reading}
use Rattle.oc_model.specs.Node.{Control}
use Rattle.oc_model.specs.Numbers.{capped, at, put_at}
use Rattle.oc_model.specs.Plan.{Plan, write, answers, with_soft, searching, ignored, is_member, rate_to}
use Rattle.oc_model.specs.Serving.{serves, redirects, server_for, client_of, client, may_move, measured}
use Rattle.oc_base.specs.Shelves.{line_of}
use Rattle.oc_laws_world.proofs.Machine.{IsMachine, Of}
use Rattle.oc_laws_world.proofs.WalksAsking.{walks_searching, walks_ask, walks_ask_before, walks_descend, walks_next_try}

module _ (came : ℕ → Body → Type 0) (P : Control → List Message → Type 0) (k : IsMachine came P) where
  pub walks_looked : (o : Plan) (p : ℕ) → Of P o → Of P (looked o p)
  walks_looked o p h =
      k.says o.node o.sends p (bodies.LookIs (in_tree o.node.kept.mode) (parent_of o.node.kept.mode) (rate_to_some o.node (parent_of o.node.kept.mode)) (children o.node)) tt h

  walks_goes_down : (c : Option ℕ) (o : Plan) (p : ℕ) → Of P o → Of P (goes_down c o p)
  walks_goes_down None o p h = walks_ask came P k o p h
  walks_goes_down (Some q) o p h = walks_descend came P k o q h

  walks_descends : (o : Plan) (p : ℕ) (s : Stand) → Of P o → Of P (descends o p s)
  walks_descends o p s h =
      let way : Option ℕ = chosen (rate_to o.node p) (candidates o.node s.children) in
      cond_both s.in_tree (goes_down way o p) (next_try (searching o None)) (Of P)
      (λ _. walks_goes_down way o p h) (λ _. walks_next_try came P k (searching o None) (walks_searching came P k o None h))

  walks_wishes : (o : Plan) (place : Option ℕ) (count : ℕ) → Of P o → Of P (wishes o place count)
  walks_wishes o place count h = k.soft o.node o.sends (record o.node.soft { wish = place; waits = count }) h

  walks_leaves_for : (o : Plan) (p g : ℕ) → Of P o → Of P (leaves_for o p g)
  walks_leaves_for o p g h =
      let left : Soft = record o.node.soft { left = Some p; moves = o.node.soft.moves + 1 } in
      walks_ask_before came P k (with_soft o left) g (k.soft o.node o.sends left h)

  walks_goes_where : (place : Option ℕ) (o : Plan) (p : ℕ) → Of P o → Of P (goes_where place o p)
  walks_goes_where None o p h = h
  walks_goes_where (Some g) o p h =
      cond_both (nat_lt o.node.soft.waits (o.node.soft.patience + 2)) (wishes o (Some g) (o.node.soft.waits + 1)) (leaves_for o p g) (Of P)
      (λ _. walks_wishes o (Some g) (o.node.soft.waits + 1) h) (λ _. walks_leaves_for o p g h)

  walks_weighs : (o : Plan) (p : ℕ) (place : Option ℕ) → Of P o → Of P (weighs o p place)
  walks_weighs o p place h =
      let soft : Soft = o.node.soft in
      let doubts : Bool = not (is_place place soft.wish) && nat_lt 0 soft.waits in
      let doubted : Plan = wishes o soft.wish (soft.waits - 1) in
      let wished : Plan = wishes o place soft.waits in
      cond_both (nat_le MAX_MOVES soft.moves) (wishes o None 0) (if doubts then doubted else goes_where place wished p) (Of P)
      (λ _. walks_wishes o None 0 h)
      (λ _. cond_both doubts doubted (goes_where place wished p) (Of P)
      (λ _. walks_wishes o soft.wish (soft.waits - 1) h) (λ _. walks_goes_where place wished p (walks_wishes o place soft.waits h)))

  walks_reviews_place : (o : Plan) (p : ℕ) (s : Stand) → Of P o → Of P (reviews_place o p s)
  walks_reviews_place o p s h = walks_weighs (searching o None) p (place_in (reviewed (view o.node p s))) (walks_searching came P k o None h)

  walks_keeps_line : (o : Plan) (p : ℕ) (s : Stand) → Of P o → Of P (keeps_line o p s)
  walks_keeps_line o p s h =
      cond_both (is_member o.node && prefers o.node.kept.mode p && nat_lt p o.node.me && s.in_tree) (ask_before o p) (ignored o) (Of P) (λ _. walks_ask_before came P k o p h) (λ _. h)

  walks_sees_as : (m : Mode) (search : Option Search) (o : Plan) (p : ℕ) (s : Stand) → Of P o → Of P (sees_as m search o p s)
  walks_sees_as modes.Idle (Some (searches.Descend q)) o p s h = cond_both (q == p) (descends o p s) (keeps_line o p s) (Of P) (λ _. walks_descends o p s h) (λ _. walks_keeps_line o p s h)
  walks_sees_as modes.Idle (Some searches.Review) o p s h = walks_keeps_line o p s h
  walks_sees_as modes.Idle None o p s h = walks_keeps_line o p s h
  walks_sees_as (modes.Joined q) (Some searches.Review) o p s h = cond_both (q == p) (reviews_place o p s) (keeps_line o p s) (Of P) (λ _. walks_reviews_place o p s h) (λ _. walks_keeps_line o p s h)
  walks_sees_as (modes.Joined q) (Some (searches.Descend y)) o p s h = walks_keeps_line o p s h
  walks_sees_as (modes.Joined q) None o p s h = walks_keeps_line o p s h
  walks_sees_as (modes.Asking q) search o p s h = walks_keeps_line o p s h
  walks_sees_as modes.Acting search o p s h = walks_keeps_line o p s h

  pub walks_sees : (o : Plan) (p : ℕ) (s : Stand) → Of P o → Of P (sees o p s)
  walks_sees o p s h = walks_sees_as o.node.kept.mode o.node.soft.search o p s h

  -- Clients and measures

  walks_serves : (o : Plan) (count : ℕ) → Of P o → Of P (serves o count)
  walks_serves o count h = k.soft o.node o.sends (record o.node.soft { served = capped (o.node.soft.served + 1) }) h

  walks_redirects : (to : Option ℕ) (o : Plan) (count : ℕ) → Of P o → Of P (redirects to o count)
  walks_redirects None o count h = walks_serves o count h
  walks_redirects (Some q) o count h = k.lists o.node o.sends o.node.leases o.node.rates (put_at o.node.counts q (capped (at o.node.counts q 0 + 1))) h

  walks_client_of : (l : Option Shelf) (o : Plan) (area start : ℕ) → Of P o → Of P (client_of l o area start)
  walks_client_of None o area start h = h
  walks_client_of (Some l) o area start h = walks_redirects (server_for o.node area) o (l.held - start) h

  pub walks_client : (o : Plan) (shelf : List Shelf) (area start : ℕ) (g : List ℕ) → Of P o → Of P (client o shelf area start g)
  walks_client o shelf area start g h = walks_client_of (line_of g shelf) o area start h

  pub walks_measured : (o : Plan) (p rate hops : ℕ) → Of P o → Of P (measured o p rate hops)
  walks_measured o p rate hops h =
      let is_old : Bool = same_reading (reading_of o.node.kept.measures p) (record { rate = rate; hops = hops }) in
      let wrote : Plan = write o (records.Rate p rate hops) in
      cond_both (p == o.node.me) (answers o words.Own) (if is_old then o else may_move wrote) (Of P)
      (λ _. h)
      (λ _. cond_both is_old o (may_move wrote) (Of P) (λ _. h)
      (λ _. k.soft wrote.node wrote.sends (record o.node.soft { moves = 0 }) (k.aside o.node o.sends o.node.kept.ancestors (with_reading o.node.kept.measures p (record { rate = rate; hops = hops })) h)))
