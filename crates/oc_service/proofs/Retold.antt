-- The end of a run, with its output stated in other relations that follow.
use Rattle.std.proofs.Common.{ℕ, Option, List, [], ◌∷◌, ap}
use Rattle.oc_config.specs.Settings.{Settings}
use Rattle.oc_io.specs.DiskView.{DiskView}
use Rattle.oc_keep.specs.Files.{Disks}
use Rattle.oc_keep.specs.declared.errors.KeepLoad.{KeepLoad}
use Rattle.oc_link.specs.declared.call.Call.{Call}
use Rattle.oc_link.specs.declared.counts.LinkCounts.{LinkCounts}
use Rattle.oc_model.specs.Node.{Header, Node}
use Rattle.oc_deeds.specs.Deeds.{Deed}
use Rattle.oc_server.specs.Moments.{AtEachPrefix, node_after}
use Rattle.oc_deeds.specs.Under.{Under}
use Rattle.oc_server.specs.Scenes.{WritesAt}
use Rattle.oc_deeds.specs.declared.ends.TurnEnd.{TurnEnd}
use Rattle.oc_deeds.specs.declared.ends.TurnEnd.TheVariants as ends
use Rattle.oc_service.specs.AtAnyMoment.{AlwaysRecovers}
use Rattle.oc_service.specs.OnSite.{DidOn, OnRun, StoppedOn, WasDeaf, at_run}
use Rattle.oc_service.specs.declared.running.Task.{Task}

-- all that the first says of a run the second says too
pub record TellsRun (r q : OnRun) : Type 0 where
  pub refused : (error : KeepLoad) → r.refused error → q.refused error
  pub did : (deeds : List Deed) → r.did deeds → q.did deeds
  pub stopped : (end : TurnEnd) (deeds : List Deed) (under : Under) → r.stopped end deeds under → q.stopped end deeds under
  pub deaf : r.deaf → q.deaf

-- An output that is seen as another one: each takes the bytes that the other takes
module _ {D K J : Type 0} (view : D → DiskView) (takes fails : K → List ℕ → K → Type 0) (adds adds_less : J → List ℕ → J → Type 0) (seen : K → J)
    (added : (a b : K) (text : List ℕ) → takes a text b → adds (seen a) text (seen b)) (added_less : (a b : K) (text : List ℕ) → fails a text b → adds_less (seen a) text (seen b)) where
  -- the statement at each prefix of deeds
  prefix_retold : (h : Header) (me : ℕ) (says : Deed → List ℕ) (ds : List Deed) (n : Node) (d : Disks D) (s : K) (e : Disks D) (t : K)
      → AtEachPrefix view h me takes says ds n d s e t → AtEachPrefix view h me adds says ds n d (seen s) e (seen t)
  prefix_retold h me says [] n d s e t (k, looks, same) = (k, looks, ap seen same)
  prefix_retold h me says (x ∷ xs) n d s e t (k, at, next, u, looks, taken, text, rest) =
      (k, at, next, seen u, looks, taken, added s u (says x) text, prefix_retold h me says xs (node_after x n) next u e t rest)

  -- the statement at every moment
  recovers_retold : (h : Header) (me : ℕ) (says : Deed → List ℕ) (ds : List Deed) (under : Under) (d e : Disks D) (s t : K)
      → AlwaysRecovers view h me takes says ds under d e s t → AlwaysRecovers view h me adds says ds under d e (seen s) (seen t)
  recovers_retold h me says ds under d e s t r = record {
    loaded = r.loaded;
    done = r.done;
    load = r.load;
    prefixes = prefix_retold h me says ds _ r.loaded s r.done t r.prefixes;
    ends = r.ends;
  }

  -- the statement after the last deed
  rest_retold : (s t : K) (end : TurnEnd) (text line : List ℕ) → WritesAt takes fails s t end text line → WritesAt adds adds_less (seen s) (seen t) end text line
  rest_retold s t ends.Sink text line (front, is, cut) = (front, is, added_less s t _ cut)
  rest_retold s t ends.Served text line h = added s t text h
  rest_retold s t ends.Link text line h = added s t text h
  rest_retold s t ends.Disk text line h = added s t text h
  rest_retold s t ends.Full text line h = added s t text h
  rest_retold s t ends.Memory text line h = added s t text h

  module _ {L : Type 0} (story : L → Option (List Call)) (counts : L → LinkCounts) (c : Settings) (task : Task) (old new : Disks D) (link after : L) (s t : K) where
    did_retold : (deeds : List Deed) → DidOn view story counts takes c task deeds old new link after s t → DidOn view story counts adds c task deeds old new link after (seen s) (seen t)
    did_retold deeds did = record {
      told = did.told;
      many = did.many;
      are = did.are;
      heard = did.heard;
      calls = did.calls;
      replies = did.replies;
      failures = did.failures;
      recorded = did.recorded;
      areas = did.areas;
      within = did.within;
      counted = did.counted;
      goes_on = did.goes_on;
      survives = did.survives;
      moments = λ honest. recovers_retold _ task.me _ deeds _ old new s t (did.moments honest);
    }

    stopped_retold : (end : TurnEnd) (deeds : List Deed) (under : Under) → StoppedOn view story counts takes fails c task end deeds under old new link after s t
        → StoppedOn view story counts adds adds_less c task end deeds under old new link after (seen s) (seen t)
    stopped_retold end deeds under stopped = record {
      told = stopped.told;
      last = stopped.last;
      few = stopped.few;
      cut = stopped.cut;
      heard = stopped.heard;
      last_heard = stopped.last_heard;
      last_reread = stopped.last_reread;
      calls = stopped.calls;
      replies = stopped.replies;
      failures = stopped.failures;
      recorded = stopped.recorded;
      areas = stopped.areas;
      within = stopped.within;
      counted = stopped.counted;
      goes_on = stopped.goes_on;
      leaves = stopped.leaves;
      so_far = seen stopped.so_far;
      rest = rest_retold stopped.so_far t end [] _ stopped.rest;
      moments = λ honest. recovers_retold _ task.me _ deeds under old new s stopped.so_far (stopped.moments honest);
      cause = stopped.cause;
    }

    deaf_retold : WasDeaf view story counts takes c task old new link after s t → WasDeaf view story counts adds c task old new link after (seen s) (seen t)
    deaf_retold deaf = record {
      goes_on = deaf.goes_on;
      survives = deaf.survives;
      moments = λ honest. recovers_retold _ task.me _ [] _ old new s t (deaf.moments honest);
      calls = deaf.calls;
      counted = deaf.counted;
    }

    pub run_retold : TellsRun (at_run view story counts takes fails c task old new link after s t) (at_run view story counts adds adds_less c task old new link after (seen s) (seen t))
    run_retold = record { refused = λ error h. h; did = did_retold; stopped = stopped_retold; deaf = deaf_retold }
