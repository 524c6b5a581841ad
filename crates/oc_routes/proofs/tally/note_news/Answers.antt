use Rattle.std.proofs.Common.{◌≡◌, ℕ, ◌+◌, ◌∙◌, Option, Some, List, set, sym, ap, arith}
use Rattle.oc_routes.specs.Tallies.{is_news_in, is_news_of}
use Rattle.oc_routes.proofs.Noted.{noted_less, noted_more}
use Rattle.oc_routes.proofs.tally.note_news.Goals as goal
use Rattle.oc_routes.proofs.tally.note_news.Goals.{then-is_news, else-is_news}

pub loop-slot-preserved : goal.loop-slot-preserved
loop-slot-preserved c =
    let second = c.args.second in
    let heard = c.args.heard.now in
    let i = c.loop-slot.slot in
    let holds = is_news_in c.args.before.now c.args.table.now.entries in
    let news : c.is_news.result ≡ holds (i + 1) = c.is_news.ensures ∙ ap (is_news_of c.args.before.now) c.entry.ensures.entry in
    elim c.if-is_news.branch [
      | then-is_news found ↦
          found.heard-is ∙ ap (λ (hs : List (Option ℕ)). set hs i (Some second)) c.loop-slot.invariant
          ∙ noted_more holds second 1 (i + 1) i heard c.loop-slot-test.true (omega arith) (sym news ∙ found.if-is_news.true)
      | else-is_news other ↦
          other.heard-is ∙ c.loop-slot.invariant ∙ noted_less holds second 1 (i + 1) i heard c.loop-slot-test.true (omega arith) (sym news ∙ other.if-is_news.false)
    ]
