use Rattle.std.proofs.Common.{rules, tests}
use Rattle.oc_updown.proofs.table.Table.merge.Goals as goal

-- a certificate that is no news changes nothing, and the answer says so
pub returns-then-not-is_news-clause-news : goal.returns-then-not-is_news-clause-news
returns-then-not-is_news-clause-news c = search (tests, rules)

pub returns-then-not-is_news-clause-taken : goal.returns-then-not-is_news-clause-taken
returns-then-not-is_news-clause-taken c = λ wrong. absurd cc

pub returns-then-not-is_news-clause-changed : goal.returns-then-not-is_news-clause-changed
returns-then-not-is_news-clause-changed c = λ wrong. absurd cc
