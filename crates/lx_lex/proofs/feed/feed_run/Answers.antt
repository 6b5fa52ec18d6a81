use Rattle.lx_lex.proofs.FeedRuns.{none_in_run, run_found, run_most, run_none}
use Rattle.lx_lex.proofs.feed.feed_run.Goals as goal

pub returns-then-feeds-eq0-clause-none : goal.returns-then-feeds-eq0-clause-none
returns-then-feeds-eq0-clause-none c = none_in_run c.args.bytes.now c.args.at c.requires c.if-feeds-eq0.true

pub returns-else-feeds-eq0-clause-most : goal.returns-else-feeds-eq0-clause-most
returns-else-feeds-eq0-clause-most c = run_most c.args.bytes.now c.args.at c.requires c.if-feeds-eq0.false

pub returns-else-feeds-eq0-clause-none : goal.returns-else-feeds-eq0-clause-none
returns-else-feeds-eq0-clause-none c = run_none c.args.bytes.now c.args.at c.requires c.if-feeds-eq0.false

pub returns-else-feeds-eq0-clause-found : goal.returns-else-feeds-eq0-clause-found
returns-else-feeds-eq0-clause-found c = run_found c.args.bytes.now c.args.at c.requires c.if-feeds-eq0.false
