use Rattle.std.proofs.Common.{rules}
use Rattle.micromap_tests.proofs.tests.operations.evens.Goals as goal

pub returns : goal.returns
returns g c = search (rules, c.collect.ensures.runs, c.filter.ensures.runs, c.copied.ensures.runs, c.union.ensures.runs, c.union.ensures.items)
