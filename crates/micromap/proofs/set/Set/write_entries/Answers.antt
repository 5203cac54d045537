use Rattle.micromap.proofs.Laws.SetStreamLemmas.{entries_of-keys}
use Rattle.micromap.proofs.set.Set.write_entries.Goals as goal

pub returns-clause-whole : goal.returns-clause-whole
returns-clause-whole g c = rw (← c.self.view_is, entries_of-keys) c.write_entries.ensures.whole

pub returns-clause-beginning : goal.returns-clause-beginning
returns-clause-beginning g c = rw (← c.self.view_is, entries_of-keys) c.write_entries.ensures.beginning
