use Rattle.std.proofs.Common.{refl}
use Rattle.std.proofs.lemmas.Map.Entries.{length-keys_of}
use Rattle.micromap.proofs.Laws.ItemLemmas.{content_items}
use Rattle.micromap.proofs.set.Set.into_capacity.Goals as goal

pub returns-in-Ok-clause-refuses : goal.returns-in-Ok-clause-refuses
returns-in-Ok-clause-refuses g c = rw (← c.self.view_is, length-keys_of c.self.inside.map) c.in-Ok.ensures.refuses

pub returns-in-Err-clause-refuses : goal.returns-in-Err-clause-refuses
returns-in-Err-clause-refuses g c = rw (← c.self.view_is, length-keys_of c.self.inside.map) c.in-Err.ensures.refuses

pub returns-in-Ok-clause-content : goal.returns-in-Ok-clause-content
returns-in-Ok-clause-content g c = (content_items c.self.view_is c.in-Ok.ensures.content.0, content_items refl c.in-Ok.ensures.content.1)

pub returns-in-Err-clause-content : goal.returns-in-Err-clause-content
returns-in-Err-clause-content g c = (content_items c.self.view_is c.in-Err.ensures.content.0, tt)
