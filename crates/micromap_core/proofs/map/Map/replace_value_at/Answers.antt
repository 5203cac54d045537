use Rattle.micromap_core.proofs.map.Map.replace_value_at.Goals as goal

pub returns-clause-content : goal.returns-clause-content
returns-clause-content g c = c.value_at_mut.ensures.content c.replace.new.dest
