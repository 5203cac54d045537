use Rattle.std.proofs.Common.{◌∙◌, string_bytes}
use Rattle.std.specs.declared.alloc.Global.{Global}
use Rattle.micromap_core.proofs.{Laws.ConvertedLemmas.from_texts, Laws.ConvertedLemmas.unique_from_texts, Laws.Equalities.lawful_string}
use Rattle.micromap_core.proofs.Laws.TextLaws.{length_texts}
use Rattle.micromap_core.proofs.map.texts.Map+TextBuf+V+N.into_strings.Goals as goal

pub invariant_of-result : goal.invariant_of-result
invariant_of-result g c =
    let texts = from_texts string_bytes _ _ c.converted_keys.ensures.keys c.converted_keys.ensures.values in
    record {
      unique = unique_from_texts string_bytes _ (rw texts c.self.invariant.unique);
      bounded = rw (← length_texts string_bytes (λ v. v) c.converted_keys.result, texts) c.self.invariant.bounded;
      lawful = lawful_string Global;
    }

pub returns-clause-answer : goal.returns-clause-answer
returns-clause-answer g c = from_texts string_bytes _ _ c.converted_keys.ensures.keys c.converted_keys.ensures.values ∙ c.self.view_is

pub returns-clause-content : goal.returns-clause-content
returns-clause-content g c = invariant_of-result g c
