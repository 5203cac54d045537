use Rattle.std.proofs.Common.{◌∙◌, ap, arith, string_bytes}
use Rattle.micromap_core.specs.Texts.{key_texts}
use Rattle.micromap_core.proofs.{Laws.ConvertedLemmas.into_texts, Laws.Equalities.lawful_bytes}
use Rattle.micromap_core.proofs.Laws.TextLaws.{length_texts, unique_texts}
use Rattle.micromap_core.proofs.map.texts.Map+String+V+N.into_text_bufs.Goals as goal

pub invariant_of-result : goal.invariant_of-result
invariant_of-result g c = rw (into_texts string_bytes _ _ c.converted_keys.ensures.keys c.converted_keys.ensures.values) (record {
  unique = unique_texts string_bytes (λ v. v) _ c.self.invariant.unique;
  bounded = omega (arith, c.self.invariant.bounded, length_texts string_bytes (λ v. v) c.self.inside.pairs);
  lawful = lawful_bytes;
})

pub returns-clause-answer : goal.returns-clause-answer
returns-clause-answer g c = into_texts string_bytes _ _ c.converted_keys.ensures.keys c.converted_keys.ensures.values
    ∙ ap key_texts c.self.view_is

pub returns-clause-content : goal.returns-clause-content
returns-clause-content g c = invariant_of-result g c
