use Rattle.std.proofs.Common.{ap, sym, ◌∙◌, string_bytes}
use Rattle.std.specs.Map.{keys_of}
use Rattle.micromap_core.proofs.Laws.TextLaws.{keys_texts}
use Rattle.micromap.proofs.set.texts.Set+TextBuf+N.into_strings.Goals as goal

pub returns-clause-answer : goal.returns-clause-answer
returns-clause-answer g c = sym (keys_texts string_bytes (λ v. v) c.into_strings.result)
    ∙ ap keys_of c.into_strings.ensures.answer ∙ c.self.view_is
