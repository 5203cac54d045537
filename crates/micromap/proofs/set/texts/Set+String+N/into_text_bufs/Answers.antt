use Rattle.std.proofs.Common.{ap, ◌∙◌, string_bytes}
use Rattle.std.specs.Map.{keys_of}
use Rattle.micromap_core.proofs.Laws.TextLaws.{keys_texts}
use Rattle.micromap.specs.Texts.{item_texts}
use Rattle.micromap.proofs.set.texts.Set+String+N.into_text_bufs.Goals as goal

pub returns-clause-answer : goal.returns-clause-answer
returns-clause-answer g c = ap keys_of c.into_text_bufs.ensures.answer
    ∙ keys_texts string_bytes (λ v. v) c.self.inside.map ∙ ap item_texts c.self.view_is
