use Rattle.std.proofs.Common.{◌∙◌, ap, sym}
use Rattle.std.{specs.Map.values_of, proofs.lemmas.Slice.Zip.AllZip-long}
use Rattle.micromap_walk.proofs.Laws.ZipLemmas.{keys_zip, values_zip}
use Rattle.micromap_walk.proofs.slots.columns.Columns.converted_keys.Goals as goal

pub invariant_of-result : goal.invariant_of-result
invariant_of-result g c = AllZip-long _ _ _ c.converted.ensures ∙ c.self.invariant

pub returns-clause-keys : goal.returns-clause-keys
returns-clause-keys g c = rw (
  ← c.self.view_is,
  keys_zip _ _ c.self.invariant,
  keys_zip _ _ (AllZip-long _ _ _ c.converted.ensures ∙ c.self.invariant),
) c.converted.ensures

pub returns-clause-values : goal.returns-clause-values
returns-clause-values g c = values_zip _ _ (AllZip-long _ _ _ c.converted.ensures ∙ c.self.invariant)
    ∙ sym (values_zip _ _ c.self.invariant) ∙ ap values_of c.self.view_is
