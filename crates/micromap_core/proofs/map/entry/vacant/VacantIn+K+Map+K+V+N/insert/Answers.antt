use Rattle.std.proofs.Common.{[], ◌∷◌, length, refl, ap, sym, ◌∙◌, length-append, arith, rules}
use Rattle.std.proofs.lemmas.{Bool.Decides.nat_tests, Option.same_Some}
use Rattle.micromap_core.{specs.Entry.entry_put, proofs.EntryLemmas.vacant_written}
use Rattle.micromap_core.proofs.map.entry.vacant.VacantIn+K+Map+K+V+N.insert.Goals as goal

-- the pair stands last, and its value is lent
pub returns : goal.returns
unfolding entry_put
returns g c =
    let self = c.args.self in
    let new = record self.map { now = c.push_pair.new.self } in
    let written = vacant_written g.K.PartialEq.eq c.args.value new self c.len-index.result
    c.len-index.ensures.answer refl c.push_pair.ensures.pairs in (
      (refl, written.puts),
      record {
        writes_back = tt;
        answer = same_Some _ _ (sym c.value_at_mut.ensures.value ∙ written.value);
      },
    )

pub push_pair-requires : goal.push_pair-requires
push_pair-requires g c = (search rules, (c.requires.sound, grind (arith, nat_tests, c.requires.room)))

pub value_at_mut-requires : goal.value_at_mut-requires
value_at_mut-requires g c =
    let self = c.args.self in (
      search rules,
      omega (
        arith,
        c.len-index.ensures.answer,
        ap length c.push_pair.ensures.pairs,
        length-append self.map.now ((self.key, c.args.value) ∷ []),
      ),
    )
