use Rattle.std.proofs.{Common.refl, Common.sym, Common.Some, lemmas.Option.same_Some}
use Rattle.micromap_core.specs.Entry.{AnswersOfKey}
use Rattle.micromap_core.proofs.map.entry.methods.EntryIn+K+Map+K+V+N.or_insert_with_key.Goals as goal

-- the value that was put is what the call answered of the held key
pub returns-in-Vacant : goal.returns-in-Vacant
returns-in-Vacant g c =
    let of-held : AnswersOfKey g.F.FnOnce c.args.default (Some c.in-Vacant.entry.key) c.insert.result.now =
    rw c.insert.ensures.answer (_, c.default-value.ensures, sym (same_Some _ _ c.key.ensures)) in (
      (refl, λ w. rw c.in-Vacant.is refl),
      record {
        writes_back = tt;
        answer = rw c.in-Vacant.is of-held;
      },
    )

-- the stored value is lent
pub returns-in-Occupied : goal.returns-in-Occupied
returns-in-Occupied g c = (
  (refl, λ w. rw c.in-Occupied.is refl),
  record {
    writes_back = tt;
    answer = rw (c.in-Occupied.is, c.into_mut.ensures.answer) refl;
  },
)
