use Rattle.std.proofs.Common.{◌-◌, length, refl}
use Rattle.std.proofs.lemmas.{Map.Entries.length-keys_of, Option.slice_get-map}
use Rattle.micromap.proofs.set.Set.last.Goals as goal

pub returns : goal.returns
returns g c =
    let pairs = c.self.inside.map in
    record {
      answer = rw (
        ← c.self.view_is,
        length-keys_of pairs,
        slice_get-map (λ e. e.0) pairs (length pairs - 1),
        ← c.last.ensures.answer,
        c.in_ok-item.was,
      ) refl;
    }
