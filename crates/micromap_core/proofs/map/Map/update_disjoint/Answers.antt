use Rattle.std.proofs.Common.{◌<◌, length, refl, rules, sym}
use Rattle.micromap_core.proofs.Laws.ClosureLemmas.{asks_value, update_keys_end, updates_missing, updates_stored}
use Rattle.micromap_core.proofs.Laws.MapLemmas.{IsContent-same_keys}
use Rattle.micromap_core.proofs.map.Map.update_disjoint.Goals as goal

pub update-requires : goal.update-requires
update-requires g c =
    let at = c.loop-position in
    let within : at.position < length c.args.keys.now =
    rw c.type_inv.keys c.loop-position-test.true in
    let takes = asks_value g.K.PartialEq.eq g.F.FnMut c.args.update c.args.self.now c.args.keys.now
    _ _ _ _ at.invariant c.index-keys-position.result within c.requires.callable
    c.in-Some.value.now (sym c.in-Some.ensures.answer) in
    search rules

pub loop-position-preserved : goal.loop-position-preserved
loop-position-preserved g c =
    let at = c.loop-position in
    let within : at.position < length c.args.keys.now =
    rw c.type_inv.keys c.loop-position-test.true in
    elim c.match-get_mut.branch [
      | goal.in-Some w ↦
          rw (w.self-is, w.update-is, w.found-is)
          (updates_stored g.K.PartialEq.eq g.F.FnMut c.args.update c.args.self.now c.args.keys.now _
          _ _ _ at.invariant c.index-keys-position.result within w.in-Some.value.now
          (sym w.in-Some.ensures.answer) w.update.result w.update.new.arg3 w.update.new.self
          (record {
            value = w.in-Some.value;
            shows = refl;
            left = _;
            called =
                w.update.ensures;
            leaves = refl;
          }))
      | goal.in-None w ↦
          rw (w.self-is, w.update-is, w.found-is)
          (updates_missing g.K.PartialEq.eq g.F.FnMut c.args.update c.args.self.now c.args.keys.now
          _ _ _ _ at.invariant c.index-keys-position.result within
          (sym w.in-None.ensures.answer))
    ]

pub returns : goal.returns
returns g c =
    let end = update_keys_end g.K.PartialEq.eq g.F.FnMut c.args.update c.args.self.now
    c.args.keys.now _ _ _ _ c.loop-position.invariant (search rules) in
    record {
      answer = end.0;
      pairs = end.1;
      same_keys =
          c.loop-position.invariant.same_keys;
      content =
          (c.len-known.ensures.content, IsContent-same_keys c.len-known.ensures.content _ c.loop-position.invariant.same_keys);
    }
