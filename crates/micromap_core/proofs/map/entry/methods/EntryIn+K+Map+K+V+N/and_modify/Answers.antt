use Rattle.std.{proofs.Common.refl, specs.Map.Calls.MayWrite}
use Rattle.micromap_core.specs.Entry.{entry_put, with_entry_value}
use Rattle.micromap_core.proofs.{Laws.Lists.slice_get_some, EntryLemmas.occupied_written}
use Rattle.micromap_core.proofs.map.entry.methods.EntryIn+K+Map+K+V+N.and_modify.Goals as goal

-- the closure was called on the value, and left another
pub returns-in-Occupied : goal.returns-in-Occupied
unfolding entry_put
returns-in-Occupied g c =
    let o = c.in-Occupied.entry in
    let v = c.f.new.arg2 in
    let here = slice_get_some o.map.now o.index (rw c.in-Occupied.is at c.requires.sound) in
    let written = occupied_written g.K.PartialEq.eq v (with_entry_value o v).map o here.0 here.1 refl refl in
    let did : MayWrite g.F.FnOnce c.args.f c.get_mut.result.now v = record {
      lent = c.get_mut.result;
      result = c.f.result;
      left = _;
      before = refl;
      met = c.f.ensures;
      after = refl;
    } in
    rw c.in-Occupied.is (record {
      modified = record {
        same_map = written.same_map;
        pairs = rw written.value written.pairs;
        occupied = refl;
        key = written.key;
        value = rw (c.get_mut.ensures.answer, written.value) did;
        puts = written.puts;
        taken = written.taken;
        sound = written.sound;
      };
    })
