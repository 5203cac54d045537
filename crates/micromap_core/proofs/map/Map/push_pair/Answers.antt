use Rattle.std.proofs.Common.{refl, arith}
use Rattle.micromap_core.proofs.Laws.MapLemmas.{not_found, push-put, push-put_key, IsContent-push}
use Rattle.micromap_core.proofs.map.Map.push_pair.Goals as goal

pub push-requires : goal.push-requires
push-requires g c = (omega arith, rw c.self.view_is c.requires.room)

pub invariant_of-self : goal.invariant_of-self
invariant_of-self g c = rw c.push.ensures (IsContent-push c.self.invariant c.args.key c.args.value
    (not_found (g.K.PartialEq.eq c.args.key) c.self.inside.pairs (rw c.self.view_is c.requires.new)) (rw c.self.view_is c.requires.room))

pub returns : goal.returns
returns g c =
    let new = not_found (g.K.PartialEq.eq c.args.key) c.args.self.now c.requires.new in
    record {
      pairs = rw (c.push.ensures, c.self.view_is) refl;
      put = rw (c.push.ensures, c.self.view_is) (push-put g.K.PartialEq.eq c.args.key c.args.self.now new c.args.value);
      put_key = rw (c.push.ensures, c.self.view_is) (push-put_key g.K.PartialEq.eq c.args.key c.args.self.now new c.args.value);
      content = invariant_of-self g c;
    }
