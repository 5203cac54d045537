use Rattle.micromap_testing.specs.Lockstep.{call_of}
use Rattle.micromap_testing.proofs.LockstepLemmas.{Leads-more, Leads-all, Leads-same, calls_more, calls_ended}
use Rattle.micromap_testing.proofs.calls.lockstep.Goals as goal

-- one more call was made on both maps
pub loop-call-preserved : goal.loop-call-preserved
loop-call-preserved g c =
    let left = rw (calls_more call_of c.args.calls.now c.loop-call.call-index c.call-item.result c.loop-call-test.true c.call-item.is) at c.loop-call.invariant in
    rw (c.perform-one.ensures.after, c.perform-other.ensures.after, c.agrees-agreed.ensures, c.perform-one.ensures.answer, c.perform-other.ensures.answer)
    (Leads-more g.K.PartialEq.eq g.V.PartialEq.eq g.row.N g.row.M c.loop-call.first c.loop-call.second c.loop-call.agreed (call_of c.call-item.result) _ _ _ _ left)

-- no call is left
pub returns-clause-answer : goal.returns-clause-answer
returns-clause-answer g c =
    Leads-all g.K.PartialEq.eq g.V.PartialEq.eq g.row.N g.row.M c.loop-call.first c.loop-call.second c.loop-call.agreed _ _ _
    (rw (calls_ended call_of c.args.calls.now c.loop-call.call-index c.loop-call-test.false) at c.loop-call.invariant)

pub returns-clause-keeps_same : goal.returns-clause-keeps_same
returns-clause-keeps_same g c =
    Leads-same g.K.PartialEq.eq g.V.PartialEq.eq g.row.N g.row.M g.met.K.Eq.laws g.met.V.Eq.laws c.loop-call.first c.loop-call.second c.loop-call.agreed _ _ _
    (rw (calls_ended call_of c.args.calls.now c.loop-call.call-index c.loop-call-test.false) at c.loop-call.invariant) c.len.ensures.content.unique c.len-2.ensures.content.unique

pub len-requires : goal.len-requires
len-requires g c = assumption

pub len-requires-2 : goal.len-requires-2
len-requires-2 g c = assumption

pub perform-one-requires : goal.perform-one-requires
perform-one-requires g c = assumption

pub perform-other-requires : goal.perform-other-requires
perform-other-requires g c = assumption

pub returns-clause-first : goal.returns-clause-first
returns-clause-first g c = (rw (calls_ended call_of c.args.calls.now c.loop-call.call-index c.loop-call-test.false) at c.loop-call.invariant).first_ends

pub returns-clause-second : goal.returns-clause-second
returns-clause-second g c = (rw (calls_ended call_of c.args.calls.now c.loop-call.call-index c.loop-call-test.false) at c.loop-call.invariant).second_ends
