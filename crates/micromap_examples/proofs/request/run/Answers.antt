use Rattle.std.proofs.Common.{arith}
use Rattle.std.proofs.lemmas.Grind.{common_steps}
use Rattle.std.proofs.lemmas.Result.{MatchResult-weaker, on_ok_weaker}
use Rattle.micromap_examples.specs.Heads.{names_in, EndsRun, WritesHead}
use Rattle.micromap_examples.proofs.HeadLemmas.{EndsRun-copy, true_of_front}
use Rattle.micromap_examples.proofs.request.run.Goals as goal

pub returns-clause-fault : goal.returns-clause-fault
returns-clause-fault g c =
    MatchResult-weaker c.copy_head.result c.copy_head.ensures.fault (λ _ t. t) (λ fault ends. true_of_front _ c.deref.result.now (λ text. EndsRun text (names_in c.args.arguments.now) fault) (grind (arith, common_steps)) (EndsRun-copy _ _ fault ends))

pub returns-clause-written : goal.returns-clause-written
returns-clause-written g c =
    let contents = g.W.Write.contents in
    on_ok_weaker c.copy_head.result (true_of_front _ c.deref.result.now (λ text. WritesHead text (names_in c.args.arguments.now) (contents c.args.output.now) (contents c.copy_head.new.output)) (grind (arith, common_steps))) c.copy_head.ensures.written
