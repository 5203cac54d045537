use Rattle.std.proofs.{Common.rules, Common.Ok, Common.Some, Padding.displays_at_plain}
use Rattle.std.specs.Fmt.{◌++?◌}
use Rattle.micromap_core.specs.Print.{map_text, pair_text}
use Rattle.micromap_core.proofs.Laws.PrintLemmas.{failed_plain, failed_styled, printing_begins, printing_ends, printing_more}
use Rattle.micromap_core.proofs.Laws.PrintLemmas.{styled_append, styled_from, with_options, WritesAs}
use Rattle.micromap_core.proofs.UnstyledLemmas.{unstyled_writes}
use Rattle.micromap_core.proofs.map.print.MapDisplay.fmt.Goals as goal

pub loop-key-init : goal.loop-key-init
loop-key-init g c =
    let took = g.W.Write.write_str_gives in
    let e = c.args.f.now in
    let begins = printing_begins (WritesAs took e) (pair_text g.K.Display.output g.V.Display.output)
    (styled_append took e) e c.write_str.new.self c.args.self.now (λ same. c.in_ok-write_str.ensures.styled) in
    record {
      utf8 = search rules;
      printing = rw c.into_iter-key-iterator.ensures.into_iter_gives.0 begins;
    }

pub loop-key-preserved : goal.loop-key-preserved
loop-key-preserved g c =
    let took = g.W.Write.write_str_gives in
    let e = c.args.f.now in
    let text = Some c.loop-key.lead.now ++? pair_text g.K.Display.output g.V.Display.output (c.in-Some.key.now, c.in-Some.value.now) in
    let wrote = with_options took e c.loop-key.f _ (Ok tt) (λ options. text)
    (unstyled_writes took _ _ _ text (λ same. search rules) c.in_ok-write.ensures.writes) in
    record {
      utf8 = search rules;
      printing = printing_more (WritesAs took e) (pair_text g.K.Display.output g.V.Display.output)
          (styled_append took e) _ _ _ _ _ _ _ _ c.loop-key.invariant.printing c.in-Some.ensures.steps wrote;
    }

pub returns : goal.returns
returns g c =
    let took = g.W.Write.write_str_gives in
    let styled = styled_from took c.args.f.now _ _ _
    (printing_ends (WritesAs took c.args.f.now) (pair_text g.K.Display.output g.V.Display.output) _
    _ _ _ _ _ _ c.loop-key.invariant.printing (search rules) (λ same. c.write_str-2.ensures.styled)) in
    record {
      styled = styled;
      writes = displays_at_plain took _ _ _ (map_text g.K.Display.output g.V.Display.output c.args.self.now) styled;
    }

-- a failed call says nothing of a text
pub returns-in_err-write : goal.returns-in_err-write
returns-in_err-write g c =
    let failed = c.from_residual-in_err-write.ensures.0 in
    record {
      styled = failed_styled g.W.Write.write_str_gives c.args.f.now _ _ _ failed;
      writes = failed_plain g.W.Write.write_str_gives c.args.f.now _ _ _ failed;
    }

pub returns-in_err-write_str : goal.returns-in_err-write_str
returns-in_err-write_str g c =
    let failed = c.from_residual.ensures.0 in
    record {
      styled = failed_styled g.W.Write.write_str_gives c.args.f.now _ _ _ failed;
      writes = failed_plain g.W.Write.write_str_gives c.args.f.now _ _ _ failed;
    }
