use Rattle.std.{proofs.Common.Some, proofs.Common.Ok, proofs.Common.rules, specs.Fmt.DisplaysOnOk, specs.Fmt.formatter_spec}
use Rattle.micromap_core.proofs.Laws.PrintLemmas.{plain_append, WritesAs, styled_append, with_options, styled_from, failed_plain}
use Rattle.micromap_core.proofs.Laws.PrintLemmas.{failed_styled, printing_begins, printing_more, printing_ends}
use Rattle.micromap.proofs.set.print.SetDisplay.fmt.Goals as goal

pub loop-item-init : goal.loop-item-init
loop-item-init g c =
    let took = g.W.Write.write_str_gives in
    let f = c.args.f.now in
    let plain = printing_begins (DisplaysOnOk took) g.T.Display.output (plain_append took) f c.write_str.new.self
    c.args.self.now c.in_ok-write_str.ensures.writes in
    let styled = printing_begins (WritesAs took f) (λ x. g.T.Display.styled_output x (formatter_spec f)) (styled_append took f)
    f c.write_str.new.self c.args.self.now (λ same. c.in_ok-write_str.ensures.styled) in
    let walk = c.into_iter-item-iterator.ensures.into_iter_gives.0 in
    record { utf8 = search rules; plain = rw walk plain; styled = rw walk styled }

pub loop-item-preserved : goal.loop-item-preserved
loop-item-preserved g c =
    let took = g.W.Write.write_str_gives in
    let l = c.loop-item in
    let spec = formatter_spec c.args.f.now in
    let x = c.in-Some.item.now in
    let between = c.write_str-in-loop-item.new.self in
    let leads = c.in_ok-write_str-2.ensures in
    let plain = plain_append took l.f between c.fmt.new.f (Ok tt) (Some l.lead.now)
    (g.T.Display.output x) leads.writes c.in_ok-fmt.ensures.writes in
    let styled = styled_append took c.args.f.now l.f between c.fmt.new.f (Ok tt) (Some l.lead.now)
    (g.T.Display.styled_output x spec) (λ same. leads.styled)
    (with_options took c.args.f.now between c.fmt.new.f (Ok tt) (g.T.Display.styled_output x) c.in_ok-fmt.ensures.styled) in
    record {
      utf8 = search rules;
      plain = printing_more (DisplaysOnOk took) g.T.Display.output (plain_append took) _ _ _ _ _ _ _
          _ l.invariant.plain c.in-Some.ensures.steps plain;
      styled = printing_more (WritesAs took c.args.f.now) (λ x. g.T.Display.styled_output x spec)
          (styled_append took c.args.f.now) _ _ _ _ _ _ _ _ l.invariant.styled c.in-Some.ensures.steps styled;
    }

pub returns-clause-writes : goal.returns-clause-writes
returns-clause-writes g c = printing_ends (DisplaysOnOk g.W.Write.write_str_gives) g.T.Display.output _ _ _ _ _ _ _
    c.loop-item.invariant.plain (search rules) c.write_str-2.ensures.writes

pub returns-clause-styled : goal.returns-clause-styled
returns-clause-styled g c =
    let took = g.W.Write.write_str_gives in
    let spec = formatter_spec c.args.f.now in
    styled_from took c.args.f.now _ _ _ (printing_ends (WritesAs took c.args.f.now) (λ x. g.T.Display.styled_output x spec) _ _ _ _ _ _
    _ c.loop-item.invariant.styled (search rules) (λ same. c.write_str-2.ensures.styled))

-- a failed call says nothing of a text
pub returns-in_err-write_str : goal.returns-in_err-write_str
returns-in_err-write_str g c = record {
  writes = failed_plain g.W.Write.write_str_gives c.args.f.now _ _ _ c.from_residual.ensures.0;
  styled = failed_styled g.W.Write.write_str_gives c.args.f.now _ _ _ c.from_residual.ensures.0;
}

pub returns-in_err-fmt : goal.returns-in_err-fmt
returns-in_err-fmt g c = record {
  writes = failed_plain g.W.Write.write_str_gives c.args.f.now _ _ _ c.from_residual-in_err-fmt.ensures.0;
  styled = failed_styled g.W.Write.write_str_gives c.args.f.now _ _ _ c.from_residual-in_err-fmt.ensures.0;
}

pub returns-in_err-write_str-2 : goal.returns-in_err-write_str-2
returns-in_err-write_str-2 g c = record {
  writes = failed_plain g.W.Write.write_str_gives c.args.f.now _ _ _ c.from_residual-in_err-write_str-2.ensures.0;
  styled = failed_styled g.W.Write.write_str_gives c.args.f.now _ _ _ c.from_residual-in_err-write_str-2.ensures.0;
}
