use denote.Text.{Utf8}
use denote.Shadow.{shadow}
use Rattle.std.specs.Fmt.{DisplaysOnOk, formatter_spec}
use Rattle.micromap_core.proofs.Laws.PrintLemmas.{Printing, WritesAs}
use Rattle.micromap.proofs.set.print.SetDisplay.fmt.Given as goal

abbrev pub invariant-loop-item : goal.invariant-loop-item
invariant-loop-item g l = record {
  utf8 : shadow (Utf8 l.lead);
  plain : Printing (DisplaysOnOk g.W.Write.write_str_gives) g.T.Display.output l.fn.f l.f l.self l.lead l.item-iterator;
  styled : Printing (WritesAs g.W.Write.write_str_gives l.fn.f)
      (λ x. g.T.Display.styled_output x (formatter_spec l.fn.f)) l.fn.f l.f l.self l.lead l.item-iterator;
}
