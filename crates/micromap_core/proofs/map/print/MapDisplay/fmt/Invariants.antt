use denote.Shadow.{shadow}
use denote.Text.{Utf8}
use Rattle.micromap_core.{specs.Print.pair_text, proofs.Laws.PrintLemmas.Printing, proofs.Laws.PrintLemmas.WritesAs}
use Rattle.micromap_core.proofs.map.print.MapDisplay.fmt.Given as goal

abbrev pub invariant-loop-key : goal.invariant-loop-key
invariant-loop-key g l = record {
  utf8 : shadow (Utf8 l.lead);
  printing : Printing (WritesAs g.W.Write.write_str_gives l.fn.f)
      (pair_text g.K.Display.output g.V.Display.output) l.fn.f l.f l.self l.lead l.key-iterator;
}
