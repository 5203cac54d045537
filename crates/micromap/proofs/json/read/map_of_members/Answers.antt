use Rattle.std.proofs.Common.{refl, sym, ap, string_bytes, string_eq, bytes_eq, arith, rules, ltb-false, length}
use Rattle.serde_json.specs.View.{members_view}
use Rattle.micromap_core.specs.Pairs.{put}
use Rattle.micromap_core.proofs.{Laws.MapLaws.length_put, Laws.TextLaws.length_texts, Laws.TextLaws.texts_empty, Laws.TextLaws.texts_put}
use Rattle.micromap.specs.Json.{whole_members}
use Rattle.micromap.proofs.JsonReading.{members_built, not_read, read_beyond, read_one, read_past, read_whole}
use Rattle.micromap.proofs.json.read.map_of_members.Goals as goal

pub loop-name-init : goal.loop-name-init
loop-name-init g c =
    let entries = c.into_iter-name-iterator.ensures.into_iter_gives in
    rw (entries.0, c.new-map.ensures.answer, texts_empty) (record { is = members_built g.row.N c.args.members.entries entries.5 })

pub returns-in_default-clause-answer : goal.returns-in_default-clause-answer
returns-in_default-clause-answer g c = sym (not_read c.loop-name.invariant (λ i. (string_bytes c.in-Some.name, i)) _ _
    (ap (λ es. whole_members (members_view es)) c.in-Some.ensures.steps) (search rules))

-- a pair is put or doesn't fit where its texts are or don't
pub loop-name-preserved-then-all_fit : goal.loop-name-preserved-then-all_fit
loop-name-preserved-then-all_fit g c =
    let pairs = c.loop-name.map in
    let name = c.in-Some.name in
    let whole = c.in-Some-whole_of.whole in
    let put_is = texts_put string_bytes (λ v. v) name string_eq pairs whole (λ x y. refl) in
    read_one c.loop-name.invariant (λ i. (string_bytes name, i)) _ _
    (ap (λ es. whole_members (members_view es)) c.in-Some.ensures.steps) whole (search rules)
    (λ ps p. grind (arith, length_put bytes_eq ps p.0 p.1)) c.if-all_fit.true
    (λ fits. grind (arith, c.put-all_fit.ensures.answer, c.put-all_fit.ensures.pairs, fits, put_is)) (λ misfit. grind (
      arith,
      put_is,
      c.put-all_fit.ensures.answer,
      misfit,
      ltb-false (length pairs) g.row.N,
      length_put string_eq pairs name whole,
      length_texts string_bytes (λ v. v) (put string_eq pairs name whole),
    ))

pub loop-name-preserved : goal.loop-name-preserved
loop-name-preserved g c = read_past c.loop-name.invariant (λ i. (string_bytes c.in-Some.name, i)) _ _
    (ap (λ es. whole_members (members_view es)) c.in-Some.ensures.steps) c.in-Some-whole_of.whole (search rules) c.if-all_fit.false

pub returns-then-all_fit-2-clause-answer : goal.returns-then-all_fit-2-clause-answer
returns-then-all_fit-2-clause-answer g c = sym (read_whole c.loop-name.invariant
    (ap (λ es. whole_members (members_view es)) c.in-None.ensures.steps.0) c.if-all_fit-2.true
    (omega (arith, c.len-known.ensures.content.bounded, length_texts string_bytes (λ v. v) c.loop-name.map)))

pub returns-else-all_fit-2-clause-answer : goal.returns-else-all_fit-2-clause-answer
returns-else-all_fit-2-clause-answer g c = sym (read_beyond c.loop-name.invariant
    (ap (λ es. whole_members (members_view es)) c.in-None.ensures.steps.0) c.if-all_fit-2.false)
