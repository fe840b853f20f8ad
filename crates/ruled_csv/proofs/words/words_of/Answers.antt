use Rattle.std.proofs.Common.{◌∙◌, arith, sym}
use Rattle.csv.specs.Records.{fields_of, partial_of}
use Rattle.ruled_csv.proofs.Scans.{words_step}
use Rattle.ruled_csv.proofs.words.words_of.Goals as goal

pub loop-count-preserved : goal.loop-count-preserved
loop-count-preserved c = (
  c.in_ok-push_field.ensures.partial,
  words_step c.loop-count.count c.args.most c.word_len-len.result c.args.text.now c.loop-count.rest.now c.trim_ascii_start-rest.result.now (partial_of c.loop-count.row) (fields_of c.loop-count.row) (fields_of c.push_field.new.self)
      c.loop-count.invariant.0 c.loop-count.invariant.1 (omega (arith, c.loop-count-test.true)) (sym c.is_empty.ensures ∙ c.if-is_empty.false) c.word_len-len.ensures.len c.in_ok-push_field.ensures.fields c.trim_ascii_start-rest.ensures.value,
)
