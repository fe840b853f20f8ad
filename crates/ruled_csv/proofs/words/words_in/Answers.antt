use Rattle.std.proofs.Common.{◌∙◌, sym, ap}
use Rattle.csv.specs.Records.{fields_of}
use Rattle.ruled_csv.proofs.Scans.{line_filled}
use Rattle.ruled_csv.specs.Rows as spec
use Rattle.ruled_csv.proofs.words.words_in.Goals as goal

pub returns : goal.returns
returns c = record {
  words = line_filled c.args.columns (fields_of c.args.fields.now) c.deref.result.now c.trim_ascii-text.result.now (c.deref.ensures.value ∙ c.in_ok-line.ensures) c.trim_ascii-text.ensures.value (fields_of c.in_ok-words.words) (sym c.is_empty.ensures ∙ c.if-is_empty.false) (c.in_ok-words.ensures ∙ ap (λ n. spec.words_of n c.trim_ascii-text.result.now) c.unwrap_or.ensures);
}
