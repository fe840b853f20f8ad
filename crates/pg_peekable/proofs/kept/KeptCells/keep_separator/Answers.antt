use Rattle.std.proofs.Common.{drop, string_bytes}
use Rattle.pg_picture.proofs.Appending.{kept-text}
use Rattle.pg_peekable.specs.Inside.{IsSeparator}
use Rattle.pg_peekable.proofs.kept.KeptCells.keep_separator.Goals as goal

pub invariant_of-self-clause-is_separator : goal.invariant_of-self-clause-is_separator
invariant_of-self-clause-is_separator g c = kept-text (IsSeparator g.T.TableMarker.table) c.keep.new.self.text (drop c.args.from (string_bytes c.args.buf.now)) c.keep.ensures.is c.requires.text
