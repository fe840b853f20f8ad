use Rattle.std.proofs.Common.{refl}
use Rattle.ruled_csv.proofs.Readers.{none-read}
use Rattle.ruled_csv.proofs.reader.RowReader.new.Goals as goal

pub returns : goal.returns
returns c = none-read c.args.dialect _ refl c.new.ensures.dialect c.new.ensures.hand refl refl
