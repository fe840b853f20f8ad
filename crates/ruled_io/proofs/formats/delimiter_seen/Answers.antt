use Rattle.std.proofs.Common.{◌≡◌, ◌∙◌, None, sym, ap}
use Rattle.ruled_io.specs.Formats.{first_line, most_frequent, setting_of}
use Rattle.ruled_io.proofs.formats.delimiter_seen.Goals as goal

pub returns-in-None : goal.returns-in-None
returns-in-None c =
    let none : setting_of c.args.rules c.args.text.now ≡ None = sym c.setting_of.ensures.setting ∙ c.in-None.is in
    rw none (c.most_frequent.ensures ∙ ap (most_frequent c.args.rules) (c.first_line.ensures ∙ ap first_line c.from_first_row.ensures))
