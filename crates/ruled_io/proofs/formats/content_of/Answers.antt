use Rattle.std.proofs.Common.{◌∙◌, sym, ap}
use Rattle.ruled_io.specs.Formats.{content_of}
use Rattle.ruled_io.specs.declared.formats.Format.{Format}
use Rattle.ruled_io.proofs.formats.content_of.Goals as goal

pub returns-in-Separated : goal.returns-in-Separated
returns-in-Separated c = c.without_setting.ensures ∙ ap (λ (format : Format). content_of format c.args.bytes.now) (sym c.in-Separated.is)
