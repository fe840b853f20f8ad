use Rattle.std.proofs.Common.{◌≡◌, ◌++◌, OnSome, sym, ◌∙◌, subst}
use Rattle.pg_layout.specs.Colors.{str_color}
use Rattle.pg_layout.specs.Text.{Text}
use Rattle.pg_picture.proofs.PiecesOfLines.{indent-plain, indent-colored}
use Rattle.pg_compact.proofs.short_text.ShortText.push_indent.Goals as goal

pub returns-then-is_empty : goal.returns-then-is_empty
returns-then-is_empty c =
    let Pushed : Text → Type 0 = λ more. OnSome c.push_repeated.result (c.push_repeated.new.self ≡ c.args.self.now ++ more) in
    subst Pushed (indent-plain c.args.indent.fill c.args.indent.size (str_color c.args.color) (sym c.is_empty.ensures ∙ c.if-is_empty.true)) c.push_repeated.ensures

pub returns : goal.returns
returns c =
    let Pushed : Text → Type 0 = λ more. OnSome c.push_colored.result (c.push_colored.new.self ≡ c.args.self.now ++ more) in
    subst Pushed (indent-colored c.args.indent.fill c.args.indent.size (str_color c.args.color) (sym c.is_empty.ensures ∙ c.if-is_empty.false)) c.push_colored.ensures
