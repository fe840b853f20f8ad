use Rattle.std.proofs.Common.{◌++◌, sym, ap, ap₂, ◌∙◌, append_assoc, append-nil, encode_utf8}
use Rattle.pg_layout.specs.Text.{Text}
use Rattle.pg_picture.specs.Pieces.{repeated}
use Rattle.pg_picture.proofs.PiecesOfLines.{repeated-zero, repeated-more}
use Rattle.pg_compact.proofs.short_text.ShortText.push_repeated.Goals as goal

pub loop-init : goal.loop-init
loop-init c = sym (append-nil c.args.self.now) ∙ ap (λ more. c.args.self.now ++ more) (sym (repeated-zero c.args.c))

pub loop-preserved : goal.loop-preserved
loop-preserved c =
    c.in_ok-push_text.ensures
    ∙ ap₂ (λ (so_far one : Text). so_far ++ one) c.loop.invariant c.encode_utf8-text.ensures.value
    ∙ append_assoc c.args.self.now (repeated c.args.c c.loop.counter) (encode_utf8 c.args.c)
    ∙ ap (λ more. c.args.self.now ++ more) (sym (repeated-more c.args.c c.loop.counter))
