use Rattle.std.proofs.Common.{◌∙◌, ◌++◌, ◌∷◌, [], string_bytes, append_assoc, ap, arith}
use Rattle.std.proofs.lemmas.Str.{encode_ascii}
use Rattle.pg_layout.specs.Text.{Text}
use Rattle.pg_picture.specs.Picture.{picture}
use Rattle.pg_picture.specs.Table.{Known}
use Rattle.ruled_table.specs.Bounds.{bounded_table}
use Rattle.ruled_table.specs.Columns.{pairs_in}
use Rattle.ruled_table.specs.Shown.{color_in}
use Rattle.ruled_table.proofs.Tables.{gained-first, gained-in, on-err}
use Rattle.ruled_table.proofs.table.push_picture.Goals as goal

pub returns-in_err-push-in-Ok-clause-begun : goal.returns-in_err-push-in-Ok-clause-begun
returns-in_err-push-in-Ok-clause-begun c =
    let shown : Text = picture Known (bounded_table c.args.bounds.now c.args.config.now (color_in c.args.colors.now) (pairs_in c.args.rows)) in
    on-err c.from_residual.result (gained-first shown (10 ∷ []) (c.in_err-push-in-Ok.ensures.bytes ∙ c.in-Ok.ensures.text))

pub returns-in_ok-push-in-Ok-clause-text : goal.returns-in_ok-push-in-Ok-clause-text
returns-in_ok-push-in-Ok-clause-text c =
    let old = string_bytes c.args.buf.now in
    let shown : Text = picture Known (bounded_table c.args.bounds.now c.args.config.now (color_in c.args.colors.now) (pairs_in c.args.rows)) in
    c.in_ok-push-in-Ok.ensures.bytes
    ∙ ap (λ (end : Text). string_bytes c.print.new.buf ++ end) (encode_ascii 10 (omega arith))
    ∙ ap (λ (text : Text). text ++ 10 ∷ []) c.in-Ok.ensures.text
    ∙ append_assoc old shown (10 ∷ [])

pub returns-in-Err-clause-begun : goal.returns-in-Err-clause-begun
returns-in-Err-clause-begun c =
    let shown : Text = picture Known (bounded_table c.args.bounds.now c.args.config.now (color_in c.args.colors.now) (pairs_in c.args.rows)) in
    gained-in shown (10 ∷ []) c.in-Err.ensures.begun
