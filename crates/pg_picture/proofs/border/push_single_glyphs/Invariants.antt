use Rattle.std.proofs.Common.{◌≡◌, map}
use Rattle.std.specs.List.{range_with_len}
use Rattle.pg_layout.specs.Colors.{lent_color}
use Rattle.pg_picture.proofs.Appending.{Gained}
use Rattle.pg_picture.specs.Inside.{items_after, last_color}
use Rattle.pg_picture.specs.Table.{border_glyph}
use Rattle.pg_picture.proofs.border.push_single_glyphs.Given as goal

abbrev pub invariant-loop-i : goal.invariant-loop-i
invariant-loop-i g l =
    let so_far = map (border_glyph l.config l.pos l.width l.glyph (lent_color (λ c. c) l.color)) (range_with_len 0 l.i) in
    record { gained : Gained l.fn.buf l.buf (items_after l.fn.run so_far); color : l.run ≡ last_color l.fn.run so_far }
