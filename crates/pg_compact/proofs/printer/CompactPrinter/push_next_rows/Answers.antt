use Rattle.std.proofs.Common.{◌≡◌, ◌+◌, ◌-◌, ℕ, List, Err, false, length, flat_map, refl, sym, ap, arith}
use Rattle.std.specs.List.{range_with_len}
use Rattle.pg_layout.specs.Text.{Text}
use Rattle.pg_picture.specs.CompactLines.{row_lines}
use Rattle.pg_picture.specs.Pieces.{fed, continued}
use Rattle.pg_picture.specs.Inside.{lines_before}
use Rattle.pg_picture.proofs.Appending.{Appends-text, Gained-text, Gained-more, Gained-all, ◌then◌, stopped, refused}
use Rattle.pg_compact.specs.Inside.{printed_table, lines_of_row}
use Rattle.pg_compact.proofs.CompactRows.{next_row-text, next_rows-more, next_rows-cut, row-taken, rows-ended}
use Rattle.pg_compact.proofs.printer.CompactPrinter.push_next_rows.Goals as goal

pub push_row-requires : goal.push_row-requires
push_row-requires g c =
    let (texts, are) = c.loop-cells.invariant.0 in
    let taken = row-taken are c.in-Some.ensures.steps c.in-Some.ensures.goes in
    record { cells = (taken.stands.can_next, taken.stands.ends) }

pub loop-cells-preserved : goal.loop-cells-preserved
loop-cells-preserved g c =
    let (given, are) = c.loop-cells.invariant.0 in (
      (given, (row-taken are c.in-Some.ensures.steps c.in-Some.ensures.goes).rest),
      λ texts all.
          let (left, gained) = c.loop-cells.invariant.1 texts all in
          let taken = row-taken left c.in-Some.ensures.steps c.in-Some.ensures.goes in
          let row : ℕ → List Text = row_lines (printed_table g.D.Dimension.width g.C.Colors.color c.args.self.now texts) in
          let here = Appends-text (next_row-text g.D.Dimension.width g.C.Colors.color c.args.self.now texts (c.loop-cells.row + 1) (omega arith)) (c.in_ok-push_inner_separator.ensures.appends then c.in_ok-push_row.ensures texts (record { gives = taken.stands.gives; even = taken.even })) in
          (taken.rest, Gained-text (sym (next_rows-more row c.loop-cells.row)) (Gained-more gained here)),
      c.in_ok-push_inner_separator.ensures.kept,
    )

pub returns-in_err-push_inner_separator : goal.returns-in_err-push_inner_separator
returns-in_err-push_inner_separator g c = λ texts all.
    let (left, gained) = c.loop-cells.invariant.1 texts all in
    let taken = row-taken left c.in-Some.ensures.steps c.in-Some.ensures.goes in
    let t = printed_table g.D.Dimension.width g.C.Colors.color c.args.self.now texts in
    let row : ℕ → List Text = row_lines t in
    let own = continued (lines_before false) (lines_of_row t (c.loop-cells.row + 1)) in
    let here = Appends-text (next_row-text g.D.Dimension.width g.C.Colors.color c.args.self.now texts (c.loop-cells.row + 1) (omega arith)) (stopped {V = Unit {0}} {F = Unit {0}} {r = Err tt} own refl c.in_err-push_inner_separator.ensures.appends) in
    refused _ (next_rows-cut row c.loop-cells.row (length texts - 1) (omega (arith, taken.rest.begun))) c.from_residual.ensures.0 gained here

pub returns-in_err-push_row : goal.returns-in_err-push_row
returns-in_err-push_row g c = λ texts all.
    let (left, gained) = c.loop-cells.invariant.1 texts all in
    let taken = row-taken left c.in-Some.ensures.steps c.in-Some.ensures.goes in
    let row : ℕ → List Text = row_lines (printed_table g.D.Dimension.width g.C.Colors.color c.args.self.now texts) in
    let here = Appends-text (next_row-text g.D.Dimension.width g.C.Colors.color c.args.self.now texts (c.loop-cells.row + 1) (omega arith)) (c.in_ok-push_inner_separator.ensures.appends then c.in_err-push_row.ensures texts (record { gives = taken.stands.gives; even = taken.even })) in
    refused _ (next_rows-cut row c.loop-cells.row (length texts - 1) (omega (arith, taken.rest.begun))) c.from_residual-in_err-push_row.ensures.0 gained here

pub returns : goal.returns
returns g c = λ texts all.
    let (left, gained) = c.loop-cells.invariant.1 texts all in
    let ended : length texts ≡ c.loop-cells.row + 1 = rows-ended left c.in-None.ensures.steps in
    let row : ℕ → List Text = row_lines (printed_table g.D.Dimension.width g.C.Colors.color c.args.self.now texts) in
    let count : c.loop-cells.row ≡ length texts - 1 = omega (arith, ended) in
    Appends-text (ap (λ n. fed (flat_map row (range_with_len 1 n))) count) (Gained-all gained)
