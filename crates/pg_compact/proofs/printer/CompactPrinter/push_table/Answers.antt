use Rattle.std.proofs.Common.{◌<◌, ◌-◌, ◌++◌, [], length, flat_map, refl, sym, ◌∙◌, arith}
use Rattle.std.specs.List.{range_with_len}
use Rattle.pg_picture.specs.CompactLines.{row_lines}
use Rattle.pg_picture.specs.Pieces.{continued, fed}
use Rattle.pg_picture.specs.Inside.{lines_before}
use Rattle.pg_picture.proofs.Appending.{Appends-text, Gained-none, Gained-all, ◌then◌, stopped}
use Rattle.pg_picture.proofs.FittingTables.{some_is}
use Rattle.pg_compact.specs.Inside.{printed_table, lines_of_row, foot_lines}
use Rattle.pg_picture.proofs.Ranges.{is_some_answer}
use Rattle.pg_compact.proofs.CompactRows.{table-text, row-taken, rows-ended}
use Rattle.pg_compact.proofs.CompactPictures.{no_columns-text, no_rows-text, some-cells, totals-fit, width-answer}
use Rattle.pg_compact.proofs.printer.CompactPrinter.push_table.Goals as goal

pub returns-then-self-eq0-clause-appends : goal.returns-then-self-eq0-clause-appends
returns-then-self-eq0-clause-appends g c = λ texts all.
    Appends-text (no_columns-text (printed_table g.D.Dimension.width g.C.Colors.color c.args.self.now texts) c.if-self-eq0.true) (Gained-all (Gained-none c.args.buf.now))

pub returns-in_default-clause-appends : goal.returns-in_default-clause-appends
returns-in_default-clause-appends g c = λ texts all.
    let ended = rows-ended all c.in_default.ensures.steps in
    Appends-text (no_rows-text (printed_table g.D.Dimension.width g.C.Colors.color c.args.self.now texts) ended) (Gained-all (Gained-none c.args.buf.now))

pub compact_full_width-requires : goal.compact_full_width-requires
compact_full_width-requires g c =
    let (texts, all, fits) = c.requires in
    let taken = row-taken all c.in-Some.ensures.steps c.in-Some.ensures.goes in
    let columns : 0 < c.args.self.now.columns = omega arith in
    (totals-fit g.D.Dimension.width g.C.Colors.color c.args.self.now texts fits taken.rest.begun columns).columns

pub unwrap-width-requires : goal.unwrap-width-requires
unwrap-width-requires g c =
    let (texts, all, fits) = c.requires in
    let taken = row-taken all c.in-Some.ensures.steps c.in-Some.ensures.goes in
    let columns : 0 < c.args.self.now.columns = omega arith in
    let totals = totals-fit g.D.Dimension.width g.C.Colors.color c.args.self.now texts fits taken.rest.begun columns in
    is_some_answer (width-answer g.D.Dimension.width g.C.Colors.color c.args.self.now texts totals c.compact_full_width.ensures)

pub push_head-requires : goal.push_head-requires
push_head-requires g c =
    let (texts, all, fits) = c.requires in
    let taken = row-taken all c.in-Some.ensures.steps c.in-Some.ensures.goes in
    let columns : 0 < c.args.self.now.columns = omega arith in
    let totals = totals-fit g.D.Dimension.width g.C.Colors.color c.args.self.now texts fits taken.rest.begun columns in
    record { width = some_is c.unwrap-width.result _ (sym c.unwrap-width.ensures ∙ width-answer g.D.Dimension.width g.C.Colors.color c.args.self.now texts totals c.compact_full_width.ensures) }

pub push_foot-requires : goal.push_foot-requires
push_foot-requires g c =
    let (texts, all, fits) = c.requires in
    let taken = row-taken all c.in-Some.ensures.steps c.in-Some.ensures.goes in
    let columns : 0 < c.args.self.now.columns = omega arith in
    let totals = totals-fit g.D.Dimension.width g.C.Colors.color c.args.self.now texts fits taken.rest.begun columns in
    record { width = some_is c.unwrap-width.result _ (sym c.unwrap-width.ensures ∙ width-answer g.D.Dimension.width g.C.Colors.color c.args.self.now texts totals c.compact_full_width.ensures) }

pub push_row-requires : goal.push_row-requires
push_row-requires g c =
    let (texts, all, fits) = c.requires in
    let taken = row-taken all c.in-Some.ensures.steps c.in-Some.ensures.goes in
    record { cells = (taken.stands.can_next, taken.stands.ends) }

pub push_next_rows-requires : goal.push_next_rows-requires
push_next_rows-requires g c =
    let (texts, all, fits) = c.requires in
    record { rows = (texts, (row-taken all c.in-Some.ensures.steps c.in-Some.ensures.goes).rest) }

pub returns-in_err-push_head-clause-appends : goal.returns-in_err-push_head-clause-appends
returns-in_err-push_head-clause-appends g c = λ texts all.
    let taken = row-taken all c.in-Some.ensures.steps c.in-Some.ensures.goes in
    let columns : 0 < c.args.self.now.columns = omega arith in
    let t = printed_table g.D.Dimension.width g.C.Colors.color c.args.self.now texts in
    let foot = foot_lines (printed_table g.D.Dimension.width g.C.Colors.color c.args.self.now []) in
    Appends-text (table-text g.D.Dimension.width g.C.Colors.color c.args.self.now texts taken.rest.begun columns c.has_no_head-is_first.ensures)
    (stopped (continued (lines_before c.has_no_head-is_first.result) (lines_of_row t 0) ++ (fed (flat_map (row_lines t) (range_with_len 1 (length texts - 1))) ++ fed foot)) c.from_residual.ensures.0 c.in_err-push_head.ensures)

pub returns-in_err-push_row-clause-appends : goal.returns-in_err-push_row-clause-appends
returns-in_err-push_row-clause-appends g c = λ texts all.
    let taken = row-taken all c.in-Some.ensures.steps c.in-Some.ensures.goes in
    let columns : 0 < c.args.self.now.columns = omega arith in
    let t = printed_table g.D.Dimension.width g.C.Colors.color c.args.self.now texts in
    let foot = foot_lines (printed_table g.D.Dimension.width g.C.Colors.color c.args.self.now []) in
    Appends-text (table-text g.D.Dimension.width g.C.Colors.color c.args.self.now texts taken.rest.begun columns c.has_no_head-is_first.ensures)
    (c.in_ok-push_head.ensures then stopped (fed (flat_map (row_lines t) (range_with_len 1 (length texts - 1))) ++ fed foot) c.from_residual-in_err-push_row.ensures.0 (c.in_err-push_row.ensures texts (record { gives = taken.stands.gives; even = taken.even })))

pub returns-in_err-push_next_rows-clause-appends : goal.returns-in_err-push_next_rows-clause-appends
returns-in_err-push_next_rows-clause-appends g c = λ texts all.
    let taken = row-taken all c.in-Some.ensures.steps c.in-Some.ensures.goes in
    let columns : 0 < c.args.self.now.columns = omega arith in
    let foot = foot_lines (printed_table g.D.Dimension.width g.C.Colors.color c.args.self.now []) in
    Appends-text (table-text g.D.Dimension.width g.C.Colors.color c.args.self.now texts taken.rest.begun columns c.has_no_head-is_first.ensures)
    (c.in_ok-push_head.ensures then (c.in_ok-push_row.ensures texts (record { gives = taken.stands.gives; even = taken.even }) then stopped (fed foot) c.from_residual-in_err-push_next_rows.ensures.0 (c.in_err-push_next_rows.ensures texts taken.rest)))

pub returns-clause-appends : goal.returns-clause-appends
returns-clause-appends g c = λ texts all.
    let taken = row-taken all c.in-Some.ensures.steps c.in-Some.ensures.goes in
    let columns : 0 < c.args.self.now.columns = omega arith in
    Appends-text (table-text g.D.Dimension.width g.C.Colors.color c.args.self.now texts taken.rest.begun columns c.has_no_head-is_first.ensures)
    (c.in_ok-push_head.ensures then (c.in_ok-push_row.ensures texts (record { gives = taken.stands.gives; even = taken.even }) then (c.in_ok-push_next_rows.ensures texts taken.rest then c.push_foot.ensures)))

-- a row was taken, so there are cells
pub returns-in_err-push_head-clause-empty : goal.returns-in_err-push_head-clause-empty
returns-in_err-push_head-clause-empty g c = λ texts all empty.
    let taken = row-taken all c.in-Some.ensures.steps c.in-Some.ensures.goes in
    let columns : 0 < c.args.self.now.columns = omega arith in
    absurd (some-cells (printed_table g.D.Dimension.width g.C.Colors.color c.args.self.now texts) taken.rest.begun columns empty)

pub returns-in_err-push_row-clause-empty : goal.returns-in_err-push_row-clause-empty
returns-in_err-push_row-clause-empty g c = λ texts all empty.
    let taken = row-taken all c.in-Some.ensures.steps c.in-Some.ensures.goes in
    let columns : 0 < c.args.self.now.columns = omega arith in
    absurd (some-cells (printed_table g.D.Dimension.width g.C.Colors.color c.args.self.now texts) taken.rest.begun columns empty)

pub returns-in_err-push_next_rows-clause-empty : goal.returns-in_err-push_next_rows-clause-empty
returns-in_err-push_next_rows-clause-empty g c = λ texts all empty.
    let taken = row-taken all c.in-Some.ensures.steps c.in-Some.ensures.goes in
    let columns : 0 < c.args.self.now.columns = omega arith in
    absurd (some-cells (printed_table g.D.Dimension.width g.C.Colors.color c.args.self.now texts) taken.rest.begun columns empty)

pub returns-clause-empty : goal.returns-clause-empty
returns-clause-empty g c = λ texts all empty.
    let taken = row-taken all c.in-Some.ensures.steps c.in-Some.ensures.goes in
    let columns : 0 < c.args.self.now.columns = omega arith in
    absurd (some-cells (printed_table g.D.Dimension.width g.C.Colors.color c.args.self.now texts) taken.rest.begun columns empty)

-- nothing was pushed
pub returns-then-self-eq0-clause-empty : goal.returns-then-self-eq0-clause-empty
returns-then-self-eq0-clause-empty g c = λ texts all empty. (refl, refl)

pub returns-in_default-clause-empty : goal.returns-in_default-clause-empty
returns-in_default-clause-empty g c = λ texts all empty. (refl, refl)
