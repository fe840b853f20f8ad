use Rattle.std.proofs.Common.{◌≡◌, ℕ, ◌-◌, ◌^◌, ◌<◌, true, false, min, List, length, slice_index, Option, unwrap_or, Ok, Err, OnOk, refl, sym, ap, ◌∙◌, subst, arith, inl, inr}
use Rattle.std.proofs.lemmas.Bool.{cases_lt, false≢true}
use Rattle.pg_layout.specs.declared.position.Position.{Position}
use Rattle.pg_layout.specs.Records.{text_at}
use Rattle.pg_layout.specs.Text.{Text}
use Rattle.pg_config.specs.Config.{Config, get_formatting}
use Rattle.pg_config.specs.Spans.{is_visible}
use Rattle.pg_fit.specs.Overlaid.{other_text}
use Rattle.pg_picture.specs.Pieces.{widest}
use Rattle.pg_picture.specs.Sizes.{if_fits, sized}
use Rattle.pg_picture.specs.Table.{rect_width}
use Rattle.pg_picture.proofs.FittingTables.{rect_inside}
use Rattle.pg_picture.proofs.Ranges.{if_fits-below, if_fits-past}
use Rattle.pg_table.specs.Inside.{fitted_to, HasRoomAt, HasRoomTogether}
use Rattle.pg_table.specs.Natural.{paddings, cell_size}
use Rattle.pg_table.specs.Spanning.{cell_room, spanned_text}
use Rattle.pg_table.specs.declared.overflow.Overflow.{Overflow}
use Rattle.pg_table.specs.declared.sizes.Axis.TheVariants.{Columns}
use Rattle.pg_table.proofs.FittedColumns.{fitted_text-stays}
use Rattle.pg_table.proofs.ShownCells.{cell-fits, sized-size}
use Rattle.pg_table.proofs.sizes.NaturalSizes.fit_shown.Goals as goal

-- a width that may be no number, as far as a number goes
as_number : (o : Option ℕ) (n : ℕ) → o ≡ if_fits n → unwrap_or o (2 ^ 64 - 1) ≡ min n (2 ^ 64 - 1)
as_number o n is =
    elim (cases_lt n (2 ^ 64)) [
      | inl below ↦ omega (arith, ap (λ (q : Option ℕ). unwrap_or q (2 ^ 64 - 1)) (is ∙ if_fits-below n below), below)
      | inr past ↦ omega (arith, ap (λ (q : Option ℕ). unwrap_or q (2 ^ 64 - 1)) (is ∙ if_fits-past n past), past)
    ]

-- heights do nothing to it
same_room : (config : Config) (ws hs : List ℕ) (rows columns : ℕ) (p : Position) → rect_width (sized config (slice_index ws) (slice_index hs) rows columns) p ≡ cell_room ws config rows columns p
unfolding cell_room rect_width
same_room config ws hs rows columns p = refl

module _ (how : Overflow) (ws : List ℕ) (config : Config) (texts : List (List Text)) (columns : ℕ) (p : Position) where
  abbrev room : ℕ
  room = cell_room ws config (length texts) columns p

  hidden-stays : is_visible config.spans p ≡ false → spanned_text how ws config texts columns p ≡ text_at texts p
  unfolding spanned_text
  hidden-stays hidden = rw hidden refl

  shown-is : is_visible config.spans p ≡ true → spanned_text how ws config texts columns p ≡ fitted_to how config (text_at texts) room p
  unfolding spanned_text
  shown-is shown = rw shown refl

  -- a text within all numbers is within more
  as-number : cell_size Columns config (text_at texts) p < 2 ^ 64 → fitted_to how config (text_at texts) (min room (2 ^ 64 - 1)) p ≡ fitted_to how config (text_at texts) room p
  as-number small =
      elim (cases_lt room (2 ^ 64)) [
        | inl below ↦ ap (λ n. fitted_to how config (text_at texts) n p) (omega (arith, below))
        | inr past ↦
            fitted_text-stays how (get_formatting config p) (min room (2 ^ 64 - 1) - paddings Columns config p) (text_at texts p) (omega (arith, small, past))
            ∙ sym (fitted_text-stays how (get_formatting config p) (room - paddings Columns config p) (text_at texts p) (omega (arith, small, past)))
      ]

  room-together : cell_size Columns config (text_at texts) p < 2 ^ 64 → HasRoomAt how config (text_at texts) (min room (2 ^ 64 - 1)) p → HasRoomTogether how ws config texts columns p
  room-together small has = λ plain shown least.
      let is = shown-is shown ∙ sym (as-number small) in
      let low = has plain (omega (arith, least, small)) in
      omega (arith, low, ap (widest (get_formatting config p)) is)

  hidden-room : is_visible config.spans p ≡ false → HasRoomTogether how ws config texts columns p
  hidden-room hidden = λ plain shown least. absurd (false≢true (sym hidden ∙ shown))

pub rect_width-requires-clause-some : goal.rect_width-requires-clause-some
rect_width-requires-clause-some g c =
    let self = c.args.self.now in
    (rect_inside self.config.now.spans (length (g.R.Records.texts self.records)) (g.R.Records.columns self.records) c.args.pos c.requires.fit c.requires.row c.requires.column).some_columns

pub rect_width-requires-clause-inside : goal.rect_width-requires-clause-inside
rect_width-requires-clause-inside g c =
    let self = c.args.self.now in
    omega (arith, c.count_columns-columns.ensures.value, (rect_inside self.config.now.spans (length (g.R.Records.texts self.records)) (g.R.Records.columns self.records) c.args.pos c.requires.fit c.requires.row c.requires.column).columns_end)

pub returns-then-not-is_cell_visible-clause-here : goal.returns-then-not-is_cell_visible-clause-here
returns-then-not-is_cell_visible-clause-here g c =
    let self = c.args.self.now in
    c.requires.own ∙ sym (hidden-stays c.args.how c.args.widths.now.0.items self.config.now (g.R.Records.texts self.records) (g.R.Records.columns self.records) c.args.pos (sym c.is_cell_visible.ensures ∙ c.if-not-is_cell_visible.true))

pub returns-then-not-is_cell_visible-clause-room : goal.returns-then-not-is_cell_visible-clause-room
returns-then-not-is_cell_visible-clause-room g c =
    let self = c.args.self.now in
    hidden-room c.args.how c.args.widths.now.0.items self.config.now (g.R.Records.texts self.records) (g.R.Records.columns self.records) c.args.pos (sym c.is_cell_visible.ensures ∙ c.if-not-is_cell_visible.true)

pub returns-clause-here : goal.returns-clause-here
returns-clause-here g c =
    let self = c.args.self.now in
    let texts = g.R.Records.texts self.records in
    let columns : ℕ = g.R.Records.columns self.records in
    let shown = sym c.is_cell_visible.ensures ∙ c.if-not-is_cell_visible.false in
    let small = sized-size self.config.now (text_at texts) (length texts) columns Columns c.args.pos (cell-fits self.config.now (text_at texts) (length texts) columns c.requires.sized c.args.pos.row c.args.pos.col c.requires.row c.requires.column shown) in
    let ws : List ℕ = c.args.widths.now.0.items in
    let wide : c.rect_width.result ≡ if_fits (cell_room ws self.config.now (length texts) columns c.args.pos) =
    (rw c.count_columns-columns.ensures.value at c.rect_width.ensures (length texts)) ∙ ap (λ n. if_fits n) (same_room self.config.now ws c.args.widths.now.1.items (length texts) columns c.args.pos) in
    let room : c.unwrap_or-room.result ≡ min (cell_room ws self.config.now (length texts) columns c.args.pos) (2 ^ 64 - 1) = c.unwrap_or-room.ensures ∙ as_number c.rect_width.result (cell_room ws self.config.now (length texts) columns c.args.pos) wide in
    let ends = ap (λ n. fitted_to c.args.how self.config.now (text_at texts) n c.args.pos) room
    ∙ as-number c.args.how c.args.widths.now.0.items self.config.now texts columns c.args.pos small
    ∙ sym (shown-is c.args.how c.args.widths.now.0.items self.config.now texts columns c.args.pos shown) in
    subst (λ (t : Text). OnOk c.fit_cell.result (other_text c.fit_cell.new.fitted.others texts c.args.pos ≡ t)) ends c.fit_cell.ensures.here

pub returns-clause-room : goal.returns-clause-room
returns-clause-room g c =
    let self = c.args.self.now in
    let texts = g.R.Records.texts self.records in
    let columns : ℕ = g.R.Records.columns self.records in
    let shown = sym c.is_cell_visible.ensures ∙ c.if-not-is_cell_visible.false in
    let small = sized-size self.config.now (text_at texts) (length texts) columns Columns c.args.pos (cell-fits self.config.now (text_at texts) (length texts) columns c.requires.sized c.args.pos.row c.args.pos.col c.requires.row c.requires.column shown) in
    let ws : List ℕ = c.args.widths.now.0.items in
    let wide : c.rect_width.result ≡ if_fits (cell_room ws self.config.now (length texts) columns c.args.pos) =
    (rw c.count_columns-columns.ensures.value at c.rect_width.ensures (length texts)) ∙ ap (λ n. if_fits n) (same_room self.config.now ws c.args.widths.now.1.items (length texts) columns c.args.pos) in
    let room : c.unwrap_or-room.result ≡ min (cell_room ws self.config.now (length texts) columns c.args.pos) (2 ^ 64 - 1) = c.unwrap_or-room.ensures ∙ as_number c.rect_width.result (cell_room ws self.config.now (length texts) columns c.args.pos) wide in
    let told = rw room at c.fit_cell.ensures.room in
    elim c.fit_cell.result as (λ r. OnOk r (HasRoomAt c.args.how self.config.now (text_at texts) (min (cell_room c.args.widths.now.0.items self.config.now (length texts) columns c.args.pos) (2 ^ 64 - 1)) c.args.pos) → OnOk r (HasRoomTogether c.args.how c.args.widths.now.0.items self.config.now texts columns c.args.pos)) [
      | Ok u ↦ λ has. room-together c.args.how c.args.widths.now.0.items self.config.now texts columns c.args.pos small has
      | Err e ↦ λ _. tt
    ] told
