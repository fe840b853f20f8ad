-- Texts that are fitted place by place are the fitted texts.
use Rattle.std.proofs.Common.{Option, String, string_bytes, Some, cond, ◌≡◌, ℕ, ◌+◌, ◌-◌, ◌<◌, ◌≤◌, true, false, max, List, map, length, slice_index, refl, sym, ap, subst, ◌∙◌, arith, inl, inr}
use Rattle.std.specs.List.{range_with_len}
use Rattle.std.proofs.lemmas.Bool.{cases_lt}
use Rattle.std.proofs.lemmas.Bool.Decides.{nat_tests}
use Rattle.pg_layout.specs.declared.position.Position.{Position}
use Rattle.pg_layout.specs.Position.{at}
use Rattle.pg_layout.specs.Records.{text_at}
use Rattle.pg_layout.specs.Text.{Text}
use Rattle.pg_layout.specs.Keys.{by_place}
use Rattle.pg_layout.specs.Places.{same, value_at, with_place}
use Rattle.pg_layout.proofs.KeyedPlaces.{place-laws, value_at-with_place}
use Rattle.pg_config.specs.Config.{Config, get_formatting}
use Rattle.pg_fit.specs.Overlaid.{Overlay, text_or, other_text, row_from, overlaid}
use Rattle.pg_layout.specs.Colors.{Color}
use Rattle.pg_picture.specs.Pieces.{widest}
use Rattle.pg_picture.specs.Table.{Table as PrintedTable, full_width}
use Rattle.pg_table.specs.declared.overflow.Overflow.{Overflow}
use Rattle.pg_table.specs.declared.sizes.Axis.TheVariants.{Columns}
use Rattle.pg_table.specs.Natural.{paddings, natural_sizes, natural_table}
use Rattle.pg_table.specs.Fitted.{limit_of, least_text_width, least_column_width, column_widths, text_room, fitted_at, column_texts, HasPlainTail}
use Rattle.pg_table.specs.Inside.{HasPlainWidths, plain_full_width, fitted_to, HasRoomAt, FitsColumn, AreFittedBelow}
use Rattle.pg_table.proofs.ListedSizes.{cell-least}
use Rattle.pg_table.proofs.FittedColumns.{least-narrowed, fitted_text-stays, cell-wide, same-listed, lines-narrow, columns-narrow}
use Rattle.pg_table.proofs.NaturalRoom.{width-at}

-- ---- a text that is set for a place

same-self : (p : Position) → same by_place p p ≡ true
same-self p = grind (arith, nat_tests)

pub other-set : {Z : Type 0} (texts : List (List Text)) (others : List (Position × String Z)) (p : Position) (made : String Z) → other_text (with_place by_place p made others) texts p ≡ string_bytes made
other-set texts others p made =
    ap (λ v. text_or v (text_at texts p)) (value_at-with_place place-laws p p made others ∙ ap (λ b. cond b (Some made) (value_at by_place p others)) (same-self p))

pub other-kept : {Z : Type 0} (texts : List (List Text)) (others : List (Position × String Z)) (p : Position) (made : String Z) (q : Position) → same by_place p q ≡ false → other_text (with_place by_place p made others) texts q ≡ other_text others texts q
other-kept texts others p made q away =
    ap (λ v. text_or v (text_at texts q)) (value_at-with_place place-laws q p made others ∙ ap (λ b. cond b (Some made) (value_at by_place q others)) away)

-- ---- the rows of a column, one by one

pub record FitsRows (how : Overflow) (config : Config) (text : Position → Text) (k width row : ℕ) (old new : Position → Text) : Type 0 where
  pub fitted : (r : ℕ) → r < row → new (at r k) ≡ fitted_to how config text width (at r k)
  pub own : (r : ℕ) → row ≤ r → new (at r k) ≡ text (at r k)
  pub others : (q : Position) → (q.col ≡ k → ⊥) → new q ≡ old q
  pub room : (r : ℕ) → r < row → HasRoomAt how config text width (at r k)

module _ (how : Overflow) (config : Config) (text : Position → Text) (k width : ℕ) where
  pub rows-none : (old : Position → Text) → ((r : ℕ) → old (at r k) ≡ text (at r k)) → FitsRows how config text k width 0 old old
  rows-none old own = record { fitted = λ r h. absurd (omega (arith, h)); own = λ r _. own r; others = λ q _. refl; room = λ r h. absurd (omega (arith, h)) }

  elsewhere : (row : ℕ) (q : Position) → (q.col ≡ k → ⊥) → same by_place (at row k) q ≡ false
  elsewhere row q away =
      elim (same by_place (at row k) q) as (λ v. same by_place (at row k) q ≡ v → v ≡ false) [
        | true ↦ λ y. let here : q.col ≡ k = grind (arith, nat_tests) in absurd (away here)
        | false ↦ λ n. refl
      ] refl

  another-row : (row r : ℕ) → (r ≡ row → ⊥) → same by_place (at row k) (at r k) ≡ false
  another-row row r away =
      elim (same by_place (at row k) (at r k)) as (λ v. same by_place (at row k) (at r k) ≡ v → v ≡ false) [
        | true ↦ λ y. let here : r ≡ row = grind (arith, nat_tests) in absurd (away here)
        | false ↦ λ n. refl
      ] refl

  pub rows-more : (row : ℕ) (old mid new : Position → Text) → FitsRows how config text k width row old mid → new (at row k) ≡ fitted_to how config text width (at row k) → ((q : Position) → same by_place (at row k) q ≡ false → new q ≡ mid q) → HasRoomAt how config text width (at row k) → FitsRows how config text k width (row + 1) old new
  rows-more row old mid new so_far here kept room = record {
    fitted = λ r h.
        elim (cases_lt r row) [
          | inl before ↦ kept (at r k) (another-row row r (λ e. omega (arith, e, before))) ∙ so_far.fitted r before
          | inr past ↦ let is : r ≡ row = omega (arith, h, past) in subst (λ (n : ℕ). new (at n k) ≡ fitted_to how config text width (at n k)) (sym is) here
        ];
    own = λ r h. kept (at r k) (another-row row r (λ e. omega (arith, e, h))) ∙ so_far.own r (omega (arith, h));
    others = λ q away. kept q (elsewhere row q away) ∙ so_far.others q away;
    room = λ r h.
        elim (cases_lt r row) [
          | inl before ↦ so_far.room r before
          | inr past ↦ let is : r ≡ row = omega (arith, h, past) in subst (λ (n : ℕ). HasRoomAt how config text width (at n k)) (sym is) room
        ];
  }

  pub rows-all : (rows row : ℕ) (old new : Position → Text) → row ≡ rows → FitsRows how config text k width row old new → FitsColumn how config text rows k width old new
  rows-all rows row old new all fits = record { fitted = λ r h. fits.fitted r (omega (arith, h, all)); others = fits.others; room = λ r h. fits.room r (omega (arith, h, all)) }

-- ---- the columns of a table

module _ (how : Overflow) (total : ℕ) (limits : List ℕ) (config : Config) (texts : List (List Text)) (columns : ℕ) where
  abbrev pub Below : ℕ → (Position → Text) → Type 0
  Below k now = AreFittedBelow how total limits config texts columns k now

  abbrev widths : List ℕ
  widths = column_widths how total limits config texts columns

  abbrev naturals : List ℕ
  naturals = natural_sizes Columns config texts columns

  abbrev Plain : Type 0
  Plain = HasPlainWidths config (length texts) columns

  pub none-fitted : (now : Position → Text) → ((p : Position) → now p ≡ text_at texts p) → Below 0 now
  none-fitted now same = record { fitted = λ p h k. absurd (omega (arith, k)); others = λ p _. same p; room = λ _ p h k. absurd (omega (arith, k)) }

  -- one column more, which was fitted
  pub one-fitted : (k : ℕ) (old new : Position → Text) → k < columns → Below k old → FitsColumn how config (text_at texts) (length texts) k (slice_index widths k) old new → Below (k + 1) new
  one-fitted k old new inside below fits = record {
    fitted = λ p h l.
        elim (cases_lt p.col k) [
          | inl before ↦ fits.others p (λ e. omega (arith, e, before)) ∙ below.fitted p h before
          | inr past ↦ let here : p.col ≡ k = omega (arith, l, past) in subst (λ (c : ℕ). new (at p.row c) ≡ fitted_at how total limits config texts columns (at p.row c)) (sym here) (fits.fitted p.row h)
        ];
    others = λ p l. fits.others p (λ e. omega (arith, e, l)) ∙ below.others p (omega (arith, l));
    room = λ plain p h l.
        elim (cases_lt p.col k) [
          | inl before ↦ below.room plain p h before
          | inr past ↦
              let here : p.col ≡ k = omega (arith, l, past) in
              let low : paddings Columns config (at p.row k) + least_text_width how config (text_at texts) (at p.row k) ≤ slice_index widths k = omega (arith, cell-least how config (text_at texts) (length texts) k p.row h, least-narrowed how total limits config texts columns k inside) in
              subst (λ (c : ℕ). paddings Columns config (at p.row c) + widest (get_formatting config (at p.row c)) (fitted_at how total limits config texts columns (at p.row c)) ≤ slice_index widths c) (sym here) (fits.room p.row h plain low)
        ];
  }

  stays : Plain → (p : Position) → p.row < length texts → p.col < columns → slice_index naturals p.col ≤ slice_index widths p.col → fitted_at how total limits config texts columns p ≡ text_at texts p
  stays plain p h k wide =
      fitted_text-stays how (get_formatting config p) (text_room how total limits config texts columns p) (text_at texts p) (omega (arith, cell-wide how total limits config texts columns plain p h k wide))

  stays-room : Plain → (p : Position) → p.row < length texts → p.col < columns → slice_index naturals p.col ≤ slice_index widths p.col → paddings Columns config p + widest (get_formatting config p) (fitted_at how total limits config texts columns p) ≤ slice_index widths p.col
  stays-room plain p h k wide = omega (arith, cell-wide how total limits config texts columns plain p h k wide, ap (widest (get_formatting config p)) (stays plain p h k wide))

  -- one column more, which is wide enough
  pub one-wide : Plain → (k : ℕ) (now : Position → Text) → k < columns → Below k now → slice_index naturals k ≤ slice_index widths k → Below (k + 1) now
  one-wide spanless k now inside below wide = record {
    fitted = λ p h l.
        elim (cases_lt p.col k) [
          | inl before ↦ below.fitted p h before
          | inr past ↦ below.others p past ∙ sym (stays spanless p h (omega (arith, l, inside)) (wide-at p.col (omega (arith, l, past))))
        ];
    others = λ p l. below.others p (omega (arith, l));
    room = λ plain p h l.
        elim (cases_lt p.col k) [
          | inl before ↦ below.room plain p h before
          | inr past ↦ stays-room spanless p h (omega (arith, l, inside)) (wide-at p.col (omega (arith, l, past)))
        ];
  }
    where
      wide-at : (c : ℕ) → c ≡ k → slice_index naturals c ≤ slice_index widths c
      wide-at c here = omega (arith, wide, ap (λ n. slice_index naturals n) here, ap (λ n. slice_index widths n) here)

  -- all columns are wide enough
  pub all-wide : Plain → (now : Position → Text) → ((p : Position) → now p ≡ text_at texts p) → ((k : ℕ) → k < columns → slice_index naturals k ≤ slice_index widths k) → Below columns now
  all-wide spanless now same wide = record {
    fitted = λ p h k. same p ∙ sym (stays spanless p h k (wide p.col k));
    others = λ p _. same p;
    room = λ _ p h k. stays-room spanless p h k (wide p.col k);
  }

  -- there are no cells
  pub none-there : (now : Position → Text) → ((p : Position) → now p ≡ text_at texts p) → ((p : Position) → p.row < length texts → p.col < columns → ⊥) → Below columns now
  none-there now same none = record {
    fitted = λ p h k. absurd (none p h k);
    others = λ p _. same p;
    room = λ _ p h k. absurd (none p h k);
  }

-- the records with these texts have the fitted texts
pub overlaid-fitted : {R Z : Type 0} (f : R → List (List Text)) (g : R → ℕ) (o : Overlay R Z) (how : Overflow) (total : ℕ) (limits : List ℕ) (config : Config) → AreFittedBelow how total limits config (f o.records) (g o.records) (g o.records) (other_text o.others (f o.records)) → overlaid f g o ≡ column_texts how total limits config (f o.records) (g o.records)
unfolding column_texts
overlaid-fitted f g o how total limits config below =
    let rows : length (f o.records) - 0 ≡ length (f o.records) = omega arith in
    let columns : g o.records - 0 ≡ g o.records = omega arith in
    ap (λ n. map (λ r. row_from f g o r 0) (range_with_len 0 n)) rows
    ∙ same-listed (λ r. row_from f g o r 0) (λ r. map (λ c. fitted_at how total limits config (f o.records) (g o.records) (at r c)) (range_with_len 0 (g o.records))) 0 (length (f o.records)) (λ r _ h.
    ap (λ n. map (λ c. other_text o.others (f o.records) (at r c)) (range_with_len 0 n)) columns
    ∙ same-listed (λ c. other_text o.others (f o.records) (at r c)) (λ c. fitted_at how total limits config (f o.records) (g o.records) (at r c)) 0 (g o.records) (λ c _ k. below.fitted (at r c) (omega (arith, h)) (omega (arith, k))))

-- the same where the records below are known, and the table that these make
module _ {R Z : Type 0} (f : R → List (List Text)) (g : R → ℕ) (o : Overlay R Z) (r : R) (is : o.records ≡ r) (how : Overflow) (total : ℕ) (limits : List ℕ) (config : Config) (spanless : HasPlainWidths config (length (f r)) (g r)) (below : AreFittedBelow how total limits config (f r) (g r) (g r) (other_text o.others (f r))) (color : Position → Option Color) where
  abbrev drawn : PrintedTable
  drawn = natural_table config (overlaid f g o) (g o.records) color

  pub texts-are : overlaid f g o ≡ column_texts how total limits config (f r) (g r)
  texts-are =
      ap (λ (x : R). overlaid f g (record { records = x; others = o.others })) is
      ∙ overlaid-fitted f g (record { records = r; others = o.others }) how total limits config below

  pub table-is : drawn ≡ natural_table config (column_texts how total limits config (f r) (g r)) (g r) color
  table-is = λ i. natural_table config (texts-are i) (g (is i)) color

  pub table-narrow : HasPlainTail how → full_width drawn ≤ max total (plain_full_width how config (f r) (g r))
  table-narrow plain = omega (arith, ap full_width table-is, lines-narrow how total limits config (f r) (g r) spanless (λ p h k. below.room plain p h k) color)

  pub columns-limited : HasPlainTail how → (k : ℕ) → k < g r → drawn.width k ≤ max (least_column_width how config (text_at (f r)) (length (f r)) k) (limit_of limits k)
  columns-limited plain k h =
      omega (
        arith,
        ap (λ (t : PrintedTable). t.width k) table-is,
        width-at config (column_texts how total limits config (f r) (g r)) (g r) color k h,
        columns-narrow how total limits config (f r) (g r) spanless (λ p i j. below.room plain p i j) k h,
      )
