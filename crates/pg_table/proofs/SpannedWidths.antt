-- The widths of columns and the texts of a table that keeps spans, within a total, and its least widths.
use Rattle.std.proofs.Common.{Bool, ◌≡◌, ℕ, zero, suc, ◌+◌, ◌-◌, ◌<◌, ◌≤◌, true, false, nat_le, max, List, map, length, get_or, slice_index, sum, sum_by, refl, sym, ap, ◌∙◌, arith, inl, inr, None, ◌⊎◌, ◌==◌, ◌||◌, not, find, ◌&&◌, [], subst, Option, ◌^◌, nat_lt, cond, ◌∷◌, slice_index_or, Some, is_some, Result, Err, is_ok, IfOk, IsOk}
use Rattle.std.specs.List.{range_with_len, list_all}
use Rattle.std.proofs.lemmas.Bool.{cases_Bool, and_parts, false≢true, cases_lt, and_from, and_right, and_left}
use Rattle.std.proofs.lemmas.Bool.Decides.{nat_tests}
use Rattle.std.proofs.lemmas.List.FromFn.{length-map-range_with_len, get_or-map-range_with_len}
use Rattle.std.proofs.lemmas.List.Sums.{sum_by-cons}
use Rattle.pg_layout.specs.declared.position.Position.{Position}
use Rattle.pg_layout.specs.Position.{at}
use Rattle.pg_layout.specs.Records.{text_at}
use Rattle.pg_layout.specs.Text.{Text}
use Rattle.pg_config.specs.Config.{Config, get_formatting, has_vertical, count_vertical}
use Rattle.pg_config.specs.Spans.{corner, Span, in_span, size_of, span_size, rect_columns}
use Rattle.pg_fit.specs.declared.narrowing.ColumnRange.{ColumnRange}
use Rattle.pg_fit.specs.Narrowing.{limited, narrowed, least_total, none}
use Rattle.pg_fit.proofs.NarrowedWidths.{fills, within_ranges, limits_hold}
use Rattle.pg_picture.specs.Fits.{spans_fit}
use Rattle.pg_table.specs.Fitted.{least_width_at, least_full_width, least_fault}
use Rattle.pg_table.specs.Natural.{cell_size, natural_size, natural_sizes, is_single, cells_fit, widened}
use Rattle.pg_table.specs.Overflowing.{beside_columns, limit_of, HasPlainTail}
use Rattle.pg_table.specs.Spanning.{keeps_spans, least_cell_width, spanned_least_width, are_within, spanned_range, spanned_widths, width_for, table_from, cell_room, spanned_text, spanned_texts, singles_width, room_needed}
use Rattle.pg_table.specs.declared.overflow.Overflow.{Overflow}
use Rattle.pg_table.specs.declared.sizes.Axis.TheVariants.{Columns}
use Rattle.pg_table.proofs.FittedColumns.{sum-places, same-listed}
use Rattle.pg_table.proofs.ListedSizes.{size-at, none-past, some-below}
use Rattle.pg_table.proofs.NaturalRoom.{single_below, span_room, map-below}
use Rattle.pg_table.proofs.ShownCells.{one_fails, size-single, single-shown, corner-shown, cell-fits, sized-size, shown-cases}
use Rattle.pg_table.proofs.Widenings.{sum-le, sum-same, sum-part, widened-base}
use Rattle.pg_table.proofs.ToldRooms.{HaveRoom, inside, single-below, corner-below, lines_in, stays, all-fit, needs-inside}
use Rattle.pg_layout.specs.Colors.{Color}
use Rattle.pg_layout.specs.Keys.{by_place}
use Rattle.pg_layout.specs.Places.{same}
use Rattle.pg_config.specs.declared.spans.SpanSize.{SpanSize}
use Rattle.pg_picture.specs.Pieces.{widest}
use Rattle.pg_picture.specs.Sizes.{sized, if_fits}
use Rattle.pg_picture.specs.Table.{Table, full_width, total_width, rect_width}
use Rattle.pg_picture.proofs.OwnersOfPlaces.{Among, InOrder, find_cases, size_of_corner, room_among}
use Rattle.pg_table.specs.Inside.{IsBefore, HasRoomTogether, AreFittedTo, HasHugeLeast}
use Rattle.pg_table.proofs.ToldTables.{width-at}
use Rattle.pg_picture.proofs.Ranges.{sum_by-part_le}
use Rattle.pg_table.specs.declared.needs.Need.{Need}
use Rattle.std.specs.Option.{ok_or}
use Rattle.std.specs.Result.{result_err}
use Rattle.pg_table.specs.declared.fault.TableFault.{TableFault}
use Rattle.pg_table.specs.declared.fault.TableFault.TheVariants.{Spans, Totals}

-- ---- the widths of columns and the texts of a table that keeps spans, within a total

-- ---- the widths of the columns of a table that keeps spans, within a total

-- a test of all numbers below another one is one of each
pub each-passes : (test : ℕ → Bool) (n k : ℕ) → list_all test (range_with_len 0 n) ≡ true → k < n → test k ≡ true
each-passes test n k all h =
    elim (cases_Bool (test k)) [
      | inl holds ↦ holds
      | inr fails ↦ absurd (false≢true (sym (one_fails test 0 n k (omega arith) (omega (arith, h)) fails) ∙ all))
    ]

module _ (how : Overflow) (total : ℕ) (limits : List ℕ) (config : Config) (texts : List (List Text)) (columns : ℕ) where
  abbrev pub least : ℕ → ℕ
  least k = spanned_least_width how config texts columns k

  abbrev pub naturals : List ℕ
  naturals = natural_sizes Columns config texts columns

  abbrev pub widths : List ℕ
  widths = spanned_widths how total limits config texts columns

  abbrev range : ℕ → ColumnRange
  range = spanned_range how total limits config texts columns

  abbrev ranges : List ColumnRange
  ranges = map range (range_with_len 0 columns)

  abbrev room : ℕ
  room = total - beside_columns config columns

  abbrev pub within : Bool
  within = are_within total limits config columns naturals

  pub widths-natural : within ≡ true → widths ≡ naturals
  unfolding spanned_widths
  widths-natural holds = rw holds refl

  pub widths-narrowed : within ≡ false → widths ≡ narrowed room ranges
  unfolding spanned_widths
  widths-narrowed fails = rw fails refl

  pub natural-at : (k : ℕ) → k < columns → slice_index naturals k ≡ natural_size Columns config (text_at texts) (length texts) columns k
  unfolding natural_sizes
  natural-at k h = size-at (natural_size Columns config (text_at texts) (length texts) columns) columns k h

  pub length-naturals : length naturals ≡ columns
  unfolding natural_sizes
  length-naturals = length-map-range_with_len (natural_size Columns config (text_at texts) (length texts) columns) 0 columns

  -- ranges of listed widths
  pub listed-ranges : (ls ns : List ℕ) → ls ≡ map least (range_with_len 0 columns) → ns ≡ naturals → map (λ k. limited (limit_of limits k) (record { least = slice_index ls k; natural = slice_index ns k })) (range_with_len 0 (length ns)) ≡ ranges
  listed-ranges ls ns listed same =
      ap (λ n. map (λ k. limited (limit_of limits k) (record { least = slice_index ls k; natural = slice_index ns k })) (range_with_len 0 n)) (ap length same ∙ length-naturals)
      ∙ same-listed (λ k. limited (limit_of limits k) (record { least = slice_index ls k; natural = slice_index ns k })) range 0 columns (λ k _ h.
      let low : slice_index ls k ≡ least k = ap (λ xs. slice_index xs k) listed ∙ size-at least columns k (omega (arith, h)) in
      let wide : slice_index ns k ≡ slice_index naturals k = ap (λ xs. slice_index xs k) same in
      λ i. limited (limit_of limits k) (record { least = low i; natural = wide i }))

  length-ranges : length ranges ≡ columns
  length-ranges = length-map-range_with_len range 0 columns

  range-at : (k : ℕ) → k < columns → get_or ranges k none ≡ range k
  range-at k h = get_or-map-range_with_len range 0 columns k k none h (omega arith)

  least-total : (a n : ℕ) → least_total (map range (range_with_len a n)) ≡ sum_by least (range_with_len a n)
  least-total a zero = refl
  least-total a (suc n) =
      omega (arith, sum_by-cons (λ (c : ColumnRange). c.least) (range a) (map range (range_with_len (a + 1) n)), sum_by-cons least a (range_with_len (a + 1) n), least-total (a + 1) n)

  length-narrowed : length (narrowed room ranges) ≡ columns
  length-narrowed = (within_ranges room ranges).0 ∙ length-ranges

  pub length-widths : length widths ≡ columns
  length-widths = elim (cases_Bool within) [
    | inl holds ↦ ap length (widths-natural holds) ∙ length-naturals
    | inr fails ↦ ap length (widths-narrowed fails) ∙ length-narrowed
  ]

  narrowed-least : (k : ℕ) → k < columns → least k ≤ slice_index (narrowed room ranges) k
  narrowed-least k h = omega (arith, ((within_ranges room ranges).1 k (omega (arith, h, length-ranges))).0, ap (λ (c : ColumnRange). c.least) (range-at k h))

  sum-narrowed : sum_by (slice_index (narrowed room ranges)) (range_with_len 0 columns) ≡ sum (narrowed room ranges)
  sum-narrowed =
      ap (λ n. sum_by (slice_index (narrowed room ranges)) (range_with_len 0 n)) (sym length-narrowed)
      ∙ sum-places (slice_index (narrowed room ranges)) (narrowed room ranges) 0 (λ i l. ap (slice_index (narrowed room ranges)) (let e : 0 + i ≡ i = omega arith in e))

  -- they are within the total, or at their least
  pub sum-widths : sum_by (slice_index widths) (range_with_len 0 columns) ≤ max room (sum_by least (range_with_len 0 columns))
  sum-widths = elim (cases_Bool within) [
    | inl holds ↦
        let low : sum_by (slice_index naturals) (range_with_len 0 columns) ≤ room =
        (let test = (and_parts (list_all (λ k. nat_le (slice_index naturals k) (limit_of limits k)) (range_with_len 0 columns)) (nat_le (sum_by (slice_index naturals) (range_with_len 0 columns)) room) holds).1 in grind (arith, nat_tests, test)) in
        omega (arith, low, ap (λ ws. sum_by (slice_index ws) (range_with_len 0 columns)) (widths-natural holds))
    | inr fails ↦ omega (arith, ap (λ ws. sum_by (slice_index ws) (range_with_len 0 columns)) (widths-narrowed fails), sum-narrowed, fills room ranges, least-total 0 columns)
  ]

  -- each is within its limit, or at its least
  pub width-limited : (k : ℕ) → k < columns → slice_index widths k ≤ max (least k) (limit_of limits k)
  width-limited k h = elim (cases_Bool within) [
    | inl holds ↦
        let all = (and_parts (list_all (λ k. nat_le (slice_index naturals k) (limit_of limits k)) (range_with_len 0 columns)) (nat_le (sum_by (slice_index naturals) (range_with_len 0 columns)) room) holds).0 in
        let test : nat_le (slice_index naturals k) (limit_of limits k) ≡ true = each-passes (λ k. nat_le (slice_index naturals k) (limit_of limits k)) columns k all h in
        let low : slice_index naturals k ≤ limit_of limits k = grind (arith, nat_tests, test) in
        omega (arith, low, ap (λ ws. slice_index ws k) (widths-natural holds))
    | inr fails ↦
        omega (
          arith,
          ap (λ ws. slice_index ws k) (widths-narrowed fails),
          limits_hold room ranges k (limit_of limits k) (record { least = least k; natural = slice_index naturals k }) (omega (arith, h, length-ranges)) (range-at k h),
        )
  ]

  -- ---- they have room for all cells, each as narrow as it can be made

  abbrev pub size : Position → ℕ
  size p = least_cell_width how config (text_at texts) p

  least-below : (p : Position) → size p ≤ cell_size Columns config (text_at texts) p
  least-below p = omega arith

  module _ (fit : spans_fit config.spans (length texts) columns ≡ true) where
    rooms-natural : HaveRoom config (length texts) columns size (slice_index naturals)
    rooms-natural = record {
      singles = λ r c h l single. omega (arith, least-below (at r c), natural-at c l, single_below config texts columns (λ p. None) Columns c r h single);
      corners = λ s m.
          let room : cell_size Columns config (text_at texts) (corner s) - lines_in config columns s ≤ sum_by (natural_size Columns config (text_at texts) (length texts) columns) (range_with_len s.0.col s.1.columns) =
          span_room config texts columns (λ p. None) fit Columns s m in
          omega (
            arith,
            least-below (corner s),
            room,
            sum-same (slice_index naturals) (natural_size Columns config (text_at texts) (length texts) columns) s.0.col s.1.columns (λ k _ h. natural-at k (omega (arith, h, (inside config (length texts) columns size (λ c. 0) fit s m).columns_end))),
          );
    }

    rooms-narrowed : HaveRoom config (length texts) columns size (slice_index (narrowed room ranges))
    unfolding spanned_least_width
    rooms-narrowed = record {
      singles = λ r c h l single. omega (arith, narrowed-least c l, single-below config (length texts) columns size (λ c. 0) r c h single);
      corners = λ s m.
          omega (
            arith,
            corner-below config (length texts) columns size (λ c. 0) fit s m,
            sum-le least (slice_index (narrowed room ranges)) s.0.col s.1.columns (λ k _ h. narrowed-least k (omega (arith, h, (inside config (length texts) columns size (λ c. 0) fit s m).columns_end))),
          );
    }

    pub rooms : HaveRoom config (length texts) columns size (slice_index widths)
    rooms = elim (cases_Bool within) [
      | inl holds ↦ rw (widths-natural holds) rooms-natural
      | inr fails ↦ rw (widths-narrowed fails) rooms-narrowed
    ]

  -- ---- what is least of a table that keeps spans

  module _ (kept : keeps_spans config texts columns ≡ true) where
    pub least-kept : (k : ℕ) → least_width_at how config texts columns k ≡ least k
    unfolding least_width_at
    least-kept k = rw kept refl

    pub full-kept : least_full_width how config texts columns ≡ sum_by least (range_with_len 0 columns) + beside_columns config columns
    unfolding least_full_width
    full-kept = ap (λ n. n + beside_columns config columns) (sum-same (least_width_at how config texts columns) least 0 columns (λ k _ _. least-kept k))

-- ---- texts that are fitted to all columns of their cells, and the columns of their table

-- ---- texts, place by place

module _ (how : Overflow) (ws : List ℕ) (config : Config) (texts : List (List Text)) (columns : ℕ) where
  abbrev pub To : ℕ → ℕ → (Position → Text) → Type 0
  To row col now = AreFittedTo how ws config texts columns row col now

  pub none-before : (now : Position → Text) → ((p : Position) → now p ≡ text_at texts p) → To 0 0 now
  none-before now own = record {
    fitted = λ p h k before. absurd (not_before p before);
    others = λ p _. own p;
    room = λ p h k before. absurd (not_before p before);
  }
    where
      not_before : (p : Position) → IsBefore 0 0 p → ⊥
      not_before p (inl low) = omega (arith, low)
      not_before p (inr here) = omega (arith, here.1)

  -- a row more
  pub row-done : (row col : ℕ) (now : Position → Text) → col ≡ columns → To row col now → To (row + 1) 0 now
  row-done row col now all so_far = record {
    fitted = λ p h k before. so_far.fitted p h k (earlier p k before);
    others = λ p after. so_far.others p (λ before. after (inl (later p before)));
    room = λ p h k before. so_far.room p h k (earlier p k before);
  }
    where
      earlier : (p : Position) → p.col < columns → IsBefore (row + 1) 0 p → IsBefore row col p
      earlier p k (inl low) = elim (cases_lt p.row row) [ inl below ↦ inl below | inr past ↦ inr (omega (arith, low, past), omega (arith, k, all)) ]
      earlier p k (inr here) = absurd (omega (arith, here.1))

      later : (p : Position) → IsBefore row col p → p.row < row + 1
      later p (inl low) = omega (arith, low)
      later p (inr here) = omega (arith, here.0)

  away : (p q : Position) → (q.row ≡ p.row → q.col ≡ p.col → ⊥) → same by_place p q ≡ false
  away p q other =
      elim (same by_place p q) as (λ v. same by_place p q ≡ v → v ≡ false) [
        | true ↦ λ y. let row : q.row ≡ p.row = grind (arith, nat_tests) in let col : q.col ≡ p.col = grind (arith, nat_tests) in absurd (other row col)
        | false ↦ λ n. refl
      ] refl

  -- a place more
  pub place-more : (row col : ℕ) (old new : Position → Text) → To row col old
      → new (at row col) ≡ spanned_text how ws config texts columns (at row col)
      → ((q : Position) → same by_place (at row col) q ≡ false → new q ≡ old q)
      → HasRoomTogether how ws config texts columns (at row col)
      → To row (col + 1) new
  place-more row col old new so_far here kept room = record {
    fitted = λ p h k before.
        elim (last p before) [
          | inl earlier ↦ kept p (away (at row col) p (λ r c. not_here p earlier r c)) ∙ so_far.fitted p h k earlier
          | inr is ↦ subst (λ (q : Position). new q ≡ spanned_text how ws config texts columns q) is here
        ];
    others = λ p after. kept p (away (at row col) p (λ r c. after (inr (r, omega (arith, c))))) ∙ so_far.others p (λ before. after (more p before));
    room = λ p h k before.
        elim (last p before) [
          | inl earlier ↦ so_far.room p h k earlier
          | inr is ↦ subst (λ (q : Position). HasRoomTogether how ws config texts columns q) is room
        ];
  }
    where
      more : (p : Position) → IsBefore row col p → IsBefore row (col + 1) p
      more p (inl low) = inl low
      more p (inr at_row) = inr (at_row.0, omega (arith, at_row.1))

      place_is : (p : Position) → p.row ≡ row → p.col ≡ col → at row col ≡ p
      place_is p r c = rw (sym r, sym c) refl

      last : (p : Position) → IsBefore row (col + 1) p → IsBefore row col p ⊎ (at row col ≡ p)
      last p (inl low) = inl (inl low)
      last p (inr at_row) = elim (cases_lt p.col col) [ inl below ↦ inl (inr (at_row.0, below)) | inr past ↦ inr (place_is p at_row.0 (omega (arith, at_row.1, past))) ]

      not_here : (p : Position) → IsBefore row col p → p.row ≡ row → p.col ≡ col → ⊥
      not_here p (inl low) r c = omega (arith, low, r)
      not_here p (inr at_row) r c = omega (arith, at_row.1, c)

  -- ---- all texts

  abbrev pub fitted : List (List Text)
  fitted = spanned_texts how ws config texts columns

  pub length-fitted : length fitted ≡ length texts
  unfolding spanned_texts
  length-fitted = length-map-range_with_len (λ r. map (λ c. spanned_text how ws config texts columns (at r c)) (range_with_len 0 columns)) 0 (length texts)

  fitted-at : (r c : ℕ) → r < length texts → c < columns → text_at fitted (at r c) ≡ spanned_text how ws config texts columns (at r c)
  unfolding spanned_texts
  fitted-at r c h k =
      ap (λ row. get_or row c []) (get_or-map-range_with_len (λ i. map (λ j. spanned_text how ws config texts columns (at i j)) (range_with_len 0 columns)) 0 (length texts) r r [] h (omega arith))
      ∙ get_or-map-range_with_len (λ j. spanned_text how ws config texts columns (at r j)) 0 columns c c [] k (omega arith)

  -- the room of a cell
  room-is : (p : Position) → rect_width (sized config (slice_index ws) (λ r. 0) (length texts) columns) p ≡ cell_room ws config (length texts) columns p
  unfolding cell_room
  room-is p = refl

  room-single : (r c : ℕ) → size_of config.spans (at r c) ≡ span_size 1 1 → cell_room ws config (length texts) columns (at r c) ≡ slice_index ws c
  unfolding cell_room rect_width rect_columns
  room-single r c one = let taken : (size_of config.spans (at r c)).columns ≡ 1 = ap (λ (z : SpanSize). z.columns) one in rw taken (omega arith)

  room-corner : (s : Span) → size_of config.spans (corner s) ≡ s.1 → cell_room ws config (length texts) columns (corner s) ≡ sum_by (slice_index ws) (range_with_len s.0.col s.1.columns) + lines_in config columns s
  unfolding cell_room rect_width rect_columns
  room-corner s one = let taken : (size_of config.spans (corner s)).columns ≡ s.1.columns = ap (λ (z : SpanSize). z.columns) one in rw taken refl

  -- ---- columns that have room for the least widths have room for the fitted texts

  single-none : (r c : ℕ) → is_single config.spans (at r c) ≡ true → find (in_span r c) config.spans ≡ None
  single-none r c single =
      elim (find_cases (in_span r c) config.spans) [
        | inl none ↦ none
        | inr f ↦ absurd (false≢true (rw f.1 at single))
      ]

  module _ (order : InOrder config.spans (length texts) columns) (have : HaveRoom config (length texts) columns (least_cell_width how config (text_at texts)) (slice_index ws))
      (plain : HasPlainTail how) (rooms_of : (p : Position) → p.row < length texts → p.col < columns → HasRoomTogether how ws config texts columns p) where
    abbrev fit : spans_fit config.spans (length texts) columns ≡ true
    fit = order.fit

    fitted-single : (r c : ℕ) → r < length texts → c < columns → is_single config.spans (at r c) ≡ true → cell_size Columns config (text_at fitted) (at r c) ≤ slice_index ws c
    fitted-single r c h l single =
        let room = room-single r c (size-single (length texts) columns config.spans r c (all-fit config (length texts) columns (least_cell_width how config (text_at texts)) (λ k. 0) fit) (single-none r c single)) in
        omega (
          arith,
          rooms_of (at r c) h l plain (single-shown config.spans (at r c) single) (omega (arith, room, have.singles r c h l single)),
          room,
          ap (widest (get_formatting config (at r c))) (fitted-at r c h l),
        )

    fitted-corner : (s : Span) → Among config.spans s → cell_size Columns config (text_at fitted) (corner s) ≤ sum_by (slice_index ws) (range_with_len s.0.col s.1.columns) + lines_in config columns s
    fitted-corner s m =
        let ends = inside config (length texts) columns (least_cell_width how config (text_at texts)) (λ k. 0) fit s m in
        let row : s.0.row < length texts = omega (arith, ends.rows_end, ends.some_rows) in
        let column : s.0.col < columns = omega (arith, ends.columns_end, ends.some_columns) in
        let room = room-corner s (size_of_corner config.spans (length texts) columns order s m) in
        omega (
          arith,
          rooms_of (corner s) row column plain (corner-shown config.spans (length texts) columns order s m) (omega (arith, room, have.corners s m)),
          room,
          ap (widest (get_formatting config (corner s))) (fitted-at s.0.row s.0.col row column),
        )

    pub widths-stay : (k : ℕ) → k < columns → width_for config (length fitted) columns (cell_size Columns config (text_at fitted)) (slice_index ws) k ≡ slice_index ws k
    widths-stay k h =
        ap (λ n. width_for config n columns (cell_size Columns config (text_at fitted)) (slice_index ws) k) length-fitted
        ∙ stays config (length texts) columns (cell_size Columns config (text_at fitted)) (slice_index ws) fit fitted-single fitted-corner k h

    module _ (color : Position → Option Color) (kept : keeps_spans config texts columns ≡ true) where
      abbrev table : Table
      table = table_from ws config fitted columns color

      kept-fitted : keeps_spans config fitted columns ≡ true
      kept-fitted = ap (λ n. not ((n == 0) || (columns == 0)) && not (length config.spans == 0)) length-fitted ∙ kept

      pub width-is : (k : ℕ) → k < columns → table.width k ≡ slice_index ws k
      width-is k h = width-at ws config fitted columns color kept-fitted (ap (λ n. spans_fit config.spans n columns) length-fitted ∙ fit) k h ∙ widths-stay k h

      pub full-is : full_width table ≡ sum_by (slice_index ws) (range_with_len 0 columns) + beside_columns config columns
      unfolding full_width total_width
      full-is = omega (arith, sum-same table.width (slice_index ws) 0 columns (λ k _ h. width-is k (omega (arith, h))))

-- ---- least widths of the columns of a table that keeps spans, and why there are none

-- ---- least widths of the columns of a table that keeps spans: as a list, and where they are no numbers

-- the column lines in a cell are some of all
lines-le : (config : Config) (columns : ℕ) (s : Span) → s.0.col + s.1.columns ≤ columns → 0 < s.1.columns → lines_in config columns s ≤ count_vertical config columns
unfolding count_vertical
lines-le config columns s ends some =
    sum_by-part_le (λ c. cond (has_vertical config c columns) 1 0) (s.0.col + 1) (s.1.columns - 1) (columns + 1) (omega (arith, ends, some))

module _ (how : Overflow) (config : Config) (texts : List (List Text)) (columns : ℕ) where
  abbrev room_of : Position → ℕ
  room_of p = least_cell_width how config (text_at texts) p

  abbrev singles : ℕ → ℕ
  singles k = singles_width config (length texts) columns room_of k

  abbrev needs : List Need
  needs = map (room_needed config (length texts) columns room_of) config.spans

  -- the widths by cells without a span, widened
  pub widened-least : spans_fit config.spans (length texts) columns ≡ true → (s : List ℕ) → s ≡ map singles (range_with_len 0 columns)
      → map (widened (slice_index s) needs columns) (range_with_len 0 columns) ≡ map (spanned_least_width how config texts columns) (range_with_len 0 columns)
  unfolding spanned_least_width width_for
  widened-least fit s is =
      map-below (widened (slice_index s) needs columns) (widened (λ c. max 0 (singles c)) needs columns) columns (λ k h.
      widened-base (slice_index s) (λ c. max 0 (singles c)) needs columns (needs-inside config (length texts) columns room_of (λ c. 0) fit) (λ j l. omega (arith, ap (λ xs. slice_index xs j) is, size-at singles columns j l)) columns k h)

  pub length-singles : (s : List ℕ) → s ≡ map singles (range_with_len 0 columns) → length s ≡ columns
  length-singles s is = ap length is ∙ length-map-range_with_len singles 0 columns

  -- of a cell with a span too
  past-among : (spans : List Span) → list_all (λ s. nat_lt (room_of (corner s)) (2 ^ 64)) spans ≡ false → (s : Span) × Among spans s × (2 ^ 64 ≤ room_of (corner s))
  past-among [] none = absurd (false≢true (sym none))
  past-among (t ∷ ts) none =
      elim (cases_lt (room_of (corner t)) (2 ^ 64)) [
        | inl small ↦
            let test : nat_lt (room_of (corner t)) (2 ^ 64) ≡ true = grind (arith, nat_tests, small) in
            let rest = past-among ts (rw test at none) in
            (rest.0, inr rest.1, rest.2)
        | inr past ↦ (t, inl refl, past)
      ]

  pub corner-huge : InOrder config.spans (length texts) columns → list_all (λ s. nat_lt (room_of (corner s)) (2 ^ 64)) config.spans ≡ false → HasHugeLeast how config texts columns
  corner-huge order none =
      let found = past-among config.spans none in
      let ends = room_among config.spans (length texts) columns order found.0 found.1 in (
        corner found.0,
        record {
          row = omega (arith, ends.rows_end, ends.some_rows);
          column = omega (arith, ends.columns_end, ends.some_columns);
          shown = corner-shown config.spans (length texts) columns order found.0 found.1;
          huge = found.2;
        },
      )

  -- where all shown cells fit, so do their least widths
  pub none-huge : cells_fit config (text_at texts) (length texts) columns ≡ true → HasHugeLeast how config texts columns → ⊥
  none-huge all huge =
      let p : Position = huge.0 in
      let small = sized-size config (text_at texts) (length texts) columns Columns huge.0 (cell-fits config (text_at texts) (length texts) columns all huge.0.row huge.0.col huge.1.row huge.1.column huge.1.shown) in
      omega (arith, huge.1.huge, small)

  -- ---- a least width that is no number makes that of the line none

  abbrev least-of : ℕ → ℕ
  least-of k = spanned_least_width how config texts columns k

  module _ (order : InOrder config.spans (length texts) columns) where
    single-past : (r c : ℕ) → r < length texts → c < columns → is_single config.spans (at r c) ≡ true → room_of (at r c) ≤ sum_by least-of (range_with_len 0 columns)
    unfolding spanned_least_width
    single-past r c h l single = omega (arith, single-below config (length texts) columns room_of (λ c. 0) r c h single, sum-part least-of 0 columns c (omega arith) (omega (arith, l)))

    corner-past : (s : Span) → Among config.spans s → room_of (corner s) ≤ sum_by least-of (range_with_len 0 columns) + count_vertical config columns
    unfolding spanned_least_width
    corner-past s m =
        let ends = inside config (length texts) columns room_of (λ c. 0) order.fit s m in
        omega (
          arith,
          corner-below config (length texts) columns room_of (λ c. 0) order.fit s m,
          lines-le config columns s ends.columns_end ends.some_columns,
          sum_by-part_le least-of s.0.col s.1.columns columns ends.columns_end,
        )

    pub huge-past : HasHugeLeast how config texts columns → 2 ^ 64 ≤ sum_by least-of (range_with_len 0 columns) + count_vertical config columns
    huge-past huge =
        let p : Position = huge.0 in
        let h = huge.1 in
        elim (shown-cases config.spans p h.shown) [
          | inl single ↦ omega (arith, h.huge, single-past p.row p.col h.row h.column single)
          | inr f ↦ omega (arith, h.huge, corner-past f.span f.among, ap (λ (q : Position). room_of q) f.is)
        ]

-- ---- why the least width of a line isn't told, and what is told of one that may be none

-- spans that are kept and don't fit, and any others
pub kept-misfit : (kept fit : Bool) → kept ≡ true → fit ≡ false → (kept && not fit) ≡ true
kept-misfit kept fit k f = grind (arith, k, f)

pub fit-passes : (kept fit : Bool) → fit ≡ true → (kept && not fit) ≡ false
fit-passes kept fit f = grind (arith, f)

pub unkept-passes : (kept fit : Bool) → kept ≡ false → (kept && not fit) ≡ false
unkept-passes kept fit k = grind (arith, k)

past-test : (n : ℕ) → 2 ^ 64 ≤ n → nat_lt n (2 ^ 64) ≡ false
past-test n past = grind (arith, nat_tests, past)

below-test : (n : ℕ) → n < 2 ^ 64 → nat_lt n (2 ^ 64) ≡ true
below-test n below = grind (arith, nat_tests, below)

-- a number that is told where it can be counted and is one of 64 bits
told-some : (b : Bool) (n m : ℕ) → Some m ≡ cond b (if_fits n) None → (b ≡ true) × (m ≡ n) × (n < 2 ^ 64)
told-some true n m e = let parts = some-below n m e in (refl, parts.0, parts.1)
told-some false n m e = absurd (false≢true (sym (ap (λ (o : Option ℕ). is_some o) e)))

told-none : (b : Bool) (n : ℕ) → None ≡ cond b (if_fits n) None → (b && nat_lt n (2 ^ 64)) ≡ false
told-none true n e = past-test n (none-past n e)
told-none false n e = refl

module _ (how : Overflow) (config : Config) (texts : List (List Text)) (columns : ℕ) where
  abbrev misfits : Bool
  misfits = keeps_spans config texts columns && not (spans_fit config.spans (length texts) columns)

  abbrev counted : Bool
  counted = nat_lt columns (2 ^ 64 - 1)

  abbrev full : ℕ
  full = least_full_width how config texts columns

  pub least-spans : misfits ≡ true → least_fault how config texts columns ≡ Some Spans
  unfolding least_fault
  least-spans misfit = rw misfit refl

  least-past : misfits ≡ false → (counted && nat_lt full (2 ^ 64)) ≡ false → least_fault how config texts columns ≡ Some Totals
  unfolding least_fault
  least-past fit past = rw (fit, past) refl

  least-none : misfits ≡ false → (counted && nat_lt full (2 ^ 64)) ≡ true → least_fault how config texts columns ≡ None
  unfolding least_fault
  least-none fit all = rw (fit, all) refl

  -- spans that fit, or that aren't kept, are never why
  pub least-no_spans : misfits ≡ false → least_fault how config texts columns ≡ Some Spans → ⊥
  least-no_spans fit told =
      elim (cases_Bool (counted && nat_lt full (2 ^ 64))) [
        | inl all ↦ (let none = least-none fit all in cc)
        | inr past ↦ (let totals = least-past fit past in cc)
      ]

  pub least-uncounted : misfits ≡ false → counted ≡ false → least_fault how config texts columns ≡ Some Totals
  least-uncounted fit many = least-past fit (and_left counted (nat_lt full (2 ^ 64)) many)

  pub least-huge : misfits ≡ false → 2 ^ 64 ≤ full → least_fault how config texts columns ≡ Some Totals
  least-huge fit past = least-past fit (and_right counted (nat_lt full (2 ^ 64)) (past-test full past))

  -- what is told of the line, where it may be none
  pub told-width : (o : Option ℕ) → o ≡ cond counted (if_fits full) None → IfOk (ok_or o Totals) (λ width. width ≡ full)
  told-width None is = tt
  told-width (Some m) is = (told-some counted full m is).1

  pub told-ok : misfits ≡ false → (o : Option ℕ) → o ≡ cond counted (if_fits full) None → IsOk (ok_or o Totals) → least_fault how config texts columns ≡ None
  told-ok fit None is ok = absurd (false≢true ok)
  told-ok fit (Some m) is ok =
      let parts = told-some counted full m is in
      least-none fit (and_from counted (nat_lt full (2 ^ 64)) parts.0 (below-test full parts.2))

  pub told-fault : misfits ≡ false → (o : Option ℕ) → o ≡ cond counted (if_fits full) None → (fault : TableFault) → ok_or o Totals ≡ Err fault → least_fault how config texts columns ≡ Some fault
  told-fault fit None is fault e = least-past fit (told-none counted full is) ∙ ap (λ (r : Result ℕ TableFault). result_err r) e
  told-fault fit (Some m) is fault e = absurd (false≢true (sym (ap (λ (r : Result ℕ TableFault). is_ok r) e)))

  -- the line of columns that are listed at their least widths
  pub full-listed : keeps_spans config texts columns ≡ true → (ws : List ℕ) → ws ≡ map (spanned_least_width how config texts columns) (range_with_len 0 columns) → (height : ℕ → ℕ)
      → full_width (sized config (λ k. slice_index_or ws k 0) height 0 columns) ≡ full
  unfolding full_width total_width
  full-listed kept ws is height =
      omega (
        arith,
        sum-same (λ k. slice_index_or ws k 0) (spanned_least_width how config texts columns) 0 columns (λ k _ h. ap (λ xs. slice_index_or xs k 0) is ∙ size-at (spanned_least_width how config texts columns) columns k (omega (arith, h))),
        full-kept how 0 [] config texts columns kept,
      )
