use Rattle.std.proofs.Common.{◌≡◌, ◌∙◌, ◌<◌, ◌≤◌, ◌-◌, ◌^◌, ℕ, List, None, drop, length, slice_index, slice_index_or, sum_by, ap, ap₂, arith, rules, subst, sym}
use Rattle.std.specs.List.{range_with_len}
use Rattle.std.specs.Option.{option_or}
use Rattle.pg_config.specs.Config.{Config}
use Rattle.pg_layout.specs.Records.{columns_of}
use Rattle.pg_layout.specs.Text.{Text}
use Rattle.pg_table.proofs.ListedSizes.{seam}
use Rattle.pg_table.specs.Fitted.{fit_fault, fitted_table, fitted_texts}
use Rattle.pg_table.specs.Overflowing.{beside_columns, limit_of}
use Rattle.pg_table.specs.Printing.{sizes_fault}
use Rattle.pg_table.specs.declared.overflow.Overflow.{Overflow}
use Rattle.ruled_table.specs.Bounds.{width_of}
use Rattle.ruled_table.specs.Columns.{texts_of}
use Rattle.ruled_table.specs.Widths.{AreSpaced, IsLowered, lowered}
use Rattle.ruled_table.proofs.Tables.{found-widths}
use Rattle.ruled_table.proofs.widths.wrapped_widths.Goals as goal

pub returns-clause-widths : goal.returns-clause-widths
returns-clause-widths c =
    let breaking = c.in-Wrap.breaking in
    let limits : List ℕ = c.args.limits.now in
    let config : Config = c.args.config.now in
    let texts : List (List Text) = texts_of c.args.records in
    let total : ℕ = width_of c.args.bounds.now.width in
    let old : List ℕ = c.in-Some.widths.items in
    let new : List ℕ = c.wrap_columns.new.widths in
    let spaced : AreSpaced c.args.records old = rw c.in-Some.is at c.in_ok-found.ensures in
    let many : c.len.result ≡ length old = omega (arith, c.len.ensures, c.deref_mut.ensures.len, ap length c.deref_mut.ensures.value) in
    let long : length new ≡ length old = c.wrap_columns.ensures.same ∙ ap length c.deref_mut.ensures.value in
    let lower : (k : ℕ) → k < length old → IsLowered breaking (limit_of limits k) texts k (slice_index old k) (slice_index new k) =
    subst (λ (xs : List ℕ). (k : ℕ) → k < length xs → IsLowered breaking (limit_of limits k) texts k (slice_index xs k) (slice_index new k)) c.deref_mut.ensures.value (c.in_ok-are_wrapped.ensures.lowered (search rules))
    in
    let room : c.room_in-room.result ≡ total - beside_columns config (length old) = c.room_in-room.ensures ∙ ap₂ (λ (n m : ℕ). n - beside_columns config m) c.width.ensures many in
    let all : sum_by (lowered old limits) (range_with_len 0 (length old)) ≤ c.room_in-room.result =
    subst (λ (xs : List ℕ). sum_by (lowered xs limits) (range_with_len 0 (length xs)) ≤ c.room_in-room.result) c.deref_mut.ensures.value (c.in_ok-are_wrapped.ensures.fits (search rules))
    in
    let fits : sum_by (lowered old limits) (range_with_len 0 (length old)) ≤ total - beside_columns config (length old) = omega (arith, all, room) in
    let few : length old < 2 ^ 64 - 1 = first_of (omega (arith, many), omega (arith, many, c.in-Some.widths.ok), omega (arith, many, c.len.auto)) in
    let is = seam new (drop (length new) old) c.in-Some.widths.len (omega (arith, long, c.deref_mut.ensures.len)) in
    let found = found-widths breaking total limits config c.requires c.args.records old new spaced few fits long lower in
    ap (λ (xs : List ℕ). λ (column : ℕ). slice_index_or xs column 0) is ∙ found.0 ∙ ap (λ (how : Overflow). (fitted_table how total limits config texts (columns_of texts) (λ place. None)).width) (sym c.in-Wrap.is)

pub returns-clause-fault : goal.returns-clause-fault
returns-clause-fault c =
    let breaking = c.in-Wrap.breaking in
    let limits : List ℕ = c.args.limits.now in
    let config : Config = c.args.config.now in
    let texts : List (List Text) = texts_of c.args.records in
    let total : ℕ = width_of c.args.bounds.now.width in
    let old : List ℕ = c.in-Some.widths.items in
    let new : List ℕ = c.wrap_columns.new.widths in
    let spaced : AreSpaced c.args.records old = rw c.in-Some.is at c.in_ok-found.ensures in
    let many : c.len.result ≡ length old = omega (arith, c.len.ensures, c.deref_mut.ensures.len, ap length c.deref_mut.ensures.value) in
    let long : length new ≡ length old = c.wrap_columns.ensures.same ∙ ap length c.deref_mut.ensures.value in
    let lower : (k : ℕ) → k < length old → IsLowered breaking (limit_of limits k) texts k (slice_index old k) (slice_index new k) =
    subst (λ (xs : List ℕ). (k : ℕ) → k < length xs → IsLowered breaking (limit_of limits k) texts k (slice_index xs k) (slice_index new k)) c.deref_mut.ensures.value (c.in_ok-are_wrapped.ensures.lowered (search rules))
    in
    let room : c.room_in-room.result ≡ total - beside_columns config (length old) = c.room_in-room.ensures ∙ ap₂ (λ (n m : ℕ). n - beside_columns config m) c.width.ensures many in
    let all : sum_by (lowered old limits) (range_with_len 0 (length old)) ≤ c.room_in-room.result =
    subst (λ (xs : List ℕ). sum_by (lowered xs limits) (range_with_len 0 (length xs)) ≤ c.room_in-room.result) c.deref_mut.ensures.value (c.in_ok-are_wrapped.ensures.fits (search rules))
    in
    let fits : sum_by (lowered old limits) (range_with_len 0 (length old)) ≤ total - beside_columns config (length old) = omega (arith, all, room) in
    let few : length old < 2 ^ 64 - 1 = first_of (omega (arith, many), omega (arith, many, c.in-Some.widths.ok), omega (arith, many, c.len.auto)) in
    let found = found-widths breaking total limits config c.requires c.args.records old new spaced few fits long lower in
    ap (λ (how : Overflow). option_or (fit_fault config texts (columns_of texts)) (sizes_fault config (fitted_texts how total limits config texts (columns_of texts)) (columns_of texts))) c.in-Wrap.is ∙ found.1
