use Rattle.std.proofs.Common.{◌≡◌, ◌<◌, ◌≤◌, ◌∷◌, ◌+◌, ◌-◌, ℕ, List, Option, [], drop, length, max, slice_index_or, subst, refl, ap, arith}
use Rattle.std.proofs.lemmas.List.{drop_all}
use Rattle.std.proofs.lemmas.List.Elements.{All-cons, All-nil}
use Rattle.csv.specs.Records.{Row, fields_of}
use Rattle.pg_layout.specs.Text.{Text, text_width_of}
use Rattle.pg_fit.specs.Wrapping.{wrapped}
use Rattle.pg_fit.specs.declared.wrapping.Breaking.{Breaking}
use Rattle.ruled_table.specs.Columns.{fields_at, texts_at}
use Rattle.ruled_table.specs.Widths.{HasRoom, widest_wrapped}
use Rattle.ruled_table.proofs.LentTexts.{drop_next}
use Rattle.ruled_table.proofs.widths.wrapped_width.Goals as goal

pub loop-fields-preserved : goal.loop-fields-preserved
loop-fields-preserved c =
    let rows : List Row = c.args.rows.records.now in
    let places : List (Option ℕ) = c.args.rows.places.now in
    let breaking : Breaking = c.args.breaking in
    let room : ℕ = c.args.limit - 2 in
    let i = c.loop-fields.fields-index in
    let row : Row = c.fields-item.result in
    let within : i < length rows = omega arith in
    let next : drop i rows ≡ row ∷ drop (i + 1) rows = drop_next rows i row within c.fields-item.is in
    let text : Text = slice_index_or (fields_at places (fields_of row)) c.args.column [] in
    let is : c.text_in-text.result.now ≡ text = c.text_in-text.ensures in
    let rest : ℕ = widest_wrapped breaking room (texts_at places (drop (i + 1) rows)) c.args.column in
    let here : ℕ = text_width_of (wrapped breaking room text) in
    let before : max c.loop-fields.width (max here rest) ≡ widest_wrapped breaking room (texts_at places rows) c.args.column = rw next at c.loop-fields.invariant.widest in
    let own : HasRoom breaking room text = subst (HasRoom breaking room) is (rw c.in-Some.is at c.in_ok-found.ensures.fits) in
    let wider : c.in-Some.wider ≡ max c.loop-fields.width (text_width_of (wrapped breaking room c.text_in-text.result.now)) = rw c.in-Some.is at c.in_ok-found.ensures.width in
    let narrow : c.in-Some.wider ≤ room = rw c.in-Some.is at c.in_ok-found.ensures.room in
    record {
      widest = omega (arith, before, wider, ap (λ (t : Text). text_width_of (wrapped breaking room t)) is);
      within = narrow;
      room = λ others. c.loop-fields.invariant.room (rw next (All-cons (λ (texts : List Text). HasRoom breaking room (slice_index_or texts c.args.column [])) (fields_at places (fields_of row)) (texts_at places (drop (i + 1) rows)) own others));
    }

pub returns-then-natural-limit : goal.returns-then-natural-limit
returns-then-natural-limit c = record { kept = λ low. refl; wrapped = λ narrow. absurd (omega (arith, narrow, c.if-natural-limit.true)) }

pub returns : goal.returns
returns c =
    let rows : List Row = c.args.rows.records.now in
    let past : length rows ≤ c.loop-fields.fields-index = omega arith in
    let none : drop c.loop-fields.fields-index rows ≡ [] = drop_all c.loop-fields.fields-index rows past in
    let all = rw none at c.loop-fields.invariant.widest in
    record {
      kept = λ low. absurd (omega (arith, low));
      wrapped = λ narrow. record {
        spaces = omega arith;
        is = omega (arith, all);
        within = omega (arith, c.loop-fields.invariant.within);
        room = c.loop-fields.invariant.room (rw none (All-nil (λ (texts : List Text). HasRoom c.args.breaking (c.args.limit - 2) (slice_index_or texts c.args.column []))));
      };
    }
