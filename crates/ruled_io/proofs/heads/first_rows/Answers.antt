use Rattle.std.proofs.Common.{◌≡◌, ◌∙◌, ◌++◌, ℕ, List, Option, Some, length, map, take, sym, ap, subst, arith}
use Rattle.std.proofs.lemmas.List.{length-map, take-map}
use Rattle.csv.specs.Records.{fields_of}
use Rattle.pg_layout.specs.Text.{Text}
use Rattle.ruled_json.specs.Rows.{Rules, rules_of}
use Rattle.ruled_json.specs.Streamed.{LineRules}
use Rattle.ruled_io.specs.Reading.{Stands, in_format}
use Rattle.ruled_io.specs.Stream.{AreFirst, plain_lines, wrong_within}
use Rattle.ruled_io.proofs.Inputs.{first-are, first-lack, stands-so}
use Rattle.ruled_io.proofs.heads.first_rows.Goals as goal

pub returns-in-Some-clause-cause : goal.returns-in-Some-clause-cause
returns-in-Some-clause-cause g c = λ rest known soft.
    let format = c.args.format in
    let all : List ℕ = c.args.front.now ++ rest in
    let given : List (List Text) = map fields_of c.read_first.new.rows.items in
    let left = g.R.Read.remaining c.read_first.new.pieces.input in
    let reading = c.in_ok-reading-2.reading in
    let by : Rules → LineRules = λ members. record { records = 1; members = members } in
    let lines : LineRules = by (rules_of c.new-plain.result) in
    let same : lines ≡ plain_lines = ap by c.new-plain.ensures in
    let long : length given ≡ length c.read_first.new.rows.items = length-map c.read_first.new.rows.items fields_of in
    let count : c.len.result ≡ length given = omega (arith, c.len.ensures, c.read_first.new.rows.ok, long) in
    let begun = stands-so format lines all (Some rest) (map fields_of c.new-rows.result.items) (map fields_of c.of_front.new.rows.items) c.in_ok-reading.reading (ap (map fields_of) c.new-rows.ensures.items) (c.in_ok-reading.ensures.given rest) in
    let here = subst (λ (l : Option (List ℕ)). Stands format lines all l (map fields_of c.of_front.new.rows.items) c.in_ok-reading.reading) (sym known) begun in
    first-lack format c.args.limit all left given reading c.in_ok-reading-2.ensures.enough (subst (λ (ls : LineRules). Stands format ls all left given reading) same (c.in_ok-reading-2.ensures.given (in_format format lines all) here)) c.in-Some.fault
    (ap (λ (n : ℕ). wrong_within c.args.limit n reading) (sym count) ∙ sym c.wrong_within.ensures ∙ c.in-Some.is)

pub returns-clause-rows : goal.returns-clause-rows
returns-clause-rows g c = λ rest known.
    let format = c.args.format in
    let all : List ℕ = c.args.front.now ++ rest in
    let given : List (List Text) = map fields_of c.read_first.new.rows.items in
    let left = g.R.Read.remaining c.read_first.new.pieces.input in
    let reading = c.in_ok-reading-2.reading in
    let by : Rules → LineRules = λ members. record { records = 1; members = members } in
    let lines : LineRules = by (rules_of c.new-plain.result) in
    let same : lines ≡ plain_lines = ap by c.new-plain.ensures in
    let long : length given ≡ length c.read_first.new.rows.items = length-map c.read_first.new.rows.items fields_of in
    let count : c.len.result ≡ length given = omega (arith, c.len.ensures, c.read_first.new.rows.ok, long) in
    let begun = stands-so format lines all (Some rest) (map fields_of c.new-rows.result.items) (map fields_of c.of_front.new.rows.items) c.in_ok-reading.reading (ap (map fields_of) c.new-rows.ensures.items) (c.in_ok-reading.ensures.given rest) in
    let here = subst (λ (l : Option (List ℕ)). Stands format lines all l (map fields_of c.of_front.new.rows.items) c.in_ok-reading.reading) (sym known) begun in
    let are : AreFirst format c.args.limit all (take c.args.limit given) =
    first-are format c.args.limit all left given reading c.in_ok-reading-2.ensures.enough (subst (λ (ls : LineRules). Stands format ls all left given reading) same (c.in_ok-reading-2.ensures.given (in_format format lines all) here))
    (ap (λ (n : ℕ). wrong_within c.args.limit n reading) (sym count) ∙ sym c.wrong_within.ensures ∙ c.in_default.is)
    in
    let cut : take c.args.limit given ≡ map fields_of (take c.args.limit c.read_first.new.rows.items) = take-map fields_of c.args.limit c.read_first.new.rows.items in
    subst (AreFirst format c.args.limit all) (cut ∙ ap (map fields_of) (sym c.truncate.ensures.items)) are
