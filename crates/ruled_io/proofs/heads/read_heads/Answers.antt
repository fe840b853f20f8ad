use Rattle.std.proofs.Common.{◌≡◌, ◌<◌, ◌-◌, ◌^◌, ◌∙◌, ◌++◌, inl, inr, Global, Vec, ℕ, List, Ok, Err, false, true, length, map, arith, refl, sym, ap, subst}
use Rattle.std.proofs.lemmas.List.{length-map}
use Rattle.csv.specs.Records.{Row, fields_of}
use Rattle.pg_layout.specs.Text.{Text}
use Rattle.ruled_io.specs.Formats.{content_of, format_streamed, is_separated}
use Rattle.ruled_io.specs.Requests.{format_told, holds_database}
use Rattle.ruled_io.specs.Runs.{LacksInput}
use Rattle.ruled_io.specs.Stream.{AreFirst, LacksFirst}
use Rattle.ruled_io.specs.declared.fault.InputFault.TheVariants.{Memory}
use Rattle.ruled_io.specs.declared.fault.RunFault.TheVariants.{Input}
use Rattle.ruled_io.specs.declared.formats.Format.{Format}
use Rattle.ruled_io.specs.declared.formats.Format.TheVariants.{Separated}
use Rattle.ruled_io.specs.declared.formats.Known.{Known}
use Rattle.ruled_io.proofs.Causes.{handed-known, read-lacks, some-known}
use Rattle.ruled_io.proofs.Inputs.{dialect-of, first-rows-are, first-rows-lack, whole-lacks, whole-rows}
use Rattle.ruled_io.proofs.heads.read_heads.Goals as goal

pub returns-then-is_database-clause-rows : goal.returns-then-is_database-clause-rows
returns-then-is_database-clause-rows g c =
    let source = c.args.source.now in
    let front : List ℕ = c.in_ok-front.front.items in
    let holds : holds_database source front ≡ true = ap (holds_database source) (sym c.deref.ensures.value) ∙ sym c.is_database.ensures ∙ c.if-is_database.true in
    whole-rows source c.args.needed front (λ (rows : Vec Row Global). map fields_of rows.items) (g.R.Read.remaining c.args.pieces.now.input) (g.R.Read.remaining c.read_front.new.self.input) c.whole_rows.result (inl holds) c.in_ok-front.ensures.read c.whole_rows.ensures.rows

pub returns-then-is_database-clause-cause : goal.returns-then-is_database-clause-cause
returns-then-is_database-clause-cause g c =
    let source = c.args.source.now in
    let front : List ℕ = c.in_ok-front.front.items in
    let holds : holds_database source front ≡ true = ap (holds_database source) (sym c.deref.ensures.value) ∙ sym c.is_database.ensures ∙ c.if-is_database.true in
    whole-lacks source c.args.needed front (g.R.Read.remaining c.args.pieces.now.input) (g.R.Read.remaining c.read_front.new.self.input) c.whole_rows.result (inl holds) c.in_ok-front.ensures.read c.whole_rows.ensures.cause

pub returns-then-not-is_separated-clause-rows : goal.returns-then-not-is_separated-clause-rows
returns-then-not-is_separated-clause-rows g c =
    let source = c.args.source.now in
    let front : List ℕ = c.in_ok-front.front.items in
    let format : Format = c.format_streamed-format.result in
    let seen : format ≡ format_streamed (format_told source) front = c.format_streamed-format.ensures ∙ ap (λ (k : Known). format_streamed k c.deref-2.result.now) c.known.ensures ∙ ap (format_streamed (format_told source)) c.deref-2.ensures.value in
    let other : is_separated (format_streamed (format_told source) front) ≡ false = ap is_separated (sym seen) ∙ sym c.is_separated.ensures ∙ c.if-not-is_separated.true in
    whole-rows source c.args.needed front (λ (rows : Vec Row Global). map fields_of rows.items) (g.R.Read.remaining c.args.pieces.now.input) (g.R.Read.remaining c.read_front.new.self.input) c.whole_rows-then-not-is_separated.result (inr other) c.in_ok-front.ensures.read c.whole_rows-then-not-is_separated.ensures.rows

pub returns-then-not-is_separated-clause-cause : goal.returns-then-not-is_separated-clause-cause
returns-then-not-is_separated-clause-cause g c =
    let source = c.args.source.now in
    let front : List ℕ = c.in_ok-front.front.items in
    let format : Format = c.format_streamed-format.result in
    let seen : format ≡ format_streamed (format_told source) front = c.format_streamed-format.ensures ∙ ap (λ (k : Known). format_streamed k c.deref-2.result.now) c.known.ensures ∙ ap (format_streamed (format_told source)) c.deref-2.ensures.value in
    let other : is_separated (format_streamed (format_told source) front) ≡ false = ap is_separated (sym seen) ∙ sym c.is_separated.ensures ∙ c.if-not-is_separated.true in
    whole-lacks source c.args.needed front (g.R.Read.remaining c.args.pieces.now.input) (g.R.Read.remaining c.read_front.new.self.input) c.whole_rows-then-not-is_separated.result (inr other) c.in_ok-front.ensures.read c.whole_rows-then-not-is_separated.ensures.cause

pub returns-in_err-rows-clause-cause : goal.returns-in_err-rows-clause-cause
returns-in_err-rows-clause-cause g c =
    let source = c.args.source.now in
    let front : List ℕ = c.in_ok-front.front.items in
    let format : Format = c.format_streamed-format.result in
    let most : ℕ = 2 ^ 64 - 1 in
    let given = g.R.Read.remaining c.args.pieces.now.input in
    let left = g.R.Read.remaining c.read_front.new.self.input in
    let none : holds_database source front ≡ false = ap (holds_database source) (sym c.deref.ensures.value) ∙ sym c.is_database.ensures ∙ c.if-is_database.false in
    let seen : format ≡ format_streamed (format_told source) front = c.format_streamed-format.ensures ∙ ap (λ (k : Known). format_streamed k c.deref-2.result.now) c.known.ensures ∙ ap (format_streamed (format_told source)) c.deref-2.ensures.value in
    let (dialect, same) = dialect-of format (sym c.is_separated.ensures ∙ c.if-not-is_separated.false) in
    let content : c.content_of.result.now ≡ content_of (Separated dialect) front = c.content_of.ensures ∙ ap (content_of format) c.deref-3.ensures.value ∙ ap (λ (f : Format). content_of f front) same in
    let found = c.in_err-rows.field-0.0 in
    handed-known given found c.from_residual-in_err-rows.result (λ bytes fault. LacksInput c.args.needed source bytes fault) c.from_residual-in_err-rows.ensures.1
    (first-rows-lack source c.args.needed front most none dialect (sym seen ∙ same) {V = Unit {0}} given left (Err found) c.in_ok-front.ensures.read
    (λ rest known. subst (λ (n : ℕ). LacksFirst (Separated dialect) n (content_of (Separated dialect) front ++ rest) found) c.unwrap_or-limit.ensures
    (subst (λ (f : Format). LacksFirst f c.unwrap_or-limit.result (content_of (Separated dialect) front ++ rest) found) same
    (subst (λ (xs : List ℕ). LacksFirst format c.unwrap_or-limit.result (xs ++ rest) found) content (c.in_err-rows.ensures.cause rest known)))))

pub returns-then-len-clause-cause : goal.returns-then-len-clause-cause
returns-then-len-clause-cause g c =
    some-known (g.R.Read.remaining c.args.pieces.now.input) (λ bytes. LacksInput c.args.needed c.args.source.now bytes (Input Memory)) (λ bytes. read-lacks c.args.needed c.args.source.now bytes (Input Memory) (inl refl))

pub returns-clause-rows : goal.returns-clause-rows
returns-clause-rows g c =
    let source = c.args.source.now in
    let front : List ℕ = c.in_ok-front.front.items in
    let format : Format = c.format_streamed-format.result in
    let most : ℕ = 2 ^ 64 - 1 in
    let given = g.R.Read.remaining c.args.pieces.now.input in
    let left = g.R.Read.remaining c.read_front.new.self.input in
    let none : holds_database source front ≡ false = ap (holds_database source) (sym c.deref.ensures.value) ∙ sym c.is_database.ensures ∙ c.if-is_database.false in
    let seen : format ≡ format_streamed (format_told source) front = c.format_streamed-format.ensures ∙ ap (λ (k : Known). format_streamed k c.deref-2.result.now) c.known.ensures ∙ ap (format_streamed (format_told source)) c.deref-2.ensures.value in
    let (dialect, same) = dialect-of format (sym c.is_separated.ensures ∙ c.if-not-is_separated.false) in
    let content : c.content_of.result.now ≡ content_of (Separated dialect) front = c.content_of.ensures ∙ ap (content_of format) c.deref-3.ensures.value ∙ ap (λ (f : Format). content_of f front) same in
    let view : Vec Row Global → List (List Text) = λ rows. map fields_of rows.items in
    let rows : List (List Text) = map fields_of c.in_ok-rows.rows.items in
    let long : length rows ≡ length c.in_ok-rows.rows.items = length-map c.in_ok-rows.rows.items fields_of in
    let few : length rows < most = omega (arith, long, c.len.ensures, c.in_ok-rows.rows.ok, c.if-len.false) in
    first-rows-are source c.args.needed front most none dialect (sym seen ∙ same) view given left (Ok c.in_ok-rows.rows) c.in_ok-front.ensures.read
    (λ rest known. subst (λ (n : ℕ). AreFirst (Separated dialect) n (content_of (Separated dialect) front ++ rest) rows) c.unwrap_or-limit.ensures
    (subst (λ (f : Format). AreFirst f c.unwrap_or-limit.result (content_of (Separated dialect) front ++ rest) rows) same
    (subst (λ (xs : List ℕ). AreFirst format c.unwrap_or-limit.result (xs ++ rest) rows) content (c.in_ok-rows.ensures.rows rest known)))) few
