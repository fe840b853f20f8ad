use Rattle.std.proofs.Common.{◌≡◌, ◌∙◌, ◌++◌, ℕ, List, false, true, sym, ap, subst, subst₂}
use Rattle.ruled_json.specs.Rows.{Rules}
use Rattle.ruled_io.specs.Formats.{content_of, format_streamed}
use Rattle.ruled_io.specs.Reading.{ReadsFront, sound_rows, wrong_in}
use Rattle.ruled_io.specs.Requests.{format_told, holds_database}
use Rattle.ruled_io.specs.Stream.{Ends, StreamsAll, first_count, line_rules}
use Rattle.ruled_io.specs.declared.fault.RunFault.{RunFault}
use Rattle.ruled_io.specs.declared.formats.Known.{Known}
use Rattle.ruled_io.proofs.Inputs.{if-known, if-more, input-fails, rows-end-so}
use Rattle.ruled_io.proofs.Tables.{read-fails}
use Rattle.ruled_io.proofs.stream.show_input.Goals as goal

pub returns-in_err-front-clause-ends : goal.returns-in_err-front-clause-ends
returns-in_err-front-clause-ends g c =
    let request = c.args.request.now in
    let count = c.args.count in
    let old = g.W.Write.contents c.args.out.now.writer in
    let found : RunFault = c.in_err-front.field-0.0 in
    if-known {P = λ bytes. StreamsAll request count bytes old old c.from_residual.result} (g.R.Read.remaining c.args.pieces.now.input)
    (λ bytes is. input-fails request count bytes old found c.from_residual.result c.from_residual.ensures.1 (read-fails found c.in_err-front.ensures.failed))

pub returns-then-is_database-clause-ends : goal.returns-then-is_database-clause-ends
returns-then-is_database-clause-ends g c =
    let request = c.args.request.now in
    let count = c.args.count in
    let front : List ℕ = c.in_ok-front.front.items in
    let old = g.W.Write.contents c.args.out.now.writer in
    let new = g.W.Write.contents c.show_database.new.out.writer in
    let left = g.R.Read.remaining c.read_front.new.self.input in
    let result = c.show_database.result in
    let holds : holds_database request.source front ≡ true = ap (holds_database request.source) (sym c.deref.ensures.value) ∙ sym c.is_database.ensures ∙ c.if-is_database.true in
    if-more {P = λ all. ReadsFront request.source all left front} {Q = λ bytes. StreamsAll request count bytes old new result} (g.R.Read.remaining c.args.pieces.now.input) c.in_ok-front.ensures.read
    (λ bytes is reads.
    let ends = c.show_database.ensures.ends reads.0 reads.2 (reads.3.0 ∙ holds) in
    subst (λ (all : List ℕ). StreamsAll request count all old new result) (sym reads.1) ends)

pub returns-clause-ends : goal.returns-clause-ends
returns-clause-ends g c =
    let request = c.args.request.now in
    let count = c.args.count in
    let front : List ℕ = c.in_ok-front.front.items in
    let old = g.W.Write.contents c.args.out.now.writer in
    let new = g.W.Write.contents c.show_rows.new.out.writer in
    let left = g.R.Read.remaining c.read_front.new.self.input in
    let format = c.format_streamed-format.result in
    let result = c.show_rows.result in
    let none : holds_database request.source front ≡ false = ap (holds_database request.source) (sym c.deref.ensures.value) ∙ sym c.is_database.ensures ∙ c.if-is_database.false in
    let shown : format ≡ format_streamed (format_told request.source) front =
    c.format_streamed-format.ensures ∙ ap (λ (known : Known). format_streamed known c.deref-2.result.now) c.known.ensures ∙ ap (format_streamed (format_told request.source)) c.deref-2.ensures.value
    in
    let content : c.content_of-content.result.now ≡ content_of format front = c.content_of-content.ensures ∙ ap (content_of format) c.deref-3.ensures.value in
    if-more {P = λ all. ReadsFront request.source all left front} {Q = λ bytes. StreamsAll request count bytes old new result} (g.R.Read.remaining c.args.pieces.now.input) c.in_ok-front.ensures.read
    (λ bytes is reads.
    let ends = subst₂ (λ (members : Rules) (xs : List ℕ).
    Ends request.view (first_count request.view format count) (sound_rows format (line_rules count members) (xs ++ reads.0)) (wrong_in format (line_rules count members) (xs ++ reads.0)) old new result) c.members_or-members.ensures content
    (c.show_rows.ensures.ends reads.0 reads.2)
    in
    rows-end-so request count front reads.0 bytes format old new result reads.1 reads.3 none shown ends)
