use Rattle.std.proofs.Common.{◌≡◌, ◌∙◌, ◌∷◌, ◌++◌, ℕ, List, [], ap, map, refl, subst, sym}
use Rattle.std.proofs.lemmas.List.{append_assoc}
use Rattle.csv.specs.Records.{fields_of}
use Rattle.ruled_json.specs.Streamed.{AppendsRest, HasRead, ended_line_rows, sound_line_rows, streamed_line_fault}
use Rattle.ruled_json.proofs.StreamedLines.{next-line, parted, read-all, rows-on, foretold-handed-on, sound-handed-on}
use Rattle.ruled_json.proofs.Tables.{joined}
use Rattle.ruled_json.proofs.line_reader.LineReader.read.Goals as goal

pub loop-line-preserved : goal.loop-line-preserved
loop-line-preserved c =
    let i = c.loop-line.invariant in
    let line = c.in-Some.line.now in
    let behind = c.in-Some.behind.now in
    let between = map fields_of c.loop-line.rows.items in
    let rows = map fields_of c.end_line.new.rows.items in
    let parts : c.loop-line.rest.now ≡ line ++ 10 ∷ behind = c.in-Some.ensures.parts in (
      i.0 ++ (line ++ 10 ∷ []),
      i.1 ∙ next-line i.0 c.loop-line.rest.now line behind parts,
      λ k before has.
          let old = i.2 k before has in
          let all : (before ++ i.0) ++ (line ++ 10 ∷ []) ≡ before ++ (i.0 ++ (line ++ 10 ∷ [])) = append_assoc before i.0 (line ++ 10 ∷ []) in (
            subst (λ (bytes : List ℕ). HasRead k bytes c.end_line.new.self) all (c.in_ok-end_line.ensures.read k (before ++ i.0) old.0),
            joined (ended_line_rows k before) (ended_line_rows k (before ++ i.0)) (ended_line_rows k (before ++ (i.0 ++ (line ++ 10 ∷ [])))) (map fields_of c.args.rows.now.items) between rows
                old.1 (subst (λ (bytes : List ℕ). AppendsRest (ended_line_rows k (before ++ i.0)) (ended_line_rows k bytes) between rows) all (c.in_ok-end_line.ensures.rows k (before ++ i.0) old.0)),
          ),
    )

pub returns-in_err-end_line-clause-fault : goal.returns-in_err-end_line-clause-fault
returns-in_err-end_line-clause-fault c = λ k before more has.
    let i = c.loop-line.invariant in
    let line = c.in-Some.line.now in
    let behind = c.in-Some.behind.now in
    let fault = c.in_err-end_line.field-0.0 in
    foretold-handed-on (streamed_line_fault k ((before ++ c.args.bytes.now) ++ more)) fault c.from_residual.result
    (λ counts.
    ap (streamed_line_fault k) (parted before i.0 c.args.bytes.now c.loop-line.rest.now line behind more i.1 c.in-Some.ensures.parts)
    ∙ c.in_err-end_line.ensures.fault k (before ++ i.0) (behind ++ more) (i.2 k before has).0 counts)
    c.from_residual.ensures.1

pub returns-in_err-end_line-clause-sound : goal.returns-in_err-end_line-clause-sound
returns-in_err-end_line-clause-sound c = λ k before more has.
    let i = c.loop-line.invariant in
    let line = c.in-Some.line.now in
    let behind = c.in-Some.behind.now in
    let fault = c.in_err-end_line.field-0.0 in
    let old = map fields_of c.args.rows.now.items in
    let between = map fields_of c.loop-line.rows.items in
    let rows = map fields_of c.end_line.new.rows.items in
    let all = (before ++ c.args.bytes.now) ++ more in
    let read = i.2 k before has in
    sound-handed-on (AppendsRest (ended_line_rows k before) (sound_line_rows k all) old rows) fault c.from_residual.result
    (λ counts.
    joined (ended_line_rows k before) (ended_line_rows k (before ++ i.0)) (sound_line_rows k all) old between rows read.1
    (subst (λ (bytes : List ℕ). AppendsRest (ended_line_rows k (before ++ i.0)) (sound_line_rows k bytes) between rows)
    (sym (parted before i.0 c.args.bytes.now c.loop-line.rest.now line behind more i.1 c.in-Some.ensures.parts))
    (c.in_err-end_line.ensures.sound k (before ++ i.0) (behind ++ more) read.0 counts)))
    c.from_residual.ensures.1

pub returns-clause-read : goal.returns-clause-read
returns-clause-read c = λ k before has.
    let i = c.loop-line.invariant in
    let rest = c.loop-line.rest.now in
    let all : (before ++ i.0) ++ rest ≡ before ++ c.args.bytes.now = append_assoc before i.0 rest ∙ ap (λ (bytes : List ℕ). before ++ bytes) (sym i.1) in
    read-all k (before ++ i.0) rest c.loop-line.reader (i.2 k before has).0 c.in_default.ensures.none (before ++ c.args.bytes.now) _ all refl c.in_ok-push_bytes.ensures refl

pub returns-clause-rows : goal.returns-clause-rows
returns-clause-rows c = λ k before has.
    let i = c.loop-line.invariant in
    let rest = c.loop-line.rest.now in
    let read = i.2 k before has in
    let rows = map fields_of c.loop-line.rows.items in
    let all : (before ++ i.0) ++ rest ≡ before ++ c.args.bytes.now = append_assoc before i.0 rest ∙ ap (λ (bytes : List ℕ). before ++ bytes) (sym i.1) in
    joined (ended_line_rows k before) (ended_line_rows k (before ++ i.0)) (ended_line_rows k (before ++ c.args.bytes.now)) (map fields_of c.args.rows.now.items) rows rows read.1
    (subst (λ (bytes : List ℕ). AppendsRest (ended_line_rows k (before ++ i.0)) (ended_line_rows k bytes) rows rows) all
    (rows-on k (before ++ i.0) rest c.loop-line.reader read.0 c.in_default.ensures.none rows))
