use Rattle.std.proofs.Common.{◌≡◌, ◌≢◌, ◌<◌, ◌≤◌, ◌+◌, ◌∙◌, List, ℕ, ◌++◌, Some, drop, length, length-drop, map, take, append_assoc, arith, ap, refl, sym, subst}
use Rattle.std.proofs.lemmas.List.{take_rest}
use Rattle.std.proofs.Math.Seq.{take-add}
use Rattle.csv.specs.Records.{fields_of}
use Rattle.ruled_csv.specs.Faults.{but_line, rows_fault, sound_rows}
use Rattle.ruled_csv.specs.Reading.{AppendsRest, HasRead}
use Rattle.ruled_csv.specs.Rows.{ended_rows}
use Rattle.ruled_csv.specs.declared.fault.RowsFault.TheVariants.{Memory}
use Rattle.ruled_csv.proofs.Readers.{appends-first, appends-more, appends-to, ended-sound, foretold-on, front-more, front-parts, front-whole, on-error, on-fault}
use Rattle.ruled_csv.proofs.reader.RowReader.read.Goals as goal

pub loop-at-preserved : goal.loop-at-preserved
loop-at-preserved c =
    let bytes = c.args.bytes.now in
    let i = c.loop-at.at in
    let count = c.in_ok-run.run' in
    let within : i < length bytes = c.loop-at-test.true in
    let ran = c.in_ok-run.ensures in
    let rest = take_rest bytes (i + 1) in
    let short : count ≤ length (drop (i + 1) bytes) = subst (λ (xs : List ℕ). count ≤ length xs) rest ran.within in (
      omega (arith, length-drop (i + 1) bytes, within, short),
      λ dialect before read.
          let (now, rows) = c.loop-at.invariant.1 dialect before read in
          let next = c.in_ok-read_byte.ensures in
          let more = sym (front-more before bytes i within) in
          let front = before ++ take (i + 1) bytes in
          let byte-read = subst (λ (all : List ℕ). HasRead dialect all c.read_byte.new.self) more (next.read dialect (before ++ take i bytes) now) in
          let byte-rows =
          subst (λ (all : List ℕ). AppendsRest (ended_rows dialect before) (ended_rows dialect all) (map fields_of c.args.rows.now.items) (map fields_of c.read_byte.new.rows.items)) more
          (appends-more _ _ _ _ _ _ rows (next.rows dialect (before ++ take i bytes) now)) in
          let run-read : HasRead dialect (front ++ take count (drop (i + 1) bytes)) c.read_run.new.self =
          subst (λ (xs : List ℕ). HasRead dialect (front ++ take count xs) c.read_run.new.self) rest (ran.read dialect front byte-read) in
          let run-rows : ended_rows dialect (front ++ take count (drop (i + 1) bytes)) ≡ ended_rows dialect front =
          subst (λ (xs : List ℕ). ended_rows dialect (front ++ take count xs) ≡ ended_rows dialect front) rest (ran.rows dialect front byte-read) in
          let behind = append_assoc before (take (i + 1) bytes) (take count (drop (i + 1) bytes)) ∙ ap (λ (xs : List ℕ). before ++ xs) (sym (take-add (i + 1) count bytes)) in (
            subst (λ (all : List ℕ). HasRead dialect all c.read_run.new.self) behind run-read,
            appends-to _ _ _ _ _ _ byte-rows (ap (ended_rows dialect) (sym behind) ∙ run-rows) refl,
          ),
    )

pub returns-in_err-read_byte-clause-fault : goal.returns-in_err-read_byte-clause-fault
returns-in_err-read_byte-clause-fault c = λ dialect before behind read.
    let bytes = c.args.bytes.now in
    let i = c.loop-at.at in
    let within : i < length bytes = c.loop-at-test.true in
    let (now, rows) = c.loop-at.invariant.1 dialect before read in
    let found = c.in_err-read_byte.field-0.0 in
    let told = subst (λ (all : List ℕ). found ≢ Memory → rows_fault dialect all ≡ Some (but_line found)) (front-whole before bytes behind i within)
    (c.in_err-read_byte.ensures.fault dialect (before ++ take i bytes) (drop (i + 1) bytes ++ behind) now) in
    foretold-on found (rows_fault dialect ((before ++ bytes) ++ behind)) c.from_residual.result told c.from_residual.ensures.1

pub returns-in_err-read_byte-clause-sound : goal.returns-in_err-read_byte-clause-sound
returns-in_err-read_byte-clause-sound c = λ dialect before behind read.
    let bytes = c.args.bytes.now in
    let i = c.loop-at.at in
    let within : i < length bytes = c.loop-at-test.true in
    let (now, rows) = c.loop-at.invariant.1 dialect before read in
    let found = c.in_err-read_byte.field-0.0 in
    let failed = c.in_err-read_byte.ensures in
    let all = ap (sound_rows dialect) (sym (front-whole before bytes behind i within)) in
    on-fault found c.from_residual.result
    (λ other. appends-to _ _ _ _ _ _ rows (all ∙ failed.sound dialect (before ++ take i bytes) (drop (i + 1) bytes ++ behind) now other) (ap (map fields_of) failed.kept))
    c.from_residual.ensures.1

pub returns-in_err-read_byte-clause-cut : goal.returns-in_err-read_byte-clause-cut
returns-in_err-read_byte-clause-cut c = λ dialect before behind read.
    let bytes = c.args.bytes.now in
    let i = c.loop-at.at in
    let (now, rows) = c.loop-at.invariant.1 dialect before read in
    let (more, first) = ended-sound dialect (before ++ take i bytes) (drop i bytes ++ behind) c.loop-at.reader now in
    let all = ap (sound_rows dialect) (sym (front-parts before bytes behind i)) ∙ first in
    on-error c.from_residual.result (appends-first _ _ _ _ _ _ more rows all (ap (map fields_of) c.in_err-read_byte.ensures.kept))

pub returns-in_err-run-clause-cut : goal.returns-in_err-run-clause-cut
returns-in_err-run-clause-cut c = λ dialect before behind read.
    let bytes = c.args.bytes.now in
    let i = c.loop-at.at in
    let within : i < length bytes = c.loop-at-test.true in
    let (now, rows) = c.loop-at.invariant.1 dialect before read in
    let next = c.in_ok-read_byte.ensures in
    let byte = sym (front-more before bytes i within) in
    let byte-read = subst (λ (all : List ℕ). HasRead dialect all c.read_byte.new.self) byte (next.read dialect (before ++ take i bytes) now) in
    let byte-rows =
    subst (λ (all : List ℕ). AppendsRest (ended_rows dialect before) (ended_rows dialect all) (map fields_of c.args.rows.now.items) (map fields_of c.read_byte.new.rows.items)) byte
    (appends-more _ _ _ _ _ _ rows (next.rows dialect (before ++ take i bytes) now)) in
    let (more, first) = ended-sound dialect (before ++ take (i + 1) bytes) (drop (i + 1) bytes ++ behind) c.read_byte.new.self byte-read in
    let all = ap (sound_rows dialect) (sym (front-parts before bytes behind (i + 1))) ∙ first in
    on-error _ (appends-first _ _ _ _ _ _ more byte-rows all refl)
