use Rattle.std.proofs.Common.{◌≡◌, ◌∙◌, false, refl, sym, take}
use Rattle.ruled_csv.specs.Inside.{leaves_out, left_of}
use Rattle.ruled_csv.proofs.KeptTexts.{reads-first}
use Rattle.ruled_csv.proofs.Readers.{if-both, read-run, rows-run}
use Rattle.ruled_csv.proofs.reader.RowReader.read_run.Goals as goal

pub returns-in-Some-clause-read : goal.returns-in-Some-clause-read
returns-in-Some-clause-read c = λ dialect before read.
    let old = c.args.self.now in
    let bytes = c.args.bytes.now in
    let left = left_of dialect before in
    let first : leaves_out dialect left c.in-Some.byte.now ≡ false = sym (c.leaves_out.ensures dialect before read) ∙ c.if-not-leaves_out.true in
    if-both c.read_run.result
    (λ count calm joins. read-run dialect before (take count bytes) old _ read c.if-not-self.true (reads-first dialect left bytes c.in-Some.byte.now count first c.in-Some.ensures.value) calm joins c.if-not-self.true c.read_run.ensures.dialect refl refl)
    c.read_run.ensures.calm c.read_run.ensures.hand

pub returns-in-Some-clause-rows : goal.returns-in-Some-clause-rows
returns-in-Some-clause-rows c = λ dialect before read.
    let old = c.args.self.now in
    let bytes = c.args.bytes.now in
    let left = left_of dialect before in
    let first : leaves_out dialect left c.in-Some.byte.now ≡ false = sym (c.leaves_out.ensures dialect before read) ∙ c.if-not-leaves_out.true in
    if-both c.read_run.result
    (λ count calm joins. rows-run dialect before (take count bytes) old (record old { scanner = c.read_run.new.self }) read c.if-not-self.true (reads-first dialect left bytes c.in-Some.byte.now count first c.in-Some.ensures.value) calm joins)
    c.read_run.ensures.calm c.read_run.ensures.hand
