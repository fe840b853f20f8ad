use Rattle.std.proofs.Common.{◌≡◌, [], ◌<◌, ◌++◌, ◌∙◌, length, length-append, take, arith, sym, ap, append-nil}
use Rattle.std.proofs.KnownBytes.{Consumes-trans, Consumes-whole}
use Rattle.pg_show.proofs.ScriptTables.{Consumes-length}
use Rattle.pg_show.proofs.program.read_whole.Goals as goal

pub returns-in-Ok-eq0-clause-whole : goal.returns-in-Ok-eq0-clause-whole
returns-in-Ok-eq0-clause-whole g c =
    let read = c.in-Ok-eq0.ensures.bytes in
    let nothing : take c.in-Ok-eq0.field-0 c.read.new.buf ≡ [] = ap (λ n. take n c.read.new.buf) c.in-Ok-eq0.field-0-test in
    let room : 0 < length c.read.new.buf = omega (arith, c.read.auto.buf, c.loop.invariant.room) in
    Consumes-whole _ _ (c.loop.bytes.items ++ take c.in-Ok-eq0.field-0 c.read.new.buf) (λ script. c.loop.bytes.items ≡ script) (Consumes-trans _ _ _ _ _ c.loop.invariant.read read.0) (read.1 c.in-Ok-eq0.field-0-test room) (sym (append-nil _) ∙ ap (λ rest. c.loop.bytes.items ++ rest) (sym nothing))

pub returns-clause-endless : goal.returns-clause-endless
returns-clause-endless g c = λ _. Consumes-length _ _ c.loop.bytes.items 16777216 c.loop.invariant.read (omega (arith, c.loop.invariant.reads, c.loop-test.false))

-- a byte was read before memory was wanted
pub returns-in_err-extend_from_slice-in-Ok-clause-memory : goal.returns-in_err-extend_from_slice-in-Ok-clause-memory
returns-in_err-extend_from_slice-in-Ok-clause-memory g c = λ wanted.
    let lost = c.loop.bytes.items ++ take c.in-Ok.count c.read.new.buf in
    (lost, Consumes-trans _ _ _ _ _ c.loop.invariant.read c.in-Ok.ensures.bytes.0, omega (arith, length-append c.loop.bytes.items (take c.in-Ok.count c.read.new.buf), c.in-Ok.ensures.bound))
