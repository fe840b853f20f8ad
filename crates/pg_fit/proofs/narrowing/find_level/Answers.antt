use Rattle.std.proofs.Common.{◌≡◌, sym, arith}
use Rattle.pg_fit.proofs.NarrowedWidths.{level-is}
use Rattle.pg_fit.proofs.narrowing.find_level.Goals as goal

pub returns : goal.returns
returns c =
    let h = c.halving.invariant in
    let met : c.halving.high ≡ c.halving.low = omega arith in
    sym (level-is c.args.room c.args.columns.now c.halving.low (record { within = omega arith; fits = h.fits; next = rw met at h.next }))
