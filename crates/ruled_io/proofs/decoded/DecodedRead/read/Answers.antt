use Rattle.std.proofs.Common.{◌≡◌, List, ℕ, length, take}
use Rattle.std.proofs.lemmas.Result.{err_from_is_err_and}
use Rattle.ruled_io.specs.Formats.{decoding_left, scheme_left, items, decoding_as}
use Rattle.ruled_io.proofs.Fronts.{cut-kept, keeps-then, read-cuts}
use Rattle.ruled_io.proofs.decoded.DecodedRead.read.Goals as goal

pub returns-in_err-fill-in-Some-clause-cut : goal.returns-in_err-fill-in-Some-clause-cut
returns-in_err-fill-in-Some-clause-cut g c = λ cut.
    let failed = (err_from_is_err_and c.from_residual-in_err-fill-in-Some.result c.from_residual-in_err-fill-in-Some.ensures.1).1 in
    (cut-kept _ _ (keeps-then _ _ _ c.seen.ensures.same c.fill.ensures.same) cut, λ ok. cc)

pub returns-in_ok-fill-in-Some-clause-cut : goal.returns-in_ok-fill-in-Some-clause-cut
returns-in_ok-fill-in-Some-clause-cut g c = λ cut.
    let filled = c.fill.new.self in
    let n = c.give-in-Some.result in
    let it = read-cuts (decoding_left g.R.Read.remaining c.args.self.now) (λ (all : List ℕ). decoding_as (scheme_left g.R.Read.remaining filled all) all)
    (items filled.text) (take n c.give-in-Some.new.buf) (items c.give-in-Some.new.self) (items filled.bytes) (g.R.Read.remaining filled.input) n (length c.give-in-Some.new.buf)
    (keeps-then _ _ _ c.seen.ensures.same c.fill.ensures.same) c.give-in-Some.ensures.bytes c.give-in-Some.ensures.count c.in_ok-fill-in-Some.ensures.end cut in
    (it.0, λ ok. let none : n ≡ 0 = cc in it.1 none)
