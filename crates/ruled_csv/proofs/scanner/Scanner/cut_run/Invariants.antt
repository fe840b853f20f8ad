use Rattle.std.proofs.Common.{◌≡◌, ◌≤◌, length, take}
use Rattle.std.specs.Prelude.{fold}
use Rattle.memchr.specs.Find.{is_byte, places_between}
use Rattle.ruled_csv.specs.Quotes.{separator}
use Rattle.ruled_csv.specs.Inside.{fields_behind, hand_of, state_behind}
use Rattle.ruled_csv.proofs.scanner.Scanner.cut_run.Given as goal

abbrev pub invariant-loop-at : goal.invariant-loop-at
invariant-loop-at l =
    let old = hand_of l.fn.self in
    let now = hand_of l.self in
    (l.start ≤ length l.run)
    × (l.self.dialect ≡ l.fn.self.dialect)
    × (now ≡ record old { state = fold (state_behind l.fn.self.dialect) old.state l.run; fields = now.fields; field = now.field })
    × (fold (fields_behind l.fn.self.dialect) (old.fields, old.field) (take l.start l.run) ≡ (now.fields, now.field))
    × (l.at-iterator ≡ places_between (is_byte (separator l.fn.self.dialect)) l.run l.start (length l.run))
