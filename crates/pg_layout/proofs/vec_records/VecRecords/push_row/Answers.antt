use Rattle.std.proofs.Common.{◌≡◌, ◌∷◌, ◌++◌, ◌∙◌, [], arith, sym}
use Rattle.pg_layout.specs.Records.{ragged_row}
use Rattle.pg_layout.proofs.Given.{even-push, ragged-below}
use Rattle.pg_layout.proofs.vec_records.VecRecords.push_row.Goals as goal

pub returns-in-Some-clause-ragged : goal.returns-in-Some-clause-ragged
returns-in-Some-clause-ragged g c number some =
    let told : c.find_ragged_below.result ≡ ragged_row (c.args.self.now ++ c.args.row.items ∷ []) =
    ragged-below (λ row. row.items) c.deref.result.now c.self.inside.rows.items c.args.self.now c.args.row.items c.len.result c.find_ragged_below.result c.find_ragged_below.ensures c.deref.ensures.value (omega (arith, c.len.ensures, c.args.row.ok)) c.self.view_is c.self.invariant in
    let is = c.in-Some.is in
    cc

pub returns-in-Some-clause-memory : goal.returns-in-Some-clause-memory
returns-in-Some-clause-memory g c fault none same =
    let told : c.find_ragged_below.result ≡ ragged_row (c.args.self.now ++ c.args.row.items ∷ []) =
    ragged-below (λ row. row.items) c.deref.result.now c.self.inside.rows.items c.args.self.now c.args.row.items c.len.result c.find_ragged_below.result c.find_ragged_below.ensures c.deref.ensures.value (omega (arith, c.len.ensures, c.args.row.ok)) c.self.view_is c.self.invariant in
    let is = c.in-Some.is in
    cc

pub returns-in_err-push-in-None-clause-ragged : goal.returns-in_err-push-in-None-clause-ragged
returns-in_err-push-in-None-clause-ragged g c number some =
    let told : c.find_ragged_below.result ≡ ragged_row (c.args.self.now ++ c.args.row.items ∷ []) =
    ragged-below (λ row. row.items) c.deref.result.now c.self.inside.rows.items c.args.self.now c.args.row.items c.len.result c.find_ragged_below.result c.find_ragged_below.ensures c.deref.ensures.value (omega (arith, c.len.ensures, c.args.row.ok)) c.self.view_is c.self.invariant in
    let is = c.in-None.is in
    cc

pub returns-in_ok-push-in-None-clause-ragged : goal.returns-in_ok-push-in-None-clause-ragged
returns-in_ok-push-in-None-clause-ragged g c number some =
    let told : c.find_ragged_below.result ≡ ragged_row (c.args.self.now ++ c.args.row.items ∷ []) =
    ragged-below (λ row. row.items) c.deref.result.now c.self.inside.rows.items c.args.self.now c.args.row.items c.len.result c.find_ragged_below.result c.find_ragged_below.ensures c.deref.ensures.value (omega (arith, c.len.ensures, c.args.row.ok)) c.self.view_is c.self.invariant in
    let is = c.in-None.is in
    cc

pub invariant_of-self-in-None : goal.invariant_of-self-in-None
invariant_of-self-in-None g c =
    let told : c.find_ragged_below.result ≡ ragged_row (c.args.self.now ++ c.args.row.items ∷ []) =
    ragged-below (λ row. row.items) c.deref.result.now c.self.inside.rows.items c.args.self.now c.args.row.items c.len.result c.find_ragged_below.result c.find_ragged_below.ensures c.deref.ensures.value (omega (arith, c.len.ensures, c.args.row.ok)) c.self.view_is c.self.invariant in
    let is = c.in-None.is in
    even-push (λ row. row.items) c.self.inside.rows.items c.push.new.self.items c.args.self.now c.args.row c.in_ok-push-in-None.ensures.items c.self.view_is (sym told ∙ is)
