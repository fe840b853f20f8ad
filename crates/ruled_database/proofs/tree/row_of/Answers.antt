use Rattle.std.proofs.Common.{◌≡◌, ◌≤◌, ◌∙◌, ℕ, Bool, List, true, length, sym, ap, subst}
use Rattle.sqlite_format.specs.Cell.{IsBody, body_key, cell_body, cell_size, first_overflow, local_part, spilled_len}
use Rattle.sqlite_format.specs.Kinds.{holds_rows}
use Rattle.sqlite_format.specs.declared.kind.Kind.{Kind}
use Rattle.sqlite_format.proofs.CellLemmas.{cell_body_whole}
use Rattle.ruled_database.specs.Trees.{Stored, stored_in}
use Rattle.ruled_database.proofs.tree.row_of.Goals as goal

whole : (kind : Kind) (usable : ℕ) (cell body : List ℕ) → cell_size kind usable cell ≤ length cell → holds_rows kind ≡ true → body ≡ cell_body kind usable cell
    → IsBody kind.tree true usable body
whole kind usable cell body within row is =
    let found = (cell_body_whole kind usable cell within).0 in
    let holds = subst (λ (r : Bool). IsBody kind.tree r usable (cell_body kind usable cell)) row found in
    subst (λ (b : List ℕ). IsBody kind.tree true usable b) (sym is) holds

abbrev stored : ℕ → List ℕ → ℕ → ℕ → Stored
stored key local spilled overflow = record { key = key; local = local; spilled = spilled; overflow = overflow }

stored_is : (key k : ℕ) (local l : List ℕ) (spilled s overflow o : ℕ) → key ≡ k → local ≡ l → spilled ≡ s → overflow ≡ o
    → stored key local spilled overflow ≡ stored k l s o
stored_is key k local l spilled s overflow o is first rest next = cc

pub returns-in_err-payload : goal.returns-in_err-payload
returns-in_err-payload c =
    let kind = c.args.node.now.kind in
    absurd (c.in_err-payload.ensures (whole kind (length c.args.node.now.bytes.now) c.args.cell.now c.in_ok-body.body.now c.requires.within c.requires.row (c.in_ok-body.ensures c.requires.within)))

pub returns-in_err-key : goal.returns-in_err-key
returns-in_err-key c =
    let kind = c.args.node.now.kind in
    absurd (c.in_err-key.ensures (length c.args.node.now.bytes.now) (whole kind (length c.args.node.now.bytes.now) c.args.cell.now c.in_ok-body.body.now c.requires.within c.requires.row (c.in_ok-body.ensures c.requires.within)))

pub returns : goal.returns
returns c =
    let kind = c.args.node.now.kind in
    let usable = length c.args.node.now.bytes.now in
    let body = c.in_ok-body.body.now in
    let is = c.in_ok-body.ensures c.requires.within in
    let sound = whole kind usable c.args.cell.now body c.requires.within c.requires.row is in
    let payload = c.in_ok-payload.ensures sound in
    let key = c.in_ok-key.ensures usable sound in
    stored_is c.in_ok-key.key (body_key kind.tree true body) c.in_ok-payload.payload.local.now (local_part kind.tree usable body) c.in_ok-payload.payload.spilled (spilled_len kind.tree usable body)
    c.in_ok-payload.payload.overflow (first_overflow kind.tree usable body) key payload.local payload.spilled payload.overflow
    ∙ ap (stored_in kind.tree usable) is
