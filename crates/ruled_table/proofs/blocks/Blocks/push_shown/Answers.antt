use Rattle.std.proofs.Common.{◌≡◌, ◌∙◌, ◌++◌, ◌∷◌, [], ℕ, List, Option, true, string_bytes, append_assoc, subst, sym, ap, arith}
use Rattle.std.proofs.lemmas.Str.{encode_ascii}
use Rattle.std.specs.Borrow.{Bor}
use Rattle.std.specs.Result.{OnErr}
use Rattle.csv.specs.Records.{Row, fields_of}
use Rattle.pg_layout.specs.Colors.{Color}
use Rattle.pg_layout.specs.Text.{Text}
use Rattle.pg_layout.specs.declared.position.Position.{Position}
use Rattle.pg_picture.specs.Appending.{GainedBeginning}
use Rattle.ruled_table.specs.View.{HasNames, places_in, record_fault}
use Rattle.ruled_table.specs.Columns.{fields_at, pairs_of}
use Rattle.ruled_table.specs.Shown.{color_beside, color_in}
use Rattle.ruled_table.specs.Tables.{text_with}
use Rattle.ruled_table.specs.declared.blocks.Blocks.{Blocks}
use Rattle.ruled_table.specs.declared.options.Options.{Options}
use Rattle.ruled_table.proofs.LentTexts.{block-colors, block-same, fault-same}
use Rattle.ruled_table.proofs.Tables.{gained-first, gained-in, on-err, told_on}
use Rattle.ruled_table.proofs.blocks.Blocks.push_shown.Goals as goal

-- the colours of a block that is drawn
colors-here : (blocks : Blocks) (options : Options) (rows : List (List Text)) → HasNames options rows blocks → (fields : Row) (places : Bor (List (Option ℕ))) → places.now ≡ blocks.places.items → (records : Bor (List Row)) → records.now ≡ fields ∷ []
    → color_in (record { options = blocks.options; places = places; rows = records; is_block = true }) ≡ color_beside options (places_in options rows) (fields_of fields)
colors-here blocks options rows has fields places at records is = block-colors blocks.options.now options places.now (places_in options rows) records.now fields has.asked (at ∙ has.at) is

pub returns-in_err-push_text-clause-begun : goal.returns-in_err-push_text-clause-begun
returns-in_err-push_text-clause-begun c = λ options rows has shown.
    let row : List Text = fields_of c.args.fields.now in
    let is = colors-here c.args.self.now options rows has c.args.fields.now c.deref-2.result c.deref-2.ensures.value c.from_ref.result c.from_ref.ensures.value in
    let blocks = c.args.self.now in
    let hue : Position → Option Color = color_in (record { options = blocks.options; places = c.deref-2.result; rows = c.from_ref.result; is_block = true }) in
    let places = c.deref.result.now in
    let table : Text = text_with blocks.options.now.bounds blocks.config hue (pairs_of (fields_at places (fields_of blocks.names)) (fields_at places (fields_of c.args.shown.now))) in
    on-err c.from_residual.result
    (subst (GainedBeginning c.args.buf.now c.push_text.new.buf) (block-same options rows blocks has places c.deref.ensures.value (fields_of c.args.shown.now) row shown _ is)
    (gained-in table (10 ∷ []) c.in_err-push_text.ensures.begun))

pub returns-in_err-push_text-clause-fault : goal.returns-in_err-push_text-clause-fault
returns-in_err-push_text-clause-fault c = λ options rows has shown.
    let row : List Text = fields_of c.args.fields.now in
    let is = colors-here c.args.self.now options rows has c.args.fields.now c.deref-2.result c.deref-2.ensures.value c.from_ref.result c.from_ref.ensures.value in
    let same = fault-same options rows c.args.self.now has c.deref.result.now c.deref.ensures.value (fields_of c.args.shown.now) row shown _ is in
    told_on c.in_err-push_text.field-0.0 (record_fault options rows row) c.from_residual.result (λ soft. sym same ∙ c.in_err-push_text.ensures.fault soft) c.from_residual.ensures.1

pub returns-in_err-push-clause-begun : goal.returns-in_err-push-clause-begun
returns-in_err-push-clause-begun c = λ options rows has shown.
    let row : List Text = fields_of c.args.fields.now in
    let is = colors-here c.args.self.now options rows has c.args.fields.now c.deref-2.result c.deref-2.ensures.value c.from_ref.result c.from_ref.ensures.value in
    let blocks = c.args.self.now in
    let hue : Position → Option Color = color_in (record { options = blocks.options; places = c.deref-2.result; rows = c.from_ref.result; is_block = true }) in
    let places = c.deref.result.now in
    let table : Text = text_with blocks.options.now.bounds blocks.config hue (pairs_of (fields_at places (fields_of blocks.names)) (fields_at places (fields_of c.args.shown.now))) in
    on-err c.from_residual-in_err-push.result
    (subst (GainedBeginning c.args.buf.now c.push.new.self) (block-same options rows blocks has places c.deref.ensures.value (fields_of c.args.shown.now) row shown _ is)
    (gained-first table (10 ∷ []) (c.in_err-push.ensures.bytes ∙ c.in_ok-push_text.ensures.text)))

pub returns-clause-text : goal.returns-clause-text
returns-clause-text c = λ options rows has shown.
    let row : List Text = fields_of c.args.fields.now in
    let is = colors-here c.args.self.now options rows has c.args.fields.now c.deref-2.result c.deref-2.ensures.value c.from_ref.result c.from_ref.ensures.value in
    let blocks = c.args.self.now in
    let hue : Position → Option Color = color_in (record { options = blocks.options; places = c.deref-2.result; rows = c.from_ref.result; is_block = true }) in
    let places = c.deref.result.now in
    let old = string_bytes c.args.buf.now in
    let table : Text = text_with blocks.options.now.bounds blocks.config hue (pairs_of (fields_at places (fields_of blocks.names)) (fields_at places (fields_of c.args.shown.now))) in
    c.in_ok-push.ensures.bytes
    ∙ ap (λ (end : Text). string_bytes c.push_text.new.buf ++ end) (encode_ascii 10 (omega arith))
    ∙ ap (λ (text : Text). text ++ 10 ∷ []) c.in_ok-push_text.ensures.text
    ∙ append_assoc old table (10 ∷ [])
    ∙ ap (λ (text : Text). old ++ text) (block-same options rows blocks has places c.deref.ensures.value (fields_of c.args.shown.now) row shown _ is)

pub returns-clause-fault : goal.returns-clause-fault
returns-clause-fault c = λ options rows has shown.
    let row : List Text = fields_of c.args.fields.now in
    let is = colors-here c.args.self.now options rows has c.args.fields.now c.deref-2.result c.deref-2.ensures.value c.from_ref.result c.from_ref.ensures.value in
    sym (fault-same options rows c.args.self.now has c.deref.result.now c.deref.ensures.value (fields_of c.args.shown.now) row shown _ is) ∙ c.in_ok-push_text.ensures.fault
