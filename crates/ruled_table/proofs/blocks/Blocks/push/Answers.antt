use Rattle.std.proofs.Common.{◌≡◌, ◌∙◌, List, map, refl, sym, ap}
use Rattle.csv.specs.Records.{fields_of}
use Rattle.pg_layout.specs.Text.{Text}
use Rattle.ruled_table.specs.View.{record_block}
use Rattle.ruled_table.specs.Shown.{shown_text}
use Rattle.ruled_table.specs.declared.options.Options.{Options}
use Rattle.ruled_table.proofs.Tables.{gained-none, on-err}
use Rattle.ruled_table.proofs.blocks.Blocks.push.Goals as goal

pub returns-then-all_stand-clause-text : goal.returns-then-all_stand-clause-text
returns-then-all_stand-clause-text c = λ options rows has.
    let row : List Text = fields_of c.args.fields.now in
    c.push_shown.ensures.text options rows has (sym (c.all_stand.ensures c.if-all_stand.true) ∙ ap (λ (o : Options). map (shown_text o) row) has.asked)

pub returns-then-all_stand-clause-begun : goal.returns-then-all_stand-clause-begun
returns-then-all_stand-clause-begun c = λ options rows has.
    let row : List Text = fields_of c.args.fields.now in
    c.push_shown.ensures.begun options rows has (sym (c.all_stand.ensures c.if-all_stand.true) ∙ ap (λ (o : Options). map (shown_text o) row) has.asked)

pub returns-then-all_stand-clause-fault : goal.returns-then-all_stand-clause-fault
returns-then-all_stand-clause-fault c = λ options rows has.
    let row : List Text = fields_of c.args.fields.now in
    c.push_shown.ensures.fault options rows has (sym (c.all_stand.ensures c.if-all_stand.true) ∙ ap (λ (o : Options). map (shown_text o) row) has.asked)

pub returns-in_err-shown-clause-begun : goal.returns-in_err-shown-clause-begun
returns-in_err-shown-clause-begun c = λ options rows has. on-err c.from_residual.result (gained-none (record_block options rows (fields_of c.args.fields.now)) refl)

pub returns-clause-text : goal.returns-clause-text
returns-clause-text c = λ options rows has.
    let row : List Text = fields_of c.args.fields.now in
    c.push_shown-2.ensures.text options rows has (c.in_ok-shown.ensures ∙ ap (λ (o : Options). map (shown_text o) row) has.asked)

pub returns-clause-begun : goal.returns-clause-begun
returns-clause-begun c = λ options rows has.
    let row : List Text = fields_of c.args.fields.now in
    c.push_shown-2.ensures.begun options rows has (c.in_ok-shown.ensures ∙ ap (λ (o : Options). map (shown_text o) row) has.asked)

pub returns-clause-fault : goal.returns-clause-fault
returns-clause-fault c = λ options rows has.
    let row : List Text = fields_of c.args.fields.now in
    c.push_shown-2.ensures.fault options rows has (c.in_ok-shown.ensures ∙ ap (λ (o : Options). map (shown_text o) row) has.asked)
