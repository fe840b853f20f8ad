-- Where no setting is for a row, a column or a cell, all cells have one style.
use Rattle.std.proofs.Common.{◌≡◌, true, ◌∙◌, sym, refl}
use Rattle.std.proofs.lemmas.Bool.{and_parts}
use Rattle.pg_layout.specs.declared.position.Position.{Position}
use Rattle.pg_config.specs.Settings.{Settings, is_for_all, setting_of}
use Rattle.pg_config.specs.Config.{Config, has_one_style, get_padding, get_padding_color, get_alignment_horizontal, get_alignment_vertical, get_formatting, get_justification, get_justification_color}
use Rattle.pg_config.specs.Cells.{style_at}
use Rattle.pg_config.proofs.SettingsLaw.{for_all-base}

same : {V : Type 0} (s : Settings V) → is_for_all s ≡ true → (p q : Position) → setting_of s p ≡ setting_of s q
same s h p q = sym (for_all-base s p h) ∙ for_all-base s q h

pub one_style : (config : Config) → has_one_style config ≡ true → (p q : Position) → style_at config p ≡ style_at config q
unfolding style_at has_one_style get_padding get_padding_color get_alignment_horizontal get_alignment_vertical get_formatting get_justification get_justification_color
one_style config h p q =
    let half = and_parts _ _ h in
    let first = and_parts _ _ half.0 in
    let second = and_parts _ _ half.1 in
    let paddings = and_parts _ _ first.0 in
    let alignments = and_parts _ _ first.1 in
    let lines = and_parts _ _ second.0 in
    let trims = and_parts _ _ lines.1 in
    let fills = and_parts _ _ second.1 in
    rw (same config.padding paddings.0 p q, same config.padding_color paddings.1 p q, same config.alignment_horizontal alignments.0 p q, same config.alignment_vertical alignments.1 p q, same config.trim_horizontal lines.0 p q, same config.trim_vertical trims.0 p q, same config.line_alignment trims.1 p q, same config.justification fills.0 p q, same config.justification_color fills.1 p q) refl
