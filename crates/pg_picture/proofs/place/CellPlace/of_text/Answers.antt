use Rattle.std.proofs.Common.{ap, sym, ◌∙◌, arith}
use Rattle.pg_picture.specs.declared.facts.TextFacts.{TextFacts}
use Rattle.pg_picture.specs.Inside.{style_of, place_of}
use Rattle.pg_picture.proofs.PlacesOfTexts.{place_in-tall, place-lines, facts_of-widest, cell_fits-width, cell_fits-height}
use Rattle.pg_picture.proofs.place.CellPlace.of_text.Goals as goal

pub of-requires-clause-width : goal.of-requires-clause-width
of-requires-clause-width g c =
    let style = style_of c.args.style.now in
    omega (arith, cell_fits-width style c.args.text.now c.args.width c.args.height (omega arith) c.requires, ap (λ (f : TextFacts). f.widest) c.of_text-facts.ensures, facts_of-widest style.formatting c.args.text.now)

pub of-requires-clause-height : goal.of-requires-clause-height
of-requires-clause-height g c = cell_fits-height (style_of c.args.style.now) c.args.text.now c.args.width c.args.height (omega arith) c.requires

pub returns-clause-place : goal.returns-clause-place
returns-clause-place g c =
    c.of.ensures
    ∙ ap (λ (f : TextFacts). place_of f (style_of c.args.style.now) c.args.width c.args.height) c.of_text-facts.ensures
    ∙ sym (place_in-tall (style_of c.args.style.now) c.args.text.now c.args.width c.args.height (omega arith))

pub returns-clause-lines : goal.returns-clause-lines
returns-clause-lines g c =
    place-lines (style_of c.args.style.now) c.args.text.now c.args.width c.args.height c.of.result
    (c.of.ensures ∙ ap (λ (f : TextFacts). place_of f (style_of c.args.style.now) c.args.width c.args.height) c.of_text-facts.ensures)
