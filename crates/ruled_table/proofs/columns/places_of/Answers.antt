use Rattle.std.proofs.Common.{◌≡◌, map, option_map, Option, sym, subst, rules, arith}
use Rattle.std.proofs.lemmas.Grind.{common_steps}
use Rattle.std.specs.Option.{option_or}
use Rattle.csv.specs.Records.{fields_of}
use Rattle.ruled_table.specs.Columns.{column_fault, last_word, missing_word}
use Rattle.ruled_table.specs.Tables.{Tells}
use Rattle.ruled_table.specs.declared.view.ViewFault.{ViewFault}
use Rattle.ruled_table.specs.declared.view.ViewFault.TheVariants.{Column}
use Rattle.ruled_table.proofs.columns.places_of.Goals as goal

pub returns-in-len1-up-clause-fault : goal.returns-in-len1-up-clause-fault
returns-in-len1-up-clause-fault c =
    let same : column_fault c.args.words.now (map fields_of c.args.rows.now) ≡ option_map Column (option_or (missing_word c.args.words.now (fields_of c.header-item.result)) (last_word c.args.words.now (fields_of c.header-item.result))) = first_of (search rules, grind (arith, common_steps)) in
    subst (λ (fault : Option ViewFault). Tells fault c.places_in.result) (sym same) c.places_in.ensures.fault
