use Rattle.std.proofs.Common.{◌≡◌, ◌∙◌, ◌++◌, ◌∷◌, [], ℕ, List, ap, map}
use Rattle.csv.specs.Records.{Row as Fields, fields_of}
use Rattle.ruled_database.specs.Listings.{header, with_entries}
use Rattle.ruled_database.proofs.Tabling.{lacks_lines}
use Rattle.ruled_database.proofs.schema.listing_of.Goals as goal

pub returns-in_err-push_listing-clause-fault : goal.returns-in_err-push_listing-clause-fault
returns-in_err-push_listing-clause-fault c =
    lacks_lines (map fields_of c.args.schema.now) c.from_residual-in_err-push_listing.result c.in_err-push_listing.field-0.0 c.from_residual-in_err-push_listing.ensures.1 c.in_err-push_listing.ensures.fault

pub returns-clause-rows : goal.returns-clause-rows
returns-clause-rows c =
    let words : fields_of c.in_ok-header.header ≡ header = c.in_ok-header.ensures.fields in
    let pushed : map fields_of c.push.new.self.items ≡ header ∷ [] =
    ap (map fields_of) (c.in_ok-push.ensures.items ∙ ap (λ (rows : List Fields). rows ++ c.in_ok-header.header ∷ []) c.new-rows.ensures.items) ∙ ap (λ (row : List (List ℕ)). row ∷ []) words in
    c.in_ok-push_listing.ensures.rows ∙ ap (λ (rows : List (List (List ℕ))). with_entries rows (map fields_of c.args.schema.now)) pushed
