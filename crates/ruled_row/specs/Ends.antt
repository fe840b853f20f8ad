-- Where the fields of a row end.
use Rattle.std.specs.Prelude.{ℕ, List}
use Rattle.ruled_row.specs.declared.ends.Ends.{Ends}
use Rattle.ruled_row.specs.declared.ends.Ends.TheVariants.{Few, Many}

abbrev pub places_of : Ends → List ℕ
places_of (Few ends) = ends.items
places_of (Many ends) = ends.items
