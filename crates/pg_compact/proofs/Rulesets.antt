-- Sets of lemmas that attributes of functions hand to the prover.
use Rattle.pg_compact.proofs.CompactPictures.{fits-if-no_misfit, no_misfit-if-fits}
use Rattle.std.proofs.lemmas.Str.{IsUtf8-from_is_utf8, is_utf8-from_IsUtf8, IsUtf8-nil}

-- a table fits where it has no misfit
pub ruleset fitting_tables = (fits-if-no_misfit, no_misfit-if-fits)

-- bytes that are a text
pub ruleset short_texts = (IsUtf8-from_is_utf8, is_utf8-from_IsUtf8, IsUtf8-nil)
