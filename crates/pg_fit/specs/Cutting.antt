-- Lines that are too wide, cut at their end, in front or in the middle, with a tail in place of what is left out.
use Rattle.std.specs.Prelude.{ℕ, ◌-◌, true, List, [], ◌∷◌, ◌++◌, map, if◌then◌else◌, ◌+◌, ◌/◌, reverse, length, drop}
use Rattle.unicode_segmentation.specs.Grapheme.{graphemes}
use Rattle.pg_layout.specs.Text.{Text, lines_of, width_of}
use Rattle.std.specs.List.{join_with_byte}
use Rattle.pg_fit.specs.Wrapping.{fits}
use Rattle.pg_fit.specs.declared.cutting_away.Kept.{Kept}
use Rattle.pg_fit.specs.declared.cutting_away.Kept.TheVariants.{End, BothEnds}

-- ---- at the end

-- a beginning, and as many of the characters behind it as fit, one after another
abbrev pub held : ℕ → Text → List Text → Text
held width front [] = front
held width front (c ∷ cs) = if fits width (front ++ c) then held width (front ++ c) cs else front

-- the characters that a line begins with, as far as they fit
abbrev pub beginning : ℕ → Text → Text
beginning width line = held width [] (graphemes true line)

-- a line that fits stays; any other is cut so that the tail stands behind it; and of a tail that doesn't fit by itself there is its beginning alone
unfoldable pub cut_line : ℕ → Text → Text → Text
cut_line width tail line =
    if fits width line then line
    else if fits width tail then beginning (width - width_of tail) line ++ tail
    else beginning width tail

-- a text whose lines are cut where they are too wide
unfoldable pub cut_text : ℕ → Text → Text → Text
cut_text width tail text = join_with_byte 10 (map (cut_line width tail) (lines_of text))

-- ---- in front or in the middle

-- an end, and as many of the characters before it, the nearest first, as fit with it behind a front
abbrev pub held_before : ℕ → Text → Text → List Text → Text
held_before width front end [] = end
held_before width front end (c ∷ cs) = if fits width (front ++ (c ++ end)) then held_before width front (c ++ end) cs else end

-- the characters that a line ends with, as far as they fit behind a front
abbrev pub ending : ℕ → Text → Text → Text
ending width front line = held_before width front [] (reverse (graphemes true line))

-- what a line that is cut keeps before its tail: nothing, or its beginning in half of the columns beside the tail, rounded up
abbrev pub kept_front : Kept → ℕ → Text → Text → Text
kept_front End width tail line = []
kept_front BothEnds width tail line = beginning ((width - width_of tail + 1) / 2) line

-- what stays of a line behind so much of it, behind a tail
abbrev pub cut_behind : ℕ → Text → Text → Text → Text
cut_behind width tail front line = (front ++ tail) ++ ending width (front ++ tail) (drop (length front) line)

-- a line that fits stays; any other is cut, with the tail in place of what is left out; and of a tail that doesn't fit by itself
-- there is its beginning alone
unfoldable pub cut_away_line : Kept → ℕ → Text → Text → Text
cut_away_line kept width tail line =
    if fits width line then line
    else if fits width tail then cut_behind width tail (kept_front kept width tail line) line
    else beginning width tail

-- a text whose lines are cut where they are too wide
unfoldable pub cut_away_text : Kept → ℕ → Text → Text → Text
cut_away_text kept width tail text = join_with_byte 10 (map (cut_away_line kept width tail) (lines_of text))
