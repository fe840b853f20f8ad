-- Colours and styles of terminals: the commands that begin them, and those that end them.
use Rattle.std.specs.Prelude.{ℕ, ◌+◌, Bool, false, [], ◌∷◌, ◌++◌, codes, decimal, Option, Some, None, is_some, if◌then◌else◌}
use Rattle.pg_layout.specs.Text.{Text}
use Rattle.pg_layout.specs.Colors.{Color as Texts}
use Rattle.pg_layout.specs.declared.terminal.Color.{Color}
use Rattle.pg_layout.specs.declared.terminal.Hue.{Hue}
use Rattle.pg_layout.specs.declared.terminal.Hue.TheVariants.{Normal, Bright, Palette, Rgb}
use Rattle.pg_layout.specs.declared.terminal.Tint.{Tint}
use Rattle.pg_layout.specs.declared.terminal.Tint.TheVariants.{Black, Red, Green, Yellow, Blue, Magenta, Cyan, White}

-- nothing is told
abbrev pub plain : Color
plain = record { text = None; behind = None; is_bold = false; is_italic = false; is_underlined = false }

-- a command: escape, a bracket, its parameters, and m
abbrev pub command : Text → Text
command parameters = 27 ∷ codes "[" ++ (parameters ++ codes "m")

abbrev pub tint_number : Tint → ℕ
tint_number Black = 0
tint_number Red = 1
tint_number Green = 2
tint_number Yellow = 3
tint_number Blue = 4
tint_number Magenta = 5
tint_number Cyan = 6
tint_number White = 7

-- Black has the first number. Brighter tints come 60 behind, and other colours are told behind the eighth.
abbrev pub hue_parameters : ℕ → Hue → Text
hue_parameters first (Normal tint) = decimal (first + tint_number tint)
hue_parameters first (Bright tint) = decimal (first + 60 + tint_number tint)
hue_parameters first (Palette number) = decimal (first + 8) ++ (codes ";5;" ++ decimal number)
hue_parameters first (Rgb red green blue) = decimal (first + 8) ++ (codes ";2;" ++ (decimal red ++ (codes ";" ++ (decimal green ++ (codes ";" ++ decimal blue)))))

abbrev pub hue_command : ℕ → Option Hue → Text
hue_command first None = []
hue_command first (Some hue) = command (hue_parameters first hue)

abbrev pub when : Bool → Text → Text
when test text = if test then text else []

-- what begins a colour: its styles, the hue of the text, and that behind it
abbrev pub begin_text : Color → Text
begin_text c =
    when c.is_bold (command (codes "1"))
    ++ (when c.is_italic (command (codes "3"))
    ++ (when c.is_underlined (command (codes "4"))
    ++ (hue_command 30 c.text ++ hue_command 40 c.behind)))

-- what ends it: the same in reverse
abbrev pub end_text : Color → Text
end_text c =
    when (is_some c.behind) (command (codes "49"))
    ++ (when (is_some c.text) (command (codes "39"))
    ++ (when c.is_underlined (command (codes "24"))
    ++ (when c.is_italic (command (codes "23")) ++ when c.is_bold (command (codes "22")))))

abbrev pub color_texts : Color → Texts
color_texts c = record { prefix = begin_text c; suffix = end_text c }
