-- The letters of the modes.
use Rattle.std.specs.Prelude.{◌≡◌, ◌≢◌, ℕ, Result, MatchResult}
use Rattle.cases.specs.declared.modes.Mode.{Mode}
use Rattle.cases.specs.declared.modes.Mode.TheVariants.{Check, List, Desk, Vertex, Latest, Table, Unmarked, Finishes, Record, Back}
use Rattle.cases.specs.declared.modes.UnknownMode.{UnknownMode}

-- c, l, d, v, f, t, u, g, r, b
abbrev pub letter_of : Mode → ℕ
letter_of Check = 99
letter_of List = 108
letter_of Desk = 100
letter_of Vertex = 118
letter_of Latest = 102
letter_of Table = 116
letter_of Unmarked = 117
letter_of Finishes = 103
letter_of Record = 114
letter_of Back = 98

-- the mode with this letter, or an error with a letter that no mode has
abbrev pub Decodes : ℕ → Result Mode UnknownMode → Type 0
Decodes letter r = MatchResult r (λ mode. letter_of mode ≡ letter) (λ e. (e.0 ≡ letter) × ((mode : Mode) → letter_of mode ≢ letter))
