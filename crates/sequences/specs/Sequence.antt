-- Where a case of a sequence ends.
use Rattle.std.specs.Prelude.{ℕ, ◌+◌, ◌*◌, min, List, length, get_or, replicate}

abbrev pub header_bytes : ℕ
header_bytes = 19

abbrev pub room_bytes : ℕ
room_bytes = 1048576

-- the number in the 4 bytes at a place
abbrev pub number_at : List ℕ → ℕ → ℕ
number_at s at = (get_or s at 0 * 256 + get_or s (at + 1) 0) * 65536 + (get_or s (at + 2) 0 * 256 + get_or s (at + 3) 0)

-- behind the header as many bytes as its second to fifth say, or the sequence's end
abbrev pub case_end : List ℕ → ℕ → ℕ
case_end s at = min (length s) (at + header_bytes + number_at s (at + 1))

-- so many zeros
unfoldable pub zeros : ℕ → List ℕ
zeros n = replicate n 0
