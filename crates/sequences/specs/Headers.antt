-- What a header says.
use Rattle.std.specs.Prelude.{ℕ, ◌+◌, List, get_or}
use Rattle.sequences.specs.declared.Header.{Header}
use Rattle.sequences.specs.Sequence.{number_at}

-- the header that stands at a place, its text's length left out
abbrev pub header_at : List ℕ → ℕ → Header
header_at s at =
    record {
      mode = get_or s at 0;
      task = get_or s (at + 5) 0;
      vertex = get_or s (at + 6) 0;
      budget = number_at s (at + 7);
      work_cells = number_at s (at + 11);
      witness_cells = number_at s (at + 15);
    }
