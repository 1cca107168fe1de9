-- What is said of an input as a whole: refusal 12 before all, else the four counts of the table or its text's refusal.
use Rattle.std.specs.Prelude.{ℕ, List, length, ltb}
use Rattle.meaning.specs.Lists.{pick}
use Rattle.meaning.specs.Bounds.{longest_input, desk_budget, desk_work}
use Rattle.meaning.specs.Text.{read}
use Rattle.meaning.specs.Whole.{TableAnswer, uncounted, table_answer}

unfoldable pub said : List ℕ → TableAnswer
said text = pick (ltb longest_input (length text)) (uncounted 12 0) (table_answer (read text) desk_budget desk_work)
