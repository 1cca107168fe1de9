use Rattle.digits.proofs.Worths.{right_at, all_right, worths_right}
use Rattle.digits.specs.Digits.{foreign_worth, worth_of}
use mathlib.Core.Path.{refl}
use Rattle.digits.proofs.Digits.new.Goals as goal

pub invariant_of-result : goal.invariant_of-result
unfolding foreign_worth worth_of right_at all_right
invariant_of-result c = record { right = worths_right _ refl tt }
