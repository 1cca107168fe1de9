-- What `specs` states of paths, texts and the walk, each from the law file that is named after what it shows.
use mathlib.Core.Path.{◌≡◌}
use Prim.Native.Nat.{ℕ}
use mathlib.Core.List.{List}
use Rattle.meaning.specs.Table.{Task}
use Rattle.meaning.specs.Paths.{paths_of}
use Rattle.meaning.specs.Sound.{SoundTask}
use Rattle.meaning.specs.Texts.{ReadableSound}
use Rattle.meaning.specs.Walk.{WalkSees, OverloadsLate, ChoicesBefore}
use Rattle.meaning.specs.Demands.{Readable, PathsSuffice, PathsListed, NineOrTen}
use Rattle.meaning.specs.Text.{unreadable, read}
use Rattle.meaning.proofs.Readable.{InText, read_sound, read_refused}
use Rattle.meaning.proofs.Edges.{sound_spaced, sound_fanned}
use Rattle.meaning.proofs.PathsOf as PathsOf
use Rattle.meaning.proofs.PathOrder.{rising_complete}
use Rattle.meaning.proofs.Complete.{listed_exactly, listed_short}
use Rattle.meaning.proofs.Whole as Whole
use Rattle.meaning.proofs.Groups.{group_late, choice_late}
use Rattle.meaning.proofs.Walks as Walks
use Rattle.meaning.proofs.Spots.{all-order}

-- every readable table keeps the bounds
pub readable_sound : ReadableSound
readable_sound = read_sound

-- a refusal of the text has a number from 1 to 7 or 13, and a line from 1 to 362
pub text_refused : (text : List ℕ) (k n : ℕ) → read text ≡ unreadable k n → InText k n
text_refused = read_refused

task_sound : (k : Task) → Readable k → SoundTask k
task_sound k r = (read_sound r.0 r.1 r.2).each_task k r.3

pub paths_suffice : PathsSuffice
paths_suffice k r d = PathsOf.paths_suffice k (task_sound k r) d

pub paths_listed : PathsListed
unfolding paths_of
paths_listed =
    record {
      exactly = λ k r d o. let s = task_sound k r in listed_exactly k (sound_spaced k s) (sound_fanned k s) d o;
      some = λ k r d. PathsOf.paths_some k (task_sound k r) d;
      rising = λ k r d. rising_complete k (sound_fanned k (task_sound k r)) d;
      short = λ k r d o. let s = task_sound k r in listed_short k (sound_spaced k s) (sound_fanned k s) d o;
    }

pub nine_or_ten : NineOrTen
nine_or_ten = Whole.nine_or_ten

pub walk_sees : WalkSees
walk_sees = record { plain = λ load e d. Walks.walk_sees load e d; latest = λ load e d. Walks.late_walk_sees load e d }

pub overloads_late : OverloadsLate
overloads_late = record { groups = λ load e d g. group_late load e d g; choices = λ load e d c. choice_late load e d c }

pub choices_before : ChoicesBefore
choices_before X = all-order
