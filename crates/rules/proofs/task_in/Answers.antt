use Rattle.rules.specs.Rules.{task_in}
use borrow.Author.Tests.{le-leb, lt-leb}
use Rattle.rules.proofs.task_in.Goals as goal

pub returns-then-v-lt1 : goal.returns-then-v-lt1
unfolding task_in
returns-then-v-lt1 c = simp (lt-leb _ _ c.if-v-lt1.true)

pub returns-then-v-gt-MOST_VERTICES : goal.returns-then-v-gt-MOST_VERTICES
unfolding task_in
returns-then-v-gt-MOST_VERTICES c = simp (le-leb _ _ c.if-v-lt1.false, lt-leb _ _ c.if-v-gt-MOST_VERTICES.true)

pub returns-then-e-gt-MOST_EDGES : goal.returns-then-e-gt-MOST_EDGES
unfolding task_in
returns-then-e-gt-MOST_EDGES c = simp (le-leb _ _ c.if-v-lt1.false, le-leb _ _ c.if-v-gt-MOST_VERTICES.false, lt-leb _ _ c.if-e-gt-MOST_EDGES.true)

pub returns-then-m-least : goal.returns-then-m-least
unfolding task_in
returns-then-m-least c =
    simp (
      le-leb _ _ c.if-v-lt1.false,
      le-leb _ _ c.if-v-gt-MOST_VERTICES.false,
      le-leb _ _ c.if-e-gt-MOST_EDGES.false,
      lt-leb _ _ c.if-m-least.true,
    )

pub returns : goal.returns
unfolding task_in
returns c =
    simp (
      le-leb _ _ c.if-v-lt1.false,
      le-leb _ _ c.if-v-gt-MOST_VERTICES.false,
      le-leb _ _ c.if-e-gt-MOST_EDGES.false,
      le-leb _ _ c.if-m-least.false,
    )
