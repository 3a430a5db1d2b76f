-- The figures of a report, counted over the results of a sheet in their order; and a line for each result, by ascending container.
use Rattle.std.specs.Prelude.{ℕ, ◌+◌, min, max, List, [], ◌∷◌, ◌++◌, ltb, length}
use Rattle.rules.specs.Choice.{pick}
use Rattle.rules.specs.Limits.{widest}
use Rattle.rules.specs.Contents.{Content, holds, value, square, value_or_widest}
use Rattle.rules.specs.declared.Figures.{Figures}
use Rattle.reading_theorems.specs.Spelling.{Entry}

-- the weights w of the results, put together by op, behind those that come to n
unfoldable pub gathered : (ℕ → ℕ → ℕ) → (Content → ℕ) → ℕ → List Entry → ℕ
gathered op w n [] = n
gathered op w n (e ∷ es) = gathered op w (op n (w (holds e.x))) es

unfoldable pub figures_over : List Entry → Figures
figures_over es =
    record {
      count = length es;
      sum = gathered ◌+◌ value 0 es;
      squares = gathered ◌+◌ square 0 es;
      smallest = gathered min value_or_widest widest es;
      largest = gathered max value 0 es;
    }

-- ---- by container
-- a result among results of which each has a higher container than the next
unfoldable pub insert : Entry → List Entry → List Entry
insert e [] = e ∷ []
insert e (d ∷ ds) = pick (ltb d.container e.container) (e ∷ d ∷ ds) (d ∷ insert e ds)

unfoldable pub sorted_onto : List Entry → List Entry → List Entry
sorted_onto ds [] = ds
sorted_onto ds (e ∷ es) = sorted_onto (insert e ds) es

-- the lines w of results, the last one's first
unfoldable pub lines_up : (ℕ → ℕ → List ℕ) → List Entry → List ℕ
lines_up w [] = []
lines_up w (d ∷ ds) = lines_up w ds ++ w d.container d.x

-- the lines w of results, by ascending container
abbrev pub ascending : (ℕ → ℕ → List ℕ) → List Entry → List ℕ
ascending w es = lines_up w (sorted_onto [] es)
