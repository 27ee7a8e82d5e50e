-- The two stages in which labels are written.
use Rattle.std.specs.Prelude.{ℕ, List}
use Rattle.base.specs.formats.Labels.{even_labels, odd_labels}
use Rattle.labels.specs.declared.stage.Stage.{Stage}
use Rattle.labels.specs.declared.stage.Stage.TheVariants.{Even, Odd}

-- the labels of a stage
abbrev pub labels_of : Stage → List ℕ
labels_of Even = even_labels
labels_of Odd = odd_labels
