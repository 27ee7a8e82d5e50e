-- What `labels` prints as lines.
use Rattle.std.specs.Prelude.{ℕ, ◌++◌, ◌==◌, if◌then◌else◌, codes, List, Option}
use Rattle.std.specs.Fmt.{decimal}
use Rattle.std.specs.Io.KnownBytes.{Appends}
use Rattle.read_commands.specs.declared.label_lines.ConfigFound.{ConfigFound}
use Rattle.read_commands.specs.declared.label_lines.ConfigFound.TheVariants as found
use Rattle.read_commands.specs.declared.labels_read.Labels.{Labels}
use Rattle.read_commands.specs.declared.label_texts.Active.{Active}
use Rattle.read_commands.specs.declared.label_texts.Active.TheVariants as uberblock
use Rattle.read_commands.specs.ReadLabels.{AreLabelsFound, AreLabelsRead, LabelFound}

-- a config, or why there is none
abbrev pub config_text : ConfigFound → List ℕ
config_text (found.Config c) = c.name ++ (codes " " ++ (decimal c.guid ++ (codes " " ++ (decimal c.group ++ (codes " " ++ decimal c.size)))))
config_text (found.OfSize size) = codes "none size " ++ decimal size
config_text found.Zeros = codes "none zeros"
config_text found.Unchecked = codes "none check"

-- how many uberblocks a label has, and the highest group of these
abbrev pub ring_text : ℕ → ℕ → List ℕ
ring_text count highest = if count == 0 then codes "0" else decimal count ++ (codes " highest " ++ decimal highest)

-- the two lines of a label: its config and its uberblocks
abbrev pub label_text : ℕ → ConfigFound → ℕ → ℕ → List ℕ
label_text number config count highest =
    codes "label " ++ (decimal number ++ (codes " config " ++ (config_text config ++ (codes "\nlabel " ++ (decimal number ++ (codes " uberblocks " ++ (ring_text count highest ++ codes "\n")))))))

-- the active uberblock
abbrev pub active_text : Active → List ℕ
active_text uberblock.Missing = codes "none"
active_text (uberblock.Unplaced group) = decimal group.0
active_text (uberblock.Found group label) = decimal group.0 ++ (codes " of label " ++ decimal label)

abbrev pub found_text : ℕ → LabelFound → List ℕ
found_text number l = label_text number l.config l.count l.highest

-- four labels with their numbers, and the active uberblock
abbrev pub four_texts : LabelFound → LabelFound → LabelFound → LabelFound → Active → List ℕ
four_texts zeroth first second third last =
    found_text 0 zeroth ++ (found_text 1 first ++ (found_text 2 second ++ (found_text 3 third ++ (codes "active " ++ (active_text last ++ codes "\n")))))

-- So the labels that were read say, and it was written.
pub record WritesRead (labels : Labels) (old new : Option (List ℕ)) : Type 0 where
  pub zeroth : LabelFound
  pub first : LabelFound
  pub second : LabelFound
  pub third : LabelFound
  pub active : Active
  pub read : AreLabelsRead labels zeroth first second third active
  pub writes : Appends old new (four_texts zeroth first second third active)

-- So it was written, and so it is of the image, if the device keeps the model.
pub record WritesFour (keeps : Type 0) (image : List ℕ) (old new : Option (List ℕ)) : Type 0 where
  pub zeroth : LabelFound
  pub first : LabelFound
  pub second : LabelFound
  pub third : LabelFound
  pub active : Active
  pub found : keeps → AreLabelsFound image zeroth first second third active
  pub writes : Appends old new (four_texts zeroth first second third active)
