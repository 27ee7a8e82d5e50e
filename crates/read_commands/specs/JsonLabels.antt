-- What `labels` prints as JSON.
use Rattle.std.specs.Prelude.{ℕ, ◌++◌, ◌==◌, if◌then◌else◌, codes, List, Option}
use Rattle.std.specs.Fmt.{decimal}
use Rattle.std.specs.Io.KnownBytes.{Appends}
use Rattle.read_commands.specs.declared.label_lines.ConfigFound.{ConfigFound}
use Rattle.read_commands.specs.declared.label_lines.ConfigFound.TheVariants as found
use Rattle.read_commands.specs.declared.labels_read.Labels.{Labels}
use Rattle.read_commands.specs.declared.label_texts.Active.{Active}
use Rattle.read_commands.specs.declared.label_texts.Active.TheVariants as uberblock
use Rattle.read_commands.specs.ReadLabels.{AreLabelsFound, AreLabelsRead, LabelFound}

-- a config, or why there is none; the guid is a text, since it may pass 2^53
abbrev pub json_config : ConfigFound → List ℕ
json_config (found.Config c) =
    codes "{\"name\":\"" ++ (c.name ++ (codes "\",\"guid\":\"" ++ (decimal c.guid ++ (codes "\",\"group\":" ++ (decimal c.group
    ++ (codes ",\"size\":" ++ (decimal c.size ++ codes "}")))))))
json_config (found.OfSize size) = codes "null,\"reason\":\"size\",\"size\":" ++ decimal size
json_config found.Zeros = codes "null,\"reason\":\"zeros\""
json_config found.Unchecked = codes "null,\"reason\":\"check\""

-- how many uberblocks a label has, and the highest group of these
abbrev pub json_ring : ℕ → ℕ → List ℕ
json_ring count highest =
    if count == 0 then codes "\"uberblocks\":0" else codes "\"uberblocks\":" ++ (decimal count ++ (codes ",\"highest\":" ++ decimal highest))

-- a label: its number, its config and its uberblocks
abbrev pub json_label : ℕ → ConfigFound → ℕ → ℕ → List ℕ
json_label number config count highest =
    codes "{\"label\":" ++ (decimal number ++ (codes ",\"config\":" ++ (json_config config ++ (codes "," ++ (json_ring count highest ++ codes "}")))))

-- the active uberblock
abbrev pub json_active : Active → List ℕ
json_active uberblock.Missing = codes "null"
json_active (uberblock.Unplaced group) = codes "{\"group\":" ++ (decimal group.0 ++ codes "}")
json_active (uberblock.Found group label) = codes "{\"group\":" ++ (decimal group.0 ++ (codes ",\"label\":" ++ (decimal label ++ codes "}")))

-- what was found of a label, with its number
abbrev pub json_found_label : ℕ → LabelFound → List ℕ
json_found_label number l = json_label number l.config l.count l.highest

-- four labels with their numbers, and the active uberblock
abbrev pub json_four : LabelFound → LabelFound → LabelFound → LabelFound → Active → List ℕ
json_four zeroth first second third last =
    codes "{\"labels\":[" ++ (json_found_label 0 zeroth ++ (codes "," ++ (json_found_label 1 first ++ (codes "," ++ (json_found_label 2 second
    ++ (codes "," ++ (json_found_label 3 third ++ (codes "],\"active\":" ++ (json_active last ++ codes "}\n")))))))))

-- So the labels that were read say, and it was printed.
pub record PrintsRead (labels : Labels) (old new : Option (List ℕ)) : Type 0 where
  pub zeroth : LabelFound
  pub first : LabelFound
  pub second : LabelFound
  pub third : LabelFound
  pub active : Active
  pub read : AreLabelsRead labels zeroth first second third active
  pub writes : Appends old new (json_four zeroth first second third active)

-- So it was printed, and so it is of the image, if the device keeps the model.
pub record PrintsLabels (keeps : Type 0) (image : List ℕ) (old new : Option (List ℕ)) : Type 0 where
  pub zeroth : LabelFound
  pub first : LabelFound
  pub second : LabelFound
  pub third : LabelFound
  pub active : Active
  pub found : keeps → AreLabelsFound image zeroth first second third active
  pub writes : Appends old new (json_four zeroth first second third active)
