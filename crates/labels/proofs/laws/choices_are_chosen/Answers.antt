use Rattle.labels.proofs.LabelsOfImage.{so_of_image}
use Rattle.labels.proofs.laws.choices_are_chosen.Goals as goal

pub returns : goal.returns
returns c = λ image configs guid group read. so_of_image image configs read guid group
