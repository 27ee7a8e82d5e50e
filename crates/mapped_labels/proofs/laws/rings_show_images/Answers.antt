use Rattle.mapped_labels.proofs.MappedImages.{rings_show_actives, rings_show_none}
use Rattle.mapped_labels.proofs.laws.rings_show_images.Goals as goal

pub returns-clause-active : goal.returns-clause-active
returns-clause-active c = rings_show_actives

pub returns-clause-none : goal.returns-clause-none
returns-clause-none c = rings_show_none
