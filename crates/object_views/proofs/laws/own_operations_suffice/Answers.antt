use Rattle.object_views.proofs.OwnLaws.{own_suffice}
use Rattle.object_views.proofs.laws.own_operations_suffice.Goals as goal

pub returns : goal.returns
returns c = own_suffice
