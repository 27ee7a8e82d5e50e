use Rattle.import_replay_clients.proofs.Promises.{byte_kept, each_weaker}
use Rattle.import_replay_clients.proofs.creates.a_create_leaves_what_lies_behind_the_labels.Goals as goal

pub returns : goal.returns
returns g c = λ keeps. each_weaker c.create.result _ _ _ _ (λ d writes. byte_kept _ _ _ c.requires writes) (λ e writes. byte_kept _ _ _ c.requires writes) (c.create.ensures.outside keeps)
