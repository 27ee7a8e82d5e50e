use Rattle.std.proofs.Common.{◌≡◌, ◌∙◌, [], false, refl}
use Rattle.base.specs.steps.Shown.{Shown, is_durable}
use Rattle.pool_core.specs.States.{shown}
use Rattle.pool_core_clients.proofs.steps.an_unsynced_commit_is_not_durable.Goals as goal

none_kept : (s : Shown) → s.line.synced ≡ 8 → s.log.kept ≡ [] → is_durable s 3 9 ≡ false
none_kept s synced none = rw (synced, none) refl

pub returns : goal.returns
returns g c = c.durable.ensures ∙ none_kept (shown c.args.pool.now) c.requires.synced c.requires.none
