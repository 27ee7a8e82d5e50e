use Rattle.std.proofs.Common.{ap, refl, subst, sym, ◌∙◌}
use Rattle.import_replay.specs.ImportSyncs.{IsImportSynced}
use Rattle.script_sessions.proofs.OnDevice.{mount_found}
use Rattle.script_sessions.proofs.Relations.{of_shared}
use Rattle.script_sessions.specs.SharedPools.{LooksAt}
use Rattle.script_sessions.proofs.clients.an_import_keeps_the_crash_rule_and_the_moment.Goals as goal

pub returns-clause-rule : goal.returns-clause-rule
returns-clause-rule g c = λ device shared was is. (mount_found (of_shared _) (λ fault n old new. LooksAt old new) c.args.session.now c.run.new.self device was 2097152 2 c.run.result shared is c.run.ensures.done).1.mounts.opened.rule

pub returns-clause-moment : goal.returns-clause-moment
returns-clause-moment g c = λ device shared was is.
    let by = (mount_found (of_shared _) (λ fault n old new. LooksAt old new) c.args.session.now c.run.new.self device was 2097152 2 c.run.result shared is c.run.ensures.done).1 in
    let disk = ap (λ v. v.disk) by.mounts.first.seen ∙ by.mounts.shown.disk_is in
    (by.mounted, subst (λ d. IsImportSynced device.disk d 77 by.mounted) (sym disk) (subst (λ moment. IsImportSynced device.disk by.device.disk moment by.mounted) c.requires (by.imported.synced refl)))

pub returns-clause-cache : goal.returns-clause-cache
returns-clause-cache g c = λ device shared was is. (mount_found (of_shared _) (λ fault n old new. LooksAt old new) c.args.session.now c.run.new.self device was 2097152 2 c.run.result shared is c.run.ensures.done).1.mounts.shown.cache_is
