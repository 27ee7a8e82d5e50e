use Rattle.std.proofs.Common.{refl}
use Rattle.std.proofs.lemmas.Result.{IfOk-weaker}
use Rattle.base.specs.declared.version.Version.TheVariants.{Two}
use Rattle.base.specs.disk.Disk.{bytes_of}
use Rattle.intent_log_clients.proofs.ReadChains.{none_at_0}
use Rattle.intent_log_clients.proofs.chained.no_chain_begins_at_address_0.Goals as goal

pub returns : goal.returns
returns g c = λ keeps.
    IfOk-weaker c.chain.result _ _ (λ blocks is. none_at_0 (bytes_of (g.D.SectorDevice.disk c.args.device.now).now) c.args.frame.now (record { address = 0; number = 0; import_number = 1; version = Two }) blocks.items refl is) (c.chain.ensures.chain keeps)
