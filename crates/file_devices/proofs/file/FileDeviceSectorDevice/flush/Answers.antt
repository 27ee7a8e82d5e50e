use Rattle.std.proofs.Common.{ap, refl}
use Rattle.base.specs.declared.error.PoolError.TheVariants.{Flush}
use Rattle.file_devices.specs.FileState.{FileState, refused_as}
use Rattle.file_devices.proofs.ShownDisks.{shown_flushes}
use Rattle.file_devices.proofs.file.FileDeviceSectorDevice.flush.Goals as goal

pub invariant_of-self : goal.invariant_of-self
invariant_of-self g c = record {
  shown = λ keeps. shown_flushes c.self.inside.sectors _ _ (refused_as Flush c.sync_whole.result) (c.sync_whole.ensures keeps) (c.self.invariant.shown keeps);
  none = λ is. cc;
}

pub invariant_of-self-in_default : goal.invariant_of-self-in_default
invariant_of-self-in_default g c = record {
  shown = λ keeps. shown_flushes c.self.inside.sectors _ _ (refused_as Flush c.sync_whole.result) (c.sync_whole.ensures keeps) (c.self.invariant.shown keeps);
  none = c.self.invariant.none;
}

pub returns-in-Err-clause-last : goal.returns-in-Err-clause-last
returns-in-Err-clause-last g c = (c.in-Err.cause, refl)

pub returns-clause-last : goal.returns-clause-last
returns-clause-last g c = ap (λ (s : FileState). s.last) c.self.view_is
