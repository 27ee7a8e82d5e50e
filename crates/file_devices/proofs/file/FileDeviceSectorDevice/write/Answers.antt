use Rattle.std.proofs.Common.{◌+◌, ap, length, refl}
use Rattle.base.specs.declared.error.PoolError.TheVariants.{Write}
use Rattle.file_devices.specs.FileState.{FileState, refused_as}
use Rattle.file_devices.proofs.ShownDisks.{fits_on_disk, shown_writes}
use Rattle.file_devices.proofs.file.FileDeviceSectorDevice.write.Goals as goal

pub invariant_of-self : goal.invariant_of-self
invariant_of-self g c = record {
  shown = λ keeps.
      let fits = fits_on_disk g.F.SectorFile.keeps_model _ c.args.self.now (c.args.at + length c.args.bytes.now) keeps c.self.view_is c.requires.within in
      shown_writes c.self.inside.sectors c.args.at c.args.bytes.now _ _ (refused_as Write c.write_whole.result) fits (c.write_whole.ensures keeps) (c.self.invariant.shown keeps);
  none = λ is. cc;
}

pub invariant_of-self-in_default : goal.invariant_of-self-in_default
invariant_of-self-in_default g c = record {
  shown = λ keeps.
      let fits = fits_on_disk g.F.SectorFile.keeps_model _ c.args.self.now (c.args.at + length c.args.bytes.now) keeps c.self.view_is c.requires.within in
      shown_writes c.self.inside.sectors c.args.at c.args.bytes.now _ _ (refused_as Write c.write_whole.result) fits (c.write_whole.ensures keeps) (c.self.invariant.shown keeps);
  none = c.self.invariant.none;
}

pub returns-in-Err-clause-last : goal.returns-in-Err-clause-last
returns-in-Err-clause-last g c = (c.in-Err.cause, refl)

pub returns-clause-last : goal.returns-clause-last
returns-clause-last g c = ap (λ (s : FileState). s.last) c.self.view_is
