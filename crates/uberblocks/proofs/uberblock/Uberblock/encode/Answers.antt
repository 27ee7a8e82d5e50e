use Rattle.std.proofs.Common.{sym, subst, List, ℕ}
use Rattle.base.specs.formats.Uberblocks.{IsUberblock}
use Rattle.base.proofs.formats.Versions.{number_of-known}
use Rattle.uberblocks.specs.Slots.{IsWithinLimits, fields_of}
use Rattle.uberblocks.proofs.SlotWrites.{IsUberblock-slot_bytes, slot_bytes_made}
use Rattle.uberblocks.proofs.uberblock.Uberblock.encode.Goals as goal

pub returns-clause-bytes : goal.returns-clause-bytes
returns-clause-bytes c =
    slot_bytes_made (fields_of c.args.self.now) c.empty_slot-bytes.result c.write_fields.new.bytes c.check_of-check.result c.write_bytes.new.bytes
    c.write_fields.ensures.fit.check c.empty_slot-bytes.ensures c.write_fields.ensures.written c.check_of-check.ensures c.write_bytes.ensures

pub returns-clause-uberblock : goal.returns-clause-uberblock
returns-clause-uberblock c =
    let u = fields_of c.args.self.now in
    let limits : IsWithinLimits u = record {
      version_known = number_of-known c.args.self.now.version;
      no_lower_group = c.requires.no_lower_group;
      no_higher_group = c.requires.no_higher_group;
      no_higher_import = c.requires.no_higher_import;
      no_higher_log = c.requires.no_higher_log;
    } in
    subst (λ (bytes : List ℕ). IsUberblock bytes u) (sym (returns-clause-bytes c)) (IsUberblock-slot_bytes u c.write_fields.ensures.fit limits)
