use Rattle.std.proofs.Common.{sym, subst, List, ℕ}
use Rattle.mapped_labels.specs.MappedUberblocks.{IsMappedUberblock}
use Rattle.mapped_labels.specs.MappedSlots.{AreWithinLimits, MappedFit, fields_of}
use Rattle.mapped_labels.proofs.MappedWrites.{IsMappedUberblock-slot_bytes, slot_bytes_made}
use Rattle.mapped_labels.proofs.uberblock.MappedUberblock.encode.Goals as goal

pub returns-clause-bytes : goal.returns-clause-bytes
returns-clause-bytes c =
    let fit : MappedFit (fields_of c.args.self.now) = record { state = c.write_fields.ensures.fit; map = c.write_map.ensures.fit } in
    slot_bytes_made (fields_of c.args.self.now) c.empty_slot-bytes.result c.write_fields.new.bytes c.write_map.new.bytes c.check_of-check.result c.write_bytes.new.bytes
    fit c.empty_slot-bytes.ensures c.write_fields.ensures.written c.write_map.ensures.written c.check_of-check.ensures c.write_bytes.ensures

pub returns-clause-uberblock : goal.returns-clause-uberblock
returns-clause-uberblock c =
    let u = fields_of c.args.self.now in
    let fit : MappedFit u = record { state = c.write_fields.ensures.fit; map = c.write_map.ensures.fit } in
    let limits : AreWithinLimits u.state = record {
      no_lower_group = c.requires.no_lower_group;
      no_higher_group = c.requires.no_higher_group;
      no_higher_import = c.requires.no_higher_import;
      no_higher_log = c.requires.no_higher_log;
    } in
    subst (λ (bytes : List ℕ). IsMappedUberblock bytes u) (sym (returns-clause-bytes c)) (IsMappedUberblock-slot_bytes u fit c.requires.rules limits)
