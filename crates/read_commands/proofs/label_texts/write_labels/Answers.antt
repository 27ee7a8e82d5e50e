use Rattle.std.proofs.Common.{sym}
use Rattle.std.proofs.lemmas.Option.{get_or_from_slice_get}
use Rattle.std.proofs.lemmas.Result.{on_ok_weaker}
use Rattle.read_commands.proofs.label_texts.write_labels.Goals as goal

pub returns : goal.returns
returns g c = on_ok_weaker c.writeln.result (λ writes. record {
  zeroth = _;
  first = _;
  second = _;
  third = _;
  active = _;
  read = record { of_zeroth = record { config = λ f at. sym (get_or_from_slice_get _ 0 f _ at); uberblocks = c.ring_of.ensures }; of_first = record { config = λ f at. sym (get_or_from_slice_get _ 1 f _ at); uberblocks = c.ring_of-2.ensures }; of_second = record { config = λ f at. sym (get_or_from_slice_get _ 2 f _ at); uberblocks = c.ring_of-3.ensures }; of_third = record { config = λ f at. sym (get_or_from_slice_get _ 3 f _ at); uberblocks = c.ring_of-4.ensures }; of_active = c.active_of.ensures };
  writes = writes;
}) c.writeln.ensures.bytes
