use Rattle.std.proofs.Common.{ap, ◌∙◌}
use Rattle.std.specs.Option.{option_map}
use Rattle.file_devices.specs.declared.refused_call.RefusedCall.{RefusedCall}
use Rattle.file_devices.proofs.clients.a_refused_write_is_the_last_error_with_its_place.Goals as goal

pub returns-in-Err : goal.returns-in-Err
returns-in-Err g c = c.last_call.ensures ∙ ap (option_map (λ (r : RefusedCall). r.call)) c.in-Err.ensures.last.1
