use Rattle.base.proofs.field_laws.fields_stay.Goals as goal
use Rattle.base.proofs.formats.FieldsRead.{number_at-put_apart}

pub returns : goal.returns
returns c = number_at-put_apart
