use Rattle.base.proofs.field_laws.fields_read_back.Goals as goal
use Rattle.base.proofs.formats.FieldsRead.{number_at-put}

pub returns : goal.returns
returns c = number_at-put
