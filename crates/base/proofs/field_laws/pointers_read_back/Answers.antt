use Rattle.base.proofs.field_laws.pointers_read_back.Goals as goal
use Rattle.base.proofs.formats.FieldsRead.{pointers_read_back}

pub returns : goal.returns
returns c = pointers_read_back
