use Rattle.base.specs.formats.Fields.{number_bytes}
use Rattle.base.proofs.formats.FieldsRead.{put_mid-put}
use Rattle.base.proofs.fields.write_u64.Goals as goal

pub returns : goal.returns
unfolding number_bytes
returns c = put_mid-put c.args.at c.args.bytes.now c.write_u64.new.buf (number_bytes c.args.value) c.requires c.write_u64.ensures
