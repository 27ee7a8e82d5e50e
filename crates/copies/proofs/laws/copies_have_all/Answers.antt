use Rattle.copies.proofs.Copied.{copies_have_all}
use Rattle.copies.proofs.laws.copies_have_all.Goals as goal

pub returns : goal.returns
returns c = copies_have_all
