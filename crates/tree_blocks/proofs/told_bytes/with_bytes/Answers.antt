use Rattle.std.proofs.Common.{ℕ, List, sym, subst}
use Rattle.tree_blocks.specs.Bytes.{AreBytes}
use Rattle.tree_blocks.proofs.Bytes.{all_bytes, bytes-put}
use Rattle.tree_blocks.proofs.told_bytes.with_bytes.Goals as goal

pub returns-clause-are : goal.returns-clause-are
returns-clause-are c = λ old.
    subst (λ (l : List ℕ). AreBytes l) (sym c.of.ensures) (bytes-put c.args.at c.args.content.now c.args.bytes.now.value (all_bytes c.args.content.now c.type_inv.content) old)
