use Rattle.std.proofs.Common.{rules, false, get_or, ◌∙◌, ap, get_or-set_same}
use Rattle.space.proofs.SetFlags.{set_within}
use Rattle.space.proofs.clients.one_counted_flag_alone_is_cleared.Goals as goal

pub prove-unreachable-requires : goal.prove-unreachable-requires
prove-unreachable-requires c =
    let low = set_within c.args.flags.now 69 c.requires.set in
    let cleared = ap (λ l. get_or l 69 false) c.clear.ensures ∙ get_or-set_same c.args.flags.now 69 false false low in
    let beside = c.requires.beside in
    search rules
