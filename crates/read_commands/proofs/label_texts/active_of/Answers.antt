use Rattle.read_commands.specs.ReadLabels.{arrays_of}
use Rattle.read_commands.proofs.ReadLabels.{lowest_label}
use Rattle.read_commands.proofs.label_texts.active_of.Goals as goal

pub returns-in-Some-label_of : goal.returns-in-Some-label_of
returns-in-Some-label_of c =
    let (u, a, same) = c.in-Some.ensures.active in
    let l = c.in-Some-label_of in
    let (b, here) = lowest_label (arrays_of c.args.labels.now) u c.in-Some.group l.label a same l.ensures.label l.ensures.found l.ensures.lowest in
    (u, b, same, here)

pub returns-in-None : goal.returns-in-None
returns-in-None c =
    let (u, a, same) = c.in-Some.ensures.active in
    c.in-None.ensures.none a.label a.in_range (u, a.stands, same)
