use Rattle.std.proofs.Common.{sym, ◌∙◌}
use Rattle.inspections.proofs.Views.{no_damage, not_absent, objects_are, of_range, stands, tree_fits}
use Rattle.inspections.proofs.viewing.View.read.Goals as goal

pub read_range-requires-clause-fits : goal.read_range-requires-clause-fits
read_range-requires-clause-fits g c =
    let made = c.shown_tree.ensures in
    tree_fits c.args.self.now c.shown_tree.result made.frame made.tree made.changes _ c.requires.fits

pub read_range-requires-clause-length : goal.read_range-requires-clause-length
read_range-requires-clause-length g c =
    let made = c.shown_tree.ensures in
    rw (objects_are c.args.self.now c.shown_tree.result made.frame made.tree made.changes) (sym c.in-Some.is ∙ c.length.ensures)

pub returns-clause-exact : goal.returns-clause-exact
returns-clause-exact g c = λ keeps is.
    let made = c.shown_tree.ensures in
    rw (objects_are c.args.self.now c.shown_tree.result made.frame made.tree made.changes) at
    (c.read_range.ensures.exact (stands c.args.self.now c.shown_tree.result made.frame made.tree made.changes g.B.SectorDevice c.args.reader.now keeps is))

pub returns-clause-absent : goal.returns-clause-absent
returns-clause-absent g c = not_absent c.read_range.result _ c.read_range.ensures.refused

pub returns-clause-refused : goal.returns-clause-refused
returns-clause-refused g c = of_range c.read_range.result c.args.object c.args.range c.read_range.ensures.refused

pub returns-clause-sound : goal.returns-clause-sound
returns-clause-sound g c = λ keeps is.
    let made = c.shown_tree.ensures in
    no_damage c.read_range.result
    (c.read_range.ensures.sound (stands c.args.self.now c.shown_tree.result made.frame made.tree made.changes g.B.SectorDevice c.args.reader.now keeps is))
