use Rattle.std.proofs.Common.{◌≡◌, ◌<◌, ◌∙◌, ℕ, List, true, false, inl, length, ap, sym, arith}
use Rattle.std.specs.Prelude.{Option, option_map, unwrap_or}
use Rattle.base.specs.disk.Disk.{bytes_of}
use Rattle.tree_blocks.specs.Pointers.{ObjectPointers, is_long_entry}
use Rattle.group_plans.proofs.OldMaps.{long_there, own_is, short_strips, strip_told}
use Rattle.group_plans.proofs.ReadPlans.{IfOk_both}
use Rattle.group_plans.proofs.old_maps.read_indirects.Goals as goal

pub returns-then-is_long-clause-exact : goal.returns-then-is_long-clause-exact
returns-then-is_long-clause-exact g c = λ keeps held.
    let tree = c.args.tree.now in
    let n : ℕ = c.args.object.now.id.0 in
    let low : n < length tree.entries.items = omega (arith, c.requires.number, tree.all_objects, tree.entries.ok.0) in
    let long : is_long_entry c.index-entry.result.now ≡ true = sym c.is_long.ensures ∙ c.if-is_long.true in
    let of = long_there tree n c.index-entry.result.now low c.index-entry.ensures (bytes_of (g.B.SectorDevice.disk c.args.reader.now).now) c.args.frame.now held long in
    c.read_top_strips.ensures.exact keeps _ of.0 of.1

pub returns-then-is_long-clause-sound : goal.returns-then-is_long-clause-sound
returns-then-is_long-clause-sound g c = λ keeps held size.
    let tree = c.args.tree.now in
    let n : ℕ = c.args.object.now.id.0 in
    let low : n < length tree.entries.items = omega (arith, c.requires.number, tree.all_objects, tree.entries.ok.0) in
    let long : is_long_entry c.index-entry.result.now ≡ true = sym c.is_long.ensures ∙ c.if-is_long.true in
    let of = long_there tree n c.index-entry.result.now low c.index-entry.ensures (bytes_of (g.B.SectorDevice.disk c.args.reader.now).now) c.args.frame.now held long in
    c.read_top_strips.ensures.sound keeps _ of.0 of.1 (sym (size ∙ ap (λ (o : Option (List ℕ)). unwrap_or (option_map length o) 0) of.2))

pub returns-clause-strips : goal.returns-clause-strips
returns-clause-strips g c =
    let tree = c.args.tree.now in
    let n : ℕ = c.args.object.now.id.0 in
    let low : n < length tree.entries.items = omega (arith, c.requires.number, tree.all_objects, tree.entries.ok.0) in
    let short : is_long_entry c.index-entry.result.now ≡ false = sym c.is_long.ensures ∙ c.if-is_long.false in
    IfOk_both c.one_strip.result (λ l first others j below. inl (
    short_strips c.index-entry.result.now l.items short first others j
    ∙ sym (ap (λ (o : ObjectPointers). o.strip j) (own_is tree n c.index-entry.result.now low c.index-entry.ensures))
    )) c.one_strip.ensures.first c.one_strip.ensures.others

pub returns-clause-exact : goal.returns-clause-exact
returns-clause-exact g c = λ keeps held.
    let tree = c.args.tree.now in
    let n : ℕ = c.args.object.now.id.0 in
    let low : n < length tree.entries.items = omega (arith, c.requires.number, tree.all_objects, tree.entries.ok.0) in
    let short : is_long_entry c.index-entry.result.now ≡ false = sym c.is_long.ensures ∙ c.if-is_long.false in
    IfOk_both c.one_strip.result (λ l first others j below.
    short_strips c.index-entry.result.now l.items short first others j
    ∙ sym (ap (λ (o : ObjectPointers). o.strip j) (own_is tree n c.index-entry.result.now low c.index-entry.ensures)) ∙ sym (strip_told tree n j c.requires.number))
    c.one_strip.ensures.first c.one_strip.ensures.others
