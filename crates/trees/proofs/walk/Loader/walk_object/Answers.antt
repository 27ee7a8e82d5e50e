use Rattle.std.proofs.Common.{◌≡◌, ◌≢◌, ◌<◌, ◌≤◌, ◌∙◌, ℕ, List, Some, length, replicate, refl, sym, subst, ap, arith}
use Rattle.std.proofs.lemmas.List.{length-replicate}
use Rattle.std.proofs.lemmas.Result.{on_ok_weaker}
use Rattle.base.specs.declared.pointer.Pointer.{Pointer}
use Rattle.base.specs.formats.Limits.{max_length, one_level_length}
use Rattle.base.specs.tree.Places.{levels_in, record_number}
use Rattle.base.proofs.tree.Strips.{first-low, one_level-max}
use Rattle.tree_blocks.specs.declared.tree.ObjectEntry.{ObjectEntry}
use Rattle.tree_blocks.specs.Pointers.{ObjectPointers, told_record}
use Rattle.tree_blocks.proofs.EntryForms.{long_entry, short_entry}
use Rattle.tree_blocks.proofs.ToldStrips.{entry-long, entry-short, first-told, long-by_length, short-by_length}
use Rattle.trees.specs.FreeBlocks.{ObjectNames, StripNames, TakesNamed}
use Rattle.tree_blocks.specs.Bytes.{AreBytes}
use Rattle.trees.specs.Loading.{IsLoadedObject, IsLoadedStrip}
use Rattle.trees.specs.Noted.{kept_entry}
use Rattle.trees.proofs.LoadedObjects.{long_loaded}
use Rattle.trees.proofs.LoadedObjects.{short_loaded}
use Rattle.trees.proofs.LoadedRecords.{bytes-zeros, zeros-records}
use Rattle.trees.proofs.NotedWalks.{if_ok_all, if_ok_parts, if_ok_whole, short_found}
use Rattle.trees.proofs.TakenStrips.{first_named}
use Rattle.trees.proofs.WalkParts.{first_linked}
use Rattle.trees.proofs.walk.Loader.walk_object.Goals as goal

-- zeros have this length
long_zeros : (size : ℕ) (bytes : List ℕ) → bytes ≡ replicate size 0 → length bytes ≡ size
long_zeros size bytes zeros = ap (λ (l : List ℕ). length l) zeros ∙ length-replicate size 0

pub walk_top-requires-clause-size : goal.walk_top-requires-clause-size
walk_top-requires-clause-size g c = long_zeros c.args.entry.now.length c.args.object.now.bytes.value c.requires.zeros

pub walk_strip-requires-clause-size : goal.walk_strip-requires-clause-size
walk_strip-requires-clause-size g c = long_zeros c.args.entry.now.length c.args.object.now.bytes.value c.requires.zeros

pub walk_strip-requires-clause-in_range : goal.walk_strip-requires-clause-in_range
walk_strip-requires-clause-in_range g c = first-low c.args.number c.requires.in_range

pub walk_strip-requires-clause-zeros : goal.walk_strip-requires-clause-zeros
walk_strip-requires-clause-zeros g c = λ k low. zeros-records c.args.entry.now.length c.args.object.now.bytes.value c.requires.zeros (record_number c.args.number k)

pub returns-then-entry-eq2-clause-taken : goal.returns-then-entry-eq2-clause-taken
returns-then-entry-eq2-clause-taken g c =
    let entry = c.args.entry.now in
    let bound = long_entry c.args.self.now.frame.now entry c.requires.entry c.if-entry-eq2.true in
    let kept : ObjectEntry = kept_entry entry c.walk_top.new.object in
    if_ok_whole c.walk_top.result
    (subst (λ (p : ObjectPointers). TakesNamed (λ k. ObjectNames k p) c.args.free.now c.walk_top.new.free) (sym (entry-long kept (long-by_length kept entry.length refl bound.0))))
    c.walk_top.ensures.taken

pub returns-then-entry-eq2-clause-loaded : goal.returns-then-entry-eq2-clause-loaded
returns-then-entry-eq2-clause-loaded g c = λ image shows.
    let keeps_model = g.D.SectorDevice.keeps_model in
    let frame = c.args.self.now.frame.now in
    let entry = c.args.entry.now in
    let bound = long_entry frame entry c.requires.entry c.if-entry-eq2.true in
    let call = c.walk_top.ensures in
    let bytes = c.walk_top.new.object.bytes.value in
    let kept : ObjectEntry = kept_entry entry c.walk_top.new.object in
    if_ok_parts c.walk_top.result
    (λ size are all. subst (λ (p : ObjectPointers). IsLoadedObject keeps_model image frame c.args.number (Some bytes) p) (sym (entry-long kept (long-by_length kept entry.length refl bound.0)))
    (long_loaded keeps_model image frame c.args.number entry.pointer c.walk_top.new.object.strips.value bytes (subst (λ (s : ℕ). one_level_length < s) (sym size) bound.0)
    (subst (λ (s : ℕ). s ≤ max_length) (sym size) bound.1, are) all))
    call.size call.bytes (call.loaded image shows)

pub returns-then-entry-eq2-clause-found : goal.returns-then-entry-eq2-clause-found
returns-then-entry-eq2-clause-found g c = λ keeps image top shows o.
    c.walk_top.ensures.found keeps image top shows (record { levels = o.levels ∙ c.if-entry-eq2.true; at = o.at; size_is = o.size_is })

pub returns-clause-size : goal.returns-clause-size
returns-clause-size g c =
    on_ok_weaker c.walk_strip.result (λ others. others.size ∙ long_zeros c.args.entry.now.length c.args.object.now.bytes.value c.requires.zeros) c.walk_strip.ensures.others

pub returns-clause-taken : goal.returns-clause-taken
returns-clause-taken g c =
    let entry = c.args.entry.now in
    let short = short_entry c.args.self.now.frame.now entry c.requires.entry c.if-entry-eq2.false in
    let strips = c.walk_strip.new.object.strips.value in
    let kept : ObjectEntry = kept_entry entry c.walk_strip.new.object in
    if_ok_all c.walk_strip.result
    (λ others told taken. subst (λ (p : ObjectPointers). TakesNamed (λ k. ObjectNames k p) c.args.free.now c.walk_strip.new.free) (sym (entry-short kept (short-by_length kept entry.length refl short)))
    (first_named entry.pointer strips c.args.free.now c.walk_strip.new.free
    (subst (λ (s : Pointer × List Pointer). TakesNamed (λ k. StripNames k entry.pointer (told_record s)) c.args.free.now c.walk_strip.new.free)
    (first-told c.args.number entry.pointer c.args.object.now.strips.value strips c.requires.in_range told) taken)))
    c.walk_strip.ensures.others c.walk_strip.ensures.told c.walk_strip.ensures.taken

pub returns-clause-loaded : goal.returns-clause-loaded
returns-clause-loaded g c = λ image shows.
    let keeps_model = g.D.SectorDevice.keeps_model in
    let frame = c.args.self.now.frame.now in
    let entry = c.args.entry.now in
    let short = short_entry frame entry c.requires.entry c.if-entry-eq2.false in
    let call = c.walk_strip.ensures in
    let strips = c.walk_strip.new.object.strips.value in
    let bytes = c.walk_strip.new.object.bytes.value in
    let kept : ObjectEntry = kept_entry entry c.walk_strip.new.object in
    let zeros = long_zeros entry.length c.args.object.now.bytes.value c.requires.zeros in
    let are_zeros = subst (λ (l : List ℕ). AreBytes l) (sym c.requires.zeros) (bytes-zeros entry.length) in
    if_ok_all c.walk_strip.result
    (λ others told all.
    let low : length bytes ≤ one_level_length = subst (λ (s : ℕ). s ≤ one_level_length) (sym (others.size ∙ zeros)) short in
    subst (λ (p : ObjectPointers). IsLoadedObject keeps_model image frame c.args.number (Some bytes) p) (sym (entry-short kept (short-by_length kept entry.length refl short)))
    (short_loaded keeps_model image frame c.args.number entry.pointer strips bytes c.requires.in_range low
    (subst (λ (s : Pointer × List Pointer). IsLoadedStrip keeps_model image frame c.args.number entry.pointer (told_record s) bytes)
    (first-told c.args.number entry.pointer c.args.object.now.strips.value strips c.requires.in_range told) all)
    (omega (arith, low, one_level-max), others.bytes are_zeros)))
    call.others call.told (call.loaded image shows)

pub returns-clause-found : goal.returns-clause-found
returns-clause-found g c = λ keeps image top shows o.
    let one : levels_in image top c.args.number ≢ 2 = λ two. c.if-entry-eq2.false (sym o.levels ∙ two) in
    short_found image c.args.self.now.frame.now top c.args.number c.args.damages.now c.walk_strip.new.damages c.walk_strip.result c.requires.in_range one
    (c.walk_strip.ensures.found keeps image top shows (first_linked image top c.args.number c.args.entry.now c.requires.in_range c.if-entry-eq2.false o))
