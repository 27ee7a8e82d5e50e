use Rattle.std.proofs.Common.{◌≡◌, ◌∙◌, ℕ, List, Option, None, inr, refl, slice_index_or, subst, sym}
use Rattle.std.proofs.lemmas.Bool.{false≢true}
use Rattle.std.proofs.lemmas.List.{get_or_default}
use Rattle.std.proofs.lemmas.Result.{err_from_is_err_and}
use Rattle.base.specs.formats.Fields.{no_pointer}
use Rattle.std.specs.Global.{Vec}
use Rattle.base.specs.declared.pointer.Pointer.{Pointer}
use Rattle.base.specs.disk.Disk.{Disk, bytes_of}
use Rattle.base.specs.tree.Places.{strip_number}
use Rattle.group_plans.specs.OldMaps.{AreRecordsAt, HoldsStripsOf, IsStripRead}
use Rattle.group_plans.proofs.OldMaps.{strip_read_more, strips_more}
use Rattle.group_plans.proofs.old_maps.read_strips.Goals as goal

pub loop-strip-preserved : goal.loop-strip-preserved
loop-strip-preserved g c =
    let inv = c.loop-strip.invariant in
    let ens = c.in_ok-read.ensures in
    let put = c.in_ok-put_strip.ensures in
    let blocks : ℕ = c.args.frame.now.blocks in
    let object = c.args.object.now in
    let strip : ℕ = c.loop-strip.strip in
    let indirects : List Pointer = c.args.indirects.now in
    let old : List (ℕ × Vec Pointer) = c.loop-strip.strips.entries in
    let new : List (ℕ × Vec Pointer) = c.put_strip.new.strips.entries in
    let is : slice_index_or indirects strip no_pointer ≡ slice_index_or indirects strip _ = get_or_default indirects strip no_pointer _ (rw c.requires.count c.loop-strip-test.true) in
    record {
      size = ens.reads.size ∙ inv.size;
      disk = λ keeps. ens.reads.disk keeps ∙ inv.disk keeps;
      count = ens.reads.count ∙ inv.count;
      read = strip_read_more blocks object strip indirects old new c.in_ok-read.read put.here put.others inv.read (subst (λ (p : Pointer). IsStripRead blocks object strip p c.in_ok-read.read) (sym is) ens.read);
      exact = λ keeps pointers holds.
          strips_more blocks object strip indirects old new c.in_ok-read.read put.here put.others inv.read (λ (j : ℕ) (o : Option (Vec Pointer)). AreRecordsAt pointers (strip_number object.id.0 j) o)
          (ens.exact keeps pointers indirects (subst (λ (d : Disk). HoldsStripsOf (bytes_of d.now) c.args.frame.now object indirects pointers) (sym (inv.disk keeps)) holds) is)
          (inv.exact keeps pointers holds);
    }

-- a strip without an indirect block has no records
pub loop-strip-preserved-then-is_none : goal.loop-strip-preserved-then-is_none
loop-strip-preserved-then-is_none g c =
    let inv = c.loop-strip.invariant in
    let blocks : ℕ = c.args.frame.now.blocks in
    let object = c.args.object.now in
    let strip : ℕ = c.loop-strip.strip in
    let indirects : List Pointer = c.args.indirects.now in
    let old : List (ℕ × Vec Pointer) = c.loop-strip.strips.entries in
    let is : slice_index_or indirects strip no_pointer ≡ slice_index_or indirects strip _ = get_or_default indirects strip no_pointer _ (rw c.requires.count c.loop-strip-test.true) in
    let none : slice_index_or indirects strip no_pointer ≡ no_pointer = is ∙ c.is_none.ensures.0 c.if-is_none.true in
    let unread : IsStripRead blocks object strip (slice_index_or indirects strip no_pointer) None = record { there = λ replaced. inr none; only = λ some. absurd (false≢true some); records = tt } in
    record {
      size = inv.size;
      disk = inv.disk;
      count = inv.count;
      read = strip_read_more blocks object strip indirects old old None (λ absent. absent) (λ j other. refl) inv.read unread;
      exact = λ keeps pointers holds.
          strips_more blocks object strip indirects old old None (λ absent. absent) (λ j other. refl) inv.read (λ (j : ℕ) (o : Option (Vec Pointer)). AreRecordsAt pointers (strip_number object.id.0 j) o) tt
          (inv.exact keeps pointers holds);
    }

pub returns-in_err-read-clause-sound : goal.returns-in_err-read-clause-sound
returns-in_err-read-clause-sound g c = λ keeps pointers holds.
    let inv = c.loop-strip.invariant in
    let indirects : List Pointer = c.args.indirects.now in
    let strip : ℕ = c.loop-strip.strip in
    let is : slice_index_or indirects strip no_pointer ≡ slice_index_or indirects strip _ = get_or_default indirects strip no_pointer _ (rw c.requires.count c.loop-strip-test.true) in
    let p = err_from_is_err_and c.from_residual.result c.from_residual.ensures.1 in
    rw (p.1, p.2) (c.in_err-read.ensures.sound keeps pointers indirects (subst (λ (d : Disk). HoldsStripsOf (bytes_of d.now) c.args.frame.now c.args.object.now indirects pointers) (sym (inv.disk keeps)) holds) is)
