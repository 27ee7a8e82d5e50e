use Rattle.std.proofs.Common.{◌≡◌, ◌+◌, ◌*◌, ◌∙◌, ℕ, ap, inl, refl, sym, subst, arith}
use Rattle.std.proofs.lemmas.Result.{err_from_is_err_and}
use Rattle.base.specs.disk.Disk.{Disk, bytes_of}
use Rattle.trees.specs.EntryLists.{AreListed, AreRising}
use Rattle.trees.proofs.EntryLists.{directory_listed, listed_absent, none_listed_yet, rising_more}
use Rattle.trees.proofs.entry_lists.list_directories.Goals as goal

pub loop-index-init : goal.loop-index-init
loop-index-init g c = record {
  size = refl;
  disk = λ keeps. refl;
  count = refl;
  rising = rw c.requires.none (omega arith);
  listed = λ keeps image top shows named. none_listed_yet image c.args.frame.now top c.args.list.now.items c.requires.none;
}

pub loop-index-preserved-then-is_none : goal.loop-index-preserved-then-is_none
loop-index-preserved-then-is_none g c =
    let i = c.loop-index.invariant in
    let d : ℕ = c.loop-index.index in
    let list = c.loop-index.list.items in
    record {
      size = i.size;
      disk = i.disk;
      count = i.count;
      rising = rising_more 0 (63 * d) (63 * (d + 1)) list i.rising (omega arith);
      listed = λ keeps image top shows named.
          let before = i.listed keeps image top shows named in
          let none = named d c.loop-index-test.true ∙ sym c.pointer_in-pointer.ensures ∙ c.if-is_none.ensures.0 refl in
          directory_listed image c.args.frame.now top d list list before (inl none) (before.list_is ∙ listed_absent image top d none);
    }

pub loop-index-preserved : goal.loop-index-preserved
loop-index-preserved g c =
    let i = c.loop-index.invariant in
    let d : ℕ = c.loop-index.index in
    let call = c.in_ok-list_directory.ensures in
    record {
      size = call.reads.size ∙ i.size;
      disk = λ keeps. call.reads.disk keeps ∙ i.disk keeps;
      count = call.reads.count ∙ i.count;
      rising = call.form;
      listed = λ keeps image top shows named.
          let before = i.listed keeps image top shows named in
          let same = ap (λ (disk : Disk). bytes_of disk.now) (i.disk keeps) ∙ shows in
          let at = named d c.loop-index-test.true ∙ sym c.pointer_in-pointer.ensures in
          directory_listed image c.args.frame.now top d c.loop-index.list.items c.list_directory.new.list.items before (call.sound keeps image top same at)
          (call.listed keeps image top same at before.list_is);
    }

pub returns-clause-form : goal.returns-clause-form
returns-clause-form g c =
    let end : c.loop-index.index ≡ 84 = omega (arith, c.loop-index.auto.index-end, c.loop-index-test.false) in
    subst (λ (k : ℕ). AreRising 0 c.loop-index.list.items (63 * k)) end c.loop-index.invariant.rising

pub returns-clause-listed : goal.returns-clause-listed
returns-clause-listed g c = λ keeps image top shows named.
    let end : c.loop-index.index ≡ 84 = omega (arith, c.loop-index.auto.index-end, c.loop-index-test.false) in
    subst (λ (k : ℕ). AreListed image c.args.frame.now top k c.loop-index.list.items) end (c.loop-index.invariant.listed keeps image top shows named)

pub returns-in_err-list_directory-clause-damage : goal.returns-in_err-list_directory-clause-damage
returns-in_err-list_directory-clause-damage g c = λ keeps image top shows named.
    let p = err_from_is_err_and c.from_residual.result c.from_residual.ensures.1 in
    let i = c.loop-index.invariant in
    let d : ℕ = c.loop-index.index in
    let same = ap (λ (disk : Disk). bytes_of disk.now) (i.disk keeps) ∙ shows in
    let at = named d c.loop-index-test.true ∙ sym c.pointer_in-pointer.ensures in
    rw (p.1, p.2) (
      d,
      c.loop-index-test.true,
      c.in_err-list_directory.ensures.damage keeps image top same at (λ none. let no = c.if-is_none.ensures.1 none in cc),
      (i.listed keeps image top shows named).sound,
    )
