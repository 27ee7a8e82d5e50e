use Rattle.std.proofs.Common.{◌≡◌, ◌≤◌, [], slice_index_or, vec_len, vec_capacity}
use Rattle.base.specs.formats.Fields.{no_pointer}
use Rattle.tree_plans.specs.Order.{Adds, addresses_where}
use Rattle.tree_plans.specs.Plans.{AreApart, FreesOnce, Goes, progress_of}
use Rattle.tree_plans.specs.Pointers.{entry_pointer_of, pointers_before}
use Rattle.tree_plans.specs.Walks.{AreDirectoriesPlanned, DirectoriesFree, IsOfDirectory, is_directory_dirty}
use Rattle.tree_plans.specs.Uses.{PointersUse}
use Rattle.tree_plans.proofs.walk.place_directories.Given as goal

abbrev pub invariant-loop-index : goal.invariant-loop-index
invariant-loop-index g l = record {
  geometry : l.planner.geometry ≡ l.fn.planner.geometry;
  count : vec_len l.directories ≡ l.index;
  room : 84 ≤ vec_capacity l.directories;
  kept : l.objects.entries ≡ [] → l.planner ≡ l.fn.planner;
  goes : Goes l.source.free.now.free (progress_of l.fn.planner) (progress_of l.planner);
  planned : AreDirectoriesPlanned (progress_of l.planner) (entry_pointer_of l.source.tree.now.entries.items) l.entries.entries (g.O.ObjectSource.objects l.after) l.objects.entries l.source.tree.now.directories.items l.index l.directories.items;
  frees : DirectoriesFree l.fn.planner.freed.items l.planner.freed.items l.objects.entries (g.O.ObjectSource.objects l.after) l.source.tree.now.directories.items l.index;
  once : AreApart (pointers_before l.source)
      → FreesOnce l.fn.planner.freed.items l.planner.freed.items (IsOfDirectory l.objects.entries (g.O.ObjectSource.objects l.after) l.source.tree.now.directories.items l.index);
  uses : PointersUse (progress_of l.fn.planner).blocks (progress_of l.planner).blocks (λ d. slice_index_or l.directories.items d no_pointer) l.index;
  adds : Adds (progress_of l.fn.planner).blocks (progress_of l.planner).blocks (addresses_where (is_directory_dirty l.objects.entries (g.O.ObjectSource.objects l.after)) (λ d. slice_index_or l.directories.items d no_pointer) l.index);
}
