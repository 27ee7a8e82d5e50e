-- What callers take from a get by name, from a list of names, and from a table.
use Rattle.std.proofs.Common.{◌≡◌, [], ◌∷◌, ℕ, List, Option, None, Some, ap, arith, codes, inl, length, map, refl, subst, sym, ◌∙◌}
use Rattle.std.specs.FinMap as finite
use Rattle.std.specs.Fmt.{digits}
use Rattle.std.specs.Io.KnownBytes.{Appends}
use Rattle.base.specs.declared.names.ObjectId.{ObjectId}
use Rattle.base.specs.history.Contents.{Contents}
use Rattle.base.specs.tree.Mount.{MountsTo}
use Rattle.base.proofs.crash.OneMount.{mounts_agree}
use Rattle.command_arguments.specs.declared.reports.Scope.{Scope}
use Rattle.object_names.specs.NameTables.{IsNameTable, IsNamed, has_object}
use Rattle.object_names.proofs.NamesFound.{one_number}
use Rattle.read_commands.specs.Reads.{WritesMounted}
use Rattle.read_commands.proofs.MountedBytes.{appended, two_bytes_written}
use Rattle.read_commands.specs.Scopes.{IsAssured}
use Rattle.read_commands.proofs.ScopedReads.{as_mounted, assured, objects_of}
use Rattle.tree_blocks.specs.Sources.{object_bytes}
use Rattle.read_commands.specs.NamedLines.{WritesNames, lines_by, list_lines, name_shown}
use Rattle.read_commands.specs.NamedObjects.{HasName, IsMountedName, WritesNamed}
use Rattle.read_commands.specs.NamedTables.{IsTableIn, IsTableOf}
use Rattle.read_commands.proofs.LinesWritten.{shown_named}

-- an image mounts one contents
same_contents : (image : List ℕ) (one other : Contents) → MountsTo image one → MountsTo image other → one ≡ other
same_contents image one other (w, pieces, found) (u, chain, mounts) = (mounts_agree image w u pieces chain one other found mounts).2

-- so a name that it mounts is one in any contents that it mounts
pub name_there : (image name : List ℕ) (n : ℕ) (contents : Contents) → MountsTo image contents → IsMountedName image name n → HasName contents name n
name_there image name n contents mounts (other, found, is) = subst (λ (c : Contents). HasName c name n) (same_contents image other contents found mounts) is

-- two bytes of the object with a name, where there were no bytes before
pub two_bytes_named : (scope : Scope) (keeps : Type 0) (image name : List ℕ) (old new : Option (List ℕ)) → keeps → (contents : Contents) → MountsTo image contents → HasName contents name 7
    → finite.get contents.objects 7 ≡ Some (10 ∷ 11 ∷ 12 ∷ 13 ∷ []) → old ≡ Some [] → WritesNamed scope keeps image name (record { low = 1; high = 3 }) old new → new ≡ Some (11 ∷ 12 ∷ [])
two_bytes_named scope keeps image name old new kept contents mounts (table, named) there empty w =
    let (same_table, also) = name_there image name w.object contents mounts (w.mounted (assured scope keeps image kept (contents, mounts))) in
    let seven : w.object ≡ 7 = one_number (object_bytes contents.objects 0) w.object 7 name table.distinct also named in
    let writes = as_mounted scope keeps image w.object (record { low = 1; high = 3 }) old new kept (contents, mounts) w.writes in
    two_bytes_written image old new contents mounts there empty (subst (λ (k : ℕ). WritesMounted image k (record { low = 1; high = 3 }) old new) seven writes)

empty_table : IsNameTable []
empty_table = record {
  whole = (refl, omega arith);
  header = inl refl;
  slots = λ n low there. absurd (omega (arith, there));
  distinct = λ m n low below there same. absurd (omega (arith, there));
}

-- the table of an object 0 without bytes
pub none_named : (image : List ℕ) (contents : Contents) (table : Option (List ℕ)) → IsTableIn image table → MountsTo image contents → object_bytes contents.objects 0 ≡ [] → table ≡ Some []
none_named image contents table (other, found, is) mounts none = by table (subst (λ (bytes : List ℕ). IsTableOf bytes table) (ap (λ (c : Contents). object_bytes c.objects 0) (same_contents image other contents found mounts) ∙ none) is)
  where
    by : (t : Option (List ℕ)) → IsTableOf [] t → t ≡ Some []
    by (Some bytes) (same, is_table) = ap Some same
    by None not = absurd (not empty_table)

-- the lines of an object 0 of 512 bytes, and of an object 1 of 2 bytes
two_lines : (table : Option (List ℕ)) (first : ℕ) → first ≡ 512 → name_shown table 0 ≡ None → name_shown table 1 ≡ Some (codes "a")
    → lines_by table ((record { 0 = 0 }, first) ∷ (record { 0 = 1 }, 2) ∷ []) ≡ codes "0 512\n1 2 a\n"
unfolding digits
two_lines table first is none named = rw (is, none, named) refl

none_first : (table : Option (List ℕ)) → name_shown table 0 ≡ None
none_first None = refl
none_first (Some table) = refl

-- the names that are shown by the table of the image are those that it mounts
named_first : (image name : List ℕ) (n : ℕ) (contents : Contents) (table : Option (List ℕ)) → MountsTo image contents → HasName contents name n → IsTableIn image table → name_shown table n ≡ Some name
named_first image name n contents table mounts (is_table, named) (other, found, is) = by table (subst (λ (c : Contents). IsTableOf (object_bytes c.objects 0) table) (same_contents image other contents found mounts) is)
  where
    by : (t : Option (List ℕ)) → IsTableOf (object_bytes contents.objects 0) t → name_shown t n ≡ Some name
    by (Some bytes) (same, also) = shown_named bytes name n (subst (λ (l : List ℕ). IsNamed l n name) (sym same) named)
    by None not = absurd (not is_table)

module _ (scope : Scope) (keeps : Type 0) (image : List ℕ) (before after : Option (List ℕ)) (kept : keeps) (contents : Contents) (mounts : MountsTo image contents) (empty : before ≡ Some []) (w : WritesNames scope keeps image before after) where
  all : IsAssured scope keeps image
  all = assured scope keeps image kept (contents, mounts)

  abbrev row : ℕ × List ℕ → ObjectId × ℕ
  row e = (record { 0 = e.0 }, length e.1)

  all_written : after ≡ Some (list_lines w.list)
  all_written = appended after (list_lines w.list) (subst (λ (b : Option (List ℕ)). Appends b after (list_lines w.list)) empty w.writes)

  objects_are : (rows : List (ℕ × List ℕ)) → finite.entries contents.objects ≡ rows → w.list.objects.items ≡ map row rows
  objects_are rows are = objects_of image w.list.objects.items (w.listed.mounted all) contents mounts ∙ ap (map row) are

  pub two_named : finite.entries contents.objects ≡ (0, object_bytes contents.objects 0) ∷ (1, 10 ∷ 11 ∷ []) ∷ [] → length (object_bytes contents.objects 0) ≡ 512
      → HasName contents (codes "a") 1 → after ≡ Some (codes "0 512\n1 2 a\n")
  two_named are size named =
      let items = objects_are ((0, object_bytes contents.objects 0) ∷ (1, 10 ∷ 11 ∷ []) ∷ []) are in
      let table = w.listed.named (ap (λ (l : List (ObjectId × ℕ)). has_object l 0) items) all in
      all_written ∙ ap (λ (l : List (ObjectId × ℕ)). Some (lines_by w.list.table l)) items
      ∙ ap Some (two_lines w.list.table (length (object_bytes contents.objects 0)) size (none_first w.list.table) (named_first image (codes "a") 1 contents w.list.table mounts named table))

  seven_line : lines_by None ((record { 0 = 7 }, 2) ∷ []) ≡ codes "7 2\n"
  unfolding digits
  seven_line = refl

  pub one_unnamed : finite.entries contents.objects ≡ (7, 10 ∷ 11 ∷ []) ∷ [] → after ≡ Some (codes "7 2\n")
  one_unnamed are =
      let items = objects_are ((7, 10 ∷ 11 ∷ []) ∷ []) are in
      let table = w.listed.unnamed (ap (λ (l : List (ObjectId × ℕ)). has_object l 0) items) in
      all_written ∙ ap (λ (l : List (ObjectId × ℕ)). Some (lines_by w.list.table l)) items ∙ ap (λ (t : Option (List ℕ)). Some (lines_by t ((record { 0 = 7 }, 2) ∷ []))) table ∙ ap Some seven_line
