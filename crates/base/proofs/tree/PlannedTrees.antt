-- What becomes of a tree told by places, in another image: it stands where its blocks do, and so does what a sync makes
-- of it.
use Rattle.std.proofs.Common.{◌≡◌, ℕ, zero, ◌+◌, ◌-◌, ◌*◌, ◌<◌, ◌≤◌, List, [], ◌++◌, length, get_or, drop, replicate, refl, ap, sym, subst, ◌∙◌, arith, ◌⊎◌, inl, inr, length-take, length-drop}
use Rattle.std.specs.Prelude.{Option, Some, None, IfSome, slice_get}
use Rattle.std.proofs.lemmas.Bool.{cases_lt}
use Rattle.std.proofs.lemmas.List.{ext_get_or, length-replicate, get_or_append_left, get_or-append_right, nil_from_length}
use Rattle.std.specs.Ordering.{nat_cmp}
use Rattle.std.specs.FinMap as map
use Rattle.std.specs.FinMap.{FinMap}
use Rattle.base.specs.declared.pointer.Pointer.{Pointer}
use Rattle.base.specs.formats.Limits.{object_count, indirect_count, one_level_length, max_length, record_size, pointer_count, entry_count}
use Rattle.base.specs.formats.Fields.{part, entry_in, no_pointer}
use Rattle.base.specs.formats.Geometry.{block_size, IsBlockAddress}
use Rattle.base.specs.formats.Blocks.{Frame, IsBlock, Opens}
use Rattle.base.specs.tree.Places.{Place, IsPlace, kind_of, number_of_place, object_of_indirect, strip_number, record_number, record_start}
use Rattle.base.specs.tree.Places.Place.{Root, Directory, Top, Indirect, Data}
use Rattle.base.specs.tree.Tree.{OpensAt, IsRecord, record_bytes}
use Rattle.base.specs.kept.PlacedTrees.{IsOneLevelEntry, IsTwoLevelEntry, IsEntryFor, IsShort, IsLong, NeedsNoTop, HasNonePast, padded_record, StandsAt, HoldsTree}
use Rattle.base.specs.kept.PlannedTrees.{NewBlock, IsNewAt, SameEntry, SameRecord, IsZeroRecord, IsPlannedAt, IsTreePlan, SameBlock, IsBlockWritten}
use Rattle.base.proofs.tree.PlacedTrees.{opens-some, absent-data}
use Rattle.base.proofs.common.KeptLists.{get_or-zeros}
use Rattle.base.proofs.disk.Put.{part-part}

-- the check field of the block at an address
pub check-in_block : (image : List ℕ) (address : ℕ) → part (part image address block_size) 32 32 ≡ part image (address + 32) 32
check-in_block image address = part-part image address block_size 32 32 (omega arith)

-- records that are padded with zeros to the same bytes are zeros together
zeros-along : (size : ℕ) (a b : List ℕ) → a ++ replicate (size - length a) 0 ≡ b ++ replicate (size - length b) 0 → a ≡ replicate (length a) 0 → b ≡ replicate (length b) 0
zeros-along size a b padded zeros = ext_get_or 0 b (replicate (length b) 0) (sym (length-replicate (length b) 0)) (λ k below. at k below (cases_lt k (length a)))
  where
    at : (k : ℕ) → k < length b → (k < length a) ⊎ (length a ≤ k) → get_or b k 0 ≡ get_or (replicate (length b) 0) k 0
    at k below side =
        sym (get_or_append_left b (replicate (size - length b) 0) 0 k below) ∙ ap (λ (l : List ℕ). get_or l k 0) (sym padded)
        ∙ (elim side as (λ _. get_or (a ++ replicate (size - length a) 0) k 0 ≡ zero) [
          | inl before ↦ get_or_append_left a (replicate (size - length a) 0) 0 k before ∙ ap (λ (l : List ℕ). get_or l k 0) zeros ∙ get_or-zeros (length a) k
          | inr behind ↦ get_or-append_right a (replicate (size - length a) 0) (length a) k 0 refl behind ∙ get_or-zeros (size - length a) (k - length a)
        ]) ∙ sym (get_or-zeros (length b) k)

-- an object has no bytes in a record that begins past its end
past-record : (r : ℕ) (bytes : List ℕ) → length bytes ≤ record_size * r → record_bytes r bytes ≡ replicate (length (record_bytes r bytes)) 0
past-record r bytes past =
    let short : length (record_bytes r bytes) ≡ 0 = omega (arith, past, length-take record_size (drop (record_size * r) bytes), length-drop (record_size * r) bytes) in
    nil_from_length (record_bytes r bytes) short ∙ ap (λ (n : ℕ). replicate n 0) (sym short)

-- an entry of an object that has as many bytes
absent-stays : (b a : Option (List ℕ)) → SameEntry b a → b ≡ None → a ≡ None
absent-stays None None same is = refl
absent-stays None (Some y) same is = absurd (let no_way : None ≡ Some (length y) = same in cc)
absent-stays (Some x) a same is = absurd (let no_way : Some x ≡ None = is in cc)

one_level-stays : (entry : List ℕ) (p q : Pointer) (b a : Option (List ℕ)) → q ≡ p → SameEntry b a → IsOneLevelEntry entry p b → IsOneLevelEntry entry q a
one_level-stays entry p q None None same_pointer same h = (h.0, same_pointer ∙ h.1)
one_level-stays entry p q None (Some y) same_pointer same h = absurd (let no_way : None ≡ Some (length y) = same in cc)
one_level-stays entry p q (Some x) None same_pointer same h = absurd (let no_way : Some (length x) ≡ None = same in cc)
one_level-stays entry p q (Some x) (Some y) same_pointer same h =
    let long : length x ≡ length y = cc in
    (h.0, h.1 ∙ long, subst (λ (n : ℕ). n ≤ one_level_length) long h.2, h.3 ∙ sym same_pointer)

two_level-stays : (entry : List ℕ) (p q : Pointer) (b a : Option (List ℕ)) → q ≡ p → SameEntry b a → IsTwoLevelEntry entry p b → IsTwoLevelEntry entry q a
two_level-stays entry p q None a same_pointer same h = absurd h
two_level-stays entry p q (Some x) None same_pointer same h = absurd (let no_way : Some (length x) ≡ None = same in cc)
two_level-stays entry p q (Some x) (Some y) same_pointer same h =
    let long : length x ≡ length y = cc in
    (h.0, h.1 ∙ long, subst (λ (n : ℕ). one_level_length < n) long h.2, subst (λ (n : ℕ). n ≤ max_length) long h.3, h.4 ∙ sym same_pointer)

entry-stays : (frame : Frame) (entry : List ℕ) (t u p q : Pointer) (b a : Option (List ℕ)) → u ≡ t → q ≡ p → SameEntry b a → IsEntryFor frame entry t p b → IsEntryFor frame entry u q a
entry-stays frame entry t u p q b a tops firsts same (inl h) = inl (one_level-stays entry p q b a firsts same h)
entry-stays frame entry t u p q b a tops firsts same (inr h) = inr (h.0, two_level-stays entry t u b a tops same h.1)

-- what is said of an entry in an older version
entry-later : (frame grown : Frame) (entry : List ℕ) (t p : Pointer) (o : Option (List ℕ)) → frame.version ≤ grown.version → IsEntryFor frame entry t p o → IsEntryFor grown entry t p o
entry-later frame grown entry t p o newer (inl h) = inl h
entry-later frame grown entry t p o newer (inr h) = inr (let later = h.0 in omega (arith, later, newer), h.1)

-- an object of as many bytes has as many levels, and as many strips
short-stays : (b a : Option (List ℕ)) → SameEntry b a → IsShort b → IsShort a
short-stays b None same h = tt
short-stays None (Some y) same h = absurd (let no_way : None ≡ Some (length y) = same in cc)
short-stays (Some x) (Some y) same h = let long : length x ≡ length y = cc in subst (λ (n : ℕ). n ≤ one_level_length) long h

long-stays : (b a : Option (List ℕ)) → SameEntry b a → IsLong b → IsLong a
long-stays None a same h = absurd h
long-stays (Some x) None same h = absurd (let no_way : Some (length x) ≡ None = same in cc)
long-stays (Some x) (Some y) same h = let long : length x ≡ length y = cc in subst (λ (n : ℕ). one_level_length < n) long h

needs-stays : (b a : Option (List ℕ)) (j : ℕ) (p q : Pointer) → SameEntry b a → q ≡ p → NeedsNoTop b j p → NeedsNoTop a j q
needs-stays b a j p q same strip (inl none) = inl (strip ∙ none)
needs-stays b a j p q same strip (inr h) = inr (h.0, short-stays b a same h.1)

past-stays : (b a : Option (List ℕ)) (j : ℕ) (p q : Pointer) → SameEntry b a → q ≡ p → HasNonePast b j p → HasNonePast a j q
past-stays b None j p q same strip h = tt
past-stays None (Some y) j p q same strip h = absurd (let no_way : None ≡ Some (length y) = same in cc)
past-stays (Some x) (Some y) j p q same strip h = λ past. let long : length x ≡ length y = cc in strip ∙ h (omega (arith, long, past))

module _ (image other : List ℕ) (frame grown : Frame) (guid_same : grown.guid ≡ frame.guid) (blocks_same : grown.blocks ≡ frame.blocks) (later : frame.group ≤ grown.group)
    (newer : frame.version ≤ grown.version) where
  -- a block that stands in another image opens there
  pub opens-elsewhere : (kind number : ℕ) (p : Pointer) (payload : List ℕ) → Opens image frame kind number p payload → SameBlock image other p → Opens other grown kind number p payload
  opens-elsewhere kind number p payload o same =
      let stands : part other p.address block_size ≡ part image p.address block_size = same (opens-some image frame kind number p payload o) in
      record {
        in_area = subst (λ (blocks : ℕ). IsBlockAddress blocks p.address) (sym blocks_same) o.in_area;
        born = let b = o.born in omega (arith, b, later);
        block = subst (λ (bytes : List ℕ). IsBlock bytes kind grown.guid p.birth number payload) (sym stands)
            (subst (λ (guid : ℕ). IsBlock (part image p.address block_size) kind guid p.birth number payload) (sym guid_same) o.block);
        check = sym (check-in_block other p.address) ∙ ap (λ (bytes : List ℕ). part bytes 32 32) stands ∙ check-in_block image p.address ∙ o.check;
      }

  record-elsewhere : (m k : ℕ) (p : Pointer) (bytes : List ℕ) → IsRecord image frame m k p bytes → SameBlock image other p → IsRecord other grown m k p bytes
  record-elsewhere m k p bytes (inl h) same = inl h
  record-elsewhere m k p bytes (inr h) same = inr (h.0, opens-elsewhere 5 (pointer_count * m + k) p (padded_record (record_number m k) bytes) h.1 same)

  data-elsewhere : (m k : ℕ) (p : Pointer) (o : Option (List ℕ)) → IfSome o (λ bytes. IsRecord image frame m k p bytes) → SameBlock image other p → IfSome o (λ bytes. IsRecord other grown m k p bytes)
  data-elsewhere m k p None h same = tt
  data-elsewhere m k p (Some bytes) h same = record-elsewhere m k p bytes h same

  stands-elsewhere : (pointers : Place → Pointer) (objects : FinMap nat_cmp (List ℕ)) (place : Place) → StandsAt image frame pointers objects place → SameBlock image other (pointers place)
      → StandsAt other grown pointers objects place
  stands-elsewhere pointers objects Root (inl h) same = inl h
  stands-elsewhere pointers objects Root (inr h) same = inr (h.0, opens-elsewhere 2 0 (pointers Root) h.0 h.1 same, h.2)
  stands-elsewhere pointers objects (Directory d) (inl h) same = inl h
  stands-elsewhere pointers objects (Directory d) (inr h) same = inr (
    h.0,
    opens-elsewhere 3 d (pointers (Directory d)) h.0 h.1 same,
    λ k low. entry-later frame grown (entry_in h.0 k) (pointers (Top (entry_count * d + k))) (pointers (Indirect (entry_count * d + k))) (map.get objects (entry_count * d + k)) newer (h.2 k low),
  )
  stands-elsewhere pointers objects (Top n) (inl h) same = inl h
  stands-elsewhere pointers objects (Top n) (inr h) same = inr (h.0, h.1, opens-elsewhere 7 n (pointers (Top n)) h.1 h.2 same, h.3)
  stands-elsewhere pointers objects (Indirect m) (inl h) same = inl h
  stands-elsewhere pointers objects (Indirect m) (inr h) same = inr (h.0, opens-elsewhere 4 m (pointers (Indirect m)) h.0 h.1 same, h.2)
  stands-elsewhere pointers objects (Data m k) h same = data-elsewhere m k (pointers (Data m k)) (map.get objects (object_of_indirect m)) h same

  -- where each of its blocks is the same, a tree is too, also for a later group and version
  pub holds-elsewhere : (pointers : Place → Pointer) (objects : FinMap nat_cmp (List ℕ)) → HoldsTree image frame pointers objects
      → ((place : Place) → IsPlace place → SameBlock image other (pointers place)) → HoldsTree other grown pointers objects
  holds-elsewhere pointers objects holds same = record {
    no_others = holds.no_others;
    each = λ place in_range. stands-elsewhere pointers objects place (holds.each place in_range) (same place in_range);
  }

  module _ (blocks : List NewBlock) (written : (i : ℕ) (b : NewBlock) → slice_get blocks i ≡ Some b → IsBlockWritten other grown.blocks b) where
    -- a new block that stands opens at its place
    pub opens-new : (place : Place) (p : Pointer) (payload : List ℕ) → IsNewAt blocks grown place p payload → OpensAt other grown place p payload
    opens-new place p payload is =
        let s = written is.index is.block is.found in
        let there : part other p.address block_size ≡ is.block.content = ap (λ (a : ℕ). part other a block_size) is.address ∙ s.stands in
        record {
          in_area = subst (λ (a : ℕ). IsBlockAddress grown.blocks a) (sym is.address) s.in_area;
          born = let b = is.birth in omega (arith, b);
          block = subst (λ (bytes : List ℕ). IsBlock bytes (kind_of place) grown.guid p.birth (number_of_place place) payload) (sym there)
              (subst (λ (group : ℕ). IsBlock is.block.content (kind_of place) grown.guid group (number_of_place place) payload) (sym is.birth) is.sealed);
          check = sym (check-in_block other p.address) ∙ ap (λ (bytes : List ℕ). part bytes 32 32) there ∙ is.check;
        }

    module _ (old new : Place → Pointer) (before after : FinMap nat_cmp (List ℕ)) (holds : HoldsTree image frame old before) (planned : IsTreePlan blocks grown old new before after)
        (same : (place : Place) → IsPlace place → new place ≡ old place → SameBlock image other (old place)) where
      root-kept : new Root ≡ old Root → ((d : ℕ) → d < pointer_count → new (Directory d) ≡ old (Directory d)) → StandsAt other grown old before Root → StandsAt other grown new after Root
      root-kept top each (inl h) = inl (top ∙ h.0, λ d below. each d below ∙ h.1 d below)
      root-kept top each (inr h) = inr (h.0, subst (λ (p : Pointer). OpensAt other grown Root p h.0) (sym top) h.1, λ d below. h.2 d below ∙ sym (each d below))

      directory-kept : (d : ℕ) → new (Directory d) ≡ old (Directory d) → ((k : ℕ) → k < entry_count
          → (new (Indirect (entry_count * d + k)) ≡ old (Indirect (entry_count * d + k))) × (new (Top (entry_count * d + k)) ≡ old (Top (entry_count * d + k)))
          × SameEntry (map.get before (entry_count * d + k)) (map.get after (entry_count * d + k)))
          → StandsAt other grown old before (Directory d) → StandsAt other grown new after (Directory d)
      directory-kept d top each (inl h) = inl (
        top ∙ h.0,
        λ k below. let e = each k below in
            (absent-stays (map.get before (entry_count * d + k)) (map.get after (entry_count * d + k)) e.2 (h.1 k below).0, e.0 ∙ (h.1 k below).1),
      )
      directory-kept d top each (inr h) = inr (
        h.0,
        subst (λ (p : Pointer). OpensAt other grown (Directory d) p h.0) (sym top) h.1,
        λ k below. let e = each k below in
            entry-stays grown (entry_in h.0 k) (old (Top (entry_count * d + k))) (new (Top (entry_count * d + k))) (old (Indirect (entry_count * d + k))) (new (Indirect (entry_count * d + k)))
            (map.get before (entry_count * d + k)) (map.get after (entry_count * d + k)) e.1 e.0 e.2 (h.2 k below),
      )

      top-kept : (n : ℕ) → new (Top n) ≡ old (Top n) → SameEntry (map.get before n) (map.get after n) → ((j : ℕ) → j < pointer_count → new (Indirect (strip_number n j)) ≡ old (Indirect (strip_number n j)))
          → StandsAt other grown old before (Top n) → StandsAt other grown new after (Top n)
      top-kept n top same_length each (inl h) = inl (
        top ∙ h.0,
        λ j low. needs-stays (map.get before n) (map.get after n) j (old (Indirect (strip_number n j))) (new (Indirect (strip_number n j))) same_length (each j low) (h.1 j low),
      )
      top-kept n top same_length each (inr h) = inr (
        long-stays (map.get before n) (map.get after n) same_length h.0,
        h.1,
        subst (λ (p : Pointer). OpensAt other grown (Top n) p h.1) (sym top) h.2,
        λ j low.
            ((h.3 j low).0 ∙ sym (each j low), past-stays (map.get before n) (map.get after n) j (old (Indirect (strip_number n j))) (new (Indirect (strip_number n j))) same_length (each j low) (h.3 j low).1),
      )

      indirect-kept : (m : ℕ) → new (Indirect m) ≡ old (Indirect m) → ((k : ℕ) → k < pointer_count → new (Data m k) ≡ old (Data m k))
          → StandsAt other grown old before (Indirect m) → StandsAt other grown new after (Indirect m)
      indirect-kept m top each (inl h) = inl (top ∙ h.0, λ k below. each k below ∙ h.1 k below)
      indirect-kept m top each (inr h) = inr (h.0, subst (λ (p : Pointer). OpensAt other grown (Indirect m) p h.0) (sym top) h.1, λ k below. h.2 k below ∙ sym (each k below))

      record-kept : (m k : ℕ) (x y : List ℕ) → new (Data m k) ≡ old (Data m k) → padded_record (record_number m k) x ≡ padded_record (record_number m k) y
          → (old (Data m k) ≡ no_pointer) ⊎ (record_start m k < length y) → IsRecord other grown m k (old (Data m k)) x → IsRecord other grown m k (new (Data m k)) y
      record-kept m k x y top padded within (inl h) = inl (top ∙ h.0, zeros-along record_size (record_bytes (record_number m k) x) (record_bytes (record_number m k) y) padded h.1)
      record-kept m k x y top padded (inl none) (inr h) = absurd (opens-some other grown 5 (pointer_count * m + k) (old (Data m k)) (padded_record (record_number m k) x) h.1 none)
      record-kept m k x y top padded (inr below) (inr h) = inr (
        below,
        subst (λ (payload : List ℕ). OpensAt other grown (Data m k) (new (Data m k)) payload) padded (subst (λ (p : Pointer). OpensAt other grown (Data m k) p (padded_record (record_number m k) x)) (sym top) h.1),
      )

      data-kept : (m k : ℕ) (b a : Option (List ℕ)) → m < indirect_count → k < pointer_count → map.get before (object_of_indirect m) ≡ b → new (Data m k) ≡ old (Data m k)
          → SameRecord (old (Data m k)) (record_number m k) b a → IfSome b (λ bytes. IsRecord other grown m k (old (Data m k)) bytes) → IfSome a (λ bytes. IsRecord other grown m k (new (Data m k)) bytes)
      data-kept m k None None low k_low is top kept h = tt
      data-kept m k (Some x) None low k_low is top kept h = tt
      data-kept m k None (Some y) low k_low is top kept h =
          inl (
            top ∙ absent-data image frame old before holds m k low k_low is,
            zeros-along record_size (record_bytes (record_number m k) []) (record_bytes (record_number m k) y) kept.0 (past-record (record_number m k) [] (omega arith)),
          )
      data-kept m k (Some x) (Some y) low k_low is top kept h = record-kept m k x y top kept.0 kept.1 h

      data-new : (m k : ℕ) (a : Option (List ℕ))
          → IfSome a (λ bytes. (record_start m k < length bytes) × IsNewAt blocks grown (Data m k) (new (Data m k)) (padded_record (record_number m k) bytes))
          → IfSome a (λ bytes. IsRecord other grown m k (new (Data m k)) bytes)
      data-new m k None h = tt
      data-new m k (Some y) h = inr (h.0, opens-new (Data m k) (new (Data m k)) (padded_record (record_number m k) y) h.1)

      -- what stood at a place, where it is kept
      kept-at : (place : Place) → IsPlace place → new place ≡ old place → StandsAt other grown old before place
      kept-at place in_range top = stands-elsewhere old before place (holds.each place in_range) (same place in_range top)

      -- a record that has no block
      data-none : (m k : ℕ) (a : Option (List ℕ)) → new (Data m k) ≡ no_pointer → IsZeroRecord (record_number m k) a → IfSome a (λ bytes. IsRecord other grown m k (new (Data m k)) bytes)
      data-none m k None none zeros = tt
      data-none m k (Some y) none zeros = inl (none, zeros)

      planned-at : (place : Place) → IsPlace place → IsPlannedAt blocks grown old new before after place → StandsAt other grown new after place
      planned-at Root in_range (inl p) = root-kept p.0 p.1 (kept-at Root in_range p.0)
      planned-at Root in_range (inr (inl p)) = inr (p.0, opens-new Root (new Root) p.0 p.1, p.2)
      planned-at Root in_range (inr (inr p)) = inl p
      planned-at (Directory d) in_range (inl p) = directory-kept d p.0 p.1 (kept-at (Directory d) in_range p.0)
      planned-at (Directory d) in_range (inr (inl p)) = inr (p.0, opens-new (Directory d) (new (Directory d)) p.0 p.1, p.2)
      planned-at (Directory d) in_range (inr (inr p)) = inl p
      planned-at (Top n) in_range (inl p) = top-kept n p.0 p.1 p.2 (kept-at (Top n) in_range p.0)
      planned-at (Top n) in_range (inr (inl p)) = inr (p.0, p.1, opens-new (Top n) (new (Top n)) p.1 p.2, p.3)
      planned-at (Top n) in_range (inr (inr p)) = inl p
      planned-at (Indirect m) in_range (inl p) = indirect-kept m p.0 p.1 (kept-at (Indirect m) in_range p.0)
      planned-at (Indirect m) in_range (inr (inl p)) = inr (p.0, opens-new (Indirect m) (new (Indirect m)) p.0 p.1, p.2)
      planned-at (Indirect m) in_range (inr (inr p)) = inl p
      planned-at (Data m k) in_range (inl p) =
          data-kept m k (map.get before (object_of_indirect m)) (map.get after (object_of_indirect m)) in_range.0 in_range.1 refl p.0 p.1 (kept-at (Data m k) in_range p.0)
      planned-at (Data m k) in_range (inr (inl p)) = data-new m k (map.get after (object_of_indirect m)) p
      planned-at (Data m k) in_range (inr (inr p)) = data-none m k (map.get after (object_of_indirect m)) p.0 p.1

      -- where the new blocks stand and the kept ones are the same, the tree that was planned is there
      pub planned-holds : ((n : ℕ) → object_count ≤ n → map.get after n ≡ None) → HoldsTree other grown new after
      planned-holds no_others = record {
        no_others = no_others;
        each = λ place in_range. planned-at place in_range (planned place in_range);
      }
