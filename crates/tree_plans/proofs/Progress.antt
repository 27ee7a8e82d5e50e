-- How a plan goes on: what it has stays, and the next block is the lowest free one.
use Rattle.std.proofs.Common.{◌≡◌, ◌≢◌, ℕ, zero, suc, ◌+◌, ◌<◌, ◌⊎◌, inl, inr, Bool, List, [], ◌∷◌, ◌++◌, length, map, ◌≤◌, refl, sym, ◌∙◌, ap, append_assoc, arith}
use Rattle.std.specs.Prelude.{slice_index_or}
use Rattle.std.specs.Ordering.{nat_cmp}
use Rattle.std.specs.FinSet.{FinSet}
use Rattle.base.specs.declared.pointer.Pointer.{Pointer}
use Rattle.base.specs.formats.Fields.{no_pointer, part, pointer_in}
use Rattle.base.specs.formats.Geometry.{block_address}
use Rattle.base.specs.formats.Blocks.{Frame, IsBlock}
use Rattle.base.specs.formats.Limits.{pointer_count}
use Rattle.base.specs.tree.Places.{Place, kind_of, number_of_place, record_of_strip, strip_number}
use Rattle.base.specs.tree.Places.Place.{Data, Indirect, Top}
use Rattle.base.specs.kept.PlannedTrees.{NewBlock, IsNewAt}
use Rattle.space.specs.FreeSets.{free_from}
use Rattle.tree_plans.specs.declared.planner.PlannedBlock.{PlannedBlock}
use Rattle.std.proofs.lemmas.Bool.{cases_lt}
use Rattle.tree_blocks.specs.Pointers.{ObjectPointers, pointer_of_list}
use Rattle.tree_plans.specs.Plans.{Progress, Keeps, IsAmong, IsOfPlace, IsOfRecord, IsOfStrip, Goes, HasBecome, LosesBlock, IsWritten, IsRecordPlanned, AreRecordsPlanned, PlaceFrees, FreesFrom, IsObjectPlanned, kept_state, new_block, strip_state, top_state}
use Rattle.tree_plans.specs.declared.changes.ObjectChanges.{ObjectChanges}
use Rattle.base.specs.declared.record_state.RecordState.{RecordState}
use Rattle.base.specs.declared.record_state.RecordState.TheVariants.{Unchanged, Dirty, Hole}
use Rattle.base.specs.kept.PlacedTrees.{padded_record}
use Rattle.base.proofs.common.KeptLists.{at_last}

pub new_blocks-push : (blocks : List PlannedBlock) (b : PlannedBlock) → map new_block (blocks ++ b ∷ []) ≡ map new_block blocks ++ new_block b ∷ []
new_blocks-push [] b = refl
new_blocks-push (x ∷ blocks) b = ap (λ l. new_block x ∷ l) (new_blocks-push blocks b)

pub addresses-push : (blocks : List NewBlock) (b : NewBlock) → map (λ (x : NewBlock). x.address) (blocks ++ b ∷ []) ≡ map (λ (x : NewBlock). x.address) blocks ++ b.address ∷ []
addresses-push [] b = refl
addresses-push (x ∷ blocks) b = ap (λ l. x.address ∷ l) (addresses-push blocks b)

pub keeps_push : {A : Type 0} (xs : List A) (a : A) → Keeps xs (xs ++ a ∷ [])
keeps_push [] a i b e = absurd (cc)
keeps_push (x ∷ xs) a zero b e = e
keeps_push (x ∷ xs) a (suc i) b e = keeps_push xs a i b e

pub goes_nowhere : (free : FinSet nat_cmp) (s : Progress) → Goes free s s
goes_nowhere free s = record { frame = refl; taken = λ h. h; blocks = λ i b e. e; freed = λ i a e. e }

pub goes_twice : {free : FinSet nat_cmp} {r s t : Progress} → Goes free r s → Goes free s t → Goes free r t
goes_twice g h = record {
  frame = h.frame ∙ g.frame;
  taken = λ e. h.taken (g.taken e);
  blocks = λ i b e. h.blocks i b (g.blocks i b e);
  freed = λ i a e. h.freed i a (g.freed i a e);
}

-- a block is taken
pub goes_on : (free : FinSet nat_cmp) (next index : ℕ) (blocks after : List NewBlock) (block : NewBlock) (freed released : List ℕ) (frame : Frame)
    → after ≡ blocks ++ block ∷ [] → block.address ≡ block_address index → free_from next free ≡ block_address index ∷ free_from (index + 1) free → Keeps freed released
    → Goes free (record { next = next; blocks = blocks; freed = freed; frame = frame }) (record { next = index + 1; blocks = after; freed = released; frame = frame })
goes_on free next index blocks after block freed released frame pushed here lowest kept = record {
  frame = refl;
  taken = λ all. ap (λ (l : List NewBlock). map (λ (b : NewBlock). b.address) l ++ free_from (index + 1) free) pushed
      ∙ ap (λ (l : List ℕ). l ++ free_from (index + 1) free) (addresses-push blocks block)
      ∙ append_assoc (map (λ (b : NewBlock). b.address) blocks) (block.address ∷ []) (free_from (index + 1) free)
      ∙ ap (λ (a : ℕ). map (λ (b : NewBlock). b.address) blocks ++ (a ∷ free_from (index + 1) free)) here
      ∙ ap (λ (l : List ℕ). map (λ (b : NewBlock). b.address) blocks ++ l) (sym lowest)
      ∙ all;
  blocks = λ i b e. rw pushed (keeps_push blocks block i b e);
  freed = kept;
}

-- none is taken, and one comes back
pub goes_back : (free : FinSet nat_cmp) (next : ℕ) (blocks : List NewBlock) (freed released : List ℕ) (frame : Frame) → Keeps freed released
    → Goes free (record { next = next; blocks = blocks; freed = freed; frame = frame }) (record { next = next; blocks = blocks; freed = released; frame = frame })
goes_back free next blocks freed released frame kept = record { frame = refl; taken = λ h. h; blocks = λ i b e. e; freed = kept }

-- and it stands at its place
pub written_at : (s : Progress) (blocks : List NewBlock) (block : NewBlock) (index kind number : ℕ) (place : Place) (old new : Pointer) (payload : List ℕ)
    → s.blocks ≡ blocks ++ block ∷ [] → block.address ≡ block_address index → index < s.frame.blocks → new.address ≡ block_address index → new.birth ≡ s.frame.group
    → new.check ≡ part block.content 32 32 → kind ≡ kind_of place → number ≡ number_of_place place → IsBlock block.content kind s.frame.guid s.frame.group number payload
    → (old ≢ no_pointer → IsAmong s.freed old.address) → IsWritten s place old new payload
written_at s blocks block index kind number place old new payload pushed here low address birth check kind_is number_is sealed freed = record {
  block = record {
    index = length blocks;
    block = block;
    found = rw pushed (at_last blocks block);
    address = address ∙ sym here;
    birth = birth;
    check = sym check;
    sealed = rw (← kind_is, ← number_is) sealed;
  };
  in_area = (index, low, address);
  freed = freed;
}

-- what is planned stays planned
pub new_stays : {free : FinSet nat_cmp} {s t : Progress} {place : Place} {pointer : Pointer} {payload : List ℕ} → Goes free s t → IsNewAt s.blocks s.frame place pointer payload → IsNewAt t.blocks t.frame place pointer payload
new_stays g n = record {
  index = n.index;
  block = n.block;
  found = g.blocks n.index n.block n.found;
  address = n.address;
  birth = rw g.frame n.birth;
  check = n.check;
  sealed = rw g.frame n.sealed;
}

pub written_stays : {free : FinSet nat_cmp} {s t : Progress} {place : Place} {old new : Pointer} {payload : List ℕ} → Goes free s t → IsWritten s place old new payload → IsWritten t place old new payload
written_stays g w = record {
  block = new_stays g w.block;
  in_area = rw g.frame w.in_area;
  freed = λ there. let f = w.freed there in (f.0, g.freed f.0 _ f.1);
}

pub cleared_stays : {free : FinSet nat_cmp} {s t : Progress} {old new : Pointer} → Goes free s t → LosesBlock s old new → LosesBlock t old new
cleared_stays g c = record { none = c.none; freed = λ there. let f = c.freed there in (f.0, g.freed f.0 _ f.1) }

pub become_stays : {free : FinSet nat_cmp} {s t : Progress} (place : Place) (state : RecordState) (old new : Pointer) (Fits : List ℕ → Type 0) → Goes free s t → HasBecome s place state old new Fits → HasBecome t place state old new Fits
become_stays place Unchanged old new Fits g h = h
become_stays place Dirty old new Fits g h = (h.0, written_stays g h.1, h.2)
become_stays place Hole old new Fits g h = cleared_stays g h

pub record_stays : {free : FinSet nat_cmp} {s t : Progress} (n j k : ℕ) (bytes : List ℕ) (state : RecordState) (old new : Pointer) → Goes free s t → IsRecordPlanned s n j k bytes state old new → IsRecordPlanned t n j k bytes state old new
record_stays n j k bytes state old new g h = become_stays (Data (strip_number n j) k) state old new (λ payload. payload ≡ padded_record (record_of_strip j k) bytes) g h

pub last_of : {A : Type 0} (xs : List A) (a d : A) → slice_index_or (xs ++ a ∷ []) (length xs) d ≡ a
last_of [] a d = refl
last_of (x ∷ xs) a d = last_of xs a d

pub front_of : {A : Type 0} (xs : List A) (a d : A) (i : ℕ) → i < length xs → slice_index_or (xs ++ a ∷ []) i d ≡ slice_index_or xs i d
front_of [] a d i low = absurd (omega arith)
front_of (x ∷ xs) a d zero low = refl
front_of (x ∷ xs) a d (suc i) low = front_of xs a d i (omega arith)

-- what holds of each element below a number, and of the next one that is put after them
pub each_push : {A : Type 0} (P : ℕ → A → Type 0) (xs : List A) (a d : A) (i : ℕ) → length xs ≡ i → ((r : ℕ) → r < i → P r (slice_index_or xs r d)) → P i a
    → (r : ℕ) → r < i + 1 → P r (slice_index_or (xs ++ a ∷ []) r d)
each_push P xs a d i long each here r low = go (cases_lt r i)
  where
    go : (r < i) ⊎ (i ≤ r) → P r (slice_index_or (xs ++ a ∷ []) r d)
    go (inl below) =
        let in_front : r < length xs = omega arith in
        rw (front_of xs a d r in_front) (each r below)
    go (inr last) =
        let e : r ≡ length xs = omega arith in
        let f : length xs ≡ i = long in
        rw (e, last_of xs a d) (rw f here)

-- one record more is planned
pub records_push : {free : FinSet nat_cmp} {s t : Progress} (n j : ℕ) (bytes : List ℕ) (is_long : Bool) (changes : ObjectChanges) (old : ℕ → Pointer) (i : ℕ) (records : List Pointer) (state : RecordState) (was new : Pointer)
    → Goes free s t → length records ≡ i → was ≡ old i → state ≡ kept_state is_long changes j i → AreRecordsPlanned s n j bytes is_long changes old i (pointer_of_list records) → IsRecordPlanned t n j i bytes state was new
    → AreRecordsPlanned t n j bytes is_long changes old (i + 1) (pointer_of_list (records ++ new ∷ []))
records_push {s = s} {t = t} n j bytes is_long changes old i records state was new g long is state_is each here =
    each_push (λ k p. IsRecordPlanned t n j k bytes (kept_state is_long changes j k) (old k) p) records new no_pointer i long
    (λ k low. record_stays n j k bytes (kept_state is_long changes j k) (old k) (pointer_of_list records k) g (each k low)) (rw (← is, ← state_is) here)

pub records_stay : {free : FinSet nat_cmp} {s t : Progress} (n j : ℕ) (bytes : List ℕ) (is_long : Bool) (changes : ObjectChanges) (old : ℕ → Pointer) (count : ℕ) (new : ℕ → Pointer)
    → Goes free s t → AreRecordsPlanned s n j bytes is_long changes old count new → AreRecordsPlanned t n j bytes is_long changes old count new
records_stay n j bytes is_long changes old count new g each k low = record_stays n j k bytes (kept_state is_long changes j k) (old k) (new k) g (each k low)

-- what comes back of one more part
pub frees_more : (first old new : List ℕ) (Before Here Both : ℕ → Type 0) → ((address : ℕ) → Before address → Both address) → ((address : ℕ) → Here address → Both address)
    → FreesFrom first old Before → FreesFrom old new Here → FreesFrom first new Both
frees_more first old new Before Here Both one two frees more address among = elim (more address among) [
  | inl before ↦ elim (frees address before) [ inl at_first ↦ inl at_first | inr of ↦ inr (one address of) ]
  | inr here ↦ inr (two address here)
]

-- and so of one record more of a strip
pub record_below : (is_long : Bool) (changes : ObjectChanges) (map : ObjectPointers) (j i address : ℕ) → IsOfRecord is_long changes map j i address → IsOfRecord is_long changes map j (i + 1) address
record_below is_long changes map j i address of = record { index = of.index; low = (let low = of.low in omega arith); replaced = of.replaced; is_of = of.is_of }

pub record_here : (is_long : Bool) (changes : ObjectChanges) (map : ObjectPointers) (j i : ℕ) (state : RecordState) (was : Pointer) (address : ℕ) → was ≡ map.record_at j i → state ≡ kept_state is_long changes j i
    → IsOfPlace state was address → IsOfRecord is_long changes map j (i + 1) address
record_here is_long changes map j i state was address is state_is here = record { index = i; low = omega arith; replaced = rw (← state_is) here.0; is_of = rw (← is) here.1 }

pub frees_push : (first old new : List ℕ) (is_long : Bool) (changes : ObjectChanges) (map : ObjectPointers) (j i : ℕ) (state : RecordState) (was : Pointer) → was ≡ map.record_at j i → state ≡ kept_state is_long changes j i
    → FreesFrom first old (IsOfRecord is_long changes map j i) → PlaceFrees old new state was → FreesFrom first new (IsOfRecord is_long changes map j (i + 1))
frees_push first old new is_long changes map j i state was is state_is =
    frees_more first old new (IsOfRecord is_long changes map j i) (IsOfPlace state was) (IsOfRecord is_long changes map j (i + 1)) (record_below is_long changes map j i)
    (λ address. record_here is_long changes map j i state was address is state_is)

-- and of one strip more
pub strip_below : (is_long : Bool) (changes : ObjectChanges) (map : ObjectPointers) (j address : ℕ) → IsOfStrip is_long changes map j address → IsOfStrip is_long changes map (j + 1) address
strip_below is_long changes map j address of = record { strip = of.strip; low = (let low = of.low in omega arith); record_is = of.record_is }

pub strip_here : (is_long : Bool) (changes : ObjectChanges) (map : ObjectPointers) (j address : ℕ) → IsOfRecord is_long changes map j pointer_count address → IsOfStrip is_long changes map (j + 1) address
strip_here is_long changes map j address here = record { strip = j; low = omega arith; record_is = here }

-- an object that is planned stays planned
pub object_stays : {free : FinSet nat_cmp} {s t : Progress} (n : ℕ) (bytes : List ℕ) (is_long : Bool) (changes : ObjectChanges) (was new : ObjectPointers) → Goes free s t → IsObjectPlanned s n bytes is_long changes was new
    → IsObjectPlanned t n bytes is_long changes was new
object_stays n bytes is_long changes was new g p = record {
  records = λ j low. records_stay n j bytes is_long changes (was.record_at j) pointer_count (new.record_at j) g (p.records j low);
  strips = λ j low. become_stays (Indirect (strip_number n j)) (strip_state is_long changes was j) (was.strip j) (new.strip j) (λ payload. (k : ℕ) → k < pointer_count → pointer_in payload k ≡ new.record_at j k) g (p.strips j low);
  top = become_stays (Top n) (top_state is_long changes was) was.top new.top (λ payload. (j : ℕ) → j < pointer_count → pointer_in payload j ≡ new.strip j) g p.top;
}
