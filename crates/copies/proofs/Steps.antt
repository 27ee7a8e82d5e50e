-- Steps of a copy one after another: what the new pool's handle made of them, and what was written, follows in order.
use Rattle.std.proofs.Common.{◌≡◌, ◌<◌, ◌-◌, ◌++◌, ◌∷◌, [], ℕ, suc, List, Ok, None, Some, Option, ap, append-nil, false, inl, inr, refl, subst, sym, true, ◌∙◌}
use Rattle.std.specs.Prelude.{Bool, IsTrue, ◌&&◌}
use Rattle.std.specs.Io.KnownBytes.{Appends}
use Rattle.std.specs.List.{flat_map, list_all}
use Rattle.std.proofs.KnownBytes.{Appends-nil, Appends-trans}
use Rattle.std.proofs.lemmas.Bool.{true≢false}
use Rattle.std.proofs.lemmas.List.Concat.{flat_map-append}
use Rattle.std.proofs.lemmas.List.Folds.{list_all-append}
use Rattle.base.specs.declared.error.PoolError.TheVariants as refusal
use Rattle.base.specs.declared.names.ObjectId.{ObjectId}
use Rattle.base.specs.declared.names.Receipt.{Receipt}
use Rattle.base.specs.declared.operation.Op.{Op}
use Rattle.base.specs.disk.Disk.{Disk, bytes_of}
use Rattle.running_pools.specs.Commits.{command_owner}
use Rattle.device_model.specs.declared.device.SectorDevice.{Ghosts}
use Rattle.object_views.specs.ObjectViews.{TellsOwnDamage, length_seen, object_of}
use Rattle.object_views.specs.declared.view.ObjectView.{ObjectView}
use Rattle.pool_threads.specs.declared.handle.Handle.{Handle}
use Rattle.pool_threads.specs.Transacts.{TransactsOrLacks}
use Rattle.trees.specs.declared.damages.BlockDamage.{BlockDamage}
use Rattle.copies.specs.Copies.{AreAllSteps, AreChecked, Chain, CopiesObjects, CopiesRecords, Goes, IsLostFrom, IsObjectStep, IsRecordStep, MakesAll, WritesUnlessZeros, is_copied, is_kept, made_object, object_lines, object_writes, record_lines, record_writes, viewed_object}
use Rattle.copies.specs.Copies.ObjectStep.{Passed, Viewed}
use Rattle.copies.specs.Copies.RecordStep.{Hole, Lost, Written}
use Rattle.copies.specs.Lines.{missing_line}
use Rattle.copies.specs.ReadRecords.{IsSeen, MountsNone}
use Rattle.copies.specs.declared.missing.Missing.TheVariants as missing

-- the object of a view, by its number
abbrev id_of : ℕ → ObjectId
id_of k = record { 0 = k }

pub same_object : (n : ObjectId) (v : ObjectView) → object_of v ≡ n.0 → n ≡ viewed_object v
same_object n v is = ap id_of (sym is)

pub chain_on : {S : Type 0} (IsStep : ℕ → S → ℕ → Type 0) (a b c : ℕ) (xs ys : List S) → Chain IsStep a xs b → Chain IsStep b ys c → Chain IsStep a (xs ++ ys) c
chain_on IsStep a b c [] ys same more = subst (λ (k : ℕ). Chain IsStep k ys c) same more
chain_on IsStep a b c (x ∷ xs) ys (m, one, rest) more = (m, one, chain_on IsStep m b c xs ys rest more)

and_true : (b : Bool) → (b && true) ≡ b
and_true true = refl
and_true false = refl

both_true : (v w : Bool) → v ≡ true → w ≡ true → (v && w) ≡ true
both_true v w p q = ap (λ (b : Bool). b && w) p ∙ q

module _ {Dev : Type 0} {G : Ghosts Dev} where
  pub none_made : (old new : Handle Dev G) → new ≡ old → MakesAll [] old new
  none_made old new same = (refl, refl, same)

  pub one_made : (ops : List Op) (r : Receipt) (old new : Handle Dev G) → TransactsOrLacks command_owner ops (Ok r) old new → MakesAll (ops ∷ []) old new
  one_made ops r old new made = (r, new, made, (refl, refl, refl))

  pub made_on : (xs ys : List (List Op)) (a b c : Handle Dev G) → MakesAll xs a b → MakesAll ys b c → MakesAll (xs ++ ys) a c
  made_on [] ys a b c (none, is, same) more = subst (λ (h : Handle Dev G). MakesAll ys h c) same more
  made_on (x ∷ xs) ys a b c (r, next, one, rest) more = (r, next, one, made_on xs ys next b c rest more)

  module _ {S : Type 0} (IsStep : ℕ → S → ℕ → Type 0) (writes : S → List (List Op)) (lines : S → List ℕ) (is_whole : S → Bool) (skips : Bool) where
    abbrev Went : ℕ → ℕ → Bool → Handle Dev G → Handle Dev G → Option (List ℕ) → Option (List ℕ) → Type 0
    Went = Goes IsStep writes lines is_whole skips

    pub goes_none : (a : ℕ) (h : Handle Dev G) (o : Option (List ℕ)) → Went a a true h h o o
    goes_none a h o = record { steps = []; chain = refl; made = none_made h h refl; written = Appends-nil o; whole_is = refl; strict = λ never. refl }

    pub goes_on : (a b c : ℕ) (v w : Bool) (h i j : Handle Dev G) (o p q : Option (List ℕ)) → Went a b v h i o p → Went b c w i j p q → Went a c (v && w) h j o q
    goes_on a b c v w h i j o p q first later = record {
      steps = first.steps ++ later.steps;
      chain = chain_on IsStep a b c first.steps later.steps first.chain later.chain;
      made = subst (λ (l : List (List Op)). MakesAll l h j) (sym (flat_map-append writes first.steps later.steps)) (made_on (flat_map writes first.steps) (flat_map writes later.steps) h i j first.made later.made);
      written = subst (λ (l : List ℕ). Appends o q l) (sym (flat_map-append lines first.steps later.steps)) (Appends-trans o p q (flat_map lines first.steps) (flat_map lines later.steps) first.written later.written);
      whole_is = ap (λ (b : Bool). b && w) first.whole_is ∙ ap (λ (b : Bool). list_all is_whole first.steps && b) later.whole_is ∙ sym (list_all-append is_whole first.steps later.steps);
      strict = λ never. both_true v w (first.strict never) (later.strict never);
    }

    pub goes_one : (s : S) (a b : ℕ) → IsStep a s b → (h i : Handle Dev G) → MakesAll (writes s) h i → (o p : Option (List ℕ)) → Appends o p (lines s) → (skips ≡ false → is_whole s ≡ true) → Went a b (is_whole s) h i o p
    goes_one s a b step h i made o p written strict = record {
      steps = s ∷ [];
      chain = (b, step, refl);
      made = subst (λ (l : List (List Op)). MakesAll l h i) (sym (append-nil (writes s))) made;
      written = subst (λ (l : List ℕ). Appends o p l) (sym (append-nil (lines s))) written;
      whole_is = sym (and_true (is_whole s));
      strict = strict;
    }

  -- the bytes of an object
  module _ (keeps : Bool) (disk : Disk) (v : ObjectView) (skips : Bool) where
    pub wrote : (low high : ℕ) (bytes : List ℕ) → low < high → AreChecked keeps disk v low high bytes → (h i : Handle Dev G) → WritesUnlessZeros (viewed_object v) low bytes h i → (o : Option (List ℕ)) → CopiesRecords keeps disk v skips low high true h i o o
    wrote low high bytes some checked h i (inl (zeros, same)) o =
        goes_one (IsRecordStep keeps disk v) (record_writes (viewed_object v)) (record_lines (viewed_object v)) is_kept skips (Hole low high bytes) low high (refl, refl, some, zeros, checked) h i (none_made h i same) o o (Appends-nil o) (λ never. refl)
    wrote low high bytes some checked h i (inr made) o =
        goes_one (IsRecordStep keeps disk v) (record_writes (viewed_object v)) (record_lines (viewed_object v)) is_kept skips (Written low high bytes) low high (refl, refl, some, checked) h i made o o (Appends-nil o) (λ never. refl)

    pub lost : (low high : ℕ) (d : BlockDamage) → low < high → IsLostFrom keeps disk v d low high → skips ≡ true → (h : Handle Dev G) (o p : Option (List ℕ)) → Appends o p (missing_line (missing.Bytes (viewed_object v) (record { low = low; high = high }) d)) → CopiesRecords keeps disk v skips low high false h h o p
    lost low high d some is allowed h o p written =
        goes_one (IsRecordStep keeps disk v) (record_writes (viewed_object v)) (record_lines (viewed_object v)) is_kept skips (Lost low high d) low high (refl, refl, some, is) h h (none_made h h refl) o p written (λ never. absurd (true≢false (sym allowed ∙ never)))

  -- the objects of a pool
  module _ (keeps : Bool) (disk : Disk) (skips : Bool) where
    -- one that isn't there
    pub absent : (v : ObjectView) → (IsTrue keeps → IsSeen (bytes_of disk.now) v) → length_seen v ≡ None → (h : Handle Dev G) (o : Option (List ℕ)) → CopiesObjects keeps disk skips (object_of v) (suc (object_of v)) true h h o o
    absent v seen none h o =
        goes_one (IsObjectStep keeps disk) object_writes object_lines is_copied skips (Viewed v []) (object_of v) (suc (object_of v)) (refl, refl, seen, all (length_seen v) none) h h (made (length_seen v) none) o o (Appends-nil o) (λ never. refl)
      where
        all : (size : Option ℕ) → size ≡ None → AreAllSteps keeps disk v size []
        all None is = refl
        all (Some n) is = absurd (let no : Some n ≡ None = is in cc)

        made : (size : Option ℕ) → size ≡ None → MakesAll (made_object (viewed_object v) size ++ []) h h
        made None is = none_made h h refl
        made (Some n) is = absurd (let no : Some n ≡ None = is in cc)

    -- one of this length
    pub present : (v : ObjectView) → (IsTrue keeps → IsSeen (bytes_of disk.now) v) → (size : ℕ) → length_seen v ≡ Some size → (h i j : Handle Dev G) → MakesAll (made_object (viewed_object v) (Some size)) h i
        → (whole : Bool) (o p : Option (List ℕ)) → CopiesRecords keeps disk v skips 0 size whole i j o p → CopiesObjects keeps disk skips (object_of v) (suc (object_of v)) whole h j o p
    present v seen size is h i j makes whole o p records =
        subst (λ (b : Bool). CopiesObjects keeps disk skips (object_of v) (suc (object_of v)) b h j o p) (sym records.whole_is)
        (goes_one (IsObjectStep keeps disk) object_writes object_lines is_copied skips (Viewed v records.steps) (object_of v) (suc (object_of v))
        (refl, refl, seen, subst (λ (l : Option ℕ). AreAllSteps keeps disk v l records.steps) (sym is) records.chain) h j
        (subst (λ (l : Option ℕ). MakesAll (made_object (viewed_object v) l ++ flat_map (record_writes (viewed_object v)) records.steps) h j) (sym is)
        (made_on (made_object (viewed_object v) (Some size)) (flat_map (record_writes (viewed_object v)) records.steps) h i j makes records.made))
        o p records.written (λ never. sym records.whole_is ∙ records.strict never))

    -- those that are passed over
    pub passed : (first after : ℕ) (d : BlockDamage) → first < after → (IsTrue keeps → TellsOwnDamage (bytes_of disk.now) first (refusal.Damaged d.kind d.address) d.kind d.address × MountsNone (bytes_of disk.now)) → skips ≡ true → (h : Handle Dev G) (o p : Option (List ℕ))
        → Appends o p (missing_line (missing.Objects (record { 0 = first }) (record { 0 = after - 1 }) d)) → CopiesObjects keeps disk skips first after false h h o p
    passed first after d some told allowed h o p written =
        goes_one (IsObjectStep keeps disk) object_writes object_lines is_copied skips (Passed first after d) first after (refl, refl, some, told) h h (none_made h h refl) o p written (λ never. absurd (true≢false (sym allowed ∙ never)))
