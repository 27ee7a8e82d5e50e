-- In the kept log blocks as much begins as ends, up to the record that is begun. So the header of a sync, at which a
-- record begins, loses none that ends above its group, and log writes keep it.
use Rattle.std.proofs.Common.{◌≡◌, inl, inr, ℕ, suc, ◌+◌, ◌≤◌, Bool, true, false, ◌||◌, List, [], ◌∷◌, ◌++◌, length, map, refl, sym, ◌∙◌, ap, subst, arith, append_assoc}
use Rattle.std.specs.Prelude.{Option, Some, None, slice_get, cond, filter, find, nat_le, nat_lt, unwrap_or, option_map}
use Rattle.std.specs.List.{list_any}
use Rattle.std.proofs.lemmas.Bool.{eq-eqb, le-leb, or_parts, or_right, or_left, or_from, false≢true}
use Rattle.std.proofs.lemmas.List.{append-nil, map-append, length-map}
use Rattle.std.proofs.lemmas.List.Elements.{filter-append}
use Rattle.std.proofs.lemmas.List.Folds.{list_any-append}
use Rattle.std.proofs.lemmas.Grind.{flat_map-append}
use Rattle.base.specs.formats.Records.{Record}
use Rattle.base.specs.steps.Logs.{Begun, Log, Committed, KeptBlock, Taken, committed_of, is_same, reaches_above, header_at, committed_above, begun_committed, as_list, AreBalanced, begins_unfinished, is_needed, ends_in, begins_in, IsTaken, block_taken, log_after_write}
use Rattle.base.specs.steps.BegunLogs.{HeadersAreAt, HeadersReach, WritesKeepBalance, WritesKeepOrder, WritesKeepHeaders}
use Rattle.base.proofs.history.LogOrder.{none_above}

-- as much begins as ends
pub balanced_sum : (before after : Option Committed) (bs : List KeptBlock) → AreBalanced before bs after → as_list before ++ begins_in bs ≡ ends_in bs ++ as_list after
balanced_sum before after [] is = append-nil (as_list before) ∙ ap as_list is
balanced_sum None after (b ∷ bs) (inl (some, same, rest)) =
    ap (λ cs. cs ++ begins_in bs) same ∙ ap (λ cs. b.ends ++ cs) (balanced_sum None after bs rest) ∙ sym (append_assoc b.ends (ends_in bs) (as_list after))
balanced_sum None after (b ∷ bs) (inr (c, begins, ends, rest)) =
    ap (λ cs. cs ++ begins_in bs) begins ∙ balanced_sum (Some c) after bs rest ∙ ap (λ cs. (cs ++ ends_in bs) ++ as_list after) (sym ends)
balanced_sum (Some c) after (b ∷ bs) (begins, inl (ends, rest)) =
    ap (λ cs. c ∷ (cs ++ begins_in bs)) begins ∙ balanced_sum (Some c) after bs rest ∙ ap (λ cs. (cs ++ ends_in bs) ++ as_list after) (sym ends)
balanced_sum (Some c) after (b ∷ bs) (begins, inr (ends, rest)) =
    ap (λ cs. c ∷ (cs ++ begins_in bs)) begins ∙ ap (λ cs. c ∷ cs) (balanced_sum None after bs rest) ∙ ap (λ cs. (cs ++ ends_in bs) ++ as_list after) (sym ends)

-- one list after another
pub balanced_joined : (before middle after : Option Committed) (xs ys : List KeptBlock) → AreBalanced before xs middle → AreBalanced middle ys after → AreBalanced before (xs ++ ys) after
balanced_joined before middle after [] ys is rest = subst (λ o. AreBalanced o ys after) (sym is) rest
balanced_joined None middle after (x ∷ xs) ys (inl (some, same, front)) rest = inl (some, same, balanced_joined None middle after xs ys front rest)
balanced_joined None middle after (x ∷ xs) ys (inr (c, begins, ends, front)) rest = inr (c, begins, ends, balanced_joined (Some c) middle after xs ys front rest)
balanced_joined (Some c) middle after (x ∷ xs) ys (begins, inl (ends, front)) rest = (begins, inl (ends, balanced_joined (Some c) middle after xs ys front rest))
balanced_joined (Some c) middle after (x ∷ xs) ys (begins, inr (ends, front)) rest = (begins, inr (ends, balanced_joined None middle after xs ys front rest))

-- The first block that passes a test which only a block passes in which something begins: before it all is whole.
pub record IsParted (test : KeptBlock → Bool) (before after : Option Committed) (bs : List KeptBlock) : Type 0 where
  pub front : List KeptBlock
  pub back : List KeptBlock
  pub parted : bs ≡ front ++ back
  pub whole : AreBalanced before front None
  pub balanced : AreBalanced None back after
  pub none : list_any test front ≡ false
  pub found : find test bs ≡ slice_get back 0

module _ (test : KeptBlock → Bool) (begins_some : (b : KeptBlock) → test b ≡ true → b.begins ≡ [] → ⊥) where
  part : (before after : Option Committed) (bs : List KeptBlock) → AreBalanced before bs after → (find test bs ≡ None → after ≡ None) → IsParted test before after bs
  part before after [] is last =
      let none : after ≡ None = last refl in
      record { front = []; back = []; parted = refl; whole = is ∙ none; balanced = sym none; none = refl; found = refl }
  part None after (b ∷ bs) is last = by_test (λ rest fails. part None after bs rest (later_last fails)) (λ c rest fails. part (Some c) after bs rest (later_last fails)) (test b) refl is
    where
      here : test b ≡ true → IsParted test None after (b ∷ bs)
      here passes = record { front = []; back = b ∷ bs; parted = refl; whole = refl; balanced = is; none = refl; found = ap (λ x. cond x (Some b) (find test bs)) passes }

      later_last : test b ≡ false → find test bs ≡ None → after ≡ None
      later_last fails none = last (ap (λ x. cond x (Some b) (find test bs)) fails ∙ none)

      by_test : (AreBalanced None bs after → test b ≡ false → IsParted test None after bs) → ((c : Committed) → AreBalanced (Some c) bs after → test b ≡ false → IsParted test (Some c) after bs)
          → (x : Bool) → test b ≡ x → AreBalanced None (b ∷ bs) after → IsParted test None after (b ∷ bs)
      by_test whole begun true passes all = here passes
      by_test whole begun false fails (inl (some, same, rest)) =
          let r = whole rest fails in
          record {
            front = b ∷ r.front;
            back = r.back;
            parted = ap (λ xs. b ∷ xs) r.parted;
            whole = inl (some, same, r.whole);
            balanced = r.balanced;
            none = or_from (test b) (list_any test r.front) fails r.none;
            found = ap (λ x. cond x (Some b) (find test bs)) fails ∙ r.found;
          }
      by_test whole begun false fails (inr (c, begins, ends, rest)) =
          let r = begun c rest fails in
          record {
            front = b ∷ r.front;
            back = r.back;
            parted = ap (λ xs. b ∷ xs) r.parted;
            whole = inr (c, begins, ends, r.whole);
            balanced = r.balanced;
            none = or_from (test b) (list_any test r.front) fails r.none;
            found = ap (λ x. cond x (Some b) (find test bs)) fails ∙ r.found;
          }
  part (Some c) after (b ∷ bs) is last = by_test (λ rest fails. part (Some c) after bs rest (later_last fails)) (λ rest fails. part None after bs rest (later_last fails)) (test b) refl is
    where
      later_last : test b ≡ false → find test bs ≡ None → after ≡ None
      later_last fails none = last (ap (λ x. cond x (Some b) (find test bs)) fails ∙ none)

      by_test : (AreBalanced (Some c) bs after → test b ≡ false → IsParted test (Some c) after bs) → (AreBalanced None bs after → test b ≡ false → IsParted test None after bs)
          → (x : Bool) → test b ≡ x → AreBalanced (Some c) (b ∷ bs) after → IsParted test (Some c) after (b ∷ bs)
      by_test begun whole true passes (begins, rest) = absurd (begins_some b passes begins)
      by_test begun whole false fails (begins, inl (ends, rest)) =
          let r = begun rest fails in
          record {
            front = b ∷ r.front;
            back = r.back;
            parted = ap (λ xs. b ∷ xs) r.parted;
            whole = (begins, inl (ends, r.whole));
            balanced = r.balanced;
            none = or_from (test b) (list_any test r.front) fails r.none;
            found = ap (λ x. cond x (Some b) (find test bs)) fails ∙ r.found;
          }
      by_test begun whole false fails (begins, inr (ends, rest)) =
          let r = whole rest fails in
          record {
            front = b ∷ r.front;
            back = r.back;
            parted = ap (λ xs. b ∷ xs) r.parted;
            whole = (begins, inr (ends, r.whole));
            balanced = r.balanced;
            none = or_from (test b) (list_any test r.front) fails r.none;
            found = ap (λ x. cond x (Some b) (find test bs)) fails ∙ r.found;
          }

-- a record is the same as itself
pub same_itself : (c : Committed) → is_same c c ≡ true
same_itself c = rw (eq-eqb c.ordinal c.ordinal refl, eq-eqb c.group c.group refl) refl

-- a record that is begun after some blocks, and not before them, begins in one of these
begun_is_found : (group : ℕ) (c : Committed) (bs : List KeptBlock) → AreBalanced None bs (Some c) → find (is_needed group (Some c)) bs ≡ None → ⊥
begun_is_found group c bs is none = in_begins (begins_in_some c bs (balanced_sum None (Some c) bs is)) none
  where
    begins_in_some : (c : Committed) (bs : List KeptBlock) → begins_in bs ≡ ends_in bs ++ c ∷ [] → list_any (is_same c) (begins_in bs) ≡ true
    begins_in_some c bs same =
        ap (λ cs. list_any (is_same c) cs) same ∙ list_any-append (is_same c) (ends_in bs) (c ∷ [])
        ∙ or_right (list_any (is_same c) (ends_in bs)) (list_any (is_same c) (c ∷ [])) (or_left (is_same c c) false (same_itself c))

    in_begins : list_any (is_same c) (begins_in bs) ≡ true → find (is_needed group (Some c)) bs ≡ None → ⊥
    in_begins some = go bs some
      where
        go : (xs : List KeptBlock) → list_any (is_same c) (begins_in xs) ≡ true → find (is_needed group (Some c)) xs ≡ None → ⊥
        go [] some none = false≢true some
        go (x ∷ xs) some none = by_test (λ more found. go xs more found) (is_needed group (Some c) x) refl none
          where
            by_test : (list_any (is_same c) (begins_in xs) ≡ true → find (is_needed group (Some c)) xs ≡ None → ⊥) → (t : Bool) → is_needed group (Some c) x ≡ t → cond t (Some x) (find (is_needed group (Some c)) xs) ≡ None → ⊥
            by_test later true passes found = let no_way : Some x ≡ None = found in cc
            by_test later false fails found =
                let parts = or_parts (reaches_above group x) (list_any (is_same c) x.begins) fails in
                later (sym (list_any-append (is_same c) x.begins (begins_in xs) ∙ ap (λ b. b || list_any (is_same c) (begins_in xs)) parts.1) ∙ some) found

-- a block is needed only if a record begins in it
needed_begins : (group : ℕ) (begun : Option Committed) (b : KeptBlock) → is_needed group begun b ≡ true → b.begins ≡ [] → ⊥
needed_begins group None b is none = false≢true (sym (ap (λ (cs : List Committed). list_any (λ (r : Committed). nat_lt group r.group) cs || false) none) ∙ is)
needed_begins group (Some c) b is none = false≢true (sym (ap (λ (cs : List Committed). list_any (λ (r : Committed). nat_lt group r.group) cs || list_any (is_same c) cs) none) ∙ is)

-- where no block of a list is needed, none reaches above
none_reach : (group : ℕ) (begun : Option Committed) (bs : List KeptBlock) → list_any (is_needed group begun) bs ≡ false → list_any (reaches_above group) bs ≡ false
none_reach group begun [] none = refl
none_reach group begun (b ∷ bs) none =
    let parts = or_parts (is_needed group begun b) (list_any (is_needed group begun) bs) none in
    or_from (reaches_above group b) (list_any (reaches_above group) bs) (or_parts (reaches_above group b) (begins_unfinished begun b) parts.0).0 (none_reach group begun bs parts.1)

pub headers_are_at : HeadersAreAt
headers_are_at group log balanced =
    let p = part (is_needed group (begun_committed log.begun)) (needed_begins group (begun_committed log.begun)) None (begun_committed log.begun) log.kept balanced
    (λ none. finished (begun_committed log.begun) balanced none) in
    record {
      before = p.front;
      from = p.back;
      parted = p.parted;
      whole_before = p.whole;
      balanced = p.balanced;
      none_above = none_reach group (begun_committed log.begun) p.front p.none;
      header_is = ap (λ o. unwrap_or (option_map header_at o) log.next) p.found;
    }
  where
    finished : (o : Option Committed) → AreBalanced None log.kept o → find (is_needed group o) log.kept ≡ None → o ≡ None
    finished None is none = refl
    finished (Some c) is none = absurd (begun_is_found group c log.kept is none)

none_begin : (group : ℕ) (bs : List KeptBlock) → list_any (reaches_above group) bs ≡ false → list_any (λ (r : Committed). nat_lt group r.group) (begins_in bs) ≡ false
none_begin group [] none = refl
none_begin group (b ∷ bs) none =
    let p = or_parts (reaches_above group b) (list_any (reaches_above group) bs) none in
    list_any-append (λ (r : Committed). nat_lt group r.group) b.begins (begins_in bs)
    ∙ or_from (reaches_above group b) (list_any (λ (r : Committed). nat_lt group r.group) (begins_in bs)) p.0 (none_begin group bs p.1)

pub headers_reach : HeadersReach
headers_reach group header log at =
    let is_above : Committed → Bool = λ (r : Committed). nat_lt group r.group in
    let same : begins_in at.before ≡ ends_in at.before = balanced_sum None None at.before at.whole_before ∙ append-nil (ends_in at.before) in
    let gone : committed_above group (ends_in at.before) ≡ [] = ap (committed_above group) (sym same) ∙ none_above group (begins_in at.before) (none_begin group at.before at.none_above) in
    sym (ap (λ bs. committed_above group (ends_in bs)) at.parted ∙ ap (committed_above group) (flat_map-append (λ (b : KeptBlock). b.ends) at.before at.from)
    ∙ filter-append is_above (ends_in at.before) (ends_in at.from) ∙ ap (λ cs. cs ++ committed_above group (ends_in at.from)) gone)

-- one block more
pub taken_balanced : (log : Log) (t : Taken) → IsTaken log.begun log.pending t → AreBalanced (begun_committed log.begun) (block_taken log.next t ∷ []) (begun_committed t.begun)
taken_balanced log t is = go log.begun is
  where
    noted : List Record → List Committed
    noted rs = map committed_of rs

    go : (o : Option Begun) → IsTaken o log.pending t → AreBalanced (begun_committed o) (block_taken log.next t ∷ []) (begun_committed t.begun)
    go (Some g) (begins, pending, bytes, inl (fits, ends, done)) = (ap noted begins, inr (ap noted ends, sym (ap begun_committed done)))
    go (Some g) (begins, pending, bytes, inr (more, ends, left)) = (ap noted begins, inl (ap noted ends, sym (ap begun_committed left)))
    go None (inl (whole, ends, bytes, done)) =
        let many : length (map committed_of t.begins) ≡ length t.begins = length-map t.begins committed_of in
        inl (omega (arith, many, whole.some), ap noted (sym ends), sym (ap begun_committed done))
    go None (inr (r, front, begins, long, ends, bytes, left)) = inr (committed_of r, ap noted begins, ap noted ends, sym (ap begun_committed left))

pub writes_keep_balance : WritesKeepBalance
writes_keep_balance log t address is balanced =
    balanced_joined None (begun_committed log.begun) (begun_committed t.begun) log.kept (block_taken log.next t ∷ []) balanced (taken_balanced log t is)

-- from a block number on, which is no later than that of the next block
pub writes_keep_balance_from : (low : ℕ) (log : Log) (t : Taken) (address : ℕ) → IsTaken log.begun log.pending t → low ≤ log.next.number
    → AreBalanced None (filter (λ (b : KeptBlock). nat_le low b.number) log.kept) (begun_committed log.begun)
    → AreBalanced None (filter (λ (b : KeptBlock). nat_le low b.number) (log_after_write t address log).kept) (begun_committed t.begun)
writes_keep_balance_from low log t address is within balanced =
    let block : KeptBlock = block_taken log.next t in
    let front : List KeptBlock = filter (λ (b : KeptBlock). nat_le low b.number) log.kept in
    let pushed : filter (λ (b : KeptBlock). nat_le low b.number) (log.kept ++ block ∷ []) ≡ front ++ block ∷ [] =
    filter-append (λ (b : KeptBlock). nat_le low b.number) log.kept (block ∷ []) ∙ ap (λ (c : Bool). front ++ cond c (block ∷ []) []) (le-leb low log.next.number within) in
    subst (λ (bs : List KeptBlock). AreBalanced None bs (begun_committed t.begun)) (sym pushed)
    (balanced_joined None (begun_committed log.begun) (begun_committed t.begun) front (block ∷ []) balanced (taken_balanced log t is))

pub writes_keep_headers : WritesKeepHeaders
writes_keep_headers group header log t address is at = record {
  before = at.before;
  from = at.from ++ block_taken log.next t ∷ [];
  parted = ap (λ bs. bs ++ block_taken log.next t ∷ []) at.parted ∙ append_assoc at.before at.from (block_taken log.next t ∷ []);
  whole_before = at.whole_before;
  balanced = balanced_joined None (begun_committed log.begun) (begun_committed t.begun) at.from (block_taken log.next t ∷ []) at.balanced (taken_balanced log t is);
  none_above = at.none_above;
  header_is = at.header_is ∙ first at.from;
}
  where
    first : (from : List KeptBlock) → unwrap_or (option_map header_at (slice_get from 0)) log.next
        ≡ unwrap_or (option_map header_at (slice_get (from ++ block_taken log.next t ∷ []) 0)) (record { address = address; number = log.next.number + 1 })
    first [] = refl
    first (b ∷ bs) = refl

-- what ends, is begun and is pending after a write is what it was before
taken_order : (log : Log) (t : Taken) → IsTaken log.begun log.pending t
    → (map committed_of t.ends ++ as_list (begun_committed t.begun)) ++ map committed_of t.pending ≡ as_list (begun_committed log.begun) ++ map committed_of log.pending
taken_order log t is = go log.begun is
  where
    go : (o : Option Begun) → IsTaken o log.pending t → (map committed_of t.ends ++ as_list (begun_committed t.begun)) ++ map committed_of t.pending ≡ as_list (begun_committed o) ++ map committed_of log.pending
    go (Some g) (begins, pending, bytes, inl (fits, ends, done)) = (λ i. (map committed_of (ends i) ++ as_list (begun_committed (done i))) ++ map committed_of (pending i))
    go (Some g) (begins, pending, bytes, inr (more, ends, left)) = (λ i. (map committed_of (ends i) ++ as_list (begun_committed (left i))) ++ map committed_of (pending i))
    go None (inl (whole, ends, bytes, done)) =
        (λ i. (map committed_of (ends i) ++ as_list (begun_committed (done i))) ++ map committed_of t.pending)
        ∙ ap (λ cs. cs ++ map committed_of t.pending) (append-nil (map committed_of t.begins)) ∙ sym (map-append committed_of t.begins t.pending) ∙ ap (λ rs. map committed_of rs) (sym whole.front)
    go None (inr (r, front, begins, long, ends, bytes, left)) =
        (λ i. (map committed_of (ends i) ++ as_list (begun_committed (left i))) ++ map committed_of t.pending) ∙ ap (λ rs. map committed_of rs) (sym front)

pub writes_keep_order : WritesKeepOrder
writes_keep_order synced log entries t address is above order =
    let is_above : Committed → Bool = λ (r : Committed). nat_lt synced r.group in
    let before : List Committed = ends_in log.kept in
    let now : List Committed = as_list (begun_committed log.begun) in
    let later : List Committed = as_list (begun_committed t.begun) in
    let kept : ends_in (log_after_write t address log).kept ≡ before ++ map committed_of t.ends = flat_map-append (λ (b : KeptBlock). b.ends) log.kept (block_taken log.next t ∷ []) ∙ ap (λ cs. before ++ cs) (append-nil (map committed_of t.ends)) in
    let rest_above : committed_above synced (map committed_of t.pending) ≡ map committed_of t.pending = pending_above log.begun is in
    let all : (list : List Committed) → committed_above synced list ++ map committed_of t.pending ≡ committed_above synced (list ++ map committed_of t.pending) =
    λ list. ap (λ cs. committed_above synced list ++ cs) (sym rest_above) ∙ sym (filter-append is_above list (map committed_of t.pending)) in
    let shape : (ends_in (log_after_write t address log).kept ++ later) ++ map committed_of t.pending ≡ (before ++ now) ++ map committed_of log.pending =
    ap (λ cs. (cs ++ later) ++ map committed_of t.pending) kept
    ∙ ap (λ cs. cs ++ map committed_of t.pending) (append_assoc before (map committed_of t.ends) later)
    ∙ append_assoc before (map committed_of t.ends ++ later) (map committed_of t.pending)
    ∙ ap (λ cs. before ++ cs) (taken_order log t is)
    ∙ sym (append_assoc before now (map committed_of log.pending)) in
    all (ends_in (log_after_write t address log).kept ++ later) ∙ ap (committed_above synced) shape
    ∙ filter-append is_above (before ++ now) (map committed_of log.pending) ∙ ap (λ cs. committed_above synced (before ++ now) ++ cs) above ∙ order
  where
    -- of a list that is all above a group a rest is, too
    rest_of : (xs ys : List Committed) → committed_above synced (xs ++ ys) ≡ xs ++ ys → committed_above synced ys ≡ ys
    rest_of [] ys all = all
    rest_of (x ∷ xs) ys all = by_test (λ same. rest_of xs ys same) (nat_lt synced x.group) all
      where
        shorter : (cs : List Committed) → length (committed_above synced cs) ≤ length cs
        shorter [] = omega arith
        shorter (c ∷ cs) = pick (nat_lt synced c.group) (shorter cs)
          where
            pick : (b : Bool) → length (committed_above synced cs) ≤ length cs → length (cond b (c ∷ committed_above synced cs) (committed_above synced cs)) ≤ suc (length cs)
            pick true less = omega (arith, less)
            pick false less = omega (arith, less)

        by_test : (committed_above synced (xs ++ ys) ≡ xs ++ ys → committed_above synced ys ≡ ys) → (b : Bool) → cond b (x ∷ committed_above synced (xs ++ ys)) (committed_above synced (xs ++ ys)) ≡ x ∷ (xs ++ ys) → committed_above synced ys ≡ ys
        by_test later true same = later (let tail : committed_above synced (xs ++ ys) ≡ xs ++ ys = cc in tail)
        by_test later false same =
            let long : length (committed_above synced (xs ++ ys)) ≡ suc (length (xs ++ ys)) = ap (λ (l : List Committed). length l) same in
            let short = shorter (xs ++ ys) in
            absurd (omega (arith, long, short))

    pending_above : (o : Option Begun) → IsTaken o log.pending t → committed_above synced (map committed_of t.pending) ≡ map committed_of t.pending
    pending_above (Some g) (begins, pending, bytes, ends) = ap (λ (rs : List Record). committed_above synced (map committed_of rs)) pending ∙ above ∙ ap (λ (rs : List Record). map committed_of rs) (sym pending)
    pending_above None (inl (whole, ends, bytes, done)) =
        let joined : map committed_of log.pending ≡ map committed_of t.begins ++ map committed_of t.pending = ap (λ (rs : List Record). map committed_of rs) whole.front ∙ map-append committed_of t.begins t.pending in
        rest_of (map committed_of t.begins) (map committed_of t.pending) (ap (committed_above synced) (sym joined) ∙ above ∙ joined)
    pending_above None (inr (r, front, begins, long, ends, bytes, left)) =
        let joined : map committed_of log.pending ≡ committed_of r ∷ map committed_of t.pending = ap (λ (rs : List Record). map committed_of rs) front in
        rest_of (committed_of r ∷ []) (map committed_of t.pending) (ap (committed_above synced) (sym joined) ∙ above ∙ joined)
