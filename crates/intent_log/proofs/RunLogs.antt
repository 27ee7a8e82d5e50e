-- What is true of a log stays so through a commit, a write, a flush and the end of a sync. So does the header of a sync
-- that runs.
use Rattle.std.proofs.Common.{◌≡◌, ℕ, ◌<◌, ◌≤◌, ◌==◌, ◌&&◌, ◌||◌, Bool, true, false, cond, List, [], ◌∷◌, ◌++◌, inl, inr, map, filter, length, append_assoc, ap, refl, sym, subst, ◌∙◌, arith}
use Rattle.std.specs.Prelude.{All, None, Option, Some, nat_le, nat_lt}
use Rattle.std.specs.List.{flat_map, list_any}
use Rattle.std.proofs.Math.Logic.{∥∥₁_elim, ∥∥₁_map}
use Rattle.std.proofs.Math.Seq.{drop-append_seam, take-append_seam}
use mathlib.Core.Bool.{Bool-set}
use Rattle.std.proofs.lemmas.Bool.{and_parts, eqb-true, eq-eqb, false≢true, le-leb, leb-false, leb-true, lt-ltb, ltb-true, true≢false}
use Rattle.std.proofs.lemmas.Grind.{flat_map-append}
use Rattle.std.proofs.lemmas.List.{append-nil, map-append}
use Rattle.std.proofs.lemmas.List.Elements.{All-drop, All-map, All-nil, All-push, All-take, All-weaker, filter-append}
use Rattle.std.proofs.lemmas.List.Folds.{flat_map-map, list_any-append}
use Rattle.base.specs.kept.Layout.{kept_from}
use Rattle.base.specs.kept.LogSteps.{IsHeaderIn}
use Rattle.base.specs.formats.Chain.{Header}
use Rattle.base.specs.formats.Records.{Record}
use Rattle.base.specs.steps.Logs.{AreBalanced, Begun, Committed, IsTaken, KeptBlock, Log, Taken, begins_record, begun_committed, committed_above, committed_in, committed_of, header_for, is_begun_in, is_same, log_after_commit, log_after_flush, log_after_sync, log_after_write, reaches_above}
use Rattle.base.proofs.common.KeptLists.{All-each, at_filter, any_map}
use Rattle.base.proofs.common.Sieves.{filter_all}
use Rattle.base.proofs.crash.LogHeaders.{header_for-in, header_in-flush, header_in-write, kept_block, kept_from-flush}
use Rattle.base.proofs.history.LogOrder.{above_again, dropped, filter-noted}
use Rattle.base.proofs.steps.BegunLogs.{writes_keep_balance, writes_keep_balance_from}
use Rattle.base.proofs.steps.KeptFlushes.{flushed_balanced}
use Rattle.base.proofs.steps.KeptSyncs.{AreNumbered, header_balanced, header_first}
use Rattle.intent_log.specs.RunLogs.{IsLogOf, KeepsHeader, is_unsynced_in}

-- the log of a run that begins
pub first_log : (synced : ℕ) (next : Header) → IsLogOf synced (record { unsynced = []; begun = None; pending = []; kept = []; next = next })
first_log synced next = record { above = All-nil (λ (r : Record). synced < r.group); in_order = refl; balanced = ∣ refl ∣₁ }

-- a record more, of a later group
pub entered_log : (synced : ℕ) (r : Record) (log : Log) → synced < r.group → IsLogOf synced log → IsLogOf synced (log_after_commit r log)
entered_log synced r log above x =
    let begun : List Committed = committed_above synced (committed_in log) in
    record {
      above = All-push (λ (y : Record). synced < y.group) log.unsynced r x.above above;
      in_order = map-append committed_of log.unsynced (r ∷ []) ∙ ap (λ (cs : List Committed). cs ++ committed_of r ∷ []) x.in_order
          ∙ append_assoc begun (map committed_of log.pending) (committed_of r ∷ [])
          ∙ ap (λ (cs : List Committed). begun ++ cs) (sym (map-append committed_of log.pending (r ∷ [])));
      balanced = x.balanced;
    }

-- the pending records begin with those that a write takes
front_taken : (log : Log) (t : Taken) → IsTaken log.begun log.pending t → log.pending ≡ t.begins ++ t.pending
front_taken log t is = go log.begun is
  where
    go : (o : Option Begun) → IsTaken o log.pending t → log.pending ≡ t.begins ++ t.pending
    go (Some g) (begins, pending, used, rest) = sym pending ∙ ap (λ (rs : List Record). rs ++ t.pending) (sym begins)
    go None (inl (whole, ends, used, begun)) = whole.front
    go None (inr (r, front, begins, long, ends, used, begun)) = front ∙ ap (λ (rs : List Record). rs ++ t.pending) (sym begins)

-- a block more
pub written_log : (synced : ℕ) (t : Taken) (address : ℕ) (log : Log) → IsTaken log.begun log.pending t → IsLogOf synced log → IsLogOf synced (log_after_write t address log)
written_log synced t address log is x = record {
  above = x.above;
  in_order = x.in_order ∙ ap (λ (cs : List Committed). old ++ cs) parts ∙ sym (append_assoc old begins rest) ∙ ap (λ (cs : List Committed). cs ++ rest) (sym now);
  balanced = ∥∥₁_map {A = AreBalanced None log.kept (begun_committed log.begun)} {B = AreBalanced None (log_after_write t address log).kept (begun_committed t.begun)} x.balanced
      (λ all. writes_keep_balance log t address is all);
}
  where
    is_above : Committed → Bool
    is_above c = nat_lt synced c.group

    old : List Committed
    old = committed_above synced (committed_in log)

    begins : List Committed
    begins = map committed_of t.begins

    rest : List Committed
    rest = map committed_of t.pending

    parts : map committed_of log.pending ≡ begins ++ rest
    parts = ap (map committed_of) (front_taken log t is) ∙ map-append committed_of t.begins t.pending

    all_above : All (λ c. is_above c ≡ true) (map committed_of log.unsynced)
    all_above = All-map (λ c. is_above c ≡ true) committed_of log.unsynced (All-weaker (λ (r : Record). synced < r.group) (λ (r : Record). nat_lt synced r.group ≡ true) (λ r low. lt-ltb synced r.group low) log.unsynced x.above)

    pending_above : All (λ c. is_above c ≡ true) (begins ++ rest)
    pending_above = subst (All (λ c. is_above c ≡ true)) (drop-append_seam old (map committed_of log.pending) ∙ parts)
        (All-drop (λ c. is_above c ≡ true) (length old) (old ++ map committed_of log.pending) (subst (All (λ c. is_above c ≡ true)) x.in_order all_above))

    begins_above : All (λ c. is_above c ≡ true) begins
    begins_above = subst (All (λ c. is_above c ≡ true)) (take-append_seam begins rest) (All-take (λ c. is_above c ≡ true) (length begins) (begins ++ rest) pending_above)

    now : committed_above synced (committed_in (log_after_write t address log)) ≡ old ++ begins
    now =
        ap (committed_above synced) (flat_map-append (λ (b : KeptBlock). b.begins) log.kept (kept_block t log ∷ []) ∙ ap (λ (cs : List Committed). committed_in log ++ cs) (append-nil begins))
        ∙ filter-append is_above (committed_in log) begins ∙ ap (λ (cs : List Committed). old ++ cs) (filter_all is_above begins begins_above)

-- a flush
committed-flushed : (log : Log) → committed_in (log_after_flush log) ≡ committed_in log
committed-flushed log = flat_map-map (λ (b : KeptBlock). b.begins) (λ (b : KeptBlock). record b { flushed = true }) log.kept

pub flushed_log : (synced : ℕ) (log : Log) → IsLogOf synced log → IsLogOf synced (log_after_flush log)
flushed_log synced log x = record {
  above = x.above;
  in_order = x.in_order ∙ ap (λ (cs : List Committed). committed_above synced cs ++ map committed_of log.pending) (sym (committed-flushed log));
  balanced = ∥∥₁_map {A = AreBalanced None log.kept (begun_committed log.begun)} {B = AreBalanced None (log_after_flush log).kept (begun_committed log.begun)} x.balanced
      (λ all. flushed_balanced None log.kept (begun_committed log.begun) all);
}

-- the end of the sync of a group, with its header
pub synced_log : (synced group : ℕ) (header : Header) (log : Log) → synced ≤ group → KeepsHeader group header log → IsLogOf synced log → IsLogOf group (log_after_sync group header log)
synced_log synced group header log no_lower kept x = record {
  above = All-each (λ (r : Record). group < r.group) (filter is_later log.unsynced) (λ i r at. ltb-true group r.group (at_filter is_later log.unsynced i r at).2);
  in_order = filter-noted group log.unsynced ∙ ap (committed_above group) x.in_order
      ∙ filter-append (λ (c : Committed). nat_lt group c.group) (committed_above synced (committed_in log)) (map committed_of log.pending)
      ∙ (λ k. (above_again synced group no_lower (committed_in log) ∙ sym (dropped group (λ (b : KeptBlock). nat_le header.number b.number) log.kept kept.none_before)) k ++ sym (filter-noted group log.pending) k);
  balanced = kept.balanced;
}
  where
    is_later : Record → Bool
    is_later r = nat_lt group r.group

-- A sync starts with the header for its group.
pub header_starts : (group : ℕ) (log : Log) (header : Header) → AreNumbered log → ∥ AreBalanced None log.kept (begun_committed log.begun) ∥₁ → header ≡ header_for group log → KeepsHeader group header log
header_starts group log header numbered balanced is = subst (λ (h : Header). KeepsHeader group h log) (sym is) (record {
  in_log = ∣ header_for-in group log ∣₁;
  none_before = All-each (λ (b : KeptBlock). nat_le first.number b.number ≡ false → reaches_above group b ≡ false) log.kept
      (λ i b at low. ∥∥₁_elim balanced (Bool-set _ _) (λ all. (header_first group log numbered all i b at (leb-false first.number b.number low)).0));
  balanced = ∥∥₁_map {A = AreBalanced None log.kept (begun_committed log.begun)} {B = AreBalanced None from (begun_committed log.begun)} balanced (λ all. header_balanced group log numbered all);
})
  where
    first : Header
    first = header_for group log

    from : List KeptBlock
    from = filter (λ (b : KeptBlock). nat_le first.number b.number) log.kept

-- The header of a running sync is no later than the next one.
no_later : (header : Header) (log : Log) → AreNumbered log → IsHeaderIn header log → header.number ≤ log.next.number
no_later header log numbered (inl next) = let same = ap (λ (h : Header). h.number) next in omega (arith, same)
no_later header log numbered (inr (i, b, at, is)) = let number = numbered i b at in let same : b.number ≡ header.number = ap (λ (h : Header). h.number) is in omega (arith, number, same)

pub header_entered : (group : ℕ) (header : Header) (r : Record) (log : Log) → KeepsHeader group header log → KeepsHeader group header (log_after_commit r log)
header_entered group header r log x = record { in_log = x.in_log; none_before = x.none_before; balanced = x.balanced }

pub header_written : (group address : ℕ) (header : Header) (t : Taken) (log : Log) → IsTaken log.begun log.pending t → AreNumbered log → KeepsHeader group header log
    → KeepsHeader group header (log_after_write t address log)
header_written group address header t log is numbered x =
    let low : nat_le header.number log.next.number ≡ true = ∥∥₁_elim x.in_log (Bool-set _ _) (λ at. le-leb header.number log.next.number (no_later header log numbered at)) in
    record {
      in_log = ∥∥₁_map {A = IsHeaderIn header log} {B = IsHeaderIn header (log_after_write t address log)} x.in_log (λ at. header_in-write t address header log at);
      none_before = All-push (λ (b : KeptBlock). nat_le header.number b.number ≡ false → reaches_above group b ≡ false) log.kept (kept_block t log) x.none_before (λ before. absurd (true≢false (sym low ∙ before)));
      balanced = ∥∥₁_map {A = AreBalanced None (kept_from header log) (begun_committed log.begun)}
          {B = AreBalanced None (kept_from header (log_after_write t address log)) (begun_committed t.begun)} x.balanced
          (λ all. writes_keep_balance_from header.number log t address is (leb-true header.number log.next.number low) all);
    }

pub header_flushed : (group : ℕ) (header : Header) (log : Log) → KeepsHeader group header log → KeepsHeader group header (log_after_flush log)
header_flushed group header log x = record {
  in_log = ∥∥₁_map {A = IsHeaderIn header log} {B = IsHeaderIn header (log_after_flush log)} x.in_log (λ is. header_in-flush header log is);
  none_before = All-map (λ (b : KeptBlock). nat_le header.number b.number ≡ false → reaches_above group b ≡ false) (λ (b : KeptBlock). record b { flushed = true }) log.kept x.none_before;
  balanced = ∥∥₁_map {A = AreBalanced None (kept_from header log) (begun_committed log.begun)} {B = AreBalanced None (kept_from header (log_after_flush log)) (begun_committed log.begun)} x.balanced
      (λ all. subst (λ (bs : List KeptBlock). AreBalanced None bs (begun_committed log.begun)) (sym (kept_from-flush header log)) (flushed_balanced None (kept_from header log) (begun_committed log.begun) all));
}

-- equality is the same both ways
both_ways : (m n : ℕ) → (m == n) ≡ (n == m)
both_ways m n = go (m == n) (n == m) refl refl
  where
    go : (a b : Bool) → (m == n) ≡ a → (n == m) ≡ b → a ≡ b
    go true true h k = refl
    go false false h k = refl
    go true false h k = absurd (false≢true (sym k ∙ eq-eqb n m (sym (eqb-true m n h))))
    go false true h k = absurd (false≢true (sym h ∙ eq-eqb m n (sym (eqb-true n m k))))

or-swap : (a b : Bool) → (a || b) ≡ (b || a)
or-swap true true = refl
or-swap true false = refl
or-swap false true = refl
or-swap false false = refl

-- the record of a committed transaction begins in some block exactly if it is in the list of all that begin in them
in-blocks : (c : Committed) (ks : List KeptBlock) → list_any (λ b. begins_record b c) ks ≡ list_any (is_same c) (flat_map (λ (b : KeptBlock). b.begins) ks)
in-blocks c [] = refl
in-blocks c (k ∷ ks) =
    ap (λ b. list_any (is_same c) k.begins || b) (in-blocks c ks)
    ∙ sym (list_any-append (is_same c) k.begins (flat_map (λ (b : KeptBlock). b.begins) ks))

-- of a group above another it is among those above
among_above : (group : ℕ) (c : Committed) (xs : List Committed) → nat_lt group c.group ≡ true → list_any (is_same c) xs ≡ list_any (is_same c) (committed_above group xs)
among_above group c [] above = refl
among_above group c (x ∷ xs) above = go (nat_lt group x.group) refl (among_above group c xs above)
  where
    rest : List Committed
    rest = committed_above group xs

    below : nat_lt group x.group ≡ false → (b : Bool) → is_same c x ≡ b → b ≡ false
    below is true h =
        let same = eqb-true c.group x.group (and_parts (c.ordinal == x.ordinal) (c.group == x.group) h).1 in
        absurd (false≢true (sym is ∙ ap (nat_lt group) (sym same) ∙ above))
    below is false h = refl

    go : (b : Bool) → nat_lt group x.group ≡ b → list_any (is_same c) xs ≡ list_any (is_same c) rest → (is_same c x || list_any (is_same c) xs) ≡ list_any (is_same c) (cond b (x ∷ rest) rest)
    go true is same = ap (λ b. is_same c x || b) same
    go false is same = ap (λ b. b || list_any (is_same c) xs) (below is (is_same c x) refl) ∙ same

-- The record of a committed transaction of a later group is pending or begun exactly if it is unsynced.
pub unsynced_named : (synced : ℕ) (c : Committed) (log : Log) → nat_lt synced c.group ≡ true → IsLogOf synced log
    → (list_any (λ (r : Record). (r.ordinal == c.ordinal) && (r.group == c.group)) log.pending || is_begun_in log c) ≡ is_unsynced_in log c
unsynced_named synced c log above x =
    (λ k. same log.pending k || (in-blocks c log.kept ∙ among_above synced c (committed_in log) above) k)
    ∙ or-swap (list_any (is_same c) (map committed_of log.pending)) (list_any (is_same c) (committed_above synced (committed_in log)))
    ∙ sym (list_any-append (is_same c) (committed_above synced (committed_in log)) (map committed_of log.pending))
    ∙ ap (list_any (is_same c)) (sym x.in_order) ∙ any_map (is_same c) committed_of log.unsynced
  where
    same : (rs : List Record) → list_any (λ (r : Record). (r.ordinal == c.ordinal) && (r.group == c.group)) rs ≡ list_any (is_same c) (map committed_of rs)
    same [] = refl
    same (r ∷ rs) = λ k. (both_ways r.ordinal c.ordinal k && both_ways r.group c.group k) || same rs k
