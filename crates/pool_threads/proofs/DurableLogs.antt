-- Once nothing is due for the log, each entry is durable: its group is synced, or its record lies in a flushed block.
use Rattle.std.proofs.Common.{◌≡◌, ◌<◌, ◌+◌, ◌++◌, ◌∷◌, ◌||◌, ◌&&◌, ℕ, zero, suc, [], Bool, List, ap, arith, append-nil, false, length, not, refl, subst, sym, true, ◌∙◌}
use Rattle.std.specs.Prelude.{◌==◌, Err, None, Ok, Option, Some, if◌then◌else◌, is_none, map, nat_le, nat_lt, slice_get}
use Rattle.std.specs.List.{enumerate_from, list_any}
use Rattle.std.proofs.lemmas.Bool.{and_parts, eqb-true, false≢true, leb-false, or_left, or_right, not-false}
use Rattle.std.proofs.lemmas.List.Folds.{list_any-append}
use Rattle.base.specs.declared.step.Step as declared_step
use Rattle.base.specs.declared.step.Step.TheVariants as step
use Rattle.base.specs.declared.step.Reply.TheVariants as reply
use Rattle.base.specs.history.History.{Entry}
use Rattle.base.specs.history.Past.{Past}
use Rattle.base.specs.steps.Exact.{IsLogExact}
use Rattle.base.specs.steps.Tables.{AreTablesExplained}
use Rattle.base.specs.steps.Logs.{Begun, Committed, KeptBlock, Log, as_list, awaits_flush, begins_in, begun_committed, committed_above, committed_entries, committed_in, committed_of, ends_in, has_record, is_flushed_in, is_same, log_after_flush}
use Rattle.base.specs.steps.Refusals.{log_flush_refusal}
use Rattle.base.specs.steps.Shown.{Shown, is_durable}
use Rattle.base.specs.steps.Steps.{State}
use Rattle.base.proofs.common.KeptLists.{any_at, any_filter, any_found, none_any, none_at, Some-injective}
use Rattle.base.proofs.history.CommitOrder.{ok-none}
use Rattle.base.proofs.steps.BegunLogs.{balanced_sum, same_itself}
use Rattle.base.proofs.steps.SeenGroups.{durable_is_known}
use Rattle.pool_core.specs.StepReplies.{IsStep}
use Rattle.pool_tables.specs.Duties.{is_log_pending, log_step}
use Rattle.pool_threads.specs.Waits.{AreDurable}

-- no record is pending or begun, and no block awaits a flush
pub record IsSettled (log : Log) : Type 0 where
  pub none_pending : log.pending ≡ []
  pub none_begun : log.begun ≡ None
  pub flushed : awaits_flush log ≡ false

empty : {A : Type 0} (xs : List A) → (length xs == 0) ≡ true → xs ≡ []
empty [] is = refl
empty (x ∷ xs) is = absurd (let no_way : suc (length xs) ≡ 0 = eqb-true (suc (length xs)) 0 is in omega arith)

no-begun : (o : Option Begun) → is_none o ≡ true → o ≡ None
no-begun None is = refl
no-begun (Some g) is = absurd (false≢true is)

-- whether it is so by the tests of what is due
settled_by : (log : Log) → not ((length log.pending == 0) && is_none log.begun) ≡ false → awaits_flush log ≡ false → IsSettled log
settled_by log written flushed =
    let both = and_parts (length log.pending == 0) (is_none log.begun) (not-false ((length log.pending == 0) && is_none log.begun) written) in
    record { none_pending = empty log.pending both.0; none_begun = no-begun log.begun both.1; flushed = flushed }

quiet-right : (a b : Bool) → (a || b) ≡ false → b ≡ false
quiet-right true b h = absurd (false≢true (sym h))
quiet-right false b h = h

pub settled : (s : Shown) → log_step s ≡ None → IsSettled s.log
settled s none = go (s.suspended || is_log_pending s) refl (awaits_flush s.log) refl none
  where
    go : (a : Bool) → (s.suspended || is_log_pending s) ≡ a → (b : Bool) → awaits_flush s.log ≡ b → (if a then Some step.LogWrite else if b then Some step.LogFlush else None) ≡ None → IsSettled s.log
    go true is b h due = absurd (let no_way : Some step.LogWrite ≡ None = due in cc)
    go false is true h due = absurd (let no_way : Some step.LogFlush ≡ None = due in cc)
    go false is false h due = settled_by s.log (quiet-right s.suspended (is_log_pending s) is) h

-- a step that was due for the log and was answered as a flush leaves a settled one
pub settled_after : (st : declared_step.Step) (old new : State) → log_step old.shown ≡ Some st → IsStep st reply.Flushed old new → IsSettled new.shown.log
settled_after st old new due made = go (old.shown.suspended || is_log_pending old.shown) refl (awaits_flush old.shown.log) due
  where
    none_awaits : (bs : List KeptBlock) → list_any (λ (b : KeptBlock). not b.flushed) (map (λ (b : KeptBlock). record b { flushed = true }) bs) ≡ false
    none_awaits [] = refl
    none_awaits (b ∷ bs) = none_awaits bs

    flushes : (s : declared_step.Step) → Some s ≡ Some st → IsStep s reply.Flushed old new
    flushes s is = subst (λ (x : declared_step.Step). IsStep x reply.Flushed old new) (sym (Some-injective is)) made

    flush : not ((length old.shown.log.pending == 0) && is_none old.shown.log.begun) ≡ false → IsStep step.LogFlush reply.Flushed old new → IsSettled new.shown.log
    flush written (Ok done, is, h) =
        let after = (ok-none (log_flush_refusal old.shown) done old new _ _ h).1 in
        subst (λ (t : State). IsSettled t.shown.log) (sym after) (settled_by (log_after_flush old.shown.log) written (none_awaits old.shown.log.kept))
    flush written (Err e, is, h) = absurd (let no_way : reply.Flushed ≡ reply.Refused e = is in cc)

    write : IsStep step.LogWrite reply.Flushed old new → ⊥
    write (Ok count, is, h) = let no_way : reply.Flushed ≡ reply.Logged count = is in cc
    write (Err e, is, h) = let no_way : reply.Flushed ≡ reply.Refused e = is in cc

    go : (a : Bool) → (old.shown.suspended || is_log_pending old.shown) ≡ a → (b : Bool) → (if a then Some step.LogWrite else if b then Some step.LogFlush else None) ≡ Some st → IsSettled new.shown.log
    go true is b due = absurd (write (flushes step.LogWrite due))
    go false is true due = flush (quiet-right old.shown.suspended (is_log_pending old.shown) is) (flushes step.LogFlush due)
    go false is false due = absurd (let no_way : None ≡ Some st = due in cc)

-- what is noted of an entry
abbrev noted : ℕ → Entry → Committed
noted o e = record { ordinal = o; group = e.group }

-- an entry is among those that are noted of a history
at_entries : (k : ℕ) (xs : List Entry) (i : ℕ) (e : Entry) → slice_get xs i ≡ Some e → list_any (is_same (noted (k + i) e)) (map (λ (p : ℕ × Entry). noted p.0 p.1) (enumerate_from k xs)) ≡ true
at_entries k [] i e at = absurd (none_at i e at)
at_entries k (x ∷ xs) zero e at =
    let same : x ≡ e = Some-injective at in
    let here : k + 0 ≡ k = omega arith in
    or_left (is_same (noted (k + 0) e) (noted k x)) _ (ap (λ (f : Entry). is_same (noted (k + 0) e) (noted k f)) same ∙ ap (λ (n : ℕ). is_same (noted n e) (noted k e)) here ∙ same_itself (noted k e))
at_entries k (x ∷ xs) (suc i) e at =
    let next : k + 1 + i ≡ k + suc i = omega arith in
    or_right (is_same (noted (k + suc i) e) (noted k x)) _ (subst (λ (n : ℕ). list_any (is_same (noted n e)) (map (λ (p : ℕ × Entry). noted p.0 p.1) (enumerate_from (k + 1) xs)) ≡ true) next (at_entries (k + 1) xs i e at))

-- those of groups above the synced one are not left out of the ones above it
above_kept : (synced : ℕ) (c : Committed) (cs : List Committed) → synced < c.group → list_any (is_same c) (committed_above synced cs) ≡ list_any (is_same c) cs
above_kept synced c cs above = any_filter (λ (r : Committed). nat_lt synced r.group) (is_same c) cs (λ i x at low. other x low (is_same c x) refl)
  where
    other : (x : Committed) → nat_lt synced x.group ≡ false → (b : Bool) → is_same c x ≡ b → is_same c x ≡ false
    other x low false is = is
    other x low true is =
        let group : c.group ≡ x.group = eqb-true c.group x.group (and_parts (c.ordinal == x.ordinal) (c.group == x.group) is).1 in
        absurd (let less : x.group < suc synced = leb-false (suc synced) x.group low in omega arith)

-- a record that ends in some of these blocks has one of them
in_block : (c : Committed) (bs : List KeptBlock) → list_any (is_same c) (ends_in bs) ≡ true → list_any (λ b. has_record b c) bs ≡ true
in_block c [] is = absurd (false≢true is)
in_block c (b ∷ bs) is = go (has_record b c) refl (λ h. in_block c bs h)
  where
    go : (x : Bool) → has_record b c ≡ x → (list_any (is_same c) (ends_in bs) ≡ true → list_any (λ d. has_record d c) bs ≡ true) → list_any (λ d. has_record d c) (b ∷ bs) ≡ true
    go true here rest = or_left (has_record b c) _ here
    go false here rest =
        let joined : (has_record b c || list_any (is_same c) (ends_in bs)) ≡ true = sym (list_any-append (is_same c) b.ends (ends_in bs)) ∙ is in
        or_right (has_record b c) _ (rest (sym (ap (λ x. x || list_any (is_same c) (ends_in bs)) here) ∙ joined))

-- if no block awaits a flush, it lies in a flushed one
in_flushed : (log : Log) (c : Committed) → awaits_flush log ≡ false → list_any (λ b. has_record b c) log.kept ≡ true → is_flushed_in log c ≡ true
in_flushed log c none is =
    let found = any_found (λ b. has_record b c) log.kept is in
    let flushed = none_any (λ (b : KeptBlock). not b.flushed) log.kept found.0 found.1 none found.2 in
    any_at (λ (b : KeptBlock). b.flushed && has_record b c) log.kept found.0 found.1 found.2 (both found.1.flushed (has_record found.1 c) flushed found.3)
  where
    both : (f h : Bool) → not f ≡ false → h ≡ true → (f && h) ≡ true
    both true h unlike holds = holds
    both false h unlike holds = absurd (false≢true (sym unlike))

module _ (s : Shown) (past : Past) (x : AreTablesExplained s past) (log : IsSettled s.log) where
  abbrev exact : IsLogExact s past
  exact = x.exact.log

  -- what is above the synced group begins in a kept block, and all that begins there ends there
  all_in_blocks : committed_above s.line.synced (ends_in s.log.kept) ≡ committed_above s.line.synced (committed_entries past.entries)
  all_in_blocks =
      let begun : begins_in s.log.kept ≡ ends_in s.log.kept ++ as_list (begun_committed s.log.begun) = balanced_sum None (begun_committed s.log.begun) s.log.kept exact.balanced in
      let same : begins_in s.log.kept ≡ ends_in s.log.kept = begun ∙ ap (λ o. ends_in s.log.kept ++ as_list (begun_committed o)) log.none_begun ∙ append-nil (ends_in s.log.kept) in
      ap (committed_above s.line.synced) (sym same)
      ∙ sym (append-nil (committed_above s.line.synced (committed_in s.log)))
      ∙ ap (λ ps. committed_above s.line.synced (committed_in s.log) ++ map committed_of ps) (sym log.none_pending)
      ∙ exact.in_order

  shown_durable : (o : ℕ) (e : Entry) → slice_get past.entries o ≡ Some e → is_durable s o e.group ≡ true
  shown_durable o e at = go (nat_le e.group s.line.synced) refl
    where
      go : (b : Bool) → nat_le e.group s.line.synced ≡ b → is_durable s o e.group ≡ true
      go true is = or_left (nat_le e.group s.line.synced) (is_flushed_in s.log (noted o e)) is
      go false is =
          let above : s.line.synced < e.group = leb-false e.group s.line.synced is in
          let listed : list_any (is_same (noted o e)) (committed_entries past.entries) ≡ true =
          let from_none : 0 + o ≡ o = omega arith in
          subst (λ (n : ℕ). list_any (is_same (noted n e)) (committed_entries past.entries) ≡ true) from_none (at_entries 0 past.entries o e at) in
          let kept : list_any (is_same (noted o e)) (ends_in s.log.kept) ≡ true =
          sym (above_kept s.line.synced (noted o e) (ends_in s.log.kept) above) ∙ ap (list_any (is_same (noted o e))) all_in_blocks ∙ above_kept s.line.synced (noted o e) (committed_entries past.entries) above ∙ listed in
          or_right (nat_le e.group s.line.synced) (is_flushed_in s.log (noted o e)) (in_flushed s.log (noted o e) log.flushed (in_block (noted o e) s.log.kept kept))

-- so each entry is known to be durable
pub all_durable : (s : State) → AreTablesExplained s.shown s.past → IsSettled s.shown.log → AreDurable s s
all_durable s x log = λ o e at. durable_is_known o e.group s s x (shown_durable s.shown s.past x log o e at) ([], [], refl)
