-- What the reply to an append, an abort or a question for a length says, and that some calls never want memory.
use Rattle.std.proofs.Common.{◌≡◌, ℕ, ◌≤◌, Bool, true, false, not, ◌&&◌, List, [], ◌∷◌, length, refl, ap, sym, subst, ◌∙◌, arith}
use Rattle.std.specs.Prelude.{Option, Some, None, Result, Ok, Err, slice_get, ◌==◌}
use Rattle.std.specs.List.{list_all}
use Rattle.std.proofs.lemmas.Bool.{eq-eqb, and_parts, or_left, or_right, eqb-true, not-true}
use Rattle.std.proofs.lemmas.List.Folds.{list_any-append}
use Rattle.base.specs.declared.error.PoolError.{PoolError}
use Rattle.base.specs.declared.names.LockId.{LockId}
use Rattle.base.specs.declared.names.ObjectId.{ObjectId}
use Rattle.base.specs.declared.names.Owner.{Owner}
use Rattle.base.specs.declared.names.TxId.{TxId}
use Rattle.base.specs.declared.range.Mode.TheVariants.{Writer}
use Rattle.base.specs.declared.range.Range.{Range}
use Rattle.base.specs.declared.step.Step.TheVariants as step
use Rattle.base.specs.declared.step.Reply as declared_reply
use Rattle.base.specs.declared.step.Reply.TheVariants as reply
use Rattle.base.specs.history.Past.{Past}
use Rattle.base.specs.steps.Additions.{past_after}
use Rattle.base.specs.steps.Tables.{GoesOn}
use Rattle.base.specs.steps.Groups.{Admission, is_committed}
use Rattle.base.specs.steps.Locks.{Grant, is_in}
use Rattle.base.specs.steps.Refusals as refusal
use Rattle.base.specs.steps.Refusals.{Test, first_refusal, object_range}
use Rattle.base.specs.steps.Runs.{Replies, Step}
use Rattle.base.specs.steps.Seen.{IsAborted, IsGranted, IsLengthBetween, IsMadeBetween}
use Rattle.base.specs.steps.SeenLaws.{is_untested}
use Rattle.base.specs.steps.Steps.{Answers, Never, State}
use Rattle.base.proofs.common.KeptLists.{at_filter, at_last, found_at}
use Rattle.base.proofs.history.CommitOrder.{ok-none}
use Rattle.base.proofs.steps.Additions.{told_past}
use Rattle.base.proofs.steps.SeenStates.{at-prefix, contents_are_between, grown, no-shorter, in-prefix, not-in-prefix}

pub appends_are_seen : (owner : Owner) (n : ObjectId) (id : LockId) (range : Range) (before after : State) → IsMadeBetween ⊥ (step.LockAppend owner n) (reply.Appended id range) before after
    → IsGranted owner.0 (object_range n.0 range.low range.high) Writer id.0 before after
appends_are_seen owner n id range before after m =
    let old : State = m.old in
    let g : Grant = record { id = id.0; owner = owner.0; range = object_range n.0 range.low range.high; mode = Writer } in
    let told : m.new.past ≡ past_after (step.LockAppend owner n) (reply.Appended id range) old = told_past ⊥ m.now (step.LockAppend owner n) (reply.Appended id range) old m.new m.made in
    let place : id.0 ≡ length old.past.grants = name m.made ∙ m.explained.exact.locks.next in
    let at : slice_get m.new.past.grants id.0 ≡ Some g = (λ k. slice_get ((told k).grants) (place k)) ∙ at_last old.past.grants g in
    record {
      grant = at-prefix m.new.past.grants after.past.grants id.0 g (grown m.new after m.no_later).grants at;
      fresh = let longer : length before.past.grants ≤ length old.past.grants = no-shorter before.past.grants old.past.grants (grown before old m.no_earlier).grants in omega arith;
    }
  where
    name : Step ⊥ m.now (step.LockAppend owner n) (reply.Appended id range) m.old m.new → id.0 ≡ m.old.shown.next_lock
    name (Ok r, is, h) =
        let done = ok-none (refusal.append_refusal owner.0 n.0 m.old.shown) r m.old m.new _ _ h in
        let same : id ≡ record { 0 = r.0 } = cc in
        ap (λ (x : LockId). x.0) same ∙ ap (λ (p : ℕ × ℕ × ℕ). p.0) done.1.0
    name (Err e, is, h) = absurd (let no_way : reply.Appended id range ≡ reply.Refused e = is in cc)

pub aborts_are_seen : (tx : TxId) (before after : State) → IsMadeBetween ⊥ (step.Abort tx) reply.Done before after → IsAborted tx.0 before after
aborts_are_seen tx before after m = seen (opened m.made)
  where
    told : m.new.past ≡ past_after (step.Abort tx) reply.Done m.old
    told = told_past ⊥ m.now (step.Abort tx) reply.Done m.old m.new m.made

    opened : Step ⊥ m.now (step.Abort tx) reply.Done m.old m.new → (a : Admission) × (refusal.transaction_of tx.0 m.old.shown ≡ Some a)
    opened (Ok r, is, h) =
        let done = ok-none (refusal.abort_refusal tx.0 m.old.shown) r m.old m.new _ _ h in
        (done.1.0, done.1.1)
    opened (Err e, is, h) = absurd (let no_way : reply.Done ≡ reply.Refused e = is in cc)

    seen : (a : Admission) × (refusal.transaction_of tx.0 m.old.shown ≡ Some a) → IsAborted tx.0 before after
    seen (a, is) =
        let p = m.old.past in
        let found = found_at (λ (x : Admission). x.tx == tx.0) m.old.shown.transactions a is in
        let named : a.tx ≡ tx.0 = eqb-true a.tx tx.0 found.2 in
        let kept = at_filter (λ (x : Admission). not (is_committed x.tx p.entries) && not (is_in x.tx p.aborted)) p.admissions found.0 a
        (subst (λ (ts : List Admission). slice_get ts found.0 ≡ Some a) m.explained.exact.groups.transactions found.1) in
        let both = and_parts (not (is_committed a.tx p.entries)) (not (is_in a.tx p.aborted)) kept.2 in
        let open_then : is_in tx.0 p.aborted ≡ false = ap (λ i. is_in i p.aborted) (sym named) ∙ not-true (is_in a.tx p.aborted) both.1 in
        record {
          open_before = not-in-prefix tx.0 before.past.aborted p.aborted (grown before m.old m.no_earlier).aborted open_then;
          aborted_after = in-prefix tx.0 m.new.past.aborted after.past.aborted (grown m.new after m.no_later).aborted
              (ap (λ (q : Past). is_in tx.0 q.aborted) told ∙ list_any-append (λ y. tx.0 == y) p.aborted (tx.0 ∷ [])
              ∙ or_right (is_in tx.0 p.aborted) (is_in tx.0 (tx.0 ∷ [])) (or_left (tx.0 == tx.0) false (eq-eqb tx.0 tx.0 refl)));
        }

pub lengths_are_seen : (n : ObjectId) (count : ℕ) (before after : State) → IsMadeBetween ⊥ (step.Length n) (reply.Length count) before after → IsLengthBetween n.0 count before after
lengths_are_seen n count before after m = seen m.made
  where
    seen : Step ⊥ m.now (step.Length n) (reply.Length count) m.old m.new → IsLengthBetween n.0 count before after
    seen (Ok r, is, h) =
        let done = ok-none (refusal.length_refusal n.0 m.old.shown) r m.old m.new _ _ h in
        let same : count ≡ r = cc in
        let no_later : GoesOn m.old after = subst (λ (s : State). GoesOn s after) done.1.1 m.no_later in
        (m.old.shown.contents, contents_are_between before m.old after m.explained m.no_earlier no_later, done.1.0 ∙ ap (λ (x : ℕ). Some x) (sym same))
    seen (Err e, is, h) = absurd (let no_way : reply.Length count ≡ reply.Refused e = is in cc)

-- a test that gives no refusal of memory or the device
abbrev is_ruled : Test → Bool
is_ruled t = not (is_untested t.error)

first-ruled : (ts : List Test) (e : PoolError) → list_all is_ruled ts ≡ true → first_refusal ts ≡ Some e → is_untested e ≡ false
first-ruled [] e ruled is = absurd (let no_way : None ≡ Some e = is in cc)
first-ruled (t ∷ ts) e ruled is =
    let both = and_parts (is_ruled t) (list_all is_ruled ts) ruled in
    go t.applies is (λ h. first-ruled ts e both.1 h) both.0
  where
    go : (b : Bool) → first_refusal (record { applies = b; error = t.error } ∷ ts) ≡ Some e → (first_refusal ts ≡ Some e → is_untested e ≡ false) → is_ruled t ≡ true → is_untested e ≡ false
    go true h rest one = let same : t.error ≡ e = cc in ap is_untested (sym same) ∙ not-true (is_untested t.error) one
    go false h rest one = rest h

abbrev error_in : {A : Type 0} → PoolError → Result A PoolError → PoolError
error_in otherwise (Ok a) = otherwise
error_in otherwise (Err e) = e

-- a step that has no refusal of its own
replies_ruled : {A : Type 0} (make : A → declared_reply.Reply) (e : PoolError) (ts : List Test) (old new : State) (does : A → Type 0) → ((a : A) → reply.Refused e ≡ make a → ⊥)
    → list_all is_ruled ts ≡ true → Replies make (reply.Refused e) (λ answer. Answers (first_refusal ts) answer old new does Never) → is_untested e ≡ false
replies_ruled make e ts old new does never ruled (Ok a, is, h) = absurd (never a is)
replies_ruled make e ts old new does never ruled (Err f, is, h) = go (first_refusal ts) refl h
  where
    same : e ≡ f
    same = let given : reply.Refused e ≡ reply.Refused f = is in cc

    go : (o : Option PoolError) → first_refusal ts ≡ o → Answers o (Err f) old new does Never → is_untested e ≡ false
    go None found h = absurd h
    go (Some x) found h = let other : f ≡ x = ap (error_in f) h.0 in first-ruled ts e ruled (found ∙ ap (λ (y : PoolError). Some y) (sym (same ∙ other)))

pub unlocks_are_ruled : (owner : Owner) (id : LockId) (e : PoolError) (before after : State) → IsMadeBetween ⊥ (step.Unlock owner id) (reply.Refused e) before after → is_untested e ≡ false
unlocks_are_ruled owner id e before after m =
    replies_ruled _ e (refusal.unlock_tests owner.0 id.0 m.old.shown) m.old m.new _ (λ a is. let no_way : reply.Refused e ≡ reply.Done = is in cc) refl m.made

pub aborts_are_ruled : (tx : TxId) (e : PoolError) (before after : State) → IsMadeBetween ⊥ (step.Abort tx) (reply.Refused e) before after → is_untested e ≡ false
aborts_are_ruled tx e before after m =
    replies_ruled _ e (refusal.abort_tests tx.0 m.old.shown) m.old m.new _ (λ a is. let no_way : reply.Refused e ≡ reply.Done = is in cc) refl m.made

pub lengths_are_ruled : (n : ObjectId) (e : PoolError) (before after : State) → IsMadeBetween ⊥ (step.Length n) (reply.Refused e) before after → is_untested e ≡ false
lengths_are_ruled n e before after m =
    replies_ruled _ e (refusal.length_tests n.0 m.old.shown) m.old m.new _ (λ a is. let no_way : reply.Refused e ≡ reply.Length a = is in cc) refl m.made
