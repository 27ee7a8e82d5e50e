-- What the steps of a transaction lock and begin is gone after them, whatever others hold.
use Rattle.std.proofs.Common.{◌≡◌, ℕ, zero, suc, ◌+◌, ◌<◌, ◌≤◌, Bool, true, false, not, ◌&&◌, List, [], ◌∷◌, ◌++◌, append_assoc, drop, refl, ap, sym, subst, ◌∙◌, arith, inl, inr}
use Rattle.std.specs.Prelude.{◌⊎◌, Option, Some, None, Result, Ok, Err, cond, filter, find, is_none, length, slice_get, ◌==◌}
use Rattle.std.specs.Option.{option_map_or, option_or}
use Rattle.std.proofs.lemmas.Bool.{and_from, and_left, eq-eqb, false≢true, ne_eqb}
use Rattle.std.proofs.lemmas.List.{append-nil}
use Rattle.std.proofs.lemmas.List.Elements.{filter-append}
use Rattle.std.proofs.lemmas.List.Folds.{find-append}
use Rattle.base.specs.declared.error.PoolError.{PoolError}
use Rattle.base.specs.declared.error.PoolError.TheVariants as error
use Rattle.base.specs.declared.names.Group.{Group}
use Rattle.base.specs.declared.names.LockId.{LockId}
use Rattle.base.specs.declared.names.ObjectId.{ObjectId}
use Rattle.base.specs.declared.names.Owner.{Owner}
use Rattle.base.specs.declared.names.Receipt.{Receipt}
use Rattle.base.specs.declared.names.TxId.{TxId}
use Rattle.base.specs.declared.operation.Op.{Op}
use Rattle.base.specs.declared.operation.Shape.{Shape}
use Rattle.base.specs.declared.range.Mode.{Mode}
use Rattle.base.specs.declared.range.Mode.TheVariants.{Writer}
use Rattle.base.specs.declared.range.Range.{Range}
use Rattle.base.specs.declared.step.Step.TheVariants as step
use Rattle.base.specs.declared.step.Reply as declared_reply
use Rattle.base.specs.declared.step.Reply.TheVariants as reply
use Rattle.base.specs.steps.Tables.{AreTablesExplained}
use Rattle.base.specs.steps.Groups.{Admission}
use Rattle.base.specs.steps.Locks.{Grant, is_blocked}
use Rattle.base.specs.steps.Refusals.{Test, abort_refusal, begin_tests, first_refusal, is_lock_in_use, lock_of, lock_tests, object_range, refused_if, transaction_of, unlock_refusal}
use Rattle.base.specs.steps.Runs.{Step, reply_of}
use Rattle.base.specs.steps.Steps.{Answers, State, next_admission, next_grant, state_after_charged_admission, state_after_grant, state_after_unlock, transactions_without}
use Rattle.base.proofs.common.KeptLists.{All-each, Some-injective, at_last, none_at, not_found, find_none}
use Rattle.base.proofs.common.Sieves.{filter_all}
use Rattle.base.proofs.history.CommitOrder.{no_refusal}
use Rattle.pool_threads.specs.Transacts.{AreReleased}
use Rattle.pool_threads.proofs.FreshLocks.{below_next, is_used_by, new_transaction, unused_yet}

-- a step that was not refused did what it does
pub done : {A : Type 0} (make : A → declared_reply.Reply) (o : Option PoolError) (answer : Result A PoolError) (old new : State) (does : A → Type 0) (own : PoolError → Type 0) (r : declared_reply.Reply)
    → ((e : PoolError) → r ≡ reply.Refused e → ⊥) → r ≡ reply_of make answer → Answers o answer old new does own → (a : A) × (o ≡ None) × (r ≡ make a) × does a
done make (Some f) answer old new does own r accepted is holds = absurd (accepted f (is ∙ ap (reply_of make) holds.0))
done make None (Ok a) old new does own r accepted is holds = (a, refl, is, holds)
done make None (Err e) old new does own r accepted is holds = absurd (accepted e is)

-- one that was refused, and then leaves all as it is, has left all as it is
stays : {A : Type 0} (make : A → declared_reply.Reply) (o : Option PoolError) (answer : Result A PoolError) (old new : State) (does : A → Type 0) (own : PoolError → Type 0) (e : PoolError)
    → ((a : A) → reply.Refused e ≡ make a → ⊥) → ((f : PoolError) → own f → new ≡ old) → reply.Refused e ≡ reply_of make answer → Answers o answer old new does own → new ≡ old
stays make (Some f) answer old new does own e refused leaves is holds = holds.1
stays make None (Ok a) old new does own e refused leaves is holds = absurd (refused a is)
stays make None (Err f) old new does own e refused leaves is holds = leaves f holds

-- one that no test refuses, and that has no refusal of its own, did what it does
pub passed : {A : Type 0} (o : Option PoolError) (answer : Result A PoolError) (old new : State) (does : A → Type 0) → o ≡ None → Answers o answer old new does (λ e. ⊥) → (a : A) × does a
passed (Some f) answer old new does passes holds = absurd (let no_way : Some f ≡ None = passes in cc)
passed None (Ok a) old new does passes holds = (a, holds)
passed None (Err e) old new does passes holds = absurd holds

pub runs_on : (b : Bool) (rest : List Test) → first_refusal (refused_if b error.Suspended ∷ rest) ≡ None → b ≡ false
runs_on false rest is = refl
runs_on true rest is = absurd (let no_way : Some error.Suspended ≡ None = is in cc)

-- tests of which none applies
passes_two : (a b : Bool) (e f : PoolError) → a ≡ false → b ≡ false → first_refusal (refused_if a e ∷ refused_if b f ∷ []) ≡ None
passes_two a b e f no_a no_b = subst (λ x. first_refusal (refused_if x e ∷ refused_if b f ∷ []) ≡ None) (sym no_a) (subst (λ x. first_refusal (refused_if false e ∷ refused_if x f ∷ []) ≡ None) (sym no_b) refl)

pub passes_three : (a b c : Bool) (e f g : PoolError) → a ≡ false → b ≡ false → c ≡ false → first_refusal (refused_if a e ∷ refused_if b f ∷ refused_if c g ∷ []) ≡ None
passes_three a b c e f g no_a no_b no_c = subst (λ x. first_refusal (refused_if x e ∷ refused_if b f ∷ refused_if c g ∷ []) ≡ None) (sym no_a) (passes_two b c f g no_b no_c)

module _ (now : List ℕ) (owner : Owner) where
  pub lock_refused : (n : ObjectId) (range : Range) (mode : Mode) (e : PoolError) (old new : State) → Step ⊥ now (step.Lock owner n range mode) (reply.Refused e) old new → new ≡ old
  lock_refused n range mode e old new (answer, is, holds) = stays _ _ answer old new _ _ e (λ a h. let no_way : reply.Refused e ≡ reply.Locked (record { 0 = a }) = h in cc) (λ f own. own.1) is holds

  pub begin_refused : (plan : List Shape) (e : PoolError) (old new : State) → Step ⊥ now (step.Begin owner plan) (reply.Refused e) old new → new ≡ old
  begin_refused plan e old new (answer, is, holds) = stays _ _ answer old new _ _ e (λ a h. let no_way : reply.Refused e ≡ reply.Began (record { 0 = a.0 }) (record { 0 = a.1 }) = h in cc) (λ f own. own.1) is holds

  pub commit_refused : (tx : TxId) (ops : List Op) (e : PoolError) (old new : State) → Step ⊥ now (step.Commit tx ops) (reply.Refused e) old new → new ≡ old
  commit_refused tx ops e old new (answer, is, holds) =
      stays _ _ answer old new _ _ e (λ a h. let no_way : reply.Refused e ≡ reply.Committed (record { ordinal = record { 0 = a.0 }; group = record { 0 = a.1 } }) = h in cc) (λ f own. own.1) is holds

-- grants of these names, which an owner has, numbered on from this one
abbrev pub AreNext : ℕ → ℕ → List Grant → List LockId → Type 0
AreNext owner n [] [] = Unit {0}
AreNext owner n (g ∷ gs) (id ∷ ids) = (g.id ≡ n) × (id.0 ≡ n) × (g.owner ≡ owner) × AreNext owner (n + 1) gs ids
AreNext owner n [] (id ∷ ids) = ⊥
AreNext owner n (g ∷ gs) [] = ⊥

-- none of these transactions uses one of these locks
abbrev pub AreUnused : List Grant → List Admission → Type 0
AreUnused gs ts = (i : ℕ) (g : Grant) → slice_get gs i ≡ Some g → is_used_by g ts ≡ false

-- each of these locks has a lower name
abbrev pub AreBelow : ℕ → List Grant → Type 0
AreBelow n gs = (i : ℕ) (h : Grant) → slice_get gs i ≡ Some h → h.id < n

-- the locks of these names were granted to an owner, and nothing else was done
pub record HasLocked (owner : ℕ) (ids : List LockId) (b s : State) : Type 0 where
  pub grants : List Grant
  pub next : AreNext owner b.shown.next_lock grants ids
  pub held : s.shown.locks ≡ b.shown.locks ++ grants
  pub unused : AreUnused grants s.shown.transactions
  pub transactions : s.shown.transactions ≡ b.shown.transactions
  pub running : s.shown.suspended ≡ b.shown.suspended
  pub ran : (ids ≡ []) ⊎ ((b.shown.suspended ≡ false) × AreBelow b.shown.next_lock b.shown.locks)

pub none_locked : (owner : ℕ) (b : State) → HasLocked owner [] b b
none_locked owner b = record { grants = []; next = tt; held = sym (append-nil b.shown.locks); unused = λ i g at. absurd (none_at i g at); transactions = refl; running = refl; ran = inl refl }

pub one_locked : (now : List ℕ) (owner : Owner) (n : ObjectId) (range : Range) (id : LockId) (ids : List LockId) (b m s : State) → AreTablesExplained b.shown b.past → Step ⊥ now (step.Lock owner n range Writer) (reply.Locked id) b m
    → HasLocked owner.0 ids m s → HasLocked owner.0 (id ∷ ids) b s
one_locked now owner n range id ids b m s x (answer, is, holds) rest =
    let wanted = object_range n.0 range.low range.high in
    let d = done _ _ answer b m _ _ (reply.Locked id) (λ e h. let no_way : reply.Locked id ≡ reply.Refused e = h in cc) is holds in
    let g : Grant = next_grant owner.0 wanted Writer b.shown in
    let after : m ≡ state_after_grant g b = d.3.1 in
    let named : id ≡ record { 0 = d.0 } = (let same : reply.Locked id ≡ reply.Locked (record { 0 = d.0 }) = d.2 in cc) in
    let free : is_blocked wanted Writer b.shown.locks ≡ false = no_refusal (lock_tests owner.0 wanted Writer b.shown) d.1 2 _ refl in
    let open_then : s.shown.transactions ≡ b.shown.transactions = rest.transactions ∙ ap (λ (t : State). t.shown.transactions) after in
    let first : is_used_by g s.shown.transactions ≡ false = ap (λ ts. is_used_by g ts) open_then ∙ unused_yet b.shown b.past x.exact wanted free g refl in
    record {
      grants = g ∷ rest.grants;
      next = (refl, ap (λ (i : LockId). i.0) named ∙ d.3.0, refl, subst (λ (k : ℕ). AreNext owner.0 k rest.grants ids) (ap (λ (t : State). t.shown.next_lock) after) rest.next);
      held = rest.held ∙ ap (λ (t : State). t.shown.locks ++ rest.grants) after ∙ append_assoc b.shown.locks (g ∷ []) rest.grants;
      unused = each g rest.grants first rest.unused;
      transactions = open_then;
      running = rest.running ∙ ap (λ (t : State). t.shown.suspended) after;
      ran = inr (runs_on b.shown.suspended (drop 1 (lock_tests owner.0 wanted Writer b.shown)) d.1, below_next b.shown b.past x.exact);
    }
  where
    each : (g : Grant) (gs : List Grant) → is_used_by g s.shown.transactions ≡ false → AreUnused gs s.shown.transactions → AreUnused (g ∷ gs) s.shown.transactions
    each g gs first others zero h at = subst (λ (k : Grant). is_used_by k s.shown.transactions ≡ false) (Some-injective at) first
    each g gs first others (suc i) h at = others i h at

-- what was done between the locks and the unlocks leaves them, and the transactions that were open
pub record KeepsLocks (l e : State) : Type 0 where
  pub locks : e.shown.locks ≡ l.shown.locks
  pub transactions : e.shown.transactions ≡ l.shown.transactions
  pub running : e.shown.suspended ≡ l.shown.suspended

pub keeps_same : (l e : State) → e ≡ l → KeepsLocks l e
keeps_same l e same = subst (λ (s : State). KeepsLocks l s) (sym same) (record { locks = refl; transactions = refl; running = refl })

module _ (now : List ℕ) (owner : Owner) (plan : List Shape) (tx : TxId) (group : Group) (l b : State) (x : AreTablesExplained l.shown l.past) (begins : Step ⊥ now (step.Begin owner plan) (reply.Began tx group) l b) where
  abbrev admission : Admission
  admission = next_admission owner.0 plan l.shown

  begun : (tx.0 ≡ l.shown.next_tx) × (b ≡ state_after_charged_admission (next_admission owner.0 plan l.shown) l) × (l.shown.suspended ≡ false)
  begun =
      let d = done _ _ begins.0 l b _ _ (reply.Began tx group) (λ e h. let no_way : reply.Began tx group ≡ reply.Refused e = h in cc) begins.1 begins.2 in
      let named : tx ≡ record { 0 = d.0.0 } = (let same : reply.Began tx group ≡ reply.Began (record { 0 = d.0.0 }) (record { 0 = d.0.1 }) = d.2 in cc) in
      (ap (λ (t : TxId). t.0) named ∙ ap (λ (p : ℕ × ℕ). p.0) d.3.0, d.3.1, runs_on l.shown.suspended (drop 1 (begin_tests owner.0 plan l.shown)) d.1)

  abbrev is_other : Admission → Bool
  is_other a = not (a.tx == tx.0)

  -- without the new transaction the others are left
  without : transactions_without tx.0 b.shown.transactions ≡ l.shown.transactions
  without =
      ap (λ (t : State). transactions_without tx.0 t.shown.transactions) begun.1
      ∙ filter-append is_other l.shown.transactions (admission ∷ [])
      ∙ ap (λ ts. ts ++ filter is_other (admission ∷ []))
      (filter_all is_other l.shown.transactions (All-each (λ (a : Admission). is_other a ≡ true) l.shown.transactions (λ i a at. ap (λ (n : ℕ). not (a.tx == n)) begun.0 ∙ ap not (new_transaction l.shown l.past x.exact i a at))))
      ∙ ap (λ c. l.shown.transactions ++ cond (not c) (admission ∷ []) []) (eq-eqb admission.tx tx.0 (sym begun.0))
      ∙ append-nil l.shown.transactions

  -- it is found
  is_open : is_none (transaction_of tx.0 b.shown) ≡ false
  is_open = go (transaction_of tx.0 b.shown) refl
    where
      go : (o : Option Admission) → transaction_of tx.0 b.shown ≡ o → is_none o ≡ false
      go (Some a) is = refl
      go None is =
          let none = not_found (λ (a : Admission). a.tx == tx.0) b.shown.transactions is (length l.shown.transactions) admission
          (ap (λ (t : State). slice_get t.shown.transactions (length l.shown.transactions)) begun.1 ∙ at_last l.shown.transactions admission) in
          absurd (false≢true (sym none ∙ eq-eqb admission.tx tx.0 (sym begun.0)))

  module _ (ops : List Op) where
    pub keeps_committed : (receipt : Receipt) (e : State) → Step ⊥ now (step.Commit tx ops) (reply.Committed receipt) b e → KeepsLocks l e
    keeps_committed receipt e commits =
        let d = done _ _ commits.0 b e _ _ (reply.Committed receipt) (λ f h. let no_way : reply.Committed receipt ≡ reply.Refused f = h in cc) commits.1 commits.2 in
        let after = d.3.6 in
        record {
          locks = ap (λ (t : State). t.shown.locks) after ∙ ap (λ (t : State). t.shown.locks) begun.1;
          transactions = ap (λ (t : State). t.shown.transactions) after ∙ without;
          running = ap (λ (t : State). t.shown.suspended) after ∙ ap (λ (t : State). t.shown.suspended) begun.1;
        }

    -- a refused commit leaves the transaction open, and the abort ends it
    pub keeps_given_up : (e : PoolError) (answer : Result (Unit {0}) PoolError) (f t : State) → Step ⊥ now (step.Commit tx ops) (reply.Refused e) b f → Step ⊥ now (step.Abort tx) (reply_of (λ _. reply.Done) answer) f t → KeepsLocks l t
    keeps_given_up e answer f t refused aborts =
        let same : f ≡ b = commit_refused now owner tx ops e b f refused in
        let running : f.shown.suspended ≡ false = ap (λ (s : State). s.shown.suspended) (same ∙ begun.1) ∙ begun.2 in
        let is_there : is_none (transaction_of tx.0 f.shown) ≡ false = ap (λ (s : State). is_none (transaction_of tx.0 s.shown)) same ∙ is_open in
        let d = passed (abort_refusal tx.0 f.shown) aborts.0 f t _ (passes_two f.shown.suspended (is_none (transaction_of tx.0 f.shown)) error.Suspended error.NoSuchTransaction running is_there) aborts.2 in
        let after = d.1.2 in
        record {
          locks = ap (λ (s : State). s.shown.locks) after ∙ ap (λ (s : State). s.shown.locks) (same ∙ begun.1);
          transactions = ap (λ (s : State). s.shown.transactions) after ∙ ap (λ (s : State). transactions_without tx.0 s.shown.transactions) same ∙ without;
          running = ap (λ (s : State). s.shown.suspended) after ∙ ap (λ (s : State). s.shown.suspended) (same ∙ begun.1);
        }

-- Besides others an owner holds locks of these names, from this number on, which no transaction uses.
pub record Holds (owner n : ℕ) (base gs : List Grant) (ids : List LockId) (s : State) : Type 0 where
  pub held : s.shown.locks ≡ base ++ gs
  pub next : AreNext owner n gs ids
  pub below : AreBelow n base
  pub unused : AreUnused gs s.shown.transactions
  pub running : s.shown.suspended ≡ false

-- the names of such locks are no lower
no_lower : (owner n : ℕ) (gs : List Grant) (ids : List LockId) (i : ℕ) (h : Grant) → AreNext owner n gs ids → slice_get gs i ≡ Some h → n ≤ h.id
no_lower owner n [] ids i h are at = absurd (none_at i h at)
no_lower owner n (g ∷ gs) (id ∷ ids) zero h are at = let same : g.id ≡ h.id = ap (λ (k : Grant). k.id) (Some-injective at) in let is : g.id ≡ n = are.0 in omega arith
no_lower owner n (g ∷ gs) (id ∷ ids) (suc i) h are at = let rest : n + 1 ≤ h.id = no_lower owner (n + 1) gs ids i h are.3 at in omega arith
no_lower owner n (g ∷ gs) [] i h are at = absurd are

module _ (now : List ℕ) (owner : Owner) (n : ℕ) (base : List Grant) (g : Grant) (gs : List Grant) (id : LockId) (ids : List LockId) (answer : Result (Unit {0}) PoolError) (s t : State) (h : Holds owner.0 n base (g ∷ gs) (id ∷ ids) s)
    (unlocks : Step ⊥ now (step.Unlock owner id) (reply_of (λ _. reply.Done) answer) s t) where
  abbrev is_it : Grant → Bool
  is_it k = (k.id == id.0) && (k.owner == owner.0)

  abbrev is_kept : Grant → Bool
  is_kept k = not (k.id == id.0)

  named : g.id ≡ id.0
  named = h.next.0 ∙ sym h.next.1

  older : (i : ℕ) (k : Grant) → slice_get base i ≡ Some k → (k.id == id.0) ≡ false
  older i k at = ne_eqb k.id id.0 (λ same. let low : k.id < n = h.below i k at in let is : id.0 ≡ n = h.next.1 in absurd (omega arith))

  newer : (i : ℕ) (k : Grant) → slice_get gs i ≡ Some k → (k.id == id.0) ≡ false
  newer i k at = ne_eqb k.id id.0 (λ same. let high : n + 1 ≤ k.id = no_lower owner.0 (n + 1) gs ids i k h.next.3 at in let is : id.0 ≡ n = h.next.1 in absurd (omega arith))

  found : lock_of owner.0 id.0 s.shown ≡ Some g
  found =
      ap (find is_it) h.held
      ∙ find-append is_it base (g ∷ gs)
      ∙ ap (λ (o : Option Grant). option_or o (find is_it (g ∷ gs))) (find_none is_it base (λ i k at. and_left (k.id == id.0) (k.owner == owner.0) (older i k at)))
      ∙ ap (λ (c : Bool). option_or None (cond c (Some g) (find is_it gs))) (and_from (g.id == id.0) (g.owner == owner.0) (eq-eqb g.id id.0 named) (eq-eqb g.owner owner.0 h.next.2))

  after : t ≡ state_after_unlock id.0 s
  after =
      (passed (unlock_refusal owner.0 id.0 s.shown) unlocks.0 s t _
      (passes_three s.shown.suspended (is_none (lock_of owner.0 id.0 s.shown)) (option_map_or (λ k. is_lock_in_use k s.shown) (lock_of owner.0 id.0 s.shown) false) error.Suspended error.NoSuchLock error.LockInUse
      h.running (ap (λ (o : Option Grant). is_none o) found) (ap (λ (o : Option Grant). option_map_or (λ k. is_lock_in_use k s.shown) o false) found ∙ h.unused 0 g refl)) unlocks.2).1

  left : t.shown.locks ≡ base ++ gs
  left =
      ap (λ (r : State). r.shown.locks) after
      ∙ ap (filter is_kept) h.held
      ∙ filter-append is_kept base (g ∷ gs)
      ∙ ap (λ (ls : List Grant). ls ++ filter is_kept (g ∷ gs)) (filter_all is_kept base (All-each (λ (k : Grant). is_kept k ≡ true) base (λ i k at. ap not (older i k at))))
      ∙ ap (λ (c : Bool). base ++ cond (not c) (g ∷ filter is_kept gs) (filter is_kept gs)) (eq-eqb g.id id.0 named)
      ∙ ap (λ (ls : List Grant). base ++ ls) (filter_all is_kept gs (All-each (λ (k : Grant). is_kept k ≡ true) gs (λ i k at. ap not (newer i k at))))

  -- the first of them is unlocked
  pub unlocked_once : (t.shown.transactions ≡ s.shown.transactions) × Holds owner.0 (n + 1) base gs ids t
  unlocked_once = (
    ap (λ (r : State). r.shown.transactions) after,
    record {
      held = left;
      next = h.next.3;
      below = λ i k at. let low : k.id < n = h.below i k at in omega arith;
      unused = λ i k at. ap (λ (r : State). is_used_by k r.shown.transactions) after ∙ h.unused (suc i) k at;
      running = ap (λ (r : State). r.shown.suspended) after ∙ h.running;
    },
  )

no_grants : (owner n : ℕ) (gs : List Grant) → AreNext owner n gs [] → gs ≡ []
no_grants owner n [] are = refl
no_grants owner n (g ∷ gs) are = absurd are

module _ (owner : ℕ) (ids : List LockId) (b l e : State) (locked : HasLocked owner ids b l) (ended : KeepsLocks l e) where
  -- the locks are held to the end
  pub holds_then : (b.shown.suspended ≡ false) × AreBelow b.shown.next_lock b.shown.locks → Holds owner b.shown.next_lock b.shown.locks locked.grants ids e
  holds_then ran = record {
    held = ended.locks ∙ locked.held;
    next = locked.next;
    below = ran.1;
    unused = λ i g at. ap (λ ts. is_used_by g ts) ended.transactions ∙ locked.unused i g at;
    running = ended.running ∙ locked.running ∙ ran.0;
  }

  -- and if there is none, nothing is left of them
  pub none_held : ids ≡ [] → AreReleased b e
  none_held is = record {
    locks = ended.locks ∙ locked.held ∙ ap (λ gs. b.shown.locks ++ gs) (no_grants owner b.shown.next_lock locked.grants (subst (λ (ns : List LockId). AreNext owner b.shown.next_lock locked.grants ns) is locked.next)) ∙ append-nil b.shown.locks;
    transactions = ended.transactions ∙ locked.transactions;
  }

  pub all_released : (t : State) → (t.shown.locks ≡ b.shown.locks) × (t.shown.transactions ≡ e.shown.transactions) → AreReleased b t
  all_released t u = record { locks = u.0; transactions = u.1 ∙ ended.transactions ∙ locked.transactions }
