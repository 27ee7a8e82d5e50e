-- Each step keeps the line of groups and its transactions exact.
use Rattle.std.proofs.Common.{◌≡◌, ℕ, zero, suc, ◌+◌, ◌<◌, ◌≤◌, Bool, true, false, not, ◌&&◌, ◌||◌, List, [], ◌∷◌, ◌++◌, length, map, refl, ap, sym, subst, ◌∙◌, arith, ◌⊎◌, inl, inr}
use Rattle.std.specs.Prelude.{Option, Some, None, IfSome, IsSomeAnd, unwrap_or, slice_get, filter, cond, ◌==◌}
use Rattle.std.proofs.lemmas.Bool.{ne_eqb, eq-eqb, eqb-true, and_parts, not-true, or_from, false≢true}
use Rattle.std.proofs.lemmas.List.{length_push}
use Rattle.std.proofs.lemmas.List.Elements.{filter-append}
use Rattle.std.proofs.lemmas.Option.{slice_get_within}
use Rattle.base.specs.formats.Limits.{last_number, max_log_record}
use Rattle.base.specs.steps.Locks.{is_in}
use Rattle.base.specs.history.Plans.{shape_of, is_plan_allowed, log_record_size}
use Rattle.base.specs.history.History.{Entry}
use Rattle.base.specs.steps.Groups.{Line, Middle, IsLine, Admission, AreMembers, MayHold, is_committed, open_transactions, hold_count, before_open, before_middle}
use Rattle.base.specs.history.Past.{Past}
use Rattle.base.specs.steps.Shown.{Shown}
use Rattle.base.specs.steps.Refusals.{quiescing_group, quiesced_group}
use Rattle.base.specs.steps.Steps.{line_after_close, line_after_quiesce}
use Rattle.base.specs.steps.Exact.{AreGroupsExact}
use Rattle.base.proofs.common.Sieves.{filter-filter}
use Rattle.base.proofs.common.KeptLists.{at_old, at_filter, any_at, none_any, any_none, any_push, none_at, Some-injective, push-cases}

-- they stay exact where nothing of them changes
pub same_groups : (s t : Shown) (p q : Past) → AreGroupsExact s p
    → AreGroupsExact (record t { line = s.line; transactions = s.transactions; next_tx = s.next_tx }) (record q { admissions = p.admissions; entries = p.entries; aborted = p.aborted })
same_groups s t p q x = record { line = x.line; members = x.members; transactions = x.transactions; next = x.next }

module _ (l : Line) (admissions : List Admission) (entries : List Entry) (aborted : List ℕ) (m : AreMembers l admissions entries aborted) where
  -- an open transaction is the admission of its name, and neither committed nor aborted
  pub open_is : (i : ℕ) (a : Admission) → slice_get (open_transactions admissions entries aborted) i ≡ Some a
      → (slice_get admissions a.tx ≡ Some a) × (is_committed a.tx entries ≡ false) × (is_in a.tx aborted ≡ false)
  open_is i a at =
      let found : (j : ℕ) × (slice_get admissions j ≡ Some a) × ((not (is_committed a.tx entries) && not (is_in a.tx aborted)) ≡ true) = at_filter (λ (b : Admission). not (is_committed b.tx entries) && not (is_in b.tx aborted)) admissions i a at in
      let both : (not (is_committed a.tx entries) ≡ true) × (not (is_in a.tx aborted) ≡ true) = and_parts (not (is_committed a.tx entries)) (not (is_in a.tx aborted)) found.2 in
      (subst (λ j. slice_get admissions j ≡ Some a) (sym (m.numbered found.0 a found.1)) found.1, not-true (is_committed a.tx entries) both.0, not-true (is_in a.tx aborted) both.1)

  -- the name of no admission is neither committed nor aborted
  new_name : (t : ℕ) → t ≡ length admissions → (is_committed t entries ≡ false) × (is_in t aborted ≡ false)
  new_name t is = (
    any_none (λ (e : Entry). t == e.tx) entries (λ i e at. ne_eqb t e.tx (λ same. let c = m.committed i e at in let below : e.tx < length admissions = slice_get_within admissions e.tx c.0 c.1 in absurd (omega arith))),
    any_none (λ y. t == y) aborted (λ i y at. ne_eqb t y (λ same. let below : y < length admissions = (m.never_committed i y at).0 in absurd (omega arith))),
  )

  pub open_push : (a : Admission) → a.tx ≡ length admissions → open_transactions (admissions ++ a ∷ []) entries aborted ≡ open_transactions admissions entries aborted ++ a ∷ []
  open_push a is =
      let new : (is_committed a.tx entries ≡ false) × (is_in a.tx aborted ≡ false) = new_name a.tx is in
      filter-append (λ (b : Admission). not (is_committed b.tx entries) && not (is_in b.tx aborted)) admissions (a ∷ [])
      ∙ ap (λ ts. open_transactions admissions entries aborted ++ ts) (λ k. cond (not (new.0 k) && not (new.1 k)) (a ∷ []) [])

  pub members_begin : (a : Admission) → a.tx ≡ length admissions → a.group ≡ l.open_group → is_plan_allowed a.plan ≡ true → log_record_size a.plan ≤ max_log_record
      → AreMembers l (admissions ++ a ∷ []) entries aborted
  members_begin a named in_open allowed small = record {
    numbered = λ i b at. elim (push-cases admissions a b i at) as (λ _. b.tx ≡ i) [ inl old ↦ m.numbered i b old | inr is ↦ ap (λ (c : Admission). c.tx) (sym is.1) ∙ named ∙ sym is.0 ];
    known = λ i b at. elim (push-cases admissions a b i at) as (λ _. b.group ≤ l.open_group) [ inl old ↦ m.known i b old | inr is ↦ let same : a.group ≡ b.group = ap (λ (c : Admission). c.group) is.1 in omega arith ];
    allowed = λ i b at. elim (push-cases admissions a b i at) as (λ _. (is_plan_allowed b.plan ≡ true) × (log_record_size b.plan ≤ max_log_record)) [
      | inl old ↦ m.allowed i b old
      | inr is ↦ subst (λ (c : Admission). (is_plan_allowed c.plan ≡ true) × (log_record_size c.plan ≤ max_log_record)) is.1 (allowed, small)
    ];
    committed = λ i e at. let c = m.committed i e at in (c.0, at_old admissions a c.0 e.tx c.1, c.2, c.3);
    once = m.once;
    never_committed = λ i t at. let n = m.never_committed i t at in (let below : t < length admissions = n.0 in let longer : length (admissions ++ a ∷ []) ≡ length admissions + 1 = length_push admissions a in omega arith, n.1);
    holding = λ i b at. elim (push-cases (open_transactions admissions entries aborted) a b i (subst (λ ts. slice_get ts i ≡ Some b) (open_push a named) at)) as (λ _. MayHold l b.group) [
      | inl old ↦ m.holding i b old
      | inr is ↦ inl (ap (λ (c : Admission). c.group) (sym is.1) ∙ in_open)
    ];
  }

  pub open_commit : (e : Entry) → filter (λ (b : Admission). not (b.tx == e.tx)) (open_transactions admissions entries aborted) ≡ open_transactions admissions (entries ++ e ∷ []) aborted
  open_commit e = filter-filter (λ (b : Admission). not (b.tx == e.tx)) (λ (b : Admission). not (is_committed b.tx entries) && not (is_in b.tx aborted)) (λ (b : Admission). not (is_committed b.tx (entries ++ e ∷ [])) && not (is_in b.tx aborted))
      (λ b. ap (λ c. not c && not (is_in b.tx aborted)) (any_push (λ (f : Entry). b.tx == f.tx) entries e) ∙ turned (is_committed b.tx entries) (b.tx == e.tx) (not (is_in b.tx aborted))) admissions
    where
      turned : (c d n : Bool) → (not (c || d) && n) ≡ (not d && (not c && n))
      turned true true n = refl
      turned true false n = refl
      turned false true n = refl
      turned false false n = refl

  module _ (e : Entry) (k : ℕ) (a : Admission) (at_a : slice_get (open_transactions admissions entries aborted) k ≡ Some a) (named : a.tx ≡ e.tx) (in_group : a.group ≡ e.group) (of_plan : map shape_of e.ops ≡ a.plan) where
    not_yet : is_committed e.tx entries ≡ false
    not_yet = subst (λ t. is_committed t entries ≡ false) named (open_is k a at_a).1

    pub members_commit : AreMembers l admissions (entries ++ e ∷ []) aborted
    members_commit = record {
      numbered = m.numbered;
      known = m.known;
      allowed = m.allowed;
      committed = λ i f at. elim (push-cases entries e f i at) as (λ _. (b : Admission) × (slice_get admissions f.tx ≡ Some b) × (b.group ≡ f.group) × (map shape_of f.ops ≡ b.plan)) [
        | inl old ↦ m.committed i f old
        | inr is ↦ subst (λ (g : Entry). (b : Admission) × (slice_get admissions g.tx ≡ Some b) × (b.group ≡ g.group) × (map shape_of g.ops ≡ b.plan)) is.1
            (a, subst (λ t. slice_get admissions t ≡ Some a) named (open_is k a at_a).0, in_group, of_plan)
      ];
      once = λ i j f g below at_i at_j same. elim (push-cases entries e g j at_j) as (λ _. ⊥) [
        | inl old_j ↦ elim (push-cases entries e f i at_i) as (λ _. ⊥) [
          | inl old_i ↦ m.once i j f g below old_i old_j same
          | inr is ↦ absurd (let within : j < length entries = slice_get_within entries j g old_j in let last : i ≡ length entries = is.0 in omega arith)
        ]
        | inr is ↦ elim (push-cases entries e f i at_i) as (λ _. ⊥) [
          | inl old_i ↦ false≢true (sym (none_any (λ (h : Entry). e.tx == h.tx) entries i f not_yet old_i) ∙ eq-eqb e.tx f.tx (ap (λ (h : Entry). h.tx) is.1 ∙ sym same))
          | inr too ↦ absurd (let last : i ≡ length entries = too.0 in let as_well : j ≡ length entries = is.0 in omega arith)
        ]
      ];
      never_committed = λ i t at. let n = m.never_committed i t at in (
        n.0,
        any_push (λ (f : Entry). t == f.tx) entries e ∙ or_from (is_committed t entries) (t == e.tx) n.1 (ne_eqb t e.tx (λ same. false≢true
            (sym (subst (λ u. is_in u aborted ≡ false) (named ∙ sym same) (open_is k a at_a).2) ∙ any_at (λ y. t == y) aborted i t at (eq-eqb t t refl)))),
      );
      holding = λ i b at. let found = at_filter (λ (c : Admission). not (c.tx == e.tx)) (open_transactions admissions entries aborted) i b (subst (λ ts. slice_get ts i ≡ Some b) (sym (open_commit e)) at) in
          m.holding found.0 b found.1;
    }

  -- the others stay open where one is given up
  pub open_abort : (tx : ℕ) → filter (λ (b : Admission). not (b.tx == tx)) (open_transactions admissions entries aborted) ≡ open_transactions admissions entries (aborted ++ tx ∷ [])
  open_abort tx = filter-filter (λ (b : Admission). not (b.tx == tx)) (λ (b : Admission). not (is_committed b.tx entries) && not (is_in b.tx aborted)) (λ (b : Admission). not (is_committed b.tx entries) && not (is_in b.tx (aborted ++ tx ∷ [])))
      (λ b. ap (λ c. not (is_committed b.tx entries) && not c) (any_push (λ y. b.tx == y) aborted tx) ∙ turned (is_committed b.tx entries) (is_in b.tx aborted) (b.tx == tx)) admissions
    where
      turned : (c i d : Bool) → (not c && not (i || d)) ≡ (not d && (not c && not i))
      turned true i true = refl
      turned true i false = refl
      turned false true true = refl
      turned false true false = refl
      turned false false true = refl
      turned false false false = refl

  pub members_abort : (tx k : ℕ) (a : Admission) → slice_get (open_transactions admissions entries aborted) k ≡ Some a → a.tx ≡ tx → AreMembers l admissions entries (aborted ++ tx ∷ [])
  members_abort tx k a at_a named = record {
    numbered = m.numbered;
    known = m.known;
    allowed = m.allowed;
    committed = m.committed;
    once = m.once;
    never_committed = λ i t at. elim (push-cases aborted tx t i at) as (λ _. (t < length admissions) × (is_committed t entries ≡ false)) [
      | inl old ↦ m.never_committed i t old
      | inr is ↦ let o = open_is k a at_a in subst (λ u. (u < length admissions) × (is_committed u entries ≡ false)) (named ∙ is.1) (slice_get_within admissions a.tx a o.0, o.1)
    ];
    holding = λ i b at. let found = at_filter (λ (c : Admission). not (c.tx == tx)) (open_transactions admissions entries aborted) i b (subst (λ ts. slice_get ts i ≡ Some b) (sym (open_abort tx)) at) in
        m.holding found.0 b found.1;
  }

  -- where the line moves on, and each group that an open transaction has may still have it
  pub members_line : (n : Line) → l.open_group ≤ n.open_group → ((i : ℕ) (a : Admission) → slice_get (open_transactions admissions entries aborted) i ≡ Some a → MayHold l a.group → MayHold n a.group)
      → AreMembers n admissions entries aborted
  members_line n higher may = record {
    numbered = m.numbered;
    known = λ i a at. let below : a.group ≤ l.open_group = m.known i a at in omega arith;
    allowed = m.allowed;
    committed = m.committed;
    once = m.once;
    never_committed = m.never_committed;
    holding = λ i a at. may i a at (m.holding i a at);
  }

-- one more is admitted
pub begin_keeps : (s t : Shown) (p : Past) (a : Admission) → AreGroupsExact s p → a.tx ≡ s.next_tx → a.group ≡ s.line.open_group → is_plan_allowed a.plan ≡ true → log_record_size a.plan ≤ max_log_record
    → AreGroupsExact (record t { line = s.line; transactions = s.transactions ++ a ∷ []; next_tx = s.next_tx + 1 }) (record p { admissions = p.admissions ++ a ∷ [] })
begin_keeps s t p a x named in_open allowed small = record {
  line = x.line;
  members = members_begin s.line p.admissions p.entries p.aborted x.members a (named ∙ x.next) in_open allowed small;
  transactions = ap (λ ts. ts ++ a ∷ []) x.transactions ∙ sym (open_push s.line p.admissions p.entries p.aborted x.members a (named ∙ x.next));
  next = ap (λ n. n + 1) x.next ∙ sym (length_push p.admissions a);
}

-- one is committed
pub commit_keeps : (s t : Shown) (p : Past) (e : Entry) (k : ℕ) (a : Admission) → AreGroupsExact s p → slice_get s.transactions k ≡ Some a → a.tx ≡ e.tx → a.group ≡ e.group → map shape_of e.ops ≡ a.plan
    → AreGroupsExact (record t { line = s.line; transactions = filter (λ (b : Admission). not (b.tx == e.tx)) s.transactions; next_tx = s.next_tx }) (record p { entries = p.entries ++ e ∷ [] })
commit_keeps s t p e k a x at named in_group of_plan = record {
  line = x.line;
  members = members_commit s.line p.admissions p.entries p.aborted x.members e k a (subst (λ ts. slice_get ts k ≡ Some a) x.transactions at) named in_group of_plan;
  transactions = ap (λ ts. filter (λ (b : Admission). not (b.tx == e.tx)) ts) x.transactions ∙ open_commit s.line p.admissions p.entries p.aborted x.members e;
  next = x.next;
}

-- one is given up
pub abort_keeps : (s t : Shown) (p : Past) (tx k : ℕ) (a : Admission) → AreGroupsExact s p → slice_get s.transactions k ≡ Some a → a.tx ≡ tx
    → AreGroupsExact (record t { line = s.line; transactions = filter (λ (b : Admission). not (b.tx == tx)) s.transactions; next_tx = s.next_tx }) (record p { aborted = p.aborted ++ tx ∷ [] })
abort_keeps s t p tx k a x at named = record {
  line = x.line;
  members = members_abort s.line p.admissions p.entries p.aborted x.members tx k a (subst (λ ts. slice_get ts k ≡ Some a) x.transactions at) named;
  transactions = ap (λ ts. filter (λ (b : Admission). not (b.tx == tx)) ts) x.transactions ∙ open_abort s.line p.admissions p.entries p.aborted x.members tx;
  next = x.next;
}

-- the open group is closed
pub line_close : (l : Line) → IsLine l → l.middle ≡ None → l.open_group < last_number → IsLine (line_after_close l)
line_close l x none below = record {
  first = x.first;
  syncing = x.syncing;
  middle = subst (λ o. l.open_group ≡ before_open o l + 1) none x.open_group;
  open_group = refl;
  last = omega arith;
}

pub close_keeps : (s : Shown) (p : Past) → AreGroupsExact s p → s.line.middle ≡ None → s.line.open_group < last_number → AreGroupsExact (record s { line = line_after_close s.line }) p
close_keeps s p x none below = record {
  line = line_close s.line x.line none below;
  members = members_line s.line p.admissions p.entries p.aborted x.members (line_after_close s.line) (omega arith) (λ i a at may. still a may);
  transactions = x.transactions;
  next = x.next;
}
  where
    still : (a : Admission) → MayHold s.line a.group → MayHold (line_after_close s.line) a.group
    still a (inl is) = inr (is, refl)
    still a (inr in_middle) = absurd (subst (λ o. IsSomeAnd o (λ m. (a.group ≡ m.group) × (m.quiesced ≡ false))) none in_middle)

-- the middle is as the words on it say
pub quiescing_is : (l : Line) (g : ℕ) → quiescing_group l ≡ Some g → l.middle ≡ Some (record { group = g; quiesced = false })
quiescing_is l g h = go l.middle h
  where
    by : (m : Middle) (b : Bool) → m.quiesced ≡ b → cond b None (Some m.group) ≡ Some g → Some m ≡ Some (record { group = g; quiesced = false })
    by m true is h = absurd (let no_way : None ≡ Some g = h in cc)
    by m false is h = let same : m.group ≡ g = Some-injective h in λ k. Some (record { group = same k; quiesced = is k })

    go : (o : Option Middle) → elim o as (λ _. Option ℕ) [ None ↦ None | Some m ↦ cond m.quiesced None (Some m.group) ] ≡ Some g → o ≡ Some (record { group = g; quiesced = false })
    go None h = absurd (let no_way : None ≡ Some g = h in cc)
    go (Some m) h = by m m.quiesced refl h

pub quiesced_is : (l : Line) (g : ℕ) → quiesced_group l ≡ Some g → l.middle ≡ Some (record { group = g; quiesced = true })
quiesced_is l g h = go l.middle h
  where
    by : (m : Middle) (b : Bool) → m.quiesced ≡ b → cond b (Some m.group) None ≡ Some g → Some m ≡ Some (record { group = g; quiesced = true })
    by m false is h = absurd (let no_way : None ≡ Some g = h in cc)
    by m true is h = let same : m.group ≡ g = Some-injective h in λ k. Some (record { group = same k; quiesced = is k })

    go : (o : Option Middle) → elim o as (λ _. Option ℕ) [ None ↦ None | Some m ↦ cond m.quiesced (Some m.group) None ] ≡ Some g → o ≡ Some (record { group = g; quiesced = true })
    go None h = absurd (let no_way : None ≡ Some g = h in cc)
    go (Some m) h = by m m.quiesced refl h

-- the closed group has no open transaction left
no_hold : (g : ℕ) (ts : List Admission) → (hold_count g ts == 0) ≡ true → (i : ℕ) (a : Admission) → slice_get ts i ≡ Some a → a.group ≡ g → ⊥
no_hold g [] none i a at is = none_at i a at
no_hold g (b ∷ bs) none i a at is = go (b.group == g) refl (λ j h at_j. no_hold g bs h j a at_j is) i none at
  where
    counted : (n : ℕ) → (suc n == 0) ≡ true → ⊥
    counted n h = absurd (let no_way : suc n ≡ 0 = eqb-true (suc n) 0 h in omega arith)

    go : (c : Bool) → (b.group == g) ≡ c → ((j : ℕ) → (hold_count g bs == 0) ≡ true → slice_get bs j ≡ Some a → ⊥) → (j : ℕ) → (length (cond c (b ∷ filter (λ (x : Admission). x.group == g) bs) (filter (λ (x : Admission). x.group == g) bs)) == 0) ≡ true → slice_get (b ∷ bs) j ≡ Some a → ⊥
    go true eq rest j h at_j = counted (length (filter (λ (x : Admission). x.group == g) bs)) h
    go false eq rest zero h at_j = false≢true (sym eq ∙ eq-eqb b.group g (ap (λ (x : Admission). x.group) (Some-injective at_j) ∙ is))
    go false eq rest (suc j) h at_j = rest j h at_j

pub line_quiesce : (l : Line) (g : ℕ) → IsLine l → l.middle ≡ Some (record { group = g; quiesced = false }) → IsLine (line_after_quiesce g l)
line_quiesce l g x is = record {
  first = x.first;
  syncing = x.syncing;
  middle = subst (λ o. IfSome o (λ (m : Middle). m.group ≡ before_middle l + 1)) is x.middle;
  open_group = subst (λ o. l.open_group ≡ before_open o l + 1) is x.open_group;
  last = x.last;
}

pub quiesce_keeps : (s : Shown) (p : Past) (g : ℕ) → AreGroupsExact s p → s.line.middle ≡ Some (record { group = g; quiesced = false }) → (hold_count g s.transactions == 0) ≡ true
    → AreGroupsExact (record s { line = line_after_quiesce g s.line }) p
quiesce_keeps s p g x is none = record {
  line = line_quiesce s.line g x.line is;
  members = members_line s.line p.admissions p.entries p.aborted x.members (line_after_quiesce g s.line) (omega arith) still;
  transactions = x.transactions;
  next = x.next;
}
  where
    still : (i : ℕ) (a : Admission) → slice_get (open_transactions p.admissions p.entries p.aborted) i ≡ Some a → MayHold s.line a.group → MayHold (line_after_quiesce g s.line) a.group
    still i a at (inl is_open) = inl is_open
    still i a at (inr in_middle) = absurd (no_hold g s.transactions none i a (subst (λ ts. slice_get ts i ≡ Some a) (sym x.transactions) at)
        (subst (λ o. IsSomeAnd o (λ m. (a.group ≡ m.group) × (m.quiesced ≡ false))) is in_middle).0)

-- the quiesced group becomes the syncing one
pub line_start : (l : Line) (g : ℕ) → IsLine l → l.middle ≡ Some (record { group = g; quiesced = true }) → l.syncing ≡ None → IsLine (record l { syncing = Some g; middle = None })
line_start l g x is idle = record {
  first = x.first;
  syncing = subst (λ o. IfSome o (λ (m : Middle). m.group ≡ before_middle l + 1)) is x.middle ∙ ap (λ o. unwrap_or o l.synced + 1) idle;
  middle = tt;
  open_group = subst (λ o. l.open_group ≡ before_open o l + 1) is x.open_group;
  last = x.last;
}

pub start_keeps : (s t : Shown) (p : Past) (g : ℕ) → AreGroupsExact s p → s.line.middle ≡ Some (record { group = g; quiesced = true }) → s.line.syncing ≡ None
    → AreGroupsExact (record t { line = record s.line { syncing = Some g; middle = None }; transactions = s.transactions; next_tx = s.next_tx }) p
start_keeps s t p g x is idle = record {
  line = line_start s.line g x.line is idle;
  members = members_line s.line p.admissions p.entries p.aborted x.members (record s.line { syncing = Some g; middle = None }) (omega arith) (λ i a at may. still a may);
  transactions = x.transactions;
  next = x.next;
}
  where
    still : (a : Admission) → MayHold s.line a.group → MayHold (record s.line { syncing = Some g; middle = None }) a.group
    still a (inl is_open) = inl is_open
    still a (inr in_middle) = absurd (let no_way : true ≡ false = (subst (λ o. IsSomeAnd o (λ m. (a.group ≡ m.group) × (m.quiesced ≡ false))) is in_middle).1 in cc)

-- the syncing group is synced
pub line_sync : (l : Line) (g : ℕ) → IsLine l → l.syncing ≡ Some g → IsLine (record l { synced = g; syncing = None })
line_sync l g x is = record {
  first = let next : g ≡ l.synced + 1 = subst (λ o. IfSome o (λ n. n ≡ l.synced + 1)) is x.syncing in let low = x.first in omega arith;
  syncing = tt;
  middle = subst (λ o. IfSome l.middle (λ (m : Middle). m.group ≡ unwrap_or o l.synced + 1)) is x.middle;
  open_group = same_open l.middle (subst (λ o. l.open_group ≡ before_open l.middle (record l { syncing = o }) + 1) is x.open_group);
  last = x.last;
}
  where
    same_open : (o : Option Middle) → l.open_group ≡ before_open o (record l { syncing = Some g }) + 1 → l.open_group ≡ before_open o (record l { synced = g; syncing = None }) + 1
    same_open None h = h
    same_open (Some m) h = h

pub sync_keeps : (s t : Shown) (p q : Past) (g : ℕ) → AreGroupsExact s p → s.line.syncing ≡ Some g
    → AreGroupsExact (record t { line = record s.line { synced = g; syncing = None }; transactions = s.transactions; next_tx = s.next_tx }) (record q { admissions = p.admissions; entries = p.entries; aborted = p.aborted })
sync_keeps s t p q g x is = record {
  line = line_sync s.line g x.line is;
  members = members_line s.line p.admissions p.entries p.aborted x.members (record s.line { synced = g; syncing = None }) (omega arith) (λ i a at may. may);
  transactions = x.transactions;
  next = x.next;
}

-- a group that may have an open transaction is above the synced one, and no higher than the open one
pub held_above : (l : Line) (g : ℕ) → IsLine l → MayHold l g → (l.synced < g) × (g ≤ l.open_group)
held_above l g x may = go l.middle l.syncing x.middle x.open_group x.syncing may
  where
    go : (o : Option Middle) (u : Option ℕ) → IfSome o (λ (m : Middle). m.group ≡ unwrap_or u l.synced + 1) → l.open_group ≡ before_open o (record l { syncing = u }) + 1
        → IfSome u (λ n. n ≡ l.synced + 1) → (g ≡ l.open_group) ⊎ IsSomeAnd o (λ (m : Middle). (g ≡ m.group) × (m.quiesced ≡ false)) → (l.synced < g) × (g ≤ l.open_group)
    go None None mid last syn (inl is) = (omega arith, omega arith)
    go None (Some n) mid last syn (inl is) = (omega arith, omega arith)
    go (Some m) None mid last syn (inl is) = (omega arith, omega arith)
    go (Some m) (Some n) mid last syn (inl is) = (omega arith, omega arith)
    go None u mid last syn (inr nothing) = absurd nothing
    go (Some m) None mid last syn (inr is) = let same : g ≡ m.group = is.0 in (omega arith, omega arith)
    go (Some m) (Some n) mid last syn (inr is) = let same : g ≡ m.group = is.0 in (omega arith, omega arith)

-- and above the syncing one
pub held_above_sync : (l : Line) (g group : ℕ) → IsLine l → MayHold l g → l.syncing ≡ Some group → group < g
held_above_sync l g group x may syncing = go l.middle
    (subst (λ (u : Option ℕ). IfSome l.middle (λ (m : Middle). m.group ≡ unwrap_or u l.synced + 1)) syncing x.middle)
    (subst (λ (u : Option ℕ). l.open_group ≡ before_open l.middle (record l { syncing = u }) + 1) syncing x.open_group) may
  where
    go : (o : Option Middle) → IfSome o (λ (m : Middle). m.group ≡ group + 1) → l.open_group ≡ before_open o (record l { syncing = Some group }) + 1
        → (g ≡ l.open_group) ⊎ IsSomeAnd o (λ (m : Middle). (g ≡ m.group) × (m.quiesced ≡ false)) → group < g
    go None mid last (inl is) = omega arith
    go (Some m) mid last (inl is) = omega arith
    go None mid last (inr nothing) = absurd nothing
    go (Some m) mid last (inr is) = let same : g ≡ m.group = is.0 in omega arith
