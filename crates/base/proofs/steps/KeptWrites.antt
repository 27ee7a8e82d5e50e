-- Each write of a log block, answered or refused, keeps what is shown of the log exact.
use Rattle.std.proofs.Common.{◌≡◌, ℕ, suc, ◌+◌, ◌-◌, ◌<◌, ◌≤◌, Bool, true, false, not, ◌&&◌, ◌||◌, List, [], ◌∷◌, ◌++◌, length, map, refl, ap, sym, subst, ◌∙◌, arith, inl, inr}
use Rattle.std.specs.Prelude.{Option, Some, None, IfSome, slice_get, filter, nat_lt, nat_le, ◌==◌, option_map, All}
use Rattle.std.specs.List.{enumerate_from, list_any}
use Rattle.std.proofs.lemmas.Bool.{and_parts, and_left, eqb-true, ne_eqb, false≢true}
use Rattle.std.proofs.lemmas.List.{length_push}
use Rattle.std.proofs.lemmas.List.Elements.{filter-append}
use Rattle.std.proofs.lemmas.Option.{slice_get-map, slice_get_within}
use Rattle.std.proofs.Math.Bool.{or-false}
use Rattle.base.specs.history.History.{Entry}
use Rattle.base.specs.formats.Records.{Record}
use Rattle.base.specs.history.Past.{Past}
use Rattle.base.specs.steps.Logs.{Log, KeptBlock, Begun, Committed, Taken, IsTaken, block_taken, committed_of, record_of_entry, has_record, begins_record, is_same, is_begun_in, is_flushed_in, reaches_above, ends_above, pending_records, log_after_write}
use Rattle.base.specs.steps.Shown.{Shown, SyncPlan}
use Rattle.base.specs.steps.Exact.{IsBegunRecord, IsLogExact, IsSyncExact}
use Rattle.base.proofs.common.Sieves.{filter-filter, filter_all, filter_nothing}
use Rattle.base.proofs.history.LogOrder.{order-write}
use Rattle.base.proofs.steps.BegunLogs.{writes_keep_balance, writes_keep_balance_from, same_itself}
use Rattle.base.proofs.common.KeptLists.{at_front, at_filter, pair_filter, any_at, any_found, any_none, any_push, filter_same, Some-injective, push-cases, All-each, enumerated_at}

-- a record of the entries at a place is the one of the entry there
pub recorded_at : (entries : List Entry) (k : ℕ) (r : Record) → slice_get (map record_of_entry (enumerate_from 0 entries)) k ≡ Some r
    → (e : Entry) × (slice_get entries k ≡ Some e) × (r.ordinal ≡ k) × (e.group ≡ r.group) × (e.ops ≡ r.ops)
recorded_at entries k r at = go (slice_get (enumerate_from 0 entries) k) refl (sym (slice_get-map record_of_entry (enumerate_from 0 entries) k) ∙ at)
  where
    go : (o : Option (ℕ × Entry)) → slice_get (enumerate_from 0 entries) k ≡ o → option_map record_of_entry o ≡ Some r → (e : Entry) × (slice_get entries k ≡ Some e) × (r.ordinal ≡ k) × (e.group ≡ r.group) × (e.ops ≡ r.ops)
    go None is h = absurd (let no_way : None ≡ Some r = h in cc)
    go (Some p) is h =
        let place = enumerated_at 0 entries k p is in
        let same : record_of_entry p ≡ r = Some-injective h in
        (p.1, place.1, (let first : p.0 ≡ 0 + k = place.0 in ap (λ (x : Record). x.ordinal) (sym same) ∙ omega arith), ap (λ (x : Record). x.group) same, ap (λ (x : Record). x.ops) same)

module _ (s t : Shown) (p q : Past) (x : IsLogExact s p) (got : Taken) (address : ℕ) (takes : IsTaken s.log.begun s.log.pending got) where
  abbrev block : KeptBlock
  block = block_taken s.log.next got

  abbrev written : Log
  written = log_after_write got address s.log

  abbrev taken : List Record
  taken = got.begins

  abbrev rest : List Record
  rest = got.pending

  -- whatever it is, it is the front of what is pending that begins
  split : s.log.pending ≡ taken ++ rest
  split = go s.log.begun takes
    where
      go : (o : Option Begun) → IsTaken o s.log.pending got → s.log.pending ≡ taken ++ rest
      go (Some g) (begins, pending, bytes, ends) = sym pending ∙ ap (λ rs. rs ++ rest) (sym begins)
      go None (inl (whole, ends, bytes, done)) = whole.front
      go None (inr (r, front, begins, long, ends, bytes, left)) = front ∙ ap (λ rs. rs ++ rest) (sym begins)

  abbrev is_pending : Record → Bool
  is_pending r = nat_lt s.line.synced r.group && not (is_begun_in s.log (committed_of r))

  abbrev records : List Record
  records = map record_of_entry (enumerate_from 0 p.entries)

  abbrev is_left : Record → Bool
  is_left r = not (begins_record block (committed_of r))

  all_pending : taken ++ rest ≡ filter is_pending records
  all_pending = sym split ∙ x.pending

  -- what is taken is of the entries, and above the synced group
  taken_of_entries : (i : ℕ) (r : Record) → slice_get taken i ≡ Some r → (k : ℕ) × (slice_get records k ≡ Some r) × (is_pending r ≡ true)
  taken_of_entries i r at = at_filter is_pending records i r (subst (λ rs. slice_get rs i ≡ Some r) all_pending (at_front taken rest i r at))

  taken_above : All (λ (r : Record). nat_lt s.line.synced r.group ≡ true) taken
  taken_above = All-each (λ (r : Record). nat_lt s.line.synced r.group ≡ true) taken
      (λ i r at. let found = taken_of_entries i r at in (and_parts (nat_lt s.line.synced r.group) (not (is_begun_in s.log (committed_of r))) found.2).0)

  at_rest : (j : ℕ) (r : Record) → slice_get rest j ≡ Some r → slice_get (taken ++ rest) (length taken + j) ≡ Some r
  at_rest j r at = behind taken
    where
      behind : (front : List Record) → slice_get (front ++ rest) (length front + j) ≡ Some r
      behind [] = let same : 0 + j ≡ j = omega arith in subst (λ k. slice_get rest k ≡ Some r) (sym same) at
      behind (f ∷ front) = let same : suc (length front) + j ≡ suc (length front + j) = omega arith in subst (λ k. slice_get (f ∷ front ++ rest) k ≡ Some r) (sym same) (behind front)

  -- none of the rest is one that is taken
  apart : (i j : ℕ) (r u : Record) → slice_get taken i ≡ Some r → slice_get rest j ≡ Some u → is_same (committed_of u) (committed_of r) ≡ false
  apart i j r u at_i at_j =
      let within : i < length taken = slice_get_within taken i r at_i in
      let places = pair_filter is_pending records i (length taken + j) r u (omega arith)
      (subst (λ rs. slice_get rs i ≡ Some r) all_pending (at_front taken rest i r at_i)) (subst (λ rs. slice_get rs (length taken + j) ≡ Some u) all_pending (at_rest j u at_j)) in
      let low : places.0 < places.1 = places.2 in
      let one : r.ordinal ≡ places.0 = (recorded_at p.entries places.0 r places.3).2 in
      let other : u.ordinal ≡ places.1 = (recorded_at p.entries places.1 u places.4).2 in
      and_left (u.ordinal == r.ordinal) (u.group == r.group) (ne_eqb u.ordinal r.ordinal (λ same. absurd (omega arith)))

  none_left : filter is_left taken ≡ []
  none_left = filter_same is_left (λ r. false) taken (λ i r at. ap not (any_at (is_same (committed_of r)) (map committed_of taken) i (committed_of r)
      (slice_get-map committed_of taken i ∙ ap (λ o. option_map committed_of o) at) (same_itself (committed_of r)))) ∙ filter_nothing taken

  all_left : filter is_left rest ≡ rest
  all_left = filter_all is_left rest (All-each (λ (u : Record). is_left u ≡ true) rest (λ j u at_j. ap not (any_none (is_same (committed_of u)) (map committed_of taken)
      (λ i c at_i. none i c u j at_j (slice_get taken i) refl (sym (slice_get-map committed_of taken i) ∙ at_i)))))
    where
      none : (i : ℕ) (c : Committed) (u : Record) (j : ℕ) → slice_get rest j ≡ Some u → (o : Option Record) → slice_get taken i ≡ o → option_map committed_of o ≡ Some c → is_same (committed_of u) c ≡ false
      none i c u j at_j None is h = absurd (let no_way : None ≡ Some c = h in cc)
      none i c u j at_j (Some r) is h = ap (λ d. is_same (committed_of u) d) (sym (Some-injective h)) ∙ apart i j r u is at_j

  pending_after : rest ≡ pending_records s.line.synced written p.entries
  pending_after =
      sym (filter-append is_left taken rest ∙ (λ k. none_left k ++ all_left k))
      ∙ ap (λ rs. filter is_left rs) all_pending
      ∙ filter-filter is_left is_pending (λ (r : Record). nat_lt s.line.synced r.group && not (is_begun_in written (committed_of r))) same records
    where
      turn : (a b c : Bool) → (a && not (b || c)) ≡ (not c && (a && not b))
      turn true true true = refl
      turn true true false = refl
      turn true false true = refl
      turn true false false = refl
      turn false b true = refl
      turn false b false = refl

      same : (r : Record) → (nat_lt s.line.synced r.group && not (is_begun_in written (committed_of r))) ≡ (is_left r && is_pending r)
      same r = ap (λ b. nat_lt s.line.synced r.group && not b) (any_push (λ b. begins_record b (committed_of r)) s.log.kept block)
          ∙ turn (nat_lt s.line.synced r.group) (is_begun_in s.log (committed_of r)) (begins_record block (committed_of r))

  -- a record that begins in the new block is of an entry
  begun_after : (r : Committed) → begins_record block r ≡ true → (e : Entry) × (slice_get p.entries r.ordinal ≡ Some e) × (e.group ≡ r.group)
  begun_after r has = go (any_found (is_same r) (map committed_of taken) has)
    where
      of_entry : (i : ℕ) (c : Committed) → is_same r c ≡ true → (o : Option Record) → slice_get taken i ≡ o → option_map committed_of o ≡ Some c → (e : Entry) × (slice_get p.entries r.ordinal ≡ Some e) × (e.group ≡ r.group)
      of_entry i c same None is h = absurd (let no_way : None ≡ Some c = h in cc)
      of_entry i c same (Some u) is h =
          let place = taken_of_entries i u is in
          let entry = recorded_at p.entries place.0 u place.1 in
          let both = and_parts (r.ordinal == c.ordinal) (r.group == c.group) same in
          let to_c : committed_of u ≡ c = Some-injective h in
          let ordinal : r.ordinal ≡ place.0 = eqb-true r.ordinal c.ordinal both.0 ∙ sym (ap (λ (d : Committed). d.ordinal) to_c) ∙ entry.2 in
          let group : entry.0.group ≡ r.group = entry.3 ∙ ap (λ (d : Committed). d.group) to_c ∙ sym (eqb-true r.group c.group both.1) in
          (entry.0, subst (λ k. slice_get p.entries k ≡ Some entry.0) (sym ordinal) entry.1, group)

      go : (i : ℕ) × (c : Committed) × (slice_get (map committed_of taken) i ≡ Some c) × (is_same r c ≡ true) → (e : Entry) × (slice_get p.entries r.ordinal ≡ Some e) × (e.group ≡ r.group)
      go (i, c, at, same) = of_entry i c same (slice_get taken i) refl (sym (slice_get-map committed_of taken i) ∙ at)

  -- and so is one that ends in it
  known_after : (r : Committed) → has_record block r ≡ true → (e : Entry) × (slice_get p.entries r.ordinal ≡ Some e) × (e.group ≡ r.group)
  known_after r has = go s.log.begun takes x.begun
    where
      Known : Type 0
      Known = (e : Entry) × (slice_get p.entries r.ordinal ≡ Some e) × (e.group ≡ r.group)

      none : got.ends ≡ [] → Known
      none ends = absurd (false≢true (sym (ap (λ (rs : List Record). list_any (is_same r) (map committed_of rs)) ends) ∙ has))

      go : (o : Option Begun) → IsTaken o s.log.pending got → IfSome o (IsBegunRecord p.entries) → Known
      go (Some g) (begins, pending, bytes, inl (fits, ends, done)) h =
          let one : (is_same r (committed_of g.logged) || false) ≡ true = sym (ap (λ (rs : List Record). list_any (is_same r) (map committed_of rs)) ends) ∙ has in
          let same : is_same r (committed_of g.logged) ≡ true = sym (or-false (is_same r (committed_of g.logged))) ∙ one in
          let both = and_parts (r.ordinal == g.logged.ordinal) (r.group == g.logged.group) same in
          (h.entry, ap (λ k. slice_get p.entries k) (eqb-true r.ordinal g.logged.ordinal both.0) ∙ h.at, h.group_is ∙ sym (eqb-true r.group g.logged.group both.1))
      go (Some g) (begins, pending, bytes, inr (more, ends, left)) h = none ends
      go None (inl (whole, ends, bytes, done)) h = begun_after r (ap (λ (rs : List Record). list_any (is_same r) (map committed_of rs)) (sym ends) ∙ has)
      go None (inr (u, front, begins, long, ends, bytes, left)) h = none ends

  -- what is begun then is of an entry, too
  still_begun : IfSome got.begun (IsBegunRecord p.entries)
  still_begun = go s.log.begun takes x.begun
    where
      go : (o : Option Begun) → IsTaken o s.log.pending got → IfSome o (IsBegunRecord p.entries) → IfSome got.begun (IsBegunRecord p.entries)
      go (Some g) (begins, pending, bytes, inl (fits, ends, done)) h = subst (λ (b : Option Begun). IfSome b (IsBegunRecord p.entries)) (sym done) tt
      go (Some g) (begins, pending, bytes, inr (more, ends, left)) h = subst (λ (b : Option Begun). IfSome b (IsBegunRecord p.entries)) (sym left)
          (record { entry = h.entry; at = h.at; group_is = h.group_is; ops_are = h.ops_are; long = h.long; left = more })
      go None (inl (whole, ends, bytes, done)) h = subst (λ (b : Option Begun). IfSome b (IsBegunRecord p.entries)) (sym done) tt
      go None (inr (u, front, begins, long, ends, bytes, left)) h =
          let place = taken_of_entries 0 u (ap (λ (rs : List Record). slice_get rs 0) begins) in
          let entry = recorded_at p.entries place.0 u place.1 in
          subst (λ (b : Option Begun). IfSome b (IsBegunRecord p.entries)) (sym left)
          (record { entry = entry.0; at = ap (λ k. slice_get p.entries k) entry.2 ∙ entry.1; group_is = entry.3; ops_are = entry.4; long = long; left = long })

  flushed_after : (r : Committed) → is_flushed_in written r ≡ is_flushed_in s.log r
  flushed_after r = any_push (λ (b : KeptBlock). b.flushed && has_record b r) s.log.kept block ∙ or-false (is_flushed_in s.log r)

  -- the front of what is pending is written to a new block
  pub write_log : IsLogExact (record t { log = written; line = record t.line { synced = s.line.synced }; next_ordinal = s.next_ordinal }) (record q { entries = p.entries; acknowledged = p.acknowledged })
  write_log = record {
    next = x.next;
    allowed = x.allowed;
    unsynced = x.unsynced;
    pending = pending_after;
    in_order = order-write s.line.synced s.log p.entries got address split taken_above x.in_order;
    known = λ i b r at has. elim (push-cases s.log.kept block b i at) as (λ _. (e : Entry) × (slice_get p.entries r.ordinal ≡ Some e) × (e.group ≡ r.group)) [
      | inl old ↦ x.known i b r old has
      | inr new ↦ known_after r (ap (λ (c : KeptBlock). has_record c r) new.1 ∙ has)
    ];
    known_begun = λ i b r at begins. elim (push-cases s.log.kept block b i at) as (λ _. (e : Entry) × (slice_get p.entries r.ordinal ≡ Some e) × (e.group ≡ r.group)) [
      | inl old ↦ x.known_begun i b r old begins
      | inr new ↦ begun_after r (ap (λ (c : KeptBlock). begins_record c r) new.1 ∙ begins)
    ];
    balanced = writes_keep_balance s.log got address takes x.balanced;
    begun = still_begun;
    numbered = λ i b at. elim (push-cases s.log.kept block b i at) as (λ _. b.number + (length (s.log.kept ++ block ∷ []) - i) ≡ s.log.next.number + 1) [
      | inl old ↦
          let number : b.number + (length s.log.kept - i) ≡ s.log.next.number = x.numbered i b old in
          let within : i < length s.log.kept = slice_get_within s.log.kept i b old in
          let longer : length (s.log.kept ++ block ∷ []) ≡ length s.log.kept + 1 = length_push s.log.kept block in
          omega arith
      | inr new ↦
          let number : s.log.next.number ≡ b.number = ap (λ (c : KeptBlock). c.number) new.1 in
          let place : i ≡ length s.log.kept = new.0 in
          let longer : length (s.log.kept ++ block ∷ []) ≡ length s.log.kept + 1 = length_push s.log.kept block in
          omega arith
    ];
    acknowledged = λ o e at. x.acknowledged o e at ∙ ap (λ b. nat_le e.group s.line.synced || b) (sym (flushed_after (record { ordinal = o; group = e.group })));
    no_others = x.no_others;
  }

  pub write_sync : IsSyncExact s → IsSyncExact (record t { log = written; sync = s.sync; line = record t.line { syncing = s.line.syncing } })
  write_sync y = record {
    running = y.running;
    steps = y.steps;
    not_past_next = further s.sync y.not_past_next;
    header = λ i group b plan syncing is at below. elim (push-cases s.log.kept block b i at) as (λ _. (reaches_above group b ≡ false) × (ends_above group b ≡ false)) [
      | inl old ↦ y.header i group b plan syncing is old below
      | inr new ↦
          let low : plan.header.number ≤ s.log.next.number = subst (λ o. IfSome o (λ (z : SyncPlan). z.header.number ≤ s.log.next.number)) is y.not_past_next in
          let number : s.log.next.number ≡ b.number = ap (λ (c : KeptBlock). c.number) new.1 in
          absurd (omega arith)
    ];
    balanced = λ plan is.
        let low : plan.header.number ≤ s.log.next.number = subst (λ o. IfSome o (λ (z : SyncPlan). z.header.number ≤ s.log.next.number)) is y.not_past_next in
        writes_keep_balance_from plan.header.number s.log got address takes low (y.balanced plan is);
  }
    where
      further : (o : Option SyncPlan) → IfSome o (λ (z : SyncPlan). z.header.number ≤ s.log.next.number) → IfSome o (λ (z : SyncPlan). z.header.number ≤ s.log.next.number + 1)
      further None h = tt
      further (Some z) h = omega arith
