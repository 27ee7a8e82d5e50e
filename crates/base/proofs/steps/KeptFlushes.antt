-- Each flush of the log that is answered keeps what is shown of the log exact: what awaited it is acknowledged, and no
-- other.
use Rattle.std.proofs.Common.{◌≡◌, ℕ, zero, suc, ◌+◌, ◌-◌, ◌<◌, Bool, true, false, not, ◌&&◌, ◌||◌, List, [], ◌∷◌, ◌++◌, length, map, refl, ap, sym, subst, ◌∙◌, arith, inl, inr}
use Rattle.std.specs.Prelude.{Option, Some, None, slice_get, filter, cond, nat_lt, nat_le, ◌==◌, option_map}
use Rattle.std.specs.List.{list_any, flat_map, enumerate_from}
use Rattle.std.proofs.lemmas.Bool.{and_from, or_cases, or_right, eqb-true, eq-eqb, false≢true}
use Rattle.std.proofs.lemmas.List.{length-map}
use Rattle.std.proofs.lemmas.List.Folds.{list_any-append}
use Rattle.std.proofs.lemmas.Option.{slice_get-map, slice_get_within}
use Rattle.std.proofs.Math.Bool.{or_assoc}
use Rattle.base.specs.history.History.{Entry}
use Rattle.base.specs.steps.Locks.{is_in}
use Rattle.base.specs.formats.Records.{Record}
use Rattle.base.specs.history.Past.{Past}
use Rattle.base.specs.steps.Logs.{Log, KeptBlock, Committed, committed_of, has_record, is_same, is_begun_in, is_flushed_in, begins_record, reaches_above, ends_above, begun_committed, AreBalanced, log_after_flush}
use Rattle.base.specs.steps.Shown.{Shown}
use Rattle.base.specs.steps.Steps.{ordinals_awaiting}
use Rattle.base.specs.steps.Exact.{IsLogExact, IsSyncExact}
use Rattle.base.proofs.history.LogOrder.{order-flush}
use Rattle.base.proofs.common.KeptLists.{any_at, any_map, filter_same, Some-injective}
use Rattle.base.proofs.common.Choices.{or-swap}

abbrev flushed_block : KeptBlock → KeptBlock
flushed_block b = record b { flushed = true }

-- a block of the log after it is one of before
block_before : (bs : List KeptBlock) (i : ℕ) (b : KeptBlock) → slice_get (map flushed_block bs) i ≡ Some b → (c : KeptBlock) × (slice_get bs i ≡ Some c) × (flushed_block c ≡ b)
block_before bs i b at = go (slice_get bs i) refl (sym (slice_get-map flushed_block bs i) ∙ at)
  where
    go : (o : Option KeptBlock) → slice_get bs i ≡ o → option_map flushed_block o ≡ Some b → (c : KeptBlock) × (slice_get bs i ≡ Some c) × (flushed_block c ≡ b)
    go None is h = absurd (let no_way : None ≡ Some b = h in cc)
    go (Some c) is h = (c, is, Some-injective h)

-- among the ordinals of what a block holds is that of a record of this group exactly if the block has the record, where
-- it holds no other of that ordinal
ordinal_held : (o g : ℕ) (cs : List Committed) → ((i : ℕ) (c : Committed) → slice_get cs i ≡ Some c → (o == c.ordinal) ≡ true → (g == c.group) ≡ true)
    → is_in o (map (λ (c : Committed). c.ordinal) cs) ≡ list_any (is_same (record { ordinal = o; group = g })) cs
ordinal_held o g [] only = refl
ordinal_held o g (c ∷ cs) only = (λ k. go (o == c.ordinal) refl k || ordinal_held o g cs (λ i d at. only (suc i) d at) k)
  where
    go : (b : Bool) → (o == c.ordinal) ≡ b → (o == c.ordinal) ≡ ((o == c.ordinal) && (g == c.group))
    go true is = is ∙ sym (and_from (o == c.ordinal) (g == c.group) is (only zero c refl is))
    go false is = is ∙ sym (ap (λ b. b && (g == c.group)) is)

abbrev awaiting_in : List KeptBlock → List ℕ
awaiting_in bs = flat_map (λ (b : KeptBlock). map (λ (c : Committed). c.ordinal) b.ends) (filter (λ (b : KeptBlock). not b.flushed) bs)

-- flushed before or awaiting the flush is written
settled : (o g : ℕ) (bs : List KeptBlock)
    → ((i : ℕ) (b : KeptBlock) → slice_get bs i ≡ Some b → (j : ℕ) (c : Committed) → slice_get b.ends j ≡ Some c → (o == c.ordinal) ≡ true → (g == c.group) ≡ true)
    → (list_any (λ (b : KeptBlock). b.flushed && has_record b (record { ordinal = o; group = g })) bs || is_in o (awaiting_in bs)) ≡ list_any (λ b. has_record b (record { ordinal = o; group = g })) bs
settled o g [] only = refl
settled o g (b ∷ bs) only = go b.flushed (settled o g bs (λ i c at. only (suc i) c at)) (ordinal_held o g b.ends (only zero b refl))
  where
    go : (f : Bool) → (list_any (λ (c : KeptBlock). c.flushed && has_record c (record { ordinal = o; group = g })) bs || is_in o (awaiting_in bs)) ≡ list_any (λ c. has_record c (record { ordinal = o; group = g })) bs
        → is_in o (map (λ (c : Committed). c.ordinal) b.ends) ≡ has_record b (record { ordinal = o; group = g })
        → (((f && has_record b (record { ordinal = o; group = g })) || list_any (λ (c : KeptBlock). c.flushed && has_record c (record { ordinal = o; group = g })) bs)
        || is_in o (flat_map (λ (c : KeptBlock). map (λ (d : Committed). d.ordinal) c.ends) (cond (not f) (b ∷ filter (λ (c : KeptBlock). not c.flushed) bs) (filter (λ (c : KeptBlock). not c.flushed) bs))))
        ≡ (has_record b (record { ordinal = o; group = g }) || list_any (λ c. has_record c (record { ordinal = o; group = g })) bs)
    go true rest here = or_assoc (has_record b (record { ordinal = o; group = g })) _ (is_in o (awaiting_in bs)) ∙ ap (λ x. has_record b (record { ordinal = o; group = g }) || x) rest
    go false rest here =
        let before : Bool = list_any (λ (c : KeptBlock). c.flushed && has_record c (record { ordinal = o; group = g })) bs in
        ap (λ x. before || x) (list_any-append (λ y. o == y) (map (λ (c : Committed). c.ordinal) b.ends) (awaiting_in bs))
        ∙ or-swap before (is_in o (map (λ (c : Committed). c.ordinal) b.ends)) (is_in o (awaiting_in bs))
        ∙ (λ k. here k || rest k)

-- an ordinal that awaits the flush is that of a record of a kept block
awaited : (o : ℕ) (bs : List KeptBlock) → is_in o (awaiting_in bs) ≡ true → (i : ℕ) × (b : KeptBlock) × (slice_get bs i ≡ Some b) × (c : Committed) × (has_record b c ≡ true) × (c.ordinal ≡ o)
awaited o [] is = absurd (false≢true is)
awaited o (b ∷ bs) is = go b.flushed is (λ h. awaited o bs h)
  where
    of_list : (cs : List Committed) → is_in o (map (λ (c : Committed). c.ordinal) cs) ≡ true → (c : Committed) × (list_any (is_same c) cs ≡ true) × (c.ordinal ≡ o)
    of_list [] h = absurd (false≢true h)
    of_list (c ∷ cs) h = elim (or_cases (o == c.ordinal) (is_in o (map (λ (d : Committed). d.ordinal) cs)) h) as (λ _. (d : Committed) × (list_any (is_same d) (c ∷ cs) ≡ true) × (d.ordinal ≡ o)) [
      | inl here ↦ (c, rw (eq-eqb c.ordinal c.ordinal refl, eq-eqb c.group c.group refl) refl, sym (eqb-true o c.ordinal here))
      | inr later ↦ let found = of_list cs later in (found.0, or_right (is_same found.0 c) (list_any (is_same found.0) cs) found.1, found.2)
    ]

    go : (f : Bool) → is_in o (flat_map (λ (c : KeptBlock). map (λ (d : Committed). d.ordinal) c.ends) (cond (not f) (b ∷ filter (λ (c : KeptBlock). not c.flushed) bs) (filter (λ (c : KeptBlock). not c.flushed) bs))) ≡ true
        → (is_in o (awaiting_in bs) ≡ true → (i : ℕ) × (c : KeptBlock) × (slice_get bs i ≡ Some c) × (d : Committed) × (has_record c d ≡ true) × (d.ordinal ≡ o))
        → (i : ℕ) × (c : KeptBlock) × (slice_get (b ∷ bs) i ≡ Some c) × (d : Committed) × (has_record c d ≡ true) × (d.ordinal ≡ o)
    go true h rest = let found = rest h in (suc found.0, found.1, found.2, found.3, found.4, found.5)
    go false h rest = elim (or_cases (is_in o (map (λ (c : Committed). c.ordinal) b.ends)) (is_in o (awaiting_in bs)) (sym (list_any-append (λ y. o == y) (map (λ (c : Committed). c.ordinal) b.ends) (awaiting_in bs)) ∙ h))
        as (λ _. (i : ℕ) × (c : KeptBlock) × (slice_get (b ∷ bs) i ≡ Some c) × (d : Committed) × (has_record c d ≡ true) × (d.ordinal ≡ o)) [
          | inl here ↦ let found = of_list b.ends here in (zero, b, refl, found.0, found.1, found.2)
          | inr later ↦ let found = rest later in (suc found.0, found.1, found.2, found.3, found.4, found.5)
        ]

-- as much begins and ends
pub flushed_balanced : (before : Option Committed) (bs : List KeptBlock) (after : Option Committed) → AreBalanced before bs after → AreBalanced before (map flushed_block bs) after
flushed_balanced before [] after is = is
flushed_balanced None (b ∷ bs) after (inl (some, same, rest)) = inl (some, same, flushed_balanced None bs after rest)
flushed_balanced None (b ∷ bs) after (inr (c, begins, ends, rest)) = inr (c, begins, ends, flushed_balanced (Some c) bs after rest)
flushed_balanced (Some c) (b ∷ bs) after (begins, inl (ends, rest)) = (begins, inl (ends, flushed_balanced (Some c) bs after rest))
flushed_balanced (Some c) (b ∷ bs) after (begins, inr (ends, rest)) = (begins, inr (ends, flushed_balanced None bs after rest))

filtered : (low : ℕ) (bs : List KeptBlock) → filter (λ (b : KeptBlock). nat_le low b.number) (map flushed_block bs) ≡ map flushed_block (filter (λ (b : KeptBlock). nat_le low b.number) bs)
filtered low [] = refl
filtered low (b ∷ bs) = go (nat_le low b.number) (filtered low bs)
  where
    go : (t : Bool) → filter (λ (c : KeptBlock). nat_le low c.number) (map flushed_block bs) ≡ map flushed_block (filter (λ (c : KeptBlock). nat_le low c.number) bs)
        → cond t (flushed_block b ∷ filter (λ (c : KeptBlock). nat_le low c.number) (map flushed_block bs)) (filter (λ (c : KeptBlock). nat_le low c.number) (map flushed_block bs))
        ≡ map flushed_block (cond t (b ∷ filter (λ (c : KeptBlock). nat_le low c.number) bs) (filter (λ (c : KeptBlock). nat_le low c.number) bs))
    go true rest = ap (λ cs. flushed_block b ∷ cs) rest
    go false rest = rest

module _ (s t : Shown) (p q : Past) (x : IsLogExact s p) where
  abbrev flushed : Log
  flushed = log_after_flush s.log

  same_begun : (r : Committed) → is_begun_in flushed r ≡ is_begun_in s.log r
  same_begun r = any_map (λ b. begins_record b r) flushed_block s.log.kept

  -- a record of an entry's ordinal is of its group
  same_group : (o : ℕ) (e : Entry) → slice_get p.entries o ≡ Some e → (i : ℕ) (b : KeptBlock) → slice_get s.log.kept i ≡ Some b → (j : ℕ) (c : Committed) → slice_get b.ends j ≡ Some c
      → (o == c.ordinal) ≡ true → (e.group == c.group) ≡ true
  same_group o e at i b at_i j c at_j same =
      let has : has_record b c ≡ true = any_at (is_same c) b.ends j c at_j (rw (eq-eqb c.ordinal c.ordinal refl, eq-eqb c.group c.group refl) refl) in
      let known = x.known i b c at_i has in
      let here : slice_get p.entries o ≡ Some known.0 = ap (λ k. slice_get p.entries k) (eqb-true o c.ordinal same) ∙ known.1 in
      eq-eqb e.group c.group (ap (λ (f : Entry). f.group) (Some-injective (sym at ∙ here)) ∙ known.2)

  pub flush_log : IsLogExact (record t { log = flushed; line = record t.line { synced = s.line.synced }; next_ordinal = s.next_ordinal })
      (record q { entries = p.entries; acknowledged = p.acknowledged ++ ordinals_awaiting s.log })
  flush_log = record {
    next = x.next;
    allowed = x.allowed;
    unsynced = x.unsynced;
    pending = x.pending ∙ filter_same (λ (r : Record). nat_lt s.line.synced r.group && not (is_begun_in s.log (committed_of r))) (λ (r : Record). nat_lt s.line.synced r.group && not (is_begun_in flushed (committed_of r)))
        (map (λ (y : ℕ × Entry). record { group = y.1.group; ordinal = y.0; ops = y.1.ops }) (enumerate_from 0 p.entries)) (λ i r at. ap (λ b. nat_lt s.line.synced r.group && not b) (sym (same_begun (committed_of r))));
    in_order = order-flush s.line.synced s.log p.entries x.in_order;
    known = λ i b r at has. let old = block_before s.log.kept i b at in x.known i old.0 r old.1 (ap (λ (c : KeptBlock). has_record c r) old.2 ∙ has);
    known_begun = λ i b r at begins. let old = block_before s.log.kept i b at in x.known_begun i old.0 r old.1 (ap (λ (c : KeptBlock). begins_record c r) old.2 ∙ begins);
    balanced = flushed_balanced None s.log.kept (begun_committed s.log.begun) x.balanced;
    begun = x.begun;
    numbered = λ i b at.
        let old = block_before s.log.kept i b at in
        let number : old.0.number + (length s.log.kept - i) ≡ s.log.next.number = x.numbered i old.0 old.1 in
        let same : old.0.number ≡ b.number = ap (λ (c : KeptBlock). c.number) old.2 in
        let long : length (map flushed_block s.log.kept) ≡ length s.log.kept = length-map s.log.kept flushed_block in
        ap (λ n. b.number + (n - i)) long ∙ ap (λ n. n + (length s.log.kept - i)) (sym same) ∙ number;
    acknowledged = λ o e at.
        list_any-append (λ y. o == y) p.acknowledged (ordinals_awaiting s.log)
        ∙ ap (λ b. b || is_in o (ordinals_awaiting s.log)) (x.acknowledged o e at)
        ∙ or_assoc (nat_le e.group s.line.synced) (is_flushed_in s.log (record { ordinal = o; group = e.group })) (is_in o (ordinals_awaiting s.log))
        ∙ ap (λ b. nat_le e.group s.line.synced || b) (settled o e.group s.log.kept (same_group o e at)
        ∙ sym (any_map (λ (b : KeptBlock). b.flushed && has_record b (record { ordinal = o; group = e.group })) flushed_block s.log.kept));
    no_others = λ o is. elim (or_cases (is_in o p.acknowledged) (is_in o (ordinals_awaiting s.log)) (sym (list_any-append (λ y. o == y) p.acknowledged (ordinals_awaiting s.log)) ∙ is)) as (λ _. o < length p.entries) [
      | inl old ↦ x.no_others o old
      | inr new ↦
          let found = awaited o s.log.kept new in
          let known = x.known found.0 found.1 found.3 found.2 found.4 in
          let below : found.3.ordinal < length p.entries = slice_get_within p.entries found.3.ordinal known.0 known.1 in
          let same : found.3.ordinal ≡ o = found.5 in
          omega arith
    ];
  }

  pub flush_sync : IsSyncExact s → IsSyncExact (record t { log = flushed; sync = s.sync; line = record t.line { syncing = s.line.syncing } })
  flush_sync y = record {
    running = y.running;
    steps = y.steps;
    not_past_next = y.not_past_next;
    header = λ i group b plan syncing is at below.
        let old = block_before s.log.kept i b at in
        subst (λ (c : KeptBlock). (reaches_above group c ≡ false) × (ends_above group c ≡ false)) old.2
        (y.header i group old.0 plan syncing is old.1 (subst (λ (c : KeptBlock). c.number < plan.header.number) (sym old.2) below));
    balanced = λ plan is. subst (λ (bs : List KeptBlock). AreBalanced None bs (begun_committed s.log.begun)) (sym (filtered plan.header.number s.log.kept))
        (flushed_balanced None (filter (λ (b : KeptBlock). nat_le plan.header.number b.number) s.log.kept) (begun_committed s.log.begun) (y.balanced plan is));
  }
